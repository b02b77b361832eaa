-- The box by itself in lent words: its row, its setting, one event in; the row, one letter and its
-- receivers out.
use Rattle.std.specs.Prelude.{Result, Err}
use Rattle.std.specs.Prelude.{ℕ, ◌+◌, ◌≡◌, Bool, true, false, not, ◌&&◌, ◌||◌, cond, List, [], ◌∷◌}
use Rattle.std.specs.Prelude.{eqb, leb, ltb, length, take, drop}
use Rattle.rules.specs.Sizes.{sizes_form}
use Rattle.rules.specs.Answers.{is_refusal, is_accepted}
use Rattle.rules.specs.Box.{Box, Letter, Event, own, mail}
use Rattle.rules.specs.Own.{OwnOutcome, unmoved, own_step, own_fresh, own_elected, own_holds}
use Rattle.rules.specs.Unheard.{own_unheard}
use Rattle.rules.specs.declared.model.Act.{Act}
use Rattle.rules.specs.declared.model.Answer.{Answer}
use Rattle.rules.specs.declared.model.Refusal.{Refusal}
use Rattle.rules.specs.declared.model.Setting.{Setting}
use Rattle.letter.specs.Place.{letter_at, place_fits, head_words as letter_head}
use Rattle.row.specs.Row.{box_of, row_fits, row_width}

-- the words of a box's row and of a letter's place; what follows them is unused room
abbrev pub row_of : ℕ → List ℕ → List ℕ
row_of J r = take (row_width J) r

abbrev pub place_of : ℕ → List ℕ → List ℕ
place_of J p = take (letter_head + J) p

-- the box that a lent row holds, the letter that a lent place holds
abbrev pub own_box : Setting → List ℕ → Box
own_box s r = box_of s.n (row_of s.j r)

abbrev pub own_letter : Setting → List ℕ → Letter
own_letter s p = letter_at (place_of s.j p)

-- the words can be read: there are enough of them, and they fit
unfoldable pub row_reads : ℕ → List ℕ → Bool
row_reads J r = leb (row_width J) (length r) && row_fits J (row_of J r)

unfoldable pub place_reads : ℕ → List ℕ → Bool
place_reads J p = leb (letter_head + J) (length p) && place_fits J (place_of J p)

-- refusal 12 where the lent place for the letter is too short for any letter of the site
unfoldable pub buffered : Setting → Box → List ℕ → OwnOutcome → OwnOutcome
buffered s x out o =
    cond (is_accepted o.answer && ltb (length out) (letter_head + s.j))
    (unmoved x (Answer.Refused Refusal.Buffer))
    o

-- words that cannot be read are not by form (1); sizes outside their ranges come first (13)
abbrev pub if_read {ℓ} : {A : Type ℓ} → Setting → Bool → A → A → A
if_read s reads read unread = cond (reads || not (sizes_form s.n s.j s.l)) read unread

unfoldable pub own_on : Setting → Box → Bool → Event → List ℕ → OwnOutcome
own_on s x reads e out =
    if_read s reads (buffered s x out (own_step s x e)) (unmoved x (Answer.Refused Refusal.Form))

-- a step of its own
abbrev pub act_on : Setting → List ℕ → Act → List ℕ → OwnOutcome
act_on s r a out = own_on s (own_box s r) (row_reads s.j r) (own a) out

-- a letter in the place p, from a sender
abbrev pub mail_on : Setting → List ℕ → ℕ → List ℕ → List ℕ → OwnOutcome
mail_on s r sender p out =
    own_on s (own_box s r) (row_reads s.j r && place_reads s.j p)
    (mail sender (own_letter s p)) out

-- which present boxes have not answered its lease
unfoldable pub unheard_on : Setting → List ℕ → Result ℕ Refusal
unheard_on s r =
    if_read s (row_reads s.j r) (own_unheard s (own_box s r)) (Err Refusal.Form)

-- a fresh box in the words of a row, whatever they were: 12 where they are too few, after 13
unfoldable pub fresh_on : ℕ → ℕ → ℕ → List ℕ → OwnOutcome
fresh_on n J L r =
    cond (leb (row_width J) (length r) || not (sizes_form n J L))
    (own_fresh n J L (box_of n (row_of J r)))
    (unmoved (box_of n (row_of J r)) (Answer.Refused Refusal.Buffer))

-- c is elected: the row holds what the election makes of the box
unfoldable pub elected_on : Setting → List ℕ → ℕ → OwnOutcome
elected_on s r c =
    if_read s (row_reads s.j r) (own_elected s (own_box s r) c)
    (unmoved (own_box s r) (Answer.Refused Refusal.Form))

-- a holds line
unfoldable pub holds_on : Setting → List ℕ → ℕ → ℕ → ℕ → Answer
holds_on s r k left right =
    if_read s (row_reads s.j r) (own_holds s (own_box s r) k left right)
    (Answer.Refused Refusal.Form)

-- the letters to each box of a set: one, in the lent place, or none where the set is empty
abbrev pub letters_in : Setting → ℕ → List ℕ → List Letter
letters_in s to out = cond (eqb to 0) [] (own_letter s out ∷ [])

-- the outcome o on the row r and the place out: they have become r' and out'; a and the set `to`
-- were answered
pub record Owned (s : Setting) (o : OwnOutcome) (r out r' out' : List ℕ) (a : Answer) (to : ℕ)
    : Type 0 where
  pub answer : a ≡ o.answer
  pub box : own_box s r' ≡ o.next
  pub receivers : to ≡ o.to
  pub letter : letters_in s to out' ≡ o.letters
  pub kept : is_refusal a ≡ true → r' ≡ r
  pub quiet : to ≡ 0 → out' ≡ out
  pub past_row : drop (row_width s.j) r' ≡ drop (row_width s.j) r
  pub past-out : drop (letter_head + s.j) out' ≡ drop (letter_head + s.j) out
  pub row_words : length r' ≡ length r
  pub out-words : length out' ≡ length out

-- the outcome o, which sends nothing, on the row r of a box of n with room for J records: it has
-- become r', which can be read where the call was not refused; a was answered
pub record Told (n J : ℕ) (o : OwnOutcome) (r r' : List ℕ) (a : Answer) : Type 0 where
  pub answer : a ≡ o.answer
  pub box : box_of n (row_of J r') ≡ o.next
  pub kept : is_refusal a ≡ true → r' ≡ r
  pub reads : is_refusal a ≡ false → row_reads J r' ≡ true
  pub past_row : drop (row_width J) r' ≡ drop (row_width J) r
  pub row_words : length r' ≡ length r
