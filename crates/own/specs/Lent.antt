-- What the functions over a box's own row and the places of its letters ask for and give.
use Rattle.std.specs.Prelude.{◌≡◌, ℕ, ◌+◌, ◌≤◌, Bool, true, not, ◌&&◌, ◌||◌, cond, List, [], ◌∷◌}
use Rattle.std.specs.Prelude.{eqb, length}
use Rattle.rules.specs.Sizes.{most_epoch, within, sizes_form}
use Rattle.rules.specs.Sets.{set_form}
use Rattle.rules.specs.Needs.{Need, need, ruled}
use Rattle.rules.specs.Form.{form_box, form_letter}
use Rattle.rules.specs.Box.{Box, turned}
use Rattle.rules.specs.Own.{OwnOutcome, unmoved, receivers, letters_of, own_turn}
use Rattle.rules.specs.Own.{elected_box, told_needs}
use Rattle.rules.specs.declared.model.Answer.{Answer}
use Rattle.rules.specs.declared.model.Out.{Out}
use Rattle.rules.specs.declared.model.Refusal.{Refusal}
use Rattle.rules.specs.declared.model.Setting.{Setting}
use Rattle.rules.specs.declared.model.Turn.{Turn}
use Rattle.letter.specs.Place.{letter_at, place_fits, head_words as letter_head}
use Rattle.letter.specs.Lent.{Encloses}
use Rattle.row.specs.Row.{box_of, row_width}
use Rattle.row.specs.Lent.{RowByForm, Plays, Played}
use Rattle.std.specs.Prelude.{⊤, Result, Ok, Err}
use Rattle.own.specs.Entry.{row_of, own_box, own_letter, row_reads, place_reads, buffered}

-- the row can be read, and the box that it holds is by form
abbrev pub row_test : Setting → List ℕ → Bool
row_test s r = row_reads s.j r && form_box s.n s.j s.me (own_box s r)

-- the place can be read, and the letter that it holds is by form
abbrev pub place_test : Setting → List ℕ → Bool
place_test s p = place_reads s.j p && form_letter s.j (own_letter s p)

-- and so is all that concerns the box alone; a letter only where `mailed`
abbrev pub form_test : Setting → List ℕ → List ℕ → Bool → Bool
form_test s r p mailed =
    within 1 most_epoch s.epoch && set_form s.n s.present && row_test s r
    && (not mailed || place_test s p)

-- what a turn needs first, in the order of the refusals: 13, 1, 2
abbrev pub in_order : Bool → Bool → Bool → List Need
in_order sizes form numbers =
    need Refusal.Sizes sizes ∷ need Refusal.Form form ∷ need Refusal.Box numbers ∷ []

-- nothing is refused before a turn
abbrev pub passed : Result ⊤ Refusal
passed = Ok tt

-- which of these refuses a step of its own, or where `mailed` a mail in the place p
unfoldable pub judged : Setting → List ℕ → List ℕ → Bool → Bool → Result ⊤ Refusal
judged s r p mailed numbers =
    ruled Err
    (in_order (sizes_form s.n s.j s.l)
    (form_test s r p mailed) numbers)
    passed

-- a box's own row r is by form: it can be told of an election, and asked
pub record RowLent (s : Setting) (r : List ℕ) : Type 0 where
  pub words : row_width s.j ≤ length r
  pub by_form : RowByForm s (row_of s.j r)

-- what an election of c makes of the box x then
abbrev pub elected_by : Setting → Box → ℕ → OwnOutcome
elected_by s x c =
    ruled (λ why. unmoved x (Answer.Refused why)) (told_needs s c)
    (unmoved (elected_box s c x) Answer.Done)

-- rs has the records of what is sent, and the place p has room for them
abbrev pub Posts : List ℕ → Out → List ℕ → Type 0
Posts p Out.Nothing rs = Unit {0}
Posts p (Out.To set m) rs = Encloses p m rs

-- p has become q: it holds what is sent, with its records of rs, to the boxes of the set `to`
pub record Posted (p : List ℕ) (o : Out) (rs q : List ℕ) (to : ℕ) : Type 0 where
  pub set : to ≡ receivers o
  pub letter : cond (eqb to 0) [] (letter_at q ∷ []) ≡ letters_of o rs
  pub quiet : to ≡ 0 → q ≡ p
  pub words : length q ≡ length p
  pub fits : (to ≡ 0 → ⊥) → (J : ℕ) → length p ≡ letter_head + J → place_fits J q ≡ true

-- the records that the row r holds after the turn t, p the place of the mail that it took
abbrev pub records_after : ℕ → List ℕ → List ℕ → Turn → List ℕ
records_after n r p t = (turned (box_of n r) t (letter_at p).records).records

-- the row r can take the turn t, and the place out what it sends
pub record Carries (n J : ℕ) (r p out : List ℕ) (t : Turn) : Type 0 where
  pub plays : Plays n J r p t
  pub posts : Posts out t.out (records_after n r p t)

-- they have become r' and out'
pub record Carried (n J : ℕ) (r p out : List ℕ) (t : Turn) (r' out' : List ℕ) (to : ℕ)
    : Type 0 where
  pub played : Played n J r p t r'
  pub posted : Posted out t.out (records_after n r p t) out' to

-- a box's own row r can take the turn t, and any place of the site what it sends
pub record Concludes (s : Setting) (r p : List ℕ) (t : Turn) : Type 0 where
  pub words : row_width s.j ≤ length r
  pub plays : Plays s.n s.j (row_of s.j r) p t
  pub posts : (q : List ℕ) → length q ≡ letter_head + s.j
      → Posts q t.out (records_after s.n (row_of s.j r) p t)

-- what comes of the turn t, with a place out for its letter
abbrev pub concluded : Setting → List ℕ → List ℕ → Turn → List ℕ → OwnOutcome
concluded s r p t out =
    buffered s (own_box s r) out (own_turn t.answer (own_box s r) t (letter_at p).records)

-- what could be read can be read again, and so can a letter that was written
pub record StillReads (s : Setting) (r r' out' : List ℕ) (to : ℕ) : Type 0 where
  pub row : row_reads s.j r ≡ true → row_reads s.j r' ≡ true
  pub letter : (to ≡ 0 → ⊥) → place_reads s.j out' ≡ true
