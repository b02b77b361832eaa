-- How firm the statement is: nothing else could satisfy it.
use mathlib.Core.Path.{◌≡◌, refl, sym, ap, ◌∙◌, subst}
use mathlib.Core.Bool.{Bool, true, false, not, ◌&&◌, ◌||◌, cond}
use mathlib.Core.List.{List}
use Prim.Native.Nat.{ℕ, ◌+◌}
use lib.Dec.{leb, ltb}
use lib.ListN.{length, take}
use Rattle.rules.specs.Sizes.{sizes_form}
use Rattle.rules.specs.Parts.{span}
use Rattle.rules.specs.Box.{Box, Event, turn_of, brought}
use Rattle.rules.specs.Own.{OwnOutcome, unmoved, own_turn, own_step}
use Rattle.laws.proofs.Types.{Answer, Refusal, Setting, Turn}
use Rattle.laws.proofs.Logic.{both-no, and_yes}
use Rattle.laws.proofs.StepLaws.{by_needs}
use Rattle.rules.specs.Answers.{is_refusal, is_accepted}
use Rattle.index.specs.Lent.{Indexed}
use Rattle.index.proofs.Once.{index-once}
use Rattle.row.specs.Row.{box_of, row_fits, row_width, index_of}
use Rattle.row.proofs.FormLaws.{fits-says}
use Rattle.own.specs.Entry.{row_of, own_box, row_reads, buffered, own_on, letters_in, Owned, Told}
use Rattle.own.specs.Lent.{StillReads}
use Rattle.own.proofs.Room.{SameIndex}
use Rattle.letter.specs.Place.{head_words as letter_head}

-- ---- the index is the box's (Q-5)

-- Rows that fit and hold the same box have the same index.
pub one_index : (n J : ℕ) (r r' : List ℕ) → row_fits J r ≡ true → row_fits J r' ≡ true
    → box_of n r ≡ box_of n r' → SameIndex J r r'
one_index n J r r' f f' e =
    index-once (fits-says J r f).4
    (subst (λ (x : Box). Indexed 0 x.head.kept.first
    (take (span x.head.kept.first x.head.kept.last) x.records) (index_of J r'))
    (sym e) (fits-says J r' f').4)

read_fits : (J : ℕ) (r : List ℕ) → row_reads J r ≡ true → row_fits J (row_of J r) ≡ true
unfolding row_reads
read_fits J r e = (and_yes (leb (row_width J) (length r)) (row_fits J (row_of J r)) e).1

-- ---- one end of an outcome

-- a row, a place, an answer and a set that show the same
pub record Alike (s : Setting) (r out : List ℕ) (a : Answer) (to : ℕ)
    (r' out' : List ℕ) (a' : Answer) (to' : ℕ) : Type 0 where
  pub answer : a ≡ a'
  pub receivers : to ≡ to'
  pub box : own_box s r ≡ own_box s r'
  pub letter : letters_in s to out ≡ letters_in s to' out'

-- Two ends of the same outcome are alike, wherever they began ..
pub alike : (s : Setting) (o o' : OwnOutcome) → o ≡ o'
    → {r out r₁ out₁ : List ℕ} {a : Answer} {to : ℕ} → Owned s o r out r₁ out₁ a to
    → {r' out' r₂ out₂ : List ℕ} {a' : Answer} {to' : ℕ} → Owned s o' r' out' r₂ out₂ a' to'
    → Alike s r₁ out₁ a to r₂ out₂ a' to'
alike s o o' e p q = record {
  answer = p.answer ∙ ap (λ (u : OwnOutcome). u.answer) e ∙ sym q.answer;
  receivers = p.receivers ∙ ap (λ (u : OwnOutcome). u.to) e ∙ sym q.receivers;
  box = p.box ∙ ap (λ (u : OwnOutcome). u.next) e ∙ sym q.box;
  letter = p.letter ∙ ap (λ (u : OwnOutcome). u.letters) e ∙ sym q.letter;
}

-- a refusal sends nothing
Silent : OwnOutcome → Type 0
Silent o = is_refusal o.answer ≡ true → o.to ≡ 0

still-silent : (x : Box) (a : Answer) → Silent (unmoved x a)
unfolding Silent
still-silent x a h = refl

turn-silent : (b : Answer) (x : Box) (t : Turn) (ms : List ℕ) → Silent (own_turn b x t ms)
unfolding Silent own_turn
turn-silent Answer.Done x t ms h = absurd (both-no h refl)
turn-silent Answer.Taken x t ms h = absurd (both-no h refl)
turn-silent (Answer.Discarded why) x t ms h = refl
turn-silent (Answer.Refused why) x t ms h = refl

one-silent : (b : Bool) (o o' : OwnOutcome) → Silent o → Silent o' → Silent (cond b o o')
one-silent true o o' p q = p
one-silent false o o' p q = q

step-silent : (s : Setting) (x : Box) (e : Event) → Silent (own_step s x e)
unfolding own_step
step-silent s x e =
    by_needs Silent (λ why. unmoved x (Answer.Refused why)) _ _
    (λ why. still-silent x (Answer.Refused why))
    (λ p. turn-silent (turn_of s x e).answer x (turn_of s x e) (brought e))

silent : (s : Setting) (x : Box) (reads : Bool) (e : Event) (out : List ℕ)
    → Silent (own_on s x reads e out)
unfolding own_on buffered
silent s x reads e out =
    let o = own_step s x e in
    one-silent (reads || not (sizes_form s.n s.j s.l)) (buffered s x out o) _
    (one-silent (is_accepted o.answer && ltb (length out) (letter_head + s.j)) _ o
    (still-silent x (Answer.Refused Refusal.Buffer)) (step-silent s x e))
    (still-silent x (Answer.Refused Refusal.Form))

-- .. and where they began with the same words, a refusal leaves the same words, and so does a place
-- into which nothing is sent.
module _ (s : Setting) (x : Box) (reads : Bool) (e : Event) {r out r₁ out₁ r₂ out₂ : List ℕ}
    {a a' : Answer} {to to' : ℕ} (p : Owned s (own_on s x reads e out) r out r₁ out₁ a to)
    (q : Owned s (own_on s x reads e out) r out r₂ out₂ a' to') where
  pub same_end : Alike s r₁ out₁ a to r₂ out₂ a' to'
  same_end = alike s _ _ refl p q

  pub same_place : to ≡ 0 → out₁ ≡ out₂
  same_place z = p.quiet z ∙ sym (q.quiet (sym same_end.receivers ∙ z))

  -- A row that could be read has the same index too.
  pub same_index : row_reads s.j r ≡ true → StillReads s r r₁ out₁ to → StillReads s r r₂ out₂ to'
      → SameIndex s.j (row_of s.j r₁) (row_of s.j r₂)
  same_index h k k' =
      one_index s.n s.j _ _ (read_fits s.j r₁ (k.row h)) (read_fits s.j r₂ (k'.row h))
      same_end.box

  pub same-words : is_refusal a ≡ true → (r₁ ≡ r₂) × (out₁ ≡ out₂)
  unfolding Silent
  same-words h = (
    p.kept h ∙ sym (q.kept (rw (← same_end.answer) h)),
    same_place (p.receivers ∙ silent s x reads e out (rw (← p.answer) h)),
  )

-- So it is of a box that is started or told, whatever it is told: one answer and one box, and a
-- refusal leaves the same words.
module _ (n J : ℕ) (o : OwnOutcome) {r r₁ r₂ : List ℕ} {a a' : Answer} (p : Told n J o r r₁ a)
    (q : Told n J o r r₂ a') where
  pub same_answer : a ≡ a'
  same_answer = p.answer ∙ sym q.answer

  pub same-box : box_of n (row_of J r₁) ≡ box_of n (row_of J r₂)
  same-box = p.box ∙ sym q.box

  pub told-index : is_refusal a ≡ false → SameIndex J (row_of J r₁) (row_of J r₂)
  told-index h =
      one_index n J _ _ (read_fits J r₁ (p.reads h))
      (read_fits J r₂ (q.reads (rw (← same_answer) h))) same-box

  pub same_row : is_refusal a ≡ true → r₁ ≡ r₂
  same_row h = p.kept h ∙ sym (q.kept (rw (← same_answer) h))
