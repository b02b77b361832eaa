-- What the entries come to on words that can be read, with a place that is long enough.
use Prim.Native.Nat.{ℕ, ◌+◌, ◌≤◌}
use mathlib.Core.Path.{◌≡◌, refl, ap}
use mathlib.Core.Bool.{Bool, true, false, not, ◌||◌, cond, and-false}
use mathlib.Core.List.{List}
use lib.Dec.{leb}
use lib.ListN.{length}
use borrow.Author.Tests.{le-ltb}
use Rattle.rules.specs.Sizes.{sizes_form}
use Rattle.rules.specs.Answers.{is_refusal}
use Rattle.rules.specs.Needs.{ruled}
use Rattle.rules.specs.Box.{Box, Event}
use Rattle.rules.specs.Own.{unmoved, own_step, own_fresh, own_elected, own_holds}
use Rattle.rules.specs.Site.{fresh_box}
use Rattle.laws.proofs.Types.{Answer, Refusal, Setting}
use Rattle.laws.proofs.Logic.{true≠false}
use Rattle.letter.specs.Place.{head_words as letter_head}
use Rattle.row.specs.Row.{box_of, row_width}
use Rattle.own.specs.Entry.{row_of, own_box, row_reads, buffered, own_on, fresh_on, elected_on}
use Rattle.own.specs.Entry.{holds_on}

module _ (s : Setting) where
  -- a turn is the box's own step
  pub own-on : (x : Box) (reads : Bool) (e : Event) (out : List ℕ) → reads ≡ true
      → letter_head + s.j ≤ length out → own_on s x reads e out ≡ own_step s x e
  unfolding own_on buffered
  own-on x reads e out is long =
      rw (is, le-ltb (length out) (letter_head + s.j) long, and-false) refl

  module _ (r : List ℕ) (reads : row_reads s.j r ≡ true) where
    pub elected-on : (c : ℕ) → elected_on s r c ≡ own_elected s (own_box s r) c
    unfolding elected_on
    elected-on c = rw reads refl

    pub holds-on : (k left right : ℕ)
        → holds_on s r k left right ≡ own_holds s (own_box s r) k left right
    unfolding holds_on
    holds-on k left right = rw reads refl

-- what `fresh` answered with Done it made
started : (x : Box) (long sizes : Bool)
    → (cond (long || not sizes)
    (cond sizes (unmoved fresh_box Answer.Done) (unmoved x (Answer.Refused Refusal.Sizes)))
    (unmoved x (Answer.Refused Refusal.Buffer))).answer ≡ Answer.Done
    → (sizes ≡ true)
    × ((cond (long || not sizes)
    (cond sizes (unmoved fresh_box Answer.Done) (unmoved x (Answer.Refused Refusal.Sizes)))
    (unmoved x (Answer.Refused Refusal.Buffer))).next ≡ fresh_box)
started x true true e = (refl, refl)
started x true false e = absurd (true≠false (ap is_refusal e))
started x false true e = absurd (true≠false (ap is_refusal e))
started x false false e = absurd (true≠false (ap is_refusal e))

pub fresh-on : (n J L : ℕ) (r : List ℕ) → (fresh_on n J L r).answer ≡ Answer.Done
    → (sizes_form n J L ≡ true) × ((fresh_on n J L r).next ≡ fresh_box)
unfolding fresh_on own_fresh ruled
fresh-on n J L r e =
    started (box_of n (row_of J r)) (leb (row_width J) (length r)) (sizes_form n J L) e
