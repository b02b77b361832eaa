-- Both sides: the order of the refusals, and the part that is a side.
use Rattle.std.proofs.Common.{◌≡◌, ℕ, ◌<◌, ◌≤◌, not, List, length, get_or, sym, refl, ap, ◌∙◌}
use Rattle.std.proofs.Common.{zero-add, arith, le-ltb, lt-ltb, eq-eqb, ne_eqb}
use Rattle.rules.specs.Pick.{pick_true, pick-false}
use Rattle.laws.proofs.Logic.{Or, left, right, below?}
use Rattle.words.specs.Rows.{part, splice}
use Rattle.words.proofs.PartLaws.{length_part, get_or_part}
use Rattle.desk.specs.Sides.{Outcome, SideIs, tick_of, tick_in, place_of, withdraw_from}
use Rattle.desk.specs.Near.{nearest_of}
use Rattle.desk.specs.Desk.{places, side_at, side_of, on_side, named, right_by, chosen_of, leaves}
use Rattle.std.specs.Prelude.{⊤, Result, Ok, Err}
use Rattle.desk.specs.declared.answers.Side.{Side}
use Rattle.desk.specs.declared.answers.Why.{Why}
use Rattle.desk.proofs.SideLaws.{side-is, standing, absent}

module _ (f : ℕ) (does : List ℕ → Outcome) (ws : List ℕ) where
  pub named-short : length ws < 64 → SideIs (named f does ws) ws (Err Why.Words)
  named-short h = side-is (pick_true _ _ _ (lt-ltb _ _ h))

  pub named-zero : 64 ≤ length ws → f ≡ 0 → SideIs (named f does ws) ws (Err Why.Frame)
  named-zero h z = side-is (pick-false _ _ _ (le-ltb _ _ h) ∙ pick_true _ _ _ (eq-eqb _ _ z))

  pub named_does : 64 ≤ length ws → (f ≡ 0 → ⊥) → named f does ws ≡ does ws
  named_does h n = pick-false _ _ _ (le-ltb _ _ h) ∙ pick-false _ _ _ (ne_eqb _ _ n)

-- what is done on the part is done on the desk
pub on-side : (s : Side) (does : List ℕ → Outcome) (ws : List ℕ) {v : List ℕ} {r : Result ⊤ Why}
    → SideIs (does (side_of s ws)) v r
    → SideIs (on_side s does ws) (splice ws (side_at s) places v) r
on-side s does ws i = record {
  answer = i.answer;
  words = ap (splice ws (side_at s) places) i.words;
}

pub named-on : (f : ℕ) (s : Side) (does : List ℕ → Outcome) (ws : List ℕ) {v : List ℕ}
    {r : Result ⊤ Why}
    → 64 ≤ length ws → (f ≡ 0 → ⊥) → SideIs (does (side_of s ws)) v r
    → SideIs (named f (on_side s does) ws) (splice ws (side_at s) places v) r
named-on f s does ws h n i = rw (named_does f (on_side s does) ws h n) (on-side s does ws i)

pub length-side : (s : Side) (ws : List ℕ) → 64 ≤ length ws → length (side_of s ws) ≡ 32
length-side Side.Left ws h = length_part 0 32 ws (omega arith)
length-side Side.Right ws h = length_part 32 32 ws (omega arith)

-- ---- the right frame

module _ (f : ℕ) (ws : List ℕ) where
  pub chosen-short : length ws < 64 → Err Why.Words ≡ chosen_of f ws
  unfolding chosen_of
  chosen-short h = sym (pick_true _ _ _ (lt-ltb _ _ h))

  module _ (h : 64 ≤ length ws) where
    pub chosen-zero : f ≡ 0 → Err Why.Frame ≡ chosen_of f ws
    unfolding chosen_of
    chosen-zero z = sym (pick-false _ _ _ (le-ltb _ _ h) ∙ pick_true _ _ _ (eq-eqb _ _ z))

    -- p is the place that was found
    module _ (n : f ≡ 0 → ⊥) {p : ℕ} (found : p ≡ place_of f (part ws 0 32)) where
      pub chosen-away : 32 ≤ p → Err Why.Away ≡ chosen_of f ws
      unfolding chosen_of
      chosen-away k =
          let none = absent f (part ws 0 32) found
          (omega (arith, length-side Side.Left ws h)) in
          sym (pick-false _ _ _ (le-ltb _ _ h) ∙ pick-false _ _ _ (ne_eqb _ _ n)
          ∙ pick_true _ _ _ (ap not none))

      pub chosen_is : {t w : ℕ} {r : Result ℕ Why} → p < 32 → t ≡ tick_of (get_or ws p 0)
          → w ≡ nearest_of t (part ws 32 32) → r ≡ right_by w → r ≡ chosen_of f ws
      unfolding chosen_of
      chosen_is {t} k et ew er =
          let here = standing f (part ws 0 32) found
          (omega (arith, length-side Side.Left ws h)) in
          let tick : t ≡ tick_in f (part ws 0 32) =
          et ∙ ap tick_of (sym (get_or_part 0 32 p 0 ws k ∙ ap (λ i. get_or ws i 0) (zero-add p))
          ∙ ap (λ i. get_or (part ws 0 32) i 0) found) in
          er ∙ ap right_by (ew ∙ ap (λ x. nearest_of x (part ws 32 32)) tick)
          ∙ sym (pick-false _ _ _ (le-ltb _ _ h) ∙ pick-false _ _ _ (ne_eqb _ _ n)
          ∙ pick-false _ _ _ (ap not here))

-- a right frame was chosen only where there are words enough
pub chosen-long : (f : ℕ) (ws : List ℕ) {g : ℕ} → chosen_of f ws ≡ Ok g → 64 ≤ length ws
chosen-long f ws {g} e = go (below? (length ws) 64)
  where
    go : Or (length ws < 64) (64 ≤ length ws) → 64 ≤ length ws
    go (left h) =
        let x = chosen-short f ws h in
        let z : ◌≡◌ {A = ℕ} 0 1 = cc in
        absurd (omega arith)
    go (right h) = h

-- ---- the pair leaves

pub leaves-is : (f g : ℕ) (ws : List ℕ) {v w : List ℕ} {q r : Result ⊤ Why}
    → SideIs (withdraw_from f (part ws 0 32)) v q
    → SideIs (withdraw_from g (part (splice ws 0 32 v) 32 32)) w r
    → splice (splice ws 0 32 v) 32 32 w ≡ leaves f g ws
unfolding leaves
leaves-is f g ws i j = rw (j.words, i.words) refl
