-- The laws of a new proposal number; nothing else is known of it outside.
use Prim.Native.Nat.{ℕ, ◌+◌, ◌*◌, ◌/◌, ◌%◌, ◌≤◌, ◌<◌}
use mathlib.Core.Path.{◌≡◌, ap, ◌∙◌}
use native.Mathlib.Omega.{arith}
use lib.Dec.{ltb}
use borrow.Author.Tests.{ltb-true, ltb-false}
use Rattle.rules.specs.NewPn.{IsNew, new_pn}
use Rattle.laws.proofs.Logic.{pick_elim}

-- the two hundreds in which it can stand
by_hundred {κ} : (P : ℕ → Type κ) (old rank : ℕ)
    → (old % 100 < rank → P (old / 100 * 100 + rank))
    → (rank ≤ old % 100 → P ((old / 100 + 1) * 100 + rank)) → P (new_pn old rank)
unfolding new_pn
by_hundred P old rank here next =
    pick_elim P (ltb (old % 100) rank)
    (λ e. here (ltb-true (old % 100) rank e))
    (λ e. next (ltb-false (old % 100) rank e))

-- it is above the old one
pub new_pn-above : (old rank : ℕ) → old < new_pn old rank
new_pn-above old rank = by_hundred (old <◌) old rank (λ h. omega arith) (λ h. omega arith)

-- its last two digits are the rank
pub new_pn-rank : (old rank : ℕ) → rank < 100 → new_pn old rank % 100 ≡ rank
new_pn-rank old rank few =
    by_hundred (λ (m : ℕ). m % 100 ≡ rank) old rank (λ h. omega arith) (λ h. omega arith)

-- it is at most a hundred above the old one
pub new_pn-near : (old rank : ℕ) → rank < 100 → new_pn old rank ≤ old + 100
new_pn-near old rank few =
    by_hundred (◌≤ old + 100) old rank (λ h. omega arith) (λ h. omega arith)

-- no smaller number is above the old one and has the rank
new_pn-smallest : (old rank m : ℕ) → old < m → m % 100 ≡ rank → new_pn old rank ≤ m
new_pn-smallest old rank m above digits =
    by_hundred (◌≤ m) old rank (λ h. omega arith) (λ h. omega arith)

-- so it is what the paper says, for every rank of two digits, ..
pub new_pn-is : (old rank : ℕ) → rank < 100 → IsNew old rank (new_pn old rank)
new_pn-is old rank few = record {
  above = new_pn-above old rank;
  digits = new_pn-rank old rank few;
  smallest = new_pn-smallest old rank;
}

-- .. and nothing else is
pub new_pn-only : (old rank m : ℕ) → rank < 100 → IsNew old rank m → m ≡ new_pn old rank
new_pn-only old rank m few h =
    let here = new_pn-smallest old rank m h.above h.digits in
    let there = h.smallest (new_pn old rank) (new_pn-above old rank) (new_pn-rank old rank few) in
    omega (arith, here, there)

-- a number that is not above the old one wherever it has the rank is not the new one
pub new_pn-nowhere : (old rank v : ℕ) → rank < 100 → (v % 100 ≡ rank → v ≤ old)
    → v ≡ new_pn old rank
    → ⊥
new_pn-nowhere old rank v few f e =
    let h : v ≤ old = f (ap (λ (t : ℕ). t % 100) e ∙ new_pn-rank old rank few) in
    omega (arith, new_pn-above old rank)
