-- The first place of a byte, as the library's `position` finds it.
use Rattle.std.proofs.Common.{ℕ, ◌≡◌, ◌==◌, ◌+◌, ◌-◌, ◌≤◌, ◌∙◌, List, ap, arith}
use Rattle.std.proofs.Common.{refl}
use Rattle.std.proofs.Common.{cond, not, Bool, true, false, length, take, drop, slice_range, Some}
use Rattle.std.proofs.Common.{None, Option}
use Rattle.std.specs.List.{position, position_or_len}
use Rattle.std.proofs.lemmas.Grind.{common_steps}
use Rattle.std.proofs.lemmas.List.{drop-take}
use Rattle.std.proofs.lemmas.List.Sums.{prefix_len-le-length}
use Rattle.std.proofs.lemmas.List.Recursion.{is_position_or_len}
use Rattle.scan.specs.Bytes.{slice, index_after, index_of}

stepped : (b : Bool) (k : ℕ) → index_after b k ≡ cond b 0 (1 + k)
unfolding index_after
stepped true k = refl
stepped false k = omega arith

first-place : (b : ℕ) (s : List ℕ) → index_of b s ≡ position_or_len (λ x. x == b) s
unfolding index_of
first-place b s = is_position_or_len (index_of b) (λ x. x == b) refl
    (λ x xs. stepped (x == b) (index_of b xs)) s

-- the part that the code cuts out
pub same-part : (i j : ℕ) (a : List ℕ) → i ≤ j → slice i j a ≡ slice_range a i j
unfolding slice
same-part i j a h =
    let e : j ≡ i + (j - i) = omega arith in
    ap (λ k. drop i (take k a)) e ∙ drop-take i (j - i) a

module _ (b i j : ℕ) (a : List ℕ) (order : i ≤ j) where
  here : index_of b (slice i j a) ≡ position_or_len (λ x. x == b) (slice_range a i j)
  here = ap (index_of b) (same-part i j a order) ∙ first-place b (slice_range a i j)

  pub found : {r : Option ℕ} {k : ℕ} → r ≡ Some k → r ≡ position (λ x. x == b) (slice_range a i j)
      → i + k ≡ i + index_of b (slice i j a)
  found {r} {k} e p =
      let at : position_or_len (λ x. x == b) (slice_range a i j) ≡ k =
      grind (arith, common_steps) in
      omega (arith, at, here)

  pub not-found : {r : Option ℕ} → j ≤ length a → r ≡ None
      → r ≡ position (λ x. x == b) (slice_range a i j)
      → j ≡ i + index_of b (slice i j a)
  not-found room e p =
      let most = prefix_len-le-length (λ x. not (x == b)) (slice_range a i j) in
      let at : position_or_len (λ x. x == b) (slice_range a i j) ≡ j - i =
      grind (arith, common_steps) in
      omega (arith, at, here)
