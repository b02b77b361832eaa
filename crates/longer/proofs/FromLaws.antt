-- The part of a list from a later first number on, as the code cuts it.
use Prim.Native.Nat.{ℕ, ◌-◌, ◌≤◌}
use mathlib.Core.Path.{◌≡◌, sym, ap}
use mathlib.Core.List.{List, []}
use native.Mathlib.Omega.{arith}
use lib.ListN.{length, take, drop, length-drop, drop_of_length-le}
use lib.Seq.{take_all}
use Rattle.longer.specs.Longer.{from_first}

module _ (own first : ℕ) (xs : List ℕ) where
  pub from-whole : first ≤ own → xs ≡ from_first own first xs
  from-whole h =
      let e : first - own ≡ 0 = omega arith in
      ap (λ k. drop k xs) (sym e)

  pub from-part : take (length xs - (first - own)) (drop (first - own) xs) ≡ from_first own first xs
  from-part =
      let d = first - own in
      take_all (length xs - d) (drop d xs) (omega (arith, length-drop d xs))

  pub from-none : length xs ≤ first - own → [] ≡ from_first own first xs
  from-none h = sym (drop_of_length-le xs h)
