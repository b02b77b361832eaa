-- What stands before and behind the first byte b of a text: e is where the code has found it.
use Prim.Native.Nat.{ℕ, ◌+◌, ◌-◌, ◌≤◌}
use mathlib.Core.Path.{◌≡◌, sym, ap, ◌∙◌}
use mathlib.Core.List.{List, []}
use native.Mathlib.Omega.{arith}
use lib.ListN.{length, take, drop, length-drop, drop_of_length-le}
use lib.Seq.{take-length, take_all}
use Rattle.scan.specs.Bytes.{slice, index_of}
use Rattle.lists.specs.Lists.{up_to, behind}

module _ (b : ℕ) (s : List ℕ) {e : ℕ} (found : e ≡ 0 + index_of b (slice 0 (length s) s)) where
  pub found-is : e ≡ index_of b s
  unfolding slice
  found-is =
      let z : 0 + index_of b (drop 0 (take (length s) s))
      ≡ index_of b (drop 0 (take (length s) s)) =
      omega arith in
      found ∙ z ∙ ap (index_of b) (take-length s)

  pub up-to-is : take (e - 0) (drop 0 s) ≡ up_to b s
  up-to-is = ap (λ k. take k s) (let z : e - 0 ≡ e = omega arith in z ∙ found-is)

  pub behind-is : take (length s - (e + 1)) (drop (e + 1) s) ≡ behind b s
  behind-is =
      take_all (length s - (e + 1)) (drop (e + 1) s) (omega (arith, length-drop (e + 1) s))
      ∙ ap (λ k. drop (k + 1) s) found-is

  pub none-behind : length s ≤ e → [] ≡ behind b s
  none-behind h =
      let k = found-is in
      let past : length s ≤ index_of b s + 1 = omega arith in
      sym (drop_of_length-le s past)
