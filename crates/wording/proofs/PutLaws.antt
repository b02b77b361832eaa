-- As much of a text as a buffer has room for.
use Prim.Native.Nat.{ℕ, ◌-◌, min}
use mathlib.Core.Path.{◌≡◌, refl, ap, sym, ◌∙◌, subst}
use mathlib.Core.Bool.{Bool, true, false}
use mathlib.Core.List.{List}
use native.Mathlib.Omega.{arith}
use lib.Dec.{ltb}
use lib.ListN.{length, take}
use lib.Seq.{take_all, length-take-le}
use borrow.Author.Tests.{ltb-true, ltb-false}
use Rattle.io.proofs.Counting.{prefix_len_of_le}
use Rattle.print.specs.Text.{Wrote}
use Rattle.wording.specs.Put.{Put}

-- the first k, or all of them
front : (k : ℕ) (s : List ℕ) → take (min (length s) k) s ≡ take k s
front k s = go (ltb k (length s)) refl
  where
    go : (t : Bool) → ltb k (length s) ≡ t → take (min (length s) k) s ≡ take k s
    go true e =
        let l = ltb-true k (length s) e in
        let q : min (length s) k ≡ k = omega arith in
        ap (λ (i : ℕ). take i s) q
    go false e = let l = ltb-false k (length s) e in
        take_all (min (length s) k) s (omega arith) ∙ sym (take_all k s (omega arith))

pub put_is : (o p s : List ℕ) (at a n r : ℕ) → a ≡ min at (length o)
    → n ≡ min (length s) (length o - a) → Wrote (length (take n s)) o p a r (take n s)
    → Put o p at r s
put_is o p s at a n r ea en w =
    let long : length (take n s) ≡ n = length-take-le n s (omega arith) in
    let room : length o - a ≡ length o - at = omega arith in
    let cut : take n s ≡ take (length o - at) s =
    ap (λ (i : ℕ). take i s) en ∙ front (length o - a) s ∙ ap (λ (i : ℕ). take i s) room in
    let more : Wrote (length s) o p a r (take n s) = record {
      bytes = w.bytes;
      end = w.end;
      few = omega (arith, w.few);
      room = w.room;
    } in
    record {
      wrote =
          subst (λ (u : List ℕ). Wrote (length s) o p (min at (length o)) r u) cut
          (subst (λ (i : ℕ). Wrote (length s) o p i r (take n s)) ea more);
      counts = prefix_len_of_le r p (omega (arith, w.end, w.room));
    }
