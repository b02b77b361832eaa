-- Loops that write a list. From its start on: what is written at each turn, and behind it what is
-- still to be written, is the whole that is wanted. Within it: what is written is a splice.
use mathlib.Core.Path.{◌≡◌, refl, sym, ◌∙◌}
use mathlib.Core.Bool.{Bool, true, false}
use Prim.Native.Nat.{ℕ, ◌+◌, ◌≤◌, ◌<◌}
use native.Mathlib.Numerals.{add-one}
use native.Mathlib.Omega.{arith}
use mathlib.Core.List.{List, [], ◌∷◌, ◌++◌, append-nil}
use lib.Dec.{ltb}
use lib.ListN.{length, take, drop, get_or, set, length-drop}
use lib.Seq.{take_all, take-suc, take-suc-set, append_snoc, drop-cons, get_or-drop}
use borrow.Author.Tests.{ltb-true, ltb-false}
use Rattle.words.specs.Rows.{part, splice}
use Rattle.words.proofs.PartLaws.{length_part, get_or-splice, get_or_past, set-splice}

module _ {ℓ} {A : Type ℓ} (whole now : List A) (i : ℕ) where
  -- One more is written.
  pub write_more : (x : A) (rest : List A) → i < length now → whole ≡ take i now ++ (x ∷ rest)
      → whole ≡ take (i + 1) (set now i x) ++ rest
  write_more x rest h e = rw (add-one, take-suc-set, append_snoc) e

  -- All is written.
  pub write_end : length now ≤ i → whole ≡ take i now ++ [] → now ≡ whole
  write_end h e = sym (e ∙ append-nil (take i now) ∙ take_all i now h)

module _ {ℓ} {A : Type ℓ} (now : List A) (i : ℕ) where
  -- A turn of `copy`: one more element of src.
  pub copy_more : (d : A) (src : List A) → i < length src → i < length now
      → src ≡ take i now ++ drop i src
      → src ≡ take (i + 1) (set now i (get_or src i d)) ++ drop (i + 1) src
  copy_more d src h k e =
      let rest = drop (i + 1) src in
      write_more src now i (get_or src i d) rest k (rw (add-one, ← drop-cons src i d) e)

-- A turn of `copy_within` on what was xs: one more element, which is not written yet.
module _ {ℓ} {A : Type ℓ} (d : A) (xs : List A) (a b i : ℕ) (h : a + i < length xs)
    (k : b + i < length xs) (ahead : a < b → a + i < b) where
  abbrev within : List A
  within = splice xs b i (part xs a i)

  unwritten : get_or within (a + i) d ≡ get_or xs (a + i) d
  unwritten = go (ltb a b) refl
    where
      go : (t : Bool) → ltb a b ≡ t → get_or within (a + i) d ≡ get_or xs (a + i) d
      go true e =
          get_or-splice b i (a + i) d xs (part xs a i) (ahead (ltb-true a b e)) (omega arith)
      go false e =
          let back = ltb-false a b e in
          get_or_past b i (a + i) d xs (part xs a i) (omega arith) (omega arith)
          (length_part a i xs (omega arith))

  pub within_more :
      set within (b + i) (get_or within (a + i) d) ≡ splice xs b (i + 1) (part xs a (i + 1))
  within_more =
      let more : i < length (drop a xs) = rw length-drop (omega arith) in
      let next = set-splice b i (get_or xs (a + i) d) xs (part xs a i) k in
      let long = length_part a i xs (omega arith) in
      rw (unwritten, next long, add-one i, take-suc (drop a xs) i d, get_or-drop a xs)
