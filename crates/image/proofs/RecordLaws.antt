-- Records as numbers of 8 bytes.
use mathlib.Core.Path.{◌≡◌, sym, ap, ◌∙◌}
use mathlib.Core.Bool.{◌&&◌}
use Prim.Native.Nat.{ℕ, ◌+◌, ◌^◌, ◌<◌}
use native.Mathlib.Omega.{arith}
use mathlib.Core.List.{List, [], ◌∷◌, ◌++◌}
use lib.Dec.{leb, ltb}
use lib.ListN.{length, drop}
use borrow.Author.Tests.{ltb-true}
use Rattle.rules.specs.Sizes.{left_of, right_of, proper}
use Rattle.laws.proofs.Logic.{Or, left, right, and_yes}
use Rattle.laws.proofs.Logic as logic
use Rattle.laws.proofs.FormLaws.{Proper}
use Rattle.cells.specs.Cells.{cells, Each, All, Below, Stands, Read}
use Rattle.cells.proofs.ChainLaws.{each_map}
use Rattle.cells.proofs.CodeLaws.{cells-code}
use Rattle.image.specs.Parts.{GoodRecord}

-- All elements of a list, as the laws of the model say it.
pub all_of {ℓ} : {A : Type ℓ} {P : A → Type 0} {l : List A} → logic.All P l → All P l
unfolding Each
all_of logic.nil = tt
all_of (logic.cons h t) = (h, all_of t)

pub all-to {ℓ} : {A : Type ℓ} (P : A → Type 0) (l : List A) → All P l → logic.All P l
unfolding Each
all-to P [] h = logic.nil
all-to P (x ∷ l) h = logic.cons h.0 (all-to P l h.1)

-- A proper record is a number of 8 bytes.
pub proper-below : {r : ℕ} → Proper r → r < 256 ^ 8
unfolding proper
proper-below {r} e =
    let p = and_yes (leb 1 (left_of r) && ltb (left_of r) 4294967296) (leb 1 (right_of r)) e in
    let q = and_yes (leb 1 (left_of r)) (ltb (left_of r) 4294967296) p.0 in
    let h : left_of r < 4294967296 = ltb-true (left_of r) 4294967296 q.1 in
    omega arith

pub record_below : {r : ℕ} → Or (r ≡ 0) (Proper r) → r < 256 ^ 8
record_below (left z) = omega arith
record_below (right p) = proper-below p

-- Records of which there are as many are told from their bytes.
pub records-code : (a b r s : List ℕ) → length a ≡ length b → All GoodRecord a → All GoodRecord b
    → cells 8 a ++ r ≡ cells 8 b ++ s → a ≡ b
records-code a b r s n p q e = cells-code 8 a b r s n (below a p) (below b q) e
  where
    below : (l : List ℕ) → All GoodRecord l → Below (256 ^ 8) l
    below l h = each_map (λ i. GoodRecord) (λ i x. x < 256 ^ 8) (λ i x. proper-below) l h

-- Records that were read where those of a thing by form stand are these.
pub same-records : {src : List ℕ} {p q r : ℕ} (xs ys : List ℕ) → length ys ≡ length xs
    → Read 8 src p ys r → Stands (cells 8 xs) src p q → All GoodRecord xs
    → (ys ≡ xs) × (r ≡ q)
same-records {src} {p} {q} {r} xs ys l g v good =
    let below = each_map (λ i. GoodRecord) (λ i x. x < 256 ^ 8) (λ i x. proper-below) xs good in
    let e : ys ≡ xs =
    cells-code 8 ys xs (drop r src) (drop q src) l g.below below
    (sym g.stands.here ∙ v.here) in
    (e, g.stands.next ∙ ap (λ (x : List ℕ). p + length (cells 8 x)) e ∙ sym v.next)
