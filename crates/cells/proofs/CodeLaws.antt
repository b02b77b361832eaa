-- Codes: a thing can be told from its bytes, whatever follows them.
use mathlib.Core.Path.{◌≡◌, refl, sym, ap, ◌∙◌, subst}
use Prim.Native.Nat.{ℕ, ◌+◌, ◌^◌, ◌<◌}
use native.Mathlib.Omega.{arith}
use mathlib.Core.List.{List, [], ◌∷◌, ◌++◌, append_assoc}
use lib.ListN.{length, take, drop}
use lib.Seq.{take_at, drop-append_seam}
use Rattle.le.specs.Le.{le, of_le}
use Rattle.le.proofs.LeLaws.{length-le, of-le}
use Rattle.cells.specs.Cells.{chain, cells, Each, All, Below, Stands}
use Rattle.cells.proofs.StandLaws.{stands_as, stands-first, stands-rest}

-- Two things in range of which the same bytes begin with the one and with the other are one.
abbrev pub Code : {A : Type 0} → (A → List ℕ) → (A → Type 0) → Type 0
Code {A = A} enc Range =
    (a b : A) (r s : List ℕ) → Range a → Range b → enc a ++ r ≡ enc b ++ s → a ≡ b

pub cancel : (a : List ℕ) {r s : List ℕ} → a ++ r ≡ a ++ s → r ≡ s
cancel a {r} {s} e = sym (drop-append_seam a r) ∙ ap (drop (length a)) e ∙ drop-append_seam a s

-- What follows bytes that are the same is the same.
pub cancel-same : (a b : List ℕ) {r s : List ℕ} → a ≡ b → a ++ r ≡ b ++ s → r ≡ s
cancel-same a b {r} {s} u e = cancel a (e ∙ ap (λ (l : List ℕ). l ++ s) (sym u))

-- The same bytes, bracketed to the right.
pub regroup : (a b r c d s : List ℕ) → (a ++ b) ++ r ≡ (c ++ d) ++ s
    → a ++ (b ++ r) ≡ c ++ (d ++ s)
regroup a b r c d s e = sym (append_assoc a b r) ∙ e ∙ append_assoc c d s

pub le-code : (k : ℕ) → Code (le k) (λ x. x < 256 ^ k)
le-code k a b r s p q e =
    let front = sym (take_at (le k a) r k (length-le k a)) in
    let back = take_at (le k b) s k (length-le k b) in
    sym (of-le k a p) ∙ ap of_le (front ∙ ap (take k) e ∙ back) ∙ of-le k b q

-- As many things, one after another.
pub chain-code : {A : Type 0} (enc : A → List ℕ) (Range : A → Type 0) → Code enc Range
    → (l m : List A) (r s : List ℕ) → length l ≡ length m → All Range l → All Range m
    → chain enc l ++ r ≡ chain enc m ++ s → l ≡ m
unfolding chain Each
chain-code enc R c [] [] r s n p q e = refl
chain-code enc R c [] (y ∷ m) r s n p q e = absurd (omega arith)
chain-code enc R c (x ∷ l) [] r s n p q e = absurd (omega arith)
chain-code enc R c (x ∷ l) (y ∷ m) r s n p q e =
    let f = regroup (enc x) (chain enc l) r (enc y) (chain enc m) s e in
    let h : x ≡ y = c x y (chain enc l ++ r) (chain enc m ++ s) p.0 q.0 f in
    let g = cancel-same (enc x) (enc y) (ap enc h) f in
    λ i. h i ∷ chain-code enc R c l m r s (omega arith) p.1 q.1 g i

pub cells-code : (k : ℕ) (l m r s : List ℕ) → length l ≡ length m
    → Below (256 ^ k) l → Below (256 ^ k) m → cells k l ++ r ≡ cells k m ++ s → l ≡ m
cells-code k = chain-code (le k) (λ x. x < 256 ^ k) (le-code k)

-- What stands at a place is one thing.
pub same-thing : {A : Type 0} (enc : A → List ℕ) (Range : A → Type 0) → Code enc Range
    → {src : List ℕ} {at p q : ℕ} (a b : A) → Range a → Range b
    → Stands (enc a) src at p → Stands (enc b) src at q → a ≡ b
same-thing enc R c {src} {at} {p} {q} a b h k v w =
    c a b (drop p src) (drop q src) h k (sym v.here ∙ w.here)

-- ---- a thing whose bytes begin with those of another

pub record Parts {C A : Type 0} (encC : C → List ℕ) (GoodC : C → Type 0)
    (encA : A → List ℕ) (RangeA : A → Type 0) : Type 0 where
  pub code : Code encA RangeA
  pub first : C → A
  pub rest : C → List ℕ
  pub split : (c : C) → GoodC c → encC c ≡ encA (first c) ++ rest c
  pub range : (c : C) → GoodC c → RangeA (first c)

module _ {C A : Type 0} {encC : C → List ℕ} {GoodC : C → Type 0} {encA : A → List ℕ}
    {RangeA : A → Type 0} (P : Parts encC GoodC encA RangeA) where
  -- The first part that was read is that of any such thing that stands there, and its rest stands
  -- behind it.
  pub told : {src : List ℕ} {at p : ℕ} (a : A) → RangeA a → Stands (encA a) src at p
      → (c : C) (q : ℕ) → GoodC c → Stands (encC c) src at q
      → (a ≡ P.first c) × Stands (P.rest c) src p q
  told {src} {at} {p} a ra s c q g v =
      let x = P.first c in
      let v' = stands_as (P.split c g) v in
      let f = stands-first (encA x) (P.rest c) v' in
      let e : a ≡ x = same-thing encA RangeA P.code a x ra (P.range c g) s f in
      let n : at + length (encA x) ≡ p =
      ap (λ (y : A). at + length (encA y)) (sym e) ∙ sym s.next in
      let r = stands-rest (encA x) (P.rest c) v' in
      (e, subst (λ (k : ℕ). Stands (P.rest c) src k q) n r)

  -- Two such things with the same bytes have the same first part, and the same bytes behind it.
  pub told-code : (c d : C) (r s : List ℕ) → GoodC c → GoodC d → encC c ++ r ≡ encC d ++ s
      → (P.first c ≡ P.first d) × (P.rest c ++ r ≡ P.rest d ++ s)
  told-code c d r s g h e =
      let x = P.first c in
      let y = P.first d in
      let e' : (encA x ++ P.rest c) ++ r ≡ (encA y ++ P.rest d) ++ s =
      ap (λ (l : List ℕ). l ++ r) (sym (P.split c g)) ∙ e
      ∙ ap (λ (l : List ℕ). l ++ s) (P.split d h) in
      let u = regroup (encA x) (P.rest c) r (encA y) (P.rest d) s e' in
      let w = P.code x y (P.rest c ++ r) (P.rest d ++ s) (P.range c g) (P.range d h) u in
      (w, cancel-same (encA x) (encA y) (ap encA w) u)
