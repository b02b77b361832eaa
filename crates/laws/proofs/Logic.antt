-- Tests: what a test that passed says, how a test is made to pass, a choice by a test; and all
-- elements of a list.
use Prim.Native.Nat.{ℕ, zero, suc, ◌≤◌, ◌<◌}
use mathlib.Core.Path.{◌≡◌, refl, sym, ◌∙◌, subst}
use mathlib.Core.Bool.{Bool, true, false, ◌&&◌, ◌||◌, cond}
use mathlib.Core.List.{List, [], ◌∷◌, ◌++◌, tail}
use native.Mathlib.Omega.{arith}
use lib.Dec.{T, eqb, ltb}
use lib.ListN.{length, get_or, take, drop}
use borrow.Author.Tests.{eqb-true, eqb-false, eq-eqb, ltb-true, ltb-false}
use Rattle.rules.specs.Pick.{pick}
use Rattle.rules.specs.Every.{all, each, every}
use Rattle.rules.specs.Site.{twice}

pub data Or (A B : Type 0) : Type 0 where
  left : A → Or A B
  right : B → Or A B

-- a number of 1 to n
abbrev pub In : ℕ → ℕ → Type 0
In b n = (1 ≤ b) × (b ≤ n)

-- ---- one test

pub true≠false : true ≡ false → ⊥
true≠false p = subst T p tt

pub both-no : {b : Bool} → b ≡ true → b ≡ false → ⊥
both-no p q = true≠false (sym p ∙ q)

pub decide : (b : Bool) → Or (b ≡ true) (b ≡ false)
decide true = left refl
decide false = right refl

pub eqb_same : (i : ℕ) → eqb i i ≡ true
eqb_same i = eq-eqb i i refl

pub eqb_yes : (i j : ℕ) → eqb i j ≡ true → i ≡ j
eqb_yes = eqb-true

pub eqb_no : (i j : ℕ) → eqb i j ≡ false → i ≡ j → ⊥
eqb_no = eqb-false

pub same? : (i j : ℕ) → Or (i ≡ j) (i ≡ j → ⊥)
same? i j = go (decide (eqb i j))
  where
    go : Or (eqb i j ≡ true) (eqb i j ≡ false) → Or (i ≡ j) (i ≡ j → ⊥)
    go (left e) = left (eqb_yes i j e)
    go (right e) = right (eqb_no i j e)

pub below? : (i j : ℕ) → Or (i < j) (j ≤ i)
below? i j = go (decide (ltb i j))
  where
    go : Or (ltb i j ≡ true) (ltb i j ≡ false) → Or (i < j) (j ≤ i)
    go (left e) = left (ltb-true i j e)
    go (right e) = right (ltb-false i j e)

-- ---- two tests

pub and_yes : (a b : Bool) → (a && b) ≡ true → (a ≡ true) × (b ≡ true)
and_yes true b e = (refl, e)
and_yes false b e = absurd (both-no e refl)

-- .. or more, which `◌&&◌` nests to the left
pub and3 : (a b c : Bool) → (a && b && c) ≡ true → (a ≡ true) × (b ≡ true) × (c ≡ true)
and3 a b c e = let p = and_yes (a && b) c e in let q = and_yes a b p.0 in (q.0, q.1, p.1)

pub and4 : (a b c d : Bool) → (a && b && c && d) ≡ true
    → (a ≡ true) × (b ≡ true) × (c ≡ true) × (d ≡ true)
and4 a b c d e = let p = and_yes (a && b && c) d e in let q = and3 a b c p.0 in
    (q.0, q.1, q.2, p.1)

pub and5 : (a b c d f : Bool) → (a && b && c && d && f) ≡ true
    → (a ≡ true) × (b ≡ true) × (c ≡ true) × (d ≡ true) × (f ≡ true)
and5 a b c d f e =
    let p = and_yes (a && b && c && d) f e in let q = and4 a b c d p.0 in
    (q.0, q.1, q.2, q.3, p.1)

pub and6 : (a b c d f g : Bool) → (a && b && c && d && f && g) ≡ true
    → (a ≡ true) × (b ≡ true) × (c ≡ true) × (d ≡ true) × (f ≡ true) × (g ≡ true)
and6 a b c d f g e =
    let p = and_yes (a && b && c && d && f) g e in let q = and5 a b c d f p.0 in
    (q.0, q.1, q.2, q.3, q.4, p.1)

pub and_both : {a b : Bool} → a ≡ true → b ≡ true → (a && b) ≡ true
and_both {a} {b} p q = rw p q

pub or_cases : (a b : Bool) → (a || b) ≡ true → Or (a ≡ true) (b ≡ true)
or_cases true b e = left refl
or_cases false b e = right e

pub or_left : {a : Bool} (b : Bool) → a ≡ true → (a || b) ≡ true
or_left {a} b p = rw p refl

pub or_right : (a : Bool) {b : Bool} → b ≡ true → (a || b) ≡ true
or_right true q = refl
or_right false q = q

pub or_no : (a b : Bool) → (a || b) ≡ false → (a ≡ false) × (b ≡ false)
or_no true b e = absurd (both-no refl e)
or_no false b e = (refl, e)

-- ---- a choice by a test: each branch is proved with the test's answer in hand

pub cond_elim {ℓ κ} : {A : Type κ} (P : A → Type ℓ) (b : Bool) {x y : A}
    → (b ≡ true → P x) → (b ≡ false → P y) → P (cond b x y)
cond_elim P true f g = f refl
cond_elim P false f g = g refl

pub pick_elim {ℓ κ} : {A : Type κ} (P : A → Type ℓ) (b : Bool) {x y : A}
    → (b ≡ true → P x) → (b ≡ false → P y) → P (pick b x y)
unfolding pick
pick_elim P true f g = f refl
pick_elim P false f g = g refl

-- ---- several tests; `Passed` computes to the product of what each says

abbrev pub Passed : List Bool → Type 0
Passed [] = Unit {0}
Passed (b ∷ bs) = (b ≡ true) × Passed bs

pub passed : (l : List Bool) → all l ≡ true → Passed l
unfolding all
passed [] e = tt
passed (b ∷ bs) e = let p = and_yes b (all bs) e in (p.0, passed bs p.1)

pub pass : (l : List Bool) → Passed l → all l ≡ true
unfolding all
pass [] p = refl
pass (b ∷ bs) p = and_both p.0 (pass bs p.1)

-- tests that pass, put together one by one: `made (p & q & none)`
infixr 4 ◌&◌
pub data Passing : List Bool → Type 0 where
  none : Passing []
  ◌&◌ : {b : Bool} {bs : List Bool} → b ≡ true → Passing bs → Passing (b ∷ bs)

pub made : {l : List Bool} → Passing l → all l ≡ true
unfolding all
made none = refl
made (p & q) = and_both p (made q)

-- ---- every number of 1 to n

pub every-at : (n : ℕ) (p : ℕ → Bool) → every n p ≡ true → (i : ℕ) → In i n → p i ≡ true
unfolding every
every-at zero p e i h = absurd (omega arith)
every-at (suc n) p e i h = let q = and_yes (p (suc n)) (every n p) e in
    go (same? i (suc n)) q.0 (every-at n p q.1 i)
  where
    go : Or (i ≡ suc n) (i ≡ suc n → ⊥) → p (suc n) ≡ true → (In i n → p i ≡ true) → p i ≡ true
    go (left d) q below = subst (λ (k : ℕ). p k ≡ true) (sym d) q
    go (right d) q below = below (h.0, omega (arith, h.1))

pub every_made : (n : ℕ) (p : ℕ → Bool) → ((i : ℕ) → In i n → p i ≡ true) → every n p ≡ true
unfolding every
every_made zero p f = refl
every_made (suc n) p f =
    and_both (f (suc n) (omega arith, omega arith))
    (every_made n p (λ i h. f i (h.0, omega (arith, h.1))))

-- ---- all elements of a list

pub data All {ℓ κ} {A : Type ℓ} (P : A → Type κ) : List A → Type (ℓ ⊔ κ) where
  nil : All P []
  cons : {x : A} {xs : List A} → P x → All P xs → All P (x ∷ xs)

module _ {ℓ κ} {A : Type ℓ} {P : A → Type κ} where
  pub All-head : {x : A} {xs : List A} → All P (x ∷ xs) → P x
  All-head (cons p ps) = p

  pub All-tail : {l : List A} → All P l → All P (tail l)
  All-tail nil = nil
  All-tail (cons p ps) = ps

  -- wherever it stands
  pub All-in : (l : List A) (x : A) (m : List A) → All P (l ++ (x ∷ m)) → P x
  All-in [] x m h = All-head h
  All-in (y ∷ l) x m h = All-in l x m (All-tail h)

  pub All-twice : {l : List A} → All P l → All P (twice l)
  unfolding twice
  All-twice nil = nil
  All-twice (cons p ps) = cons p (cons p ps)

  pub All-append : {l m : List A} → All P l → All P m → All P (l ++ m)
  All-append nil q = q
  All-append (cons p ps) q = cons p (All-append ps q)

  pub All-take : (n : ℕ) {l : List A} → All P l → All P (take n l)
  All-take zero q = nil
  All-take (suc n) nil = nil
  All-take (suc n) (cons p ps) = cons p (All-take n ps)

  pub All-drop : (n : ℕ) {l : List A} → All P l → All P (drop n l)
  All-drop zero q = q
  All-drop (suc n) nil = nil
  All-drop (suc n) (cons p ps) = All-drop n ps

  pub All-at : {l : List A} → All P l → (j : ℕ) (d : A) → j < length l → P (get_or l j d)
  All-at nil j d h = absurd (omega arith)
  All-at (cons p ps) zero d h = p
  All-at (cons p ps) (suc j) d h = All-at ps j d (omega arith)

  pub All-made : (l : List A) (d : A) → ((j : ℕ) → j < length l → P (get_or l j d)) → All P l
  All-made [] d f = nil
  All-made (x ∷ xs) d f =
      cons (f zero (omega arith)) (All-made xs d (λ j h. f (suc j) (omega arith)))

pub All-map {ℓ κ κ'} : {A : Type ℓ} {P : A → Type κ} {Q : A → Type κ'} {l : List A}
    → ((x : A) → P x → Q x) → All P l → All Q l
All-map f nil = nil
All-map f (cons {x = x} p ps) = cons (f x p) (All-map f ps)

-- a test that each element passes
module _ {ℓ} {A : Type ℓ} (p : A → Bool) where
  pub each_all : (l : List A) → each p l ≡ true → All (λ x. p x ≡ true) l
  unfolding each
  each_all [] e = nil
  each_all (x ∷ xs) e = let q = and_yes (p x) (each p xs) e in cons q.0 (each_all xs q.1)

  pub all-each : (l : List A) → All (λ x. p x ≡ true) l → each p l ≡ true
  unfolding each
  all-each [] q = refl
  all-each (x ∷ xs) (cons h t) = and_both h (all-each xs t)

  pub each_at : (l : List A) (d : A) → each p l ≡ true → (j : ℕ) → j < length l
      → p (get_or l j d) ≡ true
  each_at l d e j h = All-at (each_all l e) j d h

  pub each-made : (l : List A) (d : A) → ((j : ℕ) → j < length l → p (get_or l j d) ≡ true)
      → each p l ≡ true
  each-made l d f = all-each l (All-made l d f)
