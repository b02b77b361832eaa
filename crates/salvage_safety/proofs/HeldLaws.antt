-- Of the boxes that keep a number: how many they are, and that they have one record.
use mathlib.Core.Path.{◌≡◌, refl, sym, ap, ◌∙◌, subst}
use mathlib.Core.Bool.{Bool, true, false, cond}
use Prim.Native.Nat.{ℕ, zero, suc, ◌+◌, ◌≤◌, ◌<◌}
use native.Mathlib.Omega.{arith}
use mathlib.Core.List.{List, [], ◌∷◌, ◌++◌, map}
use lib.Dec.{eqb}
use lib.ListN.{length, length-append}
use borrow.Author.Tests.{eq-eqb, ne_eqb, eqb-true, eqb-false}
use Rattle.std.proofs.lemmas.List.{map-append}
use Rattle.rules.specs.Pick.{pick_true}
use Rattle.rules.specs.Every.{each, tally}
use Rattle.rules.proofs.BoundLaws.{first-of, second-of}
use Rattle.image.specs.Image.{numbers_from}
use Rattle.image.proofs.OrderLaws.{from_snoc}
use Rattle.salvage.specs.Loads.{held, record_text, load_text}
use Rattle.salvage.proofs.SaidLaws.{held-skip, held-keep}

-- a box that passes counts as one
abbrev one : Bool → ℕ
one t = cond t 1 0

held_snoc : (xs : List ℕ) (x : ℕ) → held (xs ++ (x ∷ [])) ≡ held xs ++ held (x ∷ [])
unfolding held
held_snoc [] x = refl
held_snoc (y ∷ ys) x = go (held_snoc ys x) (eqb y 0) refl
  where
    go : held (ys ++ (x ∷ [])) ≡ held ys ++ held (x ∷ []) → (t : Bool) → eqb y 0 ≡ t
        → held (y ∷ (ys ++ (x ∷ []))) ≡ held (y ∷ ys) ++ held (x ∷ [])
    go ih true e =
        held-skip y (ys ++ (x ∷ [])) e ∙ ih
        ∙ ap (λ (l : List ℕ). l ++ held (x ∷ [])) (sym (held-skip y ys e))
    go ih false e =
        held-keep y (ys ++ (x ∷ [])) e ∙ ap (λ (l : List ℕ). y ∷ l) ih
        ∙ ap (λ (l : List ℕ). l ++ held (x ∷ [])) (sym (held-keep y ys e))

each_snoc : (q : ℕ → Bool) (xs ys : List ℕ) → each q xs ≡ true → each q ys ≡ true
    → each q (xs ++ ys) ≡ true
unfolding each
each_snoc q [] ys e f = f
each_snoc q (x ∷ xs) ys e f =
    let a = first-of (q x) _ e in
    let b = each_snoc q xs ys (second-of (q x) _ e) f in
    rw (a, b)

module _ (p : ℕ → Bool) (g : ℕ → ℕ) (n : ℕ)
    (no : (b : ℕ) → 1 ≤ b → b ≤ n → p b ≡ false → g b ≡ 0)
    (yes : (b : ℕ) → 1 ≤ b → b ≤ n → p b ≡ true → g b ≡ 0 → ⊥) where
  abbrev listed : ℕ → List ℕ
  listed m = held (map g (numbers_from 1 m))

  next : (m : ℕ) → listed (suc m) ≡ listed m ++ held (g (suc m) ∷ [])
  next m =
      let up : 1 + m ≡ suc m = omega arith in
      ap (λ (l : List ℕ). held (map g l)) (from_snoc 1 m)
      ∙ ap held (map-append g (numbers_from 1 m) ((1 + m) ∷ []))
      ∙ held_snoc (map g (numbers_from 1 m)) (g (1 + m))
      ∙ ap (λ (b : ℕ). listed m ++ held (g b ∷ [])) up

  last_none : (m : ℕ) → suc m ≤ n → p (suc m) ≡ false → held (g (suc m) ∷ []) ≡ []
  unfolding held
  last_none m h e =
      held-skip (g (suc m)) [] (eq-eqb (g (suc m)) 0 (no (suc m) (omega arith) h e))

  last_some : (m : ℕ) → suc m ≤ n → p (suc m) ≡ true
      → held (g (suc m) ∷ []) ≡ g (suc m) ∷ []
  unfolding held
  last_some m h e =
      held-keep (g (suc m)) [] (ne_eqb (g (suc m)) 0 (yes (suc m) (omega arith) h e))

  pub count-true : (m : ℕ) → m ≤ n → length (listed m) ≡ tally m p
  unfolding tally held numbers_from
  count-true zero h = refl
  count-true (suc m) h = go (count-true m (omega arith)) (p (suc m)) refl
    where
      go : length (listed m) ≡ tally m p → (t : Bool) → p (suc m) ≡ t
          → length (listed (suc m)) ≡ tally (suc m) p
      go ih true e =
          let l = ap length (next m ∙ ap (λ (r : List ℕ). listed m ++ r) (last_some m h e)) in
          let a = length-append (listed m) (g (suc m) ∷ []) in
          let c = ap one e in
          omega arith
      go ih false e =
          let l = ap length (next m ∙ ap (λ (r : List ℕ). listed m ++ r) (last_none m h e)) in
          let a = length-append (listed m) [] in
          let c = ap one e in
          omega arith

  module _ (r : ℕ) (same : (b : ℕ) → 1 ≤ b → b ≤ n → p b ≡ true → r ≡ g b) where
    pub all_same : (m : ℕ) → m ≤ n → each (eqb r) (listed m) ≡ true
    unfolding each held numbers_from
    all_same zero h = refl
    all_same (suc m) h = go (all_same m (omega arith)) (p (suc m)) refl
      where
        go : each (eqb r) (listed m) ≡ true → (t : Bool) → p (suc m) ≡ t
            → each (eqb r) (listed (suc m)) ≡ true
        go ih true e =
            let x = eq-eqb r (g (suc m)) (same (suc m) (omega arith) h e) in
            ap (each (eqb r)) (next m ∙ ap (λ (l : List ℕ). listed m ++ l) (last_some m h e))
            ∙ each_snoc (eqb r) (listed m) (g (suc m) ∷ []) ih (rw x)
        go ih false e =
            ap (each (eqb r)) (next m ∙ ap (λ (l : List ℕ). listed m ++ l) (last_none m h e))
            ∙ each_snoc (eqb r) (listed m) [] ih refl

-- a box that keeps it is counted
pub tally-some : (n : ℕ) (p : ℕ → Bool) (b : ℕ) → 1 ≤ b → b ≤ n → p b ≡ true → 0 < tally n p
unfolding tally
tally-some zero p b l h e = absurd (let no : ⊥ = omega arith in no)
tally-some (suc n) p b l h e = go (λ m. tally-some n p b l m e) (eqb b (suc n)) refl
  where
    go : (b ≤ n → 0 < tally n p) → (t : Bool) → eqb b (suc n) ≡ t
        → 0 < one (p (suc n)) + tally n p
    go ih true t =
        let c = ap one (sym (ap p (eqb-true b (suc n) t)) ∙ e) in
        omega arith
    go ih false t =
        let no = eqb-false b (suc n) t in
        let more = ih (omega (arith, no)) in
        omega arith

-- the line of a number whose records are all r
pub line-is : (k r t : ℕ) (hs : List ℕ) → each (eqb r) hs ≡ true → length hs ≡ t → 0 < t
    → load_text k hs ≡ record_text k r t
unfolding each
line-is k r t [] e l h = absurd (let no : ⊥ = omega arith in no)
line-is k r t (x ∷ hs) e l h =
    let is = eqb-true r x (first-of (eqb r x) _ e) in
    let rest = second-of (eqb r x) _ e in
    let all : each (eqb x) hs ≡ true =
    subst (λ (y : ℕ). each (eqb y) hs ≡ true) is rest in
    pick_true (each (eqb x) hs) _ _ all ∙ (λ i. record_text k (sym is i) (l i))

pub line-none : (k : ℕ) (hs : List ℕ) → length hs ≡ 0 → load_text k hs ≡ []
line-none k [] e = refl
line-none k (x ∷ hs) e = absurd (let no : ⊥ = omega arith in no)
