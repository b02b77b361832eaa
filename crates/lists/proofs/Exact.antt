-- The reader takes exactly the printed forms of lists.
use Prim.Native.Nat.{ℕ, suc, ◌+◌, ◌≤◌, ◌<◌}
use mathlib.Core.Path.{◌≡◌, refl, sym, ap, ◌∙◌}
use mathlib.Core.Bool.{Bool, true, false, not, ◌&&◌, ◌||◌}
use mathlib.Core.List.{List, [], ◌∷◌, ◌++◌, map, append-nil}
use native.Mathlib.Omega.{arith}
use lib.Dec.{eqb, leb, ltb}
use lib.ListN.{length, take, drop, get_or, length-append, drop_of_length-le}
use lib.Seq.{take-append_seam, drop-append-add, split_at, take-length}
use borrow.Author.Tests.{eqb-true, ne_eqb, eq-eqb, leb-true, ltb-true, not-true}
use Rattle.rules.specs.Pick.{pick, pick_true, pick-false}
use Rattle.rules.specs.Every.{each}
use Rattle.rules.specs.Sizes.{record_of, left_of, right_of, proper}
use Rattle.scan.specs.Bytes.{index_after, index_of}
use Rattle.print.specs.Decimal.{decimal}
use Rattle.laws.proofs.Logic.{Or, left, right, decide, below?, or_no, and_yes, and_both, and3}
use Rattle.laws.proofs.Logic.{both-no}
use Rattle.lists.specs.Lists.{up_to, behind, ahead, parted_by, number_in, record_from, record_in}
use Rattle.lists.specs.Lists.{is_none, records_in, is_held}
use Rattle.lists.specs.Printed.{record_text, commas, joined, list_bytes}
use Rattle.lists.specs.Printed as specs
use Rattle.lists.proofs.PartLaws.{parted-more, parted-last, parted-first}
use Rattle.lists.proofs.NumberLaws.{number_is, number_read, Without}
use Rattle.lists.proofs.NumberLaws.{without_append, decimal-without, some-digit}

-- ---- where a sign stands

index-past : (b : ℕ) (s t : List ℕ) → Without b s → index_of b (s ++ (b ∷ t)) ≡ length s
unfolding index_of index_after each
index-past b [] t w = ap (λ u. index_after u (index_of b t)) (eq-eqb b b refl)
index-past b (x ∷ s) t w =
    let r = and_yes (not (eqb x b)) (each (λ y. not (eqb y b)) s) w in
    ap (λ u. index_after u (index_of b (s ++ (b ∷ t)))) (not-true (eqb x b) r.0)
    ∙ ap suc (index-past b s t r.1)

index-none : (b : ℕ) (s : List ℕ) → Without b s → index_of b s ≡ length s
unfolding index_of index_after each
index-none b [] w = refl
index-none b (x ∷ s) w =
    let r = and_yes (not (eqb x b)) (each (λ y. not (eqb y b)) s) w in
    ap (λ u. index_after u (index_of b s)) (not-true (eqb x b) r.0)
    ∙ ap suc (index-none b s r.1)

module _ (b : ℕ) (s t : List ℕ) (w : Without b s) where
  up-to-past : up_to b (s ++ (b ∷ t)) ≡ s
  up-to-past =
      ap (λ k. take k (s ++ (b ∷ t))) (index-past b s t w) ∙ take-append_seam s (b ∷ t)

  behind-past : behind b (s ++ (b ∷ t)) ≡ t
  behind-past =
      ap (λ k. drop (k + 1) (s ++ (b ∷ t))) (index-past b s t w) ∙ drop-append-add s (b ∷ t) 1

index-found : (b : ℕ) (s : List ℕ) → index_of b s < length s → get_or s (index_of b s) 0 ≡ b
unfolding index_of index_after
index-found b [] h = absurd (omega arith)
index-found b (x ∷ s) h = go (eqb x b) refl h (index-found b s)
  where
    go : (t : Bool) → eqb x b ≡ t → index_after t (index_of b s) < suc (length s)
        → (index_of b s < length s → get_or s (index_of b s) 0 ≡ b)
        → get_or (x ∷ s) (index_after t (index_of b s)) 0 ≡ b
    go true e k rest = eqb-true x b e
    go false e k rest = rest (omega arith)

-- a text that has the sign is what stands before it, the sign, and what stands behind it
cut_at_sign : (b : ℕ) (s : List ℕ) → index_of b s < length s → s ≡ up_to b s ++ (b ∷ behind b s)
cut_at_sign b s h =
    let k = index_of b s in
    let e : suc k ≡ k + 1 = omega arith in
    split_at s k 0 h
    ∙ (λ i. take k s ++ (index-found b s h i ∷ drop (e i) s))

-- ---- a record

colon : (d : ℕ) → d < 10 → 48 + d ≡ 58 → ⊥
colon d h e = omega arith

comma : (d : ℕ) → d < 10 → 48 + d ≡ 44 → ⊥
comma d h e = omega arith

pub record Halves (r : ℕ) : Type 0 where
  pub left-some : 1 ≤ left_of r
  pub left-small : left_of r < 4294967296
  pub right-some : 1 ≤ right_of r

halves : (r : ℕ) → proper r ≡ true → Halves r
unfolding proper
halves r e =
    let p = and3 (leb 1 (left_of r)) (ltb (left_of r) 4294967296) (leb 1 (right_of r)) e in
    record {
      left-some = leb-true 1 (left_of r) p.0;
      left-small = ltb-true (left_of r) 4294967296 p.1;
      right-some = leb-true 1 (right_of r) p.2;
    }

record_read : (r : ℕ) → proper r ≡ true → record_in (record_text r) ≡ r
unfolding record_in record_from
record_read r e =
    let h = halves r e in
    let a = h.left-some in
    let b = h.left-small in
    let c = h.right-some in
    let l = decimal (left_of r) in
    let w = decimal-without 58 colon (left_of r) b in
    let right-small : right_of r < 4294967296 = omega arith in
    let one : number_in (up_to 58 (record_text r)) ≡ left_of r =
    ap number_in (up-to-past 58 l (decimal (right_of r)) w) ∙ number_read (left_of r) b in
    let two : number_in (behind 58 (record_text r)) ≡ right_of r =
    ap number_in (behind-past 58 l (decimal (right_of r)) w)
    ∙ number_read (right_of r) right-small in
    let whole : record_of (left_of r) (right_of r) ≡ r = omega arith in
    (λ i. record_from (one i) (two i))
    ∙ pick-false _ _ _
    (λ i. ne_eqb (left_of r) 0 (λ z. omega arith) i || ne_eqb (right_of r) 0 (λ z. omega arith) i)
    ∙ whole

-- a record that was read from two numbers
two-numbers : (l r : ℕ) → (record_from l r ≡ 0 → ⊥)
    → (l ≡ 0 → ⊥) × (r ≡ 0 → ⊥) × (record_from l r ≡ record_of l r)
unfolding record_from
two-numbers l r some = go (decide (eqb l 0 || eqb r 0))
  where
    go : Or ((eqb l 0 || eqb r 0) ≡ true) ((eqb l 0 || eqb r 0) ≡ false)
        → (l ≡ 0 → ⊥) × (r ≡ 0 → ⊥) × (record_from l r ≡ record_of l r)
    go (left t) = absurd (some (pick_true _ _ _ t))
    go (right t) =
        let p = or_no (eqb l 0) (eqb r 0) t in (
          λ z. both-no (eq-eqb l 0 z) p.0,
          λ z. both-no (eq-eqb r 0 z) p.1,
          pick-false _ _ _ t,
        )

record-text : (s : List ℕ) → (record_in s ≡ 0 → ⊥) → s ≡ record_text (record_in s)
unfolding record_in
record-text s some =
    let l = number_in (up_to 58 s) in
    let r = number_in (behind 58 s) in
    let t = two-numbers l r some in
    let p = number_is (up_to 58 s) t.0 in
    let q = number_is (behind 58 s) t.1 in
    let ls = p.small in
    let rs = q.small in
    let whole : record_in s ≡ record_of l r = t.2 in
    let el : left_of (record_of l r) ≡ l = omega arith in
    let er : right_of (record_of l r) ≡ r = omega arith in
    cut_at_sign 58 s (there s r q.text)
    ∙ (λ i. p.text i ++ (58 ∷ q.text i))
    ∙ (λ i. decimal (sym el i) ++ (58 ∷ decimal (sym er i)))
    ∙ ap record_text (sym whole)
  where
    there : (s : List ℕ) (x : ℕ) → behind 58 s ≡ decimal x → index_of 58 s < length s
    there s x e = go (below? (index_of 58 s) (length s))
      where
        go : Or (index_of 58 s < length s) (length s ≤ index_of 58 s) → index_of 58 s < length s
        go (left h) = h
        go (right h) =
            let past : length s ≤ index_of 58 s + 1 = omega arith in
            let none : behind 58 s ≡ [] = drop_of_length-le s past in
            let m : length (decimal x) ≡ 0 = ap length (sym e ∙ none) in
            absurd (omega (arith, some-digit x))

-- ---- lists of texts

joined-parted : (s : List ℕ) → joined (parted_by 44 s) ≡ s
unfolding parted_by pick commas
joined-parted [] = refl
joined-parted (x ∷ s) =
    let p = parted-first 44 s in go (eqb x 44) refl p.0 p.1 (joined-parted s)
  where
    go : (t : Bool) → eqb x 44 ≡ t → (rest : List (List ℕ))
        → parted_by 44 s ≡ up_to 44 s ∷ rest → joined (parted_by 44 s) ≡ s
        → joined (pick t ([] ∷ parted_by 44 s) (ahead x (parted_by 44 s))) ≡ x ∷ s
    go true e rest q f =
        ap (λ ts. joined ([] ∷ ts)) q
        ∙ (λ i. sym (eqb-true x 44 e) i ∷ (sym (ap joined q) ∙ f) i)
    go false e rest q f =
        ap (λ ts. joined (ahead x ts)) q ∙ (λ i. x ∷ (sym (ap joined q) ∙ f) i)

text-without : (r : ℕ) → proper r ≡ true → Without 44 (record_text r)
unfolding each
text-without r e =
    let h = halves r e in
    let b = h.left-small in
    let right-small : right_of r < 4294967296 = omega arith in
    without_append 44 (decimal (left_of r)) (58 ∷ decimal (right_of r))
    (decimal-without 44 comma (left_of r) b)
    (and_both refl (decimal-without 44 comma (right_of r) right-small))

parted-list : (r : ℕ) (rs : List ℕ) → each proper (r ∷ rs) ≡ true
    → parted_by 44 (joined (map record_text (r ∷ rs))) ≡ map record_text (r ∷ rs)
unfolding each commas
parted-list r [] e =
    let t = record_text r in
    let w = text-without r (and_yes (proper r) true e).0 in
    let k = index-none 44 t w in
    ap (parted_by 44) (append-nil t) ∙ parted-last 44 t (omega arith)
    ∙ (λ i. (ap (λ j. take j t) k ∙ take-length t) i ∷ [])
parted-list r (q ∷ rs) e =
    let t = record_text r in
    let p = and_yes (proper r) (each proper (q ∷ rs)) e in
    let rest = joined (map record_text (q ∷ rs)) in
    let w = text-without r p.0 in
    let k = index-past 44 t rest w in
    let l = length-append t (44 ∷ rest) in
    parted-more 44 (t ++ (44 ∷ rest)) (omega arith)
    ∙ (λ i. up-to-past 44 t rest w i
    ∷ (ap (parted_by 44) (behind-past 44 t rest w) ∙ parted-list q rs p.1) i)

read_all : (rs : List ℕ) → each proper rs ≡ true → map record_in (map record_text rs) ≡ rs
unfolding each
read_all [] e = refl
read_all (r ∷ rs) e =
    let p = and_yes (proper r) (each proper rs) e in
    (λ i. record_read r p.0 i ∷ read_all rs p.1 i)

text-all : (ts : List (List ℕ)) → each is_held (map record_in ts) ≡ true
    → map record_text (map record_in ts) ≡ ts
unfolding each
text-all [] e = refl
text-all (t ∷ ts) e =
    let p = and_yes (is_held (record_in t)) (each is_held (map record_in ts)) e in
    let some : record_in t ≡ 0 → ⊥ =
    λ z. both-no (eq-eqb (record_in t) 0 z) (not-true (eqb (record_in t) 0) p.0) in
    (λ i. sym (record-text t some) i ∷ text-all ts p.1 i)

back : (rs : List ℕ) → each proper rs ≡ true → records_in (list_bytes rs) ≡ rs
unfolding records_in commas
back [] e = pick_true _ _ _ refl
back (r ∷ rs) e =
    let s = list_bytes (r ∷ rs) in
    let d = decimal (left_of r) in
    let c = length-append (record_text r) (commas (map record_text rs)) in
    let m = length-append d (58 ∷ decimal (right_of r)) in
    let not-one : length s ≡ 1 → ⊥ =
    λ z. omega (arith, c, m, some-digit (left_of r), some-digit (right_of r), z) in
    pick-false _ _ _ (ap (λ b. b && eqb (get_or s 0 0) 45) (ne_eqb (length s) 1 not-one))
    ∙ ap (map record_in) (parted-list r rs e) ∙ read_all (r ∷ rs) e

none_is : (s : List ℕ) → is_none s ≡ true → s ≡ 45 ∷ []
none_is [] e = absurd (both-no e refl)
none_is (x ∷ []) e = ap (λ y. y ∷ []) (eqb-true x 45 e)
none_is (x ∷ y ∷ s) e =
    let p = and_yes (eqb (length (x ∷ y ∷ s)) 1) (eqb x 45) e in
    let z : length (x ∷ y ∷ s) ≡ 1 = eqb-true (length (x ∷ y ∷ s)) 1 p.0 in
    absurd (omega arith)

text : (s : List ℕ) → each is_held (records_in s) ≡ true → s ≡ list_bytes (records_in s)
unfolding records_in
text s e = go (decide (is_none s))
  where
    go : Or (is_none s ≡ true) (is_none s ≡ false) → s ≡ list_bytes (records_in s)
    go (left t) = none_is s t ∙ ap list_bytes (sym (pick_true _ _ _ t))
    go (right t) =
        let p = parted-first 44 s in
        let ts = up_to 44 s ∷ p.0 in
        let all : records_in s ≡ map record_in ts = pick-false _ _ _ t ∙ ap (map record_in) p.1 in
        let held = sym (ap (each is_held) all) ∙ e in
        sym (joined-parted s) ∙ ap joined p.1 ∙ ap joined (sym (text-all ts held))
        ∙ ap list_bytes (sym all)

pub exact : specs.Exact
exact = record { read_back = back; one-text = text }
