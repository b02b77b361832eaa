-- What boxes keep for a number: one by one, and the numbers that none keeps.
use mathlib.Core.Path.{◌≡◌, refl, sym, ap, ◌∙◌, subst}
use mathlib.Core.Bool.{Bool, true, false, ◌&&◌}
use Prim.Native.Nat.{ℕ, zero, suc, ◌+◌, ◌-◌, ◌*◌, ◌≤◌, ◌<◌}
use native.Mathlib.Omega.{arith}
use mathlib.Core.List.{List, [], ◌∷◌, map}
use lib.Dec.{leb, eqb}
use lib.ListN.{get_or}
use borrow.Author.Tests.{leb-true, leb-false, eqb-true, eqb-false, le-leb, lt-leb, eq-eqb}
use Rattle.rules.specs.Pick.{pick_true, pick-false}
use Rattle.rules.specs.Sizes.{within}
use Rattle.image.specs.Image.{numbers_from}
use Rattle.image.specs.Longest.{box_head_long}
use Rattle.bodies.specs.Contents.{body_of}
use Rattle.found.specs.Stands.{word_at}
use Rattle.found.specs.Found.{first_in}
use Rattle.salvage.specs.declared.loads.Tally.{Tally}
use Rattle.salvage.specs.Table.{box_body_of}
use Rattle.salvage.specs.Loads.{last_in, kept_in, kept_by, held}
use Rattle.salvage.specs.Tally.{flagged, none_yet, added, tallied}
use Rattle.salvage.specs.Tally.{Skips, SkipsAll}

-- ---- one box

module _ (readable : Bool) (n : ℕ) (body : List ℕ) (k : ℕ) where
  abbrev test : Bool
  test = readable && within (first_in body) (last_in body) k

  kept-none : test ≡ false → 0 ≡ kept_in readable n body k
  unfolding kept_in
  kept-none e = sym (pick-false test _ _ e)

  pub kept-aside : readable ≡ false → 0 ≡ kept_in readable n body k
  kept-aside e = kept-none (rw e)

  module _ {first last : ℕ} (ef : first ≡ first_in body) (el : last ≡ last_in body) where
    pub kept-below : readable ≡ true → k < first → 0 ≡ kept_in readable n body k
    kept-below t h = kept-none (rw (t, lt-leb (first_in body) k (omega arith)))

    pub kept_above : readable ≡ true → first ≤ k → last < k → 0 ≡ kept_in readable n body k
    kept_above t l h =
        kept-none
        (rw (t, le-leb (first_in body) k (omega arith), lt-leb k (last_in body) (omega arith)))

    pub kept-is : {head place r : ℕ} → readable ≡ true → first ≤ k → k ≤ last
        → head ≡ box_head_long n → place ≡ k - first → r ≡ word_at 8 body (head + 8 * place)
        → r ≡ kept_in readable n body k
    unfolding kept_in
    kept-is {head} {place} t l m long p e =
        let is : test ≡ true =
        rw (t, le-leb (first_in body) k (omega arith), le-leb k (last_in body) (omega arith)) in
        let here : head + 8 * place ≡ box_head_long n + 8 * (k - first_in body) = omega arith in
        e ∙ ap (word_at 8 body) here ∙ sym (pick_true test _ _ is)

-- the first number that a box may keep
module _ (readable : Bool) (body : List ℕ) {k first last : ℕ} (ef : first ≡ first_in body)
    (el : last ≡ last_in body) where
  pub skips_aside : (r : ℕ) → readable ≡ false → k ≤ r → (n : ℕ) → Skips readable n body k r
  skips_aside r e h n =
      record { from = h; none = λ j l m. sym (kept-aside readable n body j e) }

  pub skips_past : (r : ℕ) → readable ≡ true → last < k → k ≤ r
      → (n : ℕ) → Skips readable n body k r
  skips_past r t h f n =
      record {
        from = f;
        none = λ j l m. sym (after j (omega arith));
      }
    where
      after : (j : ℕ) → last < j → 0 ≡ kept_in readable n body j
      after j a = go (leb first j) refl
        where
          go : (b : Bool) → leb first j ≡ b → 0 ≡ kept_in readable n body j
          go true e = kept_above readable n body j ef el t (leb-true first j e) a
          go false e =
              kept-below readable n body j ef el t (leb-false first j e)

  pub skips_first : readable ≡ true → k < first → (n : ℕ) → Skips readable n body k first
  skips_first t h n =
      record {
        from = omega arith;
        none = λ j l m. sym (kept-below readable n body j ef el t m);
      }

  pub skips_none : (n : ℕ) → Skips readable n body k k
  skips_none n = record {
    from = omega arith;
    none = λ j l m. absurd (let no : ⊥ = omega arith in no);
  }

-- ---- all boxes

module _ (f : ℕ → Bool) (im : List ℕ) (n k : ℕ) where
  abbrev keeps : ℕ → ℕ
  keeps b = kept_in (f b) n (box_body_of im b) k

  -- i boxes are counted
  pub record TallyTo (i : ℕ) (t : Tally) : Type 0 where
    pub few : i ≤ n
    pub many : t.many ≤ i
    pub is : tallied none_yet (kept_by f im n k)
        ≡ tallied t (map keeps (numbers_from (suc i) (n - i)))

  pub tally-none : TallyTo 0 none_yet
  tally-none =
      let all : n ≡ n - 0 = omega arith in
      record {
        few = omega arith;
        many = omega arith;
        is = ap (λ (m : ℕ). tallied none_yet (map keeps (numbers_from 1 m))) all;
      }

  pub tally-more : {i r : ℕ} {t u : Tally} → TallyTo i t → i < n → r ≡ keeps (suc i)
      → u ≡ added t r → u.many ≤ t.many + 1 → TallyTo (i + 1) u
  unfolding tallied numbers_from
  tally-more {i} {r} {t} {u} w h e a m =
      let left : n - i ≡ suc (n - (i + 1)) = omega arith in
      let one : suc i ≡ i + 1 = omega arith in
      let before = w.many in
      record {
        few = omega arith;
        many = omega arith;
        is = w.is
            ∙ ap (λ (c : ℕ). tallied t (map keeps (numbers_from (suc i) c))) left
            ∙ ap (λ (x : Tally). tallied x (map keeps (numbers_from (suc (suc i)) (n - (i + 1)))))
            (ap (added t) (sym e) ∙ sym a)
            ∙ ap (λ (b : ℕ). tallied u (map keeps (numbers_from (suc b) (n - (i + 1))))) one;
      }

  pub tally-all : {i : ℕ} {t : Tally} → TallyTo i t → n ≤ i
      → t ≡ tallied none_yet (kept_by f im n k)
  unfolding tallied numbers_from
  tally-all {i} {t} w h =
      let none : n - i ≡ zero = omega arith in
      sym (w.is ∙ ap (λ (c : ℕ). tallied t (map keeps (numbers_from (suc i) c))) none)

-- .. of the boxes that the words ks tell
pub flag-here : (ks im : List ℕ) (n k i : ℕ) {r : ℕ} {b : Bool} {body : List ℕ}
    → b ≡ eqb (get_or ks i 0) 1 → body ≡ body_of im (i + 2) → r ≡ kept_in b n body k
    → r ≡ kept_in (flagged ks (suc i)) n (box_body_of im (suc i)) k
flag-here ks im n k i eb ey e =
    let one : i ≡ suc i - 1 = omega arith in
    let two : i + 2 ≡ suc i + 1 = omega arith in
    e ∙ (λ j. kept_in ((eb ∙ ap (λ (p : ℕ). eqb (get_or ks p 0) 1) one) j) n
    ((ey ∙ ap (body_of im) two) j) k)

-- ---- the numbers that none keeps

pub skip-here : (ks im : List ℕ) (n i : ℕ) {k r : ℕ} {b : Bool} {body : List ℕ}
    → b ≡ eqb (get_or ks i 0) 1 → body ≡ body_of im (i + 2) → Skips b n body k r
    → Skips (flagged ks (suc i)) n (box_body_of im (suc i)) k r
skip-here ks im n i {k} {r} {b} eb ey s =
    let one : i ≡ suc i - 1 = omega arith in
    let two : i + 2 ≡ suc i + 1 = omega arith in
    let b-is = eb ∙ ap (λ (p : ℕ). eqb (get_or ks p 0) 1) one in
    let y-is = ey ∙ ap (body_of im) two in
    subst (λ (t : Bool). Skips t n (box_body_of im (suc i)) k r) b-is
    (subst (λ (y : List ℕ). Skips b n y k r) y-is s)

module _ (f : ℕ → Bool) (im : List ℕ) (n k : ℕ) where
  -- i boxes keep none of the numbers from k to m
  pub record SkipTo (i m : ℕ) : Type 0 where
    pub few : i ≤ n
    pub from : k ≤ m
    pub none : (j : ℕ) → k ≤ j → j < m → (b : ℕ) → 1 ≤ b → b ≤ i
        → kept_in (f b) n (box_body_of im b) j ≡ 0

  pub skip-none : {m : ℕ} → k ≤ m → SkipTo 0 m
  skip-none h = record {
    few = omega arith;
    from = h;
    none = λ j l a b one zero. absurd (let no : ⊥ = omega arith in no);
  }

  pub skip-more : {i m q r : ℕ} → SkipTo i m → i < n
      → Skips (f (suc i)) n (box_body_of im (suc i)) k q
      → r ≤ m → r ≤ q → k ≤ r → SkipTo (i + 1) r
  skip-more {i} {m} {q} {r} w h s a b c = record {
    few = omega arith;
    from = c;
    none = λ j l x y one most. pick-box j l x y one most;
  }
    where
      pick-box : (j : ℕ) → k ≤ j → j < r → (y : ℕ) → 1 ≤ y → y ≤ i + 1
          → kept_in (f y) n (box_body_of im y) j ≡ 0
      pick-box j l x y one most = go (eqb y (suc i)) refl
        where
          go : (t : Bool) → eqb y (suc i) ≡ t → kept_in (f y) n (box_body_of im y) j ≡ 0
          go true e =
              ap (λ (z : ℕ). kept_in (f z) n (box_body_of im z) j) (eqb-true y (suc i) e)
              ∙ s.none j l (omega arith)
          go false e =
              let no = eqb-false y (suc i) e in
              w.none j l (omega arith) y one (omega (arith, no))

  held-nothing : (j a m : ℕ) → ((b : ℕ) → a ≤ b → b < a + m
      → kept_in (f b) n (box_body_of im b) j ≡ 0)
      → held (map (λ b. kept_in (f b) n (box_body_of im b) j) (numbers_from a m)) ≡ []
  unfolding held numbers_from
  held-nothing j a zero none = refl
  held-nothing j a (suc m) none =
      let r = kept_in (f a) n (box_body_of im a) j in
      let rest = map (λ b. kept_in (f b) n (box_body_of im b) j) (numbers_from (suc a) m) in
      pick_true (eqb r 0) (held rest) (r ∷ held rest)
      (eq-eqb r 0 (none a (omega arith) (omega arith)))
      ∙ held-nothing j (suc a) m (λ b l h. none b (omega arith) (omega arith))

  pub skip_all : {i m : ℕ} → SkipTo i m → n ≤ i → SkipsAll f im n k m
  skip_all w h = record {
    from = w.from;
    none = λ j l a. held-nothing j 1 n
        (λ b one most. w.none j l a b one (let few = w.few in omega arith));
  }
