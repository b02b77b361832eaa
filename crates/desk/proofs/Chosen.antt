-- The nearest word is the nearest: what was found is near, and nothing that is near goes before it.
use Rattle.std.proofs.Common.{◌≡◌, ℕ, zero, suc, ◌<◌, ◌≤◌, true, false, not, ◌&&◌, ◌||◌, eqb, ltb}
use Rattle.std.proofs.Common.{leb, List, [], ◌∷◌, length, get_or, sym, refl, ap, ◌∙◌, arith}
use Rattle.std.proofs.Common.{ltb-false, ltb-true, eq-eqb, ne_eqb, eqb-true, le-leb, leb-true}
use borrow.Author.Tests.{eqb-false}
use borrow.Author.Tests.{not-true}
use Rattle.laws.proofs.Logic.{Or, left, right, decide, both-no, and_yes, and_both, or_cases, or_no}
use Rattle.laws.proofs.Logic.{pick_elim, same?}
use Rattle.desk.specs.Sides.{frame_of, tick_of}
use Rattle.desk.specs.Near.{apart, near, before, better, nearest_from}

pub apart-both : (a b : ℕ) → apart a b ≡ apart b a
unfolding apart
apart-both a b = omega arith

-- ---- near, and before

pub near-says : (t w : ℕ) → near t w ≡ true
    → (frame_of w ≡ 0 → ⊥) × (apart t (tick_of w) ≤ 40)
unfolding near
near-says t w e =
    let p = and_yes (not (eqb (frame_of w) 0)) (leb (apart t (tick_of w)) 40) e in
    (eqb-false _ _ (not-true _ p.0), leb-true _ _ p.1)

pub near-made : (t w : ℕ) → (frame_of w ≡ 0 → ⊥) → apart t (tick_of w) ≤ 40 → near t w ≡ true
unfolding near
near-made t w n h = and_both (ap not (ne_eqb _ _ n)) (le-leb _ _ h)

-- r does not come after w
pub record NotAfter (t r w : ℕ) : Type 0 where
  pub least : apart t (tick_of r) ≤ apart t (tick_of w)
  pub lower : apart t (tick_of r) ≡ apart t (tick_of w) → frame_of r ≤ frame_of w

same_after : (t r : ℕ) → NotAfter t r r
same_after t r = record { least = omega arith; lower = λ e. omega arith }

after-after : (t : ℕ) {r m w : ℕ} → NotAfter t r m → NotAfter t m w → NotAfter t r w
after-after t {r} {m} {w} p q =
    let a = p.least in
    let b = q.least in
    record {
      least = omega arith;
      lower = λ e.
          let c = p.lower (omega arith) in
          let d = q.lower (omega arith) in
          omega arith;
    }

before-yes : (t w v : ℕ) → before t w v ≡ true → NotAfter t w v
unfolding before
before-yes t w v e = go (or_cases _ _ e)
  where
    go : Or (ltb (apart t (tick_of w)) (apart t (tick_of v)) ≡ true)
        ((eqb (apart t (tick_of w)) (apart t (tick_of v)) && ltb (frame_of w) (frame_of v)) ≡ true)
        → NotAfter t w v
    go (left p) =
        let h : apart t (tick_of w) < apart t (tick_of v) = ltb-true _ _ p in
        record { least = omega arith; lower = λ e. absurd (omega arith) }
    go (right p) =
        let q = and_yes (eqb (apart t (tick_of w)) (apart t (tick_of v)))
        (ltb (frame_of w) (frame_of v)) p in
        let a : apart t (tick_of w) ≡ apart t (tick_of v) = eqb-true _ _ q.0 in
        let b : frame_of w < frame_of v = ltb-true _ _ q.1 in
        record { least = omega arith; lower = λ e. omega arith }

before-no : (t w v : ℕ) → before t w v ≡ false → NotAfter t v w
unfolding before
before-no t w v e =
    let p = or_no (ltb (apart t (tick_of w)) (apart t (tick_of v)))
    (eqb (apart t (tick_of w)) (apart t (tick_of v)) && ltb (frame_of w) (frame_of v)) e in
    let a = ltb-false _ _ p.0 in
    record { least = a; lower = λ q. go q (below p.1 (sym q)) }
  where
    below : (eqb (apart t (tick_of w)) (apart t (tick_of v)) && ltb (frame_of w) (frame_of v))
        ≡ false
        → apart t (tick_of w) ≡ apart t (tick_of v) → ltb (frame_of w) (frame_of v) ≡ false
    below n q = go' (decide (ltb (frame_of w) (frame_of v)))
      where
        go' : Or (ltb (frame_of w) (frame_of v) ≡ true) (ltb (frame_of w) (frame_of v) ≡ false)
            → ltb (frame_of w) (frame_of v) ≡ false
        go' (left y) = absurd (both-no (and_both (eq-eqb _ _ q) y) n)
        go' (right y) = y

    go : apart t (tick_of v) ≡ apart t (tick_of w) → ltb (frame_of w) (frame_of v) ≡ false
        → frame_of v ≤ frame_of w
    go q n = ltb-false _ _ n

-- ---- one word more

-- what was found so far is nothing or near
abbrev Good : ℕ → ℕ → Type 0
Good t found = Or (found ≡ 0) (near t found ≡ true)

-- m is the better of found and w
record Better (t found w m : ℕ) : Type 0 where
  from : Or (m ≡ found) (m ≡ w)
  good : Good t m
  nothing : m ≡ 0 → (found ≡ 0) × (near t w ≡ false)
  old : (m ≡ 0 → ⊥) → (found ≡ 0 → ⊥) → NotAfter t m found
  new : (m ≡ 0 → ⊥) → near t w ≡ true → NotAfter t m w

near_word : (t w : ℕ) → near t w ≡ true → w ≡ 0 → ⊥
near_word t w e z = (near-says t w e).0 (ap frame_of z)

better-is : (t found w : ℕ) → Good t found → Better t found w (better t found w)
unfolding better
better-is t found w g =
    pick_elim (Better t found w) (near t w && (eqb found 0 || before t w found)) yes no
  where
    yes : (near t w && (eqb found 0 || before t w found)) ≡ true → Better t found w w
    yes e =
        let p = and_yes (near t w) (eqb found 0 || before t w found) e in
        record {
          from = right refl;
          good = right p.0;
          nothing = λ z. absurd (near_word t w p.0 z);
          old = λ n k. ahead k (or_cases (eqb found 0) (before t w found) p.1);
          new = λ n k. same_after t w;
        }
      where
        ahead : (found ≡ 0 → ⊥) → Or (eqb found 0 ≡ true) (before t w found ≡ true)
            → NotAfter t w found
        ahead k (left z) = absurd (k (eqb-true _ _ z))
        ahead k (right b) = before-yes t w found b

    no : (near t w && (eqb found 0 || before t w found)) ≡ false → Better t found w found
    no e = record {
      from = left refl;
      good = g;
      nothing = λ z. (z, far z (decide (near t w)));
      old = λ n k. same_after t found;
      new = λ n k. behind n k;
    }
      where
        far : found ≡ 0 → Or (near t w ≡ true) (near t w ≡ false) → near t w ≡ false
        far z (left y) =
            absurd (both-no (and_both y (rw (eq-eqb _ _ z) refl)) e)
        far z (right y) = y

        last : near t w ≡ true → (found ≡ 0 → ⊥) → Or (before t w found ≡ true)
            (before t w found ≡ false) → before t w found ≡ false
        last y n (left b) = absurd (both-no (and_both y (rw (ne_eqb _ _ n) b)) e)
        last y n (right b) = b

        behind : (found ≡ 0 → ⊥) → near t w ≡ true → NotAfter t found w
        behind n y = before-no t w found (last y n (decide (before t w found)))

-- ---- all words

-- r is what is found in the end, going on with found
pub record Found (t found : ℕ) (ws : List ℕ) (r : ℕ) : Type 0 where
  pub from : Or (r ≡ found) ((i : ℕ) × (i < length ws) × (get_or ws i 0 ≡ r))
  pub good : Or (r ≡ 0) (near t r ≡ true)
  pub nothing : r ≡ 0 → (found ≡ 0) × ((i : ℕ) → i < length ws → near t (get_or ws i 0) ≡ false)
  pub old : (r ≡ 0 → ⊥) → (found ≡ 0 → ⊥) → NotAfter t r found
  pub new : (r ≡ 0 → ⊥) → (i : ℕ) → i < length ws → near t (get_or ws i 0) ≡ true
      → NotAfter t r (get_or ws i 0)

module _ (t found w : ℕ) (ws : List ℕ) {m r : ℕ} (b : Better t found w m) (f : Found t m ws r) where
  came : Or (r ≡ found) ((i : ℕ) × (i < suc (length ws)) × (get_or (w ∷ ws) i 0 ≡ r))
  came = first f.from
    where
      second : r ≡ m → Or (m ≡ found) (m ≡ w)
          → Or (r ≡ found) ((i : ℕ) × (i < suc (length ws)) × (get_or (w ∷ ws) i 0 ≡ r))
      second e (left p) = left (e ∙ p)
      second e (right p) = right (0, omega arith, sym (e ∙ p))

      first : Or (r ≡ m) ((i : ℕ) × (i < length ws) × (get_or ws i 0 ≡ r))
          → Or (r ≡ found) ((i : ℕ) × (i < suc (length ws)) × (get_or (w ∷ ws) i 0 ≡ r))
      first (left e) = second e b.from
      first (right p) = let h = p.1 in right (suc p.0, omega arith, p.2)

  none : r ≡ 0 → (i : ℕ) → i < suc (length ws) → near t (get_or (w ∷ ws) i 0) ≡ false
  none z zero h = (b.nothing (f.nothing z).0).1
  none z (suc i) h = (f.nothing z).1 i (omega arith)

  later : (r ≡ 0 → ⊥) → (found ≡ 0 → ⊥) → Or (m ≡ 0) (m ≡ 0 → ⊥) → NotAfter t r found
  later n k (left z) = absurd (k (b.nothing z).0)
  later n k (right z) = after-after t (f.old n z) (b.old z k)

  here : (r ≡ 0 → ⊥) → near t w ≡ true → Or (m ≡ 0) (m ≡ 0 → ⊥) → NotAfter t r w
  here n y (left z) = absurd (both-no y (b.nothing z).1)
  here n y (right z) = after-after t (f.old n z) (b.new z y)

  after : (r ≡ 0 → ⊥) → (i : ℕ) → i < suc (length ws) → near t (get_or (w ∷ ws) i 0) ≡ true
      → NotAfter t r (get_or (w ∷ ws) i 0)
  after n zero h y = here n y (same? m 0)
  after n (suc i) h y = f.new n i (omega arith) y

  one-more : Found t found (w ∷ ws) r
  one-more = record {
    from = came;
    good = f.good;
    nothing = λ z. ((b.nothing (f.nothing z).0).0, none z);
    old = λ n k. later n k (same? m 0);
    new = after;
  }

found-is : (t found : ℕ) (ws : List ℕ) → Good t found → Found t found ws (nearest_from t found ws)
unfolding nearest_from
found-is t found [] g = record {
  from = left refl;
  good = g;
  nothing = λ z. (z, λ i h. absurd (omega arith));
  old = λ n k. same_after t found;
  new = λ n i h. absurd (omega arith);
}
found-is t found (w ∷ ws) g =
    let b = better-is t found w g in
    one-more t found w ws b (found-is t (better t found w) ws b.good)

pub nearest-is : (t : ℕ) (ws : List ℕ) → Found t 0 ws (nearest_from t 0 ws)
nearest-is t ws = found-is t 0 ws (left refl)
