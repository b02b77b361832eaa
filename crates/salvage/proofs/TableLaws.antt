-- A sound table: what it says of the image, and that each of its bodies lies inside.
use mathlib.Core.Path.{◌≡◌, refl, sym, ap, ◌∙◌, subst}
use mathlib.Core.Bool.{Bool, true, false, ◌&&◌}
use Prim.Native.Nat.{ℕ, zero, suc, ◌+◌, ◌-◌, ◌*◌, ◌≤◌, ◌<◌}
use native.Mathlib.Omega.{arith}
use mathlib.Core.List.{List}
use lib.Dec.{leb, eqb}
use lib.ListN.{length}
use denote.Ref.{Bor}
use borrow.Author.Tests.{leb-true, eqb-true, eqb-false, le-leb, lt-leb, eq-eqb, ne_eqb}
use Rattle.words.specs.Rows.{part}
use Rattle.rules.specs.Pick.{pick_true}
use Rattle.rules.specs.Sizes.{within}
use Rattle.rules.proofs.BoundLaws.{first-of, second-of}
use Rattle.image.specs.Longest.{table_bytes}
use Rattle.std.specs.Prelude.{Ok}
use Rattle.bodies.specs.Contents.{Named, part_from}
use Rattle.bodies.specs.Contents.{table_number, count_of, begin_of, long_of, body_of, most_bodies}
use Rattle.bodies.specs.Contents.{has_body, named}
use Rattle.bodies.specs.Handed.{Handed}
use Rattle.salvage.specs.Table.{most_bytes, follow, sound_table, sound}

both : {a b : Bool} → a ≡ true → b ≡ true → (a && b) ≡ true
both e f = rw (e, f)

-- ---- the loop over the table

module _ (im : List ℕ) (count at : ℕ) where
  -- i bodies have followed each other up to p
  pub record FollowTo (i p : ℕ) : Type 0 where
    pub few : i ≤ count
    pub near : p ≤ at + i * 4294967296
    pub is : follow im count 1 at ≡ follow im (count - i) (suc i) p

  pub follow-none : FollowTo 0 at
  follow-none =
      let all : count ≡ count - 0 = omega arith in
      record {
        few = omega arith;
        near = omega arith;
        is = ap (λ (m : ℕ). follow im m 1 at) all;
      }

  module _ {i p begin long : ℕ} (w : FollowTo i p) (h : i < count)
      (eb : begin ≡ table_number im (2 * i + 1)) (el : long ≡ table_number im (2 * i + 2)) where
    begins : begin_of im (suc i) ≡ begin
    begins =
        let e : 2 * suc i - 1 ≡ 2 * i + 1 = omega arith in ap (table_number im) e ∙ sym eb

    longs : long_of im (suc i) ≡ long
    longs = let e : 2 * suc i ≡ 2 * i + 2 = omega arith in ap (table_number im) e ∙ sym el

    here : follow im count 1 at
        ≡ (eqb begin p && follow im (count - (i + 1)) (suc (suc i)) (p + long))
    unfolding follow
    here =
        let left : count - i ≡ suc (count - (i + 1)) = omega arith in
        w.is ∙ ap (λ (m : ℕ). follow im m (suc i) p) left
        ∙ (λ j. eqb (begins j) p && follow im (count - (i + 1)) (suc (suc i)) (p + longs j))

    pub follow-more : begin ≡ p → long < 4294967296 → FollowTo (i + 1) (p + long)
    follow-more e few =
        let near = w.near in
        let one : suc i ≡ i + 1 = omega arith in
        record {
          few = omega arith;
          near = omega arith;
          is = here
              ∙ ap (λ (t : Bool). t && follow im (count - (i + 1)) (suc (suc i)) (p + long))
              (eq-eqb begin p e)
              ∙ ap (λ (k : ℕ). follow im (count - (i + 1)) (suc k) (p + long)) one;
        }

    pub follow-stop : (begin ≡ p → ⊥) → false ≡ follow im count 1 at
    follow-stop n =
        sym (here
        ∙ ap (λ (t : Bool). t && follow im (count - (i + 1)) (suc (suc i)) (p + long))
        (ne_eqb begin p n))

  pub follow-all : {i p : ℕ} → FollowTo i p → count ≤ i
      → eqb p (length im) ≡ follow im count 1 at
  unfolding follow
  follow-all {i} {p} w h =
      let none : count - i ≡ zero = omega arith in
      sym (w.is ∙ ap (λ (m : ℕ). follow im m (suc i) p) none)

-- ---- what a sound table says

pub record SoundIs (im : List ℕ) : Type 0 where
  pub short : length im ≤ most_bytes
  pub least : 3 ≤ count_of im
  pub most : count_of im ≤ most_bodies
  pub table : table_bytes (count_of im) ≤ length im
  pub follows : follow im (count_of im) 1 (table_bytes (count_of im)) ≡ true

pub sound-is : (im : List ℕ) → sound im ≡ true → SoundIs im
unfolding sound sound_table
sound-is im e =
    let count = count_of im in
    let t = second-of (leb (length im) most_bytes) _ e in
    let w = first-of (within 3 most_bodies count) _ t in
    let rest = second-of (within 3 most_bodies count) _ t in
    record {
      short = leb-true (length im) most_bytes (first-of (leb (length im) most_bytes) _ e);
      least = leb-true 3 count (first-of (leb 3 count) _ w);
      most = leb-true count most_bodies (second-of (leb 3 count) _ w);
      table = leb-true (table_bytes count) (length im)
          (first-of (leb (table_bytes count) (length im)) _ rest);
      follows = second-of (leb (table_bytes count) (length im)) _ rest;
    }

-- how long the bodies from k on are together
unfoldable pub longs_of : List ℕ → ℕ → ℕ → ℕ
longs_of im zero k = 0
longs_of im (suc m) k = long_of im k + longs_of im m (suc k)

module _ (im : List ℕ) where
  follow-first : (m k at : ℕ) → follow im (suc m) k at ≡ true
      → (begin_of im k ≡ at) × (follow im m (suc k) (at + long_of im k) ≡ true)
  unfolding follow
  follow-first m k at e = (
    eqb-true (begin_of im k) at (first-of (eqb (begin_of im k) at) _ e),
    second-of (eqb (begin_of im k) at) _ e,
  )

  pub follow-sum : (m k at : ℕ) → follow im m k at ≡ true → at + longs_of im m k ≡ length im
  unfolding follow longs_of
  follow-sum zero k at e = let q = eqb-true at (length im) e in omega arith
  follow-sum (suc m) k at e =
      let f = follow-first m k at e in
      let s = follow-sum m (suc k) (at + long_of im k) f.1 in
      omega arith

  -- the first of them, or one behind it
  in_first : (m k at j : ℕ) → follow im (suc m) k at ≡ true
      → (follow im m (suc k) (at + long_of im k) ≡ true → suc k ≤ j
      → begin_of im j + long_of im j ≤ length im)
      → k ≤ j → (t : Bool) → eqb k j ≡ t → begin_of im j + long_of im j ≤ length im
  in_first m k at j e more l true t =
      let f = follow-first m k at e in
      let b = f.0 in
      let s = follow-sum m (suc k) (at + long_of im k) f.1 in
      let inside : begin_of im k + long_of im k ≤ length im = omega arith in
      subst (λ (i : ℕ). begin_of im i + long_of im i ≤ length im) (eqb-true k j t) inside
  in_first m k at j e more l false t =
      let f = follow-first m k at e in
      let n = eqb-false k j t in
      more f.1 (omega (arith, n))

  pub follow_in : (m k at j : ℕ) → follow im m k at ≡ true → k ≤ j → j < k + m
      → begin_of im j + long_of im j ≤ length im
  follow_in zero k at j e l h = absurd (let none : ⊥ = omega arith in none)
  follow_in (suc m) k at j e l h =
      in_first m k at j e
      (λ f more. follow_in m (suc k) (at + long_of im k) j f more (omega arith)) l (eqb k j) refl

module _ (im : List ℕ) (sure : sound im ≡ true) where
  pub body-inside : (k : ℕ) → 1 ≤ k → k ≤ count_of im → begin_of im k + long_of im k ≤ length im
  body-inside k l h =
      let s = sound-is im sure in
      follow_in im (count_of im) 1 (table_bytes (count_of im)) k s.follows l (omega arith)

  pub has-body : (k : ℕ) → 1 ≤ k → k ≤ count_of im → has_body im k ≡ true
  unfolding has_body
  has-body k l h =
      let s = sound-is im sure in
      let most = s.most in
      let table = s.table in
      both (both (le-leb 1 k l) (le-leb k most_bodies (omega arith)))
      (both (le-leb (table_bytes k) (length im) (omega arith))
      (both (le-leb k (count_of im) h)
      (le-leb (begin_of im k + long_of im k) (length im) (body-inside k l h))))

-- what the reader over the table hands out
pub body-handed : (x r : Bor (List ℕ)) (k : ℕ) → sound x.now ≡ true → 1 ≤ k
    → k ≤ count_of x.now → Handed x (named x.now k) r → r.now ≡ body_of x.now k
unfolding named
body-handed x r k sure l h w =
    let im = x.now in
    let is : named im k ≡ Ok (part_from (begin_of im k) (long_of im k)) =
    pick_true (has_body im k) _ _ (has-body im sure k l h) in
    let part = subst (λ (a : Named). Handed x a r) is w in
    part.bytes

-- ---- the tests

module _ (im : List ℕ) {count : ℕ} (is : count ≡ count_of im) where
  pub too_few : count < 3 → false ≡ sound_table im
  unfolding sound_table
  too_few h = sym (rw (lt-leb 3 (count_of im) (omega arith)))

  pub too_many : 3 ≤ count → most_bodies < count → false ≡ sound_table im
  unfolding sound_table
  too_many l h =
      sym (rw (
        le-leb 3 (count_of im) (omega arith),
        lt-leb (count_of im) most_bodies (omega arith),
      ))

  pub no_table : 3 ≤ count → count ≤ most_bodies → length im < table_bytes count
      → false ≡ sound_table im
  unfolding sound_table
  no_table l m h =
      sym (rw (
        le-leb 3 (count_of im) (omega arith),
        le-leb (count_of im) most_bodies (omega arith),
        lt-leb (table_bytes (count_of im)) (length im) (omega arith),
      ))

  pub table_is : {at : ℕ} {r : Bool} → 3 ≤ count → count ≤ most_bodies → at ≡ table_bytes count
      → at ≤ length im → r ≡ follow im count 1 at → r ≡ sound_table im
  unfolding sound_table
  table_is {at} l m a h e =
      e ∙ (λ j. follow im (is j) 1 ((a ∙ ap table_bytes is) j))
      ∙ sym (rw (
        le-leb 3 (count_of im) (omega arith),
        le-leb (count_of im) most_bodies (omega arith),
        le-leb (table_bytes (count_of im)) (length im) (omega arith),
      ))

pub too_long : (im : List ℕ) → most_bytes < length im → false ≡ sound im
unfolding sound
too_long im h = sym (rw (lt-leb (length im) most_bytes h))

pub short-is : (im : List ℕ) {r : Bool} → length im ≤ most_bytes → r ≡ sound_table im → r ≡ sound im
unfolding sound
short-is im h e = e ∙ sym (rw (le-leb (length im) most_bytes h))

-- Fewer than four bytes have no table.
pub too_short : (im : List ℕ) → length im < 4 → false ≡ sound im
too_short im h = go (sound im) refl
  where
    go : (t : Bool) → sound im ≡ t → false ≡ t
    go false e = refl
    go true e =
        let s = sound-is im e in
        let l = s.least in
        let t = s.table in
        absurd (let none : ⊥ = omega arith in none)
