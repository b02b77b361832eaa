-- The laws of a ring, over any element: its places, and one more or one less in it.
use mathlib.Core.Path.{◌≡◌, refl, ap, ◌∙◌}
use mathlib.Core.Logic.{◌≢◌}
use mathlib.Core.Bool.{Bool, true, false}
use Prim.Native.Nat.{ℕ, zero, suc, ◌+◌, ◌-◌, ◌≤◌, ◌<◌}
use native.Mathlib.Nat.{add-zero, not-suc-le-zero}
use native.Mathlib.Numerals.{add-one}
use native.Mathlib.Omega.{arith}
use mathlib.Core.List.{List, [], ◌∷◌, ◌++◌, map}
use lib.Dec.{ltb}
use lib.ListN.{length, get_or, set, get_or-map}
use lib.Seq.{drop-cons, get_or-set_same, get_or-set_other, ext_get_or}
use borrow.Author.Tests.{ltb-true, ltb-false, lt-ltb, le-ltb}
use Rattle.words.specs.Rows.{part}
use Rattle.words.specs.Ring.{slot, next, previous, ring}

-- ---- places

-- Before the ring's end, the place i places on from s is s + i.
pub slot_in : (L s i : ℕ) → s + i < L → slot L s i ≡ s + i
unfolding slot
slot_in L s i h = simp (lt-ltb (s + i) L h)

-- Past the ring's end it is L less.
pub slot-round : (L s i : ℕ) → L ≤ s + i → slot L s i ≡ s + i - L
unfolding slot
slot-round L s i h = simp (le-ltb (s + i) L h)

-- The two cases, for a place p.
data Place (L s i p : ℕ) : Type 0 where
  inside : s + i < L → p ≡ s + i → Place L s i p
  round : L ≤ s + i → p ≡ s + i - L → Place L s i p

-- Every place is one of the two.
place : (L s i : ℕ) → Place L s i (slot L s i)
place L s i = go (ltb (s + i) L) refl
  where
    go : (t : Bool) → ltb (s + i) L ≡ t → Place L s i (slot L s i)
    go true e = let h = ltb-true (s + i) L e in inside h (slot_in L s i h)
    go false e = let h = ltb-false (s + i) L e in round h (slot-round L s i h)

-- The place no places on from s is s.
pub slot-zero : (L s : ℕ) → s < L → slot L s 0 ≡ s
slot-zero L s h = slot_in L s 0 (omega arith) ∙ add-zero s

-- Every place is within the ring.
pub slot_lt : (L s i : ℕ) → s < L → i ≤ L → slot L s i < L
slot_lt L s i h k = go (place L s i)
  where
    go : {p : ℕ} → Place L s i p → p < L
    go (inside a e) = omega arith
    go (round a e) = omega arith

-- The next place is within the ring.
pub next_lt : (L s : ℕ) → s < L → next L s < L
next_lt L s h = slot_lt L s 1 h (omega arith)

-- So is the place before.
pub previous_lt : (L s : ℕ) → s < L → previous L s < L
previous_lt L s h = slot_lt L s (L - 1) h (omega arith)

-- The place i + 1 places on from s is the place i places on from the next.
pub slot_next : (L s i : ℕ) → s < L → i < L → slot L s (suc i) ≡ slot L (next L s) i
slot_next L s i h k = go (place L s (suc i)) (place L s 1) (place L (next L s) i)
  where
    go : {p q r : ℕ} → Place L s (suc i) p → Place L s 1 q → Place L q i r → p ≡ r
    go (inside a e) (inside b f) (inside c g) = omega arith
    go (inside a e) (inside b f) (round c g) = omega arith
    go (inside a e) (round b f) (inside c g) = omega arith
    go (inside a e) (round b f) (round c g) = omega arith
    go (round a e) (inside b f) (inside c g) = omega arith
    go (round a e) (inside b f) (round c g) = omega arith
    go (round a e) (round b f) (inside c g) = omega arith
    go (round a e) (round b f) (round c g) = omega arith

-- The place after the one before s is s.
pub next-previous : (L s : ℕ) → s < L → next L (previous L s) ≡ s
next-previous L s h = go (place L s (L - 1)) (place L (previous L s) 1)
  where
    go : {p q : ℕ} → Place L s (L - 1) p → Place L p 1 q → q ≡ s
    go (inside a e) (inside b f) = omega arith
    go (inside a e) (round b f) = omega arith
    go (round a e) (inside b f) = omega arith
    go (round a e) (round b f) = omega arith

-- Different numbers of places on, both below L, lead to different places.
pub slot-other : (L s i j : ℕ) → s < L → i < L → j < L → i ≢ j → slot L s i ≢ slot L s j
slot-other L s i j h hi hj ne = go (place L s i) (place L s j)
  where
    go : {p q : ℕ} → Place L s i p → Place L s j q → p ≢ q
    go (inside a e) (inside b f) = omega arith
    go (inside a e) (round b f) = omega arith
    go (round a e) (inside b f) = omega arith
    go (round a e) (round b f) = omega arith

-- ---- what a ring holds

module _ {ℓ} {A : Type ℓ} (d : A) (L : ℕ) where
  -- A ring of c things has the length c.
  pub length-ring : (s c : ℕ) (rs : List A) → length (ring d L s c rs) ≡ c
  unfolding ring
  length-ring s zero rs = refl
  length-ring s (suc c) rs = ap suc (length-ring (next L s) c rs)

  -- Thing i of a ring is what the place i places on from s holds.
  pub ring-at : (s c i : ℕ) (rs : List A) → s < L → c ≤ L → i < c
      → get_or (ring d L s c rs) i d ≡ get_or rs (slot L s i) d
  unfolding ring
  ring-at s zero i rs h k l = absurd (not-suc-le-zero l)
  ring-at s (suc c) zero rs h k l = rw (slot-zero L s h)
  ring-at s (suc c) (suc i) rs h k l =
      let rest = ring-at (next L s) c i rs (next_lt L s h) (omega arith) (omega arith) in
      rw (slot_next L s i h (omega arith), rest)

  -- A ring reads only its own c places.
  pub ring-same : (s c : ℕ) (rs ts : List A) → s < L → c ≤ L
      → ((i : ℕ) → i < c → get_or rs (slot L s i) d ≡ get_or ts (slot L s i) d)
      → ring d L s c rs ≡ ring d L s c ts
  ring-same s c rs ts h k same =
      ext_get_or d (ring d L s c rs) (ring d L s c ts) (rw (length-ring, length-ring)) each
    where
      each : (i : ℕ) → i < length (ring d L s c rs)
          → get_or (ring d L s c rs) i d ≡ get_or (ring d L s c ts) i d
      each i m = let b : i < c = rw length-ring at m in rw (ring-at s c i, ring-at s c i, same i)

  -- A place p outside its own c can be set, and the ring stays.
  pub ring-other : (s c p : ℕ) (rs : List A) (y : A) → s < L → c ≤ L
      → ((i : ℕ) → i < c → slot L s i ≢ p)
      → ring d L s c (set rs p y) ≡ ring d L s c rs
  ring-other s c p rs y h k out =
      ring-same s c (set rs p y) rs h k (λ i m. get_or-set_other rs p (slot L s i) y d (out i m))

  -- One thing more, at the end, is what the place c places on from s holds.
  ring-last : (s c : ℕ) (rs : List A) → s < L → c < L
      → ring d L s (suc c) rs ≡ ring d L s c rs ++ (get_or rs (slot L s c) d ∷ [])
  unfolding ring
  ring-last s zero rs h k = rw (slot-zero L s h)
  ring-last s (suc c) rs h k =
      let rest = ring-last (next L s) c rs (next_lt L s h) (omega arith) in
      rw (slot_next L s c h (omega arith), ← rest)

  -- PUSH: y is put in the place c places on, and one more is counted: y stands at the end.
  pub ring_push : (s c : ℕ) (rs : List A) (y : A) → s < L → c < L → L ≤ length rs
      → ring d L s (c + 1) (set rs (slot L s c) y) ≡ ring d L s c rs ++ (y ∷ [])
  ring_push s c rs y h k l =
      let p = slot L s c in
      let b : p < L = slot_lt L s c h (omega arith) in
      let rest = ring-other s c p rs y h (omega arith) out in
      rw (add-one, ring-last s c (set rs p y) h k, rest, get_or-set_same rs p y d (omega arith))
    where
      out : (i : ℕ) → i < c → slot L s i ≢ slot L s c
      out i m = slot-other L s i c h (omega arith) k (omega arith)

  -- POP: one less is counted, from the next place on: the first is gone.
  pub ring_pop : (s c : ℕ) (rs : List A) → 0 < c
      → ring d L s c rs ≡ get_or rs s d ∷ ring d L (next L s) (c - 1) rs
  unfolding ring
  ring_pop s c rs h = let e : c ≡ suc (c - 1) = omega arith in ap (λ (k : ℕ). ring d L s k rs) e

  -- FRONT: y is put in the place before the first, and one more is counted, from there on.
  pub ring-front : (s c : ℕ) (rs : List A) (y : A) → s < L → c < L → L ≤ length rs
      → ring d L (previous L s) (c + 1) (set rs (previous L s) y) ≡ y ∷ ring d L s c rs
  unfolding ring
  ring-front s c rs y h k l =
      let p = previous L s in
      let b : p < L = previous_lt L s h in
      let rest = ring-other s c p rs y h (omega arith) out in
      rw (add-one, next-previous L s h, rest, get_or-set_same rs p y d (omega arith))
    where
      out : (i : ℕ) → i < c → slot L s i ≢ previous L s
      out i m = slot-other L s i (L - 1) h (omega arith) (omega arith) (omega arith)

  -- A ring that does not go round is a part.
  pub ring_flat : (s c : ℕ) (rs : List A) → s + c ≤ L → L ≤ length rs
      → ring d L s c rs ≡ part rs s c
  unfolding ring
  ring_flat s zero rs h l = refl
  ring_flat s (suc zero) rs h l = rw (drop-cons rs s d (omega arith))
  ring_flat s (suc (suc c)) rs h l =
      let rest = ring_flat (suc s) (suc c) rs (omega arith) l in
      rw (slot_in L s 1 (omega arith), add-one, rest, drop-cons rs s d (omega arith))

-- A ring that is decoded is the ring of the places that are decoded.
pub ring-map {ℓ κ} : {A : Type ℓ} {B : Type κ} (f : A → B) (d : A) (L s c : ℕ) (rs : List A)
    → map f (ring d L s c rs) ≡ ring (f d) L s c (map f rs)
unfolding ring
ring-map f d L s zero rs = refl
ring-map f d L s (suc c) rs = rw (get_or-map f rs s d, ring-map f d L (next L s) c rs)
