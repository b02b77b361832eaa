-- The laws of rows, over any width and element, and of a table: rows that a decoder reads.
use mathlib.Core.Path.{◌≡◌, refl, sym, ap, ◌∙◌}
use mathlib.Core.Logic.{◌≢◌}
use Prim.Native.Nat.{ℕ, zero, suc, ◌+◌, ◌-◌, ◌*◌, ◌≤◌, ◌<◌}
use native.Mathlib.Nat.{not-suc-le-zero, le_of_suc-le-suc, zero-add, zero-mul, suc-mul, add_comm}
use native.Mathlib.Nat.{mul-le-mul_right, lt_of_mul-lt-mul_right}
use native.Mathlib.Decide.{ℕ_discrete}
use native.Mathlib.Omega.{arith}
use mathlib.Core.List.{List, [], ◌∷◌, map}
use lib.ListN.{length, take, drop, get_or, set, length-drop, length-map, get_or-map}
use lib.Seq.{take_at, drop_at, drop-drop, get_or-set_other, ext_get_or}
use Rattle.words.specs.Rows.{part, splice, rows}
use Rattle.words.proofs.PartLaws.{take-splice, drop-splice, part-splice, part-part, cut_at}

-- Row i ends within the end of the last.
pub row-end : (w : ℕ) {n i : ℕ} → i < n → i * w + w ≤ n * w
row-end w h = rw suc-mul at (mul-le-mul_right w h)

-- A row that begins before another ends before it.
pub row_before : (w i j : ℕ) → i * w < j * w → i * w + w ≤ j * w
row_before w i j h = row-end w (lt_of_mul-lt-mul_right w h)

module _ {ℓ} {A : Type ℓ} where
  -- There are n rows.
  pub length-rows : (w n : ℕ) (xs : List A) → length (rows w n xs) ≡ n
  unfolding rows
  length-rows w zero xs = refl
  length-rows w (suc n) xs = ap suc (length-rows w n (drop w xs))

  -- Row i is the part from i * w on.
  pub rows_at : (w n i : ℕ) (xs : List A) → i < n → get_or (rows w n xs) i [] ≡ part xs (i * w) w
  unfolding rows
  rows_at w zero i xs h = absurd (not-suc-le-zero h)
  rows_at w (suc n) zero xs h = rw zero-mul
  rows_at w (suc n) (suc i) xs h =
      rw (rows_at w n i (drop w xs) (le_of_suc-le-suc h), drop-drop, suc-mul, add_comm w)

  -- THE LAW OF THE TABLE: to put row i back is to set that row, and no other.
  pub rows-splice : (w n i : ℕ) (xs ys : List A) → i < n → n * w ≤ length xs → length ys ≡ w
      → rows w n (splice xs (i * w) w ys) ≡ set (rows w n xs) i ys
  unfolding rows
  rows-splice w zero i xs ys h l e = absurd (not-suc-le-zero h)
  rows-splice w (suc n) zero xs ys h l e = rw (zero-mul, take_at ys, drop_at ys)
  rows-splice w (suc n) (suc i) xs ys h l e =
      let m : n * w + w ≤ length xs = rw suc-mul at l in
      let r : i * w + w ≤ n * w = row-end w (le_of_suc-le-suc h) in
      let b : w + i * w ≤ length xs = omega arith in
      let k : n * w ≤ length (drop w xs) = rw length-drop (omega arith) in
      let again = rows-splice w n i (drop w xs) ys (le_of_suc-le-suc h) k e in
      rw (suc-mul, add_comm (i * w), take-splice w (i * w), drop-splice w (i * w), again)

  -- Rows whose every part is the same are the same.
  pub rows_ext : (w n : ℕ) (xs ys : List A)
      → ((i : ℕ) → i < n → part xs (i * w) w ≡ part ys (i * w) w) → rows w n xs ≡ rows w n ys
  rows_ext w n xs ys same =
      ext_get_or [] (rows w n xs) (rows w n ys) (rw (length-rows, length-rows)) each
    where
      each : (i : ℕ) → i < length (rows w n xs) → get_or (rows w n xs) i []
          ≡ get_or (rows w n ys) i []
      each i h = let b : i < n = rw length-rows at h in rw (rows_at w n i, rows_at w n i, same i)

  -- The rows do not depend on what follows their n * w elements.
  pub rows_take : (w n : ℕ) (xs : List A) → rows w n xs ≡ rows w n (take (n * w) xs)
  rows_take w n xs =
      rows_ext w n xs (take (n * w) xs)
      (λ i h. sym (part-part 0 (n * w) (i * w) w xs (row-end w h) ∙ rw zero-add))

  -- The first m of n rows are m rows.
  pub take-rows : (w n m : ℕ) (xs : List A) → m ≤ n → take m (rows w n xs) ≡ rows w m xs
  unfolding rows
  take-rows w n zero xs h = refl
  take-rows w zero (suc m) xs h = absurd (not-suc-le-zero h)
  take-rows w (suc n) (suc m) xs h = rw (take-rows w n m (drop w xs) (le_of_suc-le-suc h))

  -- Row j stays, where row i is put back.
  pub part-other : (w n i j : ℕ) (xs ys : List A) → i < n → j < n → j ≢ i
      → n * w ≤ length xs → length ys ≡ w
      → part (splice xs (i * w) w ys) (j * w) w ≡ part xs (j * w) w
  part-other w n i j xs ys hi hj ne l e =
      let row = rows_at w n j (splice xs (i * w) w ys) hj in
      rw (← row, rows-splice w n i, get_or-set_other, rows_at w n j)

  -- What holds of every row still does, where it holds of the row that is put back.
  pub each-put {κ} : (P : List A → Type κ) (w n i : ℕ) (xs ys : List A) → i < n
      → n * w ≤ length xs → length ys ≡ w
      → ((j : ℕ) → j < n → P (part xs (j * w) w)) → P ys
      → (j : ℕ) → j < n → P (part (splice xs (i * w) w ys) (j * w) w)
  each-put P w n i xs ys hi l e all here j hj = go (ℕ_discrete j i)
    where
      go : Dec (j ≡ i) → P (part (splice xs (i * w) w ys) (j * w) w)
      go (yes q) = rw (q, part-splice (i * w) w xs ys (omega (arith, row-end w hi)) e) here
      go (no ne) = rw (part-other w n i j xs ys hi hj ne l e) (all j hj)

-- ---- tables: f decodes a row

module _ {ℓ κ} {A : Type ℓ} {B : Type κ} (f : A → B) where
  -- To set an element and decode all is to decode all and set that one.
  pub map-set : (l : List A) (i : ℕ) (y : A) → map f (set l i y) ≡ set (map f l) i (f y)
  map-set [] i y = refl
  map-set (x ∷ l) zero y = refl
  map-set (x ∷ l) (suc i) y = rw (map-set l i y)

  -- To take the first m and decode them is to decode all and take the first m.
  pub map-take : (m : ℕ) (l : List A) → map f (take m l) ≡ take m (map f l)
  map-take zero l = refl
  map-take (suc m) [] = refl
  map-take (suc m) (x ∷ l) = rw (map-take m l)

module _ {ℓ κ} {A : Type ℓ} {B : Type κ} (f : List A → B) (w n : ℕ) where
  -- A table of n rows holds n things.
  pub length-table : (xs : List A) → length (map f (rows w n xs)) ≡ n
  length-table xs = length-map (rows w n xs) f ∙ length-rows w n xs

  -- The first m things of a table are a table of m rows.
  pub take-table : (m : ℕ) (xs : List A) → m ≤ n
      → take m (map f (rows w n xs)) ≡ map f (rows w m xs)
  take-table m xs h = rw (← map-take f m (rows w n xs), take-rows w n m xs h)

  module _ (i : ℕ) (xs : List A) (h : i < n) where
    -- Thing i of the table is row i, decoded.
    pub table_get : get_or (map f (rows w n xs)) i (f []) ≡ f (part xs (i * w) w)
    table_get = rw (get_or-map f (rows w n xs), rows_at w n i)

    -- The same of a row as the code cuts it out.
    pub table-cut : {a k : ℕ} → a ≡ i * w → k ≡ w
        → f (take (a + k - a) (drop a xs)) ≡ get_or (map f (rows w n xs)) i (f [])
    table-cut p q = ap f (cut_at xs p q) ∙ sym table_get

    -- To put row i back is to set thing i of the table.
    pub table-put : (ys : List A) → n * w ≤ length xs → length ys ≡ w
        → map f (rows w n (splice xs (i * w) w ys)) ≡ set (map f (rows w n xs)) i (f ys)
    table-put ys l e = rw (rows-splice w n i, map-set f (rows w n xs))
