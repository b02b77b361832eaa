-- The sizes and what they bound: all of this crate's arithmetic that is not linear.
use Prim.Native.Nat.{ℕ, ◌+◌, ◌-◌, ◌*◌, ◌/◌, ◌%◌, ◌≤◌, ◌<◌}
use mathlib.Core.Path.{◌≡◌, refl, ap}
use mathlib.Core.Bool.{Bool, true, false, not, cond}
use native.Mathlib.Nat.{mul-le-mul, mul-zero, add-sub_cancel, mod-lt, div-add-mod'}
use native.Mathlib.Nat.{div-lt_iff_lt-mul}
use native.Mathlib.Decide.{dec_lt}
use native.Mathlib.Omega.{arith}
use lib.Dec.{ltb}
use borrow.Author.Tests.{ltb-true, ltb-false, lt-ltb, le-ltb, ne_eqb}
use Rattle.words.proofs.RowLaws.{row-end}
use Rattle.rules.specs.Sizes.{most_boxes, most_loads, most_mails}
use Rattle.rules.specs.Site.{is_box, is_link}
use Rattle.laws.proofs.Logic.{In, and_both}
use Rattle.laws.proofs.FormLaws.{FormedSizes, is-box, box-is, is-link}
use Rattle.link.specs.Link.{place_width, link_width}
use Rattle.link.specs.Holds.{LinkSizes}
use Rattle.memory.specs.Memory.{site_words, links_words, row_start, link_index}
use Rattle.row.specs.Row.{row_width}
use Rattle.memory.specs.Memory.{link_start}

-- ---- how many words

-- the one product of a link's sizes
pub link-most : {J L : ℕ} → LinkSizes J L → link_width J L ≤ link_width most_loads most_mails
link-most h =
    omega (arith, mul-le-mul {n₂ = most_mails} {m₂ = place_width most_loads} h.few-mails (places h))
  where
    places : {J L : ℕ} → LinkSizes J L → place_width J ≤ place_width most_loads
    places h = omega arith

module _ {n J L : ℕ} (h : FormedSizes n J L) where
  pub link-sizes : LinkSizes J L
  link-sizes = record {
    some-loads = h.some-loads;
    few-loads = h.few-loads;
    some-mails = h.some-mails;
    few-mails = h.few-mails;
  }

  pub rows-most : n * row_width J ≤ most_boxes * row_width most_loads
  rows-most = mul-le-mul {n₂ = most_boxes} {m₂ = row_width most_loads} h.few-boxes (omega arith)

  pub pairs-most : n * (n - 1) ≤ 20
  pairs-most = mul-le-mul {n₂ = 5} {m₂ = 4} h.few-boxes (omega arith)

  pub links-most : links_words n J L ≤ 20 * link_width most_loads most_mails
  links-most =
      mul-le-mul {n₂ = 20} {m₂ = link_width most_loads most_mails} pairs-most (link-most link-sizes)

pub box-few : (n b : ℕ) {J L : ℕ} → FormedSizes n J L → is_box n b ≡ true → b ≤ most_boxes
box-few n b h e = let i : In b n = is-box e in omega (arith, i.1)

-- Row b ends within the words of the site.
pub row_within : (J n b : ℕ) → is_box n b ≡ true → row_start J b + row_width J ≤ site_words n J
row_within J n b e =
    let h : In b n = is-box e in
    let below : b - 1 < n = omega (arith, h.0, h.1) in
    omega (arith, row-end (row_width J) below)

-- ---- the links in order

pub link-is : (n a b : ℕ) → In a n → In b n → (a ≡ b → ⊥) → is_link n a b ≡ true
link-is n a b ha hb ne =
    and_both (and_both (box-is ha) (box-is hb)) (ap not (ne_eqb a b ne))

-- a receiver's place among those of the sender a: it is counted without a itself
data Seat (a b k : ℕ) : Type 0 where
  before : b < a → k ≡ b - 1 → Seat a b k
  behind : a < b → k ≡ b - 2 → Seat a b k

seat : (a b : ℕ) → (a ≡ b → ⊥) → Seat a b (cond (ltb b a) (b - 1) (b - 2))
seat a b ne = go (ltb b a) refl
  where
    go : (t : Bool) → ltb b a ≡ t → Seat a b (cond t (b - 1) (b - 2))
    go true e = before (ltb-true b a e) refl
    go false e = behind (let h = ltb-false b a e in omega arith) refl

-- a sender has n − 1 places, and two receivers are not in one
seat-below : {n a b k : ℕ} → a ≤ n → b ≤ n → 1 ≤ a → 1 ≤ b → Seat a b k → k < n - 1
seat-below p q r s (before l e) = omega arith
seat-below p q r s (behind l e) = omega arith

seat-same : {a b c d k l : ℕ} → 1 ≤ a → 1 ≤ b → 1 ≤ d → Seat a b k → Seat c d l → a ≡ c → k ≡ l
    → b ≡ d
seat-same p q r (before x e) (before y f) g h = omega arith
seat-same p q r (before x e) (behind y f) g h = omega arith
seat-same p q r (behind x e) (before y f) g h = omega arith
seat-same p q r (behind x e) (behind y f) g h = omega arith

-- Rows of m each: a place within a row says which row it is.
row_same : (m i j k l : ℕ) → k < m → l < m → i * m + k ≡ j * m + l → i ≡ j
row_same m i j k l hk hl e = go (dec_lt i j) (dec_lt j i)
  where
    go : Dec (i < j) → Dec (j < i) → i ≡ j
    go (yes h) d = absurd (let r = row-end m h in omega arith)
    go (no h) (yes g) = absurd (let r = row-end m g in omega arith)
    go (no h) (no g) = omega arith

module _ (n a b : ℕ) (e : is_link n a b ≡ true) where
  -- the receiver's place
  placed : cond (ltb b a) (b - 1) (b - 2) < n - 1
  placed =
      let h = is-link e in
      seat-below h.0.1 h.1.1 h.0.0 h.1.0 (seat a b h.2)

  -- There are n * (n − 1) links.
  pub index_below : link_index n a b < n * (n - 1)
  index_below =
      let h = is-link {n = n} {a = a} {b = b} e in
      let below : a - 1 < n = omega (arith, h.0.0, h.0.1) in
      omega (arith, row-end (n - 1) below, placed)

  -- A link's row ends within the words of the links.
  pub link-within : (J L : ℕ) → link_start n J L a b + link_width J L ≤ links_words n J L
  link-within J L = row-end (link_width J L) index_below

-- Two links of one number are one link.
pub index_same : (n a b c d : ℕ) → is_link n a b ≡ true → is_link n c d ≡ true
    → link_index n a b ≡ link_index n c d → (a ≡ c) × (b ≡ d)
index_same n a b c d e f same =
    let h = is-link {n = n} {a = a} {b = b} e in
    let g = is-link {n = n} {a = c} {b = d} f in
    let m = n - 1 in
    let k = cond (ltb b a) (b - 1) (b - 2) in
    let l = cond (ltb d c) (d - 1) (d - 2) in
    let row : a - 1 ≡ c - 1 =
    row_same m (a - 1) (c - 1) k l (placed n a b e) (placed n c d f) same in
    let place : k ≡ l = omega (arith, ap (λ (i : ℕ). i * m) row) in
    let p : a ≡ c = omega (arith, h.0.0, g.0.0) in
    (p, seat-same h.0.0 h.1.0 g.1.0 (seat a b h.2) (seat c d g.2) p place)

-- Every number below n * (n − 1) is a link's.
pub record Numbered (n i : ℕ) : Type 0 where
  pub from : ℕ
  pub to : ℕ
  pub link : is_link n from to ≡ true
  pub index : link_index n from to ≡ i

pub numbered : (n i : ℕ) → i < n * (n - 1) → Numbered n i
numbered n i h = go (dec_lt 0 m)
  where
    m : ℕ
    m = n - 1

    -- row q, place r in it
    at : (q r : ℕ) → q * (n - 1) + r ≡ i → q < n → r < n - 1 → Dec (r < q) → Numbered n i
    at q r e hq hr (yes l) = record {
      from = q + 1;
      to = r + 1;
      link = link-is n (q + 1) (r + 1) (omega arith, omega arith) (omega arith, omega arith)
          (omega arith);
      index = rw (lt-ltb (r + 1) (q + 1) (omega arith), add-sub_cancel q 1, add-sub_cancel r 1) e;
    }
    at q r e hq hr (no l) = record {
      from = q + 1;
      to = r + 2;
      link = link-is n (q + 1) (r + 2) (omega arith, omega arith) (omega arith, omega arith)
          (omega arith);
      index = rw (le-ltb (r + 2) (q + 1) (omega arith), add-sub_cancel q 1, add-sub_cancel r 2) e;
    }

    go : Dec (0 < m) → Numbered n i
    go (yes some) =
        at (i / m) (i % m) (div-add-mod' i m) ((div-lt_iff_lt-mul some).1 h) (mod-lt i some)
        (dec_lt (i % m) (i / m))
    go (no none) =
        let z : m ≡ 0 = omega arith in
        absurd (omega (arith, ap (λ (k : ℕ). n * k) z, mul-zero n))
