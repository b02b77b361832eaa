-- What the answer and the part say of any two lists, in statements alone.
use Rattle.std.specs.Prelude.{ℕ, ◌+◌, ◌-◌, ◌≤◌, ◌<◌, ◌≡◌, List, ◌⊎◌, length, take, get_or}
use Rattle.std.specs.Borrow.{Bor}
use Rattle.longer.specs.Longer.{longer_of, Part, from_first}
use Rattle.longer.specs.declared.Which.{Which}

-- both lists hold the i-th number from the first on, with different records
pub record DifferAt (xs ys : List ℕ) (i : ℕ) : Type 0 where
  pub in_first : i < length xs
  pub in_second : i < length ys
  pub differ : get_or xs i 0 ≡ get_or ys i 0 → ⊥

pub record Told : Type 0 where
  -- The first is told exactly where it is not shorter, and the second is its beginning; ..
  pub first : (xs ys : List ℕ) → longer_of xs ys ≡ Which.First
      → (length ys ≤ length xs) × (take (length ys) xs ≡ ys)
  pub first-only : (xs ys : List ℕ) → length ys ≤ length xs → take (length ys) xs ≡ ys
      → longer_of xs ys ≡ Which.First
  -- .. the second exactly where it is longer, and the first is its beginning; ..
  pub second : (xs ys : List ℕ) → longer_of xs ys ≡ Which.Second
      → (length xs < length ys) × (take (length xs) ys ≡ xs)
  pub second-only : (xs ys : List ℕ) → length xs < length ys → take (length xs) ys ≡ xs
      → longer_of xs ys ≡ Which.Second
  -- .. and 22 "when a number that both hold differs", and only then.
  pub differs : (xs ys : List ℕ) → longer_of xs ys ≡ Which.Differs → (i : ℕ) × DifferAt xs ys i
  pub differs-only : (xs ys : List ℕ) (i : ℕ) → DifferAt xs ys i → longer_of xs ys ≡ Which.Differs
  -- One of the two: where they do not differ the part is a lent list itself, the same place with
  -- the same length, and so no copy and no mixture; ..
  pub one_of_two : (a b r : Bor (List ℕ)) → Part (longer_of a.now b.now) a b r
      → (longer_of a.now b.now ≡ Which.Differs → ⊥) → (r ≡ a) ⊎ (r ≡ b)
  -- .. and each of the two is its beginning.
  pub holds-both : (a b r : Bor (List ℕ)) → Part (longer_of a.now b.now) a b r
      → (longer_of a.now b.now ≡ Which.Differs → ⊥)
      → (take (length a.now) r.now ≡ a.now) × (take (length b.now) r.now ≡ b.now)
  -- One part only: two that meet the statement are the same records, and the same lent list where
  -- it is one.
  pub once : (w : Which) (a b q r : Bor (List ℕ)) → Part w a b q → Part w a b r
      → (q.now ≡ r.now) × ((w ≡ Which.Differs → ⊥) → q ≡ r)
  -- From a later first number on, record i is that of number first + i.
  pub from-later : (own first i : ℕ) (xs : List ℕ) → own ≤ first
      → get_or (from_first own first xs) i 0 ≡ get_or xs (first + i - own) 0
  -- From the own first number on, or an earlier one, it is the whole list.
  pub from-own : (own first : ℕ) (xs : List ℕ) → first ≤ own → from_first own first xs ≡ xs
