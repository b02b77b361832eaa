-- Demand 3, of questions and answers alone: h is all that was said since `fresh`, the latest first.
-- `now` is what each holds line is answered if it is asked now, and `first` is the first number
-- that each box keeps now (Q-4). A line that is asked is said: so h may end in lines of now.
use Rattle.std.specs.Prelude.{ℕ, ◌≤◌, ◌<◌, ◌≡◌, List}
use Rattle.said.specs.Said.{Said, held, At, TrueAt, OfferAt}

-- `done` is the answer to a call that is done and to a holds line that is true, `untrue` the answer
-- to one that is not.
pub record Demand3 {A : Type 0} (done untrue : A) (h : List (Said A)) (now : ℕ → ℕ → ℕ → ℕ → A)
    (first : ℕ → ℕ) : Type 0 where
  -- Agreement: two true holds lines of one number name the same frames, whenever and of whichever
  -- boxes they were asked, even where a box has dropped the number since.
  pub agreement : (i j b d k l r l' r' : ℕ) → TrueAt done h i b k l r
      → TrueAt done h j d k l' r' → (l ≡ l') × (r ≡ r')
  -- No hole: where number m was ever true at a box, every number from its first to m is true at
  -- it now, with some frames; ..
  pub no_hole : (i b k m l r : ℕ) → TrueAt done h i b m l r → first b ≤ k → k ≤ m
      → (left : ℕ) × (right : ℕ) × (now b k left right ≡ done)
  -- .. so every number between two true ones is.
  pub between : (i b j k m l r l' r' : ℕ) → now b j l' r' ≡ done → TrueAt done h i b m l r
      → j ≤ k → k ≤ m → (left : ℕ) × (right : ℕ) × (now b k left right ≡ done)
  -- Kept: a true holds line stays true, whatever was said since, while its box keeps the number; ..
  pub kept : (i b k l r : ℕ) → TrueAt done h i b k l r → first b ≤ k → now b k l r ≡ done
  -- .. and one that was true and later was not: its box has dropped the number, and every line of
  -- it is untrue for good.
  pub dropped : (i j b k l r : ℕ) (a : A) → TrueAt done h i b k l r → At h j (held b k l r a)
      → i < j → (a ≡ done → ⊥) → (left right : ℕ) → now b k left right ≡ untrue
  -- .. And a box does not drop its last: where a line was ever true, its number or a later one is.
  pub lasting : (i b k l r : ℕ) → TrueAt done h i b k l r
      → (m : ℕ) × (k ≤ m) × (left : ℕ) × (right : ℕ) × (now b m left right ≡ done)
  -- Origin: before each true holds line an Offer of just these frames was done.
  pub origin : (i b k l r : ℕ) → TrueAt done h i b k l r → (j : ℕ) × (j < i) × OfferAt done h j l r
  -- No Offer fills two numbers: one map, from each number that was ever true to an Offer of its
  -- frames, has no Offer twice.
  pub offer-of : ℕ → ℕ
  pub offer-is : (i b k l r : ℕ) → TrueAt done h i b k l r → OfferAt done h (offer-of k) l r
  pub offer-once : (i j b d k m l r l' r' : ℕ) → TrueAt done h i b k l r → TrueAt done h j d m l' r'
      → offer-of k ≡ offer-of m → k ≡ m
