-- Steps from place to place: what so many of them lead to.
use Rattle.std.specs.Prelude.{ℕ, ◌+◌, ◌<◌, Option, Some, None}

module _ (R : ℕ → Option ℕ → Type 0) (at : ℕ) where
  -- i steps lead to p
  pub data Reached : ℕ → ℕ → Type 0 where
    start : Reached 0 at
    onward : {i p q : ℕ} → Reached i p → R p (Some q) → Reached (i + 1) q

  -- one of n steps finds no place
  pub record Ended (n : ℕ) : Type 0 where
    pub steps : ℕ
    pub few : steps < n
    pub place : ℕ
    pub reached : Reached steps place
    pub none : R place None

  -- n steps
  abbrev pub Steps : ℕ → Option ℕ → Type 0
  Steps n (Some p) = Reached n p
  Steps n None = Ended n
