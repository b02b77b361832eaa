-- Things as bytes, one after another: what it is to write them at a place, to find them there, and
-- to read them again.
use Rattle.std.specs.Prelude.{◌≡◌, Bool, true, false, ℕ, suc, ◌+◌, ◌*◌, ◌^◌, ◌≤◌, ◌<◌, List, []}
use Rattle.std.specs.Prelude.{◌∷◌, ◌++◌, length, take, drop}
use Rattle.le.specs.Le.{le}
use Rattle.std.specs.Prelude.{Option, Some, None}

-- what each thing is made of, one after another: mostly its bytes
unfoldable pub chain {ℓ κ} : {A : Type ℓ} {B : Type κ} → (A → List B) → List A → List B
chain f [] = []
chain f (x ∷ xs) = f x ++ chain f xs

-- numbers of k bytes each
abbrev pub cells : ℕ → List ℕ → List ℕ
cells k xs = chain (le k) xs

-- P holds of each thing and its index, counted from 0
unfoldable pub Each {ℓ} : {A : Type ℓ} → (ℕ → A → Type 0) → List A → Type 0
Each P [] = Unit
Each P (x ∷ xs) = P 0 x × Each (λ i. P (suc i)) xs

abbrev pub All {ℓ} : {A : Type ℓ} → (A → Type 0) → List A → Type 0
All P = Each (λ i. P)

-- every number is below b
abbrev pub Below : ℕ → List ℕ → Type 0
Below b = All (λ x. x < b)

-- ---- writing

-- o has room for the bytes bs at `at`
pub record Room (bs o : List ℕ) (at : ℕ) : Type 0 where
  pub fits : at + length bs ≤ length o

-- o has become o': the bytes bs were written at `at`, r is the place behind them, and all else is
-- as it was
pub record Wrote (bs o : List ℕ) (at : ℕ) (o' : List ℕ) (r : ℕ) : Type 0 where
  pub next : r ≡ at + length bs
  pub room : r ≤ length o
  pub out : o' ≡ take at o ++ (bs ++ drop r o)

-- ---- reading

-- the bytes bs stand at `at`, and r is the place behind them
pub record Stands (bs src : List ℕ) (at r : ℕ) : Type 0 where
  pub next : r ≡ at + length bs
  pub room : r ≤ length src
  pub here : drop at src ≡ bs ++ drop r src

-- the numbers ws, of k bytes each, stand at `at`
pub record Read (k : ℕ) (src : List ℕ) (at : ℕ) (ws : List ℕ) (r : ℕ) : Type 0 where
  pub stands : Stands (cells k ws) src at r
  pub below : Below (256 ^ k) ws

-- whether the numbers ws, of k bytes each, stand at `at`
abbrev pub WordsAre : ℕ → List ℕ → List ℕ → ℕ → Bool → Type 0
WordsAre k ws src at true = Stands (cells k ws) src at (at + length ws * k)
WordsAre k ws src at false = Below (256 ^ k) ws → (r : ℕ) → Stands (cells k ws) src at r → ⊥

module _ {A : Type 0} (enc : A → List ℕ) (Good : A → Type 0) (src : List ℕ) (at : ℕ) where
  -- a thing by form stands at `at`, and r is the place behind it
  pub record Found (r : ℕ) : Type 0 where
    pub thing : A
    pub good : Good thing
    pub stands : Stands (enc thing) src at r

  -- none does
  abbrev pub NoneAt : Type 0
  NoneAt = (a : A) (r : ℕ) → Good a → Stands (enc a) src at r → ⊥

  -- what a walk answers
  abbrev pub WalkIs : Option ℕ → Type 0
  WalkIs (Some r) = Found r
  WalkIs None = NoneAt

  -- some thing by form stands at `at`
  pub record Has : Type 0 where
    pub place : ℕ
    pub found : Found place

  -- a is the thing that stands there, and r the place behind it
  abbrev pub GotIs : A → ℕ → Type 0
  GotIs a r = (q : ℕ) (f : Found q) → (a ≡ f.thing) × (r ≡ q)

-- n things, each by form at its index
pub record Many {A : Type 0} (Good : ℕ → A → Type 0) (n : ℕ) (l : List A) : Type 0 where
  pub count : length l ≡ n
  pub each : Each Good l
