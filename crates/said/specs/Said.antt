-- What a caller asks and is answered, and nothing else. Answers are of any kind: the engine's own,
-- or numbers.
use Rattle.std.specs.Prelude.{ℕ, List, [], ◌∷◌, length}
use Rattle.rules.specs.declared.model.Answer.{Answer}
use Rattle.rules.specs.declared.model.Call.{Call}

-- a call of `step`, refused ones too, or the line `holds b k left right`, each with its answer
pub data Said (A : Type 0) : Type 0 where
  called : Call → A → Said A
  held : ℕ → ℕ → ℕ → ℕ → A → Said A

-- all that was said, the latest first, with the engine's own answers
abbrev pub Talk : Type 0
Talk = List (Said Answer)

-- the calls among it
abbrev pub calls : {A : Type 0} → List (Said A) → List Call
calls [] = []
calls (called d a ∷ h) = d ∷ calls h
calls (held b k left right a ∷ h) = calls h

-- the same with each answer as f has it
abbrev pub retold : {A B : Type 0} → (A → B) → List (Said A) → List (Said B)
retold f [] = []
retold f (called d a ∷ h) = called d (f a) ∷ retold f h
retold f (held b k left right a ∷ h) = held b k left right (f a) ∷ retold f h

-- w was said, and i things were said before it
pub data At {A : Type 0} : List (Said A) → ℕ → Said A → Type 0 where
  latest : {h : List (Said A)} {w : Said A} → At (w ∷ h) (length h) w
  before : {h : List (Said A)} {i : ℕ} {v w : Said A} → At h i w → At (v ∷ h) i w

-- a holds line was true, an Offer was done; `done` is the answer that says so
abbrev pub TrueAt : {A : Type 0} → A → List (Said A) → ℕ → ℕ → ℕ → ℕ → ℕ → Type 0
TrueAt done h i b k left right = At h i (held b k left right done)

abbrev pub OfferAt : {A : Type 0} → A → List (Said A) → ℕ → ℕ → ℕ → Type 0
OfferAt done h i left right = (c : ℕ) × At h i (called (Call.Offer c left right) done)
