-- Not empty: a script after which a holds line is true at two boxes.
use Rattle.std.specs.Prelude.{ℕ, ◌≤◌, ◌≡◌, List, [], ◌∷◌, length, get_or}
use Rattle.rules.specs.declared.model.Answer.{Answer}
use Rattle.drive.specs.Driven.{Driven}

abbrev pub asks : ℕ → ℕ → ℕ → ℕ → ℕ → List ℕ → List ℕ
asks which a b c d script = which ∷ a ∷ b ∷ c ∷ d ∷ script

-- the paper's replay, but the Lease is lost; then the same holds line of both boxes
abbrev pub script : List ℕ
script =
    asks 0 1 0 0 0
    (asks 1 1 0 0 0
    (asks 2 1 0 0 0
    (asks 15 1 2 0 0
    (asks 15 2 1 0 0
    (asks 3 1 0 0 0
    (asks 13 1 2 0 0
    (asks 4 1 71 72 0
    (asks 5 1 0 0 0
    (asks 15 1 2 0 0
    (asks 15 2 1 0 0
    (asks 6 1 0 0 0
    (asks 15 1 2 0 0
    (asks 16 1 1 71 72
    (asks 16 2 1 71 72 []))))))))))))))

pub record NotEmpty : Type 0 where
  -- on whatever words have room, and with room for 15 answers, both lines are answered 0
  pub both_true : {before after xs ls xs' ls' : List ℕ}
      → Driven 2 16 8 script before after xs ls xs' ls' Answer.Done → 15 ≤ length before
      → (get_or after 13 0 ≡ 0) × (get_or after 14 0 ≡ 0)
