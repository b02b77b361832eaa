-- Demand 3 with answers as numbers (`answer_number`), as functions for C answer: 0 done, 14 untrue.
use Rattle.std.specs.Prelude.{ℕ}
use Rattle.rules.specs.Numbers.{answer_number}
use Rattle.rules.specs.declared.model.Answer.{Answer}
use Rattle.said.specs.Said.{Talk, retold}
use Rattle.said.specs.Demand3.{Demand3}
use Rattle.said.specs.Spoken.{Safe}

pub record SafeByNumbers : Type 0 where
  pub demand_3 : {h : Talk} {now : ℕ → ℕ → ℕ → ℕ → Answer} {first : ℕ → ℕ} → Safe h now first
      → Demand3 0 14 (retold answer_number h)
      (λ b k left right. answer_number (now b k left right)) first
