-- Only Done has the number 0, so demand 3 of answers is demand 3 of their numbers.
use mathlib.Core.Path.{◌≡◌, refl}
use native.Mathlib.Omega.{arith}
use Rattle.rules.specs.Numbers.{answer_number}
use Rattle.rules.specs.declared.model.Answer.{Answer}
use Rattle.rules.specs.declared.model.Refusal.{Refusal}
use Rattle.said.specs.Numbered.{SafeByNumbers}
use Rattle.said.proofs.Retold.{retold-safely}

pub is-done : (a : Answer) → answer_number a ≡ 0 → a ≡ Answer.Done
is-done Answer.Done e = refl
is-done Answer.Taken e = absurd (omega (arith, e))
is-done (Answer.Discarded why) e = absurd (omega (arith, e))
is-done (Answer.Refused Refusal.Sizes) e = absurd (omega (arith, e))
is-done (Answer.Refused Refusal.Form) e = absurd (omega (arith, e))
is-done (Answer.Refused Refusal.Box) e = absurd (omega (arith, e))
is-done (Answer.Refused Refusal.Frame) e = absurd (omega (arith, e))
is-done (Answer.Refused Refusal.Condition) e = absurd (omega (arith, e))
is-done (Answer.Refused Refusal.Majority) e = absurd (omega (arith, e))
is-done (Answer.Refused Refusal.Epoch) e = absurd (omega (arith, e))
is-done (Answer.Refused Refusal.NewPn) e = absurd (omega (arith, e))
is-done (Answer.Refused Refusal.Book) e = absurd (omega (arith, e))
is-done (Answer.Refused Refusal.Link) e = absurd (omega (arith, e))
is-done (Answer.Refused Refusal.Buffer) e = absurd (omega (arith, e))
is-done (Answer.Refused Refusal.Untrue) e = absurd (omega (arith, e))
is-done (Answer.Refused Refusal.Line) e = absurd (omega (arith, e))

pub safe_by_numbers : SafeByNumbers
safe_by_numbers = record {
  demand_3 = λ s.
      retold-safely answer_number (λ i b k l r a q e. is-done a e) (λ b k l r e. is-done _ e) s;
}
