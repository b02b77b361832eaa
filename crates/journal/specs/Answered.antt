-- What a call answers for C: a number, and what is lent for the rest.
use Rattle.std.specs.Prelude.{ℕ, Result, Ok, Err}
use Rattle.rules.specs.Numbers.{refusal_number}
use Rattle.rules.specs.declared.model.Refusal.{Refusal}

-- 0, or the refusal's number
abbrev pub number_of : {T : Type 0} → Result T Refusal → ℕ
number_of (Ok value) = 0
number_of (Err why) = refusal_number why

-- what was lent, where the call is refused
abbrev pub or_before : {T E : Type 0} → Result T E → T → T
or_before (Ok value) before = value
or_before (Err why) before = before
