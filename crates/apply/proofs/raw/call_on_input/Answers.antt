use Rattle.std.proofs.Common.{ℕ, ◌≡◌, ◌≤◌, subst}
use Rattle.std.specs.Prelude.{IfSome}
use Rattle.std.specs.declared.option.Option.{Option}
use Rattle.apply.proofs.RoomLaws.{on_larger, call_fits}
use Rattle.apply.proofs.raw.call_on_input.Goals as goal

within : (m : ℕ) {w : Option ℕ} {k : ℕ} → IfSome w (λ (i : ℕ). i ≤ m) → w ≡ Option.Some k → k ≤ m
within m h e = subst (λ (w : Option ℕ). IfSome w (λ (i : ℕ). i ≤ m)) e h

pub returns-in-Ok-Some : goal.returns-in-Ok-Some
returns-in-Ok-Some g c = on_larger _ _ c.come.result (λ k p. call_fits c.requires c.fill.auto.buf
    (within _ c.in-Ok-Some.ensures c.in-Ok-Some.field-0-is)
    c.call_on_image-c.ensures p.1) c.come.ensures
