-- `renamed::judge::first_of` meets its contract.
use mathlib.Core.Path.{◌≡◌, sym, ap, ◌∙◌}
use mathlib.Core.Bool.{Bool, true, false, not, ◌&&◌}
use Prim.Native.Nat.{ℕ}
use Rattle.std.proofs.Common.{Option, is_some, is_none}
use Rattle.rules.specs.Pick.{pick_true, pick-false}
use Rattle.renamed.specs.Judge.{first_of}
use Rattle.renamed.proofs.judge.first_of.Goals as goal

told : (a : Option ℕ) (none t : Bool) → is_some a ≡ not none → (is_none a && t) ≡ (none && t)
told a true t e = ap (λ (b : Bool). not b && t) e
told a false t e = ap (λ (b : Bool). not b && t) e

pub returns-then-is_none-t : goal.returns-then-is_none-t
unfolding first_of
returns-then-is_none-t c =
    sym (pick_true _ _ _ (told c.args.a _ c.args.t c.is_none.ensures ∙ c.if-is_none-t.true))

pub returns : goal.returns
unfolding first_of
returns c =
    sym (pick-false _ _ _ (told c.args.a _ c.args.t c.is_none.ensures ∙ c.if-is_none-t.false))
