use mathlib.Core.Path.{sym, ◌∙◌, subst}
use Prim.Native.Nat.{ℕ}
use Rattle.std.specs.Prelude.{Ok}
use Rattle.writer.specs.Writer.{LengthIs, no-image, has-length}
use Rattle.writer.proofs.image_length.Goals as goal

pub measure-e-requires : goal.measure-e-requires
measure-e-requires c = sym c.is_by_form.ensures ∙ c.if-is_by_form.true

pub returns-then-is_by_form : goal.returns-then-is_by_form
returns-then-is_by_form c =
    subst (λ (n : ℕ). LengthIs c.args.site.now c.args.links.now (Ok n))
    (sym c.measure-e.ensures.total)
    (has-length (sym c.is_by_form.ensures ∙ c.if-is_by_form.true))

pub returns : goal.returns
returns c = no-image (sym c.is_by_form.ensures ∙ c.if-is_by_form.false)
