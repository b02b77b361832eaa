-- 1 first, and then what `write_formed` says.
use mathlib.Core.Path.{sym, ◌∙◌}
use Rattle.writer.specs.Writer.{not-by-form}
use Rattle.writer.proofs.write.Goals as goal

pub write_formed-requires : goal.write_formed-requires
write_formed-requires c = sym c.is_by_form.ensures ∙ c.if-is_by_form.true

pub returns-then-is_by_form : goal.returns-then-is_by_form
returns-then-is_by_form c = c.write_formed.ensures

pub returns : goal.returns
returns c = not-by-form (sym c.is_by_form.ensures ∙ c.if-is_by_form.false)
