use mathlib.Core.Path.{ap, ◌∙◌}
use mathlib.Core.List.{List}
use Prim.Native.Nat.{ℕ}
use Rattle.row.specs.Row.{row_form}
use Rattle.memory.proofs.RowLaws.{row_sized}
use Rattle.memory.proofs.form.is_row_by_form.Goals as goal

pub is_by_form-requires : goal.is_by_form-requires
is_by_form-requires c =
    rw c.row_of.ensures
    (row_sized c.args.s c.args.b c.args.site.now c.requires.b_value c.requires.l_value
    c.requires.j_in_bounds)

pub returns : goal.returns
returns c =
    c.is_by_form.ensures ∙ ap
    (λ (r : List ℕ). row_form c.args.s.n c.args.s.j c.args.b r)
    c.row_of.ensures
