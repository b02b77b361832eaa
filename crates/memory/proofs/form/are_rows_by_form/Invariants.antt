-- The boxes up to b are by form, and so many lead.
use Prim.Native.Nat.{◌-◌}
use mathlib.Core.Path.{◌≡◌}
use Rattle.rules.specs.Every.{tally}
use Rattle.memory.specs.Parts.{row_test, leads_test}
use Rattle.memory.proofs.EveryLaws.{PassTo}
use Rattle.memory.proofs.form.are_rows_by_form.Given as goal

abbrev pub invariant-loop-b : goal.invariant-loop-b
invariant-loop-b l =
    PassTo (row_test l.s l.site) l.s.n (l.b - 1)
    × (l.leaders ≡ tally (l.b - 1) (leads_test l.s l.site))
