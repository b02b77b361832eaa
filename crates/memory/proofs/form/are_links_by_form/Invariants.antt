-- The first k links are by form.
use Prim.Native.Nat.{◌-◌, ◌*◌}
use Rattle.memory.specs.Parts.{link_test}
use Rattle.memory.proofs.EveryLaws.{PassTo}
use Rattle.memory.proofs.form.are_links_by_form.Given as goal

abbrev pub invariant-loop-k : goal.invariant-loop-k
invariant-loop-k l = PassTo (link_test l.s l.links) (l.s.n * (l.s.n - 1)) l.k
