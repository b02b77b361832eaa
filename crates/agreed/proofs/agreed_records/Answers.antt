-- `agreed::agreed_records` meets its contract.
use Prim.Native.Nat.{◌+◌, ◌≤◌}
use lib.ListN.{length}
use native.Mathlib.Omega.{arith}
use Rattle.agreed.proofs.PlaceLaws.{named-within, named_are, none_named}
use Rattle.agreed.proofs.agreed_records.Goals.{In-Ok}
use Rattle.agreed.proofs.agreed_records.Goals as goal

-- Where the answer names a part, it ends within the words.
ends : (c : In-Ok) →
    let a = c.args in
    c.in-Ok.l.place + c.in-Ok.l.count ≤ length c.args.site.now
ends c =
    named-within c.args.site.now c.args.links.now c.args.c
    c.agreed_at.ensures c.in-Ok.is

pub returns-in-Ok : goal.returns-in-Ok
returns-in-Ok c =
    named_are c.args.site.now c.args.links.now c.args.c
    c.agreed_at.ensures c.in-Ok.is

pub returns-in-Err : goal.returns-in-Err
returns-in-Err c =
    none_named c.args.site.now c.args.links.now c.args.c
    c.agreed_at.ensures c.in-Err.is

pub overflow_add-result : goal.overflow_add-result
overflow_add-result c = omega (arith, ends (goal.at.overflow_add-result c).In-Ok)

pub offset_bounds-site-l : goal.offset_bounds-site-l
offset_bounds-site-l c = omega (arith, ends (goal.at.offset_bounds-site-l c).In-Ok)

pub slice_bounds-result-end : goal.slice_bounds-result-end
slice_bounds-result-end c = omega (arith, ends (goal.at.slice_bounds-result-end c).In-Ok)
