-- `row::count_after` meets its contract.
use native.Mathlib.Omega.{arith}
use Rattle.row.proofs.count_after.Goals as goal

pub overflow_sub-result : goal.overflow_sub-result
overflow_sub-result c = rw c.in-Drop.is at c.requires

pub overflow_sub-result-in-Put : goal.overflow_sub-result-in-Put
overflow_sub-result-in-Put c = (rw c.in-Put.is at c.requires).0

pub overflow_add-result : goal.overflow_add-result
overflow_add-result c =
    let h = rw c.in-Put.is at c.requires in
    record { fits = omega (arith, h.1) }

pub overflow_sub-result-in-Take : goal.overflow_sub-result-in-Take
overflow_sub-result-in-Take c = (rw c.in-Take.is at c.requires).0

pub overflow_sub-result-in-Take-2 : goal.overflow_sub-result-in-Take-2
overflow_sub-result-in-Take-2 c = (rw c.in-Take.is at c.requires).1

pub overflow_add-result-in-Take : goal.overflow_add-result-in-Take
overflow_add-result-in-Take c =
    let h = rw c.in-Take.is at c.requires in
    record { fits = omega (arith, h.2) }

pub returns-in-Drop : goal.returns-in-Drop
returns-in-Drop c = simp c.in-Drop.is

pub returns-in-Put : goal.returns-in-Put
returns-in-Put c = simp c.in-Put.is

pub returns-in-Take : goal.returns-in-Take
returns-in-Take c = simp c.in-Take.is
