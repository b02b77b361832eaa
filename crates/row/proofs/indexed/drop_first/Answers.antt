-- `row::indexed::drop_first` meets its contract: nothing leaves, or the first d do and the rest
-- moves.
use mathlib.Core.Path.{sym, ap, ◌∙◌, subst}
use Prim.Native.Nat.{ℕ, ◌+◌, ◌-◌, ◌≤◌}
use mathlib.Core.List.{List}
use lib.ListN.{length, drop, get_or, length-drop}
use native.Mathlib.Omega.{arith}
use Rattle.words.specs.Rows.{splice}
use Rattle.index.specs.Lent.{moved}
use Rattle.row.specs.Row.{first_at, index_at, index_width, agreed_of}
use Rattle.row.specs.Lent.{Reindexed}
use Rattle.row.proofs.IndexLaws.{index-cut, index-put, Left, left-none, left-moved}
use Rattle.row.proofs.indexed.drop_first.Goals.{After-slice_known-2-1}
use Rattle.row.proofs.indexed.drop_first.Goals as goal

pub returns-then-d-eq0 : goal.returns-then-d-eq0
returns-then-d-eq0 c =
    subst (λ (d : ℕ). Reindexed c.args.j 0 (get_or c.args.row.now first_at 0 + d)
    (drop d (agreed_of c.args.row.now)) c.args.row.now c.args.row.now)
    (sym c.if-d-eq0.true)
    (left-none c.args.j c.args.row.now c.requires.row_booked c.requires.indexed).so_far

-- the index when the first have left
left_here : (c : After-slice_known-2-1)
    → Left c.args.j c.args.row.now c.args.d c.leave_first.new.row
left_here c =
    record {
      few = omega (arith, c.requires.d_le_a.0, c.requires.d_le_a.1);
      so_far = c.leave_first.ensures;
    }

pub move_down-requires : goal.move_down-requires
move_down-requires c =
    let l = left_here (goal.at.move_down-requires c).After-slice_known-2-1 in
    let q = c.leave_first.new.row in
    subst (λ (ix : List ℕ). 128 + c.args.d + (c.args.a - c.args.d) ≤ length ix)
    (sym (index-cut c.args.j q (l.so_far.words ∙ c.requires.row_booked.words)))
    (omega (
      arith,
      l.so_far.index.room,
      c.requires.d_le_a.1,
      length-drop c.args.d (agreed_of c.args.row.now),
    ))

pub returns : goal.returns
returns c =
    let l = left_here (goal.at.returns c).After-slice_known-2-1 in
    let q = c.leave_first.new.row in
    let long = l.so_far.words ∙ c.requires.row_booked.words in
    left-moved c.args.j c.args.row.now c.requires.row_booked c.args.d q _ l
    (index-put c.args.j q long c.move_down.new.ix
    ∙ ap (splice q (index_at c.args.j) (index_width c.args.j))
    (c.move_down.ensures
    ∙ (λ k. moved c.args.d (c.requires.d_le_a.1 k - c.args.d) (index-cut c.args.j q long k))))
