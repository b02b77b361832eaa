-- `whole::boxes::check_boxes` meets its contract: at each turn the first i are found.
use borrow.Author.Rules.{rules}
use Prim.Native.Nat.{◌+◌}
use mathlib.Core.Path.{sym, subst}
use native.Mathlib.Omega.{arith}
use lib.ListN.{take}
use Rattle.whole.specs.Boxes.{box_entry, BoxesAre}
use Rattle.cells.specs.Cells.{Found}
use Rattle.cells.proofs.WalkLaws.{walk-found}
use Rattle.image.specs.Image.{box_body}
use Rattle.image.specs.Parts.{GoodBox}
use Rattle.whole.proofs.BoxesLaws.{flag-room, flag_one, boxes-none, boxes-more}
use Rattle.whole.proofs.BoxesLaws.{boxes-stop, boxes-led, boxes-all}
use Rattle.whole.proofs.boxes.check_boxes.Goals.{In_ok-q}
use Rattle.whole.proofs.boxes.check_boxes.Goals as goal

-- where a box was found
box : (c : In_ok-q) → Found (box_body c.args.n)
    (GoodBox c.args.n c.args.j (c.loop-i.i + 1))
    c.args.src.now c.loop-i.p c.in_ok-q.q
box c = walk-found c.in_ok-q.was c.check_box.ensures

pub get_at-leaders-requires : goal.get_at-leaders-requires
get_at-leaders-requires c = (
  flag-room c.requires.n_le_most_boxes.0 (box (goal.at.get_at-leaders-requires c).In_ok-q),
  search rules,
)

pub overflow_add-leaders : goal.overflow_add-leaders
overflow_add-leaders c =
    let few = c.requires.n_le_most_boxes.0 in
    omega (
      arith,
      flag_one few (box (goal.at.overflow_add-leaders c).In_ok-q)
          c.get_at-leaders.ensures,
      c.loop-i.invariant.few-lead,
      c.loop-i.invariant.walked.few,
    )

pub enter-requires : goal.enter-requires
enter-requires c =
    let next = (box (goal.at.enter-requires c).In_ok-q).stands.next in
    (omega (arith, c.requires.n_le_most_boxes.2, c.loop-i-test.true), omega arith)

pub loop-i-preserved : goal.loop-i-preserved
loop-i-preserved c =
    boxes-more c.loop-i.invariant c.requires.n_le_most_boxes.0
    c.loop-i-test.true (box (goal.at.loop-i-preserved c).In_ok-q) c.get_at-leaders.ensures
    c.enter.auto.table
    c.enter.ensures

pub returns-in_err-q : goal.returns-in_err-q
returns-in_err-q c =
    subst (BoxesAre c.args.n c.args.j c.args.src.now c.args.at
    (take (box_entry 0) c.args.table.now) c.loop-i.table) (sym c.from_residual.ensures)
    (boxes-stop c.loop-i.invariant c.requires.n_le_most_boxes.0 c.requires.n_le_most_boxes.1
    c.loop-i-test.true
    c.in_err-q.was c.check_box.ensures)

pub returns-then-leaders-gt1 : goal.returns-then-leaders-gt1
returns-then-leaders-gt1 c =
    boxes-led c.loop-i.invariant c.requires.n_le_most_boxes.0 c.requires.n_le_most_boxes.1
    c.loop-i-test.false
    c.if-leaders-gt1.true

pub returns : goal.returns
returns c =
    boxes-all c.loop-i.invariant c.loop-i-test.false c.if-leaders-gt1.false

pub loop-i-init : goal.loop-i-init
loop-i-init c = boxes-none c.requires.at_in_bounds
