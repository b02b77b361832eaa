-- `cells::get_words` meets its contract: at each turn the first numbers are read.
use borrow.Author.Rules.{rules}
use mathlib.Core.Path.{◌≡◌, refl, ◌∙◌}
use Prim.Native.Nat.{◌+◌, ◌*◌, ◌≤◌}
use native.Mathlib.Nat.{suc-mul}
use native.Mathlib.Numerals.{add-one}
use native.Mathlib.Omega.{arith}
use lib.ListN.{length, length-set}
use Rattle.words.proofs.RowLaws.{row-end}
use Rattle.cells.proofs.StandLaws.{read_none, read_next, read_all}
use Rattle.cells.proofs.get_words.Goals.{In-loop-x}
use Rattle.cells.proofs.get_words.Goals as goal

room : (c : In-loop-x) →
    c.loop-x.p + c.args.k ≤ length c.args.src.now
room c =
    omega (
      arith,
      row-end c.args.k {n = length c.args.dst.now} {i = c.loop-x.x-index}
          (omega arith),
    )

pub loop-x-init : goal.loop-x-init
loop-x-init c = (
  search rules,
  refl,
  read_none c.args.k c.args.src.now c.args.dst.now c.args.at (omega arith),
)

pub get_at-requires : goal.get_at-requires
get_at-requires c = (omega (arith, room (goal.at.get_at-requires c).In-loop-x), search rules)

pub overflow_add-p : goal.overflow_add-p
overflow_add-p c = omega (arith, room (goal.at.overflow_add-p c).In-loop-x)

pub loop-x-preserved : goal.loop-x-preserved
loop-x-preserved c =
    let step : (c.loop-x.x-index + 1) * c.args.k ≡ c.loop-x.x-index * c.args.k + c.args.k =
    rw (add-one, suc-mul) in
    let h = length-set c.loop-x.dst c.loop-x.x-index c.get_at.result in (
      omega arith,
      h ∙ c.loop-x.invariant.1,
      read_next c.args.k c.args.src.now c.loop-x.dst c.loop-x.x-index c.get_at.result (omega arith)
          (room (goal.at.loop-x-preserved c).In-loop-x) c.loop-x.invariant.2 c.get_at.ensures,
    )

pub returns : goal.returns
returns c =
    read_all c.args.k c.args.src.now c.loop-x.dst c.loop-x.x-index (omega arith)
    c.loop-x.invariant.2
