-- 13, 1 or 2 is found, or the turn is concluded.
use mathlib.Core.Path.{◌≡◌, refl, sym, ◌∙◌}
use Rattle.rules.specs.Box.{own, turn_of}
use Rattle.own.specs.Entry.{own_box}
use Rattle.own.proofs.FormLaws.{act-asks}
use Rattle.own.proofs.OrderLaws.{found, clear}
use Rattle.own.proofs.EntryLaws.{refused, row-long, row-by-form}
use Rattle.own.proofs.EntryLaws.{no_mail, ActClear, turn-concludes, turn-owned}
use mathlib.Core.List.{tail}
use native.Mathlib.Omega.{arith}
use borrow.Fn.Kinds.{GoodsP}
use contract.Lifetimes.{Lfts}
use Rattle.laws.proofs.Types.{Act}
use Rattle.laws.specs.Frames.{ActFits}
use Rattle.own.proofs.act.Lts as lts
use Rattle.own.proofs.act.Goals.{After-act_turn-t, After-judge-came, In-Ok}
use Rattle.own.proofs.act.Goals as goal

-- The frame numbers of an offer are numbers of 32 bits.
frames : (κs : Lfts 2) (a : Act) → GoodsP κs (tail (tail (tail lts.ps))) (a, tt) → ActFits a
frames κs Act.Recover g = tt
frames κs Act.Collect g = tt
frames κs Act.Ready g = tt
frames κs (Act.Offer l r) g = (omega arith, omega arith)
frames κs Act.Propose g = tt
frames κs Act.Agree g = tt
frames κs Act.Finish g = tt
frames κs Act.Heard g = tt
frames κs (Act.Trim k) g = tt

came : (c : After-judge-came) → c.judge-came.result
    ≡ found (act-asks c.args.s c.args.row.now no_mail c.args.a)
came c = rw c.is_box.ensures at c.judge-came.ensures

pub returns-in-Err : goal.returns-in-Err
returns-in-Err c = let made =
    refused (act-asks _ _ _ _) (sym (came (goal.at.returns-in-Err c).After-judge-came)
    ∙ c.in-Err.is)
    c.refused.ensures in record {
      owned = made.0;
      still_reads = made.1;
    }

came-Ok : (c : In-Ok) → c.judge-came.result
    ≡ found (act-asks c.args.s c.args.row.now no_mail c.args.a)
came-Ok c = rw c.is_box.ensures at c.judge-came.ensures

passed : (c : In-Ok) → ActClear c.args.s c.args.row.now c.args.a
passed c = clear (act-asks _ _ _ _) (sym (came-Ok c) ∙ c.in-Ok.is)

-- Its turn.
turn : (c : After-act_turn-t) → c.act_turn-t.result
    ≡ turn_of c.args.s (own_box c.args.s c.args.row.now) (own c.args.a)
turn c = rw c.used_row.ensures at c.act_turn-t.ensures

pub conclude-requires : goal.conclude-requires
conclude-requires c =
    turn-concludes (passed (goal.at.conclude-requires c).In-Ok) no_mail refl
    (turn (goal.at.conclude-requires c).After-act_turn-t)
    (frames c.lifetimes c.args.a c.well_formed.1.1.1)

pub returns-in-Ok : goal.returns-in-Ok
returns-in-Ok c = record {
  owned = turn-owned (passed (goal.at.returns-in-Ok c).In-Ok) no_mail refl
      (turn (goal.at.returns-in-Ok c).After-act_turn-t)
      c.conclude.ensures.owned;
  still_reads = c.conclude.ensures.still_reads;
}

pub used_row-requires : goal.used_row-requires
used_row-requires c = row-long (passed (goal.at.used_row-requires c).In-Ok)

pub act_turn-t-requires : goal.act_turn-t-requires
act_turn-t-requires c =
    rw c.used_row.ensures (row-by-form (passed (goal.at.act_turn-t-requires c).In-Ok))
