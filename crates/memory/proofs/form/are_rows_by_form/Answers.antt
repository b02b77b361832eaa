-- The boxes up to b are by form, and so many lead.
use mathlib.Core.Path.{◌≡◌}
use Prim.Native.Nat.{◌+◌}
use mathlib.Core.Path.{sym, ◌∙◌}
use native.Mathlib.Omega.{arith}
use Rattle.laws.proofs.FormLaws.{sizes-says}
use Rattle.laws.proofs.Counts.{tally-le}
use Rattle.memory.specs.Parts.{leads_test}
use Prim.Native.Nat.{◌+◌, ◌-◌}
use Rattle.memory.proofs.EveryLaws.{pass-none, pass-more, pass-stop}
use Rattle.memory.proofs.EveryLaws.{tally-none, tally-more}
use Rattle.memory.proofs.FormLaws.{rows-not, rows_end}
use mathlib.Core.Path.{ap}
use mathlib.Core.Bool.{not}
use Rattle.memory.proofs.form.are_rows_by_form.Goals.{else-loop-b-test}
use Rattle.memory.proofs.form.are_rows_by_form.Goals.{
  then-loop-b-test+else-not-is_row_by_form+else-b-b-end,
}
use Rattle.memory.proofs.form.are_rows_by_form.Goals as goal

pub returns-then-not-is_row_by_form : goal.returns-then-not-is_row_by_form
returns-then-not-is_row_by_form c =
    let here : c.loop-b.b - 1 + 1 ≡ c.loop-b.b = omega arith in
    rows-not c.args.s c.args.site.now
    (pass-stop c.loop-b.invariant.0 (omega arith) (rw here c.is_row_by_form.ensures)
    (ap not c.if-not-is_row_by_form.true))

pub loop-b-preserved : goal.loop-b-preserved
loop-b-preserved c =
    let f = leads_test c.args.s c.args.site.now in
    let here : c.loop-b.b - 1 + 1 ≡ c.loop-b.b = omega arith in
    let next : c.loop-b.b + 1 - 1 ≡ c.loop-b.b - 1 + 1 = omega arith in
    rw next (
      pass-more c.loop-b.invariant.0 (omega arith) (rw here c.is_row_by_form.ensures)
          (ap not c.if-not-is_row_by_form.false),
      omega (
        arith,
        rw (← here) at c.leader-leaders.ensures,
        c.loop-b.invariant.1,
        tally-more f (c.loop-b.b - 1),
      ),
    )

pub returns : goal.returns
returns c =
    let f = leads_test c.args.s c.args.site.now in
    let here : c.loop-b.b - 1 + 1 ≡ c.loop-b.b = omega arith in
    elim c.loop-b-test.branch [
      | else-loop-b-test w ↦
          rows_end c.args.s c.args.site.now c.loop-b.invariant.0 (omega arith)
          (w.leaders-is ∙ c.loop-b.invariant.1)
      | then-loop-b-test+else-not-is_row_by_form+else-b-b-end w ↦
          rows_end c.args.s c.args.site.now
          (pass-more c.loop-b.invariant.0 (omega arith) (rw here w.is_row_by_form.ensures)
          (ap not w.if-not-is_row_by_form.false)) (omega arith)
          (omega (
            arith,
            w.leaders-is,
            rw (← here) at w.leader-leaders.ensures,
            c.loop-b.invariant.1,
            tally-more f (c.loop-b.b - 1),
          ))
    ]

pub loop-b-init : goal.loop-b-init
loop-b-init c = (pass-none, sym (tally-none _))

pub overflow_add-leaders : goal.overflow_add-leaders
overflow_add-leaders c =
    let f = leads_test c.args.s c.args.site.now in
    let z = sizes-says c.requires.l_value in
    let here : c.loop-b.b - 1 + 1 ≡ c.loop-b.b = omega arith in
    omega (
      arith,
      rw (← here) at c.leader-leaders.ensures,
      c.loop-b.invariant.1,
      tally-more f (c.loop-b.b - 1),
      tally-le (c.loop-b.b - 1 + 1) f,
    )
