-- How soon the scale is usable, of the functions for C.
use mathlib.Core.Path.{sym, ap, ◌∙◌, subst}
use native.Mathlib.Omega.{arith}
use Rattle.rules.specs.declared.model.Call.{Call}
use Rattle.site.specs.Entries.{After, step_on}
use Rattle.until.specs.Soon.{Started, EndsUsable}
use Rattle.until.proofs.Soon.{soon-usable-on}
use Rattle.journal.specs.Run.{run_number, run_used}
use Rattle.journal.specs.Soon.{SoonAnswered}
use Rattle.journal.proofs.NumberedLaws.{done-only}

pub soon-answered : SoonAnswered
soon-answered = record {
  soon = λ xs ls ys ms zs ns c steps u u' r elected room numbers enough ran.
      let done = done-only (step_on xs ls (Call.Elect c)).answer (sym elected.number) in
      let start : Started xs ls ys ms c = record {
        elected =
            subst (After (step_on xs ls (Call.Elect c)) xs ls ys ms) done elected.after;
        room = room;
        numbers = numbers;
      } in
      let e : EndsUsable xs ls zs ns c ran.answer =
      soon-usable-on.soon xs ls ys ms zs ns c steps ran.answer start enough
      ran.after in (
        ran.number ∙ ap run_number e.ran,
        omega (arith, e.few, ran.used ∙ ap (λ a. run_used a u) e.ran),
        e.usable,
      );
}
