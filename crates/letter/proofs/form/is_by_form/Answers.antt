-- `letter::form::is_by_form` meets its contract: the words first, and then the records.
use mathlib.Core.Path.{sym, ap, ◌∙◌}
use Rattle.rules.specs.Every.{each}
use Rattle.rules.specs.Sizes.{proper}
use Rattle.values.specs.Faults.{is_whole}
use Rattle.letter.proofs.FormLaws.{head-says, readable, form-go, form-stop}
use Rattle.letter.proofs.form.is_by_form.Goals as goal

pub records-requires : goal.records-requires
records-requires c =
    let e = sym c.head_fault-f.ensures ∙ c.in-None.is in
    readable _ _ c.requires (head-says _ _ e)

pub returns-in-None : goal.returns-in-None
returns-in-None c =
    let e = sym c.head_fault-f.ensures ∙ c.in-None.is in
    c.all_proper.ensures ∙ ap (each proper) c.records.ensures
    ∙ form-go _ _ c.requires e

pub returns-in-Some : goal.returns-in-Some
returns-in-Some c =
    let e = sym c.head_fault-f.ensures ∙ c.in-Some.is in
    form-stop _ _ c.requires (ap is_whole e)
