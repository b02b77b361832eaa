-- `row::form::is_by_form` meets its contract: the words first, and then the records.
use mathlib.Core.Path.{sym, ap, ◌∙◌}
use mathlib.Core.Bool.{◌&&◌}
use Rattle.rules.specs.Every.{each}
use Rattle.rules.specs.Sizes.{proper}
use Rattle.values.specs.Faults.{is_whole}
use Rattle.row.proofs.FormLaws.{head-says, readable, booked, form-go, form-stop}
use Rattle.row.proofs.form.is_by_form.Goals as goal

pub records-requires : goal.records-requires
records-requires c =
    let e = sym c.head_fault-f.ensures ∙ c.in-None.is in
    (readable _ _ _ _ c.requires (head-says _ _ _ _ e)).room

pub is_indexed-requires : goal.is_indexed-requires
is_indexed-requires c =
    let e = sym c.head_fault-f.ensures ∙ c.in-None.is in
    booked _ _ _ _ c.requires (head-says _ _ _ _ e)

pub returns-in-None : goal.returns-in-None
returns-in-None c =
    let e = sym c.head_fault-f.ensures ∙ c.in-None.is in
    (λ k.
    (c.all_proper-proper.ensures ∙ ap (each proper) c.records.ensures) k
    && c.is_indexed.ensures k)
    ∙ form-go _ _ _ _ c.requires e

pub returns-in-Some : goal.returns-in-Some
returns-in-Some c =
    let e = sym c.head_fault-f.ensures ∙ c.in-Some.is in
    form-stop _ _ _ _ c.requires (ap is_whole e)
