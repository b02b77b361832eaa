-- `row::indexed::find` meets its contract.
use mathlib.Core.Path.{◌∙◌}
use native.Mathlib.Omega.{arith}
use Rattle.index.specs.Index.{first_with}
use Rattle.index.proofs.FormLaws.{indexed-form}
use Rattle.row.proofs.TurnLaws.{row-formed}
use Rattle.row.proofs.IndexLaws.{agreed-length}
use Rattle.row.proofs.indexed.find.Goals as goal

pub number-first-requires : goal.number-first-requires
number-first-requires c =
    (row-formed c.args.s c.args.row.now c.requires).readable.first

pub agreed_records-requires : goal.agreed_records-requires
agreed_records-requires c =
    (row-formed c.args.s c.args.row.now c.requires).booked

pub index_words-requires : goal.index_words-requires
index_words-requires c =
    (row-formed c.args.s c.args.row.now c.requires).booked

pub find-requires : goal.find-requires
find-requires c =
    let f = row-formed c.args.s c.args.row.now c.requires in
    let n = f.booked.numbers in
    rw (c.number-first.ensures, c.agreed_records.ensures, c.index_words.ensures)
    (record {
      form = indexed-form _ _ _ f.indexed;
      fits = omega (arith, agreed-length c.args.s.j c.args.row.now f.booked, n.order, n.most);
    })

pub returns : goal.returns
returns c =
    c.find.ensures
    ∙ (λ k. first_with c.args.frame (c.number-first.ensures k)
    (c.agreed_records.ensures k))
