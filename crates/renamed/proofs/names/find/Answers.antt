-- `renamed::names::find` meets its contract.
use mathlib.Core.Path.{refl}
use Rattle.lines.specs.declared.Word.{Word}
use Rattle.renamed.specs.Names.{word_in}
use Rattle.renamed.proofs.NameLaws.{or_found, none_found}
use Rattle.renamed.proofs.names.find.Goals as goal

pub returns : goal.returns
unfolding word_in
returns c =
    or_found c.args.from c.args.to c.args.s.now Word.Site c.or_name.ensures
    (or_found c.args.from c.args.to c.args.s.now Word.Elect c.or_name-f-17.ensures
    (or_found c.args.from c.args.to c.args.s.now Word.Recover c.or_name-f-16.ensures
    (or_found c.args.from c.args.to c.args.s.now Word.Collect c.or_name-f-15.ensures
    (or_found c.args.from c.args.to c.args.s.now Word.Ready c.or_name-f-14.ensures
    (or_found c.args.from c.args.to c.args.s.now Word.Offer c.or_name-f-13.ensures
    (or_found c.args.from c.args.to c.args.s.now Word.Propose c.or_name-f-12.ensures
    (or_found c.args.from c.args.to c.args.s.now Word.Agree c.or_name-f-11.ensures
    (or_found c.args.from c.args.to c.args.s.now Word.Finish c.or_name-f-10.ensures
    (or_found c.args.from c.args.to c.args.s.now Word.Heard c.or_name-f-9.ensures
    (or_found c.args.from c.args.to c.args.s.now Word.Trim c.or_name-f-8.ensures
    (or_found c.args.from c.args.to c.args.s.now Word.Stop c.or_name-f-7.ensures
    (or_found c.args.from c.args.to c.args.s.now Word.Return c.or_name-f-6.ensures
    (or_found c.args.from c.args.to c.args.s.now Word.Timeout c.or_name-f-5.ensures
    (or_found c.args.from c.args.to c.args.s.now Word.Lose c.or_name-f-4.ensures
    (or_found c.args.from c.args.to c.args.s.now Word.Repeat c.or_name-f-3.ensures
    (or_found c.args.from c.args.to c.args.s.now Word.Mail c.or_name-f-2.ensures
    (or_found c.args.from c.args.to c.args.s.now Word.Holds c.or_name-f.ensures
    (none_found c.args.from c.args.to refl))))))))))))))))))
