use Rattle.found.proofs.WalkLaws.{records-next, records-stop}
use Rattle.found.proofs.mail.records_way.Goals as goal

pub returns-then-count-m : goal.returns-then-count-m
returns-then-count-m c = let made = records-next c.args.a c.args.b c.args.i c.args.at
    c.args.first c.requires.2 c.if-count-m.true c.size.ensures in record {
      value = made.0;
      within = made.1;
    }

pub returns : goal.returns
returns c = let made = records-stop c.args.a c.args.b c.args.i
    c.args.at c.args.first c.if-count-m.false in record {
      value = made.0;
      within = made.1;
    }
