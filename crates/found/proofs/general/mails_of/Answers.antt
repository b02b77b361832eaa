use Rattle.found.proofs.FoundLaws.{mails-said, mails_largest}
use Rattle.found.proofs.general.mails_of.Goals as goal

pub returns-then-is_ok : goal.returns-then-is_ok
returns-then-is_ok c = let made = mails-said c.args.n c.args.body.now c.general_found-f.ensures
    c.is_ok.ensures.value c.if-is_ok.true c.number_at.ensures.value in record {
      value = made.0;
      upper_bound = made.1;
    }

pub returns : goal.returns
returns c = let made = mails_largest c.args.n c.args.body.now
    c.general_found-f.ensures c.is_ok.ensures.value c.if-is_ok.false in record {
      value = made.0;
      upper_bound = made.1;
    }
