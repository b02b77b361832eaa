use native.Mathlib.Omega.{arith}
use Rattle.found.proofs.FoundLaws.{loads-few, loads-said, loads_largest}
use Rattle.found.proofs.general.loads_of.Goals as goal

pub number-requires : goal.number-requires
number-requires c =
    let m = loads-few c.args.n c.args.body.now
    c.general_found-f.ensures c.is_ok.ensures.value c.if-is_ok.true
    c.number_at-loads.ensures.value in
    omega arith

pub returns-then-is_ok : goal.returns-then-is_ok
returns-then-is_ok c = let made = loads-said c.args.n c.args.body.now c.general_found-f.ensures
    c.is_ok.ensures.value c.if-is_ok.true c.number_at-loads.ensures.value
    c.number.ensures in record {
      value = made.0;
      upper_bound = made.1;
    }

pub returns : goal.returns
returns c = let made = loads_largest c.args.n c.args.body.now
    c.general_found-f.ensures c.is_ok.ensures.value c.if-is_ok.false in record {
      value = made.0;
      upper_bound = made.1;
    }
