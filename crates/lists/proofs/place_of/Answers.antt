-- `lists::place_of` meets its contract.
use Rattle.lists.proofs.FindLaws.{found-is}
use Rattle.lists.proofs.place_of.Goals as goal

pub returns : goal.returns
returns c = record {
  value = found-is c.args.b c.args.s.now c.find.ensures.place;
  upper_bound = c.find.ensures.before_end;
}
