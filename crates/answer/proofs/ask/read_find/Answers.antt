use Prim.Native.Nat.{◌-◌}
use native.Mathlib.Omega.{arith}
use lib.ListN.{length}
use Rattle.answer.proofs.AskLaws.{find-not, word-within, find-asked}
use Rattle.answer.proofs.ask.read_find.Goals as goal

pub returns-then-n : goal.returns-then-n
returns-then-n c = find-not _ c.if-n.true

pub find-e-requires : goal.find-e-requires
find-e-requires c = record {
  order = word-within c.args.text.now c.if-n.false;
  in_bounds = omega arith;
}

pub returns : goal.returns
returns c =
    let text = c.args.text.now in
    let e = c.find-e.result in
    find-asked text e (e - 0) (length text - e) c.if-n.false
    c.find-e.ensures.place (omega arith) (omega arith) c.read_one-c.ensures
    c.read_one-left.ensures c.find_of.ensures
