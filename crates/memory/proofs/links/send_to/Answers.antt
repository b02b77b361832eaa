-- One letter more on the link to b, cut out, or none where b is not in the set.
use native.Mathlib.Omega.{arith}
use Rattle.words.proofs.TestLaws.{yes, no}
use Rattle.rules.specs.Box.{letter_of}
use Rattle.laws.proofs.FormLaws.{sizes-says}
use Rattle.memory.proofs.SizeLaws.{box-few}
use Rattle.memory.proofs.LinkLaws.{cut-readable, cut-length, send_done, send_none}
use Rattle.memory.proofs.SendLaws.{to-link, to_room}
use Rattle.memory.proofs.links.send_to.Goals as goal

pub has-requires : goal.has-requires
has-requires c =
    box-few c.args.s.n c.args.b (sizes-says c.requires.lent.sizes) c.requires.box

pub link_start-start-requires : goal.link_start-start-requires
link_start-start-requires c =
    let k = c.requires in record {
      l_value = c.requires.lent.sizes;
      b_value = to-link k (yes c.has.ensures c.if-has.true);
    }

pub push-requires : goal.push-requires
push-requires c =
    let in-set = yes c.has.ensures c.if-has.true in
    let link = to-link c.requires in-set in
    let from = c.link_start-start.ensures.0 in
    let to = c.link_end-end.ensures in
    let long = cut-length c.args.s.me c.args.b c.requires.lent link from to in record {
      readable_link = cut-readable c.args.s.me c.args.b c.requires.lent link from to;
      link_len_bound = omega (arith, long, to_room c.requires in-set);
      sendable = c.requires.letter;
    }

pub returns-then-has : goal.returns-then-has
returns-then-has c =
    let in-set = yes c.has.ensures c.if-has.true in
    send_done c.args.s.me c.args.b c.requires.lent (to-link c.requires in-set)
    c.link_start-start.ensures.0 c.link_end-end.ensures c.args.set in-set
    (letter_of c.args.m c.args.records.now) c.push.ensures

pub returns-else-has : goal.returns-else-has
returns-else-has c =
    send_none c.args.set c.args.b c.requires.lent
    (no c.has.ensures c.if-has.false) (letter_of c.args.m c.args.records.now)
