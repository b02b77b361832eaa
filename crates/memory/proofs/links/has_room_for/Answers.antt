use Rattle.words.proofs.TestLaws.{yes, no}
use Rattle.laws.proofs.FormLaws.{sizes-says}
use Rattle.memory.proofs.SizeLaws.{box-few}
use Rattle.memory.proofs.SendLaws.{other-link}
use Rattle.memory.proofs.links.has_room_for.Goals as goal

pub has-requires : goal.has-requires
has-requires c =
    box-few c.args.s.n c.args.b (sizes-says c.requires.links_lent.sizes) c.requires.b_value

pub count-held-requires : goal.count-held-requires
count-held-requires c = record {
  links_lent = c.requires.links_lent;
  b_value = other-link c.args.s.n c.args.s.me c.args.b c.args.set c.requires.me_value
      c.requires.b_value c.requires.me_value_2 (yes c.has.ensures c.if-has.true);
}

pub returns-then-has : goal.returns-then-has
returns-then-has c =
    rw (yes c.has.ensures c.if-has.true, c.count-held.ensures)

pub returns : goal.returns
returns c = rw (no c.has.ensures c.if-has.false)
