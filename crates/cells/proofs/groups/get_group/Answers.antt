-- `cells::groups::get_group` meets its contract.
use mathlib.Core.Path.{◌∙◌}
use native.Mathlib.Nat.{add-sub_cancel_left}
use Rattle.words.proofs.PartLaws.{length_cut}
use Rattle.cells.proofs.groups.get_group.Goals as goal

pub get_words-requires : goal.get_words-requires
get_words-requires c =
    let size = length_cut c.args.g.from c.args.g.count c.args.w.now c.requires.end_in_bounds.0 in
    (rw size c.requires.count_in_bounds, c.requires.end_in_bounds.1)

pub returns : goal.returns
returns c =
    let size = length_cut c.args.g.from c.args.g.count c.args.w.now c.requires.end_in_bounds.0 in
    record {
      words = c.get_words.new.dst;
      count = c.get_words.auto.dst ∙ size;
      read = c.get_words.ensures;
      put = rw add-sub_cancel_left;
    }
