-- `find::find_formed` meets its contract: the box number is tested, then the frame, and then its
-- row is asked.
use Rattle.words.proofs.TestLaws.{passes}
use Rattle.memory.specs.Memory.{site_of}
use Rattle.site.proofs.KnownLaws.{general-lent, rows-lent, not-box, AtBox, at-box, knows}
use Rattle.site.proofs.HoldsLaws.{row_here}
use Rattle.find.proofs.FindLaws.{words-no-box, words-no-frame, found_here}
use mathlib.Core.Path.{ap}
use mathlib.Core.Bool.{not}
use Rattle.find.proofs.find_formed.Goals.{Else-not-is_box}
use Rattle.find.proofs.find_formed.Goals as goal

-- What is known where c is a box.
known : (c : Else-not-is_box) → AtBox c.args.site.now c.args.links.now c.args.c
    c.setting_of-s.result
known c =
    at-box c.requires
    c.setting_of-s.ensures c.is_box.ensures (ap not c.if-not-is_box.false)

pub returns-then-not-is_box : goal.returns-then-not-is_box
unfolding site_of
returns-then-not-is_box c =
    words-no-box _ _ c.requires _ _
    (not-box c.args.site.now c.setting_of-s.ensures
    c.is_box.ensures (ap not c.if-not-is_box.true))

pub returns-then-left-eq0 : goal.returns-then-left-eq0
returns-then-left-eq0 c = words-no-frame (known (goal.at.returns-then-left-eq0 c).Else-not-is_box) _
    c.if-left-eq0.true

pub row_of-row-requires : goal.row_of-row-requires
row_of-row-requires c =
    let h = rows-lent (knows (known (goal.at.row_of-row-requires c).Else-not-is_box)) in record {
      l_value = h.sizes;
      j_in_bounds = h.words;
      b_value = passes c.is_box.ensures (ap not c.if-not-is_box.false);
    }

pub find-requires : goal.find-requires
find-requires c = row_here (known (goal.at.find-requires c).Else-not-is_box) c.row_of-row.ensures

pub returns : goal.returns
returns c =
    found_here (known (goal.at.returns c).Else-not-is_box) _ c.row_of-row.ensures
    c.if-left-eq0.false
    c.find.ensures c.found_as.ensures

pub setting_of-s-requires : goal.setting_of-s-requires
setting_of-s-requires c = general-lent _ _ c.requires
