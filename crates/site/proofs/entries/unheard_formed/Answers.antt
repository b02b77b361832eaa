-- The box number is tested, and then its row is read.
use mathlib.Core.Path.{sym}
use Rattle.words.proofs.TestLaws.{passes}
use Rattle.memory.specs.Memory.{site_of}
use Rattle.site.proofs.KnownLaws.{general-lent, rows-lent, not-box, AtBox, at-box, knows}
use Rattle.site.proofs.UnheardLaws.{unheard-no-box, row_reads, unheard-here}
use mathlib.Core.Path.{ap}
use mathlib.Core.Bool.{not}
use Rattle.site.proofs.entries.unheard_formed.Goals.{Else-not-is_box}
use Rattle.site.proofs.entries.unheard_formed.Goals as goal

-- What is known where c is a box.
known : (c : Else-not-is_box) → AtBox c.args.site.now c.args.links.now c.args.c
    c.setting_of-s.result
known c =
    at-box c.requires
    c.setting_of-s.ensures c.is_box.ensures (ap not c.if-not-is_box.false)

pub returns-then-not-is_box : goal.returns-then-not-is_box
unfolding site_of
returns-then-not-is_box c =
    sym
    (unheard-no-box _ _ c.requires _
    (not-box c.args.site.now c.setting_of-s.ensures
    c.is_box.ensures (ap not c.if-not-is_box.true)))

pub row_of-requires : goal.row_of-requires
row_of-requires c =
    let h = rows-lent (knows (known (goal.at.row_of-requires c).Else-not-is_box)) in record {
      l_value = h.sizes;
      j_in_bounds = h.words;
      b_value = passes c.is_box.ensures (ap not c.if-not-is_box.false);
    }

pub returns : goal.returns
returns c =
    unheard-here (known (goal.at.returns c).Else-not-is_box) c.row_of.ensures c.load-b.ensures
    c.unheard.ensures

pub setting_of-s-requires : goal.setting_of-s-requires
setting_of-s-requires c = general-lent _ _ c.requires

pub load-b-requires : goal.load-b-requires
load-b-requires c = row_reads (known (goal.at.load-b-requires c).Else-not-is_box) c.row_of.ensures
