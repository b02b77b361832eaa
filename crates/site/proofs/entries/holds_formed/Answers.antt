-- The box number is tested, and then its row.
use mathlib.Core.Path.{sym}
use Rattle.words.proofs.TestLaws.{passes}
use Rattle.memory.specs.Memory.{site_of}
use Rattle.site.proofs.CallLaws.{holds-no-box}
use Rattle.site.proofs.KnownLaws.{general-lent, rows-lent, not-box, AtBox, at-box, knows}
use Rattle.site.proofs.HoldsLaws.{row_here, holds-yes, holds-no}
use mathlib.Core.Path.{ap}
use mathlib.Core.Bool.{not}
use Rattle.site.proofs.entries.holds_formed.Goals.{Else-not-is_box}
use Rattle.site.proofs.entries.holds_formed.Goals as goal

-- What is known where c is a box.
known : (c : Else-not-is_box) → AtBox c.args.site.now c.args.links.now c.args.c
    c.setting_of-s.result
known c =
    at-box c.requires
    c.setting_of-s.ensures c.is_box.ensures (ap not c.if-not-is_box.false)

pub returns-then-not-is_box : goal.returns-then-not-is_box
unfolding site_of
returns-then-not-is_box c =
    sym
    (holds-no-box _ _ c.requires _ _ _ _
    (not-box c.args.site.now c.setting_of-s.ensures
    c.is_box.ensures (ap not c.if-not-is_box.true)))

pub row_of-row-requires : goal.row_of-row-requires
row_of-row-requires c =
    let h = rows-lent (knows (known (goal.at.row_of-row-requires c).Else-not-is_box)) in record {
      l_value = h.sizes;
      j_in_bounds = h.words;
      b_value = passes c.is_box.ensures (ap not c.if-not-is_box.false);
    }

pub returns-then-is_agreed : goal.returns-then-is_agreed
returns-then-is_agreed c =
    holds-yes (known (goal.at.returns-then-is_agreed c).Else-not-is_box) c.row_of-row.ensures
    c.args.k c.args.left c.args.right
    c.is_agreed.ensures c.if-is_agreed.true

pub returns : goal.returns
returns c =
    holds-no (known (goal.at.returns c).Else-not-is_box) c.row_of-row.ensures c.args.k
    c.args.left c.args.right
    c.is_agreed.ensures c.if-is_agreed.false

pub setting_of-s-requires : goal.setting_of-s-requires
setting_of-s-requires c = general-lent _ _ c.requires

pub is_agreed-requires : goal.is_agreed-requires
is_agreed-requires c = row_here (known (goal.at.is_agreed-requires c).Else-not-is_box)
    c.row_of-row.ensures
