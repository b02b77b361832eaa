-- `agreed::agreed_formed` meets its contract: the box number is tested, and then its row is read.
use native.Mathlib.Omega.{arith}
use Rattle.words.proofs.TestLaws.{passes}
use Rattle.site.proofs.KnownLaws.{general-lent, rows-lent, not-box, AtBox, at-box, knows}
use Rattle.site.proofs.HoldsLaws.{row_here}
use Rattle.agreed.proofs.PlaceLaws.{kept-is, no-box}
use mathlib.Core.Path.{ap}
use mathlib.Core.Bool.{not}
use Rattle.agreed.proofs.agreed_formed.Goals.{Else-not-is_box}
use Rattle.agreed.proofs.agreed_formed.Goals as goal

-- What is known where c is a box.
known : (c : Else-not-is_box) → AtBox c.args.site.now c.args.links.now c.args.c
    c.setting_of-s.result
known c =
    at-box c.requires
    c.setting_of-s.ensures c.is_box.ensures (ap not c.if-not-is_box.false)

pub returns-then-not-is_box : goal.returns-then-not-is_box
returns-then-not-is_box c =
    no-box c.args.site.now c.args.links.now c.args.c
    (not-box c.args.site.now c.setting_of-s.ensures
    c.is_box.ensures (ap not c.if-not-is_box.true))

pub row_start-start-requires : goal.row_start-start-requires
row_start-start-requires c =
    let h = rows-lent (knows (known (goal.at.row_start-start-requires c).Else-not-is_box)) in
    record {
      l_value = h.sizes;
      b_value = passes c.is_box.ensures (ap not c.if-not-is_box.false);
    }

pub row_of-row-requires : goal.row_of-row-requires
row_of-row-requires c =
    let h = rows-lent (knows (known (goal.at.row_of-row-requires c).Else-not-is_box)) in record {
      l_value = h.sizes;
      j_in_bounds = h.words;
      b_value = passes c.is_box.ensures (ap not c.if-not-is_box.false);
    }

pub agreed_count-count-requires : goal.agreed_count-count-requires
agreed_count-count-requires c =
    row_here (known (goal.at.agreed_count-count-requires c).Else-not-is_box) c.row_of-row.ensures

pub bounds-row-5 : goal.bounds-row-5
bounds-row-5 c =
    omega (
      arith,
      (row_here (known (goal.at.bounds-row-5 c).Else-not-is_box) c.row_of-row.ensures).size.words,
    )

pub overflow_add-result : goal.overflow_add-result
overflow_add-result c =
    omega (
      arith,
      c.row_start-start.ensures.1,
      (rows-lent (knows (known (goal.at.overflow_add-result c).Else-not-is_box))).words,
    )

pub returns : goal.returns
returns c =
    kept-is (known (goal.at.returns c).Else-not-is_box) c.row_of-row.ensures
    c.row_start-start.ensures.0
    c.agreed_count-count.ensures

pub setting_of-s-requires : goal.setting_of-s-requires
setting_of-s-requires c = general-lent _ _ c.requires
