-- `whole::bodies::check_rest` meets its contract: the boxes, and then the mail's own answer.
use borrow.Author.Rules.{rules}
use native.Mathlib.Omega.{arith}
use mathlib.Core.Path.{sym, subst}
use mathlib.Core.List.{List}
use Prim.Native.Nat.{ℕ}
use lib.ListN.{take}
use Rattle.laws.proofs.FormLaws.{sizes-says}
use Rattle.whole.specs.Boxes.{box_entry, BoxesFound}
use Rattle.whole.specs.Whole.{RestIs}
use Rattle.whole.proofs.BodiesLaws.{rest-none, boxes-found, rest_then}
use Rattle.whole.proofs.bodies.check_rest.Goals.{After-check_boxes, In_ok-p}
use Rattle.whole.proofs.bodies.check_rest.Goals as goal

pub check_boxes-requires : goal.check_boxes-requires
check_boxes-requires c =
    let z = sizes-says c.requires.l_value in record {
      at_in_bounds = c.requires.at_in_bounds;
      n_le_most_boxes = (z.few-boxes, z.few-loads, omega (arith, c.requires.n_in_bounds));
    }

-- where the boxes were looked for
-- the table before and after
abbrev front : (c : After-check_boxes) → List ℕ
front c = take (box_entry 0) c.args.table.now

abbrev table : (c : After-check_boxes) → List ℕ
table c = c.check_boxes.new.table

abbrev front-Next : (c : In_ok-p) → List ℕ
front-Next c = take (box_entry 0) c.args.table.now

abbrev table-Next : (c : In_ok-p) → List ℕ
table-Next c = c.check_boxes.new.table

-- where they were found
boxes : (c : In_ok-p) → BoxesFound c.args.n c.args.j c.args.src.now
    c.args.at (front-Next c) (table-Next c) c.in_ok-p.p
boxes c =
    boxes-found (sizes-says c.requires.l_value) _ _ _ _ c.in_ok-p.was
    c.check_boxes.ensures

pub check_mail-requires : goal.check_mail-requires
check_mail-requires c = record {
  at_in_bounds = (boxes (goal.at.check_mail-requires c).In_ok-p).found.stands.room;
  l_value = c.requires.l_value;
  n_in_bounds = search rules;
}

pub returns : goal.returns
returns c =
    rest_then (sizes-says c.requires.l_value) _ _ _ _ c.check_mail.new.table
    (boxes (goal.at.returns c).In_ok-p) c.check_mail.result c.check_mail.ensures

pub returns-in_err-p : goal.returns-in_err-p
returns-in_err-p c =
    let after = (goal.at.returns-in_err-p c).After-check_boxes in
    subst (RestIs c.args.n c.args.j c.args.l c.args.src.now c.args.at (front after) (table after))
    (sym c.from_residual.ensures)
    (rest-none (sizes-says c.requires.l_value) c.args.src.now c.args.at (front after)
    (table after) c.in_err-p.was c.check_boxes.ensures)
