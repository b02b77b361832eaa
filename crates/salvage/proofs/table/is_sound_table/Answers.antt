use native.Mathlib.Omega.{arith}
use Rattle.salvage.proofs.TableLaws.{too_few, too_many, no_table, table_is}
use Rattle.salvage.proofs.table.is_sound_table.Goals as goal

pub returns-then-count-lt3 : goal.returns-then-count-lt3
returns-then-count-lt3 c =
    too_few c.args.image.now c.table_number-count.ensures.0
    c.if-count-lt3.true

pub returns-then-count-gt-MOST_BODIES : goal.returns-then-count-gt-MOST_BODIES
returns-then-count-gt-MOST_BODIES c =
    too_many c.args.image.now
    c.table_number-count.ensures.0 c.if-count-lt3.false c.if-count-gt-MOST_BODIES.true

pub returns-then-image-at : goal.returns-then-image-at
returns-then-image-at c =
    no_table c.args.image.now c.table_number-count.ensures.0
    c.if-count-lt3.false c.if-count-gt-MOST_BODIES.false (omega arith)

pub is_in_order-requires : goal.is_in_order-requires
is_in_order-requires c =
    (omega arith, omega arith, omega arith)

pub returns : goal.returns
returns c =
    table_is c.args.image.now c.table_number-count.ensures.0
    c.if-count-lt3.false c.if-count-gt-MOST_BODIES.false c.table_bytes-at.ensures
    c.if-image-at.false c.is_in_order.ensures
