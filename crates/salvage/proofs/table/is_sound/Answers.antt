use Rattle.salvage.proofs.TableLaws.{too_long, too_short, short-is}
use Rattle.salvage.proofs.table.is_sound.Goals as goal

pub returns-then-image-gt-MOST_BYTES : goal.returns-then-image-gt-MOST_BYTES
returns-then-image-gt-MOST_BYTES c = too_long c.args.image.now c.if-image-gt-MOST_BYTES.true

pub returns-then-image-lt4 : goal.returns-then-image-lt4
returns-then-image-lt4 c = too_short c.args.image.now c.if-image-lt4.true

pub returns : goal.returns
returns c =
    short-is c.args.image.now c.if-image-gt-MOST_BYTES.false
    c.is_sound_table.ensures
