use mathlib.Core.Path.{sym, ◌∙◌}
use native.Mathlib.Omega.{arith}
use Rattle.salvage.specs.Block.Salvaged.{short}
use Rattle.salvage.proofs.PartsLaws.{salvage_block, salvage_refused}
use Rattle.salvage.proofs.salvage.Goals as goal

pub returns-then-out-lt-MOST_TEXT : goal.returns-then-out-lt-MOST_TEXT
returns-then-out-lt-MOST_TEXT c = short c.if-out-lt-MOST_TEXT.true

pub put_block-n-requires : goal.put_block-n-requires
put_block-n-requires c =
    (sym c.is_sound.ensures ∙ c.if-is_sound.true, omega arith)

pub returns-then-is_sound : goal.returns-then-is_sound
returns-then-is_sound c =
    salvage_block c.args.image.now c.args.out.now c.if-out-lt-MOST_TEXT.false
    (sym c.is_sound.ensures ∙ c.if-is_sound.true) c.put_block-n.ensures

pub returns : goal.returns
returns c =
    salvage_refused c.args.image.now c.args.out.now c.if-out-lt-MOST_TEXT.false
    (sym c.is_sound.ensures ∙ c.if-is_sound.false) (omega arith)
    c.put_bytes-n.ensures
