use Rattle.print.proofs.WriteLaws.{then}
use Rattle.salvage.proofs.TextLaws.{shorter, differs-short}
use Rattle.salvage.specs.Loads.{differs_text}
use Rattle.salvage.proofs.text.put_differs.Goals as goal

pub returns : goal.returns
returns c =
    shorter (differs_text c.args.k) (differs-short c.args.k c.requires.1)
    (then c.put_bytes-p.ensures
    (then c.put_decimal-p.ensures c.put_bytes.ensures))
