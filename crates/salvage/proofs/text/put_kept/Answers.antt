use Rattle.print.proofs.WriteLaws.{then}
use Rattle.salvage.proofs.TextLaws.{shorter, record_short}
use Rattle.salvage.specs.Loads.{record_text}
use borrow.Author.Rules.{rules}
use Rattle.salvage.proofs.text.put_kept.Goals as goal

pub returns : goal.returns
returns c =
    shorter (record_text c.args.k c.args.r c.args.many)
    (record_short c.args.k c.requires.1 c.args.r c.args.many
    (search rules) c.requires.2)
    (then c.put_bytes-p.ensures
    (then c.put_decimal-p.ensures
    (then c.put_next-p.ensures
    (then c.put_next-p-2.ensures
    (then c.put_next-p-3.ensures c.put_byte.ensures)))))
