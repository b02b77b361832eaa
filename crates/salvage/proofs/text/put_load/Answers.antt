use Rattle.salvage.proofs.TextLaws.{load-none, load-differs, load_same}
use Rattle.salvage.proofs.text.put_load.Goals as goal

pub returns-then-t-eq0 : goal.returns-then-t-eq0
returns-then-t-eq0 c =
    load-none c.args.k c.args.t
    c.if-t-eq0.true

pub returns-then-t : goal.returns-then-t
returns-then-t c =
    load-differs c.args.k c.args.t c.if-t-eq0.false c.if-t.true
    c.put_differs.ensures

pub returns : goal.returns
returns c =
    load_same c.args.k c.args.t c.if-t-eq0.false c.if-t.false
    c.put_kept.ensures
