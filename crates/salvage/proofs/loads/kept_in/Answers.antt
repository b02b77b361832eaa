use Rattle.salvage.proofs.LoadLaws.{kept-aside, kept-below, kept_above, kept-is}
use Rattle.salvage.proofs.loads.kept_in.Goals as goal

pub returns-then-not-readable : goal.returns-then-not-readable
returns-then-not-readable c =
    kept-aside c.args.readable c.args.n c.args.body.now c.args.k
    (c.if-not-readable.true)

pub returns-then-k-first : goal.returns-then-k-first
returns-then-k-first c =
    kept-below c.args.readable c.args.n c.args.body.now c.args.k
    c.number_at-first.ensures.value c.number_at-last.ensures.value
    (c.if-not-readable.false) c.if-k-first.true

pub returns-then-last-k : goal.returns-then-last-k
returns-then-last-k c =
    kept_above c.args.readable c.args.n c.args.body.now c.args.k
    c.number_at-first.ensures.value c.number_at-last.ensures.value
    (c.if-not-readable.false) c.if-k-first.false c.if-last-k.true

pub returns : goal.returns
returns c =
    kept-is c.args.readable c.args.n c.args.body.now c.args.k
    c.number_at-first.ensures.value c.number_at-last.ensures.value
    (c.if-not-readable.false) c.if-k-first.false c.if-last-k.false
    c.box_head_bytes.ensures c.size.ensures c.word_at.ensures.value
