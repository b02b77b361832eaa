use Rattle.salvage.proofs.LoadLaws.{skips_aside, skips_past, skips_first, skips_none}
use Rattle.salvage.proofs.loads.next_in.Goals as goal

pub returns-then-not-readable : goal.returns-then-not-readable
returns-then-not-readable c =
    skips_aside c.args.readable c.args.body.now
    c.number_at-first.ensures.value c.number_at-last.ensures.value 1000000001
    (c.if-not-readable.true) c.requires

pub returns-then-last-k : goal.returns-then-last-k
returns-then-last-k c =
    skips_past c.args.readable c.args.body.now
    c.number_at-first.ensures.value c.number_at-last.ensures.value 1000000001
    (c.if-not-readable.false) c.if-last-k.true c.requires

pub returns-then-k-first : goal.returns-then-k-first
returns-then-k-first c =
    skips_first c.args.readable c.args.body.now
    c.number_at-first.ensures.value c.number_at-last.ensures.value
    (c.if-not-readable.false) c.if-k-first.true

pub returns : goal.returns
returns c =
    skips_none c.args.readable c.args.body.now
    c.number_at-first.ensures.value c.number_at-last.ensures.value
