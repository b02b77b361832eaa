-- `renamed::text::has-room` meets its contract.
use Rattle.renamed.proofs.TextLaws.{room-start, here-good}
use Rattle.renamed.proofs.TextLaws.{room-on, room-none, room-end}
use Rattle.renamed.proofs.text.has_room.Goals as goal

pub loop-i-init : goal.loop-i-init
loop-i-init c =
    room-start c.args.from c.args.to c.args.s.now c.args.room c.requires

pub line_length-k-requires : goal.line_length-k-requires
line_length-k-requires c =
    here-good c.args.from c.args.to c.args.s.now c.loop-i.i
    c.find-e.ensures.place c.loop-i-test.true
    c.find-e.ensures.before_end c.loop-i.invariant.good

pub returns-then-left-k : goal.returns-then-left-k
returns-then-left-k c =
    room-none c.args.from c.args.to c.args.s.now c.loop-i.i c.find-e.ensures.place
    c.loop-i-test.true c.find-e.ensures.before_end c.loop-i.invariant.good
    c.loop-i.invariant c.line_length-k.ensures c.if-left-k.true

pub loop-i-preserved : goal.loop-i-preserved
loop-i-preserved c =
    room-on c.args.from c.args.to c.args.s.now c.loop-i.i c.find-e.ensures.place
    c.loop-i-test.true c.find-e.ensures.before_end c.loop-i.invariant.good
    c.loop-i.invariant c.line_length-k.ensures c.if-left-k.false

pub returns : goal.returns
returns c =
    room-end c.args.from c.args.to c.args.s.now c.loop-i.invariant c.loop-i-test.false
