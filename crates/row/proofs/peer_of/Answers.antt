-- `row::peer_of` meets its contract.
use mathlib.Core.Path.{sym, ◌∙◌}
use Rattle.row.proofs.PeerLaws.{peer_in, peer-above}
use Rattle.row.proofs.peer_of.Goals as goal

pub returns-then-n-k : goal.returns-then-n-k
returns-then-n-k c =
    sym (peer-above c.args.n c.args.row.now c.args.k c.if-n-k.true)

pub number-requires : goal.number-requires
number-requires c =
    c.requires.row_readable.peers c.args.k c.requires.le_k.0 c.if-n-k.false

pub returns : goal.returns
returns c =
    c.number.ensures ∙ sym (peer_in c.args.n c.args.row.now c.args.k c.if-n-k.false)
