-- `row::form::is_peer` meets its contract.
use Rattle.row.proofs.PeerLaws.{peer-go, peer-stop}
use Rattle.row.proofs.form.is_peer.Goals as goal

pub returns-then-n-k : goal.returns-then-n-k
returns-then-n-k c =
    peer-stop c.args.n c.args.b c.args.w.now c.args.k c.requires.le_k.0
    c.requires.le_k.1 c.if-n-k.true

pub returns : goal.returns
returns c =
    peer-go c.args.n c.args.b c.args.w.now c.args.k c.requires.le_k.0
    c.requires.le_k.1 c.if-n-k.false
