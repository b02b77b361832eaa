-- `le::put_at` meets its contract, by the law of a part that `put` has written.
use Rattle.le.proofs.LeLaws.{put_in}
use Rattle.le.proofs.put_at.Goals as goal

pub returns : goal.returns
returns c =
    put_in c.args.k c.args.at c.args.x c.args.out.now c.put.new.dst c.requires c.put.ensures
