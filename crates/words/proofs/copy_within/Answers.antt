-- `words::copy_within` meets its contract: i of the words are there, and all else is as it was.
use native.Mathlib.Omega.{arith}
use Rattle.words.proofs.WriteLaws.{within_more}
use Rattle.words.proofs.copy_within.Goals as goal

pub loop-i-preserved : goal.loop-i-preserved
loop-i-preserved c =
    let l = c.loop-i in
    rw l.invariant
    (within_more 0 c.args.words.now c.args.a c.args.b l.i (omega arith) (omega arith)
    (λ h. omega (arith, c.requires.n_bound h)))
