-- `lines::numbers_at` meets its contract.
use Prim.Native.Nat.{◌+◌}
use mathlib.Core.Path.{sym, ◌∙◌, ap}
use lib.ListN.{drop}
use Rattle.lines.specs.Read.{bytes_read, finished}
use Rattle.lines.proofs.ReadLaws.{read-on, read-end}
use Rattle.lines.proofs.numbers_at.Goals as goal

pub loop-i-init : goal.loop-i-init
loop-i-init c =
    ap (λ n. bytes_read n (drop c.args.at c.args.s.now))
    c.none-n.ensures

pub loop-i-preserved : goal.loop-i-preserved
loop-i-preserved c =
    ap (λ n. bytes_read n (drop (c.loop-i.i + 1) c.args.s.now)) c.next-n.ensures
    ∙ (sym (read-on _ _ _ c.loop-i-test.true) ∙ c.loop-i.invariant)

pub returns : goal.returns
returns c =
    c.finish.ensures
    ∙ ap finished (sym (read-end _ _ _ c.loop-i-test.false) ∙ c.loop-i.invariant)
