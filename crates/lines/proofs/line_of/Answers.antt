-- `lines::line_of` meets its contract.
use Prim.Native.Nat.{ℕ}
use mathlib.Core.Path.{sym, ◌∙◌, ap}
use mathlib.Core.Bool.{◌||◌, not}
use lib.Dec.{eqb}
use Rattle.rules.specs.Pick.{pick, pick_true, pick-false}
use Rattle.lines.specs.Read.{line_with, line_of}
use Rattle.lines.specs.declared.Line.TheVariants as L
use Rattle.lines.proofs.line_of.Goals as goal

pub returns-then-n-k : goal.returns-then-n-k
unfolding line_of
returns-then-n-k c =
    sym (ap (λ (k : ℕ). pick (c.args.n.bad || not (eqb c.args.n.count k)) L.Unreadable
    (line_with c.args.w
    c.args.n)) (sym c.arity-k.ensures) ∙ pick_true _ _ _ c.if-n-k.true)

pub returns : goal.returns
unfolding line_of
returns c =
    c.line_with.ensures
    ∙ sym
    (ap
    (λ (k : ℕ). pick (c.args.n.bad || not (eqb c.args.n.count k)) L.Unreadable
    (line_with c.args.w c.args.n))
    (sym c.arity-k.ensures)
    ∙ pick-false _ _ _ c.if-n-k.false)
