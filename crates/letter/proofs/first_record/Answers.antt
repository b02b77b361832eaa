-- `letter::first_record` meets its contract.
use mathlib.Core.Path.{sym, ap, ◌∙◌}
use mathlib.Core.List.{List}
use Prim.Native.Nat.{ℕ}
use lib.ListN.{get_or, get_or-eq_default}
use Rattle.letter.proofs.first_record.Goals as goal

pub returns-then-held-gt0 : goal.returns-then-held-gt0
returns-then-held-gt0 c = ap (λ (l : List ℕ). get_or l 0 0) c.records-held.ensures

pub returns : goal.returns
returns c =
    sym (get_or-eq_default c.records-held.result.now 0 c.if-held-gt0.false)
    ∙ ap (λ (l : List ℕ). get_or l 0 0) c.records-held.ensures
