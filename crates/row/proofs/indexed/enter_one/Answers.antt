-- `row::indexed::enter_one` meets its contract.
use mathlib.Core.Path.{sym, ap, ◌∙◌, subst}
use Prim.Native.Nat.{ℕ}
use mathlib.Core.List.{List}
use Rattle.words.specs.Rows.{splice}
use Rattle.index.specs.Lent.{Appends, appended}
use Rattle.row.specs.Row.{index_at, index_width, index_of}
use Rattle.row.proofs.IndexLaws.{index-cut, index-put}
use Rattle.row.proofs.indexed.enter_one.Goals as goal

pub append-requires : goal.append-requires
append-requires c =
    subst (λ (ix : List ℕ). Appends c.slot_of-slot.result c.args.k c.args.i ix)
    (sym (index-cut c.args.j c.args.row.now c.requires.row_len.0))
    (subst (λ (s : ℕ). Appends s c.args.k c.args.i (index_of c.args.j c.args.row.now))
    (sym c.slot_of-slot.ensures.0) c.requires.appends)

pub returns : goal.returns
returns c =
    let r = c.args.row.now in
    let J = c.args.j in
    index-put J r c.requires.row_len.0 c.append.new.ix
    ∙ ap (splice r (index_at J) (index_width J))
    (c.append.ensures
    ∙ (λ k. appended (c.slot_of-slot.ensures.0 k) c.args.k c.args.i
    (index-cut J r c.requires.row_len.0 k)))
