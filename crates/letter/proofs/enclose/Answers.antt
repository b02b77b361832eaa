-- `letter::enclose` meets its contract: the words of its fields, and behind them the records.
use borrow.Author.Rules.{rules}
use mathlib.Core.Path.{◌∙◌, ap}
use Prim.Native.Nat.{ℕ}
use lib.ListN.{length}
use Rattle.letter.specs.Lent.{enclosed_from, enclosed_count}
use Rattle.letter.proofs.EncloseLaws.{enclose_law}
use Rattle.letter.proofs.enclose.Goals as goal

pub copy_part-requires : goal.copy_part-requires
copy_part-requires c =
    let ef = c.enclosed_from-from.ensures
    ∙ ap (λ (a : ℕ). enclosed_from c.args.m.kind a) c.agreed-a.ensures in
    let ec = c.enclosed_count-count.ensures
    ∙ ap (λ (a : ℕ). enclosed_count c.args.m.kind a (length c.args.records.now))
    c.agreed-a.ensures in
    search rules

pub returns : goal.returns
returns c =
    let m = c.args.m in
    enclose_law c.args.place.now m c.args.records.now c.requires
    _ _ _ _
    (c.enclosed_from-from.ensures
    ∙ ap (λ (a : ℕ). enclosed_from c.args.m.kind a) c.agreed-a.ensures)
    (c.enclosed_count-count.ensures
    ∙ ap (λ (a : ℕ). enclosed_count c.args.m.kind a (length c.args.records.now))
    c.agreed-a.ensures)
    (c.copy_from_slice.ensures.after
    ∙ simp (
      c.from.ensures,
      c.from-2.ensures,
      c.from-3.ensures,
      c.from-4.ensures,
      c.from-5.ensures,
      c.from-6.ensures,
      c.word.ensures,
    ))
    c.copy_part.ensures
