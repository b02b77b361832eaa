-- `renamed::entries::translate` meets its contract.
use mathlib.Core.Path.{sym, ◌∙◌}
use borrow.Author.Tests.{leb-true}
use Rattle.renamed.proofs.EntryLaws.{all-readable, unreadable-is, unnamed_is, short-is}
use Rattle.renamed.proofs.EntryLaws.{written_is}
use Rattle.renamed.proofs.entries.translate.Goals as goal

pub returns-then-is_some : goal.returns-then-is_some
returns-then-is_some c =
    unreadable-is c.args.from c.args.to c.args.lines c.args.s.now c.judge-j.ensures
    (sym c.is_some.ensures ∙ c.if-is_some.true)

pub returns-then-is_some-2 : goal.returns-then-is_some-2
returns-then-is_some-2 c =
    unnamed_is c.args.from c.args.to c.args.lines c.args.s.now c.judge-j.ensures
    (sym c.is_some.ensures ∙ c.if-is_some.false) (sym c.is_some-2.ensures ∙ c.if-is_some-2.true)

pub has_room-requires : goal.has_room-requires
has_room-requires c =
    all-readable c.args.from c.args.to c.args.lines c.args.s.now c.judge-j.ensures
    (sym c.is_some.ensures ∙ c.if-is_some.false)

pub returns-then-not-has_room : goal.returns-then-not-has_room
returns-then-not-has_room c =
    short-is c.args.from c.args.to c.args.lines c.args.s.now c.judge-j.ensures
    (sym c.is_some.ensures ∙ c.if-is_some.false)
    (sym c.is_some-2.ensures ∙ c.if-is_some-2.false) c.has_room.ensures (c.if-not-has_room.true)

pub put_lines-requires : goal.put_lines-requires
put_lines-requires c = (
  all-readable c.args.from c.args.to c.args.lines c.args.s.now c.judge-j.ensures
      (sym c.is_some.ensures ∙ c.if-is_some.false),
  leb-true _ _ (sym c.has_room.ensures ∙ c.if-not-has_room.false),
)

pub returns : goal.returns
returns c =
    written_is c.args.from c.args.to c.args.lines c.args.s.now c.judge-j.ensures
    (sym c.is_some.ensures ∙ c.if-is_some.false) (sym c.is_some-2.ensures ∙ c.if-is_some-2.false)
    c.has_room.ensures
    (c.if-not-has_room.false) c.put_lines.ensures
