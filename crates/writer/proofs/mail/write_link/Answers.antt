-- The count, then the letters.
use mathlib.Core.Path.{refl, sym, subst}
use Prim.Native.Nat.{ℕ}
use native.Mathlib.Omega.{arith}
use mathlib.Core.List.{List, ◌++◌}
use Rattle.words.specs.Rows.{part}
use Rattle.link.specs.Link.{link_of}
use Rattle.cells.specs.Cells.{chain, cells, Room}
use Rattle.cells.proofs.WriteLaws.{room-first, room-rest, wrote_seq, wrote_as}
use Rattle.image.specs.Image.{letter_bytes}
use Rattle.writer.proofs.MailLaws.{LinkOf, link-is, link-groups}
use Rattle.writer.proofs.mail.write_link.Goals.{After-link_of-link}
use Rattle.writer.proofs.mail.write_link.Goals as goal

row : (c : After-link_of-link) →
    LinkOf c.args.s c.args.links.now c.args.k c.link_of-link.result.now
row c =
    link-is c.args.s c.args.links.now c.args.k c.requires.links_lent.0 c.requires.links_lent.1
    c.link_of-link.ensures

room : (c : After-link_of-link) →
    Room (cells 4 (part c.link_of-link.result.now 1 1)
    ++ chain letter_bytes (link_of c.args.s.j c.args.s.l c.link_of-link.result.now))
    c.args.out.now c.args.at
room c =
    subst (λ (l : List ℕ). Room l c.args.out.now c.args.at) (link-groups (row c))
    c.requires.room

pub slice_bounds-put_words-end : goal.slice_bounds-put_words-end
slice_bounds-put_words-end c =
    omega (
      arith,
      (row (goal.at.slice_bounds-put_words-end c).After-link_of-link).readable.words.width,
    )

pub put_words-p-requires : goal.put_words-p-requires
put_words-p-requires c = room-first _ (room (goal.at.put_words-p-requires c).After-link_of-link)

pub write_letters-requires : goal.write_letters-requires
write_letters-requires c = record {
  readable_link = (row (goal.at.write_letters-requires c).After-link_of-link).readable;
  room = room-rest (room (goal.at.write_letters-requires c).After-link_of-link)
      c.put_words-p.ensures;
}

pub returns : goal.returns
returns c =
    wrote_as (sym (link-groups (row (goal.at.returns c).After-link_of-link))) refl
    (wrote_seq c.put_words-p.ensures c.write_letters.ensures)
