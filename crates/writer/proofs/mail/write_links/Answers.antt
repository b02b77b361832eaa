-- At each turn the first k links are written.
use Prim.Native.Nat.{◌<◌}
use native.Mathlib.Omega.{arith}
use mathlib.Core.List.{[]}
use lib.ListN.{length}
use Rattle.cells.proofs.WriteLaws.{wrote_none, room-next, wrote-next, wrote-all, wrote-length}
use Rattle.writer.specs.Bodies.{links_in}
use Rattle.writer.proofs.MailLaws.{length_links_in}
use Rattle.writer.proofs.mail.write_links.Goals.{In-loop-k}
use Rattle.writer.proofs.mail.write_links.Goals as goal

-- The next link is there.
within : (c : In-loop-k) →
    let a = c.args in
    c.loop-k.k < length (links_in c.args.s c.args.links.now)
within c =
    omega (arith, length_links_in c.args.s c.args.links.now, c.link_count-count.ensures)

pub link_count-count-requires : goal.link_count-count-requires
link_count-count-requires c = c.requires.links_lent.sizes

pub loop-k-init : goal.loop-k-init
loop-k-init c = wrote_none _ [] _ _ (omega arith)

pub write_link-p-requires : goal.write_link-p-requires
write_link-p-requires c = record {
  links_lent = (c.requires.links_lent, omega (arith, c.link_count-count.ensures));
  room = room-next _ _ [] c.loop-k.k (within (goal.at.write_link-p-requires c).In-loop-k)
      c.requires.room c.loop-k.invariant;
}

pub loop-k-preserved : goal.loop-k-preserved
loop-k-preserved c =
    wrote-next _ _ [] c.loop-k.k (within (goal.at.loop-k-preserved c).In-loop-k) c.loop-k.invariant
    c.write_link-p.ensures

pub shape_of-out : goal.shape_of-out
shape_of-out c = wrote-length c.loop-k.invariant

pub returns : goal.returns
returns c =
    wrote-all _ _ c.loop-k.k
    (omega (arith, c.link_count-count.ensures, length_links_in c.args.s c.args.links.now))
    c.loop-k.invariant
