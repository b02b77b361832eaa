-- Each turn adds the next length.
use Prim.Native.Nat.{◌<◌}
use native.Mathlib.Omega.{arith}
use mathlib.Core.List.{[]}
use lib.ListN.{length}
use Rattle.cells.proofs.ChainLaws.{chain-room, length_none, length-next, length-room, length-all}
use Rattle.image.specs.Image.{link_bytes}
use Rattle.writer.specs.Bodies.{links_in}
use Rattle.writer.proofs.MailLaws.{length_links_in}
use Rattle.writer.proofs.mail.links_length.Goals.{In-loop-k}
use Rattle.writer.proofs.mail.links_length.Goals as goal

-- The next link is there.
within : (c : In-loop-k) →
    let a = c.args in
    c.loop-k.k < length (links_in c.args.s c.args.links.now)
within c =
    omega (arith, length_links_in c.args.s c.args.links.now, c.link_count-count.ensures)

pub link_count-count-requires : goal.link_count-count-requires
link_count-count-requires c = c.requires.links_lent.sizes

pub loop-k-init : goal.loop-k-init
loop-k-init c = length_none _ []

pub link_length-total-requires : goal.link_length-total-requires
link_length-total-requires c =
    let ls = links_in c.args.s c.args.links.now in record {
      links_lent = (c.requires.links_lent, omega (arith, c.link_count-count.ensures));
      short = record {
        most = omega (
          arith,
          chain-room link_bytes ls c.loop-k.k []
              (within (goal.at.link_length-total-requires c).In-loop-k),
        );
      };
    }

pub overflow_add-total : goal.overflow_add-total
overflow_add-total c =
    let room = length-room _ _ c.loop-k.k [] (within (goal.at.overflow_add-total c).In-loop-k)
    c.loop-k.invariant
    c.link_length-total.ensures in
    omega arith

pub loop-k-preserved : goal.loop-k-preserved
loop-k-preserved c =
    length-next _ _ c.loop-k.k [] _ _ (within (goal.at.loop-k-preserved c).In-loop-k)
    c.loop-k.invariant c.link_length-total.ensures

pub returns : goal.returns
returns c =
    length-all _ _ c.loop-k.k _
    (omega (arith, c.link_count-count.ensures, length_links_in c.args.s c.args.links.now))
    c.loop-k.invariant
