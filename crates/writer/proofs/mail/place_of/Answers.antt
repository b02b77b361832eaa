use mathlib.Core.Path.{refl, ap, ◌∙◌}
use Prim.Native.Nat.{ℕ}
use Rattle.words.proofs.PartLaws.{cut_at}
use Rattle.link.specs.Holds.{place_start}
use Rattle.writer.proofs.MailLaws.{place_needs}
use Rattle.writer.proofs.mail.place_of.Goals as goal

pub place_at-start-requires : goal.place_at-start-requires
place_at-start-requires c = let made = place_needs c.args.j c.args.l c.args.link.now c.args.i
    c.requires.0 c.requires.1 c.size.ensures in record {
      link_sizes = made.0;
      first_lt_l = made.1;
    }

pub returns : goal.returns
returns c =
    cut_at c.args.link.now
    (c.place_at-start.ensures.0
    ∙ ap (λ (f : ℕ). place_start c.args.j c.args.l f c.args.i) c.size.ensures)
    refl
