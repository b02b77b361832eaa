-- The epoch is looked at, and then the rows are put at rest and the links cleared.
use native.Mathlib.Omega.{arith}
use Rattle.site.proofs.KnownLaws.{general-lent, knows-of, links-lent}
use Rattle.site.proofs.ElectLaws.{boxes-lent}
use Rattle.rested.proofs.EntryLaws.{not-due, puts_at_rest}
use Rattle.rested.proofs.entries.rest_formed.Goals as goal

pub setting_of-s-requires : goal.setting_of-s-requires
setting_of-s-requires c = general-lent _ _ c.requires

pub returns-then-s-eq0 : goal.returns-then-s-eq0
returns-then-s-eq0 c =
    not-due c.requires c.setting_of-s.ensures (omega (arith, c.if-s-eq0.true))

pub rest_rows-requires : goal.rest_rows-requires
rest_rows-requires c =
    boxes-lent (knows-of c.requires 1 c.setting_of-s.ensures)

pub clear_links-requires : goal.clear_links-requires
clear_links-requires c =
    let l = links-lent (knows-of c.requires 1 c.setting_of-s.ensures) in record {
      l_value = l.sizes;
      l_in_bounds = l.words;
    }

pub returns : goal.returns
returns c =
    puts_at_rest c.requires c.setting_of-s.ensures (λ e. omega (arith, e, c.if-s-eq0.false))
    c.rest_rows.ensures c.clear_links.ensures
