-- The parity is asked, and then the run goes on.
use Rattle.site.proofs.KnownLaws.{general-lent}
use Rattle.until.proofs.RunLaws.{formed-run, is-even, odd-run}
use mathlib.Core.Path.{ap}
use mathlib.Core.Bool.{not}
use Rattle.until.proofs.entries.run_formed.Goals as goal

pub returns-then-not-is_even : goal.returns-then-not-is_even
returns-then-not-is_even c =
    odd-run c.args.site.now c.args.links.now c.setting_of-s.ensures
    c.is_even.ensures c.requires (ap not c.if-not-is_even.true) c.args.steps

pub returns : goal.returns
returns c =
    formed-run c.go_on.ensures c.requires
    (is-even c.args.site.now c.args.links.now c.setting_of-s.ensures
    c.is_even.ensures (ap not c.if-not-is_even.false))

pub setting_of-s-requires : goal.setting_of-s-requires
setting_of-s-requires c = general-lent _ _ c.requires
