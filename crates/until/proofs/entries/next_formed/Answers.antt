use Rattle.site.proofs.KnownLaws.{general-lent}
use Rattle.until.proofs.RunLaws.{odd-next, even-next}
use mathlib.Core.Path.{ap}
use mathlib.Core.Bool.{not}
use Rattle.until.proofs.entries.next_formed.Goals as goal

pub returns-then-not-is_even : goal.returns-then-not-is_even
returns-then-not-is_even c =
    odd-next c.args.site.now c.args.links.now c.setting_of-s.ensures
    c.is_even.ensures c.requires (ap not c.if-not-is_even.true)

pub returns : goal.returns
returns c =
    even-next c.args.site.now c.args.links.now c.setting_of-s.ensures
    c.is_even.ensures c.requires (ap not c.if-not-is_even.false) c.next.ensures

pub setting_of-s-requires : goal.setting_of-s-requires
setting_of-s-requires c = general-lent _ _ c.requires
