use Rattle.site.proofs.KnownLaws.{general-lent, knows-of, rows-lent}
use Rattle.until.proofs.LeaderLaws.{leader-is}
use Rattle.until.proofs.leader.leader_formed.Goals as goal

pub leader-requires : goal.leader-requires
leader-requires c =
    rows-lent (knows-of c.requires 0 c.setting_of-s.ensures)

pub returns : goal.returns
returns c =
    leader-is c.args.site.now c.args.links.now c.requires
    c.setting_of-s.ensures c.leader.ensures

pub setting_of-s-requires : goal.setting_of-s-requires
setting_of-s-requires c = general-lent _ _ c.requires
