-- The leader is found, and its turn in its phase is looked at.
use Rattle.site.proofs.KnownLaws.{AtBox, general-lent, knows-of, rows-lent}
use Rattle.site.proofs.TurnKnown.{box-lent}
use Rattle.until.proofs.LeaderLaws.{no-leader, at-leader, leader-step, leader-none}
use Rattle.until.proofs.leader.leader_next.Goals.{After-setting_of-s}
use Rattle.until.proofs.leader.leader_next.Goals as goal

pub leader-c-requires : goal.leader-c-requires
leader-c-requires c =
    rows-lent (knows-of c.requires 0 c.setting_of-g.ensures)

pub returns-then-c-eq0 : goal.returns-then-c-eq0
returns-then-c-eq0 c =
    no-leader c.args.site.now c.args.links.now c.requires
    c.setting_of-g.ensures c.leader-c.ensures c.if-c-eq0.true

-- What is known where there is one.
known : (c : After-setting_of-s) →
    AtBox c.args.site.now c.args.links.now c.leader-c.result c.setting_of-s.result
known c =
    at-leader c.args.site.now c.args.links.now c.requires
    c.setting_of-g.ensures c.leader-c.ensures c.if-c-eq0.false
    c.setting_of-s.ensures

pub phase-p-requires : goal.phase-p-requires
phase-p-requires c =
    let lent = box-lent (known (goal.at.phase-p-requires c).After-setting_of-s) in record {
      rows_lent = lent.rows;
      me_value = lent.me;
    }

pub returns-then-is_possible : goal.returns-then-is_possible
returns-then-is_possible c =
    leader-step c.args.site.now c.args.links.now c.requires
    c.setting_of-g.ensures c.leader-c.ensures c.if-c-eq0.false
    c.setting_of-s.ensures c.phase-p.ensures c.act_in.ensures
    c.act_turn-t.ensures c.is_possible.ensures c.call_in.ensures
    c.if-is_possible.true

pub returns : goal.returns
returns c =
    leader-none c.args.site.now c.args.links.now c.requires
    c.setting_of-g.ensures c.leader-c.ensures c.if-c-eq0.false
    c.setting_of-s.ensures c.phase-p.ensures c.act_in.ensures
    c.act_turn-t.ensures c.is_possible.ensures c.if-is_possible.false

pub setting_of-g-requires : goal.setting_of-g-requires
setting_of-g-requires c = general-lent _ _ c.requires

pub setting_of-s-requires : goal.setting_of-s-requires
setting_of-s-requires c = general-lent _ _ c.requires

pub act_turn-t-requires : goal.act_turn-t-requires
act_turn-t-requires c = box-lent (known (goal.at.act_turn-t-requires c).After-setting_of-s)
