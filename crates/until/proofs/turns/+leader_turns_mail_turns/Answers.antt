-- The turns of mail and of the leader meet their contracts.
use Rattle.std.proofs.Common.{◌<◌, arith}
use Rattle.until.proofs.GoneLaws.{ends-none, played, stopped, nothing, ran_then}
use Rattle.until.proofs.GoneLaws.{by-leader, leads-to}
use Rattle.until.proofs.turns.+leader_turns_mail_turns.Goals as goal

-- ---- the leader's turns

pub leader_turns-returns-then-left-eq0 : goal.leader_turns-returns-then-left-eq0
leader_turns-returns-then-left-eq0 t c = ends-none _ _ _ _ c.requires.links_value c.if-left-eq0.true

pub leader_turns-returns-in-Nothing : goal.leader_turns-returns-in-Nothing
leader_turns-returns-in-Nothing t c =
    let some : 0 < c.args.left = omega arith in
    nothing _ _ c.args.left c.args.used c.requires.links_value _ _ _ _ c.take.ensures
    (by-leader _ _ c.leader_next-next.ensures (c.requires.links_value_2 some)) c.in-Nothing.is

pub leader_turns-returns-in-Refused : goal.leader_turns-returns-in-Refused
leader_turns-returns-in-Refused t c =
    let some : 0 < c.args.left = omega arith in
    stopped _ _ c.args.left c.args.used c.requires.links_value _ _ _ _ c.take.ensures
    (leads-to _ _ c.leader_next-next.ensures (c.requires.links_value_2 some)) some c.in-Refused.is

pub leader_turns-returns-then-sender-gt0 : goal.leader_turns-returns-then-sender-gt0
leader_turns-returns-then-sender-gt0 t c =
    let some : 0 < c.args.left = omega arith in
    let gone =
    played _ _ c.args.left c.args.used c.requires.links_value _ _ _ _ c.take.ensures
    (leads-to _ _ c.leader_next-next.ensures (c.requires.links_value_2 some)) some c.in-Played.is in
    ran_then gone c.mail_turns.ensures

pub leader_turns-returns-else-sender-gt0 : goal.leader_turns-returns-else-sender-gt0
leader_turns-returns-else-sender-gt0 t c =
    let some : 0 < c.args.left = omega arith in
    let gone =
    played _ _ c.args.left c.args.used c.requires.links_value _ _ _ _ c.take.ensures
    (leads-to _ _ c.leader_next-next.ensures (c.requires.links_value_2 some)) some c.in-Played.is in
    ran_then gone c.leader_turns.ensures

-- ---- the mail turns

pub mail_turns-returns-then-left-eq0 : goal.mail_turns-returns-then-left-eq0
mail_turns-returns-then-left-eq0 t c = ends-none _ _ _ _ c.requires.links_value c.if-left-eq0.true
