-- The measure of the turns is the steps left.
use Rattle.until.proofs.turns.+leader_turns_mail_turns.Given as goal

abbrev pub decreases-leader_turns : goal.decreases-leader_turns
decreases-leader_turns l = l.left

abbrev pub decreases-mail_turns : goal.decreases-mail_turns
decreases-mail_turns l = l.left
