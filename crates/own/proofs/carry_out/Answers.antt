-- The row takes the turn, and then the letter its records.
use Rattle.own.proofs.PostLaws.{held-within, held_after, carried}
use Rattle.own.proofs.carry_out.Goals as goal

pub records-requires : goal.records-requires
records-requires c =
    held-within _ _ _ _ _ c.requires.plays _ c.play.ensures

pub send-requires : goal.send-requires
send-requires c =
    rw (c.records.ensures, held_after _ _ _ _ _ c.requires.plays _ c.play.ensures) c.requires.posts

pub returns : goal.returns
returns c =
    carried _ _ _ _ _ c.requires.plays _ c.play.ensures _ _ _ _
    c.records.ensures c.send.ensures
