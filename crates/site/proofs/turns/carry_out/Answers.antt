use native.Mathlib.Omega.{arith}
use Rattle.site.proofs.CarryLaws.{playable, posts-after, sent-after}
use Rattle.site.proofs.turns.carry_out.Goals as goal

pub post-requires : goal.post-requires
post-requires c =
    let can = c.requires in
    let rows = c.play.ensures in record {
      rows_lent = c.play.ensures.lent;
      posts = posts-after can rows _ c.requires.links c.requires.room;
    }

pub returns : goal.returns
returns c =
    let can = c.requires in
    let rows = c.play.ensures in
    record { rows = rows; links = sent-after can rows _ _ _ c.post.ensures }

pub play-requires : goal.play-requires
play-requires c = record {
  p_le_q = (omega arith, omega arith);
  playable = playable c.requires;
}
