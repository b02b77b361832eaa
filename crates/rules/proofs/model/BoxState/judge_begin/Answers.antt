-- `rules::model::BoxState::judge_begin` meets its contract.
use native.Mathlib.Omega.{arith}
use Rattle.rules.proofs.PartLaws.{higher-within}
use Rattle.rules.specs.Mails.{begin_verdict}
use Rattle.rules.proofs.model.BoxState.judge_begin.Goals as goal

pub room_next-room-requires : goal.room_next-room-requires
room_next-room-requires c = (
  omega arith,
  higher-within _ _ _ _ c.higher.ensures.0 (omega arith) (omega arith),
  omega arith,
)

pub returns : goal.returns
unfolding begin_verdict
returns c =
    simp (
      c.first_cause.ensures,
      c.unless.ensures,
      c.room_next-room.ensures,
      c.higher.ensures.0,
    )
