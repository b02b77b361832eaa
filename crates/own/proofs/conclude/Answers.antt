-- Nothing is done, or the turn is carried out.
use mathlib.Core.Path.{◌≡◌, ◌∙◌}
use mathlib.Core.Bool.{true}
use native.Mathlib.Nat.{sub-zero}
use Rattle.words.proofs.TestLaws.{fails, passes}
use Rattle.rules.specs.Answers.{is_accepted}
use Rattle.own.proofs.OwnedLaws.{still-there, stopped, has-room, can_carry, carried-out}
use Rattle.own.proofs.OwnedLaws.{reads-again}
use mathlib.Core.Path.{ap}
use mathlib.Core.Bool.{not}
use Rattle.own.proofs.conclude.Goals.{Else-not-is_accepted}
use Rattle.own.proofs.conclude.Goals as goal

pub returns-then-not-is_accepted : goal.returns-then-not-is_accepted
returns-then-not-is_accepted c =
    let stops = fails c.is_accepted.ensures (ap not c.if-not-is_accepted.true) in record {
      owned = stopped _ _ c.args.letter.now _ _ _ c.answer_in-answer.ensures stops;
      still_reads = still-there _ _ _;
    }

-- The turn goes on.
goes_on : (c : Else-not-is_accepted) → is_accepted c.answer_in-answer.result ≡ true
goes_on c = passes c.is_accepted.ensures (ap not c.if-not-is_accepted.false)

pub slice_bounds-carry_out-end-2 : goal.slice_bounds-carry_out-end-2
slice_bounds-carry_out-end-2 c =
    has-room c.args.s c.args.out.now c.args.t.answer _ c.answer_in-answer.ensures
    (goes_on (goal.at.slice_bounds-carry_out-end-2 c).Else-not-is_accepted)

pub carry_out-to-requires : goal.carry_out-to-requires
carry_out-to-requires c =
    can_carry _ _ _ _ _ _ c.answer_in-answer.ensures
    (goes_on (goal.at.carry_out-to-requires c).Else-not-is_accepted) c.requires
    _ _ (sub-zero _ ∙ c.row_width-end.ensures) (sub-zero _)

pub returns : goal.returns
returns c =
    let end = sub-zero _ ∙ c.row_width-end.ensures in record {
      owned = carried-out _ _ _ _ _ _ c.answer_in-answer.ensures
          (goes_on (goal.at.returns c).Else-not-is_accepted) c.requires
          _ _ end (sub-zero _) _ _ _ c.carry_out-to.ensures;
      still_reads = reads-again _ _ _ _ _ _ c.answer_in-answer.ensures
          (goes_on (goal.at.returns c).Else-not-is_accepted) c.requires
          _ _ end (sub-zero _) _ _ _ c.carry_out-to.ensures;
    }
