-- The cases of an answer.
use Rattle.std.specs.Prelude.{Bool, true, false}
use Rattle.rules.specs.Types.{Answer}

-- the call leaves the site as it was
abbrev pub is_refusal : Answer → Bool
is_refusal Answer.Done = false
is_refusal Answer.Taken = false
is_refusal (Answer.Discarded why) = false
is_refusal (Answer.Refused why) = true

-- the box's turn is played
abbrev pub is_accepted : Answer → Bool
is_accepted Answer.Done = true
is_accepted Answer.Taken = true
is_accepted (Answer.Discarded why) = false
is_accepted (Answer.Refused why) = false
