-- How far the lines of an input have come, and what is reported then.
use Rattle.std.specs.Prelude.{Bool, true, false}
use Rattle.streams.specs.declared.status.Status.{Status}
use Rattle.by_lines.specs.declared.run.Stage.{Stage}

abbrev pub is_on : Stage → Bool
is_on Stage.On = true
is_on Stage.Larger = false
is_on Stage.Ended = false
is_on Stage.Failed = false

abbrev pub is_larger : Stage → Bool
is_larger Stage.On = false
is_larger Stage.Larger = true
is_larger Stage.Ended = false
is_larger Stage.Failed = false

-- an input that was not read to its end failed
abbrev pub status_of : Stage → Bool → Status
status_of Stage.Ended false = Status.Done
status_of Stage.Ended true = Status.Refused
status_of Stage.On refused = Status.Failed
status_of Stage.Larger refused = Status.Failed
status_of Stage.Failed refused = Status.Failed
