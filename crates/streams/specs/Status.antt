-- What a program reports.
use Rattle.std.specs.Prelude.{ℕ}
use Rattle.streams.specs.declared.status.Status.{Status}

-- 2 is a command's, for wrong use
abbrev pub digit_of : Status → ℕ
digit_of Status.Done = 0
digit_of Status.Refused = 1
digit_of Status.Failed = 3
