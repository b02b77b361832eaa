-- The calls that share a function: those that change presence, and those on the head of a link.
use Rattle.std.specs.Prelude.{ℕ, List}
use Rattle.rules.specs.Needs.{Need}
use Rattle.rules.specs.Sets.{joined, without}
use Rattle.rules.specs.Step.{stop_needs, return_needs, timeout_needs}
use Rattle.rules.specs.declared.model.Call.{Call}
use Rattle.rules.specs.declared.model.Setting.{Setting}
use Rattle.site.specs.declared.mail.OnLink.{OnLink}
use Rattle.site.specs.declared.presence.Presence.{Presence}

abbrev pub presence_call : Presence → ℕ → Call
presence_call Presence.Stop c = Call.Stop c
presence_call Presence.Return c = Call.Return c
presence_call Presence.Timeout c = Call.Timeout c

-- what it needs after form and the box number
abbrev pub presence_needs : Presence → Setting → List Need
presence_needs Presence.Stop s = stop_needs s
presence_needs Presence.Return s = return_needs s
presence_needs Presence.Timeout s = timeout_needs s

-- who is present then
abbrev pub present_then : Presence → Setting → ℕ
present_then Presence.Stop s = without s.present s.me
present_then Presence.Return s = joined s.present s.me
present_then Presence.Timeout s = s.present

abbrev pub link_call : OnLink → ℕ → ℕ → Call
link_call OnLink.Deliver a b = Call.Deliver a b
link_call OnLink.Lose a b = Call.Lose a b
link_call OnLink.Repeat a b = Call.Repeat a b
