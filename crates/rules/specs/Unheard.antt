-- "Crews want to see a box that has gone silent before its accept is needed" (Q-12): the present
-- boxes that have not answered the lease of a leader.
use Rattle.std.specs.Prelude.{Result, Ok, Err}
use Rattle.std.specs.Prelude.{ℕ, Bool, ◌&&◌, ◌||◌, []}
use Rattle.std.specs.Int.Bits.{bit_and, bit_xor}
use Rattle.rules.specs.Pick.{pick}
use Rattle.rules.specs.Sizes.{even}
use Rattle.rules.specs.Numbers.{in_phase}
use Rattle.rules.specs.Box.{Box}
use Rattle.rules.specs.Site.{Site, setting, is_box}
use Rattle.rules.specs.Needs.{ruled}
use Rattle.rules.specs.Step.{at_box}
use Rattle.rules.specs.Own.{quiet_needs}
use Rattle.rules.specs.Types.{BoxState, Phase, Refusal, Setting}

-- the box leads, and its lease is out: phase Lease, or LeaseDone
unfoldable pub lease_is_out : BoxState → Setting → Bool
lease_is_out b s =
    even s.epoch && b.leads
    && (in_phase b.phase Phase.Lease || in_phase b.phase Phase.LeaseDone)

-- the present boxes but those of the set
abbrev pub unanswered : BoxState → Setting → ℕ
unanswered b s = bit_xor s.present (bit_and s.present b.heard)

-- refusal 3 where no lease is out
unfoldable pub unheard_by : BoxState → Setting → Result ℕ Refusal
unheard_by b s =
    pick (lease_is_out b s) (Ok (unanswered b s)) (Err Refusal.Condition)

-- of box c of a site: 1, 2, then 3
unfoldable pub unheard : Site → ℕ → Result ℕ Refusal
unheard s c = ruled Err (at_box s c []) (unheard_by (s.box c).head (setting s c))

-- of a box by itself: 13, 1, 2, then 3
unfoldable pub own_unheard : Setting → Box → Result ℕ Refusal
own_unheard s x =
    ruled Err
    (quiet_needs s x (is_box s.n s.me) [])
    (unheard_by x.head s)
