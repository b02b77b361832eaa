-- Runs that are computed by the rules: one in which a Lose and a Repeat see that a site was put at
-- rest, and one in which a load that was begun is agreed after it. The latest call stands first.
use mathlib.Core.Path.{◌≡◌, refl}
use mathlib.Core.Bool.{false}
use mathlib.Core.List.{List, [], ◌∷◌, ◌++◌}
use lib.Count.{ones, ones_in}
use Rattle.rules.specs.Pick.{pick}
use Rattle.rules.specs.Every.{all, each, every, tally}
use Rattle.rules.specs.Sizes.{even, sizes_form, proper, record_form}
use Rattle.rules.specs.Sets.{bit, joined, without, digit, has, set_form, full_set}
use Rattle.rules.specs.Numbers.{in_state, in_phase}
use Rattle.rules.specs.NewPn.{new_pn}
use Rattle.rules.specs.Turns.{first_cause, unless, settled}
use Rattle.rules.specs.Parts.{others, under_of, higher, took_kept, took_book, room_next}
use Rattle.rules.specs.Parts.{cleared}
use Rattle.rules.specs.Last.{noted, told, behind, lagging, improves, bettered, raised, counted}
use Rattle.rules.specs.Last.{uncounted, replied, last_verdict, on_last}
use Rattle.rules.specs.Mails.{unagreed_of, on_collect, begin_verdict, on_begin, accept_verdict}
use Rattle.rules.specs.Mails.{on_accept}
use Rattle.rules.specs.Mails.{on_commit, on_lease, of_kind, on_mail}
use Rattle.rules.specs.Steps.{elected, can_recover, recover, can_collect, best_held, collect}
use Rattle.rules.specs.Steps.{started}
use Rattle.rules.specs.Steps.{leased, can_ready, has_previous, ready, can_offer, offer, can_propose}
use Rattle.rules.specs.Steps.{propose, can_agree, agree, acted}
use Rattle.rules.specs.Box.{held_at, written, enclosed}
use Rattle.rules.specs.Site.{fresh_head, fresh, posted, room}
use Rattle.rules.specs.Form.{first_form, count_form, peer_form, form_box, form_kind, form_letter}
use Rattle.rules.specs.Form.{form_link, form}
use Rattle.rules.specs.Needs.{ruled}
use Rattle.rules.specs.Step.{by_answer, delivered, elect, presented, step, run}
use Rattle.laws.proofs.Types.{Answer, Call, Refusal}
use Rattle.safety.specs.Demand3.{start}
use Rattle.safety.proofs.Example.{ranges}
use Rattle.rest.specs.Rest.{rested, rest}
use Rattle.rest.specs.Deeds.{Deed, calls, rests, done_by}

-- a Collect is under way when the epoch ends
collect-under-way : List Call
collect-under-way =
    Call.Timeout 1 ∷ Call.Collect 1 ∷ Call.Recover 1 ∷ Call.Elect 1 ∷ []

pub seen : (calls : List Call)
    × (even (run (fresh 2 16 8) calls).epoch ≡ false)
    × ((step (run (fresh 2 16 8) calls) (Call.Lose 1 2)).answer ≡ Answer.Done)
    × ((step (rest (run (fresh 2 16 8) calls)).next (Call.Lose 1 2)).answer
    ≡ Answer.Refused Refusal.Condition)
    × ((step (run (fresh 2 16 8) calls) (Call.Repeat 1 2)).answer ≡ Answer.Done)
    × ((step (rest (run (fresh 2 16 8) calls)).next (Call.Repeat 1 2)).answer
    ≡ Answer.Refused Refusal.Condition)
unfolding collect-under-way pick all each every tally sizes_form proper record_form bit without
    digit has set_form full_set in_state in_phase new_pn unless settled others elected can_recover
    recover can_collect best_held collect acted held_at written enclosed fresh_head
    fresh posted room
    first_form count_form peer_form form_box form_kind form_letter form_link form ruled
    by_answer elect
    presented step run rested rest ones ones_in
seen = (collect-under-way, refl, refl, refl, refl, refl)

-- box 1 has begun a load, and the epoch ends
pub begun : List Deed
begun =
    calls (Call.Timeout 1)
    ∷ calls (Call.Propose 1)
    ∷ calls (Call.Offer 1 1 1)
    ∷ calls (Call.Ready 1)
    ∷ calls (Call.Deliver 2 1)
    ∷ calls (Call.Deliver 1 2)
    ∷ calls (Call.Collect 1)
    ∷ calls (Call.Recover 1)
    ∷ calls (Call.Elect 1)
    ∷ []

-- .. box 2 is elected, and hears of it
pub agreed-after : List Deed
agreed-after =
    calls (Call.Deliver 2 1)
    ∷ calls (Call.Agree 2)
    ∷ calls (Call.Deliver 1 2)
    ∷ calls (Call.Deliver 2 1)
    ∷ calls (Call.Ready 2)
    ∷ calls (Call.Deliver 1 2)
    ∷ calls (Call.Deliver 2 1)
    ∷ calls (Call.Collect 2)
    ∷ calls (Call.Recover 2)
    ∷ calls (Call.Elect 2)
    ∷ []

pub load-after-rest :
    ranges (done_by (start 2 16 8) (agreed-after ++ rests ∷ begun)) ≡ 1 ∷ 1 ∷ 1 ∷ 1 ∷ []
unfolding begun agreed-after pick all each every tally sizes_form proper record_form bit joined
    without digit has set_form full_set in_state in_phase new_pn first_cause unless
    settled others
    under_of took_kept took_book cleared noted told behind lagging improves bettered raised counted
    uncounted replied last_verdict on_last unagreed_of on_collect begin_verdict
    on_begin accept_verdict
    on_accept on_commit on_lease of_kind on_mail elected can_recover recover can_collect
    best_held collect
    started leased can_ready has_previous ready can_offer offer can_propose propose can_agree agree
    acted held_at written enclosed fresh_head fresh posted room first_form count_form
    peer_form form_box
    form_kind form_letter form_link form ruled by_answer delivered elect presented step run rested
    rest done_by ones ones_in higher room_next
load-after-rest = refl
