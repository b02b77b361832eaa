-- Runs that are computed by the rules. Calls stand latest first; frames are small, since a proof
-- compares numbers by counting.
use Prim.Native.Nat.{ℕ}
use mathlib.Core.Path.{◌≡◌, refl}
use mathlib.Core.Bool.{true}
use mathlib.Core.List.{List, [], ◌∷◌, ◌++◌, reverse}
use lib.Count.{ones, ones_in}
use lib.ListN.{get_or}
use Rattle.rules.specs.Pick.{pick}
use Rattle.rules.specs.Every.{all, each, every, tally}
use Rattle.rules.specs.Sizes.{sizes_form, left_of, proper, record_form}
use Rattle.rules.specs.Sets.{bit, joined, without, digit, has, set_form, full_set}
use Rattle.rules.specs.Numbers.{answer_number, in_state, in_phase}
use Rattle.rules.specs.NewPn.{new_pn}
use Rattle.rules.specs.Turns.{first_cause, unless, settled}
use Rattle.rules.specs.Parts.{others, under_of, higher, took_kept, took_book, room_next}
use Rattle.rules.specs.Parts.{cleared}
use Rattle.rules.specs.Last.{noted, told, behind, lagging, improves, bettered, raised, counted}
use Rattle.rules.specs.Last.{uncounted, replied, last_verdict, on_last}
use Rattle.rules.specs.Mails.{unagreed_of, on_collect, begin_verdict, on_begin, accept_verdict}
use Rattle.rules.specs.Mails.{on_accept}
use Rattle.rules.specs.Mails.{on_commit, on_lease, lease_ack_verdict, on_lease_ack, of_kind}
use Rattle.rules.specs.Mails.{on_mail}
use Rattle.rules.specs.Steps.{elected, can_recover, recover, can_collect, best_held, collect}
use Rattle.rules.specs.Steps.{started}
use Rattle.rules.specs.Steps.{leased, can_ready, has_previous, ready, can_offer, offer, can_propose}
use Rattle.rules.specs.Steps.{propose, can_agree, agree, can_finish, finish, can_heard, lease_heard}
use Rattle.rules.specs.Steps.{can_trim, trim, acted}
use Rattle.rules.specs.Box.{held_at, written, enclosed}
use Rattle.rules.specs.Site.{Site, fresh_head, fresh, posted, room}
use Rattle.rules.specs.Form.{first_form, count_form, peer_form, form_box, form_kind, form_letter}
use Rattle.rules.specs.Form.{form_link, form}
use Rattle.rules.specs.Needs.{ruled}
use Rattle.rules.specs.Step.{by_answer, delivered, elect, presented, step, run, agreed_as, holds}
use Rattle.laws.proofs.Types.{Answer, Call}

-- the calls in their order in time, run from a fresh site
abbrev pub ran : ℕ → ℕ → ℕ → List Call → Site
ran n J L calls = run (fresh n J L) (reverse calls)

-- ---- the paper's replay

-- lines 2 to 12: the LeaseAck is handed over, and the Accept waits behind it (Q-12)
unfoldable pub replayed : List Call
replayed =
    Call.Elect 1
    ∷ Call.Recover 1
    ∷ Call.Collect 1
    ∷ Call.Deliver 1 2
    ∷ Call.Deliver 2 1
    ∷ Call.Ready 1
    ∷ Call.Offer 1 71 72
    ∷ Call.Propose 1
    ∷ Call.Deliver 1 2
    ∷ Call.Deliver 1 2
    ∷ Call.Deliver 2 1
    ∷ []

-- .. and with it the load is agreed at both
unfoldable pub replayed-further : List Call
replayed-further = replayed ++ Call.Deliver 2 1 ∷ Call.Agree 1 ∷ Call.Deliver 1 2 ∷ []

-- the lasts and the firsts of both boxes
abbrev pub ranges : Site → List ℕ
ranges s =
    (s.box 1).head.kept.last
    ∷ (s.box 2).head.kept.last
    ∷ (s.box 1).head.kept.first
    ∷ (s.box 2).head.kept.first
    ∷ []

-- ---- room that is used again (Q-4): two boxes with room for two records

-- box 1 has recovered
pub recovered : List Call
recovered =
    Call.Elect 1
    ∷ Call.Recover 1
    ∷ Call.Collect 1
    ∷ Call.Deliver 1 2
    ∷ Call.Deliver 2 1
    ∷ Call.Ready 1
    ∷ []

-- .. and box 2 has answered its Lease
pub lease-answered : List Call
lease-answered = recovered ++ Call.Deliver 1 2 ∷ Call.Deliver 2 1 ∷ []

-- one load of the frames f and f, agreed at both, once the lease before it is heard (Q-12)
pub load : ℕ → List Call
load f =
    Call.Deliver 1 2
    ∷ Call.Deliver 2 1
    ∷ Call.Heard 1
    ∷ Call.Offer 1 f f
    ∷ Call.Propose 1
    ∷ Call.Deliver 1 2
    ∷ Call.Deliver 2 1
    ∷ Call.Agree 1
    ∷ Call.Deliver 1 2
    ∷ Call.Finish 1
    ∷ []

-- two loads fill the book
pub two-loads : List Call
two-loads = recovered ++ load 1 ++ load 2

-- .. number 1 is dropped at box 1 (at box 2 by the Begin of number 3), and a third is agreed
pub third_load : List Call
third_load = two-loads ++ Call.Trim 1 2 ∷ load 3

-- ---- the trace of the early Ceph bug (document 000, 4.1)

-- "In collect phase mon3 must choose between v1 or v2": box 1 stored v1 under 1 and has promised
-- 101 since, box 3 stored v2 under 2, and box 2 has agreed v2. Were the promised numbers told in
-- place of the stored ones, box 3 would choose v1.

-- "Epoch number 2. The monitor mon1 is elected as the leader .. The client requests the value v1.
-- The monitor mon1 crashes before sending the begin messages to its peers."
pub epoch2 : List Call
epoch2 =
    Call.Elect 1
    ∷ Call.Recover 1
    ∷ Call.Collect 1
    ∷ Call.Deliver 1 2
    ∷ Call.Deliver 1 3
    ∷ Call.Deliver 2 1
    ∷ Call.Deliver 3 1
    ∷ Call.Ready 1
    ∷ Call.Offer 1 1 1
    ∷ Call.Propose 1
    ∷ Call.Stop 1
    ∷ []

-- "Epoch number 4. The monitor mon2 is elected as the leader with the quorum of mon2 and mon3. ..
-- The monitor mon2 receives accept responses from mon3 and commits the value v2. The monitor mon1
-- is restored .. before mon3 receives the commit message with v2."
pub epoch4 : List Call
epoch4 =
    Call.Elect 2
    ∷ Call.Recover 2
    ∷ Call.Collect 2
    ∷ Call.Deliver 2 3
    ∷ Call.Deliver 3 2
    ∷ Call.Ready 2
    ∷ Call.Offer 2 2 2
    ∷ Call.Propose 2
    ∷ Call.Deliver 2 3
    ∷ Call.Deliver 2 3
    ∷ Call.Deliver 3 2
    ∷ Call.Deliver 3 2
    ∷ Call.Agree 2
    ∷ Call.Return 1
    ∷ []

-- "Epoch number 6. The monitor mon1 is elected as the leader with the quorum of mon1, mon2, and
-- mon3. The monitor mon2 crashes at the begin of the collect phase."
pub epoch6 : List Call
epoch6 =
    Call.Elect 1
    ∷ Call.Recover 1
    ∷ Call.Collect 1
    ∷ Call.Deliver 1 3
    ∷ Call.Deliver 3 1
    ∷ Call.Stop 2
    ∷ []

-- "Epoch number 8. The monitor mon3 is elected as the leader with the quorum of mon1 and mon3." It
-- goes on until box 3 has agreed.
pub epoch8 : List Call
epoch8 =
    Call.Elect 3
    ∷ Call.Recover 3
    ∷ Call.Collect 3
    ∷ Call.Deliver 3 1
    ∷ Call.Deliver 1 3
    ∷ Call.Ready 3
    ∷ Call.Deliver 3 1
    ∷ Call.Deliver 1 3
    ∷ Call.Agree 3
    ∷ []

-- ---- why an election asks for a majority

-- box 1 of three, elected by itself alone, would agree by itself; ..
abbrev pub alone : Site
alone = elect (presented (fresh 3 4 8) (bit 1)) 1

-- .. and boxes 2 and 3 after it, without it
pub parted : List Call
parted =
    Call.Offer 1 1 1
    ∷ Call.Propose 1
    ∷ Call.Agree 1
    ∷ Call.Stop 1
    ∷ Call.Return 2
    ∷ Call.Return 3
    ∷ []

-- of boxes 1 to 3: the last, the promised pn, and the left frame of the first record
abbrev pub trace-reads : Site → List (List ℕ)
trace-reads s =
    ((s.box 1).head.kept.last ∷ (s.box 2).head.kept.last ∷ (s.box 3).head.kept.last ∷ [])
    ∷ ((s.box 1).head.kept.pn ∷ (s.box 2).head.kept.pn ∷ (s.box 3).head.kept.pn ∷ [])
    ∷ (left_of (get_or (s.box 1).records 0 0)
    ∷ left_of (get_or (s.box 2).records 0 0)
    ∷ left_of (get_or (s.box 3).records 0 0)
    ∷ [])
    ∷ []

pub record Computed : Type 0 where
  -- line 13 is refused (3), and the replay ends
  pub replay : answer_number (step (ran 2 16 8 replayed) (Call.Agree 1)).answer ≡ 3
  pub further : ranges (ran 2 16 8 replayed-further) ≡ 1 ∷ 1 ∷ 1 ∷ 1 ∷ []
  pub further-holds : answer_number (holds (ran 2 16 8 replayed-further) 2 1 71 72) ≡ 0
  -- a lease that the other box has answered is heard (Q-12)
  pub heard : ((step (ran 2 16 8 lease-answered) (Call.Heard 1)).answer ≡ Answer.Done)
      × (has (ran 2 16 8 lease-answered).present 2 ≡ true)
  -- a third load is refused (7), ..
  pub full : answer_number (step (ran 2 2 8 (two-loads ++ Call.Offer 1 3 3 ∷ [])) (Call.Propose 1)
      ).answer ≡ 7
  -- .. until a number is dropped
  pub again : ranges (ran 2 2 8 third_load) ≡ 3 ∷ 3 ∷ 2 ∷ 2 ∷ []
  -- before box 3 is elected, boxes 1 and 3 hold different records of number 1, and neither counts
  -- it as agreed
  pub choice : trace-reads (ran 3 4 8 (epoch2 ++ epoch4 ++ epoch6))
      ≡ (0 ∷ 1 ∷ 0 ∷ []) ∷ (101 ∷ 2 ∷ 101 ∷ []) ∷ (1 ∷ 2 ∷ 2 ∷ []) ∷ []
  -- box 3 keeps v2
  pub kept_v2 : trace-reads (ran 3 4 8 (epoch2 ++ epoch4 ++ epoch6 ++ epoch8))
      ≡ (0 ∷ 1 ∷ 1 ∷ []) ∷ (103 ∷ 2 ∷ 103 ∷ []) ∷ (2 ∷ 2 ∷ 2 ∷ []) ∷ []
  -- two boxes would count number 1 as agreed, with different records
  pub split : trace-reads (run alone (reverse (parted ++ epoch4)))
      ≡ (1 ∷ 1 ∷ 0 ∷ []) ∷ (0 ∷ 2 ∷ 2 ∷ []) ∷ (1 ∷ 2 ∷ 2 ∷ []) ∷ []

pub computed : Computed
unfolding replayed replayed-further recovered load two-loads third_load epoch2 epoch4 epoch6
    epoch8 parted pick all each every tally sizes_form proper record_form bit joined without digit
    has set_form full_set in_state in_phase new_pn first_cause unless settled others
    under_of
    took_kept took_book cleared noted told behind lagging improves bettered raised counted
    uncounted replied last_verdict on_last unagreed_of on_collect begin_verdict
    on_begin accept_verdict
    on_accept on_commit on_lease lease_ack_verdict on_lease_ack of_kind on_mail elected can_recover
    recover can_collect best_held collect started leased can_ready has_previous ready
    can_offer offer
    can_propose propose can_agree agree can_finish finish can_heard lease_heard can_trim trim acted
    held_at written enclosed fresh_head fresh posted room count_form peer_form form_box form_kind
    form_letter form_link form ruled by_answer delivered elect presented step run agreed_as holds
    ones ones_in first_form higher room_next lease-answered
computed = record {
  replay = refl;
  further = refl;
  further-holds = refl;
  heard = (refl, refl);
  full = refl;
  again = refl;
  choice = refl;
  kept_v2 = refl;
  split = refl;
}
