-- A load that two boxes hold, computed by the rules. Frames are small, since a proof compares
-- numbers by counting.
use Prim.Native.Nat.{ℕ}
use mathlib.Core.Path.{◌≡◌, refl, subst}
use mathlib.Core.Bool.{Bool, true, not, ◌&&◌}
use mathlib.Core.List.{List, [], ◌∷◌}
use native.Mathlib.Omega.{arith}
use lib.ListN.{length}
use lib.Count.{ones, ones_in}
use Rattle.rules.specs.Answers.{is_refusal}
use Rattle.rules.specs.Pick.{pick}
use Rattle.rules.specs.Every.{all, each, every, tally}
use Rattle.rules.specs.Sizes.{sizes_form, proper, record_form}
use Rattle.rules.specs.Sets.{bit, joined, without, digit, has, set_form, full_set}
use Rattle.rules.specs.Numbers.{in_state, in_phase}
use Rattle.rules.specs.NewPn.{new_pn}
use Rattle.rules.specs.Turns.{first_cause, unless, settled}
use Rattle.rules.specs.Parts.{others, under_of, higher, took_kept, took_book, room_next}
use Rattle.rules.specs.Parts.{cleared}
use Rattle.rules.specs.Last.{noted, told, behind, lagging, improves, bettered, raised, counted}
use Rattle.rules.specs.Last.{uncounted, replied, last_verdict, on_last}
use Rattle.rules.specs.Mails.{unagreed_of, on_collect, begin_verdict, on_begin, accept_verdict}
use Rattle.rules.specs.Mails.{on_accept}
use Rattle.rules.specs.Mails.{on_commit, of_kind, on_mail}
use Rattle.rules.specs.Steps.{elected, can_recover, recover, can_collect, best_held, collect}
use Rattle.rules.specs.Steps.{started}
use Rattle.rules.specs.Steps.{leased, can_ready, has_previous, ready, can_offer, offer, can_propose}
use Rattle.rules.specs.Steps.{propose, can_agree, agree, acted}
use Rattle.rules.specs.Box.{held_at, written, enclosed}
use Rattle.rules.specs.Site.{Site, fresh_head, fresh, posted, room}
use Rattle.rules.specs.Form.{first_form, count_form, peer_form, form_box, form_kind, form_letter}
use Rattle.rules.specs.Form.{form_link, form}
use Rattle.rules.specs.Needs.{ruled}
use Rattle.rules.specs.Step.{by_answer, delivered, elect, step, run, agreed_as, holds}
use Rattle.rules.specs.declared.model.Answer.{Answer}
use Rattle.rules.specs.declared.model.Call.{Call}
use Rattle.laws.specs.Frames.{CallFits}
use Rattle.laws.proofs.Logic.{All, nil, cons}
use Rattle.said.specs.Said.{Talk, called, held, At, latest, before, TrueAt}
use Rattle.said.specs.Spoken.{Spoken, begun, stepped, asked}

-- what is said where only calls are made
unfoldable pub answers : ℕ → ℕ → ℕ → List Call → Talk
answers n J L [] = []
answers n J L (d ∷ ds) = called d (step (run (fresh n J L) ds) d).answer ∷ answers n J L ds

spoken : (n J L : ℕ) → sizes_form n J L ≡ true → (ds : List Call) → All CallFits ds
    → Spoken n J L (answers n J L ds) (run (fresh n J L) ds)
unfolding answers run
spoken n J L e [] nil = begun e
spoken n J L e (d ∷ ds) (cons f fs) = stepped d f (spoken n J L e ds fs)

-- the paper's replay, but the Lease is lost; the latest first
abbrev pub load : List Call
load =
    Call.Deliver 1 2
    ∷ Call.Agree 1
    ∷ Call.Deliver 2 1
    ∷ Call.Deliver 1 2
    ∷ Call.Propose 1
    ∷ Call.Offer 1 71 72
    ∷ Call.Lose 1 2
    ∷ Call.Ready 1
    ∷ Call.Deliver 2 1
    ∷ Call.Deliver 1 2
    ∷ Call.Collect 1
    ∷ Call.Recover 1
    ∷ Call.Elect 1
    ∷ []

load_fits : All CallFits load
load_fits =
    cons tt (cons tt (cons tt (cons tt (cons tt
    (cons {x = Call.Offer 1 71 72} (omega arith, omega arith)
    (cons tt (cons tt (cons tt (cons tt (cons tt (cons tt (cons tt nil))))))))))))

sizes : sizes_form 2 16 8 ≡ true
unfolding sizes_form all
sizes = refl

-- no call among them was refused
abbrev pub unrefused : Talk → Bool
unrefused [] = true
unrefused (called d a ∷ h) = not (is_refusal a) && unrefused h
unrefused (held b k l r a ∷ h) = not (is_refusal a) && unrefused h

pub record Computed (s : Site) : Type 0 where
  pub one : holds s 1 1 71 72 ≡ Answer.Done
  pub two : holds s 2 1 71 72 ≡ Answer.Done
  pub taken : unrefused (answers 2 16 8 load) ≡ true

-- load 1 is held at both
pub computed : Computed (run (fresh 2 16 8) load)
unfolding answers pick
    all each every tally sizes_form proper record_form bit joined without digit has set_form
    full_set in_state in_phase new_pn first_cause unless settled others under_of took_kept
    took_book cleared noted told behind lagging improves bettered raised counted uncounted
    replied last_verdict on_last unagreed_of on_collect begin_verdict on_begin
    accept_verdict on_accept
    on_commit of_kind on_mail elected can_recover recover can_collect best_held collect
    started leased can_ready has_previous ready can_offer offer can_propose propose can_agree agree
    acted held_at written enclosed fresh_head fresh posted room
    count_form peer_form form_box form_kind form_letter form_link form ruled by_answer
    delivered elect
    step run agreed_as holds ones ones_in first_form higher room_next
computed = record { one = refl; two = refl; taken = refl }

said_so : {h : Talk} {b k l r : ℕ} {a : Answer} → a ≡ Answer.Done
    → TrueAt Answer.Done (held b k l r a ∷ h) (length h) b k l r
said_so {h} {b} {k} {l} {r} {a} e =
    subst (At (held b k l r a ∷ h) (length h)) (λ t. held b k l r (e t)) latest

pub a-load : (h : Talk) × (s : Site) × Spoken 2 16 8 h s
    × (i : ℕ) × TrueAt Answer.Done h i 1 1 71 72 × (j : ℕ) × TrueAt Answer.Done h j 2 1 71 72
a-load =
    let p = spoken 2 16 8 sizes load load_fits in (
      _,
      _,
      asked 2 1 71 72 (asked 1 1 71 72 p),
      _,
      before (said_so computed.one),
      _,
      said_so computed.two,
    )
