-- What is known where a verdict says Go: the condition of each step and of each mail that is taken.
use Prim.Native.Nat.{ℕ, ◌+◌, ◌≤◌, ◌<◌}
use mathlib.Core.Path.{◌≡◌, refl}
use mathlib.Core.Bool.{Bool, true, false, not, ◌||◌}
use native.Mathlib.Omega.{arith}
use lib.Count.{ones}
use lib.Dec.{eqb, leb, ltb}
use borrow.Author.Tests.{leb-true, ltb-true, not-true, not-false}
use Rattle.std.specs.Prelude.{Option, is_some}
use Rattle.rules.specs.Pick.{pick}
use Rattle.rules.specs.Sizes.{even, most_number, most_pn}
use Rattle.rules.specs.Sets.{includes, has}
use Rattle.rules.specs.Numbers.{state_number, phase_number, in_state, in_phase}
use Rattle.rules.specs.NewPn.{new_pn}
use Rattle.rules.specs.Parts.{higher, room_next}
use Rattle.rules.specs.Turns.{first_cause, unless}
use Rattle.rules.specs.Last.{last_verdict}
use Rattle.rules.specs.Mails.{begin_verdict, accept_verdict, lease_ack_verdict}
use Rattle.rules.specs.Steps.{can_recover, can_collect, can_ready, has_previous, can_offer}
use Rattle.rules.specs.Steps.{can_propose}
use Rattle.rules.specs.Steps.{can_agree, can_finish, can_heard, can_trim}
use Rattle.laws.proofs.Types.{BoxState, Mail, Phase, Refusal, Setting, State, Verdict}
use Rattle.laws.proofs.Logic.{Or, left, right, both-no, eqb_yes, eqb_no, and_yes, and4}
use Rattle.laws.proofs.Logic.{and5, and6, or_cases}

-- ---- verdicts

pub go-unless : (t : Bool) (why : Refusal) (v : Verdict) → unless t why v ≡ Verdict.Go
    → (t ≡ true) × (v ≡ Verdict.Go)
unfolding unless pick
go-unless true why v e = (refl, e)
go-unless false why v e = let z : ◌≡◌ {A = ℕ} 0 1 = cc in absurd (omega arith)

-- none of the four causes applies
pub record Goes (role phase number place : Bool) (v : Verdict) : Type 0 where
  pub no_role : role ≡ false
  pub no-phase : phase ≡ false
  pub no_number : number ≡ false
  pub no_place : place ≡ false
  pub next : v ≡ Verdict.Go

pub go_cause : (a b c d : Bool) (v : Verdict) → first_cause a b c d v ≡ Verdict.Go → Goes a b c d v
unfolding first_cause pick
go_cause true b c d v e = let z : ◌≡◌ {A = ℕ} 0 1 = cc in absurd (omega arith)
go_cause false true c d v e = let z : ◌≡◌ {A = ℕ} 0 1 = cc in absurd (omega arith)
go_cause false false true d v e = let z : ◌≡◌ {A = ℕ} 0 1 = cc in absurd (omega arith)
go_cause false false false true v e = let z : ◌≡◌ {A = ℕ} 0 1 = cc in absurd (omega arith)
go_cause false false false false v e =
    record { no_role = refl; no-phase = refl; no_number = refl; no_place = refl; next = e }

pub in-phase : (p q : Phase) → in_phase p q ≡ true → phase_number p ≡ phase_number q
unfolding in_phase
in-phase p q e = eqb_yes (phase_number p) (phase_number q) e

pub in-state : (p q : State) → in_state p q ≡ true → state_number p ≡ state_number q
unfolding in_state
in-state p q e = eqb_yes (state_number p) (state_number q) e

-- ---- room for last+1, of those from first on

pub record Room (J first last : ℕ) : Type 0 where
  pub records : last + 2 ≤ J + first
  pub number : last < most_number

pub room-next : (J first last : ℕ) → room_next J first last ≡ true → Room J first last
unfolding room_next
room-next J first last e =
    let p = and_yes (leb (last + 2) (J + first)) (ltb last most_number) e in
    record {
      records = leb-true (last + 2) (J + first) p.0;
      number = ltb-true last most_number p.1;
    }

-- .. which is asked only where h holds
pub room_where : {h : Bool} (J first last : ℕ) → h ≡ true
    → (not h || room_next J first last) ≡ true → Room J first last
room_where {h} J first last e f = go (or_cases (not h) (room_next J first last) f)
  where
    go : Or (not h ≡ true) (room_next J first last ≡ true) → Room J first last
    go (left d) = absurd (both-no e (not-true h d))
    go (right d) = room-next J first last d

-- ---- mails

pub record LastTaken (b : BoxState) (s : Setting) (m : Mail) : Type 0 where
  pub leads : b.leads ≡ true
  pub phase : phase_number b.phase ≡ 2
  pub new : Or (m.pn ≤ b.kept.pn) (new_pn m.pn s.me ≤ most_pn)

pub go-last : {b : BoxState} {s : Setting} {m : Mail} → last_verdict b s m ≡ Verdict.Go
    → LastTaken b s m
unfolding last_verdict
go-last {b} {s} {m} e =
    let g = go_cause _ _ _ _ _ e in
    record {
      leads = not-false _ g.no_role;
      phase = in-phase _ _ (not-false _ g.no-phase);
      new = go (or_cases _ _ (go-unless _ _ _ g.next).0);
    }
  where
    go : Or (leb m.pn b.kept.pn ≡ true) (leb (new_pn m.pn s.me) most_pn ≡ true)
        → Or (m.pn ≤ b.kept.pn) (new_pn m.pn s.me ≤ most_pn)
    go (left h) = left (leb-true _ _ h)
    go (right h) = right (leb-true _ _ h)

pub record BeginTaken (b : BoxState) (s : Setting) (m : Mail) : Type 0 where
  pub follows : b.leads ≡ false
  pub pn : b.kept.pn ≡ m.pn
  pub place : b.kept.last ≡ m.last
  pub room : Room s.j (higher b.kept.first m.first) b.kept.last

pub go-begin : {b : BoxState} {s : Setting} {m : Mail} → begin_verdict b s m ≡ Verdict.Go
    → BeginTaken b s m
unfolding begin_verdict
go-begin {b} {s} {m} e = let g = go_cause _ _ _ _ _ e in record {
  follows = g.no_role;
  pn = eqb_yes _ _ (not-false _ g.no_number);
  place = eqb_yes _ _ (not-false _ g.no_place);
  room = room-next _ _ _ (go-unless _ _ _ g.next).0;
}

pub record AcceptTaken (b : BoxState) (m : Mail) : Type 0 where
  pub leads : b.leads ≡ true
  pub phase : phase_number b.phase ≡ 4
  pub pn : b.kept.pn ≡ m.pn
  pub place : b.kept.last ≡ m.last

pub go-accept : {b : BoxState} {m : Mail} → accept_verdict b m ≡ Verdict.Go → AcceptTaken b m
unfolding accept_verdict
go-accept {b} {m} e = let g = go_cause _ _ _ _ _ e in record {
  leads = not-false _ g.no_role;
  phase = in-phase _ _ (not-false _ g.no-phase);
  pn = eqb_yes _ _ (not-false _ g.no_number);
  place = eqb_yes _ _ (not-false _ g.no_place);
}

pub record LeaseAckTaken (b : BoxState) : Type 0 where
  pub leads : b.leads ≡ true
  pub phase : phase_number b.phase ≡ 3

pub go-lease-ack : {b : BoxState} → lease_ack_verdict b ≡ Verdict.Go → LeaseAckTaken b
unfolding lease_ack_verdict
go-lease-ack e = let g = go_cause _ _ _ _ _ e in record {
  leads = not-false _ g.no_role;
  phase = in-phase _ _ (not-false _ g.no-phase);
}

-- ---- steps

-- in every step but Trim the epoch is even and the box leads, in a phase and a state of these
pub record Leading (phases states : ℕ → Type 0) (b : BoxState) (s : Setting) : Type 0 where
  pub even : even s.epoch ≡ true
  pub leads : b.leads ≡ true
  pub phase : phases (phase_number b.phase)
  pub state : states (state_number b.state)

abbrev pub Is : ℕ → ℕ → Type 0
Is k i = i ≡ k

abbrev pub Not : ℕ → ℕ → Type 0
Not k i = i ≡ k → ⊥

abbrev pub Any : ℕ → Type 0
Any i = Unit {0}

pub record CanAgree (b : BoxState) (s : Setting) (mine : Option ℕ) : Type 0 where
  pub leading : Leading (Is 4) (Not 0) b s
  pub accepted : includes b.accepts s.present ≡ true
  pub held : is_some mine ≡ true

-- any present box, in an even epoch
pub record CanTrim (b : BoxState) (s : Setting) (k : ℕ) : Type 0 where
  pub even : even s.epoch ≡ true
  pub here : has s.present s.me ≡ true
  pub above : b.kept.first < k
  pub agreed : k ≤ b.kept.last

module _ {b : BoxState} {s : Setting} where
  led : {ph st : ℕ → Type 0} → even s.epoch ≡ true → b.leads ≡ true
      → ph (phase_number b.phase) → st (state_number b.state) → Leading ph st b s
  led e l p q = record { even = e; leads = l; phase = p; state = q }

  pub can-recover : can_recover b s ≡ true → Leading (Is 0) (Is 0) b s × (1 < ones s.present)
  unfolding can_recover
  can-recover e = let p = and5 _ _ _ _ _ e in
      (led p.0 p.1 (in-phase _ _ p.2) (in-state _ _ p.3), ltb-true _ _ p.4)

  pub can-collect : can_collect b s ≡ true → Leading (Is 1) (Is 0) b s
  unfolding can_collect
  can-collect e = let p = and4 _ _ _ _ e in
      led p.0 p.1 (in-phase _ _ p.3) (in-state _ _ p.2)

  pub can-ready : can_ready b s ≡ true → Leading (Is 2) Any b s × (b.answered ≡ s.present)
  unfolding can_ready
  can-ready e = let p = and4 _ _ _ _ e in
      (led p.0 p.1 (in-phase _ _ p.2) tt, eqb_yes _ _ p.3)

  pub can-offer : can_offer b s ≡ true → Leading Any (Is 1) b s × (b.waiting ≡ 0)
  unfolding can_offer
  can-offer e = let p = and4 _ _ _ _ e in
      (led p.0 p.1 tt (in-state _ _ p.2), eqb_yes _ _ p.3)

  pub can-propose : can_propose b s ≡ true → Leading (Not 4) (Is 1) b s × (b.waiting ≡ 0 → ⊥)
  unfolding can_propose
  can-propose e = let p = and5 _ _ _ _ _ e in
      (led p.0 p.1 (idle (or_cases _ _ p.3)) (in-state _ _ p.2), some p.4)
    where
      leased : Or (in_phase b.phase Phase.Lease ≡ true)
          (in_phase b.phase Phase.LeaseDone ≡ true)
          → phase_number b.phase ≡ 4 → ⊥
      leased (left f) g = omega (arith, in-phase _ _ f, g)
      leased (right f) g = omega (arith, in-phase _ _ f, g)

      idle : Or ((in_phase b.phase Phase.Lease || in_phase b.phase Phase.LeaseDone) ≡ true)
          (in_phase b.phase Phase.Election ≡ true)
          → phase_number b.phase ≡ 4 → ⊥
      idle (left f) g = leased (or_cases _ _ f) g
      idle (right f) g = omega (arith, in-phase _ _ f, g)

      some : not (eqb b.waiting 0) ≡ true → b.waiting ≡ 0 → ⊥
      some f = eqb_no b.waiting 0 (not-true _ f)

  pub can-agree : {mine : Option ℕ} → can_agree b s mine ≡ true → CanAgree b s mine
  unfolding can_agree
  can-agree e = let p = and6 _ _ _ _ _ _ e in record {
    leading = led p.0 p.1 (in-phase _ _ p.2) (busy (or_cases _ _ p.3));
    accepted = p.4;
    held = p.5;
  }
    where
      busy : Or (in_state b.state State.Updating ≡ true)
          (in_state b.state State.UpdatingPrevious ≡ true)
          → state_number b.state ≡ 0 → ⊥
      busy (left f) g = omega (arith, in-state _ _ f, g)
      busy (right f) g = omega (arith, in-state _ _ f, g)

  pub can-finish : can_finish b s ≡ true → Leading (Is 5) (Is 4) b s
  unfolding can_finish
  can-finish e = let p = and4 _ _ _ _ e in
      led p.0 p.1 (in-phase _ _ p.3) (in-state _ _ p.2)

  pub can-heard : can_heard b s ≡ true
      → Leading (Is 3) Any b s × (includes b.heard s.present ≡ true)
  unfolding can_heard
  can-heard e = let p = and4 _ _ _ _ e in (led p.0 p.1 (in-phase _ _ p.2) tt, p.3)

  pub can-trim : {k : ℕ} → can_trim b s k ≡ true → CanTrim b s k
  unfolding can_trim
  can-trim {k} e = let p = and4 _ _ _ _ e in record {
    even = p.0;
    here = p.1;
    above = ltb-true _ _ p.2;
    agreed = leb-true _ _ p.3;
  }

-- Ready starts the best where it is the record of last+1
pub has-previous : (b : BoxState) → has_previous b ≡ true
    → (b.best.number ≡ b.kept.last + 1) × (b.best.value ≡ 0 → ⊥)
unfolding has_previous
has-previous b e =
    let p = and_yes (eqb b.best.number (b.kept.last + 1)) (not (eqb b.best.value 0)) e in
    (eqb_yes _ _ p.0, eqb_no _ _ (not-true _ p.1))
