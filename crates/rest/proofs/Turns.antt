-- A box and one that is alike, in an even or an odd epoch: every event makes the same of both.
use Prim.Native.Nat.{ℕ}
use mathlib.Core.Path.{◌≡◌, refl, sym, ap, subst}
use mathlib.Core.Bool.{Bool, true, false, not}
use lib.ListN.{get_or}
use borrow.Author.Tests.{eq-eqb}
use Rattle.std.specs.Prelude.{Option}
use Rattle.rules.specs.Pick.{pick}
use Rattle.rules.specs.Sets.{joined}
use Rattle.rules.specs.Numbers.{in_phase}
use Rattle.rules.specs.Fields.{with_state, with_peers, with_waiting}
use Rattle.rules.specs.Parts.{all_unknown, took_kept, cleared}
use Rattle.rules.specs.Turns.{first_cause, unless, settled}
use Rattle.rules.specs.Last.{told, raised, counted, uncounted, replied, last_verdict, on_last}
use Rattle.rules.specs.Mails.{on_collect, begin_verdict, on_begin, accept_verdict, on_accept}
use Rattle.rules.specs.Mails.{on_commit}
use Rattle.rules.specs.Mails.{on_lease, lease_ack_verdict, on_lease_ack, of_kind, on_mail}
use Rattle.rules.specs.Steps.{can_recover, recover, can_collect, collect, started, leased}
use Rattle.rules.specs.Steps.{can_ready}
use Rattle.rules.specs.Steps.{has_previous, ready, can_offer, offer, can_propose, propose}
use Rattle.rules.specs.Steps.{can_agree}
use Rattle.rules.specs.Steps.{agree, can_finish, finish, can_heard, lease_heard, can_trim, trim}
use Rattle.rules.specs.Steps.{acted}
use Rattle.rules.specs.Box.{Box, Event, own, mail, mine, next_of, turn_of}
use Rattle.laws.proofs.Types.{Act, Best, BoxState, Kind, Mail, Phase, Refusal, Setting, State}
use Rattle.laws.proofs.Types.{Turn, Verdict}
use Rattle.laws.proofs.Logic.{Or, left, right, decide, both-no, or_left}
use Rattle.laws.proofs.Conditions.{can-ready, can-agree, can-heard}
use Rattle.rest.proofs.Aside.{Aside, aside_of, aside, leasing, Unread, idle, beginning}
use Rattle.rest.proofs.Aside.{lease-out, collecting, TurnAlike, HeadAlike, aside_box}
use Rattle.rest.proofs.Aside.{settled-two, pick_two}

-- a test that fails
no : (t : Bool) → (t ≡ true → ⊥) → t ≡ false
no true f = absurd (f refl)
no false f = refl

-- a Last that is discarded, whatever it would have done
shut : (l : Bool) (v : Verdict) (c : BoxState) (t u : Turn)
    → settled c (first_cause (not l) true false false v) t
    ≡ settled c (first_cause (not l) true false false Verdict.Go) u
unfolding first_cause pick settled
shut true v c t u = refl
shut false v c t u = refl

-- o with what the phase reads of b
abbrev from_collect : BoxState → ℕ → ℕ → Aside
from_collect b accepts heard = record {
  best = b.best;
  answered = b.answered;
  accepts = accepts;
  heard = heard;
  peers = b.peers;
}

abbrev from_begin : BoxState → Aside → Aside
from_begin b o = record {
  best = o.best;
  answered = o.answered;
  accepts = b.accepts;
  heard = o.heard;
  peers = o.peers;
}

abbrev from_lease : BoxState → Aside → Aside
from_lease b o = record {
  best = o.best;
  answered = o.answered;
  accepts = o.accepts;
  heard = b.heard;
  peers = o.peers;
}

-- the phase that a condition asks for
can_ready_phase : (c : BoxState) (s : Setting) → can_ready c s ≡ true
    → in_phase c.phase Phase.Collect ≡ true
unfolding in_phase
can_ready_phase c s t = eq-eqb _ _ (can-ready {b = c} {s = s} t).0.phase

can_agree_phase : (c : BoxState) (s : Setting) (m : Option ℕ) → can_agree c s m ≡ true
    → in_phase c.phase Phase.Begin ≡ true
unfolding in_phase
can_agree_phase c s m t = eq-eqb _ _ (can-agree {b = c} {s = s} t).leading.phase

can_heard_phase : (c : BoxState) (s : Setting) → can_heard c s ≡ true
    → in_phase c.phase Phase.Lease ≡ true
unfolding in_phase
can_heard_phase c s t = eq-eqb _ _ (can-heard {b = c} {s = s} t).0.phase

module _ (b : BoxState) (o : Aside) (h : Unread b.phase (aside_of b) o) (s : Setting) where
  abbrev d : BoxState
  d = aside b o

  -- what is the same in the phase that reads it
  collected : in_phase b.phase Phase.Collect ≡ true
      → o ≡ from_collect b o.accepts o.heard
  collected e = rw (h.best e, h.answered e, h.peers e) refl

  accepted : in_phase b.phase Phase.Begin ≡ true → o ≡ from_begin b o
  accepted e = rw (h.accepts e) refl

  leased-out : leasing b.phase ≡ true → o ≡ from_lease b o
  leased-out e = rw (h.heard e) refl

  start-two : (c : BoxState) (q : Aside) (r : ℕ)
      → TurnAlike (started c s r) (started (aside c q) s r)
  unfolding started in_phase
  start-two c q r = record { same = refl; unread = beginning refl refl refl }

  lease-two : (c : BoxState) (q : Aside) → TurnAlike (leased c s) (leased (aside c q) s)
  unfolding leased in_phase
  lease-two c q = record { same = refl; unread = lease-out refl refl refl }

  recover-two : TurnAlike (recover b s) (recover d s)
  unfolding recover can_recover in_phase
  recover-two =
      settled-two b o _ _ _ h (λ go. record { same = refl; unread = idle refl refl refl })

  collect-two : (m : Option ℕ) → TurnAlike (collect b s m) (collect d s m)
  unfolding collect can_collect in_phase
  collect-two m =
      settled-two b o _ _ _ h
      (λ go. record { same = refl; unread = collecting refl refl refl refl refl })

  offer-two : (l r : ℕ) → TurnAlike (offer b s l r) (offer d s l r)
  unfolding offer can_offer
  offer-two l r = settled-two b o _ _ _ h (λ go. record { same = refl; unread = h })

  propose-two : TurnAlike (propose b s) (propose d s)
  unfolding propose can_propose
  propose-two =
      settled-two b o _ _ _ h (λ go. start-two (with_state State.Updating (with_waiting 0 b)) o _)

  finish-two : TurnAlike (finish b s) (finish d s)
  unfolding finish can_finish
  finish-two = settled-two b o _ _ _ h (λ go. lease-two b o)

  trim-two : (k : ℕ) → TurnAlike (trim b s k) (trim d s k)
  unfolding trim can_trim
  trim-two k = settled-two b o _ _ _ h (λ go. record { same = refl; unread = h })

  -- ---- the steps that read what may differ

  abbrev refuses : BoxState → Turn
  refuses c = settled c (Verdict.Refuse Refusal.Condition) (leased c s)

  refuses-two : TurnAlike (refuses b) (refuses d)
  refuses-two = settled-two b o (Verdict.Refuse Refusal.Condition) _ _ h (λ go. lease-two b o)

  -- the phase is another
  not-ready : (c : BoxState) → in_phase c.phase Phase.Collect ≡ false → ready c s ≡ refuses c
  unfolding ready unless pick settled
  not-ready c e = rw (no (can_ready c s) (λ t. both-no (can_ready_phase c s t) e)) refl

  is-ready : (q k : ℕ) → Unread b.phase (aside_of b) (from_collect b q k)
      → TurnAlike (ready b s) (ready (aside b (from_collect b q k)) s)
  unfolding ready can_ready has_previous
  is-ready q k u =
      settled-two b _ _ _ _ u
      (λ go. pick_two TurnAlike _
      (start-two (with_state State.UpdatingPrevious (with_peers all_unknown b)) _ _)
      (lease-two (with_peers all_unknown b) _))

  ready-two : TurnAlike (ready b s) (ready d s)
  ready-two = go (decide (in_phase b.phase Phase.Collect))
    where
      go : Or (in_phase b.phase Phase.Collect ≡ true) (in_phase b.phase Phase.Collect ≡ false)
          → TurnAlike (ready b s) (ready d s)
      go (left e) =
          subst (λ (q : Aside). Unread b.phase (aside_of b) q
          → TurnAlike (ready b s) (ready (aside b q) s))
          (sym (collected e)) (is-ready o.accepts o.heard) h
      go (right e) = rw (not-ready b e, not-ready d e) refuses-two

  not-agree : (c : BoxState) (m : Option ℕ) → in_phase c.phase Phase.Begin ≡ false
      → agree c s m ≡ refuses c
  unfolding agree unless pick settled
  not-agree c m e = rw (no (can_agree c s m) (λ t. both-no (can_agree_phase c s m t) e)) refl

  is_agree : (m : Option ℕ) (q : Aside) → Unread b.phase (aside_of b) (from_begin b q)
      → TurnAlike (agree b s m) (agree (aside b (from_begin b q)) s m)
  unfolding agree can_agree in_phase
  is_agree m q u =
      settled-two b _ _ _ _ u (λ go. record { same = refl; unread = idle refl refl refl })

  agree-two : (m : Option ℕ) → TurnAlike (agree b s m) (agree d s m)
  agree-two m = go (decide (in_phase b.phase Phase.Begin))
    where
      go : Or (in_phase b.phase Phase.Begin ≡ true) (in_phase b.phase Phase.Begin ≡ false)
          → TurnAlike (agree b s m) (agree d s m)
      go (left e) =
          subst (λ (q : Aside). Unread b.phase (aside_of b) q
          → TurnAlike (agree b s m) (agree (aside b q) s m))
          (sym (accepted e)) (is_agree m o) h
      go (right e) = rw (not-agree b m e, not-agree d m e) refuses-two

  not-heard : (c : BoxState) → in_phase c.phase Phase.Lease ≡ false → lease_heard c s ≡ refuses c
  unfolding lease_heard unless pick settled
  not-heard c e = rw (no (can_heard c s) (λ t. both-no (can_heard_phase c s t) e)) refl

  is-heard : (q : Aside) → Unread b.phase (aside_of b) (from_lease b q)
      → TurnAlike (lease_heard b s) (lease_heard (aside b (from_lease b q)) s)
  unfolding lease_heard can_heard in_phase
  is-heard q u =
      settled-two b _ _ _ _ u (λ go. record { same = refl; unread = lease-out refl refl refl })

  heard-two : TurnAlike (lease_heard b s) (lease_heard d s)
  heard-two = go (decide (in_phase b.phase Phase.Lease))
    where
      go : Or (in_phase b.phase Phase.Lease ≡ true) (in_phase b.phase Phase.Lease ≡ false)
          → TurnAlike (lease_heard b s) (lease_heard d s)
      go (left e) =
          subst (λ (q : Aside). Unread b.phase (aside_of b) q
          → TurnAlike (lease_heard b s) (lease_heard (aside b q) s))
          (sym (leased-out (or_left (in_phase b.phase Phase.LeaseDone) e))) (is-heard o) h
      go (right e) = rw (not-heard b e, not-heard d e) refuses-two

  pub act-two : (a : Act) (m : Option ℕ) → TurnAlike (acted a b s m) (acted a d s m)
  unfolding acted
  act-two Act.Recover m = recover-two
  act-two Act.Collect m = collect-two m
  act-two Act.Ready m = ready-two
  act-two (Act.Offer l r) m = offer-two l r
  act-two Act.Propose m = propose-two
  act-two Act.Agree m = agree-two m
  act-two Act.Finish m = finish-two
  act-two Act.Heard m = heard-two
  act-two (Act.Trim k) m = trim-two k

  -- ---- mail

  on-collect : (a : ℕ) (m : Mail) (k : Option ℕ)
      → TurnAlike (on_collect b a m k) (on_collect d a m k)
  unfolding on_collect
  on-collect a m k = settled-two b o _ _ _ h (λ go. record { same = refl; unread = h })

  on-begin : (a : ℕ) (m : Mail) (r : ℕ) → TurnAlike (on_begin b s a m r) (on_begin d s a m r)
  unfolding on_begin begin_verdict
  on-begin a m r = settled-two b o _ _ _ h (λ go. record { same = refl; unread = h })

  on-lease : (a : ℕ) (m : Mail) → TurnAlike (on_lease b a m) (on_lease d a m)
  unfolding on_lease
  on-lease a m = settled-two b o _ _ _ h (λ go. record { same = refl; unread = h })

  on-accept : (a : ℕ) (m : Mail) → TurnAlike (on_accept b a m) (on_accept d a m)
  unfolding on_accept accept_verdict
  on-accept a m =
      settled-two b o _ _ _ h
      (λ go. record {
        same = refl;
        unread = record {
          best = h.best;
          answered = h.answered;
          peers = h.peers;
          accepts = λ e. ap (λ (w : ℕ). joined w a) (h.accepts e);
          heard = h.heard;
        };
      })

  on-lease-ack : (a : ℕ) → TurnAlike (on_lease_ack b a) (on_lease_ack d a)
  unfolding on_lease_ack lease_ack_verdict
  on-lease-ack a =
      settled-two b o _ _ _ h
      (λ go. record {
        same = refl;
        unread = record {
          best = h.best;
          answered = h.answered;
          peers = h.peers;
          accepts = h.accepts;
          heard = λ e. ap (λ (w : ℕ). joined w a) (h.heard e);
        };
      })

  on-commit : (m : Mail) → TurnAlike (on_commit b m) (on_commit d m)
  unfolding on_commit
  on-commit m =
      settled-two b o _ _ _ h
      (λ go. record {
        same = refl;
        unread = record {
          best = λ e.
              ap (cleared (took_kept m.first m.last b.kept).last) (h.best e);
          answered = h.answered;
          peers = h.peers;
          accepts = h.accepts;
          heard = h.heard;
        };
      })

  -- a Last is taken in phase Collect, where the two differ in accepts and heard alone
  replied-two : (c : BoxState) (q k me a : ℕ) (m : Mail) (next : Option ℕ)
      → Unread c.phase (aside_of c) (from_collect c q k)
      → HeadAlike (replied c me a m next) (replied (aside c (from_collect c q k)) me a m next)
  unfolding replied raised counted uncounted in_phase
  replied-two c q k me a m next u =
      pick_two HeadAlike _
      (record { same = refl; unread = idle refl refl refl })
      (pick_two HeadAlike _ (record { same = refl; unread = still c q k u })
      (record { same = refl; unread = still c q k u }))
    where
      still : (c : BoxState) (q k : ℕ) {best : Best} {answered : ℕ}
          → Unread c.phase (aside_of c) (from_collect c q k)
          → Unread c.phase
          (record {
            best = best;
            answered = answered;
            accepts = c.accepts;
            heard = c.heard;
            peers = c.peers;
          })
          (record { best = best; answered = answered; accepts = q; heard = k; peers = c.peers })
      still c q k u = record {
        best = λ e. refl;
        answered = λ e. refl;
        peers = λ e. refl;
        accepts = u.accepts;
        heard = u.heard;
      }

  last-two : (q k : ℕ) → Unread b.phase (aside_of b) (from_collect b q k) → (a : ℕ) (m : Mail)
      (next : Option ℕ)
      → TurnAlike (on_last b s a m next) (on_last (aside b (from_collect b q k)) s a m next)
  unfolding on_last last_verdict told
  last-two q k u a m next =
      settled-two b _ _ _ _ u
      (λ go. let r =
      replied-two (told b a m) q k s.me a m next (record {
        best = λ e. refl;
        answered = λ e. refl;
        peers = λ e. refl;
        accepts = u.accepts;
        heard = u.heard;
      })
      in record { same = rw r.same refl; unread = r.unread })

  -- .. and in another phase it is not
  not_last : (c : BoxState) (a : ℕ) (m : Mail) (next : Option ℕ)
      → in_phase c.phase Phase.Collect ≡ false
      → on_last c s a m next
      ≡ settled c (first_cause (not c.leads) true false false Verdict.Go) (leased c s)
  unfolding on_last last_verdict
  not_last c a m next e = rw e (shut c.leads _ c _ _)

  on-last : (a : ℕ) (m : Mail) (next : Option ℕ)
      → TurnAlike (on_last b s a m next) (on_last d s a m next)
  on-last a m next = go (decide (in_phase b.phase Phase.Collect))
    where
      go : Or (in_phase b.phase Phase.Collect ≡ true) (in_phase b.phase Phase.Collect ≡ false)
          → TurnAlike (on_last b s a m next) (on_last d s a m next)
      go (left e) =
          subst (λ (q : Aside). Unread b.phase (aside_of b) q
          → TurnAlike (on_last b s a m next) (on_last (aside b q) s a m next))
          (sym (collected e)) (λ u. last-two o.accepts o.heard u a m next) h
      go (right e) =
          rw (not_last b a m next e, not_last d a m next e)
          (settled-two b o _ _ _ h (λ go. lease-two b o))

  kind-two : (k : Kind) (a : ℕ) (m : Mail) (one : ℕ) (next mine : Option ℕ)
      → TurnAlike (of_kind k b s a m one next mine) (of_kind k d s a m one next mine)
  unfolding of_kind
  kind-two Kind.Collect a m one next mine = on-collect a m mine
  kind-two Kind.Last a m one next mine = on-last a m next
  kind-two Kind.Begin a m one next mine = on-begin a m one
  kind-two Kind.Accept a m one next mine = on-accept a m
  kind-two Kind.Commit a m one next mine = on-commit m
  kind-two Kind.Lease a m one next mine = on-lease a m
  kind-two Kind.LeaseAck a m one next mine = on-lease-ack a

  mail-two : (a : ℕ) (m : Mail) (one : ℕ) (next mine : Option ℕ)
      → TurnAlike (on_mail b s a m one next mine) (on_mail d s a m one next mine)
  unfolding on_mail
  mail-two a m one next mine =
      settled-two b o _ _ _ h (λ go. kind-two m.kind a m one next mine)

-- any event
pub turn_two : (s : Setting) (x : Box) (o : Aside)
    → Unread x.head.phase (aside_of x.head) o → (e : Event)
    → TurnAlike (turn_of s x e) (turn_of s (aside_box x o) e)
turn_two s x o h (own a) = act-two x.head o h s a (mine x)
turn_two s x o h (mail a y) =
    mail-two x.head o h s a y.head (get_or y.records 0 0) (next_of y) (mine x)
