-- All calls but Offer and Propose leave a box's leader flag and its waiting offer.
use Prim.Native.Nat.{ℕ}
use mathlib.Core.Path.{◌≡◌, refl}
use lib.Dec.{eqb, ltb}
use lib.ListN.{get_or}
use Rattle.std.specs.Prelude.{Option}
use Rattle.rules.specs.Last.{told, raised, counted, uncounted, replied, on_last}
use Rattle.rules.specs.Mails.{on_collect, on_begin, on_accept, on_commit, on_lease, on_lease_ack}
use Rattle.rules.specs.Mails.{of_kind}
use Rattle.rules.specs.Mails.{on_mail}
use Rattle.rules.specs.Steps.{recover, collect, started, leased, ready, agree, finish, lease_heard}
use Rattle.rules.specs.Steps.{trim, acted}
use Rattle.rules.specs.Box.{Box, Letter, Event, own, mail, next_of, mine, turn_of}
use Rattle.rules.specs.Site.{Site}
use Rattle.rules.specs.Turns.{settled}
use Rattle.laws.proofs.Types.{Act, BoxState, Call, Kind, Setting, Turn, Verdict}
use Rattle.laws.proofs.Logic.{pick_elim}
use Rattle.laws.proofs.View.{Links}
use Rattle.laws.proofs.StepLaws.{by-verdict, Plays, recovers, collects, readies, offers, proposes}
use Rattle.laws.proofs.StepLaws.{agrees, finishes, hears, trims, delivers}

-- ---- the calls and events that neither make an offer nor take one out

abbrev pub Plain : Call → Type 0
Plain (Call.Offer c l r) = ⊥
Plain (Call.Propose c) = ⊥
Plain (Call.Elect c) = Unit {0}
Plain (Call.Recover c) = Unit {0}
Plain (Call.Collect c) = Unit {0}
Plain (Call.Ready c) = Unit {0}
Plain (Call.Agree c) = Unit {0}
Plain (Call.Finish c) = Unit {0}
Plain (Call.Heard c) = Unit {0}
Plain (Call.Trim c k) = Unit {0}
Plain (Call.Stop c) = Unit {0}
Plain (Call.Return c) = Unit {0}
Plain (Call.Timeout c) = Unit {0}
Plain (Call.Lose a b) = Unit {0}
Plain (Call.Repeat a b) = Unit {0}
Plain (Call.Deliver a b) = Unit {0}

abbrev pub PlainEvent : Event → Type 0
PlainEvent (own (Act.Offer l r)) = ⊥
PlainEvent (own Act.Propose) = ⊥
PlainEvent (own Act.Recover) = Unit {0}
PlainEvent (own Act.Collect) = Unit {0}
PlainEvent (own Act.Ready) = Unit {0}
PlainEvent (own Act.Agree) = Unit {0}
PlainEvent (own Act.Finish) = Unit {0}
PlainEvent (own Act.Heard) = Unit {0}
PlainEvent (own (Act.Trim k)) = Unit {0}
PlainEvent (mail a y) = Unit {0}

pub plain_event : {s : Site} {c : ℕ} {d : Call} {e : Event} {link : Links}
    → Plays s c d e link → Plain d → PlainEvent e
plain_event recovers p = tt
plain_event collects p = tt
plain_event readies p = tt
plain_event (offers l r) p = absurd p
plain_event proposes p = absurd p
plain_event agrees p = tt
plain_event finishes p = tt
plain_event hears p = tt
plain_event (trims k) p = tt
plain_event (delivers ha ab e) p = tt

-- ---- a plain event leaves the leader flag and the waiting offer

pub record SameDesk (x b : BoxState) : Type 0 where
  pub leads : b.leads ≡ x.leads
  pub waiting : b.waiting ≡ x.waiting

module _ (s : Setting) (x : Box) where
  abbrev Same : Turn → Type 0
  Same t = SameDesk x.head t.next

  desk-replied : (b : BoxState) (a : ℕ) (y : Letter) (q : Option ℕ) → SameDesk x.head b
      → SameDesk x.head (replied b s.me a y.head q)
  unfolding replied raised counted uncounted
  desk-replied b a y q h =
      pick_elim (SameDesk x.head) (ltb b.kept.pn y.head.pn)
      (λ e. record { leads = h.leads; waiting = h.waiting })
      (λ e. pick_elim (SameDesk x.head) (eqb y.head.pn b.kept.pn)
      (λ f. record { leads = h.leads; waiting = h.waiting })
      (λ f. record { leads = h.leads; waiting = h.waiting }))

  -- a turn that names neither
  quiet : (v : Verdict) (t : Turn) → t.next.leads ≡ x.head.leads
      → t.next.waiting ≡ x.head.waiting → Same (settled x.head v t)
  quiet v t l w =
      by-verdict Same x.head v t (λ a. record { leads = refl; waiting = refl })
      (λ go. record { leads = l; waiting = w })

  desk-act : (a : Act) → PlainEvent (own a) → Same (acted a x.head s (mine x))
  unfolding acted recover collect ready agree finish lease_heard trim leased started
  desk-act Act.Recover p = quiet _ _ refl refl
  desk-act Act.Collect p = quiet _ _ refl refl
  desk-act Act.Ready p =
      by-verdict Same _ _ _ (λ a. record { leads = refl; waiting = refl })
      (λ go. pick_elim Same _
      (λ e. record { leads = refl; waiting = refl })
      (λ e. record { leads = refl; waiting = refl }))
  desk-act (Act.Offer l r) p = absurd p
  desk-act Act.Propose p = absurd p
  desk-act Act.Agree p = quiet _ _ refl refl
  desk-act Act.Finish p = quiet _ _ refl refl
  desk-act Act.Heard p = quiet _ _ refl refl
  desk-act (Act.Trim k) p = quiet _ _ refl refl

  desk-kind : (a : ℕ) (y : Letter) (k : Kind)
      → Same (of_kind k x.head s a y.head (get_or y.records 0 0)
      (next_of y) (mine x))
  unfolding of_kind on_collect on_last on_begin on_accept on_commit on_lease on_lease_ack told
  desk-kind a y Kind.Collect = quiet _ _ refl refl
  desk-kind a y Kind.Last =
      by-verdict Same _ _ _ (λ a. record { leads = refl; waiting = refl })
      (λ go. desk-replied _ a y _ (record { leads = refl; waiting = refl }))
  desk-kind a y Kind.Begin = quiet _ _ refl refl
  desk-kind a y Kind.Accept = quiet _ _ refl refl
  desk-kind a y Kind.Commit = quiet _ _ refl refl
  desk-kind a y Kind.Lease = quiet _ _ refl refl
  desk-kind a y Kind.LeaseAck = quiet _ _ refl refl

  pub turn-desk : (e : Event) → PlainEvent e → Same (turn_of s x e)
  unfolding on_mail
  turn-desk (own a) p = desk-act a p
  turn-desk (mail a y) p =
      by-verdict Same _ _ _ (λ a. record { leads = refl; waiting = refl })
      (λ go. desk-kind a y y.head.kind)
