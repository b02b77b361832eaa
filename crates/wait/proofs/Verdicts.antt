-- When a verdict says Go, and the turn of each mail and of each step of a leader where it does.
use Prim.Native.Nat.{ℕ, ◌+◌, ◌≤◌, ◌<◌, max}
use mathlib.Core.Path.{◌≡◌, refl, ap, ◌∙◌}
use mathlib.Core.Bool.{Bool, true, false, not, ◌||◌}
use lib.Count.{ones}
use lib.Dec.{eqb}
use borrow.Author.Tests.{le-leb, lt-ltb, eq-eqb}
use Rattle.std.specs.Prelude.{Option, is_some}
use Rattle.rules.specs.Pick.{pick_true, pick-false}
use Rattle.rules.specs.Sizes.{even, most_number, most_pn}
use Rattle.rules.specs.Sets.{bit, includes}
use Rattle.rules.specs.Numbers.{in_phase, in_state, phase_number, state_number}
use Rattle.rules.specs.NewPn.{new_pn}
use Rattle.rules.specs.Fields.{with_state, with_phase, with_kept, with_best, with_answered}
use Rattle.rules.specs.Fields.{with_peers}
use Rattle.rules.specs.Fields.{with_agreeing, promised, keeping, storing, lasting}
use Rattle.rules.specs.Parts.{others, all_unknown, span, higher, dropped, took_kept}
use Rattle.rules.specs.Parts.{took_book}
use Rattle.rules.specs.Parts.{room_next, cleared}
use Rattle.rules.specs.Turns.{first_cause, unless, settled, taken, done, mail_of, mail_from}
use Rattle.rules.specs.Mails.{unagreed_of, on_collect, begin_verdict, on_begin, on_commit, on_lease}
use Rattle.rules.specs.Mails.{of_kind, on_mail}
use Rattle.rules.specs.Steps.{can_recover, recover, can_collect, best_held, collect, started}
use Rattle.rules.specs.Steps.{leased}
use Rattle.rules.specs.Steps.{can_ready, has_previous, ready, can_agree, agree, can_finish, finish}
use Rattle.rules.specs.Steps.{can_heard, lease_heard}
use Rattle.laws.proofs.Types.{Book, BoxState, Kind, Mail, Out, Phase, Refusal, Setting, State}
use Rattle.laws.proofs.Types.{Turn, Verdict}
use Rattle.laws.proofs.Logic.{Or, left, right, and_both, or_left, or_right}

-- ---- verdicts

pub settles : (b : BoxState) {v : Verdict} (t : Turn) → v ≡ Verdict.Go → settled b v t ≡ t
unfolding settled
settles b t e = rw e

pub unless-go : {t : Bool} (why : Refusal) {v : Verdict} → t ≡ true → v ≡ Verdict.Go
    → unless t why v ≡ Verdict.Go
unfolding unless
unless-go why e f = pick_true _ _ _ e ∙ f

pub cause_go : {a b c d : Bool} {v : Verdict} → a ≡ false → b ≡ false → c ≡ false → d ≡ false
    → v ≡ Verdict.Go → first_cause a b c d v ≡ Verdict.Go
unfolding first_cause
cause_go p q r s e =
    pick-false _ _ _ p ∙ pick-false _ _ _ q ∙ pick-false _ _ _ r ∙ pick-false _ _ _ s ∙ e

pub phase_in : {p q : Phase} → p ≡ q → in_phase p q ≡ true
unfolding in_phase
phase_in {p} {q} e = eq-eqb (phase_number p) (phase_number q) (ap phase_number e)

pub state_in : {p q : State} → p ≡ q → in_state p q ≡ true
unfolding in_state
state_in {p} {q} e = eq-eqb (state_number p) (state_number q) (ap state_number e)

-- two numbers do not differ
pub same_not : {i j : ℕ} → i ≡ j → not (eqb i j) ≡ false
same_not {i} {j} e = ap not (eq-eqb i j e)

pub room-made : (J first last : ℕ) → last + 2 ≤ J + first → last < most_number
    → room_next J first last ≡ true
unfolding room_next
room-made J first last h g =
    and_both (le-leb (last + 2) (J + first) h) (lt-ltb last most_number g)

-- ---- mails

module _ (b : BoxState) (s : Setting) (sender : ℕ) (m : Mail) (one : ℕ) (next mine : Option ℕ)
    (e : even s.epoch ≡ true) where
  turn-of : {k : Kind} → m.kind ≡ k
      → on_mail b s sender m one next mine ≡ of_kind k b s sender m one next mine
  unfolding on_mail
  turn-of f =
      settles b _ (unless-go Refusal.Condition e refl)
      ∙ ap (λ k. of_kind k b s sender m one next mine) f

  pub collect-turn : m.kind ≡ Kind.Collect → b.leads ≡ false
      → on_mail b s sender m one next mine
      ≡ taken
      (with_state State.Recovering
      (with_kept (promised (max b.kept.pn m.pn) b.kept) b))
      Book.Keep
      (Out.To (bit sender)
      (mail_from b.kept.first Kind.Last (max b.kept.pn m.pn) b.kept.last
      (unagreed_of b.kept mine)))
  unfolding of_kind on_collect
  collect-turn f l = turn-of f ∙ settles b _ (cause_go l refl refl refl refl)

  pub commit-turn : m.kind ≡ Kind.Commit → b.leads ≡ false
      → on_mail b s sender m one next mine
      ≡ taken
      (with_best (cleared (took_kept m.first m.last b.kept).last b.best)
      (with_kept (took_kept m.first m.last b.kept) b))
      (took_book m.first m.last b.kept)
      Out.Nothing
  unfolding of_kind on_commit
  commit-turn f l = turn-of f ∙ settles b _ (cause_go l refl refl refl refl)

  pub begin-turn : m.kind ≡ Kind.Begin → b.leads ≡ false → b.kept.pn ≡ m.pn
      → b.kept.last ≡ m.last
      → room_next s.j (higher b.kept.first m.first) b.kept.last ≡ true
      → on_mail b s sender m one next mine
      ≡ taken
      (with_state State.Updating
      (with_kept
      (keeping (higher b.kept.first m.first)
      (storing m.pn (b.kept.last + 1) b.kept)) b))
      (Book.Put (dropped m.first b.kept) (span b.kept.first b.kept.last) one)
      (Out.To (bit sender) (mail_of Kind.Accept m.pn b.kept.last 0))
  unfolding of_kind on_begin begin_verdict
  begin-turn f l p q r =
      turn-of f
      ∙ settles b _
      (cause_go l refl (same_not p) (same_not q) (unless-go Refusal.Book r refl))

  pub lease-turn : m.kind ≡ Kind.Lease → b.leads ≡ false → b.kept.last ≡ m.last
      → on_mail b s sender m one next mine
      ≡ taken (with_state State.Active b) Book.Keep
      (Out.To (bit sender) (mail_of Kind.LeaseAck 0 b.kept.last 0))
  unfolding of_kind on_lease
  lease-turn f l q = turn-of f ∙ settles b _ (cause_go l refl refl (same_not q) refl)

-- ---- the leader's steps

module _ (b : BoxState) (s : Setting) (e : even s.epoch ≡ true) (leads : b.leads ≡ true) where
  pub recover-turn : b.phase ≡ Phase.Election → b.state ≡ State.Recovering
      → 1 < ones s.present → new_pn b.kept.pn s.me ≤ most_pn
      → recover b s
      ≡ done
      (with_kept (promised (new_pn b.kept.pn s.me) b.kept)
      (with_phase Phase.SendCollect b))
      Book.Keep Out.Nothing
  unfolding recover can_recover
  recover-turn p q several h =
      settles b _
      (unless-go Refusal.Condition
      (and_both (and_both (and_both (and_both e leads) (phase_in p)) (state_in q))
      (lt-ltb _ _ several))
      (unless-go Refusal.NewPn (le-leb _ _ h) refl))

  pub own-collect-turn : (mine : Option ℕ) → b.phase ≡ Phase.SendCollect
      → b.state ≡ State.Recovering
      → collect b s mine
      ≡ done
      (with_peers all_unknown
      (with_answered (bit s.me)
      (with_best (best_held b.kept mine)
      (with_phase Phase.Collect b))))
      Book.Keep
      (Out.To (others s) (mail_of Kind.Collect b.kept.pn b.kept.last 0))
  unfolding collect can_collect
  own-collect-turn mine p q =
      settles b _
      (unless-go Refusal.Condition
      (and_both (and_both (and_both e leads) (state_in q)) (phase_in p)) refl)

  can_be_ready : b.phase ≡ Phase.Collect → b.answered ≡ s.present → can_ready b s ≡ true
  unfolding can_ready
  can_be_ready p h = and_both (and_both (and_both e leads) (phase_in p)) (eq-eqb _ _ h)

  pub start-turn : b.phase ≡ Phase.Collect → b.answered ≡ s.present → has_previous b ≡ true
      → room_next s.j b.kept.first b.kept.last ≡ true
      → ready b s
      ≡ started (with_state State.UpdatingPrevious (with_peers all_unknown b)) s b.best.value
  unfolding ready
  start-turn p h f r =
      settles b _
      (unless-go Refusal.Condition (can_be_ready p h)
      (unless-go Refusal.Book (or_right (not (has_previous b)) r) refl))
      ∙ pick_true _ _ _ f

  pub lead-turn : b.phase ≡ Phase.Collect → b.answered ≡ s.present → has_previous b ≡ false
      → ready b s ≡ leased (with_peers all_unknown b) s
  unfolding ready
  lead-turn p h f =
      settles b _
      (unless-go Refusal.Condition (can_be_ready p h)
      (unless-go Refusal.Book (or_left _ (ap not f)) refl))
      ∙ pick-false _ _ _ f

  busy : Or (b.state ≡ State.Updating) (b.state ≡ State.UpdatingPrevious)
      → (in_state b.state State.Updating || in_state b.state State.UpdatingPrevious) ≡ true
  busy (left q) = or_left _ (state_in q)
  busy (right q) = or_right (in_state b.state State.Updating) (state_in q)

  pub agree-turn : (mine : Option ℕ) → b.phase ≡ Phase.Begin
      → Or (b.state ≡ State.Updating) (b.state ≡ State.UpdatingPrevious)
      → includes b.accepts s.present ≡ true → is_some mine ≡ true
      → agree b s mine
      ≡ done
      (with_kept (lasting (b.kept.last + 1) b.kept)
      (with_agreeing 0
      (with_state State.Refresh
      (with_phase Phase.Commit b))))
      Book.Keep
      (Out.To (others s)
      (mail_from b.kept.first Kind.Commit b.kept.pn (b.kept.last + 1) 0))
  unfolding agree can_agree
  agree-turn mine p q h held =
      settles b _
      (unless-go Refusal.Condition
      (and_both (and_both (and_both (and_both (and_both e leads) (phase_in p)) (busy q)) h) held)
      refl)

  pub finish-turn : b.phase ≡ Phase.Commit → b.state ≡ State.Refresh → finish b s ≡ leased b s
  unfolding finish can_finish
  finish-turn p q =
      settles b _
      (unless-go Refusal.Condition
      (and_both (and_both (and_both e leads) (state_in q)) (phase_in p)) refl)

  pub heard-turn : b.phase ≡ Phase.Lease → includes b.heard s.present ≡ true
      → lease_heard b s ≡ done (with_phase Phase.LeaseDone b) Book.Keep Out.Nothing
  unfolding lease_heard can_heard
  heard-turn p h =
      settles b _
      (unless-go Refusal.Condition (and_both (and_both (and_both e leads) (phase_in p)) h) refl)
