-- The leader is handed an Accept or a LeaseAck: its sender joins the set of those that accepted, or
-- of those that are heard, and nothing else changes.
use Prim.Native.Nat.{ℕ, ◌≤◌, ◌<◌}
use mathlib.Core.Path.{◌≡◌, refl, sym, ap, ◌∙◌, subst}
use mathlib.Core.Bool.{true, not}
use mathlib.Core.List.{List, [], append-nil}
use native.Mathlib.Omega.{arith}
use borrow.Author.Tests.{eq-eqb}
use Rattle.rules.specs.Sizes.{most_boxes}
use Rattle.rules.specs.Sets.{has, joined}
use Rattle.rules.specs.Fields.{with_accepts, with_heard}
use Rattle.rules.specs.Turns.{taken}
use Rattle.rules.specs.Steps.{has_previous}
use Rattle.rules.specs.Mails.{accept_verdict, on_accept, lease_ack_verdict, on_lease_ack, of_kind}
use Rattle.rules.specs.Box.{Box, Letter, mail, written, turn_of}
use Rattle.rules.specs.Site.{Site, setting}
use Rattle.laws.proofs.Types.{Book, Kind, Out, Phase, State, Verdict}
use Rattle.laws.proofs.Logic.{In}
use Rattle.laws.proofs.FormLaws.{FormedBox}
use Rattle.wait.proofs.HeedsLaws.{joined-new, joined-old, few-down, goes, mail-turn}
use Rattle.wait.proofs.HeedsLaws.{phase-is, settled-go, two_phases}
use Rattle.wait.proofs.Stages.{Time, Other, Between, idle, old-collect, old-last}
use Rattle.wait.proofs.Stages.{old-commits, collect, answer, answered, begin, accept}
use Rattle.wait.proofs.Stages.{accepted, commit, committed, lease, lease-ack, heard, usable}
use Rattle.wait.proofs.Stages.{Leading, elected, recovers, collects, begins, commits, leases}
use Rattle.wait.proofs.Stages.{leads, same, Heeds, takes, sent_to, cost, weight, pn, last}
use Rattle.wait.proofs.Stages.{phase, state}

-- ---- more boxes are noted

-- X with the set A of those that accepted, and the set H of those that are heard
abbrev pub noting : Box → ℕ → ℕ → Box
noting X A H = record { head = with_accepts A (with_heard H X.head); records = X.records }

module _ {s : Site} {X : Box} {A H d : ℕ}
    (A-more : has X.head.accepts d ≡ true → has A d ≡ true)
    (H-more : has X.head.heard d ≡ true → has H d ≡ true) where
  between-noting : {z : Box} {down up : List Letter} → Between s X d z down up
      → Between s (noting X A H) d z down up
  between-noting (idle p) = idle p
  between-noting (old-collect y p k q) = old-collect y p k q
  between-noting (old-last y p k) = old-last y p k
  between-noting (old-commits ys p k) = old-commits ys p k
  between-noting (collect y p k q a u) = collect y p k q a u
  between-noting (answer y p k q r l a u) = answer y p k q r l a u
  between-noting (answered ys p k h l a u q) = answered ys p k h l a u q
  between-noting (begin y p k q r l m o) = begin y p k q r l m o
  between-noting (accept y p k q l m) = accept y p k q l m
  between-noting (accepted p a l) = accepted p (A-more a) l
  between-noting (commit y p k l m) = commit y p k l m
  between-noting (committed p l) = committed p l
  between-noting (lease y p k l m) = lease y p k l m
  between-noting (lease-ack y p k a l) = lease-ack y p k a l
  between-noting (heard p h a l) = heard p (H-more h) a l
  between-noting (usable p a l) = usable p a l

  leading-noting : Leading s d X → Leading s d (noting X A H)
  unfolding has_previous
  leading-noting (elected p e q) = elected p e q
  leading-noting (recovers p e) = recovers p e
  leading-noting (collects p e a w b r) = collects p e a w b r
  leading-noting (begins p e a h) = begins p e (A-more a) h
  leading-noting (commits p e) = commits p e
  leading-noting (leases p e h) = leases p e (H-more h)
  leading-noting (leads p e) = leads p e

-- ---- the turn

module _ (s : Site) (c b : ℕ) (X x : Box) (y : Letter) (time : Time s c) (other : Other s c b)
    (leader : X.head.leads ≡ true) (top : pn X ≤ 999999900) (f : FormedBox s.n s.J c X)
    (lead : Leading s c X) where
  -- it is taken, nothing is sent
  takes-noting : (A H : ℕ)
      → ((d : ℕ) → has X.head.accepts d ≡ true → has A d ≡ true)
      → ((d : ℕ) → has X.head.heard d ≡ true → has H d ≡ true)
      → (phase X ≡ Phase.SendCollect → ⊥)
      → ((k : ℕ) → 0 < weight k y.head.kind)
      → Between s (noting X A H) b x [] []
      → Heeds s c b X x y (taken (noting X A H).head Book.Keep Out.Nothing)
  unfolding written sent_to cost
  takes-noting A H A-more H-more later some new =
      takes refl
      (record {
        leading = leading-noting (A-more c) (H-more c) lead;
        leads = refl;
        top = top;
        rises = omega arith;
        to-others = tt;
      })
      (same refl refl some)
      new
      (λ d z down up o ne w. (
        few-down time.sizes.few-boxes f later w,
        rw append-nil (between-noting (A-more d) (H-more d) w),
      ))

  box : In b most_boxes
  box = (other.box.0, omega (arith, other.box.1, time.sizes.few-boxes))

  pub accept-heeded : phase X ≡ Phase.Begin → y.head.kind ≡ Kind.Accept → y.head.pn ≡ pn X
      → y.head.last ≡ last X → last x ≡ last X
      → Heeds s c b X x y (turn_of (setting s c) X (mail b y))
  unfolding of_kind on_accept accept_verdict
  accept-heeded p k q l m =
      subst (Heeds s c b X x y) (sym turn)
      (takes-noting (joined X.head.accepts b) X.head.heard
      (joined-old X.head.accepts b box) (λ d h. h)
      (λ e. two_phases p e refl)
      (λ n. rw k (omega arith))
      (accepted p (joined-new X.head.accepts b box) m))
    where
      turn : turn_of (setting s c) X (mail b y)
          ≡ taken (noting X (joined X.head.accepts b) X.head.heard).head Book.Keep
          Out.Nothing
      turn =
          mail-turn (setting s c) X b y Kind.Accept time.even k
          ∙ settled-go X.head _
          (goes Verdict.Go (ap not leader) (ap not (phase-is p))
          (ap not (eq-eqb (pn X) y.head.pn (sym q)))
          (ap not (eq-eqb (last X) y.head.last (sym l))))

  pub lease-ack-heeded : phase X ≡ Phase.Lease → y.head.kind ≡ Kind.LeaseAck
      → state x ≡ State.Active → last x ≡ last X
      → Heeds s c b X x y (turn_of (setting s c) X (mail b y))
  unfolding of_kind on_lease_ack lease_ack_verdict
  lease-ack-heeded p k a m =
      subst (Heeds s c b X x y) (sym turn)
      (takes-noting X.head.accepts (joined X.head.heard b)
      (λ d h. h) (joined-old X.head.heard b box)
      (λ e. two_phases p e refl)
      (λ n. rw k (omega arith))
      (heard p (joined-new X.head.heard b box) a m))
    where
      turn : turn_of (setting s c) X (mail b y)
          ≡ taken (noting X X.head.accepts (joined X.head.heard b)).head Book.Keep
          Out.Nothing
      turn =
          mail-turn (setting s c) X b y Kind.LeaseAck time.even k
          ∙ settled-go X.head _
          (goes Verdict.Go (ap not leader) (ap not (phase-is p)) refl refl)
