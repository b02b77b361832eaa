-- A Lease or a LeaseAck is taken: what the box keeps stays.
use Prim.Native.Nat.{ℕ}
use mathlib.Core.Path.{◌≡◌, refl, ap, ◌∙◌}
use mathlib.Core.Bool.{false}
use mathlib.Core.List.{List}
use native.Mathlib.Omega.{arith}
use Rattle.rules.specs.Sets.{bit, joined}
use Rattle.rules.specs.Fields.{with_state, with_heard}
use Rattle.rules.specs.Mails.{on_lease, on_lease_ack}
use Rattle.rules.specs.Box.{Box, Letter, written}
use Rattle.rules.specs.Site.{Site, popped, posted}
use Rattle.rules.specs.Step.{by_turn}
use Rattle.laws.proofs.Types.{Kind, State}
use Rattle.laws.proofs.Logic.{both-no}
use Rattle.laws.proofs.FrameLaws.{all_pop, all_post}
use Rattle.laws.proofs.Conditions.{go_cause, go-lease-ack}
use Rattle.laws.proofs.View.{store}
use Rattle.laws.proofs.StepLaws.{by-settled}
use Rattle.safety.proofs.Inv.{Live, Inv}
use Rattle.safety.proofs.After.{After, after, after_same}
use Rattle.safety.proofs.Base.{core-kept, ranks-kept}
use Rattle.safety.proofs.Follower.{no_election, Moved, moved-refl, PostAfter, mails-moved}
use Rattle.safety.proofs.Follower.{live_moved}
use Rattle.safety.proofs.Quiet.{inv-popped}
use Rattle.safety.proofs.Kept.{inv-kept}
use Rattle.safety.proofs.Arrival.{Arrives}

-- the box does not lead, becomes Active, and answers
pub inv-lease : (s : Site) (i : Inv s) (a b : ℕ) (y : Letter) (ys : List Letter)
    → Arrives s a b y ys Kind.Lease
    → After s i (by_turn s (popped s a b) b (on_lease (s.box b).head a y.head) y.records
    ).next
unfolding on_lease posted written
inv-lease s i a b y ys r =
    by-settled (After s i) s (popped s a b) b _ _ _ _ (after_same i) (inv-popped s a b i)
    (λ go. after (record {
      core = core-kept i.core b v r.to (i.core.boxes b r.to) (omega arith) (omega arith)
          refl;
      ranks = ranks-kept i.ranks b v r.to refl refl;
      live = λ z.
          live_moved L b v same _ (λ f. f) (follows (go_cause _ _ _ _ _ go).no_role) refl
          (λ h. absurd (no_election L a b y ys r.head h))
          (λ h. refl) (λ h. h) (λ h f. f)
          (all_post (PostAfter L b v same) (popped s a b).link
          (all_pop (PostAfter L b v same) s.link (mails-moved L b v same) a b)
          (bit a) b _ (λ d hd h. tt));
    }))
  where
    L : Live s.n s.present s.box s.link i.agreed
    L = i.live r.even

    v : Box
    v = record { head = with_state State.Active (s.box b).head; records = (s.box b).records }

    same : Moved L.x (store (s.box b)) (store v)
    same = moved-refl L.x (store (s.box b))

    follows : (s.box b).head.leads ≡ false → b ≡ L.c → ⊥
    follows f e = both-no (ap (λ (d : ℕ). (s.box d).head.leads) e ∙ L.lead) f

-- the box leads, in phase Lease, and notes who sent it
pub inv-lease-ack : (s : Site) (i : Inv s) (a c : ℕ) (y : Letter) (ys : List Letter)
    → Arrives s a c y ys Kind.LeaseAck
    → After s i (by_turn s (popped s a c) c (on_lease_ack (s.box c).head a) y.records).next
unfolding on_lease_ack posted written
inv-lease-ack s i a c y ys r =
    by-settled (After s i) s (popped s a c) c _ _ _ _ (after_same i) (inv-popped s a c i)
    (λ go. let t = go-lease-ack go in
    inv-kept s i c r.to r.even t.leads notes t.leads refl refl
    (λ e. omega (arith, t.phase, e)) (λ e. omega (arith, t.phase, e)) (λ e. e) (λ e. e)
    (popped s a c).link (λ e. absurd (omega (arith, t.phase, e)))
    (λ P h. all_pop P s.link h a c))
  where
    notes : Box
    notes = record {
      head = with_heard (joined (s.box c).head.heard a) (s.box c).head;
      records = (s.box c).records;
    }
