-- After every run from a fresh site, who is in the set of a leader has taken its lease.
use Prim.Native.Nat.{ℕ}
use mathlib.Core.Path.{◌≡◌, refl, sym, ap, subst}
use mathlib.Core.Bool.{true, ◌||◌}
use mathlib.Core.List.{List, [], ◌∷◌, reverse}
use native.Mathlib.Omega.{arith}
use Rattle.rules.specs.Sizes.{most_boxes, even}
use Rattle.rules.specs.Sets.{has, includes}
use Rattle.rules.specs.Numbers.{phase_number, in_phase}
use Rattle.rules.specs.Answers.{is_accepted}
use Rattle.rules.specs.Steps.{ready, finish, lease_heard, acted}
use Rattle.rules.specs.Site.{Site, Outcome, fresh}
use Rattle.rules.specs.Step.{step, run}
use Rattle.rules.specs.Unheard.{lease_is_out}
use Rattle.laws.proofs.Types.{Answer, Call, Phase}
use Rattle.laws.proofs.Logic.{Or, left, right, In, both-no, and3, and_both, or_cases}
use Rattle.laws.proofs.SetLaws.{set_in, includes_in}
use Rattle.laws.proofs.FormLaws.{Formed, form-says}
use Rattle.laws.proofs.Conditions.{go-unless, in-phase, can-ready, can-finish, can-heard}
use Rattle.laws.proofs.StepLaws.{answer-acting, by-acting}
use Rattle.safety.specs.Demand3.{start}
use Rattle.safety.specs.Heard.{LeaseOut, TakesLease, TookLease, now, since, Heard}
use Rattle.safety.proofs.Safe.{inv-run, same-n}
use Rattle.safety.proofs.Example.{lease-answered, computed}
use Rattle.safety.proofs.HeardSite.{At, at-step}
use Rattle.safety.proofs.HeardTurn.{stage, stage_of, hears-map}

-- ---- a lease that is out

lease-phase : (p : Phase) → stage (phase_number p) ≡ 2
    → (in_phase p Phase.Lease || in_phase p Phase.LeaseDone) ≡ true
unfolding in_phase
lease-phase Phase.Election e = absurd (omega (arith, e))
lease-phase Phase.SendCollect e = absurd (omega (arith, e))
lease-phase Phase.Collect e = absurd (omega (arith, e))
lease-phase Phase.Lease e = refl
lease-phase Phase.Begin e = absurd (omega (arith, e))
lease-phase Phase.Commit e = absurd (omega (arith, e))
lease-phase Phase.LeaseDone e = refl

module _ (s : Site) (c : ℕ) where
  out-made : even s.epoch ≡ true → (s.box c).head.leads ≡ true
      → stage_of (s.box c).head ≡ 2 → LeaseOut s c
  unfolding lease_is_out
  out-made e l z = and_both (and_both e l) (lease-phase (s.box c).head.phase z)

  out-says : LeaseOut s c → (even s.epoch ≡ true) × ((s.box c).head.leads ≡ true)
      × (stage_of (s.box c).head ≡ 2)
  unfolding lease_is_out
  out-says o = let p = and3 _ _ _ o in (p.0, p.1, go (or_cases _ _ p.2))
    where
      go : Or (in_phase (s.box c).head.phase Phase.Lease ≡ true)
          (in_phase (s.box c).head.phase Phase.LeaseDone ≡ true)
          → stage_of (s.box c).head ≡ 2
      go (left e) = ap stage (in-phase _ _ e)
      go (right e) = ap stage (in-phase _ _ e)

  -- .. is begun neither by Ready nor by Finish
  one-lease : LeaseOut s c → ((step s (Call.Ready c)).next ≡ s)
      × ((step s (Call.Finish c)).next ≡ s)
  unfolding step acted ready finish
  one-lease o = (
    by-acting (λ (t : Site). t ≡ s) s c _ _ _ refl
        (λ f h go. absurd (other (ap stage (can-ready (go-unless _ _ _ go).0).0.phase))),
    by-acting (λ (t : Site). t ≡ s) s c _ _ _ refl
        (λ f h go. absurd (other (ap stage (can-finish (go-unless _ _ _ go).0).phase))),
  )
    where
      other : stage_of (s.box c).head ≡ 0 → ⊥
      other z = omega (arith, (out-says o).2, z)

-- ---- where `heard` is done

pub record IsHeard (s : Site) (c : ℕ) : Type 0 where
  pub form : Formed s
  pub box : In c s.n
  pub out : LeaseOut s c
  pub all : includes (s.box c).head.heard s.present ≡ true

pub is-heard : (s : Site) (c : ℕ) → (step s (Call.Heard c)).answer ≡ Answer.Done → IsHeard s c
unfolding step acted lease_heard
is-heard s c =
    answer-acting (λ (o : Outcome). o.answer ≡ Answer.Done → IsHeard s c) s c _ _ _
    (λ why e. absurd (both-no (ap is_accepted e) refl))
    (λ why e. absurd (both-no (ap is_accepted e) refl))
    (λ f h go e. let o = can-heard (go-unless _ _ _ go).0 in record {
      form = form-says f;
      box = h;
      out = out-made s c o.0.even o.0.leads (ap stage o.0.phase);
      all = o.1;
    })

-- ---- every run

module _ (n J L : ℕ) (size : In n most_boxes) where
  abbrev end : List Call → Site
  end cs = run (start n J L) cs

  module _ (c b : ℕ) (c_in : In c n) (b-in : In b n) (ne : b ≡ c → ⊥) where
    abbrev Took : List Call → Type 0
    Took = TookLease (start n J L) c b

    -- b takes a Lease with the call d, or took one before it
    abbrev With : Call → List Call → Type 0
    With d cs = Or (TakesLease (end cs) c b × (d ≡ Call.Deliver c b)) (Took cs)

    one-more : (d : Call) (cs : List Call) → LeaseOut (end (d ∷ cs)) c → With d cs → Took (d ∷ cs)
    one-more d cs o (left t) =
        subst (λ (k : Call). LeaseOut (end (k ∷ cs)) c → Took (k ∷ cs)) (sym t.1)
        (now cs t.0) o
    one-more d cs o (right t) = since d t o

    at-run : (cs : List Call) → At c b ne (Took cs) (end cs)
    unfolding run fresh
    at-run [] e l = absurd (both-no e refl)
    at-run (d ∷ cs) e l =
        hears-map (λ z. one-more d cs (out-made (end (d ∷ cs)) c e l z))
        (at-step c b ne (With d cs) (end cs) (inv-run n J L size cs)
        (rw (same-n n J L size cs) c_in) (rw (same-n n J L size cs) b-in)
        (λ e l. hears-map (λ z. right) (at-run cs e l)) d (λ t i. left (t, i)) e l)

    took : (cs : List Call) → LeaseOut (end cs) c → has ((end cs).box c).head.heard b ≡ true
        → Took cs
    took cs o i = let p = out-says (end cs) c o in (at-run cs p.0 p.1).noted p.2 i

  all-took : (cs : List Call) (c b : ℕ) → (b ≡ c → ⊥)
      → (step (end cs) (Call.Heard c)).answer ≡ Answer.Done → has (end cs).present b ≡ true
      → TookLease (start n J L) c b cs
  all-took cs c b ne e here =
      let h = is-heard (end cs) c e in
      let inside = set_in (end cs).n (end cs).present b h.form.present here in
      took c b (rw (same-n n J L size cs) at h).box (rw (same-n n J L size cs) at inside) ne cs
      h.out (includes_in _ _ b h.all here)

pub heard : Heard
heard = record {
  took = λ n J L size cs c b hc hb ne. took n J L size c b hc hb ne cs;
  all-took = all-took;
  one-lease = one-lease;
  not-empty = (reverse lease-answered, computed.heard.0, computed.heard.1);
}
