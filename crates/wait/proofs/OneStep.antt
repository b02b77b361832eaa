-- The leader's own steps: each is refused 3 outside its phase, so at most one is possible, and a
-- leader's turn is the step of its phase or none.
use Prim.Native.Nat.{ℕ, zero, suc, ◌<◌}
use mathlib.Core.Path.{◌≡◌, refl, sym, ap, ◌∙◌}
use mathlib.Core.Bool.{Bool, true, false}
use mathlib.Core.List.{List, [], ◌∷◌}
use native.Mathlib.Omega.{arith}
use lib.ListN.{length, get_or}
use borrow.Author.Tests.{ne_eqb, eq-eqb}
use Rattle.std.specs.Prelude.{Option}
use Rattle.rules.specs.Pick.{pick, pick_true, pick-false}
use Rattle.rules.specs.Numbers.{phase_number, state_number}
use Rattle.rules.specs.Turns.{unless, settled}
use Rattle.rules.specs.Steps.{can_recover, can_collect, can_ready, can_agree, can_finish, can_heard}
use Rattle.rules.specs.Steps.{recover, collect, ready, agree, finish, lease_heard, acted}
use Rattle.rules.specs.Box.{own, turn_of, mine}
use Rattle.rules.specs.Site.{Site, Outcome, is_box, setting, room}
use Rattle.rules.specs.Form.{form}
use Rattle.rules.specs.Needs.{ruled}
use Rattle.rules.specs.Step.{step, acting, refused, at_box, by_answer, by_turn}
use Rattle.laws.proofs.Types.{Act, Answer, BoxState, Call, Phase, Refusal, Setting, State}
use Rattle.laws.proofs.Types.{Turn, Verdict}
use Rattle.laws.proofs.Logic.{Or, left, right, In, both-no, decide, same?, cond_elim}
use Rattle.laws.proofs.FormLaws.{Formed, form-made, box-is}
use Rattle.laws.proofs.Conditions.{can-recover, can-collect, can-ready, can-agree, can-finish}
use Rattle.laws.proofs.Conditions.{can-heard}
use Rattle.wait.specs.Run.{leader_of, leader_calls, is_possible, possible, first_possible}
use Rattle.wait.specs.Run.{leader_turn}
use Rattle.wait.specs.Wait.{PossibleAt}
use Rattle.std.specs.Prelude.{Some, None}
use Rattle.wait.proofs.Stages.{StepOf, phase, state}
use Rattle.wait.proofs.Going.{Firsts}
use Rattle.wait.proofs.FirstLaws.{first-only, first-is, none, look}

-- ---- a phase by its number

phase-at : ℕ → Phase
phase-at zero = Phase.Election
phase-at (suc zero) = Phase.SendCollect
phase-at (suc (suc zero)) = Phase.Collect
phase-at (suc (suc (suc zero))) = Phase.Lease
phase-at (suc (suc (suc (suc zero)))) = Phase.Begin
phase-at (suc (suc (suc (suc (suc zero))))) = Phase.Commit
phase-at (suc (suc (suc (suc (suc (suc n)))))) = Phase.LeaseDone

phase-back : (p : Phase) → phase-at (phase_number p) ≡ p
unfolding phase-at
phase-back Phase.Election = refl
phase-back Phase.SendCollect = refl
phase-back Phase.Collect = refl
phase-back Phase.Lease = refl
phase-back Phase.Begin = refl
phase-back Phase.Commit = refl
phase-back Phase.LeaseDone = refl

phase-is : (p q : Phase) → phase_number p ≡ phase_number q → p ≡ q
phase-is p q e = sym (phase-back p) ∙ ap phase-at e ∙ phase-back q

-- ---- a refusal

refuses : (t : Bool) (why : Refusal) (b : BoxState) (v : Verdict) (u : Turn) → t ≡ false
    → (settled b (unless t why v) u).answer ≡ Answer.Refused why
unfolding settled unless
refuses t why b v u e = rw (pick-false t v (Verdict.Refuse why) e) refl

-- ---- what each step asks, and that it is refused 3 otherwise

unfoldable pub condition : {c : ℕ} {p : Phase} {a : Act} {d : Call} → StepOf c p a d → BoxState
    → Setting
    → Option ℕ → Bool
condition StepOf.recover b s m = can_recover b s
condition StepOf.collect b s m = can_collect b s
condition StepOf.ready b s m = can_ready b s
condition StepOf.agree b s m = can_agree b s m
condition StepOf.finish b s m = can_finish b s
condition StepOf.hear b s m = can_heard b s

module _ (b : BoxState) (s : Setting) (m : Option ℕ) where
  pub condition-phase : {c : ℕ} {p : Phase} {a : Act} {d : Call} (w : StepOf c p a d)
      → condition w b s m ≡ true → b.phase ≡ p
  unfolding condition
  condition-phase StepOf.recover e = phase-is _ _ (can-recover e).0.phase
  condition-phase StepOf.collect e = phase-is _ _ (can-collect e).phase
  condition-phase StepOf.ready e = phase-is _ _ (can-ready e).0.phase
  condition-phase StepOf.agree e = phase-is _ _ (can-agree e).leading.phase
  condition-phase StepOf.finish e = phase-is _ _ (can-finish e).phase
  condition-phase StepOf.hear e = phase-is _ _ (can-heard e).0.phase

  pub condition-refused : {c : ℕ} {p : Phase} {a : Act} {d : Call} (w : StepOf c p a d)
      → condition w b s m ≡ false
      → (acted a b s m).answer ≡ Answer.Refused Refusal.Condition
  unfolding condition acted recover collect ready agree finish lease_heard
  condition-refused StepOf.recover e = refuses _ _ _ _ _ e
  condition-refused StepOf.collect e = refuses _ _ _ _ _ e
  condition-refused StepOf.ready e = refuses _ _ _ _ _ e
  condition-refused StepOf.agree e = refuses _ _ _ _ _ e
  condition-refused StepOf.finish e = refuses _ _ _ _ _ e
  condition-refused StepOf.hear e = refuses _ _ _ _ _ e

  pub turn-by-phase : {c : ℕ} {p : Phase} {a : Act} {d : Call} → StepOf c p a d
      → (b.phase ≡ p → ⊥) → (acted a b s m).answer ≡ Answer.Refused Refusal.Condition
  turn-by-phase {a = a} w ne = go (decide (condition w b s m))
    where
      go : Or (condition w b s m ≡ true) (condition w b s m ≡ false)
          → (acted a b s m).answer ≡ Answer.Refused Refusal.Condition
      go (left e) = absurd (ne (condition-phase w e))
      go (right e) = condition-refused w e

-- ---- the same of a site

module _ (s : Site) (c : ℕ) (f : form s ≡ true) (h : is_box s.n c ≡ true) where
  turn-refused : (t : Turn) (why : Refusal) → t.answer ≡ Answer.Refused why
      → (ruled (refused s) (at_box s c []) (by_turn s s c t [])).answer ≡ Answer.Refused why
  unfolding ruled by_answer
  turn-refused t why e = rw (f, h, e) refl

  step-acting : {p : Phase} {a : Act} {d : Call} → StepOf c p a d → step s d ≡ acting s c a
  unfolding step
  step-acting StepOf.recover = refl
  step-acting StepOf.collect = refl
  step-acting StepOf.ready = refl
  step-acting StepOf.agree = refl
  step-acting StepOf.finish = refl
  step-acting StepOf.hear = refl

  act-refused : {p : Phase} {a : Act} {d : Call} → StepOf c p a d
      → (turn_of (setting s c) (s.box c) (own a)).answer ≡ Answer.Refused Refusal.Condition
      → (step s d).answer ≡ Answer.Refused Refusal.Condition
  act-refused {a = a} w e =
      rw (step-acting w)
      (turn-refused (turn_of (setting s c) (s.box c) (own a)) Refusal.Condition e)

  -- refused 3 where the condition is not met ..
  pub by_condition : {p : Phase} {a : Act} {d : Call} (w : StepOf c p a d)
      → condition w (s.box c).head (setting s c) (mine (s.box c)) ≡ false
      → (step s d).answer ≡ Answer.Refused Refusal.Condition
  by_condition w e =
      act-refused w (condition-refused (s.box c).head (setting s c) (mine (s.box c)) w e)

  -- .. and so in every phase but the step's own
  pub by-phase : {p : Phase} {a : Act} {d : Call} → StepOf c p a d
      → (phase (s.box c) ≡ p → ⊥) → (step s d).answer ≡ Answer.Refused Refusal.Condition
  by-phase w ne =
      act-refused w (turn-by-phase (s.box c).head (setting s c) (mine (s.box c)) w ne)

  possible-answer : (a : Answer) (t : Turn)
      → is_possible (by_answer a s s c t []).answer ≡ is_possible a
  unfolding by_answer ruled
  possible-answer Answer.Done t =
      cond_elim (λ (o : Outcome). is_possible o.answer ≡ true) (room s c t.out) (λ e. refl)
      (λ e. refl)
  possible-answer Answer.Taken t =
      cond_elim (λ (o : Outcome). is_possible o.answer ≡ true) (room s c t.out) (λ e. refl)
      (λ e. refl)
  possible-answer (Answer.Discarded why) t = refl
  possible-answer (Answer.Refused why) t = refl

  turn-possible : (t : Turn)
      → is_possible (ruled (refused s) (at_box s c []) (by_turn s s c t [])).answer
      ≡ is_possible t.answer
  unfolding ruled
  turn-possible t = rw (f, h) (possible-answer t.answer t)

  -- a step is possible where the box's own turn is: 8 is not 3
  pub possible-turn : {p : Phase} {a : Act} {d : Call} → StepOf c p a d
      → possible s d ≡ is_possible (turn_of (setting s c) (s.box c) (own a)).answer
  possible-turn {a = a} w =
      rw (step-acting w) (turn-possible (turn_of (setting s c) (s.box c) (own a)))

-- ---- at most one is possible

-- the phase of the step at each place of the list, and the place of each phase
phase-of : ℕ → Phase
phase-of zero = Phase.Election
phase-of (suc zero) = Phase.SendCollect
phase-of (suc (suc zero)) = Phase.Collect
phase-of (suc (suc (suc zero))) = Phase.Begin
phase-of (suc (suc (suc (suc zero)))) = Phase.Commit
phase-of (suc (suc (suc (suc (suc n))))) = Phase.Lease

place-of : Phase → ℕ
place-of Phase.Election = 0
place-of Phase.SendCollect = 1
place-of Phase.Collect = 2
place-of Phase.Begin = 3
place-of Phase.Commit = 4
place-of Phase.Lease = 5
place-of Phase.LeaseDone = 6

place-back : (i : ℕ) → i < 6 → place-of (phase-of i) ≡ i
unfolding place-of phase-of
place-back zero h = refl
place-back (suc zero) h = refl
place-back (suc (suc zero)) h = refl
place-back (suc (suc (suc zero))) h = refl
place-back (suc (suc (suc (suc zero)))) h = refl
place-back (suc (suc (suc (suc (suc zero))))) h = refl
place-back (suc (suc (suc (suc (suc (suc n)))))) h = absurd (omega arith)

act-of : ℕ → Act
act-of zero = Act.Recover
act-of (suc zero) = Act.Collect
act-of (suc (suc zero)) = Act.Ready
act-of (suc (suc (suc zero))) = Act.Agree
act-of (suc (suc (suc (suc zero)))) = Act.Finish
act-of (suc (suc (suc (suc (suc n))))) = Act.Heard

at_place : (c i : ℕ) → i < 6
    → StepOf c (phase-of i) (act-of i) (get_or (leader_calls c) i (Call.Recover c))
unfolding phase-of act-of
at_place c zero h = StepOf.recover
at_place c (suc zero) h = StepOf.collect
at_place c (suc (suc zero)) h = StepOf.ready
at_place c (suc (suc (suc zero))) h = StepOf.agree
at_place c (suc (suc (suc (suc zero)))) h = StepOf.finish
at_place c (suc (suc (suc (suc (suc zero))))) h = StepOf.hear
at_place c (suc (suc (suc (suc (suc (suc n)))))) h = absurd (omega arith)

place-few : {c : ℕ} {p : Phase} {a : Act} {d : Call} → StepOf c p a d → place-of p < 6
unfolding place-of
place-few StepOf.recover = omega arith
place-few StepOf.collect = omega arith
place-few StepOf.ready = omega arith
place-few StepOf.agree = omega arith
place-few StepOf.finish = omega arith
place-few StepOf.hear = omega arith

place-call : {c : ℕ} {p : Phase} {a : Act} {d : Call} → StepOf c p a d
    → get_or (leader_calls c) (place-of p) (Call.Recover c) ≡ d
unfolding place-of
place-call StepOf.recover = refl
place-call StepOf.collect = refl
place-call StepOf.ready = refl
place-call StepOf.agree = refl
place-call StepOf.finish = refl
place-call StepOf.hear = refl

impossible : (s : Site) (d : Call) → (step s d).answer ≡ Answer.Refused Refusal.Condition
    → possible s d ≡ false
impossible s d e = rw e refl

phase? : (p q : Phase) → Or (p ≡ q) (p ≡ q → ⊥)
phase? p q = go (same? (phase_number p) (phase_number q))
  where
    go : Or (phase_number p ≡ phase_number q) (phase_number p ≡ phase_number q → ⊥)
        → Or (p ≡ q) (p ≡ q → ⊥)
    go (left e) = left (phase-is p q e)
    go (right e) = right (λ f. e (ap phase_number f))

possible-phase : (s : Site) (c : ℕ) → form s ≡ true → is_box s.n c ≡ true
    → {p : Phase} {a : Act} {d : Call} → StepOf c p a d → possible s d ≡ true
    → phase (s.box c) ≡ p
possible-phase s c f h {p} {a} {d} w e = go (phase? (phase (s.box c)) p)
  where
    go : Or (phase (s.box c) ≡ p) (phase (s.box c) ≡ p → ⊥) → phase (s.box c) ≡ p
    go (left q) = q
    go (right q) = absurd (both-no e (impossible s d (by-phase s c f h w q)))

pub one-step : (s : Site) (c i j : ℕ) → form s ≡ true → is_box s.n c ≡ true
    → PossibleAt s c i → PossibleAt s c j → i ≡ j
one-step s c i j f h p q = sym (place i p) ∙ place j q
  where
    place : (k : ℕ) → PossibleAt s c k → place-of (phase (s.box c)) ≡ k
    place k r =
        ap place-of (possible-phase s c f h (at_place c k r.0) r.1) ∙ place-back k r.0

-- ---- the first possible of a list

module _ (s : Site) (o : Call) where
  none-possible : (ds : List Call)
      → ((i : ℕ) → i < length ds → possible s (get_or ds i o) ≡ false)
      → first_possible s ds ≡ None
  unfolding first_possible
  none-possible [] off = refl
  none-possible (d ∷ ds) off =
      pick-false _ _ _ (off zero (omega arith))
      ∙ none-possible ds (λ i h. off (suc i) (omega (arith, h)))

  -- all but the one at place k are impossible
  one-possible : (ds : List Call) (k : ℕ) → k < length ds
      → ((i : ℕ) → i < length ds → (i ≡ k → ⊥) → possible s (get_or ds i o) ≡ false)
      → first_possible s ds ≡ pick (possible s (get_or ds k o))
      (Some (get_or ds k o)) None
  unfolding first_possible
  one-possible [] k h off = absurd (omega arith)
  one-possible (d ∷ ds) zero h off =
      ap (pick (possible s d) (Some d))
      (none-possible ds (λ i g. off (suc i) (omega (arith, g)) (λ z. omega (arith, z))))
  one-possible (d ∷ ds) (suc k) h off =
      pick-false _ _ _ (off zero (omega arith) (λ z. omega (arith, z)))
      ∙ one-possible ds k (omega (arith, h))
      (λ i g ne. off (suc i) (omega (arith, g)) (λ z. ne (omega (arith, z))))

-- ---- the leader's turn

pub leader-is : (s : Site) (c : ℕ) → Formed s → In c s.n → (s.box c).head.leads ≡ true
    → leader_of s ≡ c
unfolding leader_of
leader-is s c f h e =
    first-only s.n _ c h e (λ i g d. f.one-leader i c g h d e)

-- no box leads
pub no-leader : (s : Site) → ((c : ℕ) → In c s.n → (s.box c).head.leads ≡ false)
    → leader_turn s ≡ None
unfolding leader_turn leader_of
no-leader s off = pick_true _ _ _ (eq-eqb _ 0 (first-is (none refl off)))

module _ (s : Site) (c : ℕ) (f : Formed s) (h : In c s.n)
    (leads : (s.box c).head.leads ≡ true) where
  by-calls : leader_turn s ≡ first_possible s (leader_calls c)
  unfolding leader_turn
  by-calls =
      rw (leader-is s c f h leads)
      (pick-false _ _ _ (ne_eqb c 0 (λ z. omega (arith, z, h.0))))

  -- those of other phases
  elsewhere : (i : ℕ) → i < 6 → (i ≡ place-of (phase (s.box c)) → ⊥)
      → possible s (get_or (leader_calls c) i (Call.Recover c)) ≡ false
  elsewhere i g ne =
      impossible s _
      (by-phase s c (form-made f) (box-is h) (at_place c i g)
      (λ e. ne (sym (place-back i g) ∙ ap place-of (sym e))))

  -- the step d of its phase, or nothing, by whether d is possible
  pub leader-turn : (a : Act) (d : Call) → StepOf c (phase (s.box c)) a d
      → leader_turn s ≡ pick (possible s d) (Some d) None
  leader-turn a d w =
      by-calls
      ∙ one-possible s (Call.Recover c) (leader_calls c) _ (place-few w) elsewhere
      ∙ ap (λ (k : Call). pick (possible s k) (Some k) None) (place-call w)

  pub done-turn : (a : Act) (d : Call) → StepOf c (phase (s.box c)) a d
      → (step s d).answer ≡ Answer.Done → leader_turn s ≡ Some d
  done-turn a d w e = leader-turn a d w ∙ pick_true _ _ _ (rw e refl)

  -- the lease is done, or the leader is alone
  pub no-turn : Or (phase (s.box c) ≡ Phase.LeaseDone)
      ((phase (s.box c) ≡ Phase.Election) × (state (s.box c) ≡ State.Active))
      → leader_turn s ≡ None
  unfolding place-of condition
  no-turn (left e) =
      by-calls
      ∙ none-possible s (Call.Recover c) (leader_calls c)
      (λ i g. elsewhere i g (λ z. omega (arith, z ∙ ap place-of e, g)))
  no-turn (right e) =
      leader-turn Act.Recover (Call.Recover c) here
      ∙ pick-false _ _ _ (impossible s (Call.Recover c)
      (by_condition s c (form-made f) (box-is h) StepOf.recover (off (decide _))))
    where
      here : StepOf c (phase (s.box c)) Act.Recover (Call.Recover c)
      here = rw e.0 StepOf.recover

      off : Or (can_recover (s.box c).head (setting s c) ≡ true)
          (can_recover (s.box c).head (setting s c) ≡ false)
          → can_recover (s.box c).head (setting s c) ≡ false
      off (left g) =
          absurd (omega (
            arith,
            (can-recover {b = (s.box c).head} {s = setting s c} g).0.state,
            ap state_number e.1,
          ))
      off (right g) = g

  -- the step of its phase, or any of the six where the lease is done, by the box's own turn
  pub leader-tries : {p : Phase} {a : Act} {d : Call} → StepOf c p a d
      → Or (phase (s.box c) ≡ p) (phase (s.box c) ≡ Phase.LeaseDone)
      → leader_turn s
      ≡ pick (is_possible (turn_of (setting s c) (s.box c) (own a)).answer) (Some d)
      None
  unfolding place-of
  leader-tries {a = a} {d = d} w (left e) =
      leader-turn a d (rw e w)
      ∙ ap (λ (t : Bool). pick t (Some d) None)
      (possible-turn s c (form-made f) (box-is h) w)
  leader-tries {p = p} {a = a} {d = d} w (right e) =
      no-turn (left e)
      ∙ sym (pick-false _ (Some d) None
      (ap is_possible
      (turn-by-phase (s.box c).head (setting s c) (mine (s.box c)) w
      (λ q. other w (sym q ∙ e)))))
    where
      other : {p : Phase} {a : Act} {d : Call} → StepOf c p a d → p ≡ Phase.LeaseDone → ⊥
      other v q = omega (arith, place-few v, ap place-of q)

pub firsts : Firsts
firsts = record {
  look = look;
  leader = λ s c a d f h l w e. done-turn s c f h l a d w e;
  none = λ s c f h l e. no-turn s c f h l e;
}
