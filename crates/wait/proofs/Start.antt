-- The site just after an election: a run is under way on it, or, where the leader is alone, over.
use Prim.Native.Nat.{ℕ, zero, suc, ◌+◌, ◌*◌, ◌%◌, ◌≤◌, ◌<◌}
use mathlib.Core.Path.{◌≡◌, refl, sym, ap, ◌∙◌, subst}
use mathlib.Core.Bool.{true}
use native.Mathlib.Omega.{arith}
use lib.Count.{ones}
use lib.Dec.{eqb}
use lib.ListN.{length}
use borrow.Author.Tests.{eq-eqb, ne_eqb, not-true, eqb-false, leb-true}
use Rattle.rules.specs.Pick.{pick, pick_true, pick-false}
use Rattle.rules.specs.Sizes.{even, majority_of}
use Rattle.rules.specs.Sets.{has}
use Rattle.rules.specs.Steps.{elected}
use Rattle.rules.specs.Answers.{is_refusal}
use Rattle.rules.specs.Site.{Site, Outcome, is_box, setting}
use Rattle.rules.specs.Step.{refused, elect, step}
use Rattle.laws.proofs.Types.{Answer, BoxState, Call, Phase, State}
use Rattle.laws.proofs.Logic.{Or, left, right, In, both-no, below?, eqb_same, cond_elim}
use Rattle.laws.proofs.Counts.{one-says, tally-le}
use Rattle.laws.proofs.SetLaws.{ones-tally}
use Rattle.laws.proofs.FormLaws.{Formed, form-says, is-box, box-is}
use Rattle.laws.proofs.StepLaws.{Elects, by_needs}
use Rattle.laws.proofs.FormKept.{formed-step}
use Rattle.wait.specs.Run.{next_turn}
use Rattle.wait.specs.Wait.{Usable, most_steps}
use Rattle.std.specs.Prelude.{None}
use Rattle.wait.proofs.Stages.{Between, Leading, pn, phase, state, others#}
use Rattle.wait.proofs.Stages.{load, round, after, ahead_of}
use Rattle.wait.proofs.Going.{Going, Ahead, sum, is_other, above#, under-way, left_to_do}
use Rattle.wait.proofs.FirstLaws.{look}
use Rattle.wait.proofs.OneStep.{no-turn}

-- ---- what an election that is done needs, and leaves

pub record Started (s : Site) (c : ℕ) (t : Site) : Type 0 where
  pub before : Formed s
  pub elects : Elects s c
  pub next : t ≡ elect s c

pub started : (s : Site) (c : ℕ) → (step s (Call.Elect c)).answer ≡ Answer.Done
    → Started s c (step s (Call.Elect c)).next
unfolding step
started s c =
    by_needs (λ (o : Outcome). o.answer ≡ Answer.Done → Started s c o.next) (refused s) _ _
    (λ why e. absurd (both-no refl (ap is_refusal e)))
    (λ p e. record {
      before = form-says p.0;
      elects = record {
        box = is-box p.1.0;
        due = p.1.1.0;
        here = p.1.1.1.0;
        majority = p.1.1.1.1.0;
      };
      next = refl;
    })

-- ---- what is left to do at the start

pub sum-none : (n : ℕ) (f : ℕ → ℕ) → ((b : ℕ) → f b ≡ 0) → sum n f ≡ 0
unfolding sum
sum-none zero f h = refl
sum-none (suc n) f h = omega (arith, h (suc n), sum-none n f h)

most-steps : (k : ℕ) → 1 ≤ k → 1 + (k + 1) * round k + after k ≡ most_steps k
unfolding most_steps
most-steps zero h = absurd (omega arith)
most-steps (suc k) h =
    let p : suc k + 1 ≡ k + 2 = omega arith in
    let q : suc k + 2 ≡ k + 3 = omega arith in
    let r : suc k ≡ k + 1 = omega arith in
    rw (p, q, r) refl

-- five boxes, so four others at most
most-enough : (k : ℕ) → k ≤ 4 → most_steps k ≤ 150
unfolding most_steps
most-enough zero h = omega arith
most-enough (suc zero) h = omega arith
most-enough (suc (suc zero)) h = omega arith
most-enough (suc (suc (suc zero))) h = omega arith
most-enough (suc (suc (suc (suc zero)))) h = omega arith
most-enough (suc (suc (suc (suc (suc k))))) h = absurd (omega arith)

pub few-steps : (s : Site) → Formed s → most_steps (others# s) ≤ 150
few-steps s f =
    most-enough (others# s)
    (omega (
      arith,
      ones-tally s.n s.present f.present,
      tally-le s.n (has s.present),
      f.sizes.few-boxes,
    ))

-- ---- the boxes after it

module _ (s : Site) (c : ℕ) where
  head-elected : (b : ℕ) → In b s.n
      → ((elect s c).box b).head ≡ elected (s.box b).head (setting s b) c
  unfolding elect
  head-elected b h = rw (box-is h) refl

  elected-pn : (b : ℕ) → In b s.n → pn ((elect s c).box b) ≡ pn (s.box b)
  unfolding elected
  elected-pn b h = ap (λ (x : BoxState). x.kept.pn) (head-elected b h)

  elected-phase : (b : ℕ) → In b s.n → phase ((elect s c).box b) ≡ Phase.Election
  unfolding elected
  elected-phase b h = ap (λ (x : BoxState). x.phase) (head-elected b h)

  elected-state : (b : ℕ) → In b s.n
      → state ((elect s c).box b) ≡ pick (eqb (ones s.present) 1) State.Active State.Recovering
  unfolding elected
  elected-state b h = ap (λ (x : BoxState). x.state) (head-elected b h)

  elected-leads : In c s.n → ((elect s c).box c).head.leads ≡ true
  unfolding elected
  elected-leads h = ap (λ (x : BoxState). x.leads) (head-elected c h) ∙ eqb_same c

-- ---- the run is under way

module _ (s : Site) (c : ℕ) (done : (step s (Call.Elect c)).answer ≡ Answer.Done) where
  start : Started s c (step s (Call.Elect c)).next
  start = started s c done

  pub elected-formed : Formed (step s (Call.Elect c)).next
  elected-formed = formed-step s (Call.Elect c) tt start.before

  pub elected-even : even (step s (Call.Elect c)).next.epoch ≡ true
  unfolding elect
  elected-even =
      rw start.next
      (eq-eqb ((s.epoch + 1) % 2) 0
      (omega (arith, eqb-false (s.epoch % 2) 0 (not-true _ start.elects.due))))

  formed-elect : Formed (elect s c)
  formed-elect = subst Formed start.next elected-formed

  left-at-start : 1 < ones s.present → left_to_do c (elect s c) ≡ most_steps (others# s)
  unfolding elect left_to_do ahead_of load
  left-at-start several =
      omega (
        arith,
        ap (ahead_of (others# s) (above# (elect s c) c)) (elected-phase s c c start.elects.box),
        sum-none s.n (under-way (elect s c) c)
            (λ b. cond_elim (λ (v : ℕ). v ≡ 0) (is_other (elect s c) c b) (λ e. refl) (λ e. refl)),
        most-steps (others# s) (omega (arith, several)),
      )

  pub left-of : 1 < ones s.present
      → left_to_do c (step s (Call.Elect c)).next ≡ most_steps (others# s)
  left-of several = ap (left_to_do c) start.next ∙ left-at-start several

  -- a majority is present, so there is one
  pub alone? : Or (ones s.present ≡ 1) (1 < ones s.present)
  alone? = go (below? 1 (ones s.present))
    where
      go : Or (1 < ones s.present) (ones s.present ≤ 1)
          → Or (ones s.present ≡ 1) (1 < ones s.present)
      go (left h) = right h
      go (right h) =
          left (omega (arith, h, leb-true (majority_of s.n) _ start.elects.majority))

  -- more than one is present
  module _ (room : 8 ≤ s.L) (several : 1 < ones s.present)
      (low : (b : ℕ) → is_box s.n b ≡ true → pn (s.box b) ≤ 999999800) where
    low-elected : (b : ℕ) → In b s.n → pn ((elect s c).box b) ≤ 999999800
    low-elected b h = omega (arith, elected-pn s c b h, low b (box-is h))

    recovering : state ((elect s c).box c) ≡ State.Recovering
    recovering =
        elected-state s c c start.elects.box
        ∙ pick-false _ _ _ (ne_eqb (ones s.present) 1 (λ z. omega (arith, z, several)))

    going-elect : Going c (elect s c)
    unfolding elect
    going-elect = record {
      formed = formed-elect;
      time = record {
        sizes = start.before.sizes;
        present = start.before.present;
        even = subst (λ (t : Site). even t.epoch ≡ true) start.next elected-even;
        box = start.elects.box;
        here = start.elects.here;
        several = several;
        room = room;
      };
      leads = elected-leads s c start.elects.box;
      leading =
          Leading.elected (elected-phase s c c start.elects.box) recovering
          (low-elected c start.elects.box);
      top = omega (arith, low-elected c start.elects.box);
      promises = λ b o. right (low-elected b o.box);
      between = λ b o. Between.idle (elected-phase s c c start.elects.box);
      elsewhere = λ a b ha hb ab p q. refl;
    }

    pub going : Going c (step s (Call.Elect c)).next
    going = subst (Going c) (sym start.next) going-elect

  -- .. or the leader is alone
  module _ (alone : ones s.present ≡ 1) where
    active-elect : (b : ℕ) → In b s.n → state ((elect s c).box b) ≡ State.Active
    active-elect b h =
        elected-state s c b h ∙ pick_true _ _ _ (eq-eqb (ones s.present) 1 alone)

    over-elect : next_turn (elect s c) ≡ None
    unfolding elect
    over-elect = go (look (elect s c))
      where
        go : Ahead (elect s c) → next_turn (elect s c) ≡ None
        go (Ahead.mail a b y ys ha hb ab e n) = absurd (omega (arith, ap length e))
        go (Ahead.quiet q n) =
            n
            ∙ no-turn (elect s c) c formed-elect start.elects.box
            (elected-leads s c start.elects.box)
            (right (elected-phase s c c start.elects.box, active-elect c start.elects.box))

    only : (b : ℕ) → In b s.n → has s.present b ≡ true → b ≡ c
    only b h p =
        one-says s.n (has s.present)
        (omega (arith, alone, ones-tally s.n s.present start.before.present))
        b c h start.elects.box p start.elects.here

    usable-elect : Usable c (elect s c)
    unfolding elect
    usable-elect = record {
      leads = elected-leads s c start.elects.box;
      leader = active-elect c start.elects.box;
      active = λ b h p. active-elect b (is-box h);
      last = λ b h p. ap (λ (k : ℕ). ((elect s c).box k).head.kept.last) (only b (is-box h) p);
      empty = λ a b h. refl;
    }

    pub over : next_turn (step s (Call.Elect c)).next ≡ None
    over = ap next_turn start.next ∙ over-elect

    pub usable : Usable c (step s (Call.Elect c)).next
    usable = subst (Usable c) (sym start.next) usable-elect
