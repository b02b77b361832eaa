-- A mail that is handed over and a step of a box by itself, once their needs are met.
use Prim.Native.Nat.{ℕ}
use mathlib.Core.Path.{◌≡◌, refl, ap, ◌∙◌}
use mathlib.Core.Bool.{true, not}
use mathlib.Core.List.{List, [], ◌∷◌}
use borrow.Author.Tests.{ne_eqb}
use Rattle.rules.specs.Box.{Letter, own, mail, turn_of}
use Rattle.rules.specs.Site.{Site, setting, room, popped}
use Rattle.rules.specs.Needs.{Need, ruled}
use Rattle.rules.specs.Step.{by_answer, by_turn, acting, delivered, step}
use Rattle.laws.proofs.Types.{Act, Answer, Call, Cause, Refusal, Turn, Phase}
use Rattle.laws.proofs.Logic.{In, Passed, and_both}
use Rattle.laws.proofs.FormLaws.{Formed, form-made, box-is}
use Rattle.laws.proofs.StepLaws.{mets, discarded, played_out}
use Rattle.wait.proofs.Stages.{StepOf}

all-met {ℓ} : {A : Type ℓ} (refuse : Refusal → A) (ks : List Need) (a : A) → Passed (mets ks)
    → ruled refuse ks a ≡ a
unfolding ruled
all-met refuse [] a p = refl
all-met refuse (k ∷ ks) a p = rw p.0 (all-met refuse ks a p.1)

-- ---- a turn

module _ (s base : Site) (c : ℕ) (t : Turn) (ms : List ℕ) where
  pub turn-done : t.answer ≡ Answer.Done → room base c t.out ≡ true
      → by_turn s base c t ms ≡ played_out Answer.Done base c t ms
  unfolding by_answer
  turn-done e r = rw e (all-met _ _ _ (r, tt))

  pub turn-taken : t.answer ≡ Answer.Taken → room base c t.out ≡ true
      → by_turn s base c t ms ≡ played_out Answer.Taken base c t ms
  unfolding by_answer
  turn-taken e r = rw e (all-met _ _ _ (r, tt))

  pub turn-discarded : (why : Cause) → t.answer ≡ Answer.Discarded why
      → by_turn s base c t ms ≡ discarded base why
  unfolding by_answer
  turn-discarded why e = rw e refl

-- ---- a call

module _ (s : Site) (f : Formed s) where
  pub delivers-is : (a b : ℕ) (y : Letter) (ys : List Letter) → In a s.n → In b s.n
      → (a ≡ b → ⊥) → s.link a b ≡ y ∷ ys
      → step s (Call.Deliver a b)
      ≡ by_turn s (popped s a b) b (turn_of (setting s b) (s.box b) (mail a y)) y.records
  unfolding step delivered
  delivers-is a b y ys ha hb ab e =
      all-met _ _ _
      (form-made f, (and_both (and_both (box-is ha) (box-is hb)) (ap not (ne_eqb a b ab)), tt))
      ∙ ap (delivered s a b) e

  acts-is : (c : ℕ) (a : Act) → In c s.n
      → acting s c a ≡ by_turn s s c (turn_of (setting s c) (s.box c) (own a)) []
  acts-is c a hc = all-met _ _ _ (form-made f, (box-is hc, tt))

  -- the leader's step of its phase
  pub steps-is : (c : ℕ) (p : Phase) (a : Act) (d : Call) → In c s.n → StepOf c p a d
      → step s d ≡ by_turn s s c (turn_of (setting s c) (s.box c) (own a)) []
  unfolding step
  steps-is c p a d hc StepOf.recover = acts-is c a hc
  steps-is c p a d hc StepOf.collect = acts-is c a hc
  steps-is c p a d hc StepOf.ready = acts-is c a hc
  steps-is c p a d hc StepOf.agree = acts-is c a hc
  steps-is c p a d hc StepOf.finish = acts-is c a hc
  steps-is c p a d hc StepOf.hear = acts-is c a hc
