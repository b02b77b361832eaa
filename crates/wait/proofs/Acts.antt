-- The leader's own step of its phase is done where no mail is under way.
use Prim.Native.Nat.{ℕ, ◌≤◌}
use mathlib.Core.Path.{◌≡◌, refl}
use mathlib.Core.Bool.{true}
use mathlib.Core.List.{[]}
use Rattle.rules.specs.Box.{Box, own, turn_of}
use Rattle.rules.specs.Site.{Site, setting}
use Rattle.laws.proofs.Types.{Act, Call, Phase}
use Rattle.laws.proofs.FormLaws.{FormedBox}
use Rattle.wait.proofs.Stages.{Time, Other, Between, Leading, Acts, StepOf, pn, phase}
use Rattle.wait.proofs.Quiet.{Led, Stand, led, quiet}
use Rattle.wait.proofs.ActsCollect.{recovers, collects}
use Rattle.wait.proofs.ActsReady.{readies}
use Rattle.wait.proofs.ActsRest.{agrees, finishes, hears}

module _ (s : Site) (c : ℕ) (X : Box) (box : ℕ → Box) (time : Time s c)
    (leads : X.head.leads ≡ true) (top : pn X ≤ 999999900)
    (form : FormedBox s.n s.J c X) where
  of-phase : (p : Phase) (a : Act) (d : Call) → phase X ≡ p → Led s c X p
      → Stand s c X box p → StepOf c p a d
      → Acts s c X box a (turn_of (setting s c) X (own a))
  of-phase p a d e l stand StepOf.recover =
      recovers s c X box time leads top form e l.0 l.1
  of-phase p a d e l stand StepOf.collect = collects s c X box time leads top form e l
  of-phase p a d e l stand StepOf.ready = readies s c X box time leads top form e l stand
  of-phase p a d e l stand StepOf.agree = agrees s c X box time leads top e l stand
  of-phase p a d e l stand StepOf.finish = finishes s c X box time leads top e l stand
  of-phase p a d e l stand StepOf.hear = hears s c X box time leads top e l.0 l.1 stand

pub acts : (s : Site) (c : ℕ) (X : Box) (box : ℕ → Box) (a : Act) (d : Call)
    → Time s c → X.head.leads ≡ true → pn X ≤ 999999900
    → FormedBox s.n s.J c X
    → ((b : ℕ) → Other s c b → FormedBox s.n s.J b (box b))
    → Leading s c X → ((b : ℕ) → Other s c b → Between s X b (box b) [] [])
    → StepOf c (phase X) a d
    → Acts s c X box a (turn_of (setting s c) X (own a))
acts s c X box a d time leads top form boxes leading between step =
    of-phase s c X box time leads top form (phase X) a d refl (led leading)
    (λ b o. quiet (between b o)) step
