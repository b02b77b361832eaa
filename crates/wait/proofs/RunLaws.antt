-- A run in steps: where nothing is next it is over, and where what is left falls at each step it
-- ends.
use Prim.Native.Nat.{ℕ, zero, suc, ◌≤◌, ◌<◌}
use mathlib.Core.Path.{◌≡◌, refl}
use mathlib.Core.Bool.{true, false}
use native.Mathlib.Omega.{arith}
use Rattle.rules.specs.Sizes.{even}
use Rattle.rules.specs.Answers.{is_refusal}
use Rattle.rules.specs.Site.{Site}
use Rattle.rules.specs.Form.{form}
use Rattle.rules.specs.Needs.{ruled}
use Rattle.rules.specs.Step.{step}
use Rattle.laws.proofs.Types.{Answer, Call}
use Rattle.laws.proofs.Logic.{both-no}
use Rattle.wait.specs.Run.{Outcome, ended, next_turn, go_on, take, run_from, run_of}
use Rattle.std.specs.Prelude.{Some, None}
use Rattle.wait.specs.declared.model.Run.{Run}
use Rattle.wait.proofs.Going.{Goes_on, over, on, Ends}

-- ---- one step

pub run-over : (left used : ℕ) (s : Site) → next_turn s ≡ None
    → run_from left used s ≡ ended s (Run.Ran used)
unfolding run_from take
run-over zero used s e = refl
run-over (suc left) used s e = rw e refl

-- what is not refused is gone on from
go-on : (more : Site → Outcome) (used : ℕ) (s : Site) (a : Answer) (s' : Site)
    → is_refusal a ≡ false → go_on more used s a s' ≡ more s'
unfolding go_on
go-on more used s Answer.Done s' h = refl
go-on more used s Answer.Taken s' h = refl
go-on more used s (Answer.Discarded why) s' h = refl
go-on more used s (Answer.Refused why) s' h = absurd (both-no refl h)

pub run-on : (left used : ℕ) (s : Site) (d : Call) → next_turn s ≡ Some d
    → is_refusal (step s d).answer ≡ false
    → run_from (suc left) used s ≡ run_from left (suc used) (step s d).next
unfolding run_from take
run-on left used s d e h = rw e (go-on (run_from left (suc used)) used s _ _ h)

pub run-of : (s : Site) (steps : ℕ) → form s ≡ true → even s.epoch ≡ true
    → run_of s steps ≡ run_from steps 0 s
unfolding run_of ruled
run-of s steps f e = rw (f, e) refl

-- ---- all of them

-- P holds at each step, and f is what is left; where nothing is next, Q holds
module _ (P : Site → Type 0) (f : Site → ℕ) (Q : Site → Type 0)
    (goes : (s : Site) → P s → Goes_on P f Q s) where
  ends-over : (left used : ℕ) (s : Site) → next_turn s ≡ None → Q s
      → Ends Q left used (f s) s
  ends-over left used s e q = record {
    steps = used;
    few = omega arith;
    ran = rw (run-over left used s e) refl;
    over = rw (run-over left used s e) e;
    reached = rw (run-over left used s e) q;
  }

  ends_on : (left used : ℕ) (s : Site) (d : Call) → next_turn s ≡ Some d
      → is_refusal (step s d).answer ≡ false → f (step s d).next < f s
      → Ends Q left (suc used) (f (step s d).next) (step s d).next
      → Ends Q (suc left) used (f s) s
  ends_on left used s d e h lt r = record {
    steps = r.steps;
    few = omega (arith, r.few, lt);
    ran = rw (run-on left used s d e h) r.ran;
    over = rw (run-on left used s d e h) r.over;
    reached = rw (run-on left used s d e h) r.reached;
  }

  pub run_ends : (left used : ℕ) (s : Site) → P s → f s ≤ left → Ends Q left used (f s) s
  run_ends zero used s p le = go (goes s p)
    where
      go : Goes_on P f Q s → Ends Q zero used (f s) s
      go (over e q) = ends-over zero used s e q
      go (on d e h p' lt) = absurd (omega (arith, le, lt))
  run_ends (suc left) used s p le = go (λ t. run_ends left (suc used) t) (goes s p)
    where
      go : ((t : Site) → P t → f t ≤ left → Ends Q left (suc used) (f t) t) → Goes_on P f Q s
          → Ends Q (suc left) used (f s) s
      go more (over e q) = ends-over (suc left) used s e q
      go more (on d e h p' lt) =
          ends_on left used s d e h lt (more (step s d).next p' (omega (arith, le, lt)))
