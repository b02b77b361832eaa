-- A run leaves a site by form.
use Prim.Native.Nat.{ℕ, zero, suc}
use mathlib.Core.Path.{◌≡◌}
use mathlib.Core.Bool.{true}
use mathlib.Core.List.{List, [], ◌∷◌}
use lib.Dec.{eqb}
use Rattle.rules.specs.Site.{Site}
use Rattle.rules.specs.Form.{form}
use Rattle.rules.specs.Step.{step}
use Rattle.laws.specs.Frames.{CallFits}
use Rattle.laws.proofs.Types.{Answer, Call}
use Rattle.laws.proofs.Logic.{All, nil, cons, pick_elim}
use Rattle.laws.proofs.FormKept.{step-keeps-form}
use Rattle.laws.proofs.StepLaws.{by_needs}
use Rattle.wait.specs.Run.{Outcome, go_on, take, first_possible, leader_calls, leader_of}
use Rattle.wait.specs.Run.{leader_turn, next_turn, possible, run_from, run_of, sender_of}
use Rattle.std.specs.Prelude.{Option, Some, None}

abbrev NextFits : Option Call → Type 0
NextFits None = Unit {0}
NextFits (Some d) = CallFits d

first-fits : (s : Site) (ds : List Call) → All CallFits ds → NextFits (first_possible s ds)
unfolding first_possible
first-fits s [] nil = tt
first-fits s (d ∷ ds) (cons f fs) =
    pick_elim NextFits (possible s d) (λ e. f) (λ e. first-fits s ds fs)

pub next_fits : (s : Site) → NextFits (next_turn s)
unfolding next_turn leader_turn
next_fits s =
    pick_elim NextFits (eqb (sender_of s) 0)
    (λ e. pick_elim NextFits (eqb (leader_of s) 0) (λ f. tt)
    (λ f. first-fits s (leader_calls (leader_of s))
    (cons tt (cons tt (cons tt (cons tt (cons tt (cons tt nil))))))))
    (λ e. tt)

went : (P : Site → Type 0) (more : Site → Outcome) (used : ℕ) (s s' : Site) (a : Answer) → P s
    → P (more s').next → P (go_on more used s a s').next
unfolding go_on
went P more used s s' Answer.Done old new = new
went P more used s s' Answer.Taken old new = new
went P more used s s' (Answer.Discarded why) old new = new
went P more used s s' (Answer.Refused why) old new = old

turned : (left used : ℕ) (s : Site) (n : Option Call) → form s ≡ true → NextFits n
    → ((s' : Site) → form s' ≡ true → form (run_from left (suc used) s').next ≡ true)
    → form (take (run_from left (suc used)) used s n).next ≡ true
unfolding take
turned left used s None e f more = e
turned left used s (Some d) e f more =
    went (λ (t : Site). form t ≡ true) (run_from left (suc used)) used s (step s d).next
    (step s d).answer e (more (step s d).next (step-keeps-form s d f e))

from-form : (left used : ℕ) (s : Site) → form s ≡ true → form (run_from left used s).next ≡ true
unfolding run_from
from-form zero used s e = e
from-form (suc left) used s e =
    turned left used s (next_turn s) e (next_fits s) (λ s' e'. from-form left (suc used) s' e')

pub run-form : (s : Site) (steps : ℕ) → form s ≡ true → form (run_of s steps).next ≡ true
unfolding run_of
run-form s steps e =
    by_needs (λ (o : Outcome). form o.next ≡ true) _ _ _ (λ why. e)
    (λ p. from-form steps 0 s e)
