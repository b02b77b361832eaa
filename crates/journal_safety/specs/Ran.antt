-- What is said by a run: each step that it does, with its answer. A step that is refused stops it,
-- and a run that is refused does none.
use Rattle.std.specs.Prelude.{ℕ, zero, suc, cond, List, ◌∷◌}
use Rattle.rules.specs.Sizes.{even}
use Rattle.rules.specs.Site.{Site}
use Rattle.rules.specs.Step.{step}
use Rattle.rules.specs.declared.model.Answer.{Answer}
use Rattle.rules.specs.declared.model.Call.{Call}
use Rattle.wait.specs.Run.{next_turn}
use Rattle.std.specs.Prelude.{Option, Some, None}
use Rattle.said.specs.Said.{Said, called}

-- the call d of a run on s, after h was said; `more` is what the run says from the next site on
unfoldable pub said_of : {A : Type 0} → (Answer → A) → (Site → List (Said A) → List (Said A)) → Site
    → List (Said A) → Call → Answer → List (Said A)
said_of f more s h d Answer.Done = more (step s d).next (called d (f Answer.Done) ∷ h)
said_of f more s h d Answer.Taken = more (step s d).next (called d (f Answer.Taken) ∷ h)
said_of f more s h d (Answer.Discarded why) =
    more (step s d).next (called d (f (Answer.Discarded why)) ∷ h)
said_of f more s h d (Answer.Refused why) = h

unfoldable pub said_next : {A : Type 0} → (Answer → A) → (Site → List (Said A) → List (Said A))
    → Site → List (Said A) → Option Call → List (Said A)
said_next f more s h None = h
said_next f more s h (Some d) = said_of f more s h d (step s d).answer

-- with so many steps left
unfoldable pub said_from : {A : Type 0} → (Answer → A) → ℕ → Site → List (Said A) → List (Said A)
said_from f zero s h = h
said_from f (suc left) s h = said_next f (said_from f left) s h (next_turn s)

-- a run of at most so many steps on a site by form
unfoldable pub said_run : {A : Type 0} → (Answer → A) → ℕ → Site → List (Said A) → List (Said A)
said_run f steps s h = cond (even s.epoch) (said_from f steps s h) h
