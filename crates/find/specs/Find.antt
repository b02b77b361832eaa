-- "Which load has this frame?" (Q-5): the answer of a box of a site, by a full reading of the
-- agreed records that it keeps.
use Rattle.std.specs.Prelude.{ℕ, not, List, [], ◌∷◌, eqb}
use Rattle.index.specs.Index.{first_with}
use Rattle.rules.specs.Box.{Box}
use Rattle.rules.specs.Needs.{need, ruled}
use Rattle.rules.specs.Pick.{pick}
use Rattle.rules.specs.Site.{Site}
use Rattle.rules.specs.Step.{at_box}
use Rattle.rules.specs.declared.model.Refusal.{Refusal}
use Rattle.memory.specs.Memory.{site_of, memory_form}
use Rattle.agreed.specs.Agreed.{agreed_records}
use Rattle.std.specs.Prelude.{Option, Some, None, Result, Ok, Err}

-- load numbers begin at 1, and 0 says that there is none
unfoldable pub found_as : ℕ → Option ℕ
found_as k = pick (eqb k 0) None (Some k)

-- "the smallest kept agreed number with that left frame, or none"
abbrev pub found_in : Box → ℕ → Result (Option ℕ) Refusal
found_in x left = Ok (found_as (first_with left x.head.kept.first (agreed_records x)))

-- "Refusals: 1, 2, then 10 for frame 0. Absent boxes and both parities are allowed"
unfoldable pub find : Site → ℕ → ℕ → Result (Option ℕ) Refusal
find s c left =
    ruled Err
    (at_box s c
    (need Refusal.Frame (not (eqb left 0))
    ∷ []))
    (found_in (s.box c) left)

-- of words: 1 first, for those that are not by form
unfoldable pub find_on : List ℕ → List ℕ → ℕ → ℕ → Result (Option ℕ) Refusal
find_on xs ls c left =
    pick (memory_form xs ls) (find (site_of xs ls) c left) (Err Refusal.Form)
