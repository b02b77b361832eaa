-- By form of a letter's words but for its records, field by field in the image's order: kind, pn,
-- last, first, unagreed pn, count. A rule over two fields is judged at the later one.
use Rattle.std.specs.Prelude.{ℕ, Bool, ◌&&◌, ◌||◌, List, [], ◌∷◌, leb, ltb, eqb, get_or}
use Rattle.rules.specs.Sizes.{most_number, most_pn, within}
use Rattle.rules.specs.Form.{first_form}
use Rattle.rules.specs.declared.model.Kind.{Kind}
use Rattle.values.specs.Counts.{agreed_count, full_count, held_count}
use Rattle.values.specs.Faults.{test, fault_then}
use Rattle.std.specs.Prelude.{Option, None}
use Rattle.values.specs.declared.Field.{Field}
use Rattle.letter.specs.Place.{kind_of, most_kind}
use Rattle.letter.specs.Place.{kind_at, pn_at, last_at, first_at, unagreed_at, count_at}

-- "pn (0 in Lease)", and in LeaseAck (Q-12)
abbrev pub pn_fits : Kind → ℕ → Bool
pn_fits Kind.Collect pn = leb pn most_pn
pn_fits Kind.Last pn = leb pn most_pn
pn_fits Kind.Begin pn = leb pn most_pn
pn_fits Kind.Accept pn = leb pn most_pn
pn_fits Kind.Commit pn = leb pn most_pn
pn_fits Kind.Lease pn = eqb pn 0
pn_fits Kind.LeaseAck pn = eqb pn 0

-- "run to 1,000,000,000 (Begin's last below it)" (Q-4)
abbrev pub last_fits : Kind → ℕ → Bool
last_fits Kind.Collect last = leb last most_number
last_fits Kind.Last last = leb last most_number
last_fits Kind.Begin last = ltb last most_number
last_fits Kind.Accept last = leb last most_number
last_fits Kind.Commit last = leb last most_number
last_fits Kind.Lease last = leb last most_number
last_fits Kind.LeaseAck last = leb last most_number

-- "Last, Commit and Begin carry the sender's first, under the same form" (Q-4)
abbrev pub first_fits : Kind → ℕ → ℕ → Bool
first_fits Kind.Collect first last = eqb first 0
first_fits Kind.Last first last = first_form first last
first_fits Kind.Begin first last = first_form first last
first_fits Kind.Accept first last = eqb first 0
first_fits Kind.Commit first last = first_form first last
first_fits Kind.Lease first last = eqb first 0
first_fits Kind.LeaseAck first last = eqb first 0

-- "unagreed pn is 0 except in a Last .."
abbrev pub unagreed_fits : Kind → ℕ → Bool
unagreed_fits Kind.Collect unagreed = eqb unagreed 0
unagreed_fits Kind.Last unagreed = leb unagreed most_pn
unagreed_fits Kind.Begin unagreed = eqb unagreed 0
unagreed_fits Kind.Accept unagreed = eqb unagreed 0
unagreed_fits Kind.Commit unagreed = eqb unagreed 0
unagreed_fits Kind.Lease unagreed = eqb unagreed 0
unagreed_fits Kind.LeaseAck unagreed = eqb unagreed 0

-- ".. with last+1 records"; "Last holds last or last+1 records (at most J), Commit holds last,
-- Begin one .., the rest none"; "from [first] on" (Q-4)
abbrev pub count_fits : Kind → ℕ → ℕ → ℕ → ℕ → ℕ → Bool
count_fits Kind.Collect J first last unagreed count = eqb count 0
count_fits Kind.Last J first last unagreed count =
    held_count J first last count && (eqb unagreed 0 || full_count J first last count)
count_fits Kind.Begin J first last unagreed count = eqb count 1 && leb count J
count_fits Kind.Accept J first last unagreed count = eqb count 0
count_fits Kind.Commit J first last unagreed count = agreed_count J first last count
count_fits Kind.Lease J first last unagreed count = eqb count 0
count_fits Kind.LeaseAck J first last unagreed count = eqb count 0

-- the first of a letter's words that is not by form
unfoldable pub head_fault : ℕ → List ℕ → Option Field
head_fault J w =
    fault_then
    (test Field.Kind (within 1 most_kind (get_or w kind_at 0))
    ∷ test Field.Pn (pn_fits (kind_of (get_or w kind_at 0)) (get_or w pn_at 0))
    ∷ test Field.Last (last_fits (kind_of (get_or w kind_at 0)) (get_or w last_at 0))
    ∷ test Field.First
    (first_fits (kind_of (get_or w kind_at 0)) (get_or w first_at 0) (get_or w last_at 0))
    ∷ test Field.Unagreed (unagreed_fits (kind_of (get_or w kind_at 0)) (get_or w unagreed_at 0))
    ∷ test Field.Count
    (count_fits (kind_of (get_or w kind_at 0)) J (get_or w first_at 0) (get_or w last_at 0)
    (get_or w unagreed_at 0) (get_or w count_at 0))
    ∷ [])
    None
