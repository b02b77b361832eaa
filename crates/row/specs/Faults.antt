-- By form of a box's words but for its records, field by field in the image's order. The rule over
-- last, first and the count is judged at the count.
use Rattle.std.specs.Prelude.{ℕ, List, [], ◌∷◌, leb, get_or}
use Rattle.rules.specs.Sizes.{most_number, most_pn, record_form}
use Rattle.rules.specs.Sets.{set_form}
use Rattle.rules.specs.Form.{first_form, peer_form}
use Rattle.values.specs.Counts.{held_count}
use Rattle.values.specs.Faults.{Test, test, fault_then}
use Rattle.std.specs.Prelude.{Option, None}
use Rattle.values.specs.declared.Field.{Field}
use Rattle.row.specs.Row.{head_of, most_state, most_phase}
use Rattle.row.specs.Row.{flag_at, state_at, phase_at, pn_at, last_at, first_at, stored_pn_at}
use Rattle.row.specs.Row.{stored_number_at, best_pn_at, best_number_at, answered_at, accepts_at}
use Rattle.row.specs.Row.{heard_at, best_at, waiting_at, agreeing_at, count_at}

-- numbers, the numbers of states and phases among them
abbrev pub number_tests : List ℕ → List Test
number_tests w =
    test Field.Flag (leb (get_or w flag_at 0) 1)
    ∷ test Field.State (leb (get_or w state_at 0) most_state)
    ∷ test Field.Phase (leb (get_or w phase_at 0) most_phase)
    ∷ test Field.Pn (leb (get_or w pn_at 0) most_pn)
    ∷ test Field.Last (leb (get_or w last_at 0) most_number)
    ∷ test Field.First (first_form (get_or w first_at 0) (get_or w last_at 0))
    ∷ test Field.StoredPn (leb (get_or w stored_pn_at 0) most_pn)
    ∷ test Field.StoredNumber (leb (get_or w stored_number_at 0) most_number)
    ∷ test Field.BestPn (leb (get_or w best_pn_at 0) most_pn)
    ∷ test Field.BestNumber (leb (get_or w best_number_at 0) most_number)
    ∷ []

-- sets and records
abbrev pub value_tests : ℕ → List ℕ → List Test
value_tests n w =
    test Field.Answered (set_form n (get_or w answered_at 0))
    ∷ test Field.Accepts (set_form n (get_or w accepts_at 0))
    ∷ test Field.Heard (set_form n (get_or w heard_at 0))
    ∷ test Field.Best (record_form (get_or w best_at 0))
    ∷ test Field.Waiting (record_form (get_or w waiting_at 0))
    ∷ test Field.Agreeing (record_form (get_or w agreeing_at 0))
    ∷ []

abbrev pub peer_tests : ℕ → ℕ → List ℕ → List Test
peer_tests n b w =
    test (Field.Peer 1) (peer_form n b (head_of n w).peers 1)
    ∷ test (Field.Peer 2) (peer_form n b (head_of n w).peers 2)
    ∷ test (Field.Peer 3) (peer_form n b (head_of n w).peers 3)
    ∷ test (Field.Peer 4) (peer_form n b (head_of n w).peers 4)
    ∷ test (Field.Peer 5) (peer_form n b (head_of n w).peers 5)
    ∷ []

abbrev pub count_test : ℕ → List ℕ → List Test
count_test J w =
    test Field.Count (held_count J (get_or w first_at 0) (get_or w last_at 0) (get_or w count_at 0))
    ∷ []

-- the first of a box's words that is not by form
unfoldable pub head_fault : ℕ → ℕ → ℕ → List ℕ → Option Field
head_fault n J b w =
    fault_then (number_tests w)
    (fault_then (value_tests n w)
    (fault_then (peer_tests n b w)
    (fault_then (count_test J w)
    None)))
