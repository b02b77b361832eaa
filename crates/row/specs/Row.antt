-- A box in words: its fields in the image's order, room for J records, and the index of the agreed
-- ones (Q-5).
use Rattle.std.specs.Prelude.{ℕ, zero, suc, ◌+◌, Bool, cond, List, [], ◌∷◌, leb, eqb, take, get_or}
use Rattle.words.specs.Rows.{part}
use Rattle.index.specs.Index.{nexts_at, index_form}
use Rattle.rules.specs.Every.{all}
use Rattle.rules.specs.Sizes.{unknown}
use Rattle.rules.specs.Parts.{span}
use Rattle.rules.specs.Numbers.{flag_number, state_number, phase_number}
use Rattle.rules.specs.Box.{Box}
use Rattle.rules.specs.Form.{form_box}
use Rattle.rules.specs.declared.model.BoxState.{BoxState}
use Rattle.rules.specs.declared.model.Phase.{Phase}
use Rattle.rules.specs.declared.model.State.{State}

-- ---- where each field stands: "flag, state, phase, pn, last, [first, Q-4], stored pn, stored
-- number, best pn, best number, the set of boxes that answered, accept set, [who heard, Q-12]; then
-- three records (best, waiting, being agreed); .. peers' lasts ..; count of records held"

abbrev pub flag_at : ℕ
flag_at = 0

abbrev pub state_at : ℕ
state_at = 1

abbrev pub phase_at : ℕ
phase_at = 2

abbrev pub pn_at : ℕ
pn_at = 3

abbrev pub last_at : ℕ
last_at = 4

abbrev pub first_at : ℕ
first_at = 5

abbrev pub stored_pn_at : ℕ
stored_pn_at = 6

abbrev pub stored_number_at : ℕ
stored_number_at = 7

abbrev pub best_pn_at : ℕ
best_pn_at = 8

abbrev pub best_number_at : ℕ
best_number_at = 9

abbrev pub answered_at : ℕ
answered_at = 10

abbrev pub accepts_at : ℕ
accepts_at = 11

abbrev pub heard_at : ℕ
heard_at = 12

abbrev pub best_at : ℕ
best_at = 13

abbrev pub waiting_at : ℕ
waiting_at = 14

abbrev pub agreeing_at : ℕ
agreeing_at = 15

-- peer k stands k places behind this
abbrev pub before_peers : ℕ
before_peers = 15

abbrev pub peers_at : ℕ
peers_at = 16

abbrev pub count_at : ℕ
count_at = 21

-- the records stand behind these
abbrev pub head_words : ℕ
head_words = 22

-- "Keep an index beside each box's records" (Q-5): it stands behind the room for J of them
abbrev pub index_at : ℕ → ℕ
index_at J = head_words + J

-- its heads and tails, and a next word for each record
abbrev pub index_width : ℕ → ℕ
index_width J = nexts_at + J

abbrev pub row_width : ℕ → ℕ
row_width J = index_at J + index_width J

-- ---- what they say

-- states 0 to this are by form
abbrev pub most_state : ℕ
most_state = 4

-- phases 0 to this are by form
abbrev pub most_phase : ℕ
most_phase = 6

-- the state that has this number
abbrev pub state_of : ℕ → State
state_of zero = State.Recovering
state_of (suc zero) = State.Active
state_of (suc (suc zero)) = State.Updating
state_of (suc (suc (suc zero))) = State.UpdatingPrevious
state_of (suc (suc (suc (suc x)))) = State.Refresh

-- the phase that has this number
abbrev pub phase_of : ℕ → Phase
phase_of zero = Phase.Election
phase_of (suc zero) = Phase.SendCollect
phase_of (suc (suc zero)) = Phase.Collect
phase_of (suc (suc (suc zero))) = Phase.Lease
phase_of (suc (suc (suc (suc zero)))) = Phase.Begin
phase_of (suc (suc (suc (suc (suc zero))))) = Phase.Commit
phase_of (suc (suc (suc (suc (suc (suc x)))))) = Phase.LeaseDone

abbrev pub flag_of : ℕ → Bool
flag_of x = eqb x 1

-- the last of peer k of n; a number above n is no box's, and its word is not read
abbrev pub peer_of : ℕ → List ℕ → ℕ → ℕ
peer_of n r k = cond (leb k n) (get_or r (before_peers + k) 0) unknown

abbrev pub head_of : ℕ → List ℕ → BoxState
head_of n r = record {
  leads = flag_of (get_or r flag_at 0);
  state = state_of (get_or r state_at 0);
  phase = phase_of (get_or r phase_at 0);
  kept = record {
    pn = get_or r pn_at 0;
    last = get_or r last_at 0;
    first = get_or r first_at 0;
    stored = record { pn = get_or r stored_pn_at 0; number = get_or r stored_number_at 0 };
  };
  best = record {
    pn = get_or r best_pn_at 0;
    number = get_or r best_number_at 0;
    value = get_or r best_at 0;
  };
  answered = get_or r answered_at 0;
  accepts = get_or r accepts_at 0;
  heard = get_or r heard_at 0;
  waiting = get_or r waiting_at 0;
  agreeing = get_or r agreeing_at 0;
  peers = peer_of n r 1 ∷ peer_of n r 2 ∷ peer_of n r 3 ∷ peer_of n r 4 ∷ peer_of n r 5 ∷ [];
}

-- the box that a row holds; what stands after its records is not read
abbrev pub box_of : ℕ → List ℕ → Box
box_of n r = record { head = head_of n r; records = part r head_words (get_or r count_at 0) }

-- the agreed records that it keeps
abbrev pub agreed_of : List ℕ → List ℕ
agreed_of r =
    take (span (get_or r first_at 0) (get_or r last_at 0)) (part r head_words (get_or r count_at 0))

-- the words of its index
abbrev pub index_of : ℕ → List ℕ → List ℕ
index_of J r = part r (index_at J) (index_width J)

-- what the box does not show of its words: flag, state and phase have their numbers, the records
-- have room, and the index is the one of the agreed records (Q-5)
unfoldable pub row_fits : ℕ → List ℕ → Bool
row_fits J r =
    all (leb (get_or r flag_at 0) 1
    ∷ leb (get_or r state_at 0) most_state
    ∷ leb (get_or r phase_at 0) most_phase
    ∷ leb (get_or r count_at 0) J
    ∷ index_form (get_or r first_at 0) (agreed_of r) (index_of J r)
    ∷ [])

-- the row holds box b of n by form
unfoldable pub row_form : ℕ → ℕ → ℕ → List ℕ → Bool
row_form n J b r =
    all (row_fits J r
    ∷ form_box n J b (box_of n r)
    ∷ [])

-- the words of a head with so many records held
abbrev pub words_of : BoxState → ℕ → List ℕ
words_of h count =
    flag_number h.leads ∷ state_number h.state ∷ phase_number h.phase
    ∷ h.kept.pn ∷ h.kept.last ∷ h.kept.first ∷ h.kept.stored.pn ∷ h.kept.stored.number
    ∷ h.best.pn ∷ h.best.number ∷ h.answered ∷ h.accepts ∷ h.heard
    ∷ h.best.value ∷ h.waiting ∷ h.agreeing
    ∷ get_or h.peers 0 0 ∷ get_or h.peers 1 0 ∷ get_or h.peers 2 0 ∷ get_or h.peers 3 0
    ∷ get_or h.peers 4 0 ∷ count ∷ []
