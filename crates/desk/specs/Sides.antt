-- One side of the pairing desk (Q-13): words that each hold a waiting frame or are a free place.
use Rattle.std.specs.Prelude.{◌≡◌, ℕ, ◌+◌, Bool, not, List, [], ◌∷◌, map, length, ◌==◌, nat_lt}
use Rattle.std.specs.Prelude.{slice_index, slice_set}
use Rattle.rules.specs.Pick.{pick}
use Rattle.rules.specs.Sizes.{record_of, left_of, right_of}
use Rattle.std.specs.Prelude.{⊤, Result, Ok, Err}
use Rattle.desk.specs.declared.answers.Why.{Why}

-- "frame number and a 32-bit shutter tick": a word is frame × 4,294,967,296 + tick, as a record is
-- left and right. Frame 0 is a free place, whatever its tick.
abbrev pub frame_of : ℕ → ℕ
frame_of w = left_of w

abbrev pub tick_of : ℕ → ℕ
tick_of w = right_of w

-- the first place with frame f; how many places there are, where none has it
unfoldable pub place_of : ℕ → List ℕ → ℕ
place_of f [] = 0
place_of f (w ∷ ws) = pick (frame_of w == f) 0 (place_of f ws + 1)

-- frame f stands at a place; frame 0: a place is free
abbrev pub stands : ℕ → List ℕ → Bool
stands f ws = nat_lt (place_of f ws) (length ws)

-- its tick: where foreign words have a number twice, that of the first place
abbrev pub tick_in : ℕ → List ℕ → ℕ
tick_in f ws = tick_of (slice_index ws (place_of f ws))

-- without frame f: where foreign words have a number twice, both places are free
abbrev pub unless : ℕ → ℕ → ℕ
unless f w = pick (frame_of w == f) 0 w

unfoldable pub without : ℕ → List ℕ → List ℕ
without f ws = map (unless f) ws

-- ---- what is done on a side: the answer, and the side after it

pub record Outcome : Type 0 where
  pub answer : Result ⊤ Why
  pub next : List ℕ

abbrev pub refused : Why → List ℕ → Outcome
refused why ws = record { answer = Err why; next = ws }

abbrev pub done : List ℕ → Outcome
done ws = record { answer = Ok tt; next = ws }

-- "19 if that side already waits with this number; 20 if that side is full"; else the frame stands
-- at the first free place
unfoldable pub give_in : ℕ → ℕ → List ℕ → Outcome
give_in f t ws =
    pick (stands f ws) (refused Why.Waits ws)
    (pick (not (stands 0 ws)) (refused Why.Full ws)
    (done (slice_set ws (place_of 0 ws) (record_of f t))))

-- "23 if the named frame does not wait"
unfoldable pub withdraw_from : ℕ → List ℕ → Outcome
withdraw_from f ws =
    pick (not (stands f ws)) (refused Why.Away ws) (done (without f ws))

-- ws' and r are what o says
pub record SideIs (o : Outcome) (ws' : List ℕ) (r : Result ⊤ Why) : Type 0 where
  pub answer : r ≡ o.answer
  pub words : ws' ≡ o.next
