-- The pairing desk (Q-13): both sides in lent words, and what its calls answer.
use Rattle.std.specs.Prelude.{ℕ, not, List, length, ◌==◌, nat_lt}
use Rattle.rules.specs.Pick.{pick}
use Rattle.rules.specs.Numbers.{refusal_number}
use Rattle.words.specs.Rows.{part, splice}
use Rattle.desk.specs.Sides.{Outcome, refused, frame_of, stands, tick_in, give_in, withdraw_from}
use Rattle.desk.specs.Near.{nearest_of}
use Rattle.std.specs.Prelude.{Result, Ok, Err}
use Rattle.desk.specs.declared.answers.Side.{Side}
use Rattle.desk.specs.declared.answers.Why.{Why}

-- "up to 32 left and 32 right frames": the left ones first. Any 64 words are a desk.
abbrev pub places : ℕ
places = 32

abbrev pub desk_words : ℕ
desk_words = 64

abbrev pub side_at : Side → ℕ
side_at Side.Left = 0
side_at Side.Right = places

abbrev pub side_of : Side → List ℕ → List ℕ
side_of s ws = part ws (side_at s) places

-- what is done on one side; the words past it stay
abbrev pub on_side : Side → (List ℕ → Outcome) → List ℕ → Outcome
on_side s does ws = record {
  answer = (does (side_of s ws)).answer;
  next = splice ws (side_at s) places (does (side_of s ws)).next;
}

-- 12 where there are fewer words than a desk has, then "10 for frame 0"
abbrev pub named : ℕ → (List ℕ → Outcome) → List ℕ → Outcome
named f does ws =
    pick (nat_lt (length ws) desk_words) (refused Why.Words ws)
    (pick (f == 0) (refused Why.Frame ws) (does ws))

-- giving in a frame, by side
unfoldable pub given : Side → ℕ → ℕ → List ℕ → Outcome
given s f t ws = named f (on_side s (give_in f t)) ws

-- "A waiting frame can be withdrawn by side and number."
unfoldable pub withdrawn : Side → ℕ → List ℕ → Outcome
withdrawn s f ws = named f (on_side s (withdraw_from f)) ws

-- "21 exactly when no waiting right frame is near enough"
unfoldable pub right_by : ℕ → Result ℕ Why
right_by w = pick (w == 0) (Err Why.Far) (Ok (frame_of w))

-- "The desk's pair call names a waiting left frame, which is paired with the waiting right frame of
-- smallest difference": "10, then 23 if the named frame does not wait; 21 ..". The right frame
unfoldable pub chosen_of : ℕ → List ℕ → Result ℕ Why
chosen_of f ws =
    pick (nat_lt (length ws) desk_words) (Err Why.Words)
    (pick (f == 0) (Err Why.Frame)
    (pick (not (stands f (side_of Side.Left ws))) (Err Why.Away)
    (right_by (nearest_of (tick_in f (side_of Side.Left ws)) (side_of Side.Right ws)))))

-- the pair has left the desk
unfoldable pub leaves : ℕ → ℕ → List ℕ → List ℕ
leaves f g ws =
    (on_side Side.Right (withdraw_from g) (on_side Side.Left (withdraw_from f) ws).next).next

-- ---- the paper's numbers

abbrev pub why_number : Why → ℕ
why_number Why.Words = 12
why_number Why.Frame = 10
why_number Why.Waits = 19
why_number Why.Full = 20
why_number Why.Away = 23
why_number Why.Far = 21
why_number (Why.Engine why) = refusal_number why

-- 0, or the refusal's number
abbrev pub number_of : {T : Type 0} → Result T Why → ℕ
number_of (Ok value) = 0
number_of (Err why) = why_number why
