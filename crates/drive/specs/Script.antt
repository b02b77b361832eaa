-- The script: five numbers a question, the first of which says what is asked.
use Rattle.std.specs.Prelude.{ℕ, zero, suc, ◌+◌, ◌*◌, ◌/◌, min, cond, List, [], ◌∷◌, ltb, length}
use Rattle.std.specs.Prelude.{get_or}
use Rattle.rules.specs.declared.model.Call.{Call}
use Rattle.said.specs.Said.{Said, called, held}

-- the calls by their numbers from 0 on, with what they take of three numbers ..
abbrev pub first_calls : ℕ → ℕ → ℕ → List Call
first_calls a b c =
    Call.Elect a
    ∷ Call.Recover a
    ∷ Call.Collect a
    ∷ Call.Ready a
    ∷ Call.Offer a b c
    ∷ Call.Propose a
    ∷ Call.Agree a
    ∷ Call.Finish a
    ∷ Call.Heard a
    ∷ Call.Trim a b
    ∷ Call.Stop a
    ∷ Call.Return a
    ∷ Call.Timeout a
    ∷ Call.Lose a b
    ∷ Call.Repeat a b
    ∷ []

-- .. and then Deliver
unfoldable pub call_of : ℕ → ℕ → ℕ → ℕ → Call
call_of which a b c = get_or (first_calls a b c) which (Call.Deliver a b)

-- 0 to 15 asks for a call, and any other number for the holds line of the four that follow
unfoldable pub asking : ℕ → ℕ → ℕ → ℕ → ℕ → ℕ → Said ℕ
asking which a b c d answer =
    cond (ltb which 16) (called (call_of which a b c) answer) (held a b c d answer)

-- question i of a script, counted from 0, with its answer
abbrev pub said_at : List ℕ → ℕ → ℕ → Said ℕ
said_at script i answer =
    asking (get_or script (i * 5) 0) (get_or script (i * 5 + 1) 0) (get_or script (i * 5 + 2) 0)
    (get_or script (i * 5 + 3) 0) (get_or script (i * 5 + 4) 0) answer

-- the first i questions with their answers, the latest first
unfoldable pub talk_of : List ℕ → List ℕ → ℕ → List (Said ℕ)
talk_of script answers zero = []
talk_of script answers (suc i) =
    said_at script i (get_or answers i 0) ∷ talk_of script answers i

-- as many questions as there are answers for
abbrev pub questions_of : List ℕ → List ℕ → ℕ
questions_of script answers = min (length script / 5) (length answers)
