-- "Replay": the paper's worked trace, line by line.
use Rattle.std.specs.Prelude.{ℕ, List, [], ◌∷◌, ◌++◌}
use Prim.Native.String.{String}
use Rattle.print.specs.Bytes.{bytes}

-- lines, each with its newline
abbrev pub typed : List String → List ℕ
typed [] = []
typed (l ∷ ls) = bytes l ++ (10 ∷ typed ls)

-- "Input lines: .."
abbrev pub input : List String
input =
    "site 2 16 8" ∷ "elect 1" ∷ "recover 1" ∷ "collect 1" ∷ "mail 1 2" ∷ "mail 2 1" ∷ "ready 1"
    ∷ "offer 1 71 72" ∷ "propose 1" ∷ "mail 1 2" ∷ "mail 1 2" ∷ "mail 2 1" ∷ "agree 1"
    ∷ "mail 1 2" ∷ "holds 2 1 71 72" ∷ "mail 1 2" ∷ []

-- "Whole output: `1 1 0 0`; then `k 2 0 0` for k = 2 to 12; .."; "01's replay now ends in `13
-- refused 3`" (Q-12): what line 12 hands over is the LeaseAck, and the accept is still on its way
abbrev pub output : List String
output =
    "1 1 0 0" ∷ "2 2 0 0" ∷ "3 2 0 0" ∷ "4 2 0 0" ∷ "5 2 0 0" ∷ "6 2 0 0" ∷ "7 2 0 0" ∷ "8 2 0 0"
    ∷ "9 2 0 0" ∷ "10 2 0 0" ∷ "11 2 0 0" ∷ "12 2 0 0" ∷ "13 refused 3" ∷ []
