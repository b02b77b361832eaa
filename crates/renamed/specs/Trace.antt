-- A whole trace under either names: its lines, whether they are a trace, and its text.
use Rattle.std.specs.Prelude.{ℕ, ◌+◌, Bool, true, ◌&&◌, List, [], ◌∷◌, ◌++◌, eqb, ltb, length}
use Rattle.rules.specs.Pick.{pick}
use Rattle.lines.specs.declared.Line.{Line}
use Rattle.trace.specs.Replay.{most_lines}
use Rattle.trace.specs.Stops.{opens, plays}
use Rattle.renamed.specs.Read.{read_in, printed_in}
use Rattle.renamed.specs.declared.names.Names.{Names}

-- the lines of s, the bytes l of the first already seen: a newline, 10, ends each; what none ends
-- is unreadable
unfoldable pub lines_from : Names → List ℕ → List ℕ → List Line
lines_from n l [] = pick (eqb (length l) 0) [] (Line.Unreadable ∷ [])
lines_from n l (b ∷ s) =
    pick (eqb b 10) (read_in n l ∷ lines_from n [] s) (lines_from n (l ++ (b ∷ [])) s)

abbrev pub lines_in : Names → List ℕ → List Line
lines_in n s = lines_from n [] s

-- l can stand behind k lines: "First `site n J L` .., once; then .."; "Any other line first, a
-- second site line, .. or a line after the 4,294,967,295th is unreadable"
abbrev pub fits : ℕ → Line → Bool
fits k l = pick (eqb k 0) (opens l) (plays l) && ltb k most_lines

-- these lines, behind k others, are a trace, which no line is before the first
unfoldable pub is_trace : ℕ → List Line → Bool
is_trace k [] = true
is_trace k (l ∷ ls) = fits k l && is_trace (k + 1) ls

-- the text of these lines
unfoldable pub text_in : Names → List Line → List ℕ
text_in n [] = []
text_in n (l ∷ ls) = printed_in n l ++ (10 ∷ text_in n ls)
