-- What is answered to a whole trace, and what becomes of the lent buffer: "Refusals: 11, 18 (no
-- published name), 12", over the whole trace in this order.
use Rattle.std.specs.Prelude.{ℕ, ◌≡◌, List, Result, Ok, Err, leb, length}
use Rattle.std.proofs.lemmas.List.Edits.{sets}
use Rattle.rules.specs.Pick.{pick}
use Rattle.rules.specs.Every.{each}
use Rattle.lines.specs.declared.Line.{Line}
use Rattle.renamed.specs.Read.{has_name}
use Rattle.renamed.specs.Trace.{lines_in, is_trace, text_in}
use Rattle.renamed.specs.declared.text.Refused.{Refused}
use Rattle.renamed.specs.declared.names.Names.{Names}

-- the lines ls, behind k others, under the names `to`, where there is room for so many bytes
unfoldable pub answer_of : Names → ℕ → ℕ → List Line → Result ℕ Refused
answer_of to k room ls =
    pick (is_trace k ls)
    (pick (each (has_name to) ls)
    (pick (leb (length (text_in to ls)) room) (Ok (length (text_in to ls)))
    (Err Refused.Short))
    (Err Refused.Unnamed))
    (Err Refused.Unreadable)

abbrev pub answer_number : Result ℕ Refused → ℕ
answer_number (Ok n) = 0
answer_number (Err Refused.Unreadable) = 11
answer_number (Err Refused.Unnamed) = 18
answer_number (Err Refused.Short) = 12

-- "A refusal returns its number and nothing else; .. lent buffers stay."
abbrev pub buffer_after : Result ℕ Refused → List ℕ → List ℕ → List ℕ
buffer_after (Ok n) o text = sets o 0 text
buffer_after (Err Refused.Unreadable) o text = o
buffer_after (Err Refused.Unnamed) o text = o
buffer_after (Err Refused.Short) o text = o

-- s, whose lines stand behind k others under the names `from`, goes into the buffer o
pub record Translated (from to : Names) (k : ℕ) (s o o' : List ℕ)
    (r : Result ℕ Refused) : Type 0 where
  pub answer : r ≡ answer_of to k (length o) (lines_in from s)
  pub buffer : o' ≡ buffer_after r o (text_in to (lines_in from s))
