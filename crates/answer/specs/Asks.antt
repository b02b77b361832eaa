-- What a line asks: an image in hex, one space, and a call or a holds line of a trace, or `run` and
-- a number of steps (Q-9), or `find`, a box and a left frame (Q-5).
use Rattle.std.specs.Prelude.{ℕ, ◌+◌, ◌≤◌, ◌<◌, ◌≡◌, true, ◌||◌, List, ◌∷◌, ◌++◌, ltb, length, take}
use Rattle.std.specs.Prelude.{drop, Option, Some, None, Result, Ok, Err}
use Rattle.scan.specs.Bytes.{index_of}
use Rattle.rules.specs.Pick.{pick}
use Rattle.hexed.specs.Hex.{hex_of, smalls, Bytes}
use Rattle.hexed.specs.declared.HexError.{HexError}
use Rattle.print.specs.Bytes.{bytes}
use Rattle.lines.specs.Read.{read_line, read_one}
use Rattle.lines.specs.declared.Line.{Line}
use Rattle.answer.specs.declared.ask.Asked.{Asked}
use Rattle.answer.specs.declared.reply.Ask.{Ask}
use Rattle.answer.specs.Replies.{served}

-- a run, else what other asks
abbrev pub run_read : Option ℕ → Ask → Ask
run_read (Some steps) other = Ask.Run steps
run_read None other = other

-- two numbers, or nothing that can be read
abbrev pub find_at : ℕ → Option ℕ → Ask
find_at c (Some left) = Ask.Find c left
find_at c None = Ask.Line Line.Unreadable

abbrev pub find_of : Option ℕ → Option ℕ → Ask
find_of (Some c) left = find_at c left
find_of None left = Ask.Line Line.Unreadable

-- where the first space behind the word `find` and its own stands, or the text's end
abbrev pub second_space : List ℕ → ℕ
second_space t = 5 + index_of 32 (drop 5 t)

-- "`find c left`" (Q-5): the word and a number, then a space and a number, by the rules of a trace;
-- the word has 5 bytes with its space, and no line more than 64
unfoldable pub find_read : List ℕ → Ask
find_read t =
    pick (ltb (length t) 5 || ltb 64 (length t)) (Ask.Line Line.Unreadable)
    (find_of (read_one (bytes "find ") (take (second_space t) t))
    (read_one (bytes " ") (drop (second_space t) t)))

-- what the text t asks, where l is the line of a trace that it is read as
abbrev pub ask_read : Line → List ℕ → Ask
ask_read (Line.Site n J L) t = Ask.Line (Line.Site n J L)
ask_read (Line.Call d) t = Ask.Line (Line.Call d)
ask_read (Line.Holds c k left right) t = Ask.Line (Line.Holds c k left right)
ask_read Line.Unreadable t = run_read (read_one (bytes "run ") t) (find_read t)

abbrev pub ask_of : List ℕ → Ask
ask_of t = ask_read (read_line t) t

-- the line asks l of the image im
pub record Asks (line im : List ℕ) (l : Ask) : Type 0 where
  pub bytes : Bytes im
  pub hex : List ℕ
  pub call : List ℕ
  pub text : line ≡ hex ++ (32 ∷ call)
  pub spells : hex_of im ≡ smalls hex
  pub says : ask_of call ≡ l
  pub served : served l ≡ true

-- it asks nothing of any image: it cannot be read
abbrev pub AsksNothing : List ℕ → Type 0
AsksNothing line = (im : List ℕ) (l : Ask) → Asks line im l → ⊥

-- the image's text is hex, or not
abbrev pub asked_of : Result ℕ HexError → Ask → Asked
asked_of (Ok k) l = Asked.Step k l
asked_of (Err HexError.Long) l = Asked.Long
asked_of (Err HexError.Bad) l = Asked.Unreadable

-- what `ask` finds, and what the buffer o becomes
pub data AskIs (line o : List ℕ) : Asked → List ℕ → Type 0 where
  asks : {im : List ℕ} {l : Ask} → Asks line im l → length im ≤ length o
      → AskIs line o (Asked.Step (length im) l) (im ++ drop (length im) o)
  asks-long : {im : List ℕ} {l : Ask} → Asks line im l → length o < length im
      → AskIs line o Asked.Long o
  asks_nothing : AsksNothing line → AskIs line o Asked.Unreadable o
