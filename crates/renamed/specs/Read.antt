-- A line under either names: what it says, and its text. The numbers are read as in our traces.
use Rattle.std.specs.Prelude.{ℕ, Bool, List, ◌++◌, ltb, length, drop}
use Rattle.rules.specs.Pick.{pick}
use Rattle.lines.specs.Read.{numbers_of, line_of}
use Rattle.lines.specs.Printed.{line_word, line_numbers, parted}
use Rattle.lines.specs.declared.Line.{Line}
use Rattle.lines.specs.declared.Word.{Word}
use Rattle.renamed.specs.Names.{name_bytes, is_named, word_in}
use Rattle.renamed.specs.declared.names.Names.{Names}
use Rattle.renamed.specs.declared.names.Found.{Found}

-- "lines of at most 64 bytes before the newline that ends each": the name and the word's numbers
unfoldable pub read_in : Names → List ℕ → Line
read_in n s =
    pick (ltb 64 (length s)) Line.Unreadable
    (line_of (word_in n s) (numbers_of (drop (length (name_bytes n (word_in n s))) s)))

-- "one line for one line, with the same arguments": the same line under these names
unfoldable pub printed_in : Names → Line → List ℕ
printed_in n l = name_bytes n (line_word l) ++ parted (line_numbers l)

-- the line has a name there
abbrev pub has_name : Names → Line → Bool
has_name n l = is_named (name_bytes n (line_word l))

-- a word, and how long its name is here and there
abbrev pub found_by : Names → Names → Word → Found
found_by from to w = record {
  word = w;
  cut = length (name_bytes from w);
  put = length (name_bytes to w);
}
