-- What a line says: a word at its start, and then the word's numbers, parted by one space.
use Rattle.std.specs.Prelude.{ℕ, ◌+◌, ◌-◌, ◌*◌, Bool, true, false, not, ◌&&◌, ◌||◌, List, [], ◌∷◌}
use Rattle.std.specs.Prelude.{Option, Some, None, ltb, eqb, length, drop}
use Rattle.rules.specs.Pick.{pick}
use Rattle.rules.specs.declared.model.Call.{Call}
use Rattle.lines.specs.Table.{word_bytes, arity_of, starts, word_of}
use Rattle.lines.specs.declared.Line.{Line}
use Rattle.lines.specs.declared.Numbers.{Numbers}
use Rattle.lines.specs.declared.Word.{Word}

-- no number yet
abbrev pub no_numbers : Numbers
no_numbers = record {
  bad = false;
  begun = false;
  value = 0;
  count = 0;
  a = 0;
  b = 0;
  c = 0;
  d = 0;
}

-- the byte b goes on with a decimal of value v, which has begun or not: a digit, no zero in front,
-- at most 4,294,967,295
unfoldable pub grown : Bool → ℕ → ℕ → Option ℕ
grown begun v b =
    pick (ltb b 48) None
    (pick (ltb 57 b) None
    (pick (begun && eqb v 0) None
    (pick (ltb 4294967295 (v * 10 + (b - 48))) None
    (Some (v * 10 + (b - 48))))))

abbrev pub with_grown : Numbers → Option ℕ → Numbers
with_grown n (Some v) = record {
  bad = n.bad;
  begun = true;
  value = v;
  count = n.count;
  a = n.a;
  b = n.b;
  c = n.c;
  d = n.d;
}
with_grown n None = record {
  bad = true;
  begun = true;
  value = 0;
  count = n.count;
  a = n.a;
  b = n.b;
  c = n.c;
  d = n.d;
}

-- after a space, and at the end: the number that has begun is finished, at most the fourth
unfoldable pub finished : Numbers → Numbers
finished n = record {
  bad = n.bad || not (n.begun && ltb n.count 4);
  begun = false;
  value = 0;
  count = pick (ltb n.count 4) (n.count + 1) n.count;
  a = n.b;
  b = n.c;
  c = n.d;
  d = n.value;
}

-- after one byte
unfoldable pub byte_read : Numbers → ℕ → Numbers
byte_read n b = pick (eqb b 32) (finished n) (with_grown n (grown n.begun n.value b))

unfoldable pub bytes_read : Numbers → List ℕ → Numbers
bytes_read n [] = n
bytes_read n (b ∷ s) = bytes_read (byte_read n b) s

-- the numbers that s is
abbrev pub numbers_of : List ℕ → Numbers
numbers_of s = finished (bytes_read no_numbers s)

-- a word with its numbers; mail is the call Deliver
abbrev pub line_with : Word → Numbers → Line
line_with Word.Site n = Line.Site n.b n.c n.d
line_with Word.Elect n = Line.Call (Call.Elect n.d)
line_with Word.Recover n = Line.Call (Call.Recover n.d)
line_with Word.Collect n = Line.Call (Call.Collect n.d)
line_with Word.Ready n = Line.Call (Call.Ready n.d)
line_with Word.Offer n = Line.Call (Call.Offer n.b n.c n.d)
line_with Word.Propose n = Line.Call (Call.Propose n.d)
line_with Word.Agree n = Line.Call (Call.Agree n.d)
line_with Word.Finish n = Line.Call (Call.Finish n.d)
line_with Word.Heard n = Line.Call (Call.Heard n.d)
line_with Word.Trim n = Line.Call (Call.Trim n.c n.d)
line_with Word.Stop n = Line.Call (Call.Stop n.d)
line_with Word.Return n = Line.Call (Call.Return n.d)
line_with Word.Timeout n = Line.Call (Call.Timeout n.d)
line_with Word.Lose n = Line.Call (Call.Lose n.c n.d)
line_with Word.Repeat n = Line.Call (Call.Repeat n.c n.d)
line_with Word.Mail n = Line.Call (Call.Deliver n.c n.d)
line_with Word.Holds n = Line.Holds n.a n.b n.c n.d
line_with Word.Other n = Line.Unreadable

-- proper numbers, and as many as the word has
unfoldable pub line_of : Word → Numbers → Line
line_of w n = pick (n.bad || not (eqb n.count (arity_of w))) Line.Unreadable (line_with w n)

-- "lines of at most 64 bytes before the newline that ends each"
unfoldable pub read_line : List ℕ → Line
read_line s =
    pick (ltb 64 (length s)) Line.Unreadable
    (line_of (word_of s) (numbers_of (drop (length (word_bytes (word_of s))) s)))

-- one proper number
unfoldable pub one_of : Numbers → Option ℕ
one_of n = pick (n.bad || not (eqb n.count 1)) None (Some n.d)

-- the one number after a word w that no trace has, by the same rules
unfoldable pub read_one : List ℕ → List ℕ → Option ℕ
read_one w s =
    pick (ltb 64 (length s) || not (starts w s)) None
    (one_of (numbers_of (drop (length w) s)))
