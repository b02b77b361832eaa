-- The printed form of a line: its word, and its numbers in decimal, parted by one space. The reader
-- takes exactly the printed forms (proofs/Exact.antt).
use Rattle.std.specs.Prelude.{ℕ, Bool, true, false, List, [], ◌∷◌, ◌++◌, ltb}
use Rattle.rules.specs.Every.{each}
use Rattle.rules.specs.declared.model.Call.{Call}
use Rattle.print.specs.Decimal.{decimal, spaced}
use Rattle.lines.specs.Table.{word_bytes}
use Rattle.lines.specs.declared.Line.{Line}
use Rattle.lines.specs.declared.Word.{Word}

abbrev pub call_word : Call → Word
call_word (Call.Elect c) = Word.Elect
call_word (Call.Recover c) = Word.Recover
call_word (Call.Collect c) = Word.Collect
call_word (Call.Ready c) = Word.Ready
call_word (Call.Offer c left right) = Word.Offer
call_word (Call.Propose c) = Word.Propose
call_word (Call.Agree c) = Word.Agree
call_word (Call.Finish c) = Word.Finish
call_word (Call.Heard c) = Word.Heard
call_word (Call.Trim c k) = Word.Trim
call_word (Call.Stop c) = Word.Stop
call_word (Call.Return c) = Word.Return
call_word (Call.Timeout c) = Word.Timeout
call_word (Call.Lose a b) = Word.Lose
call_word (Call.Repeat a b) = Word.Repeat
call_word (Call.Deliver a b) = Word.Mail

abbrev pub call_numbers : Call → List ℕ
call_numbers (Call.Elect c) = c ∷ []
call_numbers (Call.Recover c) = c ∷ []
call_numbers (Call.Collect c) = c ∷ []
call_numbers (Call.Ready c) = c ∷ []
call_numbers (Call.Offer c left right) = c ∷ left ∷ right ∷ []
call_numbers (Call.Propose c) = c ∷ []
call_numbers (Call.Agree c) = c ∷ []
call_numbers (Call.Finish c) = c ∷ []
call_numbers (Call.Heard c) = c ∷ []
call_numbers (Call.Trim c k) = c ∷ k ∷ []
call_numbers (Call.Stop c) = c ∷ []
call_numbers (Call.Return c) = c ∷ []
call_numbers (Call.Timeout c) = c ∷ []
call_numbers (Call.Lose a b) = a ∷ b ∷ []
call_numbers (Call.Repeat a b) = a ∷ b ∷ []
call_numbers (Call.Deliver a b) = a ∷ b ∷ []

abbrev pub line_word : Line → Word
line_word (Line.Site n j l) = Word.Site
line_word (Line.Call c) = call_word c
line_word (Line.Holds c k left right) = Word.Holds
line_word Line.Unreadable = Word.Other

abbrev pub line_numbers : Line → List ℕ
line_numbers (Line.Site n j l) = n ∷ j ∷ l ∷ []
line_numbers (Line.Call c) = call_numbers c
line_numbers (Line.Holds c k left right) = c ∷ k ∷ left ∷ right ∷ []
line_numbers Line.Unreadable = []

-- numbers parted by one space
abbrev pub parted : List ℕ → List ℕ
parted [] = []
parted (x ∷ xs) = decimal x ++ spaced xs

abbrev pub line_bytes : Line → List ℕ
line_bytes l = word_bytes (line_word l) ++ parted (line_numbers l)

abbrev pub readable : Line → Bool
readable (Line.Site n j l) = true
readable (Line.Call c) = true
readable (Line.Holds c k left right) = true
readable Line.Unreadable = false

-- "at most 4,294,967,295"
abbrev pub in_range : Line → Bool
in_range l = each (λ x. ltb x 4294967296) (line_numbers l)
