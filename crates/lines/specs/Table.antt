-- The trace words: "Each trace word is a fixed byte string compared at the start of a line." The
-- space that ends a word belongs to its string.
use Rattle.std.specs.Prelude.{ℕ, Bool, true, false, List, [], ◌∷◌, eqb}
use Rattle.rules.specs.Pick.{pick}
use Rattle.print.specs.Bytes.{bytes}
use Rattle.lines.specs.declared.Word.{Word}

abbrev pub word_bytes : Word → List ℕ
word_bytes Word.Site = bytes "site "
word_bytes Word.Elect = bytes "elect "
word_bytes Word.Recover = bytes "recover "
word_bytes Word.Collect = bytes "collect "
word_bytes Word.Ready = bytes "ready "
word_bytes Word.Offer = bytes "offer "
word_bytes Word.Propose = bytes "propose "
word_bytes Word.Agree = bytes "agree "
word_bytes Word.Finish = bytes "finish "
word_bytes Word.Heard = bytes "heard "
word_bytes Word.Trim = bytes "trim "
word_bytes Word.Stop = bytes "stop "
word_bytes Word.Return = bytes "return "
word_bytes Word.Timeout = bytes "timeout "
word_bytes Word.Lose = bytes "lose "
word_bytes Word.Repeat = bytes "repeat "
word_bytes Word.Mail = bytes "mail "
word_bytes Word.Holds = bytes "holds "
word_bytes Word.Other = []

-- how many numbers follow a word: "elect, recover, .. with c; offer c left right; mail a b; lose a
-- b; holds c k left right", "repeat a b" (Q-1), "trim c k" (Q-4), "heard c" (Q-12); a line with no
-- word has none
abbrev pub arity_of : Word → ℕ
arity_of Word.Site = 3
arity_of Word.Elect = 1
arity_of Word.Recover = 1
arity_of Word.Collect = 1
arity_of Word.Ready = 1
arity_of Word.Offer = 3
arity_of Word.Propose = 1
arity_of Word.Agree = 1
arity_of Word.Finish = 1
arity_of Word.Heard = 1
arity_of Word.Trim = 2
arity_of Word.Stop = 1
arity_of Word.Return = 1
arity_of Word.Timeout = 1
arity_of Word.Lose = 2
arity_of Word.Repeat = 2
arity_of Word.Mail = 2
arity_of Word.Holds = 4
arity_of Word.Other = 0

-- w stands at the start of s
unfoldable pub starts : List ℕ → List ℕ → Bool
starts [] s = true
starts (a ∷ w) [] = false
starts (a ∷ w) (b ∷ s) = pick (eqb a b) (starts w s) false

-- the word w where it stands at the start of s, and else v
abbrev pub or_word : List ℕ → Word → Word → Word
or_word s w v = pick (starts (word_bytes w) s) w v

unfoldable pub word_of : List ℕ → Word
word_of s =
    or_word s Word.Site
    (or_word s Word.Elect
    (or_word s Word.Recover
    (or_word s Word.Collect
    (or_word s Word.Ready
    (or_word s Word.Offer
    (or_word s Word.Propose
    (or_word s Word.Agree
    (or_word s Word.Finish
    (or_word s Word.Heard
    (or_word s Word.Trim
    (or_word s Word.Stop
    (or_word s Word.Return
    (or_word s Word.Timeout
    (or_word s Word.Lose
    (or_word s Word.Repeat
    (or_word s Word.Mail
    (or_word s Word.Holds
    Word.Other)))))))))))))))))
