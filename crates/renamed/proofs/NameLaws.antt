-- The names: which word stands at the start of a line, and that a word is found again by its name.
use Prim.Native.Nat.{ℕ, ◌+◌, ◌≤◌}
use mathlib.Core.Path.{◌≡◌, refl, ap, sym, ◌∙◌, subst}
use mathlib.Core.Bool.{Bool, true, false}
use mathlib.Core.List.{List, ◌++◌}
use native.Mathlib.Omega.{arith}
use lib.ListN.{length}
use Rattle.rules.specs.Pick.{pick}
use Rattle.laws.proofs.Logic.{pick_elim, both-no}
use Rattle.lines.specs.Table.{word_bytes, starts, word_of}
use Rattle.lines.specs.declared.Word.{Word}
use Rattle.print.specs.Text.{Wrote}
use Rattle.renamed.specs.Names.{name_bytes, is_named, is_name, or_name, word_in}
use Rattle.renamed.specs.Read.{found_by}
use Rattle.renamed.specs.declared.names.Found.{Found}
use Rattle.renamed.specs.declared.names.Names.{Names}

-- our names are those of every trace
pub word_ours : (s : List ℕ) → word_in Names.Ours s ≡ word_of s
unfolding word_in word_of
word_ours s = refl

-- the name of this word stands at the start, or there is no word
pub data At (n : Names) (s : List ℕ) : Word → Type 0 where
  named : {w : Word} → is_name (name_bytes n w) s ≡ true → At n s w
  other : At n s Word.Other

at_or : {n : Names} {s : List ℕ} (w : Word) {v : Word} → At n s v → At n s (or_name n s w v)
at_or {n} {s} w e = pick_elim (At n s) (is_name (name_bytes n w) s) named (λ t. e)

pub word_at : (n : Names) (s : List ℕ) → At n s (word_in n s)
unfolding word_in
word_at n s =
    at_or Word.Site
    (at_or Word.Elect
    (at_or Word.Recover
    (at_or Word.Collect
    (at_or Word.Ready
    (at_or Word.Offer
    (at_or Word.Propose
    (at_or Word.Agree
    (at_or Word.Finish
    (at_or Word.Heard
    (at_or Word.Trim
    (at_or Word.Stop
    (at_or Word.Return
    (at_or Word.Timeout
    (at_or Word.Lose
    (at_or Word.Repeat
    (at_or Word.Mail
    (at_or Word.Holds
    other)))))))))))))))))

-- the code's turn at one word: r is what it has found, behind it stands v
pub or_found : (from to : Names) (s : List ℕ) (w : Word) {v : Word} {r f : Found}
    → r ≡ pick (is_name (name_bytes from w) s) (found_by from to w) f → f ≡ found_by from to v
    → r ≡ found_by from to (or_name from s w v)
unfolding pick
or_found from to s w {v} e d =
    e ∙ ap (pick (is_name (name_bytes from w) s) (found_by from to w)) d
    ∙ over (is_name (name_bytes from w) s)
  where
    over : (t : Bool)
        → pick t (found_by from to w) (found_by from to v) ≡ found_by from to (pick t w v)
    over true = refl
    over false = refl

pub none_found : (from to : Names) {f : Found} → f ≡ record { word = Word.Other; cut = 0; put = 0 }
    → f ≡ found_by from to Word.Other
none_found Names.Ours Names.Ours e = e
none_found Names.Ours Names.Published e = e
none_found Names.Published Names.Ours e = e
none_found Names.Published Names.Published e = e

-- ---- how long names are

-- our name is not longer than the published one ..
pub ours_short : (n : Names) (w : Word) → is_named (name_bytes n w) ≡ true
    → length (word_bytes w) ≤ length (name_bytes n w)
ours_short Names.Ours w e = omega arith
ours_short Names.Published Word.Site e = omega arith
ours_short Names.Published Word.Elect e = omega arith
ours_short Names.Published Word.Recover e = omega arith
ours_short Names.Published Word.Collect e = omega arith
ours_short Names.Published Word.Ready e = omega arith
ours_short Names.Published Word.Offer e = omega arith
ours_short Names.Published Word.Propose e = omega arith
ours_short Names.Published Word.Agree e = omega arith
ours_short Names.Published Word.Finish e = omega arith
ours_short Names.Published Word.Heard e = omega arith
ours_short Names.Published Word.Trim e = absurd (both-no e refl)
ours_short Names.Published Word.Stop e = omega arith
ours_short Names.Published Word.Return e = omega arith
ours_short Names.Published Word.Timeout e = omega arith
ours_short Names.Published Word.Lose e = absurd (both-no e refl)
ours_short Names.Published Word.Repeat e = absurd (both-no e refl)
ours_short Names.Published Word.Mail e = omega arith
ours_short Names.Published Word.Holds e = absurd (both-no e refl)
ours_short Names.Published Word.Other e = absurd (both-no e refl)

-- .. and that by at most 12 bytes
pub name-short : (n : Names) (w : Word) → length (name_bytes n w) ≤ length (word_bytes w) + 12
name-short Names.Ours w = omega arith
name-short Names.Published Word.Site = omega arith
name-short Names.Published Word.Elect = omega arith
name-short Names.Published Word.Recover = omega arith
name-short Names.Published Word.Collect = omega arith
name-short Names.Published Word.Ready = omega arith
name-short Names.Published Word.Offer = omega arith
name-short Names.Published Word.Propose = omega arith
name-short Names.Published Word.Agree = omega arith
name-short Names.Published Word.Finish = omega arith
name-short Names.Published Word.Heard = omega arith
name-short Names.Published Word.Trim = omega arith
name-short Names.Published Word.Stop = omega arith
name-short Names.Published Word.Return = omega arith
name-short Names.Published Word.Timeout = omega arith
name-short Names.Published Word.Lose = omega arith
name-short Names.Published Word.Repeat = omega arith
name-short Names.Published Word.Mail = omega arith
name-short Names.Published Word.Holds = omega arith
name-short Names.Published Word.Other = omega arith

pub word-short : (w : Word) → length (word_bytes w) ≤ 8
word-short Word.Site = omega arith
word-short Word.Elect = omega arith
word-short Word.Recover = omega arith
word-short Word.Collect = omega arith
word-short Word.Ready = omega arith
word-short Word.Offer = omega arith
word-short Word.Propose = omega arith
word-short Word.Agree = omega arith
word-short Word.Finish = omega arith
word-short Word.Heard = omega arith
word-short Word.Trim = omega arith
word-short Word.Stop = omega arith
word-short Word.Return = omega arith
word-short Word.Timeout = omega arith
word-short Word.Lose = omega arith
word-short Word.Repeat = omega arith
word-short Word.Mail = omega arith
word-short Word.Holds = omega arith
word-short Word.Other = omega arith

-- what has a name has ours
pub named_ours : (n : Names) (w : Word) → is_named (name_bytes n w) ≡ true
    → is_named (word_bytes w) ≡ true
named_ours Names.Ours w e = e
named_ours Names.Published Word.Site e = refl
named_ours Names.Published Word.Elect e = refl
named_ours Names.Published Word.Recover e = refl
named_ours Names.Published Word.Collect e = refl
named_ours Names.Published Word.Ready e = refl
named_ours Names.Published Word.Offer e = refl
named_ours Names.Published Word.Propose e = refl
named_ours Names.Published Word.Agree e = refl
named_ours Names.Published Word.Finish e = refl
named_ours Names.Published Word.Heard e = refl
named_ours Names.Published Word.Trim e = refl
named_ours Names.Published Word.Stop e = refl
named_ours Names.Published Word.Return e = refl
named_ours Names.Published Word.Timeout e = refl
named_ours Names.Published Word.Lose e = refl
named_ours Names.Published Word.Repeat e = refl
named_ours Names.Published Word.Mail e = refl
named_ours Names.Published Word.Holds e = refl
named_ours Names.Published Word.Other e = e

-- a name, before any text, is found again
pub word-again : (n : Names) (w : Word) (t : List ℕ) → is_named (name_bytes n w) ≡ true
    → word_in n (name_bytes n w ++ t) ≡ w
unfolding pick starts word_in
word-again Names.Ours Word.Site t e = refl
word-again Names.Ours Word.Elect t e = refl
word-again Names.Ours Word.Recover t e = refl
word-again Names.Ours Word.Collect t e = refl
word-again Names.Ours Word.Ready t e = refl
word-again Names.Ours Word.Offer t e = refl
word-again Names.Ours Word.Propose t e = refl
word-again Names.Ours Word.Agree t e = refl
word-again Names.Ours Word.Finish t e = refl
word-again Names.Ours Word.Heard t e = refl
word-again Names.Ours Word.Trim t e = refl
word-again Names.Ours Word.Stop t e = refl
word-again Names.Ours Word.Return t e = refl
word-again Names.Ours Word.Timeout t e = refl
word-again Names.Ours Word.Lose t e = refl
word-again Names.Ours Word.Repeat t e = refl
word-again Names.Ours Word.Mail t e = refl
word-again Names.Ours Word.Holds t e = refl
word-again Names.Ours Word.Other t e = absurd (both-no e refl)
word-again Names.Published Word.Site t e = refl
word-again Names.Published Word.Elect t e = refl
word-again Names.Published Word.Recover t e = refl
word-again Names.Published Word.Collect t e = refl
word-again Names.Published Word.Ready t e = refl
word-again Names.Published Word.Offer t e = refl
word-again Names.Published Word.Propose t e = refl
word-again Names.Published Word.Agree t e = refl
word-again Names.Published Word.Finish t e = refl
word-again Names.Published Word.Heard t e = refl
word-again Names.Published Word.Trim t e = absurd (both-no e refl)
word-again Names.Published Word.Stop t e = refl
word-again Names.Published Word.Return t e = refl
word-again Names.Published Word.Timeout t e = refl
word-again Names.Published Word.Lose t e = absurd (both-no e refl)
word-again Names.Published Word.Repeat t e = absurd (both-no e refl)
word-again Names.Published Word.Mail t e = refl
word-again Names.Published Word.Holds t e = absurd (both-no e refl)
word-again Names.Published Word.Other t e = absurd (both-no e refl)

-- ---- a name written: w is told to be x

pub put-room : (n : Names) (at m : ℕ) {w : Word} (x : Word) → w ≡ x
    → at + length (name_bytes n w) ≤ m → at + length (name_bytes n x) ≤ m
put-room n at m x e h = subst (λ (v : Word). at + length (name_bytes n v) ≤ m) e h

pub put_as : {t u o o' : List ℕ} {at r : ℕ} → t ≡ u → Wrote (length t) o o' at r t
    → Wrote (length u) o o' at r u
put_as {o = o} {o'} {at} {r} e w = subst (λ (t : List ℕ). Wrote (length t) o o' at r t) e w

pub put-named : (n : Names) {w : Word} (x : Word) {o o' : List ℕ} {at r : ℕ} → w ≡ x
    → Wrote (length (name_bytes n x)) o o' at r (name_bytes n x)
    → Wrote (length (name_bytes n w)) o o' at r (name_bytes n w)
put-named n x e h = put_as (ap (name_bytes n) (sym e)) h
