-- There and back: lines that can be read are found again in their text, and the text in them.
use Prim.Native.Nat.{ℕ, zero, suc, ◌+◌, ◌/◌, ◌%◌}
use mathlib.Core.Path.{◌≡◌, refl, ap, sym, ◌∙◌}
use mathlib.Core.Bool.{Bool, true, false, not}
use mathlib.Core.List.{List, [], ◌∷◌, ◌++◌, append-nil, append_assoc}
use native.Mathlib.Omega.{arith}
use lib.Dec.{eqb, ltb}
use lib.ListN.{length}
use borrow.Author.Tests.{ne_eqb, eqb-true, not-true}
use Rattle.rules.specs.Pick.{pick}
use Rattle.rules.specs.Every.{each}
use Rattle.laws.proofs.Logic.{and_yes, and_both, both-no, cond_elim}
use Rattle.print.specs.Decimal.{decimal_of, decimal, spaced}
use Rattle.lines.specs.Printed.{line_word, line_numbers, parted, readable, in_range}
use Rattle.lines.specs.declared.Line.{Line}
use Rattle.lines.specs.declared.Word.{Word}
use Rattle.trace.specs.Lines.{lines_from as replayed_from}
use Rattle.trace.specs.Feeding.{plain}
use Rattle.renamed.specs.Names.{name_bytes}
use Rattle.renamed.specs.Read.{read_in, printed_in, has_name}
use Rattle.renamed.specs.Trace.{lines_from, lines_in, is_trace, fits, text_in}
use Rattle.renamed.specs.declared.names.Names.{Names}
use Rattle.renamed.proofs.LineLaws.{read_ours, printed, read-printed}

-- ---- no newline stands in a printed line

both-plain : (a b : List ℕ) → plain a ≡ true → plain b ≡ true → plain (a ++ b) ≡ true
unfolding plain each
both-plain [] b e f = f
both-plain (x ∷ a) b e f =
    let p = and_yes (not (eqb x 10)) (plain a) e in
    and_both p.0 (both-plain a b p.1 f)

digit-plain : (d : ℕ) → plain ((48 + d) ∷ []) ≡ true
unfolding plain each
digit-plain d =
    let n : 48 + d ≡ 10 → ⊥ = λ e. omega arith in
    and_both (ap not (ne_eqb (48 + d) 10 n)) refl

decimal-plain : (f x : ℕ) → plain (decimal_of f x) ≡ true
unfolding decimal_of
decimal-plain zero x = digit-plain x
decimal-plain (suc f) x =
    cond_elim (λ (t : List ℕ). plain t ≡ true) (ltb x 10) (λ e. digit-plain x)
    (λ e.
    both-plain (decimal_of f (x / 10)) ((48 + x % 10) ∷ []) (decimal-plain f (x / 10))
    (digit-plain (x % 10)))

spaced-plain : (xs : List ℕ) → plain (spaced xs) ≡ true
unfolding spaced plain each
spaced-plain [] = refl
spaced-plain (x ∷ xs) = both-plain (decimal x) (spaced xs) (decimal-plain 19 x) (spaced-plain xs)

parted-plain : (xs : List ℕ) → plain (parted xs) ≡ true
unfolding plain each
parted-plain [] = refl
parted-plain (x ∷ xs) = both-plain (decimal x) (spaced xs) (decimal-plain 19 x) (spaced-plain xs)

name-plain : (n : Names) (w : Word) → plain (name_bytes n w) ≡ true
unfolding plain each
name-plain Names.Ours Word.Site = refl
name-plain Names.Ours Word.Elect = refl
name-plain Names.Ours Word.Recover = refl
name-plain Names.Ours Word.Collect = refl
name-plain Names.Ours Word.Ready = refl
name-plain Names.Ours Word.Offer = refl
name-plain Names.Ours Word.Propose = refl
name-plain Names.Ours Word.Agree = refl
name-plain Names.Ours Word.Finish = refl
name-plain Names.Ours Word.Heard = refl
name-plain Names.Ours Word.Trim = refl
name-plain Names.Ours Word.Stop = refl
name-plain Names.Ours Word.Return = refl
name-plain Names.Ours Word.Timeout = refl
name-plain Names.Ours Word.Lose = refl
name-plain Names.Ours Word.Repeat = refl
name-plain Names.Ours Word.Mail = refl
name-plain Names.Ours Word.Holds = refl
name-plain Names.Ours Word.Other = refl
name-plain Names.Published Word.Site = refl
name-plain Names.Published Word.Elect = refl
name-plain Names.Published Word.Recover = refl
name-plain Names.Published Word.Collect = refl
name-plain Names.Published Word.Ready = refl
name-plain Names.Published Word.Offer = refl
name-plain Names.Published Word.Propose = refl
name-plain Names.Published Word.Agree = refl
name-plain Names.Published Word.Finish = refl
name-plain Names.Published Word.Heard = refl
name-plain Names.Published Word.Trim = refl
name-plain Names.Published Word.Stop = refl
name-plain Names.Published Word.Return = refl
name-plain Names.Published Word.Timeout = refl
name-plain Names.Published Word.Lose = refl
name-plain Names.Published Word.Repeat = refl
name-plain Names.Published Word.Mail = refl
name-plain Names.Published Word.Holds = refl
name-plain Names.Published Word.Other = refl

printed-plain : (n : Names) (l : Line) → plain (printed_in n l) ≡ true
unfolding printed_in
printed-plain n l =
    both-plain (name_bytes n (line_word l)) (parted (line_numbers l)) (name-plain n (line_word l))
    (parted-plain (line_numbers l))

-- ---- lines in their text

line_first : (n : Names) (l p s : List ℕ) → plain p ≡ true
    → lines_from n l (p ++ (10 ∷ s)) ≡ read_in n (l ++ p) ∷ lines_in n s
unfolding lines_from plain each pick
line_first n l [] s e = ap (λ (t : List ℕ). read_in n t ∷ lines_in n s) (sym (append-nil l))
line_first n l (b ∷ p) s e =
    let q = and_yes (not (eqb b 10)) (plain p) e in
    ap (λ (t : Bool). pick t (read_in n l ∷ lines_from n [] (p ++ (10 ∷ s)))
    (lines_from n (l ++ (b ∷ [])) (p ++ (10 ∷ s)))) (not-true (eqb b 10) q.0)
    ∙ line_first n (l ++ (b ∷ [])) p s q.1
    ∙ ap (λ (t : List ℕ). read_in n t ∷ lines_in n s) (append_assoc l (b ∷ []) p)

pub lines-again : (n : Names) (ls : List Line) → each readable ls ≡ true → each in_range ls ≡ true
    → each (has_name n) ls ≡ true → lines_in n (text_in n ls) ≡ ls
unfolding lines_from text_in each pick
lines-again n [] e r f = refl
lines-again n (l ∷ ls) e r f =
    let p = and_yes (readable l) (each readable ls) e in
    let q = and_yes (in_range l) (each in_range ls) r in
    let g = and_yes (has_name n l) (each (has_name n) ls) f in
    line_first n [] (printed_in n l) (text_in n ls) (printed-plain n l)
    ∙ (λ i. read-printed n l p.0 q.0 g.0 i ∷ lines-again n ls p.1 q.1 g.1 i)

empty : (l : List ℕ) → length l ≡ 0 → l ≡ []
empty [] e = refl
empty (x ∷ l) e = absurd (omega arith)

text-from : (n : Names) (l s : List ℕ) → each readable (lines_from n l s) ≡ true
    → text_in n (lines_from n l s) ≡ l ++ s
unfolding lines_from text_in each pick
text-from n l [] e = go (eqb (length l) 0) refl e
  where
    go : (t : Bool) → eqb (length l) 0 ≡ t
        → each readable (pick t [] (Line.Unreadable ∷ [])) ≡ true
        → text_in n (pick t [] (Line.Unreadable ∷ [])) ≡ l ++ []
    go true d e = sym (append-nil l ∙ empty l (eqb-true (length l) 0 d))
    go false d e = absurd (both-no e refl)
text-from n l (b ∷ s) e =
    go (eqb b 10) refl e (text-from n [] s) (text-from n (l ++ (b ∷ [])) s)
  where
    go : (t : Bool) → eqb b 10 ≡ t
        → each readable (pick t (read_in n l ∷ lines_from n [] s) (lines_from n (l ++ (b ∷ [])) s))
        ≡ true
        → (each readable (lines_from n [] s) ≡ true → text_in n (lines_from n [] s) ≡ s)
        → (each readable (lines_from n (l ++ (b ∷ [])) s) ≡ true
        → text_in n (lines_from n (l ++ (b ∷ [])) s) ≡ (l ++ (b ∷ [])) ++ s)
        → text_in n (pick t (read_in n l ∷ lines_from n [] s) (lines_from n (l ++ (b ∷ [])) s))
        ≡ l ++ (b ∷ s)
    go true d e f g =
        let p = and_yes (readable (read_in n l)) (each readable (lines_from n [] s)) e in
        (λ i. sym (printed n l p.0).whole i ++ (sym (eqb-true b 10 d) i ∷ f p.1 i))
    go false d e f g = g e ∙ append_assoc l (b ∷ []) s

pub text-again : (n : Names) (s : List ℕ) → each readable (lines_in n s) ≡ true
    → text_in n (lines_in n s) ≡ s
text-again n s e = text-from n [] s e

-- what is true of every line that is read
pub each_read : (n : Names) (P : Line → Bool)
    → ((x : List ℕ) → readable (read_in n x) ≡ true → P (read_in n x) ≡ true)
    → (l s : List ℕ) → each readable (lines_from n l s) ≡ true → each P (lines_from n l s) ≡ true
unfolding lines_from each pick
each_read n P h l [] e = go (eqb (length l) 0) e
  where
    go : (t : Bool) → each readable (pick t [] (Line.Unreadable ∷ [])) ≡ true
        → each P (pick t [] (Line.Unreadable ∷ [])) ≡ true
    go true e = refl
    go false e = absurd (both-no e refl)
each_read n P h l (b ∷ s) e =
    go (eqb b 10) e (each_read n P h [] s) (each_read n P h (l ++ (b ∷ [])) s)
  where
    go : (t : Bool)
        → each readable (pick t (read_in n l ∷ lines_from n [] s) (lines_from n (l ++ (b ∷ [])) s))
        ≡ true
        → (each readable (lines_from n [] s) ≡ true → each P (lines_from n [] s) ≡ true)
        → (each readable (lines_from n (l ++ (b ∷ [])) s) ≡ true
        → each P (lines_from n (l ++ (b ∷ [])) s) ≡ true)
        → each P (pick t (read_in n l ∷ lines_from n [] s) (lines_from n (l ++ (b ∷ [])) s)) ≡ true
    go true e f g =
        let p = and_yes (readable (read_in n l)) (each readable (lines_from n [] s)) e in
        and_both (h l p.0) (f p.1)
    go false e f g = g e

-- ---- our lines are those of a replay

pub replayed-from : (l s : List ℕ) → lines_from Names.Ours l s ≡ replayed_from l s
unfolding lines_from replayed_from
replayed-from l [] = refl
replayed-from l (b ∷ s) =
    (λ i. pick (eqb b 10) (read_ours l i ∷ replayed-from [] s i)
    (replayed-from (l ++ (b ∷ [])) s i))

-- ---- one piece behind another

lines-on : (n : Names) (l s q : List ℕ)
    → lines_from n l ((s ++ (10 ∷ [])) ++ q) ≡ lines_from n l (s ++ (10 ∷ [])) ++ lines_in n q
unfolding lines_from pick
lines-on n l [] q = refl
lines-on n l (b ∷ s) q = go (eqb b 10) (lines-on n [] s q) (lines-on n (l ++ (b ∷ [])) s q)
  where
    go : (t : Bool)
        → lines_from n [] ((s ++ (10 ∷ [])) ++ q) ≡ lines_from n [] (s ++ (10 ∷ [])) ++ lines_in n q
        → lines_from n (l ++ (b ∷ [])) ((s ++ (10 ∷ [])) ++ q)
        ≡ lines_from n (l ++ (b ∷ [])) (s ++ (10 ∷ [])) ++ lines_in n q
        → pick t (read_in n l ∷ lines_from n [] ((s ++ (10 ∷ [])) ++ q))
        (lines_from n (l ++ (b ∷ [])) ((s ++ (10 ∷ [])) ++ q))
        ≡ pick t (read_in n l ∷ lines_from n [] (s ++ (10 ∷ [])))
        (lines_from n (l ++ (b ∷ [])) (s ++ (10 ∷ []))) ++ lines_in n q
    go true f g = ap (λ (ls : List Line). read_in n l ∷ ls) f
    go false f g = g

pub lines_append : (n : Names) (s q : List ℕ)
    → lines_in n ((s ++ (10 ∷ [])) ++ q) ≡ lines_in n (s ++ (10 ∷ [])) ++ lines_in n q
lines_append n s q = lines-on n [] s q

pub trace_append : (k : ℕ) (xs ys : List Line) → is_trace k xs ≡ true
    → is_trace (k + length xs) ys ≡ true → is_trace k (xs ++ ys) ≡ true
unfolding is_trace
trace_append k [] ys e f = let z : k + 0 ≡ k = omega arith in
    ap (λ (m : ℕ). is_trace m ys) (sym z) ∙ f
trace_append k (x ∷ xs) ys e f =
    let p = and_yes (fits k x) (is_trace (k + 1) xs) e in
    and_both p.0
    (trace_append (k + 1) xs ys p.1 (ap (λ (m : ℕ). is_trace m ys) (over (length xs)) ∙ f))
  where
    over : (m : ℕ) → k + 1 + m ≡ k + suc m
    over m = omega arith

pub each_append : (P : Line → Bool) (xs ys : List Line) → each P xs ≡ true → each P ys ≡ true
    → each P (xs ++ ys) ≡ true
unfolding each
each_append P [] ys e f = f
each_append P (x ∷ xs) ys e f =
    let p = and_yes (P x) (each P xs) e in and_both p.0 (each_append P xs ys p.1 f)

pub text_append : (n : Names) (xs ys : List Line)
    → text_in n (xs ++ ys) ≡ text_in n xs ++ text_in n ys
unfolding text_in
text_append n [] ys = refl
text_append n (x ∷ xs) ys =
    ap (λ (t : List ℕ). printed_in n x ++ (10 ∷ t)) (text_append n xs ys)
    ∙ sym (append_assoc (printed_in n x) (10 ∷ text_in n xs) (text_in n ys))
