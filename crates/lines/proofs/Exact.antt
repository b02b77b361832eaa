-- The reader takes exactly the printed forms of lines whose numbers are in range.
use Prim.Native.Nat.{ℕ, ◌≤◌, ◌<◌}
use mathlib.Core.Path.{◌≡◌, refl, ap, sym, ◌∙◌, subst}
use mathlib.Core.Bool.{Bool, true, false, not, ◌||◌}
use mathlib.Core.List.{List, [], ◌∷◌, ◌++◌, append-nil}
use mathlib.Core.Logic.{◌↔◌}
use native.Mathlib.Omega.{arith}
use lib.Dec.{ltb, eqb}
use lib.ListN.{length, drop, length-append}
use lib.Seq.{drop-append_seam}
use borrow.Author.Tests.{lt-ltb, le-ltb, ltb-true, ltb-false, eqb-true, not-false}
use Rattle.std.proofs.Common.{Option, Some, None}
use Rattle.rules.specs.Pick.{pick, pick_true, pick-false}
use Rattle.rules.specs.Every.{each}
use Rattle.rules.specs.declared.model.Call.{Call}
use Rattle.laws.proofs.Logic.{pick_elim, or_no, both-no, and_yes, eqb_same}
use Rattle.print.specs.Decimal.{decimal, spaced}
use Rattle.lines.specs.Table.{word_bytes, arity_of, starts, or_word, word_of}
use Rattle.lines.specs.Read.{no_numbers, numbers_of, line_with, line_of, read_line, one_of}
use Rattle.lines.specs.Read.{read_one}
use Rattle.lines.specs.Printed.{line_word, line_numbers, parted, line_bytes, readable, in_range}
use Rattle.lines.specs.declared.Line.{Line}
use Rattle.lines.specs.declared.Numbers.{Numbers}
use Rattle.lines.specs.declared.Word.{Word}
use Rattle.lines.proofs.NumberLaws.{small, last_of, read-parted, pushed_all, numbers-read}
use Rattle.lines.proofs.NumberLaws.{parted-short}

-- ---- the word

starts_is : (w s : List ℕ) → starts w s ≡ true → s ≡ w ++ drop (length w) s
unfolding starts
starts_is [] s e = refl
starts_is (a ∷ w) [] e = absurd (both-no e refl)
starts_is (a ∷ w) (b ∷ s) e = by (eqb a b) refl e (starts_is w s)
  where
    by : (t : Bool) → eqb a b ≡ t → pick t (starts w s) false ≡ true
        → (starts w s ≡ true → s ≡ w ++ drop (length w) s)
        → b ∷ s ≡ (a ∷ w) ++ drop (length w) s
    by true d e rest =
        ap (λ (x : ℕ). x ∷ s) (sym (eqb-true a b d))
        ∙ ap (λ (t : List ℕ). a ∷ t) (rest (sym (pick_true true _ _ refl) ∙ e))
    by false d e rest = absurd (both-no e (pick-false false _ _ refl))

record At (s : List ℕ) (w : Word) : Type 0 where
  start : starts (word_bytes w) s ≡ true

at_or : {s : List ℕ} (w : Word) {v : Word} → At s v → At s (or_word s w v)
at_or {s} w e = pick_elim (At s) (starts (word_bytes w) s) (λ t. record { start = t }) (λ t. e)

-- the word that is found stands at the start
word-starts : (s : List ℕ) → At s (word_of s)
unfolding word_of starts
word-starts s =
    at_or Word.Site
    (at_or Word.Elect
    (at_or Word.Recover
    (at_or Word.Collect
    (at_or Word.Ready
    (at_or Word.Offer
    (at_or Word.Propose
    (at_or Word.Agree
    (at_or Word.Finish
    (at_or Word.Heard
    (at_or Word.Trim
    (at_or Word.Stop
    (at_or Word.Return
    (at_or Word.Timeout
    (at_or Word.Lose
    (at_or Word.Repeat
    (at_or Word.Mail
    (at_or Word.Holds
    (record { start = refl }))))))))))))))))))

word-short : (w : Word) → length (word_bytes w) ≤ 8
word-short Word.Site = omega arith
word-short Word.Elect = omega arith
word-short Word.Recover = omega arith
word-short Word.Collect = omega arith
word-short Word.Ready = omega arith
word-short Word.Offer = omega arith
word-short Word.Propose = omega arith
word-short Word.Agree = omega arith
word-short Word.Finish = omega arith
word-short Word.Heard = omega arith
word-short Word.Trim = omega arith
word-short Word.Stop = omega arith
word-short Word.Return = omega arith
word-short Word.Timeout = omega arith
word-short Word.Lose = omega arith
word-short Word.Repeat = omega arith
word-short Word.Mail = omega arith
word-short Word.Holds = omega arith
word-short Word.Other = omega arith

-- ---- a word with its numbers

-- the line has this word, and as its numbers the last so many that were read
line-parts : (w : Word) (n : Numbers)
    → (line_word (line_with w n) ≡ w) × (line_numbers (line_with w n) ≡ last_of (arity_of w) n)
line-parts Word.Site n = (refl, refl)
line-parts Word.Elect n = (refl, refl)
line-parts Word.Recover n = (refl, refl)
line-parts Word.Collect n = (refl, refl)
line-parts Word.Ready n = (refl, refl)
line-parts Word.Offer n = (refl, refl)
line-parts Word.Propose n = (refl, refl)
line-parts Word.Agree n = (refl, refl)
line-parts Word.Finish n = (refl, refl)
line-parts Word.Heard n = (refl, refl)
line-parts Word.Trim n = (refl, refl)
line-parts Word.Stop n = (refl, refl)
line-parts Word.Return n = (refl, refl)
line-parts Word.Timeout n = (refl, refl)
line-parts Word.Lose n = (refl, refl)
line-parts Word.Repeat n = (refl, refl)
line-parts Word.Mail n = (refl, refl)
line-parts Word.Holds n = (refl, refl)
line-parts Word.Other n = (refl, refl)

-- a readable line is found again: its word before any text, and itself from its numbers, of which
-- there are one to four
abbrev Again : Line → Type 0
Again l =
    (line_of (line_word l) (pushed_all no_numbers (line_numbers l)) ≡ l)
    × ((t : List ℕ) → word_of (word_bytes (line_word l) ++ t) ≡ line_word l)
    × (1 ≤ length (line_numbers l))
    × (length (line_numbers l) ≤ 4)

call-again : (c : Call) → Again (Line.Call c)
unfolding pick starts word_of line_of
call-again (Call.Elect c) = (refl, λ t. refl, omega arith, omega arith)
call-again (Call.Recover c) = (refl, λ t. refl, omega arith, omega arith)
call-again (Call.Collect c) = (refl, λ t. refl, omega arith, omega arith)
call-again (Call.Ready c) = (refl, λ t. refl, omega arith, omega arith)
call-again (Call.Offer c left right) = (refl, λ t. refl, omega arith, omega arith)
call-again (Call.Propose c) = (refl, λ t. refl, omega arith, omega arith)
call-again (Call.Agree c) = (refl, λ t. refl, omega arith, omega arith)
call-again (Call.Finish c) = (refl, λ t. refl, omega arith, omega arith)
call-again (Call.Heard c) = (refl, λ t. refl, omega arith, omega arith)
call-again (Call.Trim c k) = (refl, λ t. refl, omega arith, omega arith)
call-again (Call.Stop c) = (refl, λ t. refl, omega arith, omega arith)
call-again (Call.Return c) = (refl, λ t. refl, omega arith, omega arith)
call-again (Call.Timeout c) = (refl, λ t. refl, omega arith, omega arith)
call-again (Call.Lose a b) = (refl, λ t. refl, omega arith, omega arith)
call-again (Call.Repeat a b) = (refl, λ t. refl, omega arith, omega arith)
call-again (Call.Deliver a b) = (refl, λ t. refl, omega arith, omega arith)

again : (l : Line) → readable l ≡ true → Again l
unfolding pick starts word_of line_of
again (Line.Site n j l) e = (refl, λ t. refl, omega arith, omega arith)
again (Line.Call c) e = call-again c
again (Line.Holds c k left right) e = (refl, λ t. refl, omega arith, omega arith)
again Line.Unreadable e = absurd (both-no e refl)

numbers-again : (xs : List ℕ) → 1 ≤ length xs → length xs ≤ 4 → each small xs ≡ true
    → numbers_of (parted xs) ≡ pushed_all no_numbers xs
numbers-again [] h k r = absurd (omega arith)
numbers-again (x ∷ xs) h k r = numbers-read x xs no_numbers refl refl refl (omega arith) r

-- ---- the theorem

-- a printed line has at most 64 bytes, by far
pub short : (l : Line) → in_range l ≡ true → length (line_bytes l) ≤ 52
short l r =
    omega (
      arith,
      length-append (word_bytes (line_word l)) (parted (line_numbers l)),
      word-short (line_word l),
      parted-short (line_numbers l) r,
      few l,
    )
  where
    few : (l : Line) → length (line_numbers l) ≤ 4
    few (Line.Site n j l) = omega arith
    few (Line.Call c) = (call-again c).3
    few (Line.Holds c k left right) = omega arith
    few Line.Unreadable = omega arith

printed-read : (l : Line) → readable l ≡ true → in_range l ≡ true → read_line (line_bytes l) ≡ l
unfolding read_line
printed-read l e r =
    let w = word_bytes (line_word l) in
    let t = parted (line_numbers l) in
    let g = again l e in
    pick-false _ _ _ (le-ltb 64 (length (line_bytes l)) (omega (arith, short l r)))
    ∙ (ap (λ (v : Word). line_of v (numbers_of (drop (length (word_bytes v)) (line_bytes l))))
    (g.1 t)
    ∙ (ap (λ (u : List ℕ). line_of (line_word l) (numbers_of u)) (drop-append_seam w t)
    ∙ (ap (line_of (line_word l)) (numbers-again (line_numbers l) g.2 g.3 r) ∙ g.0)))

-- a line that is not Unreadable was picked
picked : (t : Bool) (x l : Line) → readable l ≡ true → pick t Line.Unreadable x ≡ l
    → (t ≡ false) × (x ≡ l)
unfolding pick
picked true x l r e = absurd (both-no r (ap readable (sym e)))
picked false x l r e = (refl, e)

read-printed : (s : List ℕ) (l : Line) → readable l ≡ true → read_line s ≡ l
    → (s ≡ line_bytes l) × (in_range l ≡ true)
unfolding read_line line_of
read-printed s l r e =
    let w = word_of s in
    let rest = drop (length (word_bytes w)) s in
    let n = numbers_of rest in
    let p = picked (ltb 64 (length s)) _ l r e in
    let q = picked (n.bad || not (eqb n.count (arity_of w))) (line_with w n) l r p.1 in
    let g = or_no n.bad (not (eqb n.count (arity_of w))) q.0 in
    let count : n.count ≡ arity_of w = eqb-true n.count (arity_of w) (not-false _ g.1) in
    let read = read-parted rest g.0 in
    let parts = line-parts w n in
    let word : w ≡ line_word l = sym parts.0 ∙ ap line_word q.1 in
    let numbers : last_of n.count n ≡ line_numbers l =
    ap (λ (k : ℕ). last_of k n) count ∙ (sym parts.1 ∙ ap line_numbers q.1) in (
      starts_is (word_bytes w) s (word-starts s).start
          ∙ (ap (λ (t : List ℕ). word_bytes w ++ t) (read.bytes ∙ ap parted numbers)
          ∙ ap (λ (v : Word). word_bytes v ++ parted (line_numbers l)) word),
      sym (ap (each small) numbers) ∙ read.range,
    )

pub exact : (s : List ℕ) (l : Line) → readable l ≡ true
    → (read_line s ≡ l) ↔ ((s ≡ line_bytes l) × (in_range l ≡ true))
exact s l r = (
  read-printed s l r,
  λ p. ap read_line p.0 ∙ printed-read l r p.1,
)

-- and every other text is unreadable
pub unreadable : (s : List ℕ)
    → ((l : Line) → readable l ≡ true → in_range l ≡ true → s ≡ line_bytes l → ⊥)
    → read_line s ≡ Line.Unreadable
unreadable s none = by (read_line s) refl
  where
    by : (l : Line) → read_line s ≡ l → read_line s ≡ Line.Unreadable
    by (Line.Site n j l) e =
        let p = read-printed s (Line.Site n j l) refl e in
        absurd (none (Line.Site n j l) refl p.1 p.0)
    by (Line.Call c) e =
        let p = read-printed s (Line.Call c) refl e in
        absurd (none (Line.Call c) refl p.1 p.0)
    by (Line.Holds c k left right) e =
        let p = read-printed s (Line.Holds c k left right) refl e in
        absurd (none (Line.Holds c k left right) refl p.1 p.0)
    by Line.Unreadable e = e

-- ---- one number after a word

starts-again : (w t : List ℕ) → starts w (w ++ t) ≡ true
unfolding starts
starts-again [] t = refl
starts-again (a ∷ w) t = pick_true _ _ _ (eqb_same a) ∙ starts-again w t

is_number : Option ℕ → Bool
is_number (Some x) = true
is_number None = false

number_of : Option ℕ → ℕ
number_of (Some x) = x
number_of None = 0

picked-one : (t : Bool) (o : Option ℕ) (x : ℕ) → pick t None o ≡ Some x
    → (t ≡ false) × (o ≡ Some x)
unfolding pick is_number
picked-one true o x e = absurd (both-no refl (ap is_number (sym e)))
picked-one false o x e = (refl, e)

one-read : (w s : List ℕ) (x : ℕ) → read_one w s ≡ Some x
    → (s ≡ w ++ decimal x) × (x < 4294967296) × (length s ≤ 64)
unfolding read_one one_of number_of spaced each
one-read w s x e =
    let rest = drop (length w) s in
    let n = numbers_of rest in
    let p = picked-one (ltb 64 (length s) || not (starts w s)) _ x e in
    let f = or_no (ltb 64 (length s)) (not (starts w s)) p.0 in
    let q = picked-one (n.bad || not (eqb n.count 1)) (Some n.d) x p.1 in
    let g = or_no n.bad (not (eqb n.count 1)) q.0 in
    let count : n.count ≡ 1 = eqb-true n.count 1 (not-false _ g.1) in
    let read = read-parted rest g.0 in
    let number : last_of n.count n ≡ x ∷ [] =
    ap (λ (k : ℕ). last_of k n) count ∙ ap (λ (v : ℕ). v ∷ []) (ap number_of q.1) in (
      starts_is w s (not-false _ f.1)
          ∙ ap (λ (t : List ℕ). w ++ t)
          (read.bytes ∙ ap parted number ∙ append-nil (decimal x)),
      ltb-true x 4294967296
          (and_yes (small x) true (sym (ap (each small) number) ∙ read.range)).0,
      ltb-false 64 (length s) f.0,
    )

one_again : (w : List ℕ) (x : ℕ) → x < 4294967296 → length (w ++ decimal x) ≤ 64
    → read_one w (w ++ decimal x) ≡ Some x
unfolding read_one one_of each pick spaced
one_again w x r h =
    pick-false _ _ _ one
    ∙ ap (λ (u : List ℕ). one_of (numbers_of u)) (drop-append_seam w (decimal x)
    ∙ sym (append-nil (decimal x)))
    ∙ ap one_of (numbers-again (x ∷ []) (omega arith) (omega arith) in-range)
  where
    one : (ltb 64 (length (w ++ decimal x)) || not (starts w (w ++ decimal x))) ≡ false
    one = rw (le-ltb 64 (length (w ++ decimal x)) h, starts-again w (decimal x)) refl

    in-range : each small (x ∷ []) ≡ true
    in-range = rw (lt-ltb x 4294967296 r) refl

-- `read_one` takes exactly the word with a number in range behind it, in at most 64 bytes, ..
pub exact_one : (w s : List ℕ) (x : ℕ)
    → (read_one w s ≡ Some x)
    ↔ ((s ≡ w ++ decimal x) × (x < 4294967296) × (length s ≤ 64))
exact_one w s x = (
  one-read w s x,
  λ p. ap (read_one w) p.0
      ∙ one_again w x p.1 (subst (λ (t : List ℕ). length t ≤ 64) p.0 p.2),
)

-- .. and every other text is unreadable
pub unreadable-one : (w s : List ℕ)
    → ((x : ℕ) → s ≡ w ++ decimal x → x < 4294967296 → length s ≤ 64 → ⊥)
    → read_one w s ≡ None
unreadable-one w s none = by (read_one w s) refl
  where
    by : (o : Option ℕ) → read_one w s ≡ o → read_one w s ≡ None
    by (Some x) e = let p = one-read w s x e in absurd (none x p.0 p.1 p.2)
    by None e = e
