-- A line under either names: read as ours, and printed.
use Prim.Native.Nat.{ℕ, ◌+◌, ◌-◌, ◌<◌, ◌≤◌}
use mathlib.Core.Path.{◌≡◌, refl, ap, sym, ◌∙◌}
use mathlib.Core.Bool.{Bool, true, false, not, ◌||◌}
use mathlib.Core.List.{List, [], ◌∷◌, ◌++◌}
use native.Mathlib.Omega.{arith}
use lib.Dec.{ltb, eqb}
use lib.ListN.{length, take, drop, length-append, length-drop}
use lib.Seq.{drop-append_seam, take-append_seam, take_all, sets-eq}
use borrow.Author.Tests.{lt-ltb, le-ltb, ltb-true, ltb-false, eqb-true, eqb-false}
use Rattle.rules.specs.Pick.{pick, pick_true, pick-false}
use Rattle.laws.proofs.Logic.{and_yes, both-no, decide, Or, left, right}
use Rattle.lines.specs.Table.{word_bytes, arity_of, starts, word_of}
use Rattle.lines.specs.Read.{numbers_of, line_with, line_of, read_line}
use Rattle.lines.specs.Printed.{line_word, line_numbers, parted, line_bytes, readable, in_range}
use Rattle.lines.specs.declared.Line.{Line}
use Rattle.lines.specs.declared.Numbers.{Numbers}
use Rattle.lines.specs.declared.Word.{Word}
use Rattle.lines.proofs.Exact.{exact, short}
use Rattle.renamed.specs.Names.{name_bytes, is_named, is_name, word_in}
use Rattle.print.specs.Text.{Wrote}
use Rattle.print.proofs.WriteLaws.{then}
use Rattle.renamed.specs.Read.{read_in, printed_in, has_name, found_by}
use Rattle.renamed.specs.declared.names.Found.{Found}
use Rattle.renamed.specs.declared.names.Names.{Names}
use Rattle.renamed.proofs.NameLaws.{At, named, other, word_at, word-again}
use Rattle.renamed.proofs.NameLaws.{ours_short, name-short, named_ours, word-short}

-- our lines are read as every trace's
pub read_ours : (s : List ℕ) → read_in Names.Ours s ≡ read_line s
unfolding read_in read_line word_in word_of
read_ours s = refl

-- ---- a name and a text behind it

pub starts_is : (w s : List ℕ) → starts w s ≡ true → s ≡ w ++ drop (length w) s
unfolding starts
starts_is [] s e = refl
starts_is (a ∷ w) [] e = absurd (both-no e refl)
starts_is (a ∷ w) (b ∷ s) e = by (eqb a b) refl e (starts_is w s)
  where
    by : (t : Bool) → eqb a b ≡ t → pick t (starts w s) false ≡ true
        → (starts w s ≡ true → s ≡ w ++ drop (length w) s)
        → b ∷ s ≡ (a ∷ w) ++ drop (length w) s
    by true d e rest =
        ap (λ (x : ℕ). x ∷ s) (sym (eqb-true a b d))
        ∙ ap (λ (t : List ℕ). a ∷ t) (rest (sym (pick_true true _ _ refl) ∙ e))
    by false d e rest = absurd (both-no e (pick-false false _ _ refl))

-- it is read by the word and the text alone
pub read_is : (n : Names) (w : Word) (t : List ℕ) → is_named (name_bytes n w) ≡ true
    → length (name_bytes n w ++ t) ≤ 64 → read_in n (name_bytes n w ++ t) ≡ line_of w (numbers_of t)
unfolding read_in
read_is n w t e h =
    pick-false _ _ _ (le-ltb 64 (length (name_bytes n w ++ t)) h)
    ∙ ap (λ (v : Word). line_of v
    (numbers_of (drop (length (name_bytes n v)) (name_bytes n w ++ t))))
    (word-again n w t e)
    ∙ ap (λ (u : List ℕ). line_of w (numbers_of u)) (drop-append_seam (name_bytes n w) t)

pub read_word : (w : Word) (t : List ℕ) → is_named (word_bytes w) ≡ true
    → length (word_bytes w ++ t) ≤ 64 → read_line (word_bytes w ++ t) ≡ line_of w (numbers_of t)
read_word w t e h = sym (read_ours (word_bytes w ++ t)) ∙ read_is Names.Ours w t e h

-- no word, no line
pub other_none : (x : Numbers) → line_of Word.Other x ≡ Line.Unreadable
unfolding line_of pick
other_none x = by (x.bad || not (eqb x.count 0))
  where
    by : (t : Bool) → pick t Line.Unreadable Line.Unreadable ≡ Line.Unreadable
    by true = refl
    by false = refl

module _ (n : Names) (s : List ℕ) where
  -- the text behind the word
  abbrev pub behind : List ℕ
  behind = drop (length (name_bytes n (word_in n s))) s

  -- the line with our name in front
  abbrev pub as_ours : List ℕ
  as_ours = word_bytes (word_in n s) ++ behind

  pub too_long : 64 < length s → Line.Unreadable ≡ read_in n s
  unfolding read_in
  too_long h = sym (pick_true _ _ _ (lt-ltb 64 (length s) h))

  -- the line by its word
  read_by : length s ≤ 64 → read_in n s ≡ line_of (word_in n s) (numbers_of behind)
  unfolding read_in
  read_by h = pick-false _ _ _ (le-ltb 64 (length s) h)

  -- where no name is found there is no word
  pub no_word : length s ≤ 64 → length (name_bytes n (word_in n s)) ≡ 0
      → Line.Unreadable ≡ read_in n s
  no_word h z = sym (read_by h ∙ by (word_in n s) z (word_at n s) (numbers_of behind))
    where
      by : (w : Word) → length (name_bytes n w) ≡ 0 → At n s w → (x : Numbers)
          → line_of w x ≡ Line.Unreadable
      by w z (named e) x =
          let p = and_yes (is_named (name_bytes n w)) (starts (name_bytes n w) s) e in
          absurd (both-no (sym (ap (λ (k : ℕ). not (eqb k 0)) z) ∙ p.0) refl)
      by w z other x = other_none x

  -- where one is found, the line is that with our name
  pub has_word : (length (name_bytes n (word_in n s)) ≡ 0 → ⊥)
      → is_name (name_bytes n (word_in n s)) s ≡ true
  has_word z = by (word_in n s) z (word_at n s)
    where
      none : (m : Names) → length (name_bytes m Word.Other) ≡ 0
      none Names.Ours = refl
      none Names.Published = refl

      by : (w : Word) → (length (name_bytes n w) ≡ 0 → ⊥) → At n s w
          → is_name (name_bytes n w) s ≡ true
      by w z (named e) = e
      by w z other = absurd (z (none n))

  module _ (h : length s ≤ 64) (z : length (name_bytes n (word_in n s)) ≡ 0 → ⊥) where
    name-there : is_named (name_bytes n (word_in n s)) ≡ true
    name-there = (and_yes (is_named (name_bytes n (word_in n s))) _ (has_word z)).0

    pub cut-is : s ≡ name_bytes n (word_in n s) ++ behind
    cut-is = starts_is (name_bytes n (word_in n s)) s
        (and_yes (is_named (name_bytes n (word_in n s))) _ (has_word z)).1

    pub ours_fits : length as_ours ≤ 64
    ours_fits =
        omega (
          arith,
          ours_short n (word_in n s) name-there,
          length-append (word_bytes (word_in n s)) behind,
          length-append (name_bytes n (word_in n s)) behind,
          ap length cut-is,
        )

    pub read_as_ours : read_line as_ours ≡ read_in n s
    read_as_ours =
        read_word (word_in n s) behind (named_ours n (word_in n s) name-there) ours_fits
        ∙ sym (read_by h)

-- ---- a line that can be read is printed so

line-word : (w : Word) (x : Numbers) → readable (line_of w x) ≡ true → line_word (line_of w x) ≡ w
unfolding line_of pick
line-word w x e = by (x.bad || not (eqb x.count (arity_of w))) e
  where
    with-word : (w : Word) → line_word (line_with w x) ≡ w
    with-word Word.Site = refl
    with-word Word.Elect = refl
    with-word Word.Recover = refl
    with-word Word.Collect = refl
    with-word Word.Ready = refl
    with-word Word.Offer = refl
    with-word Word.Propose = refl
    with-word Word.Agree = refl
    with-word Word.Finish = refl
    with-word Word.Heard = refl
    with-word Word.Trim = refl
    with-word Word.Stop = refl
    with-word Word.Return = refl
    with-word Word.Timeout = refl
    with-word Word.Lose = refl
    with-word Word.Repeat = refl
    with-word Word.Mail = refl
    with-word Word.Holds = refl
    with-word Word.Other = refl

    by : (t : Bool) → readable (pick t Line.Unreadable (line_with w x)) ≡ true
        → line_word (pick t Line.Unreadable (line_with w x)) ≡ w
    by true e = absurd (both-no e refl)
    by false e = with-word w

pub record Printed (n : Names) (s : List ℕ) : Type 0 where
  -- the word that was found is the line's, its numbers stand behind it ..
  pub word : line_word (read_in n s) ≡ word_in n s
  pub rest : behind n s ≡ parted (line_numbers (read_in n s))
  -- .. so s is the line's text; it has a name, and numbers in range
  pub whole : s ≡ printed_in n (read_in n s)
  pub name : has_name n (read_in n s) ≡ true
  pub range : in_range (read_in n s) ≡ true
  pub cut : length (name_bytes n (word_in n s)) ≤ length s

pub printed : (n : Names) (s : List ℕ) → readable (read_in n s) ≡ true → Printed n s
unfolding printed_in
printed n s e =
    by (decide (ltb 64 (length s))) (decide (eqb (length (name_bytes n (word_in n s))) 0))
  where
    by : Or (ltb 64 (length s) ≡ true) (ltb 64 (length s) ≡ false)
        → Or (eqb (length (name_bytes n (word_in n s))) 0 ≡ true)
        (eqb (length (name_bytes n (word_in n s))) 0 ≡ false)
        → Printed n s
    by (left t) q =
        absurd (both-no e (ap readable (sym (too_long n s (ltb-true _ _ t)))))
    by (right f) (left t) =
        absurd (both-no e (ap readable (sym (no_word n s (ltb-false _ _ f) (eqb-true _ _ t)))))
    by (right f) (right g) =
        let h = ltb-false 64 (length s) f in
        let z = eqb-false (length (name_bytes n (word_in n s))) 0 g in
        let l = read_in n s in
        let w = word_in n s in
        let same = (exact (as_ours n s) l e).0 (read_as_ours n s h z) in
        let word : line_word l ≡ w =
        ap line_word (read_by n s h)
        ∙ line-word w (numbers_of (behind n s)) (ap readable (sym (read_by n s h)) ∙ e) in
        let rest : behind n s ≡ parted (line_numbers l) =
        sym (drop-append_seam (word_bytes w) (behind n s))
        ∙ ap (drop (length (word_bytes w)))
        (same.0 ∙ ap (λ (v : Word). word_bytes v ++ parted (line_numbers l)) word)
        ∙ drop-append_seam (word_bytes w) (parted (line_numbers l)) in
        record {
          word = word;
          rest = rest;
          whole =
              cut-is n s h z ∙ ap (λ (t : List ℕ). name_bytes n w ++ t) rest
              ∙ ap (λ (v : Word). name_bytes n v ++ parted (line_numbers l)) (sym word);
          name = ap (λ (v : Word). is_named (name_bytes n v)) word ∙ name-there n s h z;
          range = same.1;
          cut =
              omega (
                arith,
                ap length (cut-is n s h z),
                length-append (name_bytes n w) (behind n s),
              );
        }

-- what is printed is read
pub read-printed : (n : Names) (l : Line) → readable l ≡ true → in_range l ≡ true
    → has_name n l ≡ true → read_in n (printed_in n l) ≡ l
unfolding printed_in
read-printed n l e r f =
    let w = line_word l in
    let t = parted (line_numbers l) in
    let few = short l r in
    let ours = length-append (word_bytes w) t in
    read_is n w t f
    (omega (arith, name-short n w, length-append (name_bytes n w) t))
    ∙ sym (read_word w t (named_ours n w f) (omega arith))
    ∙ (exact (line_bytes l) l e).1 (refl, r)

-- ---- the line with our name, written into a room of its own and read

-- what was written at the front stands there
pub written : {o o' text : List ℕ} {m q : ℕ} → Wrote m o o' 0 q text → length text ≤ length o
    → take q o' ≡ text
written {o} {o'} {text} {q = q} w h =
    let e : q ≡ length text = omega (arith, w.end) in
    ap (λ (k : ℕ). take k o') e
    ∙ ap (take (length text)) (w.bytes ∙ sets-eq text o 0 (omega arith))
    ∙ take-append_seam text (drop (0 + length text) o)

-- the rest of the text from k on, as the code cuts it
pub cut-rest : (s : List ℕ) (k : ℕ) → take (length s - k) (drop k s) ≡ drop k s
cut-rest s k = take_all (length s - k) (drop k s) (omega (arith, length-drop k s))

-- 72 bytes are room for our name and what stands behind any
module _ (s : List ℕ) (k : ℕ) (h : length s ≤ 64) (w : Word) {t t' : List ℕ} {m p : ℕ}
    (a : Wrote m t t' 0 p (word_bytes w)) (z : length t ≡ 72) where
  pub copy_room : p + length (take (length s - k) (drop k s)) ≤ length t'
  copy_room =
      omega (
        arith,
        a.end,
        a.room,
        word-short w,
        ap length (cut-rest s k),
        length-drop k s,
      )

  pub copy_fits : {t'' : List ℕ} {n q : ℕ} → Wrote n t' t'' p q (take (length s - k) (drop k s))
      → q ≤ length t''
  copy_fits b = omega (arith, b.end, b.room, copy_room)

module _ (from to : Names) (s : List ℕ) {f : Found} (found : f ≡ found_by from to (word_in from s))
    (h : length s ≤ 64) where
  word-is : f.word ≡ word_in from s
  word-is = ap (λ (x : Found). x.word) found

  pub cut-is-name : f.cut ≡ length (name_bytes from (word_in from s))
  cut-is-name = ap (λ (x : Found). x.cut) found

  pub no_name : f.cut ≡ 0 → Line.Unreadable ≡ read_in from s
  no_name z = no_word from s h (sym cut-is-name ∙ z)

  module _ (z : f.cut ≡ 0 → ⊥) where
    some : length (name_bytes from (word_in from s)) ≡ 0 → ⊥
    some e = z (cut-is-name ∙ e)

    pub cut_fits : f.cut ≤ length s
    cut_fits =
        omega (
          arith,
          cut-is-name,
          ap length (cut-is from s h some),
          length-append (name_bytes from (word_in from s)) (behind from s),
        )

    ours-is :
        word_bytes f.word ++ take (length s - f.cut) (drop f.cut s) ≡ as_ours from s
    ours-is =
        ap (λ (t : List ℕ). word_bytes f.word ++ t) (cut-rest s f.cut)
        ∙ (λ i. word_bytes (word-is i) ++ drop (cut-is-name i) s)

    pub read_copy : {t t' t'' : List ℕ} {m n p q : ℕ} {r : Line}
        → Wrote m t t' 0 p (word_bytes f.word)
        → Wrote n t' t'' p q (take (length s - f.cut) (drop f.cut s)) → length t ≡ 72
        → r ≡ read_line (take q t'') → r ≡ read_in from s
    read_copy a b k e =
        let few = ours_fits from s h some in
        let all = then a b in
        e
        ∙ ap read_line (written all (omega (arith, ap length ours-is)) ∙ ours-is)
        ∙ read_as_ours from s h some
