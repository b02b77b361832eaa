-- The lines of a trace, from the first on: where the code finds each, and what they are judged.
use Prim.Native.Nat.{ℕ, suc, ◌+◌, ◌-◌, ◌<◌, ◌≤◌}
use mathlib.Core.Path.{◌≡◌, refl, ap, sym, ◌∙◌}
use mathlib.Core.Bool.{Bool, true, false, not, ◌&&◌}
use mathlib.Core.List.{List, [], ◌∷◌, ◌++◌, append-nil, append_assoc}
use native.Mathlib.Omega.{arith}
use lib.Dec.{eqb}
use lib.ListN.{length, take, drop, length-append, length-drop, drop_of_length-le}
use lib.Seq.{take-length, drop-drop}
use borrow.Author.Tests.{ne_eqb, lt-ltb, ltb-true}
use Rattle.std.proofs.Common.{Option, Some, None, is_none}
use Rattle.rules.specs.Pick.{pick, pick_true}
use Rattle.rules.specs.Every.{each}
use Rattle.scan.specs.Bytes.{index_after, index_of, slice}
use Rattle.laws.proofs.Logic.{Or, left, right, below?, and_yes, and_both, both-no}
use Rattle.laws.proofs.Logic.{pick_elim}
use Rattle.lines.specs.Printed.{readable}
use Rattle.lines.specs.declared.Line.{Line}
use Rattle.trace.specs.Replay.{most_lines}
use Rattle.trace.specs.Stops.{opens, plays}
use Rattle.lines.specs.declared.Word.{Word}
use Rattle.renamed.specs.Names.{name_bytes, is_named, word_in}
use Rattle.renamed.specs.Read.{read_in, has_name, found_by}
use Rattle.renamed.specs.Trace.{lines_from, lines_in, fits, is_trace}
use Rattle.renamed.specs.Judge.{one_more, first_of, judged_by, judged_all}
use Rattle.renamed.specs.declared.judge.Judged.{Judged}
use Rattle.renamed.specs.declared.names.Found.{Found}
use Rattle.renamed.specs.declared.names.Names.{Names}
use Rattle.renamed.proofs.LineLaws.{printed}

-- ---- the first line

module _ (n : Names) where
  -- a newline ends it ..
  cut-from : (l s : List ℕ) → index_of 10 s < length s
      → lines_from n l s
      ≡ read_in n (l ++ take (index_of 10 s) s) ∷ lines_in n (drop (index_of 10 s + 1) s)
  unfolding lines_from index_of index_after pick
  cut-from l [] h = absurd (omega arith)
  cut-from l (b ∷ s) h = go (eqb b 10) h (cut-from (l ++ (b ∷ [])) s)
    where
      go : (t : Bool) → index_after t (index_of 10 s) < suc (length s)
          → (index_of 10 s < length s → lines_from n (l ++ (b ∷ [])) s
          ≡ read_in n ((l ++ (b ∷ [])) ++ take (index_of 10 s) s)
          ∷ lines_in n (drop (index_of 10 s + 1) s))
          → pick t (read_in n l ∷ lines_from n [] s) (lines_from n (l ++ (b ∷ [])) s)
          ≡ read_in n (l ++ take (index_after t (index_of 10 s)) (b ∷ s))
          ∷ lines_in n (drop (index_after t (index_of 10 s) + 1) (b ∷ s))
      go true k f = ap (λ (u : List ℕ). read_in n u ∷ lines_in n s) (sym (append-nil l))
      go false k f =
          f (omega arith)
          ∙ ap (λ (u : List ℕ). read_in n u ∷ lines_in n (drop (index_of 10 s + 1) s))
          (append_assoc l (b ∷ []) (take (index_of 10 s) s))
          ∙ ap (λ (m : ℕ). read_in n (l ++ (b ∷ take (index_of 10 s) s))
          ∷ lines_in n (drop m (b ∷ s)))
          (over (index_of 10 s))
        where
          over : (m : ℕ) → suc (m + 1) ≡ suc m + 1
          over m = omega arith

  -- .. or none does
  uncut_from : (l s : List ℕ) → length s ≤ index_of 10 s → 0 < length l + length s
      → lines_from n l s ≡ Line.Unreadable ∷ []
  unfolding lines_from index_of index_after pick
  uncut_from l [] h p =
      let some : length l ≡ 0 → ⊥ = λ z. omega arith in
      ap (λ (t : Bool). pick t [] (Line.Unreadable ∷ [])) (ne_eqb (length l) 0 some)
  uncut_from l (b ∷ s) h p = go (eqb b 10) h (uncut_from (l ++ (b ∷ [])) s)
    where
      go : (t : Bool) → suc (length s) ≤ index_after t (index_of 10 s)
          → (length s ≤ index_of 10 s → 0 < length (l ++ (b ∷ [])) + length s
          → lines_from n (l ++ (b ∷ [])) s ≡ Line.Unreadable ∷ [])
          → pick t (read_in n l ∷ lines_from n [] s) (lines_from n (l ++ (b ∷ [])) s)
          ≡ Line.Unreadable ∷ []
      go true k f = absurd (omega arith)
      go false k f = f (omega arith) (omega (arith, length-append l (b ∷ [])))

  -- where no byte is left there is no line
  pub lines_end : (s : List ℕ) (i : ℕ) → length s ≤ i → lines_in n (drop i s) ≡ []
  unfolding lines_from pick
  lines_end s i h = ap (lines_in n) (drop_of_length-le s h)

  -- at i, where the code has looked for a newline and come to e
  module _ (s : List ℕ) (i : ℕ) {e : ℕ} (found : e ≡ i + index_of 10 (slice i (length s) s)) where
    place : e ≡ i + index_of 10 (drop i s)
    unfolding slice
    place = found ∙ ap (λ (t : List ℕ). i + index_of 10 (drop i t)) (take-length s)

    -- the line that ends there, and those behind it
    pub line-cut : e < length s
        → lines_in n (drop i s) ≡ read_in n (take (e - i) (drop i s)) ∷ lines_in n (drop (e + 1) s)
    line-cut h =
        let p = place in
        let k = index_of 10 (drop i s) in
        let m = length-drop i s in
        let inner : k < length (drop i s) = omega arith in
        let width : k ≡ e - i = omega arith in
        let next : i + (k + 1) ≡ e + 1 = omega arith in
        cut-from [] (drop i s) inner
        ∙ ap (λ (x : ℕ). read_in n (take x (drop i s)) ∷ lines_in n (drop (k + 1) (drop i s))) width
        ∙ ap (λ (t : List ℕ). read_in n (take (e - i) (drop i s)) ∷ lines_in n t)
        (drop-drop (k + 1) i s ∙ ap (λ (x : ℕ). drop x s) next)

    -- bytes that no newline ends
    pub line_uncut : i < length s → length s ≤ e → lines_in n (drop i s) ≡ Line.Unreadable ∷ []
    line_uncut h g =
        let p = place in
        let m = length-drop i s in
        uncut_from [] (drop i s) (omega arith) (omega arith)

    -- .. which there are none of where every line can be read
    pub ends-inside : i < length s → e ≤ length s → each readable (lines_in n (drop i s)) ≡ true
        → e < length s
    unfolding each
    ends-inside h g r = by (below? e (length s))
      where
        by : Or (e < length s) (length s ≤ e) → e < length s
        by (left k) = k
        by (right k) = absurd (both-no r (ap (each readable) (line_uncut h k)))

-- ---- judged

module _ (to : Names) where
  -- r is what the code makes of the line that ends at e
  pub judged-on : (from : Names) (s : List ℕ) (i : ℕ) (j : Judged) {e : ℕ} {r : Judged}
      → e ≡ i + index_of 10 (slice i (length s) s) → e < length s
      → (let l = read_in from (take (e - i) (drop i s)) in r ≡ judged_by (has_name to l) j l)
      → judged_all to r (lines_in from (drop (e + 1) s))
      ≡ judged_all to j (lines_in from (drop i s))
  unfolding judged_all
  judged-on from s i j {e} found h q =
      ap (λ (x : Judged). judged_all to x (lines_in from (drop (e + 1) s))) q
      ∙ sym (ap (judged_all to j) (line-cut from s i found h))

  -- no newline ends the last
  pub judged_uncut : (from : Names) (s : List ℕ) (i : ℕ) (j : Judged) {e : ℕ} {r : Judged}
      → e ≡ i + index_of 10 (slice i (length s) s) → i < length s → length s ≤ e
      → r ≡ judged_by false j Line.Unreadable → r ≡ judged_all to j (lines_in from (drop i s))
  unfolding judged_all judged_by
  judged_uncut from s i j found h g q =
      q ∙ sym (ap (judged_all to j) (line_uncut from s i found h g))

  pub judged-end : (from : Names) (s : List ℕ) (i : ℕ) (j : Judged) → length s ≤ i
      → judged_all to j (lines_in from (drop i s)) ≡ j
  unfolding judged_all
  judged-end from s i j h = ap (judged_all to j) (lines_end from s i h)

-- of a line that cannot be read it does not matter whether it has a name
pub judged-same : {t u : Bool} (j : Judged) (l : Line) → (readable l ≡ true → t ≡ u)
    → judged_by t j l ≡ judged_by u j l
unfolding judged_by
judged-same {t} {u} j l f = by (readable l) refl
  where
    by : (b : Bool) → readable l ≡ b → judged_by t j l ≡ judged_by u j l
    by true e = ap (λ (v : Bool). judged_by v j l) (f e)
    by false e =
        ap (λ (v : Bool). record {
          lines = one_more j.lines;
          unreadable = first_of j.unreadable (not (fits j.lines l)) (one_more j.lines);
          unnamed = first_of j.unnamed v (one_more j.lines);
        }) (none t ∙ sym (none u))
      where
        none : (v : Bool) → (readable l && not v) ≡ false
        none v = ap (λ (x : Bool). x && not v) e

-- ---- what the numbers say

first-none : (a : Option ℕ) (t : Bool) (k : ℕ) → is_none (first_of a t k) ≡ (is_none a && not t)
unfolding first_of pick
first-none None true k = refl
first-none None false k = refl
first-none (Some x) t k = refl

not-not : (b : Bool) → not (not b) ≡ b
not-not true = refl
not-not false = refl

fits-few : (k : ℕ) (l : Line) → fits k l ≡ true → one_more k ≡ k + 1
unfolding one_more
fits-few k l e =
    let h = ltb-true k most_lines (and_yes (pick (eqb k 0) (opens l) (plays l)) _ e).1 in
    pick_true _ _ _ (lt-ltb k 4294967296 (omega arith))

pub fits-readable : (k : ℕ) (l : Line) → fits k l ≡ true → readable l ≡ true
fits-readable k l e = by l (and_yes (pick (eqb k 0) (opens l) (plays l)) _ e).0
  where
    by : (l : Line) → pick (eqb k 0) (opens l) (plays l) ≡ true → readable l ≡ true
    by (Line.Site n J L) e = refl
    by (Line.Call c) e = refl
    by (Line.Holds c i a b) e = refl
    by Line.Unreadable e =
        absurd (both-no e (pick_elim (λ (t : Bool). t ≡ false) (eqb k 0) (λ p. refl) (λ p. refl)))

pub trace-readable : (k : ℕ) (ls : List Line) → is_trace k ls ≡ true → each readable ls ≡ true
unfolding is_trace each
trace-readable k [] e = refl
trace-readable k (l ∷ ls) e =
    let p = and_yes (fits k l) (is_trace (k + 1) ls) e in
    and_both (fits-readable k l p.0) (trace-readable (k + 1) ls p.1)

module _ (to : Names) where
  -- none is unreadable exactly where the lines are a trace ..
  pub judged-trace : (ls : List Line) (j : Judged)
      → is_none (judged_all to j ls).unreadable ≡ (is_none j.unreadable && is_trace j.lines ls)
  unfolding judged_all is_trace judged_by
  judged-trace [] j = sym (yes (is_none j.unreadable))
    where
      yes : (b : Bool) → (b && true) ≡ b
      yes true = refl
      yes false = refl
  judged-trace (l ∷ ls) j =
      judged-trace ls (judged_by (has_name to l) j l)
      ∙ ap (λ (b : Bool). b && is_trace (one_more j.lines) ls)
      (first-none j.unreadable (not (fits j.lines l)) (one_more j.lines)
      ∙ ap (λ (b : Bool). is_none j.unreadable && b) (not-not (fits j.lines l)))
      ∙ go (is_none j.unreadable) (fits j.lines l) (fits-few j.lines l)
    where
      go : (a f : Bool) → (f ≡ true → one_more j.lines ≡ j.lines + 1)
          → (a && f && is_trace (one_more j.lines) ls) ≡ (a && (f && is_trace (j.lines + 1) ls))
      go true true q = ap (λ (k : ℕ). is_trace k ls) (q refl)
      go true false q = refl
      go false f q = refl

  -- .. and none has no name where each has one
  pub judged-named : (ls : List Line) (j : Judged) → each readable ls ≡ true
      → is_none (judged_all to j ls).unnamed ≡ (is_none j.unnamed && each (has_name to) ls)
  unfolding judged_all each judged_by
  judged-named [] j e = sym (yes (is_none j.unnamed))
    where
      yes : (b : Bool) → (b && true) ≡ b
      yes true = refl
      yes false = refl
  judged-named (l ∷ ls) j e =
      let p = and_yes (readable l) (each readable ls) e in
      judged-named ls (judged_by (has_name to l) j l) p.1
      ∙ ap (λ (b : Bool). b && each (has_name to) ls)
      (first-none j.unnamed (readable l && not (has_name to l)) (one_more j.lines)
      ∙ ap (λ (b : Bool). is_none j.unnamed && not (b && not (has_name to l))) p.0
      ∙ ap (λ (b : Bool). is_none j.unnamed && b) (not-not (has_name to l)))
      ∙ over (is_none j.unnamed) (has_name to l) (each (has_name to) ls)
    where
      over : (a b c : Bool) → (a && b && c) ≡ (a && (b && c))
      over true b c = refl
      over false b c = refl

-- the code's turn at one line of text
pub judged-text : (from to : Names) (s : List ℕ) (j : Judged) {f : Found} {r : Judged} {l : Line}
    → f ≡ found_by from to (word_in from s) → l ≡ read_in from s
    → r ≡ judged_by (not (eqb f.put 0)) j l
    → r ≡ judged_by (has_name to (read_in from s)) j (read_in from s)
judged-text from to s j {f} found e q =
    q ∙ ap (judged_by (not (eqb f.put 0)) j) e
    ∙ judged-same j (read_in from s) (λ t.
    ap (λ (x : Found). not (eqb x.put 0)) found
    ∙ ap (λ (w : Word). is_named (name_bytes to w)) (sym (printed from s t).word))
