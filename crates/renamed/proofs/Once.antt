-- Both ways together give back the same bytes; and nothing else could satisfy what `translate`
-- says.
use Prim.Native.Nat.{ℕ, ◌+◌, ◌<◌, ◌≤◌}
use mathlib.Core.Path.{◌≡◌, refl, ap, sym, ◌∙◌}
use mathlib.Core.Bool.{Bool, true, false}
use mathlib.Core.List.{List, [], ◌++◌}
use native.Mathlib.Omega.{arith}
use lib.Dec.{leb}
use lib.ListN.{length, take, drop}
use lib.Seq.{sets, sets-eq, take-append_seam}
use borrow.Author.Tests.{le-leb, lt-leb, leb-true}
use Rattle.std.proofs.Common.{Result, Ok, Err}
use Rattle.rules.specs.Pick.{pick, pick_true, pick-false}
use Rattle.rules.specs.Every.{each}
use Rattle.laws.proofs.Logic.{Or, left, right, decide}
use Rattle.lines.specs.Printed.{line_word, in_range}
use Rattle.lines.specs.declared.Line.{Line}
use Rattle.renamed.specs.Read.{read_in, has_name}
use Rattle.renamed.specs.Trace.{lines_from, lines_in, is_trace, text_in}
use Rattle.renamed.specs.Translate.{answer_of, buffer_after, Translated}
use Rattle.renamed.specs.BothWays.{Gives, Ended, none, lines, BothWays}
use Rattle.renamed.specs.declared.names.Names.{Names}
use Rattle.renamed.specs.declared.text.Refused.{Refused}
use Rattle.renamed.proofs.NameLaws.{named_ours}
use Rattle.renamed.proofs.LineLaws.{printed}
use Rattle.renamed.proofs.TraceLaws.{trace-readable}
use Rattle.renamed.proofs.BackLaws.{lines-again, text-again, each_read, replayed-from}
use Rattle.renamed.proofs.BackLaws.{lines_append, trace_append, each_append, text_append}

-- ---- there and back

back : (from to : Names) (k : ℕ) (s t : List ℕ) → Gives from to k s t → Gives to from k t s
back from to k s t g =
    let ls = lines_in from s in
    let good = trace-readable k ls g.trace in
    let range = each_read from in_range (λ x e. (printed from x e).range) [] s good in
    let own = each_read from (has_name from) (λ x e. (printed from x e).name) [] s good in
    let same : lines_in to t ≡ ls =
    ap (lines_in to) g.text ∙ lines-again to ls good range g.named in
    record {
      trace = ap (is_trace k) same ∙ g.trace;
      named = ap (each (has_name from)) same ∙ own;
      text = sym (ap (text_in from) same ∙ text-again from s good);
    }

-- ---- in lent buffers

front-is : (o text : List ℕ) → length text ≤ length o → take (length text) (sets o 0 text) ≡ text
front-is o text h =
    ap (take (length text)) (sets-eq text o 0 (omega arith))
    ∙ take-append_seam text (drop (0 + length text) o)

-- what an answer says of the lines
record Wrote-all (to : Names) (k room m : ℕ) (ls : List Line) : Type 0 where
  trace : is_trace k ls ≡ true
  named : each (has_name to) ls ≡ true
  fit : length (text_in to ls) ≤ room
  count : m ≡ length (text_in to ls)

wrote-all : (to : Names) (k room m : ℕ) (ls : List Line)
    → answer_of to k room ls ≡ Ok m → Wrote-all to k room m ls
unfolding answer_of
wrote-all to k room m ls e =
    go (decide (is_trace k ls)) (decide (each (has_name to) ls))
    (decide (leb (length (text_in to ls)) room))
  where
    go : Or (is_trace k ls ≡ true) (is_trace k ls ≡ false)
        → Or (each (has_name to) ls ≡ true) (each (has_name to) ls ≡ false)
        → Or (leb (length (text_in to ls)) room ≡ true) (leb (length (text_in to ls)) room ≡ false)
        → Wrote-all to k room m ls
    go (right f) q r =
        let d : Err Refused.Unreadable ≡ Ok m = sym (pick-false _ _ _ f) ∙ e in
        let z : ◌≡◌ {A = ℕ} 0 1 = cc in absurd (omega arith)
    go (left t) (right f) r =
        let d : Err Refused.Unnamed ≡ Ok m =
        sym (pick_true _ _ _ t ∙ pick-false _ _ _ f) ∙ e in
        let z : ◌≡◌ {A = ℕ} 0 1 = cc in absurd (omega arith)
    go (left t) (left u) (right f) =
        let d : Err Refused.Short ≡ Ok m =
        sym (pick_true _ _ _ t ∙ (pick_true _ _ _ u ∙ pick-false _ _ _ f)) ∙ e in
        let z : ◌≡◌ {A = ℕ} 0 1 = cc in absurd (omega arith)
    go (left t) (left u) (left v) =
        let d : Ok (length (text_in to ls)) ≡ Ok m =
        sym (pick_true _ _ _ t ∙ (pick_true _ _ _ u ∙ pick_true _ _ _ v)) ∙ e in
        record {
          trace = t;
          named = u;
          fit = leb-true (length (text_in to ls)) room v;
          count = cc;
        }

gives : (from to : Names) (k m : ℕ) (s o o' : List ℕ)
    → Translated from to k s o o' (Ok m) → Gives from to k s (take m o')
gives from to k m s o o' t =
    let w = wrote-all to k (length o) m (lines_in from s) (sym t.answer) in
    let text = text_in to (lines_in from s) in
    record {
      trace = w.trace;
      named = w.named;
      text =
          ap (λ (j : ℕ). take j o') w.count ∙ ap (take (length text)) t.buffer
          ∙ front-is o text w.fit;
    }

-- the answer to what is given
module _ (from to : Names) (k : ℕ) (t s p : List ℕ) (g : Gives from to k t s) where
  answer-long : length s ≤ length p
      → answer_of to k (length p) (lines_in from t) ≡ Ok (length s)
  unfolding answer_of
  answer-long h =
      let e = ap length g.text in
      pick_true _ _ _ g.trace ∙ (pick_true _ _ _ g.named
      ∙ (pick_true _ _ _ (le-leb (length (text_in to (lines_in from t))) (length p) (omega arith))
      ∙ ap (λ (u : List ℕ). Ok (length u)) (sym g.text)))

  answer-short : length p < length s
      → answer_of to k (length p) (lines_in from t) ≡ Err Refused.Short
  unfolding answer_of
  answer-short h =
      let e = ap length g.text in
      pick_true _ _ _ g.trace ∙ (pick_true _ _ _ g.named
      ∙ pick-false _ _ _ (lt-leb (length (text_in to (lines_in from t))) (length p) (omega arith)))

lent : (from to : Names) (k m : ℕ) (s o o' p p' : List ℕ) (r : Result ℕ Refused)
    → Translated from to k s o o' (Ok m) → Translated to from k (take m o') p p' r
    → length s ≤ length p → (r ≡ Ok (length s)) × (take (length s) p' ≡ s)
lent from to k m s o o' p p' r t u h =
    let b = back from to k s (take m o') (gives from to k m s o o' t) in
    let e : r ≡ Ok (length s) =
    u.answer ∙ answer-long to from k (take m o') s p b h in (
      e,
      ap (take (length s))
          (u.buffer
          ∙ ap (λ (a : Result ℕ Refused). buffer_after a p (text_in from (lines_in to (take m o'))))
          e
          ∙ ap (sets p 0) (sym b.text))
          ∙ front-is p s h,
    )

short : (from to : Names) (k m : ℕ) (s o o' p p' : List ℕ) (r : Result ℕ Refused)
    → Translated from to k s o o' (Ok m) → Translated to from k (take m o') p p' r
    → length p < length s → r ≡ Err Refused.Short
short from to k m s o o' p p' r t u h =
    let b = back from to k s (take m o') (gives from to k m s o o' t) in
    u.answer ∙ answer-short to from k (take m o') s p b h

-- ---- 18 never comes back

never_unnamed : (k room : ℕ) (s : List ℕ)
    → answer_of Names.Ours k room (lines_in Names.Published s) ≡ Err Refused.Unnamed → ⊥
unfolding answer_of
never_unnamed k room s e = go (decide (is_trace k (lines_in Names.Published s)))
  where
    ls : List Line
    ls = lines_in Names.Published s

    last : (b : Bool) → pick b (Ok (length (text_in Names.Ours ls))) (Err Refused.Short)
        ≡ Err Refused.Unnamed → ⊥
    last b d = by (decide b)
      where
        by : Or (b ≡ true) (b ≡ false) → ⊥
        by (left t) =
            let f : Ok (length (text_in Names.Ours ls)) ≡ Err Refused.Unnamed =
            sym (pick_true _ _ _ t) ∙ d in
            let z : ◌≡◌ {A = ℕ} 0 1 = cc in omega arith
        by (right t) =
            let f : Err Refused.Short ≡ Err Refused.Unnamed = sym (pick-false _ _ _ t) ∙ d in
            let z : ◌≡◌ {A = ℕ} 0 1 = cc in omega arith

    go : Or (is_trace k ls ≡ true) (is_trace k ls ≡ false) → ⊥
    go (left t) =
        let good = trace-readable k ls t in
        let named = each_read Names.Published (has_name Names.Ours) (λ x r.
        named_ours Names.Published (line_word (read_in Names.Published x))
        (printed Names.Published x r).name) [] s good in
        last (leb (length (text_in Names.Ours ls)) room)
        (sym (pick_true _ _ _ t ∙ pick_true _ _ _ named) ∙ e)
    go (right f) =
        let d : Err Refused.Unreadable ≡ Err Refused.Unnamed = sym (pick-false _ _ _ f) ∙ e in
        let z : ◌≡◌ {A = ℕ} 0 1 = cc in omega arith

-- ---- in pieces

lines-of-both : (from : Names) (p q : List ℕ) → Ended p
    → lines_in from (p ++ q) ≡ lines_in from p ++ lines_in from q
unfolding lines_from pick
lines-of-both from p q none = refl
lines-of-both from p q (lines s) = lines_append from s q

pieces : (from to : Names) (k : ℕ) (p q t u : List ℕ) → Ended p → Gives from to k p t
    → Gives from to (k + length (lines_in from p)) q u → Gives from to k (p ++ q) (t ++ u)
pieces from to k p q t u e g h =
    let both = lines-of-both from p q e in
    let xs = lines_in from p in
    let ys = lines_in from q in
    record {
      trace = ap (is_trace k) both ∙ trace_append k xs ys g.trace h.trace;
      named = ap (each (has_name to)) both ∙ each_append (has_name to) xs ys g.named h.named;
      text =
          (λ i. g.text i ++ h.text i)
          ∙ sym (ap (text_in to) both ∙ text_append to xs ys);
    }

-- ---- once

once : (from to : Names) (k : ℕ) (s o p q : List ℕ) (a b : Result ℕ Refused)
    → Translated from to k s o p a → Translated from to k s o q b → (a ≡ b) × (p ≡ q)
once from to k s o p q a b t u =
    let e : a ≡ b = t.answer ∙ sym u.answer in (
      e,
      t.buffer ∙ ap (λ (r : Result ℕ Refused). buffer_after r o (text_in to (lines_in from s))) e
          ∙ sym u.buffer,
    )

pub both_ways : BothWays
both_ways = record {
  back = back;
  lent = lent;
  short = short;
  gives = gives;
  never_unnamed = never_unnamed;
  as_replayed = replayed-from [];
  pieces = pieces;
  once = once;
}
