-- What a whole trace is answered, by what it was judged and by its room.
use Prim.Native.Nat.{ℕ, ◌+◌}
use mathlib.Core.Path.{◌≡◌, refl, ap, sym, ◌∙◌}
use mathlib.Core.Bool.{Bool, true, false}
use mathlib.Core.List.{List}
use native.Mathlib.Omega.{arith}
use lib.Dec.{leb}
use lib.ListN.{length}
use Rattle.std.proofs.Common.{Option, Some, None, Ok, Err, is_some, is_none}
use Rattle.rules.specs.Pick.{pick_true, pick-false}
use Rattle.rules.specs.Every.{each}
use Rattle.print.specs.Text.{Wrote}
use Rattle.lines.specs.Printed.{readable}
use Rattle.renamed.specs.Read.{has_name}
use Rattle.renamed.specs.Trace.{lines_in, is_trace, text_in}
use Rattle.renamed.specs.Judge.{judged_all}
use Rattle.renamed.specs.Translate.{answer_of, Translated}
use Rattle.renamed.specs.declared.judge.Judged.{Judged}
use Rattle.renamed.specs.declared.names.Names.{Names}
use Rattle.renamed.specs.declared.text.Refused.{Refused}
use Rattle.renamed.proofs.TraceLaws.{trace-readable, judged-trace, judged-named}

none-of : (a : Option ℕ) → is_some a ≡ false → is_none a ≡ true
none-of None e = refl
none-of (Some x) e = sym e

some-of : (a : Option ℕ) → is_some a ≡ true → is_none a ≡ false
some-of None e = sym e
some-of (Some x) e = refl

-- before the first of the lines
abbrev begun : ℕ → Judged
begun k = record { lines = k; unreadable = None; unnamed = None }

module _ (from to : Names) (k : ℕ) (s : List ℕ) {j : Judged}
    (judged : j ≡ judged_all to (begun k) (lines_in from s)) where
  trace-by : is_none j.unreadable ≡ is_trace k (lines_in from s)
  trace-by =
      ap (λ (x : Judged). is_none x.unreadable) judged
      ∙ judged-trace to (lines_in from s) (begun k)

  pub is-trace : is_some j.unreadable ≡ false → is_trace k (lines_in from s) ≡ true
  is-trace e = sym trace-by ∙ none-of j.unreadable e

  pub all-readable : is_some j.unreadable ≡ false → each readable (lines_in from s) ≡ true
  all-readable e = trace-readable k (lines_in from s) (is-trace e)

  named_by : is_some j.unreadable ≡ false → is_none j.unnamed ≡ each (has_name to) (lines_in from s)
  named_by e =
      ap (λ (x : Judged). is_none x.unnamed) judged
      ∙ judged-named to (lines_in from s) (begun k) (all-readable e)

  pub all_named : is_some j.unreadable ≡ false → is_some j.unnamed ≡ false
      → each (has_name to) (lines_in from s) ≡ true
  all_named e f = sym (named_by e) ∙ none-of j.unnamed f

  module _ {o : List ℕ} where
    pub unreadable-is : is_some j.unreadable ≡ true
        → Translated from to k s o o (Err Refused.Unreadable)
    unfolding answer_of
    unreadable-is e = record {
      answer = sym (pick-false _ _ _ (sym trace-by ∙ some-of j.unreadable e));
      buffer = refl;
    }

    pub unnamed_is : is_some j.unreadable ≡ false → is_some j.unnamed ≡ true
        → Translated from to k s o o (Err Refused.Unnamed)
    unfolding answer_of
    unnamed_is e f = record {
      answer =
          sym (pick_true _ _ _ (is-trace e)
          ∙ pick-false _ _ _ (sym (named_by e) ∙ some-of j.unnamed f));
      buffer = refl;
    }

    module _ (e : is_some j.unreadable ≡ false) (f : is_some j.unnamed ≡ false) {b : Bool}
        (fits : b ≡ leb (length (text_in to (lines_in from s))) (length o)) where
      pub short-is : b ≡ false → Translated from to k s o o (Err Refused.Short)
      unfolding answer_of
      short-is z = record {
        answer =
            sym (pick_true _ _ _ (is-trace e)
            ∙ (pick_true _ _ _ (all_named e f) ∙ pick-false _ _ _ (sym fits ∙ z)));
        buffer = refl;
      }

      pub written_is : b ≡ true → {o' : List ℕ} {p : ℕ}
          → Wrote (length (text_in to (lines_in from s))) o o' 0 p (text_in to (lines_in from s))
          → Translated from to k s o o' (Ok p)
      unfolding answer_of
      written_is z {p = p} w = record {
        answer =
            ap Ok (w.end ∙ zero-first (length (text_in to (lines_in from s))))
            ∙ sym (pick_true _ _ _ (is-trace e)
            ∙ (pick_true _ _ _ (all_named e f) ∙ pick_true _ _ _ (sym fits ∙ z)));
        buffer = w.bytes;
      }
        where
          zero-first : (m : ℕ) → 0 + m ≡ m
          zero-first m = omega arith
