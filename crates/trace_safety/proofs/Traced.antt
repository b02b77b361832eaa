-- Lines that the rules take are calls and holds lines from a fresh site on.
use Prim.Native.Nat.{ℕ}
use mathlib.Core.Path.{◌≡◌, refl, sym, ap, ◌∙◌, subst}
use mathlib.Core.Bool.{Bool, true, false, not}
use mathlib.Core.List.{List, [], ◌∷◌, ◌++◌, append-nil}
use lib.Dec.{eqb}
use lib.ListN.{length}
use borrow.Author.Tests.{not-true}
use Rattle.rules.specs.Answers.{is_refusal}
use Rattle.rules.specs.Sizes.{sizes_form}
use Rattle.rules.specs.Site.{Site}
use Rattle.rules.specs.Step.{step, holds}
use Rattle.rules.specs.declared.model.Answer.{Answer}
use Rattle.rules.specs.declared.model.Call.{Call}
use Rattle.laws.specs.Frames.{CallFits}
use Rattle.laws.proofs.Logic.{All, nil, cons, All-in, and_yes, pick_elim}
use Rattle.lines.specs.Printed.{in_range}
use Rattle.lines.specs.Read.{read_line}
use Rattle.lines.specs.declared.Line.{Line}
use Rattle.lines.proofs.Ranges.{none_out, read-range, call_fits}
use Rattle.trace.specs.Lines.{lines_from, lines_of}
use Rattle.trace.specs.Replay.{Run, first, going, ended, trace_sizes}
use Rattle.trace.specs.Stops.{Takes, Ran, none, more, Output}
use Rattle.trace.specs.Stops as stops
use Rattle.said.specs.Said.{Said, Talk, called, held, retold, At}
use Rattle.said.specs.Demand3.{Demand3}
use Rattle.said.specs.Spoken.{Spoken, begun, stepped, asked, firsts}
use Rattle.said.proofs.Lines.{line-done}
use Rattle.said.proofs.Past.{past}
use Rattle.said.proofs.Retold.{retold-safely}
use Rattle.said.proofs.Spoke.{spoken-safely}
use Rattle.trace_safety.proofs.Load.{said_more, two-lines}
use Rattle.trace_safety.specs.Taken.{said_from, taken, answered_lines, run_after}
use Rattle.trace_safety.specs.Taken.{TracedSafely}

-- ---- numbers that are read are of 32 bits

Fits : Line → Type 0
Fits l = in_range l ≡ true

none-fits : Fits Line.Unreadable
unfolding Fits
none-fits = none_out

read_fits : (s : List ℕ) → Fits (read_line s)
unfolding Fits
read_fits s = read-range s refl

lines_fit : (s l : List ℕ) → All Fits (lines_from l s)
unfolding lines_from
lines_fit [] l =
    pick_elim (All Fits) (eqb (length l) 0) (λ e. nil) (λ e. cons none-fits nil)
lines_fit (b ∷ s) l =
    pick_elim (All Fits) (eqb b 10) (λ e. cons (read_fits l) (lines_fit s []))
    (λ e. lines_fit s (l ++ (b ∷ [])))

fits-call : (d : Call) → Fits (Line.Call d) → CallFits d
unfolding Fits
fits-call d f = call_fits d f

fit-first : (ls rest : List Line) → All Fits (ls ++ rest) → All Fits ls
fit-first [] rest fs = nil
fit-first (l ∷ ls) rest (cons f fs) = cons f (fit-first ls rest fs)

-- the lines before another, and that one
fit-both : (ls : List Line) (l : Line) → All Fits (ls ++ (l ∷ [])) → All Fits ls × Fits l
fit-both ls l fs = (fit-first ls (l ∷ []) fs, All-in ls l [] fs)

-- ---- what the lines say

abbrev passes : Answer → Bool
passes a = not (is_refusal a)

record Talked (ls : List Line) (s : Site) : Type 0 where
  n : ℕ
  J : ℕ
  L : ℕ
  talk : Talk
  spoken : Spoken n J L talk s
  is : retold passes talk ≡ said_from [] ls

abbrev Talking : List Line → Run → Type 0
Talking ls first = ls ≡ []
Talking ls (going k s) = Talked ls s
Talking ls ended = Unit {0}

sizes : (n J L : ℕ) → trace_sizes n J L ≡ true → sizes_form n J L ≡ true
unfolding trace_sizes
sizes n J L e = (and_yes _ _ (and_yes _ _ e).0).0

-- one more line
talks-on : (ls : List Line) {r : Run} {l : Line} {s : Site} → Talking ls r → Fits l → Takes r l s
    → Talked (ls ++ (l ∷ [])) s
talks-on ls w f (stops.site {n = n} {J = J} {L = L} e) = record {
  n = n;
  J = J;
  L = L;
  talk = [];
  spoken = begun (sizes n J L e);
  is = ap (λ (ks : List Line). said_from [] (ks ++ (Line.Site n J L ∷ []))) (sym w);
}
talks-on ls w f (stops.call {s = s} {c = d} m e) = record {
  n = w.n;
  J = w.J;
  L = w.L;
  talk = called d (step s d).answer ∷ w.talk;
  spoken = stepped d (fits-call d f) w.spoken;
  is =
      (λ t. called d (not (e t)) ∷ w.is t) ∙ sym (said_more [] ls (Line.Call d));
}
talks-on ls w f (stops.holding {s = s} {c = b} {i = k} {left = l} {right = r} m e) = record {
  n = w.n;
  J = w.J;
  L = w.L;
  talk = held b k l r (holds s b k l r) ∷ w.talk;
  spoken = asked b k l r w.spoken;
  is =
      (λ t. held b k l r (not (e t)) ∷ w.is t) ∙ sym (said_more [] ls (Line.Holds b k l r));
}

talks : {ls : List Line} {r : Run} {t : List ℕ} → All Fits ls → Ran ls r t → Talking ls r
talks fs none = refl
talks fs (more {ls = ls} {l = l} p q) =
    let f = fit-both ls l fs in talks-on ls (talks f.0 p) f.1 q

-- ---- demand 3

held-done : {n J L : ℕ} {h : Talk} {s : Site} → Spoken n J L h s → (i b k l r : ℕ) (a : Answer)
    → At h i (held b k l r a) → passes a ≡ true → a ≡ Answer.Done
held-done p i b k l r a q e =
    let v = past p q in
    sym v.answer ∙ line-done v.site b k l r
    (ap is_refusal v.answer ∙ not-true (is_refusal a) e)

first-lines : (input : List ℕ) (ls rest : List Line) {text : List ℕ} {k : ℕ} {s : Site}
    → lines_of input ≡ ls ++ rest → Ran ls (going k s) text
    → Demand3 true false (said_from [] ls) (taken s) (firsts s)
first-lines input ls rest {s = s} e p =
    let w = talks (fit-first ls rest (subst (All Fits) e (lines_fit input []))) p in
    subst (λ (h : List (Said Bool)). Demand3 true false h (taken s) (firsts s)) w.is
    (retold-safely passes (held-done w.spoken)
    (λ b k l r q. line-done s b k l r (not-true _ q)) (spoken-safely.demand_3 w.spoken))

whole-output : (input : List ℕ) {text : List ℕ} (o : Output (lines_of input) text)
    (k : ℕ) (s : Site)
    → run_after o ≡ going k s
    → Demand3 true false (said_from [] (answered_lines o)) (taken s) (firsts s)
whole-output input {text} (stops.all-taken p) k s e =
    first-lines input (lines_of input) [] (sym (append-nil (lines_of input)))
    (subst (λ (t : Run). Ran (lines_of input) t text) e p)
whole-output input (stops.stopped before l after {t = t} d p q f) k s e =
    first-lines input before (l ∷ after) d (subst (λ (u : Run). Ran before u t) e p)

pub traced_safely : TracedSafely
traced_safely = record {
  demand_3 = first-lines;
  replayed = λ input o k s e. whole-output input o k s e;
  not-empty = two-lines;
}
