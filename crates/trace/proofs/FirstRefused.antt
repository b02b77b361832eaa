-- The replay stops at the first line that the rules refuse, and at no other.
use Prim.Native.Nat.{ℕ, ◌+◌, ◌<◌, ◌≤◌}
use mathlib.Core.Path.{◌≡◌, refl, ap, sym, ◌∙◌, subst}
use mathlib.Core.Bool.{false}
use mathlib.Core.List.{List, [], ◌∷◌, ◌++◌, append_assoc, append-nil}
use native.Mathlib.Omega.{arith}
use lib.Dec.{leb}
use lib.ListN.{length, length-append}
use borrow.Author.Tests.{le-leb, lt-leb, leb-true, leb-false}
use Rattle.rules.specs.Answers.{is_refusal}
use Rattle.rules.specs.Pick.{pick, pick_true, pick-false}
use Rattle.rules.specs.Numbers.{refusal_number}
use Rattle.rules.specs.Site.{Site}
use Rattle.rules.specs.Step.{step, holds}
use Rattle.rules.specs.declared.model.Answer.{Answer}
use Rattle.rules.specs.declared.model.Call.{Call}
use Rattle.rules.specs.declared.model.Refusal.{Refusal}
use Rattle.laws.proofs.Logic.{both-no, pick_elim}
use Rattle.print.specs.Text.{done_text, refused_text}
use Rattle.lines.specs.declared.Line.{Line}
use Rattle.trace.specs.Lines.{lines_from, lines_of, texts}
use Rattle.trace.specs.Replay.{Run, first, going, ended, Told, done, refused, told}
use Rattle.trace.specs.Replay.{trace_sizes, opened, played, judged, most_lines, lasts, told_text}
use Rattle.trace.specs.Replay.{told_next, line_text, line_next, replay}
use Rattle.trace.specs.Stops.{opens, plays, Takes, Refuses, Ran, Output}
use Rattle.trace.specs.Stops.{all-taken, stopped}

-- what the replay makes of a line
told_of : Run → Line → Told
told_of first l = opened l
told_of (going k s) l = judged k s l
told_of ended l = refused Refusal.Line

-- ---- what the relations say of it

pub told-done : (a : Answer) (s : Site) → is_refusal a ≡ false → told a s ≡ done s
told-done Answer.Done s e = refl
told-done Answer.Taken s e = refl
told-done (Answer.Discarded why) s e = refl
told-done (Answer.Refused why) s e = absurd (both-no refl e)

told-refused : (a : Answer) (s : Site) (why : Refusal) → a ≡ Answer.Refused why
    → told a s ≡ refused why
told-refused a s why e = ap (λ (b : Answer). told b s) e

in_time : (k : ℕ) (s : Site) (l : Line) → k ≤ most_lines → judged k s l ≡ played s l
unfolding judged
in_time k s l h = pick_true _ _ _ (le-leb k most_lines h)

too_late : (k : ℕ) (s : Site) (l : Line) → most_lines < k → judged k s l ≡ refused Refusal.Line
unfolding judged
too_late k s l h = pick-false _ _ _ (lt-leb k most_lines h)

takes_told : {r : Run} {l : Line} {s : Site} → Takes r l s → told_of r l ≡ done s
unfolding told_of opened played
takes_told (Takes.site e) = pick_true _ _ _ e
takes_told (Takes.call {k} {s} {c} h e) =
    in_time k s (Line.Call c) h ∙ told-done (step s c).answer (step s c).next e
takes_told (Takes.holding {k} {s} {c} {i} {left} {right} h e) =
    in_time k s (Line.Holds c i left right) h ∙ told-done (holds s c i left right) s e

not_opened : (l : Line) → opens l ≡ false → opened l ≡ refused Refusal.Line
unfolding opened
not_opened (Line.Site n J L) e = absurd (both-no refl e)
not_opened (Line.Call c) e = refl
not_opened (Line.Holds c k left right) e = refl
not_opened Line.Unreadable e = refl

not-played : (s : Site) (l : Line) → plays l ≡ false → played s l ≡ refused Refusal.Line
unfolding played
not-played s (Line.Site n J L) e = refl
not-played s (Line.Call c) e = absurd (both-no refl e)
not-played s (Line.Holds c k left right) e = absurd (both-no refl e)
not-played s Line.Unreadable e = refl

refuses-told : {r : Run} {l : Line} {why : Refusal} → Refuses r l why → told_of r l ≡ refused why
unfolding told_of opened played
refuses-told (Refuses.sizes e) = pick-false _ _ _ e
refuses-told (Refuses.call {k} {s} {c} {why} h e) =
    in_time k s (Line.Call c) h ∙ told-refused (step s c).answer (step s c).next why e
refuses-told (Refuses.holding {k} {s} {c} {i} {left} {right} {why} h e) =
    in_time k s (Line.Holds c i left right) h ∙ told-refused (holds s c i left right) s why e
refuses-told (Refuses.other-first {l} e) = not_opened l e
refuses-told (Refuses.other-later {k} {s} {l} h e) = in_time k s l h ∙ not-played s l e
refuses-told (Refuses.too_many {k} {s} {l} h) = too_late k s l h

-- no line is both taken and refused
pub never_both : {r : Run} {l : Line} {s : Site} {why : Refusal} → Takes r l s → Refuses r l why
    → ⊥
never_both p q =
    let e = sym (takes_told p) ∙ refuses-told q in
    let z : ◌≡◌ {A = ℕ} 0 1 = cc in omega arith

-- ---- every line is one or the other, as the replay says

data Judged (r : Run) (l : Line) : Told → Type 0 where
  taken : {s : Site} → Takes r l s → Judged r l (done s)
  refusal : {why : Refusal} → Refuses r l why → Judged r l (refused why)

by_call : (k : ℕ) (s : Site) (c : Call) → k ≤ most_lines → (a : Answer) → (step s c).answer ≡ a
    → Judged (going k s) (Line.Call c) (told a (step s c).next)
by_call k s c h Answer.Done e = taken (Takes.call h (ap is_refusal e))
by_call k s c h Answer.Taken e = taken (Takes.call h (ap is_refusal e))
by_call k s c h (Answer.Discarded why) e = taken (Takes.call h (ap is_refusal e))
by_call k s c h (Answer.Refused why) e = refusal (Refuses.call h e)

by-holds : (k : ℕ) (s : Site) (c i left right : ℕ) → k ≤ most_lines → (a : Answer)
    → holds s c i left right ≡ a → Judged (going k s) (Line.Holds c i left right) (told a s)
by-holds k s c i left right h Answer.Done e = taken (Takes.holding h (ap is_refusal e))
by-holds k s c i left right h Answer.Taken e = taken (Takes.holding h (ap is_refusal e))
by-holds k s c i left right h (Answer.Discarded why) e = taken (Takes.holding h (ap is_refusal e))
by-holds k s c i left right h (Answer.Refused why) e = refusal (Refuses.holding h e)

by-line : (k : ℕ) (s : Site) (l : Line) → k ≤ most_lines → Judged (going k s) l (played s l)
unfolding played
by-line k s (Line.Site n j l) h = refusal (Refuses.other-later h refl)
by-line k s (Line.Call c) h = by_call k s c h (step s c).answer refl
by-line k s (Line.Holds c i left right) h =
    by-holds k s c i left right h (holds s c i left right) refl
by-line k s Line.Unreadable h = refusal (Refuses.other-later h refl)

by_first : (l : Line) → Judged first l (opened l)
unfolding opened
by_first (Line.Site n j l) =
    pick_elim (Judged first (Line.Site n j l)) (trace_sizes n j l)
    (λ e. taken (Takes.site e)) (λ e. refusal (Refuses.sizes e))
by_first (Line.Call c) = refusal (Refuses.other-first refl)
by_first (Line.Holds c k left right) = refusal (Refuses.other-first refl)
by_first Line.Unreadable = refusal (Refuses.other-first refl)

by-rules : (k : ℕ) (s : Site) (l : Line) → Judged (going k s) l (judged k s l)
unfolding judged
by-rules k s l =
    pick_elim (Judged (going k s) l) (leb k most_lines)
    (λ e. by-line k s l (leb-true k most_lines e))
    (λ e. refusal (Refuses.too_many (leb-false k most_lines e)))

-- ---- the theorem

-- what comes of a line: the run goes on with one line more, or it is at its end
data Comes (ls : List Line) (t : List ℕ) (l : Line) : Run → List ℕ → Type 0 where
  on : {s : Site} → Ran (ls ++ (l ∷ [])) (going (length ls + 1 + 1) s)
      (t ++ done_text (length ls + 1) s.epoch (lasts s))
      → Comes ls t l (going (length ls + 1 + 1) s) (done_text (length ls + 1) s.epoch (lasts s))
  end : {r : Run} {why : Refusal} → Ran ls r t → Refuses r l why
      → Comes ls t l ended (refused_text (length ls + 1) (refusal_number why))

comes : {ls : List Line} {r : Run} {t : List ℕ} {l : Line} (x : Told) → Ran ls r t
    → Judged r l x → Comes ls t l (told_next (length ls + 1) x) (told_text (length ls + 1) x)
unfolding told_next told_text
comes (done s) w (taken p) = on (Ran.more w p)
comes (refused why) w (refusal q) = end w q

line-comes : {ls : List Line} {r : Run} {t : List ℕ} (l : Line) → Ran ls r t
    → Comes ls t l (line_next r l) (line_text r l)
unfolding line_next line_text
line-comes l Ran.none = comes (opened l) Ran.none (by_first l)
line-comes l (Ran.more {ls} {t = t} {l = m} {s = s} w p) =
    let k = length ls + 1 in
    let x = judged (k + 1) s l in
    let e : length (ls ++ (m ∷ [])) ≡ k = length-append ls (m ∷ []) in
    subst
    (λ (i : ℕ). Comes (ls ++ (m ∷ [])) (t ++ done_text k s.epoch (lasts s)) l
    (told_next (i + 1) x) (told_text (i + 1) x))
    e
    (comes x (Ran.more w p) (by-rules (k + 1) s l))

-- after the end nothing is printed
silent : (ls : List Line) → texts line_next line_text ended ls ≡ []
unfolding texts line_next line_text
silent [] = refl
silent (l ∷ ls) = silent ls

stops-from : (ls : List Line) {before : List Line} {r : Run} {t : List ℕ} → Ran before r t
    → Output (before ++ ls) (t ++ texts line_next line_text r ls)
unfolding texts
stops-from [] {before} {r} {t} w =
    subst (λ (x : List Line). Output x (t ++ [])) (sym (append-nil before))
    (subst (λ (x : List ℕ). Output before x) (sym (append-nil t)) (all-taken w))
stops-from (l ∷ ls) {before} {r} {t} w =
    go (line_next r l) (line_text r l) (line-comes l w) (λ q u v. stops-from ls v)
  where
    go : (q : Run) (x : List ℕ) → Comes before t l q x
        → ((q : Run) (u : List ℕ) → Ran (before ++ (l ∷ [])) q u
        → Output ((before ++ (l ∷ [])) ++ ls) (u ++ texts line_next line_text q ls))
        → Output (before ++ (l ∷ ls)) (t ++ (x ++ texts line_next line_text q ls))
    go q x (on v) more =
        subst (λ (m : List Line). Output m (t ++ (x ++ texts line_next line_text q ls)))
        (append_assoc before (l ∷ []) ls)
        (subst (λ (u : List ℕ). Output ((before ++ (l ∷ [])) ++ ls) u)
        (append_assoc t x (texts line_next line_text q ls)) (more q (t ++ x) v))
    go q x (end v p) more =
        stopped before l ls refl v p
        (ap (λ (u : List ℕ). t ++ (x ++ u)) (silent ls) ∙ ap (λ (u : List ℕ). t ++ u) (append-nil
        x))

pub stops : (s : List ℕ) → Output (lines_of s) (replay s)
unfolding replay
stops s = stops-from (lines_of s) Ran.none

-- ---- and no other text is the output of these lines

line-told : {ls : List Line} {r : Run} {t : List ℕ} (l : Line) (x : Told) → Ran ls r t
    → told_of r l ≡ x
    → (line_text r l ≡ told_text (length ls + 1) x) × (line_next r l ≡ told_next (length ls + 1) x)
unfolding line_next line_text told_of
line-told l x Ran.none e = (ap (told_text 1) e, ap (told_next 1) e)
line-told l x (Ran.more {ls} {l = m} w p) e =
    let k : length ls + 1 ≡ length (ls ++ (m ∷ [])) = sym (length-append ls (m ∷ [])) in (
      ap (told_text (length ls + 1 + 1)) e ∙ ap (λ (i : ℕ). told_text (i + 1) x) k,
      ap (told_next (length ls + 1 + 1)) e ∙ ap (λ (i : ℕ). told_next (i + 1) x) k,
    )

ran-texts : {ls : List Line} {r : Run} {t : List ℕ} → Ran ls r t → (rest : List Line)
    → texts line_next line_text first (ls ++ rest) ≡ t ++ texts line_next line_text r rest
unfolding texts told_text told_next
ran-texts Ran.none rest = refl
ran-texts (Ran.more {ls} {r} {t} {l} {s} w p) rest =
    let d = done_text (length ls + 1) s.epoch (lasts s) in
    let e = line-told l (done s) w (takes_told p) in
    ap (texts line_next line_text first) (append_assoc ls (l ∷ []) rest)
    ∙ (ran-texts w (l ∷ rest)
    ∙ (ap (λ (x : List ℕ). t ++ (x ++ texts line_next line_text (line_next r l) rest)) e.0
    ∙ (ap (λ (q : Run). t ++ (d ++ texts line_next line_text q rest)) e.1
    ∙ sym (append_assoc t d (texts line_next line_text (going (length ls + 1 + 1) s) rest)))))

output-is : (ls : List Line) (u : List ℕ) → Output ls u → u ≡ texts line_next line_text first ls
unfolding texts told_text told_next
output-is ls u (all-taken w) =
    sym
    (ap (texts line_next line_text first) (sym (append-nil ls)) ∙ (ran-texts w [] ∙ append-nil u))
output-is ls u (stopped before l after {r} {t} {why} e w p o) =
    let x = refused_text (length before + 1) (refusal_number why) in
    let f = line-told l (refused why) w (refuses-told p) in
    o
    ∙ sym
    (ap (texts line_next line_text first) e
    ∙ (ran-texts w (l ∷ after)
    ∙ (ap (λ (y : List ℕ). t ++ (y ++ texts line_next line_text (line_next r l) after)) f.0
    ∙ (ap (λ (q : Run). t ++ (x ++ texts line_next line_text q after)) f.1
    ∙ (ap (λ (y : List ℕ). t ++ (x ++ y)) (silent after)
    ∙ ap (λ (y : List ℕ). t ++ y) (append-nil x))))))

pub only : (s u : List ℕ) → Output (lines_of s) u → u ≡ replay s
unfolding replay
only s u o = output-is (lines_of s) u o

-- "No input, no output."
pub no-input : replay [] ≡ []
unfolding replay lines_from texts pick
no-input = refl
