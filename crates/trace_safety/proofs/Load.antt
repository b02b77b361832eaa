-- A trace after which two boxes hold a load.
use Prim.Native.Nat.{ℕ, suc, ◌+◌, ◌≤◌}
use mathlib.Core.Path.{◌≡◌, refl, sym, ap, subst}
use mathlib.Core.Bool.{Bool, true}
use mathlib.Core.List.{List, [], ◌∷◌, ◌++◌}
use native.Mathlib.Omega.{arith}
use lib.ListN.{length, length-append}
use borrow.Author.Tests.{not-true}
use Rattle.rules.specs.Answers.{is_refusal}
use Rattle.rules.specs.Site.{Site, fresh}
use Rattle.rules.specs.Step.{run, holds}
use Rattle.rules.specs.Sizes.{sizes_form}
use Rattle.rules.specs.Every.{all}
use Rattle.rules.specs.declared.model.Call.{Call}
use Rattle.laws.proofs.Logic.{and_yes}
use Rattle.lines.specs.declared.Line.{Line}
use Rattle.trace.specs.Replay.{going, trace_sizes, most_lines}
use Rattle.trace.specs.Stops.{Takes, Ran, none, more}
use Rattle.trace.specs.Stops as stops
use Rattle.said.specs.Said.{Said, called, held, At, latest, before, TrueAt}
use Rattle.said.proofs.Example.{answers, unrefused, load, computed}
use Rattle.trace_safety.specs.Taken.{said_from}

pub said_more : (h : List (Said Bool)) (ls : List Line) (l : Line)
    → said_from h (ls ++ (l ∷ [])) ≡ said_from (said_from h ls) (l ∷ [])
said_more h [] l = refl
said_more h (Line.Site n J L ∷ ls) l = said_more h ls l
said_more h (Line.Call d ∷ ls) l = said_more (called d true ∷ h) ls l
said_more h (Line.Holds b k left right ∷ ls) l = said_more (held b k left right true ∷ h) ls l
said_more h (Line.Unreadable ∷ ls) l = said_more h ls l

-- the lines of calls, the latest of which stands first
lines_for : ℕ → ℕ → ℕ → List Call → List Line
lines_for n J L [] = Line.Site n J L ∷ []
lines_for n J L (d ∷ ds) = lines_for n J L ds ++ (Line.Call d ∷ [])

-- lines that were taken one after another
record Going (ls : List Line) (s : Site) (m : ℕ) : Type 0 where
  text : List ℕ
  many : length ls ≡ m
  ran : Ran ls (going (m + 1) s) text

next-number : {ls : List Line} {s : Site} {text : List ℕ} {i j : ℕ} → i ≡ j
    → Ran ls (going i s) text → Ran ls (going j s) text
next-number {ls} {s} {text} e p = subst (λ (i : ℕ). Ran ls (going i s) text) e p

one-more : {ls : List Line} {s t : Site} {l : Line} (m : ℕ) → Going ls s m
    → Takes (going (m + 1) s) l t → Going (ls ++ (l ∷ [])) t (suc m)
one-more {ls} {l = l} m g w =
    let long : length (ls ++ (l ∷ [])) ≡ length ls + 1 = length-append ls (l ∷ []) in
    let next : length ls + 1 + 1 ≡ suc m + 1 = omega (arith, g.many) in
    record {
      text = _;
      many = omega (arith, long, g.many);
      ran = next-number next (more g.ran w);
    }

going_on : (n J L : ℕ) → trace_sizes n J L ≡ true → (ds : List Call)
    → unrefused (answers n J L ds) ≡ true → length ds + 1 ≤ most_lines
    → Going (lines_for n J L ds) (run (fresh n J L) ds) (suc (length ds))
unfolding lines_for answers run
going_on n J L z [] e h = record { text = _; many = refl; ran = more none (stops.site z) }
going_on n J L z (d ∷ ds) e h =
    let p = and_yes _ _ e in
    one-more (suc (length ds)) (going_on n J L z ds p.1 (omega (arith, h)))
    (stops.call (omega (arith, h)) (not-true _ p.0))

sizes : trace_sizes 2 16 8 ≡ true
unfolding trace_sizes sizes_form all
sizes = refl

-- one more holds line, and what was said before it
module _ (ls : List Line) (b k l r : ℕ) where
  abbrev longer : List Line
  longer = ls ++ (Line.Holds b k l r ∷ [])

  said-last : TrueAt true (said_from [] longer) (length (said_from [] ls)) b k l r
  said-last =
      subst (λ (h : List (Said Bool)). TrueAt true h (length (said_from [] ls)) b k l r)
      (sym (said_more [] ls (Line.Holds b k l r))) latest

  said-before : {i : ℕ} {w : Said Bool} → At (said_from [] ls) i w → At (said_from [] longer) i w
  said-before {i} {w} p =
      subst (λ (h : List (Said Bool)). At h i w) (sym (said_more [] ls (Line.Holds b k l r)))
      (before p)

pub two-lines : (ls : List Line) × (k : ℕ) × (s : Site) × (text : List ℕ)
    × Ran ls (going k s) text
    × (i : ℕ) × TrueAt true (said_from [] ls) i 1 1 71 72
    × (j : ℕ) × TrueAt true (said_from [] ls) j 2 1 71 72
two-lines =
    let lines = lines_for 2 16 8 load in
    let loaded = going_on 2 16 8 sizes load computed.taken (omega arith) in
    let first = one-more 14 loaded
    (stops.holding {c = 1} {i = 1} {left = 71} {right = 72} (omega arith)
    (ap is_refusal computed.one)) in
    let second = one-more 15 first
    (stops.holding {c = 2} {i = 1} {left = 71} {right = 72} (omega arith)
    (ap is_refusal computed.two)) in (
      longer (longer lines 1 1 71 72) 2 1 71 72,
      16 + 1,
      run (fresh 2 16 8) load,
      second.text,
      second.ran,
      length (said_from [] lines),
      said-before (longer lines 1 1 71 72) 2 1 71 72 (said-last lines 1 1 71 72),
      length (said_from [] (longer lines 1 1 71 72)),
      said-last (longer lines 1 1 71 72) 2 1 71 72,
    )
