-- The script is a list of calls after which two boxes hold a load.
use Prim.Native.Nat.{ℕ}
use mathlib.Core.Path.{◌≡◌, refl, sym, ap, ◌∙◌}
use mathlib.Core.List.{List, [], ◌∷◌, tail}
use native.Mathlib.Omega.{arith}
use lib.ListN.{length, get_or}
use Rattle.rules.specs.Numbers.{answer_number}
use Rattle.rules.specs.Site.{Site}
use Rattle.rules.specs.Step.{run, holds}
use Rattle.safety.specs.Demand3.{start}
use Rattle.said.specs.Said.{Said, called, held, calls, Talk, retold}
use Rattle.said.specs.Spoken.{Spoken, begun, stepped, asked}
use Rattle.said.proofs.Past.{run_is}
use Rattle.said.proofs.Retold.{same-calls}
use Rattle.said.proofs.Example.{load, computed}
use Rattle.engine_safety.proofs.Filed.{holds-run}
use Rattle.drive.specs.Script.{call_of, asking, talk_of, questions_of}
use Rattle.drive.specs.Example.{script, NotEmpty}

-- ---- the latest holds line

numbers_in : List (Said ℕ) → List ℕ
numbers_in [] = []
numbers_in (called d a ∷ h) = []
numbers_in (held b k l r a ∷ h) = b ∷ k ∷ l ∷ r ∷ a ∷ []

same : {g h : List (Said ℕ)} (i : ℕ) → g ≡ h
    → get_or (numbers_in g) i 0 ≡ get_or (numbers_in h) i 0
same i e = ap (λ (w : List (Said ℕ)). get_or (numbers_in w) i 0) e

record Line (n J L : ℕ) (s : Site) (b k l r x : ℕ) (g : List (Said ℕ)) : Type 0 where
  talk : Talk
  spoken : Spoken n J L talk s
  said : retold answer_number talk ≡ g
  answer : answer_number (holds s b k l r) ≡ x

latest-line : {n J L b k l r x : ℕ} {h : Talk} {s : Site} {g : List (Said ℕ)} → Spoken n J L h s
    → retold answer_number h ≡ held b k l r x ∷ g → Line n J L s b k l r x g
unfolding numbers_in
latest-line (begun z) e = absurd (omega (arith, ap length e))
latest-line (stepped d f p) e = absurd (omega (arith, ap length (ap numbers_in e)))
latest-line {n} {J} {L} {s = s} (asked {h = h} b k l r p) e =
    record {
      talk = h;
      spoken = p;
      said = ap tail e;
      answer =
          (λ t. answer_number (holds s (same 0 (sym e) t) (same 1 (sym e) t) (same 2 (sym e) t)
          (same 3 (sym e) t))) ∙ same 4 e;
    }

-- ---- the script

after-load : {h : Talk} {s : Site} → Spoken 2 16 8 h s → calls h ≡ load
    → (holds s 1 1 71 72 ≡ holds (run (start 2 16 8) load) 1 1 71 72)
    × (holds s 2 1 71 72 ≡ holds (run (start 2 16 8) load) 2 1 71 72)
after-load p e =
    let at = run_is p ∙ ap (run (start 2 16 8)) e in
    (ap (λ (t : Site). holds t 1 1 71 72) at, ap (λ (t : Site). holds t 2 1 71 72) at)

pub not-empty : NotEmpty
unfolding talk_of asking call_of
not-empty = record {
  both_true = λ {before = before} {after = after} {xs' = xs'} {ls' = ls'} d h.
      let p = d.done refl in
      let all : questions_of script before ≡ 15 = omega (arith, h) in
      let second = latest-line (holds-run p.served).said
      (p.answers ∙ ap (talk_of script after) all) in
      let first = latest-line second.spoken second.said in
      let e = after-load first.spoken (sym (same-calls answer_number first.talk)
      ∙ ap calls first.said) in (
        sym first.answer ∙ ap answer_number (e.0 ∙ computed.one),
        sym second.answer ∙ ap answer_number (e.1 ∙ computed.two),
      );
}
