-- The functions for C answer the numbers of the entries' own answers.
use Prim.Native.Nat.{ℕ}
use mathlib.Core.Path.{◌≡◌, refl, sym, ap, ◌∙◌, subst}
use mathlib.Core.List.{List, [], ◌∷◌}
use lib.ListN.{take}
use Rattle.rules.specs.Answers.{is_refusal}
use Rattle.rules.specs.Numbers.{answer_number}
use Rattle.rules.specs.declared.model.Answer.{Answer}
use Rattle.laws.proofs.Logic.{true≠false}
use Rattle.site.specs.Entries.{FreshMade, step_on, holds_on}
use Rattle.std.specs.Prelude.{Ok, Err}
use Rattle.writer.specs.Writer.{Written}
use Rattle.writer.specs.Writer.{WriteIs}
use Rattle.reader.specs.Reader.{ReadIs}
use Rattle.journal.specs.Answered.{number_of, or_before}
use Rattle.said.specs.Said.{Said, Talk, called, held, calls, retold}
use Rattle.said.specs.Demand3.{Demand3}
use Rattle.said.proofs.Retold.{same-calls}
use Rattle.said.proofs.ByNumbers.{is-done, safe_by_numbers}
use Rattle.said.proofs.Example.{load}
use Rattle.engine_safety.specs.Served.{firsts_in}
use Rattle.engine_safety.proofs.Filed.{Holds, holds-made, holds-stepped, holds_asked, holds-stored}
use Rattle.engine_safety.proofs.Filed.{safely, both_hold}
use Rattle.memory.specs.Memory.{site_of}
use Rattle.journal_safety.specs.Ran.{said_run}
use Rattle.journal_safety.specs.Called.{Called, made, stepped, asked, ran, stored}
use Rattle.journal_safety.specs.Called.{CalledSafely}
use Rattle.journal_safety.proofs.Ran.{holds-ran, run-told}

-- the same with the entries' answers
record Same (n J L : ℕ) (h : List (Said ℕ)) (xs ls : List ℕ) : Type 0 where
  talk : Talk
  is : retold answer_number talk ≡ h
  holds : Holds n J L talk xs ls

-- a length was written
written : {xs ls out out' : List ℕ} {len' : ℕ} (w : Written) (len : ℕ) → 0 ≡ number_of w
    → len' ≡ or_before w len → WriteIs xs ls out w out'
    → WriteIs xs ls out (Ok len') out'
written {xs} {ls} {out} {out'} (Ok m) len e f h =
    subst (λ (k : ℕ). WriteIs xs ls out (Ok k) out') (sym f) h
written (Err why) len e f h =
    absurd (true≠false (ap is_refusal (is-done (Answer.Refused why) (sym e))))

same : {n J L : ℕ} {h : List (Said ℕ)} {xs ls : List ℕ} → Called n J L h xs ls
    → Same n J L h xs ls
same {n} {J} {L} (made {xs = xs} {ls = ls} {xs' = xs'} {ls' = ls'} m) = record {
  talk = [];
  is = refl;
  holds = holds-made
      (subst (FreshMade n J L xs ls xs' ls') (is-done _ (sym m.number)) m.made);
}
same (stepped {xs = xs} {ls = ls} d fits c s) = let w = same c in record {
  talk = called d (step_on xs ls d).answer ∷ w.talk;
  is = λ t. called d (sym s.number t) ∷ w.is t;
  holds = holds-stepped w.holds d fits s.after;
}
same (asked {xs = xs} {ls = ls} b k l r c e) = let w = same c in record {
  talk = held b k l r (holds_on xs ls b k l r) ∷ w.talk;
  is = λ t. held b k l r (sym e t) ∷ w.is t;
  holds = holds_asked w.holds b k l r;
}
same (ran {xs = xs} {ls = ls} steps c r) = let w = same c in record {
  talk = said_run (λ (a : Answer). a) steps (site_of xs ls) w.talk;
  is =
      run-told answer_number steps (site_of xs ls) w.talk
      ∙ ap (said_run answer_number steps (site_of xs ls)) w.is;
  holds = holds-ran steps w.holds r.after;
}
same (stored {out' = out} {us = us} {vs = vs} {us' = us'} {vs' = vs'} {len' = len} c w r) =
    let t = same c in
    record {
      talk = t.talk;
      is = t.is;
      holds = holds-stored t.holds len
          (written w.answer _ w.number w.length w.is)
          (subst (λ (a : Answer). ReadIs (take len out) us vs a us' vs')
          (is-done r.answer (sym r.number)) r.is);
    }

pub called-safely : CalledSafely
called-safely = record {
  demand_3 = λ {xs = xs} {ls = ls} c.
      let w = same c in
      subst (λ (h : List (Said ℕ)). Demand3 0 14 h
      (λ b k l r. answer_number (holds_on xs ls b k l r)) (firsts_in xs ls))
      w.is (safe_by_numbers.demand_3 (safely w.holds));
  not-empty = (
    load,
    λ h xs ls c e.
        let w = same c in
        let t = both_hold w.holds
        (sym (same-calls answer_number w.talk) ∙ ap calls w.is ∙ e) in
        (ap answer_number t.0, ap answer_number t.1),
  );
}
