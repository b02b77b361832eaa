-- A run goes on turn by turn, and ends.
use Prim.Native.Nat.{ℕ, zero, suc, ◌+◌, ◌-◌, ◌≤◌, ◌<◌}
use mathlib.Core.Path.{◌≡◌, refl, sym, ap, ◌∙◌, subst}
use mathlib.Core.Bool.{Bool, true, false}
use mathlib.Core.List.{List}
use native.Mathlib.Numerals.{add-one, sub-one}
use native.Mathlib.Omega.{arith}
use lib.Dec.{eqb}
use Rattle.rules.specs.Pick.{pick}
use Rattle.rules.specs.Answers.{is_refusal}
use Rattle.rules.specs.Site.{Site}
use Rattle.rules.specs.Step.{step}
use Rattle.rules.specs.declared.model.Answer.{Answer}
use Rattle.rules.specs.declared.model.Call.{Call}
use Rattle.rules.specs.declared.model.Refusal.{Refusal}
use Rattle.laws.proofs.Logic.{Or, left as less, right as most, true≠false, eqb_yes}
use Rattle.laws.proofs.Logic.{below?}
use Rattle.laws.proofs.StepLaws.{sizes_step}
use Rattle.wait.specs.Run.{Outcome, sender_of, leader_turn, next_turn, ended, go_on, take, run_from}
use Rattle.std.specs.Prelude.{Option, Some, None, Ok, Err}
use Rattle.wait.specs.declared.model.Run.{Run}
use Rattle.wait.proofs.FirstLaws.{next-own}
use Rattle.wait.proofs.RunLaws.{run-over, run-on}
use Rattle.memory.specs.Memory.{site_of, memory_form}
use Rattle.site.specs.Entries.{FormedStep}
use Rattle.until.specs.Turns.{mail_turn, Took, Gone, UsedIs, RanOn, HandedIs}
use Rattle.until.specs.declared.turns.Handed.{Handed}
use Rattle.until.specs.declared.turns.Went.{Went}

-- ---- the next turn

abbrev is_turn : Option Call → Bool
is_turn None = false
is_turn (Some d) = true

module _ (s : Site) where
  next-mail : {d : Call} → mail_turn s ≡ Some d → next_turn s ≡ Some d
  unfolding mail_turn next_turn pick
  next-mail {d} = go (eqb (sender_of s) 0) (leader_turn s) _
    where
      go : (t : Bool) (l m : Option Call) → pick t None m ≡ Some d
          → pick t l m ≡ Some d
      go true l m e = absurd (true≠false (sym (ap is_turn e)))
      go false l m e = e

  none_left : mail_turn s ≡ None → sender_of s ≡ 0
  unfolding mail_turn pick
  none_left e = eqb_yes (sender_of s) 0 (go (eqb (sender_of s) 0) _ e)
    where
      go : (t : Bool) (d : Call) → pick t None (Some d) ≡ None → t ≡ true
      go true d e = refl
      go false d e = absurd (true≠false (ap is_turn e))

-- ---- the run from here

module _ (s : Site) where
  run_none : (left used : ℕ) → left ≡ 0 → run_from left used s ≡ ended s (Run.Ran used)
  unfolding run_from
  run_none zero used e = refl
  run_none (suc left) used e = absurd (omega (arith, e))

  module _ {d : Call} (turn : next_turn s ≡ Some d) where
    stops : (more : Site → Outcome) (used : ℕ) (s' : Site) {why : Refusal} {a : Answer}
        → a ≡ Answer.Refused why → go_on more used s a s' ≡ ended s (Run.Stopped why used)
    unfolding go_on
    stops more used s' q = ap (λ (b : Answer). go_on more used s b s') q

    run-stopped : (left used : ℕ) {why : Refusal} → 0 < left
        → (step s d).answer ≡ Answer.Refused why
        → run_from left used s ≡ ended s (Run.Stopped why used)
    unfolding run_from take
    run-stopped zero used h q = absurd (omega arith)
    run-stopped (suc left) used h q =
        ap (take (run_from left (suc used)) used s) turn ∙ stops (run_from left (suc used)) used _ q

    run_more : (left used : ℕ) → 0 < left → is_refusal (step s d).answer ≡ false
        → run_from left used s ≡ run_from (left - 1) (used + 1) (step s d).next
    run_more zero used h q = absurd (omega arith)
    run_more (suc left) used h q =
        run-on left used s d turn q
        ∙ (λ i. run_from (sym (sub-one (suc left)) i) (sym (add-one used) i) (step s d).next)

-- ---- several turns

pub gone-none : {left used : ℕ} {xs ls : List ℕ} → memory_form xs ls ≡ true
    → Gone left used xs ls left used xs ls
gone-none f = record {
  same = refl;
  sum = refl;
  fewer = omega arith;
  kept = λ e. (refl, refl);
  n = refl;
  J = refl;
  L = refl;
  past-site = refl;
  past-links = refl;
  site-words = refl;
  links-words = refl;
  form = f;
}

pub gone-then : {l u m v k w : ℕ} {xs ls ys ms zs ns : List ℕ} → Gone l u xs ls m v ys ms
    → Gone m v ys ms k w zs ns → Gone l u xs ls k w zs ns
gone-then {l} {u} {m} {v} {k} {w} p q = record {
  same = p.same ∙ q.same;
  sum = q.sum ∙ p.sum;
  fewer = omega (arith, p.fewer, q.fewer);
  kept = λ e.
      let first = p.kept (omega (arith, e, p.sum, q.sum, p.fewer, q.fewer)) in
      let then = q.kept (omega (arith, e, p.sum, q.sum, p.fewer, q.fewer)) in
      (then.0 ∙ first.0, then.1 ∙ first.1);
  n = q.n ∙ p.n;
  J = q.J ∙ p.J;
  L = q.L ∙ p.L;
  past-site = (rw (p.n, p.J) at q.past-site) ∙ p.past-site;
  past-links = (rw (p.n, p.J, p.L) at q.past-links) ∙ p.past-links;
  site-words = q.site-words ∙ p.site-words;
  links-words = q.links-words ∙ p.links-words;
  form = q.form;
}

pub ran_then : {l u m v : ℕ} {xs ls ys ms zs ns : List ℕ} {r : Run} → Gone l u xs ls m v ys ms
    → RanOn m v ys ms zs ns r → RanOn l u xs ls zs ns r
ran_then p q = record {
  left' = q.left';
  used' = q.used';
  gone = gone-then p q.gone;
  ends = q.ends;
  counts = q.counts;
}

-- ---- one turn

module _ (xs ls : List ℕ) (left used : ℕ) where
  gone-step : {d : Call} {a : Answer} {ys ms : List ℕ} → 0 < left
      → next_turn (site_of xs ls) ≡ Some d → is_refusal a ≡ false → FormedStep d xs ls ys ms a
      → Gone left used xs ls (left - 1) (used + 1) ys ms
  gone-step {d} {a} {ys} {ms} h turn go f =
      let s = site_of xs ls in
      let z = sizes_step s d in
      record {
        same = run_more s turn left used h (ap is_refusal (sym f.after.answer) ∙ go)
            ∙ ap (run_from (left - 1) (used + 1)) (sym f.after.site);
        sum = omega arith;
        fewer = omega arith;
        kept = λ e. absurd (omega (arith, e));
        n = ap (λ (t : Site). t.n) f.after.site ∙ z.n;
        J = ap (λ (t : Site). t.J) f.after.site ∙ z.J;
        L = ap (λ (t : Site). t.L) f.after.site ∙ z.L;
        past-site = rw (z.n, z.J) at f.after.past-site;
        past-links = rw (z.n, z.J, z.L) at f.after.past-links;
        site-words = f.after.site-words;
        links-words = f.after.links-words;
        form = f.form;
      }

  module _ (form : memory_form xs ls ≡ true) where
    -- it ends here
    pub ends-here : {ys ms : List ℕ} {r : Run} → (ys ≡ xs) × (ms ≡ ls)
        → run_from left used (site_of xs ls) ≡ ended (site_of xs ls) r → UsedIs r used
        → RanOn left used xs ls ys ms r
    ends-here same e u = rw (same.0, same.1) (record {
      left' = left;
      used' = used;
      gone = gone-none form;
      ends = e;
      counts = u;
    })

    pub ends-none : left ≡ 0 → RanOn left used xs ls xs ls (Run.Ran used)
    ends-none e = ends-here (refl, refl) (run_none (site_of xs ls) left used e) refl

    -- what the code has asked for, and what came of it
    module _ (next : Option Call) (w : Went) (ys ms : List ℕ) (took : Took w next xs ls ys ms) where
      abbrev Is : Type 0
      Is = (d : Call) → next ≡ Some d → next_turn (site_of xs ls) ≡ Some d

      took_as : {v : Went} → w ≡ v → Took v next xs ls ys ms
      took_as e = subst (λ (v : Went). Took v next xs ls ys ms) e took

      pub played : Is → 0 < left → w ≡ Went.Played
          → Gone left used xs ls (left - 1) (used + 1) ys ms
      played is h e =
          let (d, a, turn, go, f) = took_as e in gone-step h (is d turn) go f

      pub stopped : Is → 0 < left → {why : Refusal} → w ≡ Went.Refused why
          → RanOn left used xs ls ys ms (Run.Stopped why used)
      stopped is h e =
          let (d, turn, f) = took_as e in
          ends-here (f.after.kept refl)
          (run-stopped (site_of xs ls) (is d turn) left used h (sym f.after.answer)) refl

      pub nothing : next_turn (site_of xs ls) ≡ next → w ≡ Went.Nothing
          → RanOn left used xs ls ys ms (Run.Ran used)
      nothing is e =
          let t = took_as e in
          ends-here t.1 (run-over left used (site_of xs ls) (is ∙ t.0)) refl

-- ---- a mail's turn, and a leader's

module _ (xs ls : List ℕ) {next : Option Call} (asked : next ≡ mail_turn (site_of xs ls)) where
  pub by-mail : (d : Call) → next ≡ Some d → next_turn (site_of xs ls) ≡ Some d
  by-mail d e = next-mail (site_of xs ls) (sym asked ∙ e)

  pub no-mail : next ≡ None → sender_of (site_of xs ls) ≡ 0
  no-mail e = none_left (site_of xs ls) (sym asked ∙ e)

module _ (xs ls : List ℕ) {next : Option Call} (asked : next ≡ leader_turn (site_of xs ls))
    (no : sender_of (site_of xs ls) ≡ 0) where
  pub by-leader : next_turn (site_of xs ls) ≡ next
  by-leader = next-own (site_of xs ls) no ∙ sym asked

  pub leads-to : (d : Call) → next ≡ Some d → next_turn (site_of xs ls) ≡ Some d
  leads-to d e = by-leader ∙ e

-- ---- heads handed over

abbrev pub on : ℕ → ℕ → Handed
on l u = record { left = l; used = u }

module _ {left used l u : ℕ} {xs ls ys ms : List ℕ} (gone : Gone left used xs ls l u ys ms) where
  pub handed-end : l ≤ 0 → HandedIs (Ok (on l u)) left used xs ls ys ms
  handed-end h = (gone, λ g. absurd (omega arith))

  module _ {next : Option Call} (asked : next ≡ mail_turn (site_of ys ms)) (w : Went)
      (zs ns : List ℕ) (took : Took w next ys ms zs ns) where
    pub handed-none : w ≡ Went.Nothing → HandedIs (Ok (on l u)) left used xs ls zs ns
    handed-none e =
        let t = subst (λ (v : Went). Took v next ys ms zs ns) e took in
        rw (t.1.0, t.1.1) (gone, λ g. no-mail ys ms asked t.0)

    pub handed-more : 0 < l → w ≡ Went.Played → Gone left used xs ls (l - 1) (u + 1) zs ns
    handed-more h e =
        gone-then gone (played ys ms l u gone.form next w zs ns took (by-mail ys ms asked) h e)

    pub handed-stop : 0 < l → {why : Refusal} → w ≡ Went.Refused why
        → HandedIs (Err (record { why = why; used = u })) left used xs ls zs ns
    handed-stop h e =
        ran_then gone (stopped ys ms l u gone.form next w zs ns took (by-mail ys ms asked) h e)

-- some mail was there and a step was left, so that fewer are now
pub handed-fewer : {k used l u : ℕ} {xs ls ys ms : List ℕ} → 0 < k
    → 0 < sender_of (site_of xs ls) → HandedIs (Ok (on l u)) k used xs ls ys ms → l < k
handed-fewer {k} {used} {l} {u} {xs} {ls} {ys} {ms} h some (gone, none) = go (below? l k)
  where
    go : Or (l < k) (k ≤ l) → l < k
    go (less b) = b
    go (most b) =
        let same = gone.kept (omega (arith, b, gone.fewer, gone.sum)) in
        let no : sender_of (site_of xs ls) ≡ 0 =
        (λ i. sender_of (site_of (sym same.0 i) (sym same.1 i)))
        ∙ none (omega (arith, h, b)) in
        absurd (omega (arith, some, no))
