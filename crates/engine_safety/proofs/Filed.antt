-- The words hold the site of a run, so what is true of every run is true of them.
use Prim.Native.Nat.{ℕ, ◌≤◌}
use mathlib.Core.Path.{◌≡◌, refl, sym, ap, ◌∙◌, subst}
use mathlib.Core.Bool.{Bool, true, false, ◌&&◌}
use mathlib.Core.List.{List, [], ◌∷◌}
use lib.Dec.{leb}
use lib.ListN.{length, take}
use Rattle.rules.specs.Sizes.{sizes_form}
use Rattle.rules.specs.Answers.{is_refusal}
use Rattle.rules.specs.Box.{Letter}
use Rattle.rules.specs.Site.{Site, Outcome, fresh}
use Rattle.rules.specs.Step.{step, run, holds}
use Rattle.rules.specs.declared.model.Answer.{Answer}
use Rattle.rules.specs.declared.model.Call.{Call}
use Rattle.laws.specs.Frames.{CallFits}
use Rattle.laws.proofs.Logic.{Or, left, right, decide, true≠false}
use Rattle.laws.proofs.LeftAlone.{other-box}
use Rattle.memory.specs.Memory.{site_words, links_words, site_of, memory_form}
use Rattle.memory.proofs.LentLaws.{form-readable}
use Rattle.site.specs.Entries.{After, FreshMade, fresh_on, step_on, holds_on}
use Rattle.site.proofs.AfterLaws.{need-met, no_needs}
use Rattle.site.proofs.FreshAfter.{fresh-sizes, fresh-short}
use Rattle.site.proofs.Once.{form-kept, held-formed}
use Rattle.image.proofs.MemoryImage.{one_memory}
use Rattle.std.specs.Prelude.{Ok}
use Rattle.writer.specs.Writer.{WriteIs}
use Rattle.reader.specs.Reader.{ReadIs}
use Rattle.reader.specs.Reader as reader
use Rattle.reader.proofs.RoundTrips.{front-written}
use Rattle.safety.specs.Demand3.{In, start}
use Rattle.safety.specs.Begins.{BeginComes}
use Rattle.safety.proofs.Demand.{demand_3}
use Rattle.safety.proofs.Begins.{begins}
use Rattle.said.specs.Said.{Talk, called, held, calls}
use Rattle.said.specs.Spoken.{Spoken, Safe}
use Rattle.said.specs.Spoken as spoken
use Rattle.said.proofs.Past.{in-range, run_is}
use Rattle.said.proofs.Example.{load, computed}
use Rattle.said.proofs.Spoke.{spoken-safely}
use Rattle.engine_safety.specs.Served.{Served, made, stepped, asked, stored, firsts_in, Filed}

abbrev enough : List ℕ → List ℕ → ℕ → ℕ → ℕ → Bool
enough xs ls n J L = leb (site_words n J) (length xs) && leb (links_words n J L) (length ls)

-- what `fresh` answered with Done it made
module _ {n J L : ℕ} {xs ls xs' ls' : List ℕ} (m : FreshMade n J L xs ls xs' ls' Answer.Done) where
  sizes-right : sizes_form n J L ≡ true
  sizes-right = go (decide (sizes_form n J L))
    where
      go : Or (sizes_form n J L ≡ true) (sizes_form n J L ≡ false) → sizes_form n J L ≡ true
      go (left e) = e
      go (right e) =
          absurd (true≠false
          (ap is_refusal ((fresh-sizes xs ls n J L e).after.answer ∙ sym m.after.answer)))

  words-enough : enough xs ls n J L ≡ true
  words-enough = go (decide (enough xs ls n J L))
    where
      go : Or (enough xs ls n J L ≡ true) (enough xs ls n J L ≡ false) → enough xs ls n J L ≡ true
      go (left e) = e
      go (right e) =
          absurd (true≠false
          (ap is_refusal ((fresh-short xs ls n J L sizes-right e).after.answer ∙ sym
          m.after.answer)))

  is-fresh : site_of xs' ls' ≡ fresh n J L
  unfolding fresh_on
  is-fresh =
      m.after.site
      ∙ ap (λ (o : Outcome). o.next)
      (need-met _ _ _ _ _ sizes-right ∙ need-met _ _ _ _ _ words-enough ∙ no_needs _ _)

-- a call of `step` on words by form
module _ {xs ls xs' ls' : List ℕ} {a : Answer} (d : Call) (f : memory_form xs ls ≡ true)
    (after : After (step_on xs ls d) xs ls xs' ls' a) where
  pub inner : After (step (site_of xs ls) d) xs ls xs' ls' a
  unfolding step_on
  inner = rw (form-readable xs ls f) at after

-- what `read` has read
read-form : {bytes us vs us' vs' : List ℕ} {a : Answer} → a ≡ Answer.Done
    → ReadIs bytes us vs a us' vs' → reader.Holds bytes us vs us' vs'
read-form e (reader.not-by-form p) = absurd (true≠false (ap is_refusal e))
read-form e (reader.too_short s f g r) = absurd (true≠false (ap is_refusal e))
read-form e (reader.done h) = h

-- the words are by form, and what was said of them the rules answer of their site
pub record Holds (n J L : ℕ) (h : Talk) (xs ls : List ℕ) : Type 0 where
  pub form : memory_form xs ls ≡ true
  pub said : Spoken n J L h (site_of xs ls)

module _ {n J L : ℕ} where
  pub holds-made : {xs ls xs' ls' : List ℕ} → FreshMade n J L xs ls xs' ls' Answer.Done
      → Holds n J L [] xs' ls'
  holds-made m = record {
    form = m.form refl;
    said = subst (Spoken n J L []) (sym (is-fresh m)) (spoken.begun (sizes-right m));
  }

  module _ {h : Talk} {xs ls : List ℕ} (was : Holds n J L h xs ls) where
    pub holds-stepped : {xs' ls' : List ℕ} {a : Answer} (d : Call) → CallFits d
        → After (step_on xs ls d) xs ls xs' ls' a → Holds n J L (called d a ∷ h) xs' ls'
    holds-stepped {a = a} d fits after =
        let i = inner d was.form after in
        record {
          form = form-kept d fits was.form i;
          said = subst (λ (s : Site). Spoken n J L (called d a ∷ h) s) (sym i.site)
              (subst (λ (b : Answer). Spoken n J L (called d b ∷ h) (step (site_of xs ls) d).next)
              (sym i.answer) (spoken.stepped d fits was.said));
        }

    pub holds_asked : (b k l r : ℕ)
        → Holds n J L (held b k l r (holds_on xs ls b k l r) ∷ h) xs ls
    holds_asked b k l r = record {
      form = was.form;
      said = subst (λ (a : Answer). Spoken n J L (held b k l r a ∷ h) (site_of xs ls))
          (sym (held-formed xs ls b k l r was.form)) (spoken.asked b k l r was.said);
    }

    pub holds-stored : {out out' us vs us' vs' : List ℕ} (m : ℕ)
        → WriteIs xs ls out (Ok m) out'
        → ReadIs (take m out') us vs Answer.Done us' vs' → Holds n J L h us' vs'
    holds-stored {us' = us} {vs' = vs} m w r =
        let bytes = (front-written m refl w).1 in
        let now = read-form refl r in
        record {
          form = now.form;
          said = subst (Spoken n J L h)
              (one_memory xs ls us vs was.form now.form (sym (now.image ∙ bytes)))
              was.said;
        }

pub holds-run : {n J L : ℕ} {h : Talk} {xs ls : List ℕ} → Served n J L h xs ls
    → Holds n J L h xs ls
holds-run (made m) = holds-made m
holds-run (stepped d fits served after) = holds-stepped (holds-run served) d fits after
holds-run (asked b k l r served) = holds_asked (holds-run served) b k l r
holds-run (stored m served w r) = holds-stored (holds-run served) m w r

module _ {n J L : ℕ} {h : Talk} {xs ls : List ℕ} (w : Holds n J L h xs ls) where
  pub safely : Safe h (holds_on xs ls) (firsts_in xs ls)
  safely =
      subst (λ (now : ℕ → ℕ → ℕ → ℕ → Answer). Safe h now (firsts_in xs ls))
      (λ t b k l r. sym (held-formed xs ls b k l r w.form) t)
      (spoken-safely.demand_3 w.said)

  -- what is true of every run's Begins is true of these
  begins-served : (a b : ℕ) → In b n → (ahead : List Letter) (y : Letter)
      → BeginComes (site_of xs ls) a b ahead y
      → y.head.pn ≡ ((site_of xs ls).box b).head.kept.pn
  begins-served =
      subst
      (λ (s : Site). (a b : ℕ) → In b n → (ahead : List Letter) (y : Letter)
      → BeginComes s a b ahead y → y.head.pn ≡ (s.box b).head.kept.pn)
      (sym (run_is w.said)) (begins.promised n J L (in-range w.said) (calls h))

pub both_hold : {h : Talk} {xs ls : List ℕ} → Holds 2 16 8 h xs ls → calls h ≡ load
    → (holds_on xs ls 1 1 71 72 ≡ Answer.Done) × (holds_on xs ls 2 1 71 72 ≡ Answer.Done)
both_hold {xs = xs} {ls = ls} w e =
    let at = run_is w.said ∙ ap (run (start 2 16 8)) e in (
      held-formed xs ls 1 1 71 72 w.form
          ∙ ap (λ (s : Site). holds s 1 1 71 72) at ∙ computed.one,
      held-formed xs ls 2 1 71 72 w.form
          ∙ ap (λ (s : Site). holds s 2 1 71 72) at ∙ computed.two,
    )

-- neither first nor last falls at a call of `step` on words by form
falls-not : {xs ls xs' ls' : List ℕ} {a : Answer} (d : Call) → memory_form xs ls ≡ true
    → After (step_on xs ls d) xs ls xs' ls' a → (b : ℕ)
    → (firsts_in xs ls b ≤ firsts_in xs' ls' b)
    × (((site_of xs ls).box b).head.kept.last ≤ ((site_of xs' ls').box b).head.kept.last)
unfolding run
falls-not {xs} {ls} d f after b =
    subst
    (λ (s : Site). (firsts_in xs ls b ≤ (s.box b).head.kept.first)
    × (((site_of xs ls).box b).head.kept.last ≤ (s.box b).head.kept.last))
    (sym (inner d f after).site) (demand_3.never-falls (site_of xs ls) (d ∷ []) b)

pub filed : Filed
filed = record {
  demand_3 = λ served. safely (holds-run served);
  not-empty = (load, λ h xs ls served e. both_hold (holds-run served) e);
  never-falls = λ d served after b. falls-not d (holds-run served).form after b;
  stopped = λ c b served after.
      let i = inner (Call.Stop c) (holds-run served).form after in
      ap (λ (s : Site). s.box b) i.site ∙ other-box _ b (Call.Stop c) tt;
  returned = λ c b served after.
      let i = inner (Call.Return c) (holds-run served).form after in
      ap (λ (s : Site). s.box b) i.site ∙ other-box _ b (Call.Return c) tt;
  begins = λ served. begins-served (holds-run served);
}
