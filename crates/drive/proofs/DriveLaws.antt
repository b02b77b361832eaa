-- One question after another, and what comes of them all.
use Prim.Native.Nat.{ℕ, zero, suc, ◌+◌, ◌≤◌, ◌<◌}
use mathlib.Core.Path.{◌≡◌, refl, sym, ap, ◌∙◌, subst}
use mathlib.Core.Bool.{Bool, true, false, cond}
use mathlib.Core.List.{List, [], ◌∷◌}
use native.Mathlib.Omega.{arith}
use lib.ListN.{length, get_or, set, length-set, get_or-eq_default}
use lib.Seq.{get_or-set_same, get_or-set_other}
use borrow.Author.Tests.{lt-ltb, le-ltb}
use Rattle.rules.specs.Answers.{is_refusal}
use Rattle.rules.specs.Needs.{ruled}
use Rattle.rules.specs.Numbers.{answer_number}
use Rattle.rules.specs.Sizes.{sizes_form}
use Rattle.rules.specs.Site.{Site, Outcome, fresh}
use Rattle.rules.specs.declared.model.Answer.{Answer}
use Rattle.rules.specs.declared.model.Call.{Call}
use Rattle.rules.specs.declared.model.Refusal.{Refusal}
use Rattle.rules.specs.Step.{did, refused}
use Rattle.laws.specs.Frames.{CallFits}
use Rattle.laws.proofs.Logic.{Or, left, right, All, nil, cons, below?, true≠false}
use Rattle.laws.proofs.StepLaws.{sizes_run}
use Rattle.memory.specs.Memory.{enough, past_site, past_links, site_of}
use Rattle.site.specs.Entries.{After, FreshMade, fresh_on, step_on, holds_on}
use Rattle.said.specs.Said.{Said, called, held, calls, Talk}
use Rattle.said.specs.Demand3.{Demand3}
use Rattle.said.proofs.Past.{run_is}
use Rattle.said.proofs.ByNumbers.{safe_by_numbers}
use Rattle.safety.specs.Demand3.{start}
use Rattle.engine_safety.specs.Served.{Served, firsts_in}
use Rattle.engine_safety.specs.Served as engine
use Rattle.engine_safety.proofs.Filed.{holds-run, filed}
use Rattle.drive.specs.Script.{first_calls, call_of, asking, said_at, talk_of, questions_of}
use Rattle.drive.specs.Driven.{Answered, Asked, Drives, Driven}

-- ---- a call by its number

pub call-rest : {w : ℕ} (a b c : ℕ) → 15 ≤ w → Call.Deliver a b ≡ call_of w a b c
unfolding call_of
call-rest a b c h = sym (get_or-eq_default (first_calls a b c) (Call.Deliver a b) h)

-- none of the numbers below k
abbrev pub NoneBelow : ℕ → ℕ → Type 0
NoneBelow zero w = Unit
NoneBelow (suc k) w = NoneBelow k w × (w ≡ k → ⊥)

pub none_below : (k w : ℕ) → NoneBelow k w → k ≤ w
none_below zero w h = omega arith
none_below (suc k) w (h, not) = go (none_below k w h) (below? k w)
  where
    go : k ≤ w → Or (k < w) (w ≤ k) → suc k ≤ w
    go f (left e) = omega (arith, e)
    go f (right e) = absurd (not (omega (arith, f, e)))

fits-at : (l : List Call) (w : ℕ) (d : Call) → All CallFits l → CallFits d
    → CallFits (get_or l w d)
fits-at [] w d fs f = f
fits-at (e ∷ l) zero d (cons g fs) f = g
fits-at (e ∷ l) (suc w) d (cons g fs) f = fits-at l w d fs f

call_fits : (w a b c : ℕ) → b < 4294967296 → c < 4294967296 → CallFits (call_of w a b c)
unfolding call_of
call_fits w a b c fb fc =
    fits-at (first_calls a b c) w (Call.Deliver a b)
    (cons tt (cons tt (cons tt (cons tt (cons {x = Call.Offer a b c} (fb, fc) (cons tt (cons tt
    (cons tt (cons tt (cons tt (cons tt (cons tt (cons tt (cons tt (cons tt nil))))))))))))))) tt

-- ---- one question

module _ {xs ls xs' ls' : List ℕ} (which a b c d r : ℕ) where
  pub step-answered : {v : Answer} {e : Call} → which < 16 → b < 4294967296 → c < 4294967296
      → e ≡ call_of which a b c → After (step_on xs ls e) xs ls xs' ls' v → r ≡ answer_number v
      → Answered (asking which a b c d r) xs ls xs' ls'
  unfolding asking
  step-answered {v} h fb fc e after n =
      subst (λ (t : Bool). Answered (cond t (called (call_of which a b c) r) (held a b c d r))
      xs ls xs' ls') (sym (lt-ltb which 16 h)) (
        call_fits which a b c fb fc,
        v,
        n,
        subst (λ (f : Call). After (step_on xs ls f) xs ls xs' ls' v) e after,
      )

pub holds-answered : (xs ls : List ℕ) (which a b c d r : ℕ) → 16 ≤ which
    → r ≡ answer_number (holds_on xs ls a b c d) → Answered (asking which a b c d r) xs ls xs ls
unfolding asking
holds-answered xs ls which a b c d r h n =
    subst (λ (t : Bool). Answered (cond t (called (call_of which a b c) r) (held a b c d r))
    xs ls xs ls) (sym (le-ltb which 16 h)) (n, refl, refl)

-- ---- the questions before, and one more

talk-kept : (script after : List ℕ) (i r k : ℕ) → k ≤ i
    → talk_of script (set after i r) k ≡ talk_of script after k
unfolding talk_of
talk-kept script after i r zero h = refl
talk-kept script after i r (suc k) h =
    let same = get_or-set_other after i k r 0 (λ (e : k ≡ i). absurd (omega (arith, h, e))) in
    λ t. said_at script k (same t) ∷ talk-kept script after i r k (omega (arith, h)) t

talk-more : (script after : List ℕ) (i r : ℕ) → i < length after
    → talk_of script (set after i r) (i + 1) ≡ said_at script i r ∷ talk_of script after i
unfolding talk_of
talk-more script after i r h =
    let one : i + 1 ≡ suc i = omega arith in
    ap (talk_of script (set after i r)) one
    ∙ (λ t. said_at script i (get_or-set_same after i r 0 h t)
    ∷ talk-kept script after i r i (omega arith) t)

record Sized (n J L : ℕ) (s : Site) : Type 0 where
  n-is : s.n ≡ n
  J-is : s.J ≡ J
  L-is : s.L ≡ L

sizes_are : {n J L : ℕ} {h : Talk} {xs ls : List ℕ} → Served n J L h xs ls
    → Sized n J L (site_of xs ls)
unfolding fresh
sizes_are {n} {J} {L} {h} p =
    let e = run_is (holds-run p).said in
    let z = sizes_run (start n J L) (calls h) in
    record {
      n-is = ap (λ (s : Site). s.n) e ∙ z.n;
      J-is = ap (λ (s : Site). s.J) e ∙ z.J;
      L-is = ap (λ (s : Site). s.L) e ∙ z.L;
    }

-- what an entry leaves of the words past the site's own
module _ {n J L : ℕ} {o : Outcome} {xs ls xs' ls' : List ℕ} {a : Answer}
    (after : After o xs ls xs' ls' a) (z : Sized n J L (site_of xs' ls')) where
  n-next : o.next.n ≡ n
  n-next = ap (λ (s : Site). s.n) (sym after.site) ∙ z.n-is

  J-next : o.next.J ≡ J
  J-next = ap (λ (s : Site). s.J) (sym after.site) ∙ z.J-is

  L-next : o.next.L ≡ L
  L-next = ap (λ (s : Site). s.L) (sym after.site) ∙ z.L-is

  past-rows : past_site n J xs' ≡ past_site n J xs
  past-rows =
      subst (λ (j : ℕ). past_site n j xs' ≡ past_site n j xs) J-next
      (subst (λ (m : ℕ). past_site m o.next.J xs' ≡ past_site m o.next.J xs) n-next
      after.past-site)

  past_rings : past_links n J L ls' ≡ past_links n J L ls
  past_rings =
      subst (λ (l : ℕ). past_links n J l ls' ≡ past_links n J l ls) L-next
      (subst (λ (j : ℕ). past_links n j o.next.L ls' ≡ past_links n j o.next.L ls) J-next
      (subst (λ (m : ℕ). past_links m o.next.J o.next.L ls'
      ≡ past_links m o.next.J o.next.L ls) n-next after.past-links))

-- ---- all questions

same-words : {n J L : ℕ} {h : Talk} {xs ls ys ks : List ℕ} → xs ≡ ys → ls ≡ ks
    → Served n J L h xs ls → Served n J L h ys ks
same-words {n} {J} {L} {h} {xs} {ks = ks} e f p =
    subst (λ (us : List ℕ). Served n J L h us ks) e
    (subst (λ (vs : List ℕ). Served n J L h xs vs) f p)

module _ (n J L : ℕ) (script before xs ls : List ℕ) where
  pub asked-none : Served n J L [] xs ls → Asked n J L script before before xs ls xs ls 0
  unfolding talk_of
  asked-none p = record {
    talk = [];
    served = p;
    answers = refl;
    rest = λ i e. refl;
    as_many = refl;
    site-words = refl;
    links-words = refl;
    past-site = refl;
    past-links = refl;
  }

  module _ {after xs' ls' : List ℕ} (i r : ℕ)
      (p : Asked n J L script before after xs ls xs' ls' i) (in-range : i < length after) where
    -- the answers
    rest_more : (j : ℕ) → i + 1 ≤ j → get_or (set after i r) j 0 ≡ get_or before j 0
    rest_more j e =
        get_or-set_other after i j r 0 (λ (f : j ≡ i). absurd (omega (arith, e, f)))
        ∙ p.rest j (omega (arith, e))

    -- by what was said
    with-said : {ys ks : List ℕ} (w : Said ℕ) → Answered w xs' ls' ys ks
        → talk_of script (set after i r) (i + 1) ≡ w ∷ talk_of script after i
        → Asked n J L script before (set after i r) xs ls ys ks (i + 1)
    with-said (called d m) (fits, a, e, s) more =
        let served = engine.stepped d fits p.served s in
        let z = sizes_are served in
        record {
          talk = called d a ∷ p.talk;
          served = served;
          answers = (λ t. called d (sym e t) ∷ p.answers t) ∙ sym more;
          rest = rest_more;
          as_many = length-set after i r ∙ p.as_many;
          site-words = s.site-words ∙ p.site-words;
          links-words = s.links-words ∙ p.links-words;
          past-site = past-rows s z ∙ p.past-site;
          past-links = past_rings s z ∙ p.past-links;
        }
    with-said (held b k l m q) (e, fx, fl) more = record {
      talk = held b k l m (holds_on xs' ls' b k l m) ∷ p.talk;
      served = same-words (sym fx) (sym fl) (engine.asked b k l m p.served);
      answers = (λ t. held b k l m (sym e t) ∷ p.answers t) ∙ sym more;
      rest = rest_more;
      as_many = length-set after i r ∙ p.as_many;
      site-words = ap length fx ∙ p.site-words;
      links-words = ap length fl ∙ p.links-words;
      past-site = ap (past_site n J) fx ∙ p.past-site;
      past-links = ap (past_links n J L) fl ∙ p.past-links;
    }

    pub asked-more : {ys ks : List ℕ} → Answered (said_at script i r) xs' ls' ys ks
        → Asked n J L script before (set after i r) xs ls ys ks (i + 1)
    asked-more w = with-said (said_at script i r) w (talk-more script after i r in-range)

-- ---- a fresh site first

fresh-done : (xs ls : List ℕ) (n J L : ℕ) → is_refusal (fresh_on xs ls n J L).answer ≡ false
    → (fresh_on xs ls n J L).answer ≡ Answer.Done
unfolding fresh_on ruled
fresh-done xs ls n J L = go (sizes_form n J L) (enough n J L xs ls)
  where
    go : (x y : Bool)
        → is_refusal (cond x (cond y (did (fresh n J L)) (refused (site_of xs ls) Refusal.Buffer))
        (refused (site_of xs ls) Refusal.Sizes)).answer ≡ false
        → (cond x (cond y (did (fresh n J L)) (refused (site_of xs ls) Refusal.Buffer))
        (refused (site_of xs ls) Refusal.Sizes)).answer ≡ Answer.Done
    go true true e = refl
    go true false e = absurd (true≠false e)
    go false y e = absurd (true≠false e)

pub not-driven : {n J L : ℕ} {script before xs ls xs' ls' : List ℕ} {a : Answer}
    → FreshMade n J L xs ls xs' ls' a → is_refusal a ≡ true
    → Driven n J L script before before xs ls xs' ls' a
not-driven m e = record {
  answer = m.after.answer;
  refused = λ r. let k = m.after.kept e in (k.0, k.1, refl);
  done = λ f. absurd (true≠false (sym e ∙ f));
  demand_3 = λ f. absurd (true≠false (sym e ∙ f));
}

module _ {n J L : ℕ} {script before after xs ls ys ks xs' ls' : List ℕ} {a : Answer}
    (m : FreshMade n J L xs ls ys ks a) (e : is_refusal a ≡ false)
    (d : Drives script before after ys ks xs' ls') where
  begun : Served n J L [] ys ks
  begun =
      engine.made (subst (FreshMade n J L xs ls ys ks)
      (m.after.answer ∙ fresh-done xs ls n J L (ap is_refusal (sym m.after.answer) ∙ e)) m)

  all_asked : Asked n J L script before after xs ls xs' ls' (questions_of script before)
  all_asked =
      let p = d n J L begun in
      let z = sizes_are begun in
      record {
        talk = p.talk;
        served = p.served;
        answers = p.answers;
        rest = p.rest;
        as_many = p.as_many;
        site-words = p.site-words ∙ m.after.site-words;
        links-words = p.links-words ∙ m.after.links-words;
        past-site = p.past-site ∙ past-rows m.after z;
        past-links = p.past-links ∙ past_rings m.after z;
      }

  pub driven : Driven n J L script before after xs ls xs' ls' a
  driven = record {
    answer = m.after.answer;
    refused = λ r. absurd (true≠false (sym r ∙ e));
    done = λ f. all_asked;
    demand_3 = λ f.
        subst (λ (h : List (Said ℕ)). Demand3 0 14 h
        (λ b k l r. answer_number (holds_on xs' ls' b k l r)) (firsts_in xs' ls'))
        all_asked.answers (safe_by_numbers.demand_3 (filed.demand_3 all_asked.served));
  }
