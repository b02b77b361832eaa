-- Who heard a lease, of the words that hold the site of a run.
use Rattle.std.specs.Prelude.{Result, Ok, Err}
use Prim.Native.Nat.{ℕ}
use mathlib.Core.Path.{◌≡◌, refl, sym, ap, ◌∙◌, subst}
use mathlib.Core.Bool.{Bool, true, false, not, cond, ◌&&◌}
use mathlib.Core.List.{List}
use lib.Bits.{bit_and, bit_xor, xor_self, and_comm}
use lib.Dec.{eqb}
use Rattle.rules.specs.Pick.{pick}
use Rattle.rules.specs.Sets.{has}
use Rattle.rules.specs.Form.{form}
use Rattle.rules.specs.Site.{Site, Outcome, setting, is_box, fresh}
use Rattle.rules.specs.Needs.{ruled}
use Rattle.rules.specs.Step.{step, run}
use Rattle.rules.specs.Unheard.{lease_is_out, unanswered, unheard_by, unheard}
use Rattle.rules.specs.declared.model.Answer.{Answer}
use Rattle.rules.specs.declared.model.Call.{Call}
use Rattle.rules.specs.declared.model.Refusal.{Refusal}
use Rattle.laws.proofs.Logic.{In, eqb_yes, true≠false, and_yes}
use Rattle.laws.proofs.SetLaws.{has-less, set_in}
use Rattle.laws.proofs.FormLaws.{form-says, is-box, box-is}
use Rattle.laws.proofs.StepLaws.{sizes_run}
use Rattle.memory.specs.Memory.{site_of}
use Rattle.memory.proofs.LentLaws.{form-readable, form-site}
use Rattle.site.specs.Entries.{step_on}
use Rattle.site.proofs.Once.{asked-formed}
use Rattle.safety.specs.Demand3.{start}
use Rattle.safety.specs.Heard.{LeaseOut, TakesLease, TookLease}
use Rattle.safety.specs.Heard as model
use Rattle.safety.proofs.HeardRun.{heard, is-heard}
use Rattle.said.specs.Said.{Talk, calls}
use Rattle.said.proofs.Past.{in-range, run_is}
use Rattle.engine_safety.specs.Served.{Served, made, stepped, asked, stored}
use Rattle.engine_safety.specs.Leased.{Names, Out, Present, Took, Leased}
use Rattle.engine_safety.specs.Leased as words
use Rattle.engine_safety.proofs.Filed.{inner, Holds, holds-run}

-- ---- what is named

set_of : Result ℕ Refusal → ℕ
set_of (Ok w) = w
set_of (Err why) = 0

is_set : Result ℕ Refusal → Bool
is_set (Ok w) = true
is_set (Err why) = false

record Named (s : Site) (c w : ℕ) : Type 0 where
  box : In c s.n
  out : LeaseOut s c
  set : w ≡ unanswered (s.box c).head (setting s c)

named : (s : Site) (c w : ℕ) → unheard s c ≡ Ok w → Named s c w
unfolding unheard ruled unheard_by pick is_set set_of
named s c w e =
    let p = go (form s) (is_box s.n c) (lease_is_out (s.box c).head (setting s c))
    (unanswered (s.box c).head (setting s c)) e in
    record { box = is-box p.0; out = p.1; set = p.2 }
  where
    go : (f i o : Bool) (u : ℕ)
        → cond f (cond i (pick o (Ok u) (Err Refusal.Condition))
        (Err Refusal.Box)) (Err Refusal.Form) ≡ Ok w
        → (i ≡ true) × (o ≡ true) × (w ≡ u)
    go true true true u e = (refl, refl, sym (ap set_of e))
    go true true false u e = absurd (true≠false (sym (ap is_set e)))
    go true false o u e = absurd (true≠false (sym (ap is_set e)))
    go false i o u e = absurd (true≠false (sym (ap is_set e)))

naming : (s : Site) (c : ℕ) → form s ≡ true → In c s.n → LeaseOut s c
    → unheard s c ≡ Ok (unanswered (s.box c).head (setting s c))
unfolding unheard ruled unheard_by pick
naming s c f h o = rw (f, box-is h, o) refl

-- ---- of words that hold the site of a run

module _ {n J L : ℕ} {h : Talk} {xs ls : List ℕ} (k : Holds n J L h xs ls) where
  at-run : site_of xs ls ≡ run (start n J L) (calls h)
  at-run = run_is k.said

  n-is : (site_of xs ls).n ≡ n
  unfolding fresh
  n-is = ap (λ (s : Site). s.n) at-run ∙ (sizes_run (start n J L) (calls h)).n

  its_box : (c : ℕ) → In c (site_of xs ls).n → In c n
  its_box c h = rw n-is at h

  names : {c w : ℕ} → Names xs ls c w → Named (site_of xs ls) c w
  names {c} {w} e = named (site_of xs ls) c w (sym (asked-formed xs ls c k.form) ∙ e)

  naming-all : (c : ℕ) → In c n → LeaseOut (site_of xs ls) c
      → Names xs ls c (unanswered ((site_of xs ls).box c).head (setting (site_of xs ls) c))
  naming-all c h o =
      asked-formed xs ls c k.form
      ∙ naming (site_of xs ls) c (form-site xs ls k.form) (rw n-is h) o

  out : {c : ℕ} → In c n → LeaseOut (site_of xs ls) c → Out xs ls c
  out {c} h o = (
    unanswered ((site_of xs ls).box c).head (setting (site_of xs ls) c),
    naming-all c h o,
  )

  steps : (d : Call) → step_on xs ls d ≡ step (site_of xs ls) d
  unfolding step_on
  steps d = rw (form-readable xs ls k.form) refl

  took-lease : (c b : ℕ) → In c n → In b n → (b ≡ c → ⊥) → LeaseOut (site_of xs ls) c
      → has ((site_of xs ls).box c).head.heard b ≡ true → TookLease (start n J L) c b (calls h)
  took-lease c b hc hb ne =
      subst
      (λ (s : Site). LeaseOut s c → has (s.box c).head.heard b ≡ true
      → TookLease (start n J L) c b (calls h))
      (sym at-run) (heard.took n J L (in-range k.said) (calls h) c b hc hb ne)

  all-took-lease : (c b : ℕ) → (b ≡ c → ⊥)
      → (step (site_of xs ls) (Call.Heard c)).answer ≡ Answer.Done → Present xs ls b
      → TookLease (start n J L) c b (calls h)
  all-took-lease c b ne =
      subst
      (λ (s : Site). (step s (Call.Heard c)).answer ≡ Answer.Done → has s.present b ≡ true
      → TookLease (start n J L) c b (calls h))
      (sym at-run) (heard.all-took n J L (in-range k.said) (calls h) c b ne)

  -- a present box that is not named is noted
  noted : (c b w : ℕ) → Named (site_of xs ls) c w → Present xs ls b → has w b ≡ false
      → has ((site_of xs ls).box c).head.heard b ≡ true
  noted c b w m here e =
      go _ _ here (sym (has-less _ _ b) ∙ ap (λ (v : ℕ). has v b) (sym m.set) ∙ e)
    where
      go : (p q : Bool) → p ≡ true → (p && not q) ≡ false → q ≡ true
      go true true i j = refl
      go true false i j = absurd (true≠false j)
      go false q i j = absurd (true≠false (sym i))

-- the calls took a lease, and so did the words
took-words : {n J L : ℕ} {h : Talk} {xs ls : List ℕ} (c b : ℕ) → In c n
    → (p : Served n J L h xs ls) → TookLease (start n J L) c b (calls h) → Took c b h xs ls p
took-words {n = n} {L = L} c b hc (made {xs = xs} {ls = ls} _) t = elim t [ ]
took-words c b hc (stepped d fits p after) (model.now cs t o) =
    let was = holds-run p in
    let now = holds-run (stepped d fits p after) in
    let lease = subst (λ (s : Site). TakesLease s c b) (sym (at-run was)) t in
    words.now lease ((inner d was.form after).answer ∙ lease.taken)
    (out now hc (subst (λ (s : Site). LeaseOut s c) (sym (at-run now)) o))
took-words c b hc (stepped d fits p after) (model.since e t o) =
    let now = holds-run (stepped d fits p after) in
    words.since (took-words c b hc p t)
    (out now hc (subst (λ (s : Site). LeaseOut s c) (sym (at-run now)) o))
took-words c b hc (asked e k l r p) t = words.still (took-words c b hc p t)
took-words c b hc (stored m p w r) t = words.loaded (took-words c b hc p t)

took : {n J L : ℕ} {h : Talk} {xs ls : List ℕ} (p : Served n J L h xs ls) (c b w : ℕ)
    → (b ≡ c → ⊥) → Names xs ls c w → Present xs ls b → has w b ≡ false → Took c b h xs ls p
took {xs = xs} {ls = ls} p c b w ne e here away =
    let k = holds-run p in
    let m = names k e in
    let f = form-says (form-site xs ls k.form) in
    let hc = its_box k c m.box in
    let hb = its_box k b (set_in _ _ b f.present here) in
    took-words c b hc p (took-lease k c b hc hb ne m.out (noted k c b w m here away))

all-took : {n J L : ℕ} {h : Talk} {xs ls : List ℕ} (p : Served n J L h xs ls) (c b : ℕ)
    → (b ≡ c → ⊥) → (step_on xs ls (Call.Heard c)).answer ≡ Answer.Done → Present xs ls b
    → Took c b h xs ls p
all-took {xs = xs} {ls = ls} p c b ne e here =
    let k = holds-run p in
    let done = ap (λ (o : Outcome). o.answer) (sym (steps k (Call.Heard c))) ∙ e in
    let hc = its_box k c (is-heard (site_of xs ls) c done).box in
    took-words c b hc p (all-took-lease k c b ne done here)

both-heard : {h : Talk} {xs ls : List ℕ} → Holds 2 16 8 h xs ls → calls h ≡ heard.not-empty.0
    → Names xs ls 1 0 × Present xs ls 2
both-heard {xs = xs} {ls = ls} k e =
    let at = at-run k ∙ ap (run (start 2 16 8)) e in
    let i = is-heard (site_of xs ls) 1
    (ap (λ (s : Site). (step s (Call.Heard 1)).answer) at ∙ heard.not-empty.1) in
    let o = naming-all k 1 (its_box k 1 i.box) i.out in (
      o ∙ ap Ok (none (site_of xs ls).present ((site_of xs ls).box 1).head.heard
          i.all),
      ap (λ (s : Site). has s.present 2) at ∙ heard.not-empty.2,
    )
  where
    none : (w v : ℕ) → eqb (bit_and v w) w ≡ true → bit_xor w (bit_and w v) ≡ 0
    none w v e = ap (bit_xor w) (and_comm w v ∙ eqb_yes _ _ e) ∙ xor_self w

pub leased : Leased
leased = record {
  took = took;
  present = λ p c b w e i.
      let m = names (holds-run p) e in
      (and_yes _ _ (sym (has-less _ _ b) ∙ ap (λ (v : ℕ). has v b) (sym m.set) ∙ i)).0;
  all-took = all-took;
  one-lease = λ p c w e.
      let k = holds-run p in
      let o = heard.one-lease _ c (names k e).out in (
        ap (λ (o : Outcome). o.next) (steps k (Call.Ready c)) ∙ o.0,
        ap (λ (o : Outcome). o.next) (steps k (Call.Finish c)) ∙ o.1,
      );
  not-empty = (heard.not-empty.0, λ h xs ls p e. both-heard (holds-run p) e);
}
