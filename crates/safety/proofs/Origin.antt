-- Each agreed record comes from one accepted offer, and no offer fills two numbers. An offer is
-- known by its place in the run: how many calls came before it.
use Prim.Native.Nat.{ℕ, suc, ◌+◌, ◌≤◌, ◌<◌}
use mathlib.Core.Path.{◌≡◌, refl, sym, ap, ◌∙◌, subst}
use mathlib.Core.Bool.{true}
use mathlib.Core.List.{List, [], ◌∷◌}
use native.Mathlib.Omega.{arith}
use lib.Dec.{eqb}
use lib.ListN.{length, get_or}
use Rattle.rules.specs.Sizes.{most_boxes, record_of}
use Rattle.rules.specs.Fields.{with_state, with_waiting}
use Rattle.rules.specs.Steps.{elected, started, offer, propose, acted}
use Rattle.rules.specs.Box.{Box, written, turned}
use Rattle.rules.specs.Site.{Site, Outcome, setting, fresh, fresh_head, posted, played, upd}
use Rattle.rules.specs.Step.{elect, presented, step, run}
use Rattle.laws.proofs.Types.{Answer, BoxState, Call, State, Turn}
use Rattle.laws.proofs.Logic.{Or, left, right, In, both-no, eqb_same, eqb_yes, eqb_no, same?}
use Rattle.laws.proofs.Logic.{below?, cond_elim, nil}
use Rattle.laws.proofs.Counts.{AtMostOne}
use Rattle.laws.proofs.FormLaws.{form-says, box-is}
use Rattle.laws.proofs.Conditions.{go-unless, can-offer, can-propose}
use Rattle.laws.proofs.FrameLaws.{upd-all, upd_same, upd_other}
use Rattle.laws.proofs.View.{store, Shaped, shaped}
use Rattle.laws.proofs.StepLaws.{changed, by-acting, answer-acting, by-step}
use Rattle.safety.specs.Demand3.{Offered, now, before, start}
use Rattle.safety.proofs.After.{Longer}
use Rattle.safety.proofs.Safe.{agreed-list, none-yet, longer-step}
use Rattle.safety.proofs.Moves.{Sound, BoxG, turn-started, sound-popped, sound-doubled}
use Rattle.safety.proofs.Moves.{sound-played, sound-call, sound-elect, sound-map}
use Rattle.safety.proofs.Desk.{Plain, plain_event, SameDesk, turn-desk}

-- ---- the history of a run

-- the offer with j calls before it, of r, is bound to number k
abbrev pub From : Site → List Call → (ℕ → ℕ) → ℕ → ℕ → Type 0
From s cs num k r = (j : ℕ) × Offered s cs j r × (num j ≡ k) × (1 ≤ k)

-- an offer of r that is bound to no number yet
abbrev Unbound : Site → List Call → (ℕ → ℕ) → ℕ → Type 0
Unbound s cs num r = (j : ℕ) × Offered s cs j r × (num j ≡ 0)

-- A is what has been agreed, from number 1 on
pub record History (s : Site) (cs : List Call) (A : List ℕ) (t : Site) : Type 0 where
  -- the number to which each offer is bound, 0 for none yet
  pub num : ℕ → ℕ
  -- each record anywhere comes from the offer that is bound to its number
  pub sound : Sound (From s cs num) t
  -- .. and so does each that was ever agreed
  pub agreed : (k : ℕ) → k < length A → From s cs num (suc k) (get_or A k 0)
  -- one box at most has a waiting offer: so a Propose leaves none
  pub one : AtMostOne t.n (λ b. (t.box b).head.leads)
  pub wait : (b : ℕ) → In b t.n → ((t.box b).head.waiting ≡ 0 → ⊥)
      → (t.box b).head.leads ≡ true
  pub place : (b : ℕ) → In b t.n → ((t.box b).head.waiting ≡ 0 → ⊥)
      → Unbound s cs num (t.box b).head.waiting
  pub future : (j : ℕ) → length cs ≤ j → num j ≡ 0

offered_in : {s : Site} {cs : List Call} {j r : ℕ} → Offered s cs j r → j < length cs
offered_in (now cs c l r e) = omega arith
offered_in (before d h) = omega (arith, offered_in h)

-- what is agreed after one more call comes from where it stood
agreed-on : {s t : Site} {cs ds : List Call} {num num' : ℕ → ℕ} {A B : List ℕ} → Longer t A B
    → ((k r : ℕ) → From s cs num k r → From s ds num' k r) → Sound (From s cs num) t
    → ((k : ℕ) → k < length A → From s cs num (suc k) (get_or A k 0))
    → (k : ℕ) → k < length B → From s ds num' (suc k) (get_or B k 0)
agreed-on {s} {t} {cs} {ds} {num} {num'} {A} {B} w f h g k l = go (below? k (length A))
  where
    go : Or (k < length A) (length A ≤ k) → From s ds num' (suc k) (get_or B k 0)
    go (left e) = subst (From s ds num' (suc k)) (sym (w.begins k e)) (f (suc k) _ (g k e))
    go (right e) = let n = w.new k e l in
        subst (From s ds num' (suc k)) n.value
        (f (suc k) _ ((h.boxes n.box).records (suc k) n.from n.place))

module _ (s : Site) (cs : List Call) (A B : List ℕ) (t : Site) (w : Longer t A B)
    (h : History s cs A t) (d : Call) where
  older : (k r : ℕ) → From s cs h.num k r → From s (d ∷ cs) h.num k r
  older k r f = (f.0, before d f.1, f.2, f.3)

  older-sound : Sound (From s (d ∷ cs) h.num) t
  older-sound = sound-map t older h.sound

  older-agreed : (k : ℕ) → k < length B → From s (d ∷ cs) h.num (suc k) (get_or B k 0)
  older-agreed = agreed-on w older h.sound h.agreed

  -- ---- calls that neither make an offer nor take one out

  -- no leader flag and no offer changes
  kept : (t' : Site) → t'.n ≡ t.n → ((b : ℕ) → SameDesk (t.box b).head (t'.box b).head)
      → Sound (From s (d ∷ cs) h.num) t' → History s (d ∷ cs) B t'
  kept t' n same sound = record {
    num = h.num;
    sound = sound;
    agreed = older-agreed;
    one = λ b c hb hc p q.
        h.one b c (rw n at hb) (rw n at hc) (sym (same b).leads ∙ p) (sym (same c).leads ∙ q);
    wait = λ b hb e. (same b).leads ∙ h.wait b (rw n at hb) (λ z. e ((same b).waiting ∙ z));
    place = λ b hb e. let q = h.place b (rw n at hb) (λ z. e ((same b).waiting ∙ z)) in
        (q.0, subst (Offered s (d ∷ cs) q.0) (sym (same b).waiting) (before d q.1), q.2);
    future = λ j l. h.future j (omega arith);
  }

  same-desk : (b : ℕ) → SameDesk (t.box b).head (t.box b).head
  same-desk b = record { leads = refl; waiting = refl }

  unmoved : History s (d ∷ cs) B t
  unmoved = kept t refl same-desk older-sound

  elected-head : (c b : ℕ) → In b t.n
      → ((elect t c).box b).head ≡ elected (t.box b).head (setting t b) c
  unfolding elect
  elected-head c b i = rw (box-is i) refl

  elects : (c : ℕ) → History s (d ∷ cs) B (elect t c)
  unfolding elect elected
  elects c = record {
    num = h.num;
    sound = sound-elect (From s (d ∷ cs) h.num) t c older-sound;
    agreed = older-agreed;
    one = λ a b ha hb p q. is_c a ha p ∙ sym (is_c b hb q);
    wait = λ b hb e. absurd (e (no-offer b hb));
    place = λ b hb e. absurd (e (no-offer b hb));
    future = λ j l. h.future j (omega arith);
  }
    where
      is_c : (b : ℕ) → In b t.n → ((elect t c).box b).head.leads ≡ true → b ≡ c
      is_c b i p = eqb_yes b c (ap (λ (x : BoxState). x.leads) (sym (elected-head c b i)) ∙ p)

      no-offer : (b : ℕ) → In b t.n → ((elect t c).box b).head.waiting ≡ 0
      no-offer b i = ap (λ (x : BoxState). x.waiting) (elected-head c b i)

  plain : Plain d → History s (d ∷ cs) B (step t d).next
  unfolding presented
  plain p =
      by-step (History s (d ∷ cs) B) t unmoved
      (λ c f e. elects c)
      (λ w f g e. kept _ refl same-desk
      (record { boxes = older-sound.boxes; mails = older-sound.mails }))
      (λ a b f. kept _ refl same-desk (sound-popped (From s (d ∷ cs) h.num) t a b older-sound))
      (λ a b f g.
      kept _ refl same-desk (sound-doubled (From s (d ∷ cs) h.num) t a b older-sound))
      d
      (λ c e link v f c_in r.
      kept _ refl
      (upd-all (λ b y. SameDesk (t.box b).head y.head) t.box c
      (turn-desk (setting t c) (t.box c) e (plain_event v p)) same-desk)
      (sound-call (From s (d ∷ cs) h.num) t c v f c_in older-sound
      (λ is. absurd (subst Plain is p))))

-- ---- an offer is made

module _ (s : Site) (cs : List Call) (A B : List ℕ) (w : Longer (run s cs) A B)
    (h : History s cs A (run s cs)) (c l r : ℕ) where
  abbrev d : Call
  d = Call.Offer c l r

  abbrev t : Site
  t = run s cs

  abbrev offered : Box
  offered = record {
    head = with_waiting (record_of l r) (t.box c).head;
    records = (t.box c).records;
  }

  abbrev box' : ℕ → Box
  box' = upd t.box c offered

  abbrev Free : ℕ → Type 0
  Free r = Unbound s (d ∷ cs) h.num r

  waits : (step t d).answer ≡ Answer.Done → (t.box c).head.leads ≡ true
      → History s (d ∷ cs) B (changed t box' t.link)
  waits a lead = record {
    num = h.num;
    sound = record {
      boxes = upd-all (λ b y. BoxG (From s (d ∷ cs) h.num) y) t.box c
          (record { records = (k.boxes c).records; best = (k.boxes c).best }) k.boxes;
      mails = k.mails;
    };
    agreed = older-agreed s cs A B t w h d;
    one = λ b e hb he p q. h.one b e hb he (leads b p) (leads e q);
    wait =
        upd-all (λ b y. In b t.n → (y.head.waiting ≡ 0 → ⊥) → (box' b).head.leads ≡ true)
        t.box c (λ i e. rw (eqb_same c) lead) (λ b i e. back b (h.wait b i e));
    place =
        upd-all (λ b y. In b t.n → (y.head.waiting ≡ 0 → ⊥) → Free y.head.waiting)
        t.box c (λ i e. (length cs, now cs c l r a, h.future (length cs) (omega arith)))
        (λ b i e. let q = h.place b i e in (q.0, before d q.1, q.2));
    future = λ j m. h.future j (omega arith);
  }
    where
      k : Sound (From s (d ∷ cs) h.num) t
      k = older-sound s cs A B t w h d

      leads : (b : ℕ) → (box' b).head.leads ≡ true → (t.box b).head.leads ≡ true
      leads =
          upd-all (λ b y. y.head.leads ≡ true → (t.box b).head.leads ≡ true) t.box c
          (λ p. p) (λ b p. p)

      back : (b : ℕ) → (t.box b).head.leads ≡ true → (box' b).head.leads ≡ true
      back =
          upd-all (λ b y. (t.box b).head.leads ≡ true → y.head.leads ≡ true) t.box c
          (λ p. p) (λ b p. p)

  -- with the answer in hand
  Made : Outcome → Type 0
  Made o = (step t d).answer ≡ o.answer → History s (d ∷ cs) B o.next

  made : Made (step t d)
  unfolding Made step acted offer posted written
  made =
      answer-acting Made t c _ _ _ (λ why e. unmoved s cs A B t w h d)
      (λ why e. unmoved s cs A B t w h d)
      (λ f c_in go e. waits e (can-offer (go-unless _ _ _ (go-unless _ _ _ go).1).0).0.leads)

  offers : History s (d ∷ cs) B (step t d).next
  unfolding Made
  offers = made refl

-- ---- an offer is bound to a number

module _ (s : Site) (cs : List Call) (A B : List ℕ) (t : Site) (w : Longer t A B)
    (h : History s cs A t) (c : ℕ) where
  abbrev p : Call
  p = Call.Propose c

  module _ (c_in : In c t.n) (shape : Shaped (store (t.box c)))
      (lead : (t.box c).head.leads ≡ true) (full : (t.box c).head.waiting ≡ 0 → ⊥) where
    q : Unbound s cs h.num (t.box c).head.waiting
    q = h.place c c_in full

    new : ℕ → ℕ
    new = upd h.num q.0 ((t.box c).head.kept.last + 1)

    -- what was bound stays bound
    keeps : (j k : ℕ) → h.num j ≡ k → 1 ≤ k → Or (j ≡ q.0) (j ≡ q.0 → ⊥) → new j ≡ k
    unfolding new
    keeps j k e l (left f) = absurd (omega (arith, e, l, q.2, ap h.num f))
    keeps j k e l (right f) = upd_other h.num q.0 ((t.box c).head.kept.last + 1) j f ∙ e

    later : (j : ℕ) → suc (length cs) ≤ j → Or (j ≡ q.0) (j ≡ q.0 → ⊥) → new j ≡ 0
    unfolding new
    later j m (left f) = absurd (omega (arith, m, f, offered_in q.1))
    later j m (right f) =
        upd_other h.num q.0 ((t.box c).head.kept.last + 1) j f ∙ h.future j (omega arith)

    G : ℕ → ℕ → Type 0
    G = From s (p ∷ cs) new

    again : (k r : ℕ) → From s cs h.num k r → From s (p ∷ cs) new k r
    again k r f =
        (f.0, before p f.1, keeps f.0 k f.2 f.3 (same? f.0 q.0), f.3)

    sound : Sound G t
    unfolding G
    sound = sound-map t again h.sound

    bound : G ((t.box c).head.kept.last + 1) (t.box c).head.waiting
    unfolding G new
    bound = (
      q.0,
      before p q.1,
      upd_same h.num q.0 ((t.box c).head.kept.last + 1),
      omega arith,
    )

    abbrev turn : Turn
    turn =
        started (with_state State.Updating (with_waiting 0 (t.box c).head)) (setting t c)
        (t.box c).head.waiting

    abbrev boxes' : ℕ → Box
    boxes' = upd t.box c (turned (t.box c) turn [])

    leads : (b : ℕ) → (boxes' b).head.leads ≡ true → (t.box b).head.leads ≡ true
    unfolding started
    leads =
        upd-all (λ b y. y.head.leads ≡ true → (t.box b).head.leads ≡ true) t.box c
        (λ e. e) (λ b e. e)

    -- no offer waits any more
    no-offer : (b : ℕ) → In b t.n → ((boxes' b).head.waiting ≡ 0 → ⊥) → ⊥
    unfolding started
    no-offer b i =
        cond_elim (λ (y : Box). (y.head.waiting ≡ 0 → ⊥) → ⊥) (eqb b c)
        (λ k e. e refl)
        (λ k e. eqb_no b c k (h.one b c i c_in (h.wait b i e) lead))

    binds : History s (p ∷ cs) B (played t c turn [])
    unfolding G
    binds = record {
      num = new;
      sound = sound-played G t c turn [] sound
          (turn-started G (setting t c) (t.box c) (sound.boxes c) shape _
          (t.box c).head.waiting refl (sound.boxes c).best bound);
      agreed = agreed-on w again h.sound h.agreed;
      one = λ a b ha hb x y. h.one a b ha hb (leads a x) (leads b y);
      wait = λ b i e. absurd (no-offer b i e);
      place = λ b i e. absurd (no-offer b i e);
      future = λ j m. later j m (same? j q.0);
    }

  proposes : History s (p ∷ cs) B (step t p).next
  unfolding step acted propose
  proposes =
      by-acting (History s (p ∷ cs) B) t c _ _ _ (unmoved s cs A B t w h p)
      (λ f c_in go. let o = can-propose (go-unless _ _ _ go).0 in
      binds c_in (shaped ((form-says f).boxes c c_in)) o.0.leads o.1)

-- ---- every call, every run

module _ (s : Site) (cs : List Call) (A B : List ℕ) (w : Longer (run s cs) A B)
    (h : History s cs A (run s cs)) where
  abbrev After : Call → Type 0
  After d = History s (d ∷ cs) B (step (run s cs) d).next

  other : (d : Call) → Plain d → After d
  other = plain s cs A B (run s cs) w h

  history_step : (d : Call) → After d
  history_step (Call.Offer c l r) = offers s cs A B w h c l r
  history_step (Call.Propose c) = proposes s cs A B (run s cs) w h c
  history_step (Call.Elect c) = other (Call.Elect c) tt
  history_step (Call.Recover c) = other (Call.Recover c) tt
  history_step (Call.Collect c) = other (Call.Collect c) tt
  history_step (Call.Ready c) = other (Call.Ready c) tt
  history_step (Call.Agree c) = other (Call.Agree c) tt
  history_step (Call.Finish c) = other (Call.Finish c) tt
  history_step (Call.Heard c) = other (Call.Heard c) tt
  history_step (Call.Trim c k) = other (Call.Trim c k) tt
  history_step (Call.Stop c) = other (Call.Stop c) tt
  history_step (Call.Return c) = other (Call.Return c) tt
  history_step (Call.Timeout c) = other (Call.Timeout c) tt
  history_step (Call.Lose a b) = other (Call.Lose a b) tt
  history_step (Call.Repeat a b) = other (Call.Repeat a b) tt
  history_step (Call.Deliver a b) = other (Call.Deliver a b) tt

history_start : (n J L : ℕ) → History (start n J L) [] [] (start n J L)
unfolding fresh fresh_head
history_start n J L = record {
  num = λ j. 0;
  sound = record {
    boxes = λ b. record {
      records = λ k i h. absurd (omega arith);
      best = λ e. absurd (e refl);
    };
    mails = λ a b. nil;
  };
  agreed = λ k l. absurd (omega arith);
  one = λ a b ha hb p q. absurd (both-no p refl);
  wait = λ b i e. absurd (e refl);
  place = λ b i e. absurd (e refl);
  future = λ j h. refl;
}

pub history_run : (n J L : ℕ) (size : In n most_boxes) (cs : List Call)
    → History (start n J L) cs (agreed-list n J L size cs) (run (start n J L) cs)
unfolding run
history_run n J L size [] =
    subst (λ (A : List ℕ). History (start n J L) [] A (start n J L)) (sym (none-yet n J L size))
    (history_start n J L)
history_run n J L size (c ∷ cs) =
    history_step (start n J L) cs _ _ (longer-step n J L size c cs) (history_run n J L size cs) c
