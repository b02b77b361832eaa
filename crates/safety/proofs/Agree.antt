-- Agree: the leader's record at last+1 is agreed, under its pn, by the present boxes.
use Prim.Native.Nat.{ℕ, suc, ◌+◌, ◌≤◌, ◌<◌}
use mathlib.Core.Path.{◌≡◌, refl, sym, ap, ◌∙◌}
use mathlib.Core.Bool.{true}
use mathlib.Core.List.{List, [], ◌∷◌, ◌++◌}
use native.Mathlib.Omega.{arith}
use lib.ListN.{length, get_or, take, length-append, get_or-append}
use lib.Seq.{get_or-take, get_or_at, length-take-le}
use Rattle.std.specs.Prelude.{Option, is_some}
use Rattle.rules.specs.Sizes.{most_boxes}
use Rattle.rules.specs.Sets.{has, without}
use Rattle.rules.specs.Fields.{with_state, with_phase, with_kept, with_agreeing, lasting}
use Rattle.rules.specs.Parts.{others, span}
use Rattle.rules.specs.Turns.{mail_from}
use Rattle.rules.specs.Steps.{agree, acted}
use Rattle.rules.specs.Box.{Box, mine, written, enclosed}
use Rattle.rules.specs.Site.{Site, setting, posted, upd}
use Rattle.rules.specs.Step.{step}
use Rattle.laws.proofs.Types.{Call, Kind, Out, Phase, State}
use Rattle.laws.proofs.Logic.{Or, left, right, In, both-no, eqb_same, same?}
use Rattle.laws.proofs.SetLaws.{set_in, without_in, includes_in}
use Rattle.laws.proofs.FormLaws.{Formed, form-says}
use Rattle.laws.proofs.Conditions.{CanAgree, go-unless, can-agree}
use Rattle.laws.proofs.FrameLaws.{upd-all, all_post}
use Rattle.laws.proofs.View.{Links, Store, store, at, HeldNext, held_elim, Reading, Collect, Last}
use Rattle.laws.proofs.View.{Begin, Accept, Commit, Inert, agreed-shaped, agreed-held}
use Rattle.laws.proofs.StepLaws.{changed, by-acting}
use Rattle.safety.proofs.Inv.{Agreement, Agrees, BoxOk, Core, VotedFor, MailOk, Ripe}
use Rattle.safety.proofs.Inv.{Settled, Inv}
use Rattle.safety.proofs.After.{Longer, After, after_same}
use Rattle.safety.proofs.Stores.{agrees-take}
use Rattle.safety.proofs.Base.{ranks-kept}
use Rattle.safety.proofs.Leader.{Led, led, PostLed, lead-mails, lead-live}

module _ (s : Site) (i : Inv s) (c : ℕ) (c_in : In c s.n) (f : Formed s)
    (o : CanAgree (s.box c).head (setting s c) (mine (s.box c))) where
  abbrev st : Store
  st = store (s.box c)

  abbrev A : List ℕ
  A = i.agreed.records

  -- the record that is agreed now
  abbrev r : ℕ
  r = at st (st.last + 1)

  -- what is agreed from now on
  abbrev B : List ℕ
  B = take st.last A ++ (r ∷ [])

  abbrev g : Agreement
  g = record { records = B; pn = st.pn; by = has s.present }

  abbrev x : Box
  x = record {
    head =
        with_kept (lasting ((s.box c).head.kept.last + 1) (s.box c).head.kept)
        (with_agreeing 0 (with_state State.Refresh (with_phase Phase.Commit (s.box c).head)));
    records = (s.box c).records;
  }

  L : Led s.n s.present s.box s.link i.agreed c (s.box c)
  L = led (i.live o.leading.even) c c_in o.leading.leads

  k : Settled s.n s.present s.box i.agreed c (s.box c)
  k = L.settled o.leading.state

  own : BoxOk i.agreed (i.agreed.by c) st
  own = i.core.boxes c c_in

  held : HeldNext st
  held =
      held_elim (λ (h : Option ℕ). is_some h ≡ true → HeldNext st)
      (s.box c).records (span st.first st.last)
      (λ l t. l) (λ l t. absurd (both-no t refl)) o.held

  -- all present hold the record under this pn
  votes : (b : ℕ) → In b s.n → has s.present b ≡ true → VotedFor (s.box c) (store (s.box b))
  votes b bn t =
      k.accepted o.leading.phase b bn
      (includes_in (s.box c).head.accepts s.present b o.accepted t)

  -- ---- what was agreed before stays

  front : length (take st.last A) ≡ st.last
  front = length-take-le st.last A own.low

  total : length B ≡ suc st.last
  total = length-append (take st.last A) (r ∷ []) ∙ omega (arith, front)

  below : (j : ℕ) → j < st.last → get_or B j 0 ≡ get_or A j 0
  below j h =
      get_or-append (take st.last A) (r ∷ []) 0 j (omega (arith, front))
      ∙ get_or-take st.last A j 0 h

  here : (j : ℕ) → j ≡ st.last → get_or B j 0 ≡ r
  here j e = get_or_at (take st.last A) r [] 0 j (front ∙ sym e)

  before : (j : ℕ) → j < length A → get_or B j 0 ≡ get_or A j 0
  before j l = go (same? j st.last)
    where
      go : Or (j ≡ st.last) (j ≡ st.last → ⊥) → get_or B j 0 ≡ get_or A j 0
      go (left e) =
          here j e
          ∙ own.same (omega (arith, l, e, k.ripe.top)) held
          (omega (arith, k.own o.leading.phase, k.ripe.under))
          ∙ ap (λ (j : ℕ). get_or A j 0) (sym e)
      go (right e) = below j (omega (arith, l, e, k.ripe.top))

  agrees-before : (F l : ℕ) (rs : List ℕ) → l ≤ length A → Agrees i.agreed F l rs
      → Agrees g F l rs
  agrees-before F l rs le h j a b = h j a b ∙ sym (before j (omega (arith, b, le)))

  -- number last+1
  now : (j : ℕ) → j ≡ st.last → at st (suc j) ≡ get_or B j 0
  now j e =
      let n : suc j ≡ st.last + 1 = omega (arith, e) in
      ap (λ (k : ℕ). at st k) n ∙ sym (here j e)

  longer : Longer s A B
  longer = record {
    up = omega (arith, total, k.ripe.top);
    begins = before;
    new = λ j l h. let e : j ≡ st.last = omega (arith, l, h, total, own.low) in record {
      box = c;
      from = omega (arith, e, own.shaped.top);
      place = omega (arith, e, held);
      value = now j e;
    };
  }

  -- ---- every box, by what is agreed from now on

  box-own : BoxOk g (has s.present c) (store x)
  box-own = record {
    low = omega (arith, total);
    agreed = λ j a b. each j a b (same? j st.last);
    shaped = agreed-shaped st own.shaped held;
    kept = omega (arith, own.kept);
    number = λ e. absurd (agreed-held st own.shaped e);
    promise = λ e. omega arith;
    vote = λ e h. absurd (omega (arith, h, total));
    same = λ e. absurd (omega (arith, e, total));
    old = λ e. absurd (omega (arith, e, total));
  }
    where
      each : (j : ℕ) → st.first ≤ suc j → suc j ≤ st.last + 1
          → Or (j ≡ st.last) (j ≡ st.last → ⊥) → at st (suc j) ≡ get_or B j 0
      each j a b (left e) = now j e
      each j a b (right e) =
          own.agreed j a (omega (arith, b, e)) ∙ sym (below j (omega (arith, b, e)))

  box-other : (b : ℕ) → In b s.n → BoxOk g (has s.present b) (store (s.box b))
  box-other b bn = let t = i.core.boxes b bn in record {
    low = omega (arith, t.low, k.ripe.top, total);
    agreed = agrees-before _ _ (s.box b).records t.low t.agreed;
    shaped = t.shaped;
    kept = t.kept;
    number = t.number;
    promise = λ e. omega (arith, k.ripe.pns b bn e);
    vote = λ e h. let v = votes b bn e in
        (omega (arith, v.place, total), v.held, omega (arith, v.under));
    same = λ e h u.
        let present = k.ripe.mine b bn (omega (arith, u, k.ripe.stored_pns b bn)) in
        let v = votes b bn present in
        ap (λ (j : ℕ). at (store (s.box b)) (j + 1)) v.place
        ∙ v.value
        ∙ sym (here (store (s.box b)).last v.place);
    old = λ e h. k.ripe.stored_pns b bn;
  }

  mail-agreed : (j b : ℕ) (m : Reading)
      → MailOk s.present i.agreed c (s.box c) j (store (s.box j)) b (store (s.box b)) m
      → MailOk s.present g c x j (store (s.box j)) b (store (s.box b)) m
  mail-agreed j b (Collect q l) h = record {
    from = h.from;
    to = h.to;
    rank = h.rank;
    le = h.le;
    fresh = λ e. absurd (omega arith);
  }
  mail-agreed j b (Last q l F u rs) h =
      record { to = h.to; from = h.from; told = λ e. absurd (omega arith) }
  mail-agreed j b (Begin q l F r') h = record {
    from = h.from;
    to = h.to;
    recovered = λ e. omega (arith, e);
    pn = h.pn;
    le = omega (arith, h.le);
    value = λ e. absurd (omega (arith, e, h.le));
    done = λ e. sent e (same? l st.last);
    top = λ e. let bn = set_in s.n s.present b f.present h.to in
        omega (arith, e, total, (votes b bn h.to).place);
    now = λ e. absurd (omega (arith, e, h.le));
  }
    where
      sent : l < st.last + 1 → Or (l ≡ st.last) (l ≡ st.last → ⊥) → r' ≡ get_or B l 0
      sent e (left z) = sym (h.value z).1 ∙ sym (here l z)
      sent e (right z) = let lt : l < st.last = omega (arith, e, z) in
          h.done lt ∙ sym (below l lt)
  mail-agreed j b (Accept q l) h = record {
    to = h.to;
    from = h.from;
    recovered = λ e. omega (arith, e);
    le = omega (arith, h.le);
    now = λ e. absurd (omega (arith, e, h.le));
    voted = λ e. absurd (omega (arith, e, h.le));
  }
  mail-agreed j b (Commit q l F rs) h = record {
    from = h.from;
    to = h.to;
    le = omega (arith, h.le);
    agreed = agrees-before F l rs (omega (arith, h.le, own.low)) h.agreed;
  }
  mail-agreed j b Inert h = h

  -- ---- all of it

  pn-same : (b : ℕ) → (store (upd s.box c x b)).pn ≡ (store (s.box b)).pn
  pn-same = upd-all (λ b y. (store y).pn ≡ (store (s.box b)).pn) s.box c refl (λ b. refl)

  stored_same : (b : ℕ) → (store (upd s.box c x b)).stored_pn ≡ (store (s.box b)).stored_pn
  stored_same =
      upd-all (λ b y. (store y).stored_pn ≡ (store (s.box b)).stored_pn) s.box c refl (λ b. refl)

  core : Core s.n (upd s.box c x) g
  core = record {
    boxes = upd-all (λ b y. In b s.n → BoxOk g (has s.present b) (store y)) s.box c
        (λ e. box-own) box-other;
    major = L.major;
    top = c;
    top_in = c_in;
    topped = rw (eqb_same c) (omega (arith, total));
    N = i.core.N;
    N-major = i.core.N-major;
    N-pn = λ j b jn bn t. omega (arith, i.core.N-pn j b jn bn t, stored_same j, pn-same b);
  }

  ripe : Ripe s.n s.present (upd s.box c x) g st.pn (st.last + 1)
  ripe = record {
    pns = λ b bn t. pn-same b ∙ k.ripe.pns b bn t;
    stored_pns = λ b bn. omega (arith, stored_same b, k.ripe.stored_pns b bn);
    mine = λ b bn t. k.ripe.mine b bn (sym (stored_same b) ∙ t);
    top = omega (arith, total);
    under = omega arith;
    lasts = upd-all (λ b y. In b s.n → has s.present b ≡ true → (store y).last ≤ st.last + 1)
        s.box c (λ h t. omega arith) (λ b h t. omega (arith, k.ripe.lasts b h t));
  }

  abbrev link' : Links
  link' =
      posted s.link c
      (Out.To (others (setting s c))
      (mail_from st.first Kind.Commit (s.box c).head.kept.pn (st.last + 1) 0))
      (s.box c).records

  five : In c most_boxes
  five = (c_in.0, omega (arith, c_in.1, i.ranks.few))

  inv-agreed : After s i (changed s (upd s.box c x) link')
  unfolding others posted enclosed
  inv-agreed = record {
    inv = record {
      agreed = g;
      core = core;
      ranks = ranks-kept i.ranks c x c_in refl refl;
      live = λ e.
          lead-live c L x o.leading.leads _ g
          (λ h. absurd (omega arith)) (λ h. absurd (omega arith)) (λ h. absurd (omega arith))
          (λ h. record {
            ripe = ripe;
            done = λ h. omega (arith, total);
            own = λ h. absurd (omega arith);
            accepted = λ h. absurd (omega arith);
          })
          (all_post (PostLed c L x o.leading.leads g) s.link
          (lead-mails c L x o.leading.leads g mail-agreed)
          (without s.present c) c _
          (λ b t ab. record {
            from = refl;
            to = (without_in s.present c b five t).0;
            le = omega arith;
            agreed = agrees-take g st.first (st.last + 1) (s.box c).records box-own.agreed;
          }));
    };
    longer = longer;
  }

pub inv-agree : (s : Site) (i : Inv s) (c : ℕ) → After s i (step s (Call.Agree c)).next
unfolding step acted agree written
inv-agree s i c =
    by-acting (After s i) s c _ _ _ (after_same i)
    (λ f c_in go. inv-agreed s i c c_in (form-says f) (can-agree (go-unless _ _ _ go).0))
