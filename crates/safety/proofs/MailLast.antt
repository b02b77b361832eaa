-- A Last is taken: its records are taken and shared; then the answer counts, does not count, or
-- shows a higher pn.
use Prim.Native.Nat.{ℕ, suc, ◌%◌, ◌≤◌, ◌<◌, max}
use mathlib.Core.Path.{◌≡◌, refl, sym, ◌∙◌, subst}
use mathlib.Core.Bool.{true, false, ◌&&◌, cond}
use mathlib.Core.List.{List, [], ◌∷◌, ◌++◌}
use native.Mathlib.Omega.{arith}
use lib.Dec.{eqb, ltb}
use lib.ListN.{length, take}
use borrow.Author.Tests.{ltb-true, ltb-false}
use Rattle.rules.specs.Sizes.{most_boxes}
use Rattle.rules.specs.Sets.{has, joined, without}
use Rattle.rules.specs.NewPn.{new_pn}
use Rattle.rules.specs.Fields.{with_phase, with_kept, with_best, with_answered, with_peers, lasting}
use Rattle.rules.specs.Fields.{keeping, promised as promising}
use Rattle.rules.specs.Parts.{others, span, took_kept, cleared}
use Rattle.rules.specs.Turns.{mail_from}
use Rattle.rules.specs.Last.{noted, told, lagging, bettered, raised, counted, uncounted, replied}
use Rattle.rules.specs.Last.{on_last}
use Rattle.rules.specs.Box.{Box, Letter, next_of, enclosed}
use Rattle.rules.specs.Site.{Site, setting, popped, posted, upd}
use Rattle.rules.specs.Step.{by_turn}
use Rattle.laws.proofs.Types.{Best, BoxState, Kind, Phase}
use Rattle.laws.proofs.Logic.{Or, left, right, In, decide, eqb_yes, and_yes}
use Rattle.laws.proofs.Logic.{pick_elim, All}
use Rattle.laws.proofs.SetLaws.{has-and, joined_in, without_in}
use Rattle.laws.proofs.NewPnLaws.{new_pn-above, new_pn-rank, new_pn-nowhere}
use Rattle.laws.proofs.FormLaws.{FormedLast}
use Rattle.laws.proofs.Conditions.{LastTaken, go-last}
use Rattle.laws.proofs.FrameLaws.{upd-all, all_pop, all_post}
use Rattle.laws.proofs.View.{Links, Store, store, phase_of, state_of, Reading, Collect, Last, Begin}
use Rattle.laws.proofs.View.{Accept, Commit, Inert, last-spans, took, took-last}
use Rattle.laws.proofs.StepLaws.{changed, by-settled}
use Rattle.safety.proofs.Inv.{Agreement, BoxOk, MailOk, LastOk, Told, Hearing, Inv}
use Rattle.safety.proofs.After.{After, after, after_same}
use Rattle.safety.proofs.Stores.{agrees-take, box-took, box-promised}
use Rattle.safety.proofs.Base.{core-kept, ranks-put, ranks-kept}
use Rattle.safety.proofs.Chosen.{BestOk, Found, best-cleared, found-cleared, best-chosen}
use Rattle.safety.proofs.Chosen.{found-chosen}
use Rattle.safety.proofs.Leader.{Led, led, led-mail, PostLed, lead-mails, lead-live}
use Rattle.safety.proofs.Quiet.{inv-popped}
use Rattle.safety.proofs.Arrival.{Arrives, arrived}

-- ---- the mail on its way, while the leader's box y becomes x

module _ (w : ℕ) (g : Agreement) (c : ℕ) (y x : Box) (recovering : state_of y ≡ 0)
    (pn-up : (store y).pn ≤ (store x).pn) (last_up : (store y).last ≤ (store x).last)
    (fresh : phase_of x ≡ 1 → (v : ℕ) → (v % 100 ≡ c → v ≤ (store y).pn) → v ≡ (store x).pn → ⊥)
    (still : phase_of x ≡ 2 → (phase_of y ≡ 2) × ((store x).pn ≡ (store y).pn)) where
  mail_gathered : (a : ℕ) (sa : Store) (b : ℕ) (sb : Store) (m : Reading)
      → MailOk w g c y a sa b sb m → MailOk w g c x a sa b sb m
  mail_gathered a sa b sb (Collect q l) h = record {
    from = h.from;
    to = h.to;
    rank = h.rank;
    le = omega (arith, h.le, pn-up);
    fresh = λ e. fresh e q (λ f. h.le);
  }
  mail_gathered a sa b sb (Last q l F u rs) h =
      record { to = h.to; from = h.from; told = λ e. again (h.told recovering) }
    where
      again : Told w g c y a sa q l F u rs → Told w g c x a sa q l F u rs
      again t = record {
        rank = λ e. omega (arith, t.rank e, pn-up);
        fresh = λ e. fresh e q t.rank;
        low = t.low;
        agreed = t.agreed;
        same = t.same;
        old = t.old;
        answers = λ e f. let k = t.answers (still e).0 (f ∙ (still e).1) in record {
          promise = k.promise ∙ sym (still e).1;
          reach = λ h. omega (arith, k.reach h, last_up);
          vote = k.vote;
        };
      }
  mail_gathered a sa b sb (Begin q l F r) h = absurd (h.recovered recovering)
  mail_gathered a sa b sb (Accept q l) h = absurd (h.recovered recovering)
  mail_gathered a sa b sb (Commit q l F rs) h =
      record { from = h.from; to = h.to; le = omega (arith, h.le, last_up); agreed = h.agreed }
  mail_gathered a sa b sb Inert h = h

-- ---- the answer

module _ (s : Site) (i : Inv s) (a c : ℕ) (y : Letter) (ys : List Letter)
    (r : Arrives s a c y ys Kind.Last)
    (o : LastTaken (s.box c).head (setting s c) y.head) where
  abbrev q : ℕ
  q = y.head.pn

  abbrev l : ℕ
  l = y.head.last

  abbrev F : ℕ
  F = y.head.first

  abbrev u : ℕ
  u = y.head.unagreed

  abbrev rs : List ℕ
  rs = y.records

  abbrev st : Store
  st = store (s.box c)

  abbrev best : Best
  best = (s.box c).head.best

  L : Led s.n s.present s.box s.link i.agreed c (s.box c)
  L = led (i.live r.even) c r.to o.leads

  H : Hearing s.n s.present s.box i.agreed c (s.box c)
  H = L.hearing o.phase

  ok : LastOk s.present i.agreed c (s.box c) a (store (s.box a)) c q l F u rs
  ok = led-mail L a c y ys r.head r.apart Kind.Last r.kind

  T : Told s.present i.agreed c (s.box c) a (store (s.box a)) q l F u rs
  T = ok.told H.recovering

  -- ---- the records are taken

  abbrev t : Store
  t = took F l rs (store (s.box c))

  own : BoxOk i.agreed (i.agreed.by c) st
  own = i.core.boxes c r.to

  form : FormedLast s.J l F u (length rs)
  form = arrived r

  taken-ok : BoxOk i.agreed (i.agreed.by c) t
  taken-ok = box-took st own F l rs (last-spans form) form.first.top T.low T.agreed

  last : t.last ≡ max st.last l
  last = took-last F l rs st own.shaped

  grown : st.last ≤ t.last
  grown = omega (arith, last)

  reached : l ≤ t.last
  reached = omega (arith, last)

  -- the box with the records taken and the peer noted
  abbrev noted-box : BoxState
  noted-box =
      with_peers (noted (s.box c).head.peers a l)
      (with_kept (keeping t.first (lasting t.last (s.box c).head.kept)) (s.box c).head)

  -- ---- Commits to the boxes known to lag

  lag : ℕ
  lag = lagging (noted (s.box c).head.peers a l) t.last (setting s c)

  abbrev commit : Letter
  commit = record {
    head = mail_from t.first Kind.Commit (s.box c).head.kept.pn t.last 0;
    records = take (span t.first t.last) t.records;
  }

  -- shut, so that `rw` does not look into it
  link' : Links
  link' b d =
      cond (eqb b c && has lag d) ((popped s a c).link b d ++ (commit ∷ []))
      ((popped s a c).link b d)

  lag-here : (d : ℕ) → has lag d ≡ true → has s.present d ≡ true
  unfolding lag lagging others
  lag-here d hd =
      let w = without s.present c in
      let five : In c most_boxes = (r.to.0, omega (arith, r.to.1, i.ranks.few)) in
      (without_in s.present c d five (and_yes (has w d) _ (sym (has-and w _ d) ∙ hd)).0).0

  mails-to : (x : Box) (xl : x.head.leads ≡ true) → (store x).last ≡ t.last
      → ((b : ℕ) (sb : Store) (d : ℕ) (sd : Store) (m : Reading)
      → MailOk s.present i.agreed c (s.box c) b sb d sd m
      → MailOk s.present i.agreed c x b sb d sd m)
      → (b d : ℕ) → All (PostLed c L x xl i.agreed b d) (link' b d)
  unfolding link'
  mails-to x xl el f =
      all_post Post (popped s a c).link
      (all_pop Post s.link (lead-mails c L x xl i.agreed (λ b d m. f b _ d _ m)) a c)
      lag c commit
      (λ d hd cd. record {
        from = refl;
        to = lag-here d hd;
        le = omega (arith, el);
        agreed = agrees-take i.agreed t.first t.last t.records taken-ok.agreed;
      })
    where
      Post : ℕ → ℕ → Letter → Type 0
      Post = PostLed c L x xl i.agreed

  -- the invariant, after the leader's box has become b
  abbrev Next : BoxState → Type 0
  Next b = After s i (changed s (upd s.box c (record { head = b; records = t.records })) link')

  -- ---- a higher pn: the leader starts anew, under a pn that stands nowhere yet

  few : c < 100
  few = omega (arith, r.to.1, i.ranks.few)

  abbrev higher : Box
  higher = record {
    head =
        with_kept (promising (new_pn q c) noted-box.kept)
        (with_phase Phase.SendCollect (with_best (cleared t.last best) noted-box));
    records = t.records;
  }

  inv-higher : st.pn < q → After s i (changed s (upd s.box c higher) link')
  inv-higher gt = after (record {
    core = core-kept i.core c higher r.to
        (box-promised t taken-ok (new_pn q c) (omega (arith, new_pn-above q c)))
        (omega (arith, new_pn-above q c)) grown refl;
    ranks = ranks-put i.ranks c higher (omega (arith, new_pn-above q c))
        (λ j jn jc f. absurd (jc (omega (arith, f, new_pn-rank q c few))))
        (λ j jn. i.ranks.stored_pns j c jn r.to);
    live = λ z.
        lead-live c L higher o.leads link' i.agreed
        (λ f. absurd (omega arith))
        (λ f. record {
          recovering = H.recovering;
          rank = new_pn-rank q c few;
          apart = upd-all (λ b v. In b s.n → (store v).stored_pn ≡ new_pn q c → ⊥) s.box c
              (apart c) apart;
          new = upd-all (λ b v. In b s.n → (b ≡ c → ⊥) → (store v).pn ≡ new_pn q c → ⊥) s.box c
              (λ h j. absurd (j refl))
              (λ b h j. nowhere (store (s.box b)).pn (i.ranks.pns c b r.to h));
        })
        (λ f. absurd (omega arith)) (λ f. absurd (f H.recovering))
        (mails-to higher o.leads refl
        (mail_gathered s.present i.agreed c (s.box c) higher H.recovering
        (omega (arith, new_pn-above q c)) grown (λ f. nowhere)
        (λ f. absurd (omega arith))));
  })
    where
      nowhere : (v : ℕ) → (v % 100 ≡ c → v ≤ st.pn) → v ≡ new_pn q c → ⊥
      nowhere v f = new_pn-nowhere q c v few (λ e. omega (arith, f e, gt))

      apart : (b : ℕ) → In b s.n → (store (s.box b)).stored_pn ≡ new_pn q c → ⊥
      apart b h = nowhere (store (s.box b)).stored_pn (i.ranks.stored_pns c b r.to h)

  -- ---- this pn, or a lower one: the leader goes on; be is the best then, and all of w answered

  abbrev before : ℕ
  before = (s.box c).head.answered

  module _ (be : Best) (w : ℕ) (be-ok : BestOk i.agreed t.last be)
      (cases : (b : ℕ) → has w b ≡ true → Or (has before b ≡ true) ((b ≡ a) × (q ≡ st.pn)))
      (found : (b : ℕ) → In b s.n → has w b ≡ true → i.agreed.by b ≡ true
      → t.last < length i.agreed.records → Found i.agreed be) where
    abbrev on : Box
    on = record { head = with_answered w (with_best be noted-box); records = t.records }

    promise' : (b : ℕ) → In b s.n → has w b ≡ true → (store (s.box b)).pn ≡ st.pn
    promise' b bn h = go (cases b h)
      where
        go : Or (has before b ≡ true) ((b ≡ a) × (q ≡ st.pn)) → (store (s.box b)).pn ≡ st.pn
        go (left f) = H.promise b bn f
        go (right f) = rw f.0 (T.answers o.phase f.1).promise

    lasts' : (b : ℕ) → In b s.n → has w b ≡ true → (store (s.box b)).last ≤ t.last
    lasts' b bn h = go (cases b h)
      where
        told : q ≡ st.pn
            → Or (ltb l (store (s.box a)).last ≡ true) (ltb l (store (s.box a)).last ≡ false)
            → (store (s.box a)).last ≤ t.last
        told f (left e) = let h = ltb-true l (store (s.box a)).last e in
            omega (arith, (T.answers o.phase f).reach h, grown)
        told f (right e) = omega (arith, ltb-false l (store (s.box a)).last e, reached)

        go : Or (has before b ≡ true) ((b ≡ a) × (q ≡ st.pn)) → (store (s.box b)).last ≤ t.last
        go (left f) = omega (arith, H.lasts b bn f, grown)
        go (right f) = rw f.0 (told f.1 (decide (ltb l (store (s.box a)).last)))

    inv-on : After s i (changed s (upd s.box c on) link')
    inv-on = after (record {
      core = core-kept i.core c on r.to taken-ok (omega arith) grown refl;
      ranks = ranks-kept i.ranks c on r.to refl refl;
      live = λ z.
          lead-live c L on o.leads link' i.agreed
          (λ f. absurd (omega (arith, f, o.phase))) (λ f. absurd (omega (arith, f, o.phase)))
          (λ f. record {
            recovering = H.recovering;
            apart = upd-all (λ b v. In b s.n → (store v).stored_pn ≡ st.pn → ⊥) s.box c
                (H.apart c) H.apart;
            promise = upd-all (λ b v. In b s.n → has w b ≡ true → (store v).pn ≡ st.pn)
                s.box c (λ h j. refl) promise';
            lasts = upd-all (λ b v. In b s.n → has w b ≡ true → (store v).last ≤ t.last)
                s.box c (λ h j. omega arith) lasts';
            found = λ b h j m k. let w = found b h j m k in (w.number, w.pn);
            same = be-ok.same;
            old = be-ok.old;
            limit = be-ok.limit;
          })
          (λ f. absurd (f H.recovering))
          (mails-to on o.leads refl
          (mail_gathered s.present i.agreed c (s.box c) on H.recovering (omega arith)
          grown (λ f. absurd (omega (arith, f, o.phase))) (λ f. (o.phase, refl))));
    })

  best-ok : BestOk i.agreed st.last best
  best-ok = record { same = H.same; old = H.old; limit = H.limit }

  -- a lower pn
  inv-lower : Next (with_best (cleared t.last best) noted-box)
  inv-lower =
      inv-on (cleared t.last best) before
      (best-cleared i.agreed st.last t.last best best-ok grown)
      (λ b h. left h)
      (λ b bn h m k. let f = H.found b bn h m (omega (arith, k, grown)) in
      found-cleared i.agreed t.last best k (record { number = f.0; pn = f.1 }))

  -- this pn: the sender has answered, perhaps not for the first time
  module _ (eq : q ≡ st.pn) where
    among : (b : ℕ) → has (joined before a) b ≡ true → Or (has before b ≡ true) (b ≡ a)
    among b = joined_in before a b (r.from.0, omega (arith, r.from.1, i.ranks.few))

    found : (b : ℕ) → In b s.n → i.agreed.by b ≡ true
        → t.last < length i.agreed.records → Or (has before b ≡ true) (b ≡ a)
        → Or (Found i.agreed best)
        ((suc l ≡ length i.agreed.records) × (span F l < length rs) × (i.agreed.pn ≤ u))
    found b bn m k (left f) =
        let w = H.found b bn f m (omega (arith, k, grown)) in
        left (record { number = w.0; pn = w.1 })
    found b bn m k (right f) =
        right ((T.answers o.phase eq).vote (subst (λ (j : ℕ). i.agreed.by j ≡ true) f m)
        (omega (arith, k, reached)))

    cases : {b : ℕ} → Or (has before b ≡ true) (b ≡ a)
        → Or (has before b ≡ true) ((b ≡ a) × (q ≡ st.pn))
    cases (left f) = left f
    cases (right f) = right (f, eq)

    abbrev better : Best
    better = bettered t.last best y.head (next_of y)

    inv_equal : Next (with_answered (joined before a) (with_best better noted-box))
    inv_equal =
        inv-on better (joined before a)
        (best-chosen i.agreed st.last t.last best best-ok grown y.head rs reached
        T.same T.old)
        (λ b h. cases (among b h))
        (λ b bn h m k.
        found-chosen i.agreed st.last t.last best best-ok grown y.head rs reached
        k (found b bn m k (among b h)))

  -- ---- the three together

  inv-replied : Next (replied (told (s.box c).head a y.head) c a y.head (next_of y))
  unfolding replied told took_kept raised counted uncounted
  inv-replied =
      pick_elim Next (ltb st.pn q)
      (λ f. inv-higher (ltb-true st.pn q f))
      (λ f.
      pick_elim Next (eqb q st.pn) (λ e. inv_equal (eqb_yes q st.pn e)) (λ e. inv-lower))

pub inv-last : (s : Site) (i : Inv s) (a c : ℕ) (y : Letter) (ys : List Letter)
    → Arrives s a c y ys Kind.Last
    → After s i (by_turn s (popped s a c) c
    (on_last (s.box c).head (setting s c) a y.head (next_of y)) y.records).next
unfolding on_last took_kept posted enclosed link' lag
inv-last s i a c y ys r =
    by-settled (After s i) s (popped s a c) c _ _ _ _ (after_same i) (inv-popped s a c i)
    (λ go. inv-replied s i a c y ys r (go-last go))
