-- A Collect is taken: the promise is not below the leader's pn then, and the answer tells what the
-- box keeps.
use Prim.Native.Nat.{ℕ, ◌+◌, ◌%◌, ◌≤◌, ◌<◌, max}
use mathlib.Core.Path.{◌≡◌, refl, sym, ap, ◌∙◌}
use mathlib.Core.Bool.{Bool, true, false, ◌&&◌, cond}
use mathlib.Core.List.{List, [], ◌∷◌, ◌++◌}
use native.Mathlib.Omega.{arith}
use lib.Dec.{eqb, leb, ltb}
use lib.ListN.{length}
use borrow.Author.Tests.{leb-true, leb-false, lt-ltb, eq-eqb}
use Rattle.rules.specs.Pick.{pick_true}
use Rattle.rules.specs.Sizes.{most_boxes}
use Rattle.rules.specs.Sets.{has, bit}
use Rattle.rules.specs.Fields.{with_state, with_kept, promised as promising}
use Rattle.rules.specs.Parts.{under_of, span}
use Rattle.rules.specs.Turns.{mail_from}
use Rattle.rules.specs.Mails.{unagreed_of, on_collect}
use Rattle.rules.specs.Box.{Box, Letter, held_at, mine, written, enclosed}
use Rattle.rules.specs.Site.{Site, popped, posted, upd}
use Rattle.rules.specs.Step.{by_turn}
use Rattle.laws.proofs.Types.{Kind, State}
use Rattle.laws.proofs.Logic.{Or, left, right, In, decide, eqb_same}
use Rattle.laws.proofs.SetLaws.{bit_is}
use Rattle.laws.proofs.FrameLaws.{all_pop, all_post}
use Rattle.laws.proofs.View.{Links, Store, store, state_of, HeldNext, promised}
use Rattle.laws.proofs.StepLaws.{changed, by-settled}
use Rattle.safety.proofs.Inv.{Agreement, BoxOk, CollectOk, LastOk, Told, Live, Inv}
use Rattle.safety.proofs.After.{After, after, after_same}
use Rattle.safety.proofs.Stores.{box-promised}
use Rattle.safety.proofs.Base.{core-kept, ranks-put}
use Rattle.safety.proofs.Follower.{head-mail, no_election, Moved, PostAfter, mails-moved}
use Rattle.safety.proofs.Follower.{live_moved}
use Rattle.safety.proofs.Quiet.{inv-popped}
use Rattle.safety.proofs.Arrival.{Arrives}

max-is : (u v : ℕ) → Or (max u v ≡ u) (max u v ≡ v)
max-is u v = go (decide (leb v u))
  where
    go : Or (leb v u ≡ true) (leb v u ≡ false) → Or (max u v ≡ u) (max u v ≡ v)
    go (left e) = left (let h : v ≤ u = leb-true v u e in omega arith)
    go (right e) = right (let h : u < v = leb-false v u e in omega arith)

-- a record held at last+1 is told with the pn under which it was stored
unagreed-is : {g : Agreement} {part : Bool} (x : Box) → BoxOk g part (store x)
    → HeldNext (store x) → unagreed_of x.head.kept (mine x) ≡ (store x).stored_pn
unfolding unagreed_of under_of held_at
unagreed-is x k h =
    let k' = x.head.kept in
    let next = span k'.first k'.last in
    let held = lt-ltb next (length x.records) h in
    rw (pick_true (ltb next (length x.records)) _ _ held)
    (pick_true (eqb k'.stored.number (k'.last + 1)) _ _
    (eq-eqb k'.stored.number (k'.last + 1) (omega (arith, k.number h))))

module _ (s : Site) (i : Inv s) (a b : ℕ) (y : Letter) (ys : List Letter)
    (r : Arrives s a b y ys Kind.Collect) where
  abbrev q : ℕ
  q = y.head.pn

  L : Live s.n s.present s.box s.link i.agreed
  L = i.live r.even

  abbrev P : ℕ
  P = (store L.x).pn

  abbrev st : Store
  st = store (s.box b)

  abbrev u : ℕ
  u = unagreed_of (s.box b).head.kept (mine (s.box b))

  box-ok : BoxOk i.agreed (i.agreed.by b) st
  box-ok = i.core.boxes b r.to

  ok : CollectOk s.present i.agreed L.c L.x a b q
  ok = head-mail L a b y ys r.head r.apart Kind.Collect r.kind

  five : In a most_boxes
  five = (r.from.0, omega (arith, r.from.1, i.ranks.few))

  ne : b ≡ L.c → ⊥
  ne h = r.apart (ok.from ∙ sym h)

  -- ---- the promise

  lead-pn : (store (s.box L.c)).pn ≡ P
  lead-pn = ap (λ (y : Box). (store y).pn) L.at

  -- only the leader's own promise is of its rank and as high
  ranked : (x : ℕ) → In x s.n → Or (max st.pn q ≡ st.pn) (max st.pn q ≡ q)
      → max st.pn q % 100 ≡ x → max st.pn q ≤ (store (s.box x)).pn
  ranked x hx (left h) t = rw h (i.ranks.pns x b hx r.to (rw h at t))
  ranked x hx (right h) t =
      let k : q % 100 ≡ x = rw h at t in
      let xc : x ≡ L.c = omega (arith, k, ok.rank) in
      rw (h, xc) (omega (arith, ok.le, lead-pn))

  still-new : (q ≡ P → ⊥) → (st.pn ≡ P → ⊥) → max st.pn q ≡ P → ⊥
  still-new f g h = go (max-is st.pn q)
    where
      go : Or (max st.pn q ≡ st.pn) (max st.pn q ≡ q) → ⊥
      go (left j) = g (sym j ∙ h)
      go (right j) = f (sym j ∙ h)

  moved : Moved L.x st (promised (max st.pn q) st)
  moved = record {
    promise = λ f. omega (arith, ok.le, f);
    up = omega arith;
    reach = λ f. absurd (omega arith);
    voted = λ f. record { place = f.place; held = f.held; value = f.value; under = f.under };
  }

  -- ---- the answer

  abbrev v : Box
  v = record {
    head =
        with_state State.Recovering
        (with_kept (promising (max (s.box b).head.kept.pn y.head.pn) (s.box b).head.kept)
        (s.box b).head);
    records = (s.box b).records;
  }

  abbrev answer : Letter
  answer = record {
    head =
        mail_from (s.box b).head.kept.first Kind.Last
        (max (s.box b).head.kept.pn y.head.pn) (s.box b).head.kept.last u;
    records = (s.box b).records;
  }

  abbrev link' : Links
  link' j d =
      cond (eqb j b && has (bit a) d) ((popped s a b).link j d ++ (answer ∷ []))
      ((popped s a b).link j d)

  told : state_of L.x ≡ 0
      → Told s.present i.agreed L.c L.x b (store (upd s.box b v b)) (max st.pn q)
      st.last st.first u st.records
  told h = record {
    rank = λ t. omega (arith, lead-pn, ranked L.c L.c_in (max-is st.pn q) t);
    fresh = λ f. still-new (ok.fresh f) ((L.asking f).new b r.to ne);
    low = box-ok.low;
    agreed = box-ok.agreed;
    same = λ m k u. box-ok.same m k (omega (arith, u, unagreed-is (s.box b) box-ok k));
    old = λ m k. omega (arith, box-ok.old m k, unagreed-is (s.box b) box-ok k);
    answers = λ f g. rw (eqb_same b) (record {
      promise = g;
      reach = λ t. absurd (omega arith);
      vote = λ t u. let w = box-ok.vote t u in
          (w.0, w.1, omega (arith, w.2, unagreed-is (s.box b) box-ok w.1));
    });
  }

  answer_ok : (d : ℕ) → d ≡ a
      → LastOk s.present i.agreed L.c L.x b (store (upd s.box b v b)) d
      (max st.pn q) st.last st.first u st.records
  answer_ok d da = record { to = da ∙ ok.from; from = ok.to; told = told }

  inv-asked : After s i (changed s (upd s.box b v) link')
  inv-asked = after (record {
    core = core-kept i.core b v r.to (box-promised st box-ok (max st.pn q) (omega arith))
        (omega arith) (omega arith) refl;
    ranks = ranks-put i.ranks b v (omega arith)
        (λ x hx nx. ranked x hx (max-is st.pn q))
        (λ x hx. i.ranks.stored_pns x b hx r.to);
    live = λ z.
        live_moved L b v moved link' (λ f e. ok.to) ne refl
        (λ h. absurd (no_election L a b y ys r.head h))
        (λ h. refl) (λ h. h) (λ h. still-new (ok.fresh h))
        (all_post (PostAfter L b v moved) (popped s a b).link
        (all_pop (PostAfter L b v moved) s.link (mails-moved L b v moved) a b)
        (bit a) b answer (λ d hd h. answer_ok d (bit_is a d five hd)));
  })

pub inv-collect-mail : (s : Site) (i : Inv s) (a b : ℕ) (y : Letter) (ys : List Letter)
    → Arrives s a b y ys Kind.Collect
    → After s i (by_turn s (popped s a b) b
    (on_collect (s.box b).head a y.head (mine (s.box b))) y.records).next
unfolding on_collect posted written enclosed
inv-collect-mail s i a b y ys r =
    by-settled (After s i) s (popped s a b) b _ _ _ _ (after_same i) (inv-popped s a b i)
    (λ go. inv-asked s i a b y ys r)
