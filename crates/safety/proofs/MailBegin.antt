-- A Begin is taken: the box holds the leader's record at last+1, under its pn, and says so.
use Prim.Native.Nat.{ℕ, suc, ◌+◌, ◌-◌, ◌≤◌, max}
use mathlib.Core.Path.{◌≡◌, refl, sym, ap, ◌∙◌}
use mathlib.Core.Bool.{◌&&◌, cond}
use mathlib.Core.List.{List, [], ◌∷◌, ◌++◌}
use native.Mathlib.Omega.{arith}
use lib.Dec.{eqb}
use lib.ListN.{length, get_or}
use Rattle.rules.specs.Sizes.{most_boxes}
use Rattle.rules.specs.Sets.{has, bit}
use Rattle.rules.specs.Fields.{with_state, with_kept, keeping, storing}
use Rattle.rules.specs.Parts.{higher}
use Rattle.rules.specs.Turns.{mail_of}
use Rattle.rules.specs.Mails.{on_begin}
use Rattle.rules.specs.Box.{Box, Letter, written, enclosed}
use Rattle.rules.specs.Site.{Site, setting, popped, posted, upd}
use Rattle.rules.specs.Step.{by_turn}
use Rattle.laws.proofs.Types.{Kind, State}
use Rattle.laws.proofs.Logic.{Or, left, right, In, eqb_same, same?}
use Rattle.laws.proofs.SetLaws.{bit_is}
use Rattle.laws.proofs.FormLaws.{FormedBegin}
use Rattle.laws.proofs.Conditions.{go-begin}
use Rattle.laws.proofs.FrameLaws.{all_pop, all_post}
use Rattle.laws.proofs.View.{Links, Store, store, at, higher-max, stored, Raises, raises-to}
use Rattle.laws.proofs.View.{stored_next, stored-held}
use Rattle.laws.proofs.StepLaws.{changed, by-settled}
use Rattle.safety.proofs.Inv.{Agreement, BoxOk, VotedFor, BeginOk, AcceptOk, Settled, Live}
use Rattle.safety.proofs.Inv.{Inv}
use Rattle.safety.proofs.After.{After, after, after_same}
use Rattle.safety.proofs.Stores.{box-stored}
use Rattle.safety.proofs.Base.{core-put, ranks-put}
use Rattle.safety.proofs.Follower.{lead-ok, head-mail, no_election, Moved, PostAfter}
use Rattle.safety.proofs.Follower.{mails-moved, live_moved}
use Rattle.safety.proofs.Quiet.{inv-popped}
use Rattle.safety.proofs.Arrival.{Arrives, arrived}

-- its pn is just its receiver's: all present have promised the leader's
pub begin-pn : {n w : ℕ} {box : ℕ → Box} {link : Links} {g : Agreement} (L : Live n w box link g)
    {a b q l r : ℕ} → In b n → BeginOk w g L.c L.x a b (store (box b)) q l r
    → q ≡ (store (box b)).pn
begin-pn L {b = b} bn ok = ok.pn ∙ sym ((L.settled ok.recovered).ripe.pns b bn ok.to)

module _ (s : Site) (i : Inv s) (a b : ℕ) (y : Letter) (ys : List Letter)
    (r : Arrives s a b y ys Kind.Begin) where
  abbrev q : ℕ
  q = y.head.pn

  abbrev l : ℕ
  l = y.head.last

  -- its record
  abbrev value : ℕ
  value = get_or y.records 0 0

  L : Live s.n s.present s.box s.link i.agreed
  L = i.live r.even

  -- the leader's last
  abbrev lc : ℕ
  lc = (store L.x).last

  abbrev st : Store
  st = store (s.box b)

  ok : BeginOk s.present i.agreed L.c L.x a b st q l value
  ok = head-mail L a b y ys r.head r.apart Kind.Begin r.kind

  S : Settled s.n s.present s.box i.agreed L.c L.x
  S = L.settled ok.recovered

  same-pn : q ≡ st.pn
  same-pn = begin-pn L r.to ok

  module _ (place : l ≡ st.last) where
    own : BoxOk i.agreed (i.agreed.by b) st
    own = i.core.boxes b r.to

    form : FormedBegin s.J l y.head.first y.head.unagreed (length y.records)
    form = arrived r

    -- first is raised to the leader's
    abbrev f : ℕ
    f = higher st.first y.head.first

    abbrev d : ℕ
    d = f - st.first

    up : Raises st d f
    up = raises-to st own.shaped y.head.first (omega (arith, form.first.top, place))

    kept : f ≤ max 1 st.last
    kept =
        omega (arith, higher-max st.first y.head.first, own.kept, form.first.top, place)

    abbrev t : Store
    t = stored d f q value st

    ne : b ≡ L.c → ⊥
    ne h = r.apart (ok.from ∙ sym h)

    -- where number last+1 is agreed, the leader's record of it is the agreed one
    agreed-value : suc l ≡ length i.agreed.records → Or (l ≡ lc) (l ≡ lc → ⊥)
        → value ≡ get_or i.agreed.records l 0
    agreed-value m (left h) = let v = ok.value h in
        sym v.1
        ∙ (lead-ok i.core L).same (omega (arith, m, h)) v.0
        (omega (arith, S.own (ok.now h), S.ripe.under))
        ∙ ap (λ (t : ℕ). get_or i.agreed.records t 0) (sym h)
    agreed-value m (right h) = ok.done (omega (arith, ok.le, h))

    value-is : suc st.last ≡ length i.agreed.records
        → value ≡ get_or i.agreed.records st.last 0
    value-is m =
        agreed-value (omega (arith, m, place)) (same? l lc)
        ∙ ap (λ (t : ℕ). get_or i.agreed.records t 0) place

    vote : st.last ≡ lc → VotedFor L.x t
    vote h = record {
      place = h;
      held = stored-held st own.shaped up q value;
      value =
          ap (λ (k : ℕ). at t (k + 1)) (sym h)
          ∙ stored_next st own.shaped up q value
          ∙ sym (ok.value (place ∙ h)).1;
      under = ok.pn;
    }

    moved : Moved L.x st t
    moved = record {
      promise = λ f. f;
      up = omega arith;
      reach = λ f. absurd (omega arith);
      voted = λ v. vote v.place;
    }

    abbrev v : Box
    v = record {
      head =
          with_state State.Updating
          (with_kept
          (keeping f
          (storing y.head.pn ((s.box b).head.kept.last + 1) (s.box b).head.kept))
          (s.box b).head);
      records = t.records;
    }

    abbrev accept : Letter
    accept = record {
      head = mail_of Kind.Accept y.head.pn (s.box b).head.kept.last 0;
      records = [];
    }

    abbrev link' : Links
    link' j d =
        cond (eqb j b && has (bit a) d) ((popped s a b).link j d ++ (accept ∷ []))
        ((popped s a b).link j d)

    five : In a most_boxes
    five = (r.from.0, omega (arith, r.from.1, i.ranks.few))

    accept-ok : (d : ℕ) → d ≡ a
        → AcceptOk s.present i.agreed L.c L.x b (store (upd s.box b v b)) d q
        st.last
    accept-ok d da = record {
      to = da ∙ ok.from;
      from = ok.to;
      recovered = ok.recovered;
      le = omega (arith, ok.le, place);
      now = λ h. ok.now (place ∙ h);
      voted = λ h. rw (eqb_same b) (vote h);
    }

    begun : After s i (changed s (upd s.box b v) link')
    begun = after (record {
      core = core-put i.core b v r.to
          (box-stored st own up kept q value same-pn
          (omega (arith, place, ok.top (omega (arith, place)))) value-is)
          (omega arith) (omega arith)
          (has s.present) L.major (λ j h t. omega (arith, S.ripe.pns j h t, ok.pn));
      ranks = ranks-put i.ranks b v (omega arith)
          (λ x hx ne t. i.ranks.pns x b hx r.to t)
          (λ x hx t. rw same-pn (i.ranks.pns x b hx r.to (rw same-pn at t)));
      live = λ z.
          live_moved L b v moved link' (λ f e. ok.to) ne refl
          (λ h. absurd (no_election L a b y ys r.head h))
          (λ h. absurd (ok.recovered h)) (λ h. omega (arith, ok.pn)) (λ h f. f)
          (all_post (PostAfter L b v moved) (popped s a b).link
          (all_pop (PostAfter L b v moved) s.link (mails-moved L b v moved) a b)
          (bit a) b accept (λ d hd h. accept-ok d (bit_is a d five hd)));
    })

pub inv-begin : (s : Site) (i : Inv s) (a b : ℕ) (y : Letter) (ys : List Letter)
    → Arrives s a b y ys Kind.Begin
    → After s i (by_turn s (popped s a b) b
    (on_begin (s.box b).head (setting s b) a y.head (get_or y.records 0 0)) y.records).next
unfolding on_begin posted written enclosed
inv-begin s i a b y ys r =
    by-settled (After s i) s (popped s a b) b _ _ _ _ (after_same i) (inv-popped s a b i)
    (λ go. begun s i a b y ys r (sym (go-begin go).place))
