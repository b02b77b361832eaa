-- What a leader that may go on does next: it starts a record, or it leases.
use Prim.Native.Nat.{ℕ, suc, ◌+◌, ◌≤◌}
use mathlib.Core.Path.{◌≡◌, refl}
use mathlib.Core.Bool.{true}
use mathlib.Core.List.{[], ◌∷◌, ◌++◌}
use native.Mathlib.Omega.{arith}
use lib.ListN.{length, get_or, take}
use Rattle.rules.specs.Sizes.{most_boxes, even}
use Rattle.rules.specs.Sets.{has, bit, without}
use Rattle.rules.specs.Fields.{with_state, with_phase, with_kept, with_accepts, with_heard}
use Rattle.rules.specs.Fields.{with_agreeing}
use Rattle.rules.specs.Fields.{storing}
use Rattle.rules.specs.Parts.{others, span}
use Rattle.rules.specs.Steps.{started, leased}
use Rattle.rules.specs.Box.{Box, written, enclosed}
use Rattle.rules.specs.Site.{Site, setting, posted, played, upd}
use Rattle.laws.proofs.Types.{Phase, State}
use Rattle.laws.proofs.Logic.{In, eqb_same}
use Rattle.laws.proofs.SetLaws.{without_in, bit_is}
use Rattle.laws.proofs.FrameLaws.{all_post}
use Rattle.laws.proofs.View.{Store, store, keeping, phase_of, state_of, at, Reading, Collect, Last}
use Rattle.laws.proofs.View.{Begin, Accept, Commit, Inert, Raises, raises-none, stored-held}
use Rattle.safety.proofs.Inv.{Agreement, BoxOk, VotedFor, MailOk, BeginOk, Ripe, Settled}
use Rattle.safety.proofs.Inv.{Inv}
use Rattle.safety.proofs.After.{After, after}
use Rattle.safety.proofs.Stores.{box-stored}
use Rattle.safety.proofs.Base.{core-put, core-kept, ranks-put, ranks-kept}
use Rattle.safety.proofs.Leader.{Led, led, PostLed, lead-mails, lead-live, Onward, mail-kept}
use Rattle.safety.proofs.Leader.{same_next, ripe-put}

-- ---- the mail on its way, as a record is started

-- the box b of the leader c after it has started r
abbrev begun : ℕ → Box → ℕ → Box
begun c b r = record {
  head =
      with_kept (storing b.head.kept.pn (b.head.kept.last + 1) b.head.kept)
      (with_agreeing r (with_accepts (bit c) (with_phase Phase.Begin b.head)));
  records = take (span b.head.kept.first b.head.kept.last) b.records ++ (r ∷ []);
}

module _ (w : ℕ) (g : Agreement) (c : ℕ) (y z : Box) (r : ℕ)
    (ph : phase_of y ≡ 4 → ⊥) (op : state_of z ≡ 0 → ⊥) where
  mail-started : (a : ℕ) (sa : Store) (b : ℕ) (sb : Store) (m : Reading)
      → MailOk w g c y a sa b sb m → MailOk w g c (begun c (keeping (store y) z) r) a sa b sb m
  mail-started a sa b sb (Collect q l) h = record {
    from = h.from;
    to = h.to;
    rank = h.rank;
    le = h.le;
    fresh = λ e. absurd (omega arith);
  }
  mail-started a sa b sb (Last q l F u rs) h =
      record { to = h.to; from = h.from; told = λ e. absurd (op e) }
  mail-started a sa b sb (Begin q l F r') h = record {
    from = h.from;
    to = h.to;
    recovered = op;
    pn = h.pn;
    le = h.le;
    value = λ e. absurd (ph (h.now e));
    done = h.done;
    top = h.top;
    now = λ e. refl;
  }
  mail-started a sa b sb (Accept q l) h = record {
    to = h.to;
    from = h.from;
    recovered = op;
    le = h.le;
    now = λ e. refl;
    voted = λ e. absurd (ph (h.now e));
  }
  mail-started a sa b sb (Commit q l F rs) h =
      record { from = h.from; to = h.to; le = h.le; agreed = h.agreed }
  mail-started a sa b sb Inert h = h

-- ---- the leader c, ripe and in no phase Begin; y is its box as the rule hands it on

module _ (s : Site) (i : Inv s) (c : ℕ) (c_in : In c s.n) (h : (s.box c).head.leads ≡ true)
    (z : even s.epoch ≡ true) (ph : phase_of (s.box c) ≡ 4 → ⊥)
    (k : Ripe s.n s.present s.box i.agreed
    (store (s.box c)).pn (store (s.box c)).last)
    (y : Box) (y-leads : y.head.leads ≡ true) where
  abbrev a : Store
  a = store (s.box c)

  L : Led s.n s.present s.box s.link i.agreed c (s.box c)
  L = led (i.live z) c c_in h

  five : In c most_boxes
  five = (c_in.0, omega (arith, c_in.1, i.ranks.few))

  sent : (b : ℕ) → has (without s.present c) b ≡ true → has s.present b ≡ true
  sent b t = (without_in s.present c b five t).0

  -- the record r is the agreed one where number last+1 is agreed
  module _ (r : ℕ) (op : state_of y ≡ 0 → ⊥)
      (is : suc a.last ≡ length i.agreed.records
      → r ≡ get_or i.agreed.records a.last 0) where
    abbrev x : Box
    x = begun c (keeping (store (s.box c)) y) r

    own : BoxOk i.agreed (i.agreed.by c) a
    own = i.core.boxes c c_in

    up : Raises a 0 a.first
    up = raises-none a own.shaped

    voted : VotedFor x (store x)
    voted = record {
      place = refl;
      held = stored-held a own.shaped up a.pn r;
      value = refl;
      under = refl;
    }

    votes : (b : ℕ) → b ≡ c → VotedFor x (store (upd s.box c x b))
    votes b e = rw (e, eqb_same c) voted

    settled : Settled s.n s.present (upd s.box c x) i.agreed c x
    settled = record {
      ripe = ripe-put c x refl refl (λ f. omega arith) (λ f e. L.here) k;
      done = λ f. absurd (f refl);
      own = λ f. refl;
      accepted = λ f b bn t. votes b (bit_is c b five t);
    }

    begin-ok : (b : ℕ) → has (without s.present c) b ≡ true
        → BeginOk s.present i.agreed c x c b (store (upd s.box c x b)) a.pn a.last
        (at (store x) (a.last + 1))
    begin-ok b t = record {
      from = refl;
      to = sent b t;
      recovered = op;
      pn = refl;
      le = omega arith;
      value = λ e. (stored-held a own.shaped up a.pn r, refl);
      done = λ l. absurd (omega (arith, l));
      top = λ f. k.top;
      now = λ f. refl;
    }

    pub inv-started :
        After s i (played s c (started (keeping (store (s.box c)) y).head (setting s c) r) [])
    unfolding started others posted written enclosed
    inv-started = after (record {
      core = core-put i.core c x c_in
          (box-stored a own up own.kept a.pn r refl k.top is)
          (omega arith) (omega arith)
          (has s.present) L.major (λ b bn t. omega (arith, k.pns b bn t));
      ranks = ranks-put i.ranks c x (omega arith)
          (λ j jn jc. i.ranks.pns j c jn c_in) (λ j jn. i.ranks.pns j c jn c_in);
      live = λ e.
          lead-live c L x y-leads _ i.agreed
          (λ f. absurd (omega arith)) (λ f. absurd (omega arith)) (λ f. absurd (omega arith))
          (λ f. settled)
          (all_post (PostLed c L x y-leads i.agreed) s.link
          (lead-mails c L x y-leads i.agreed
          (λ j b m. mail-started s.present i.agreed c (s.box c) y r ph op j _ b _ m))
          (without s.present c) c _ (λ b t ab. begin-ok b t));
    })

  -- nothing beyond last is agreed
  module _ (done : length i.agreed.records ≤ a.last) where
    abbrev rest : Box
    rest = record {
      head =
          with_state State.Active
          (with_heard (bit c) (with_phase Phase.Lease (keeping (store (s.box c)) y).head));
      records = (s.box c).records;
    }

    onward : Onward (s.box c) rest
    onward = record {
      asking = λ f. absurd (omega arith);
      hearing = λ f. absurd (omega arith);
      beginning = λ f. absurd (ph f);
      recovering = λ f. absurd (omega arith);
    }

    leases : Settled s.n s.present (upd s.box c rest) i.agreed c rest
    leases = record {
      ripe = ripe-put c rest refl refl (k.stored_pns c) (k.mine c) k;
      done = λ g. done;
      own = λ g. absurd (omega arith);
      accepted = λ g. absurd (omega arith);
    }

    pub inv-leased :
        After s i (played s c (leased (keeping (store (s.box c)) y).head (setting s c)) [])
    unfolding leased others posted written enclosed
    inv-leased = after (record {
      core =
          core-kept i.core c rest c_in (i.core.boxes c c_in) (omega arith) (omega arith) refl;
      ranks = ranks-kept i.ranks c rest c_in refl refl;
      live = λ e.
          lead-live c L rest y-leads _ i.agreed
          (λ f. absurd (omega arith)) (λ f. absurd (omega arith)) (λ f. absurd (omega arith))
          (λ f. leases)
          (all_post (PostLed c L rest y-leads i.agreed) s.link
          (lead-mails c L rest y-leads i.agreed
          (λ j b m.
          mail-kept s.present i.agreed c (s.box c) rest onward _ _ (same_next a) j _ b _ m))
          (without s.present c) c _ (λ b t ab. tt));
    })
