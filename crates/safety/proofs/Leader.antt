-- An even epoch seen from its leader, and one in which the leader's box changes.
use Prim.Native.Nat.{ℕ, ◌+◌, ◌≤◌, ◌<◌}
use mathlib.Core.Path.{◌≡◌, refl, sym, ap, ◌∙◌, subst}
use mathlib.Core.Bool.{true}
use mathlib.Core.List.{List, [], ◌∷◌}
use native.Mathlib.Omega.{arith}
use lib.ListN.{length}
use Rattle.rules.specs.Sets.{has}
use Rattle.rules.specs.Parts.{span}
use Rattle.rules.specs.Box.{Box, Letter, record_at}
use Rattle.rules.specs.Site.{upd}
use Rattle.laws.proofs.Types.{Kind}
use Rattle.laws.proofs.Logic.{In, eqb_same, All, All-head, All-map}
use Rattle.laws.proofs.Counts.{Major}
use Rattle.laws.proofs.FrameLaws.{upd-all, upd_same, upd_other}
use Rattle.laws.proofs.View.{Links, Store, store, keeping, phase_of, state_of, at, HeldNext}
use Rattle.laws.proofs.View.{Reading}
use Rattle.laws.proofs.View.{Collect, Last, Begin, Accept, Commit, Inert, read, read_as}
use Rattle.safety.proofs.Inv.{Agreement, VotedFor, MailOk, PostOk, LastOk, Told, BeginOk}
use Rattle.safety.proofs.Inv.{AcceptOk, Ripe, Asking, Hearing, Settled, Live}

-- `Live`, the leader c and its box x given
pub record Led (n w : ℕ) (box : ℕ → Box) (link : Links) (g : Agreement) (c : ℕ) (x : Box)
    : Type 0 where
  pub c_in : In c n
  pub lead : x.head.leads ≡ true
  pub only : (b : ℕ) → In b n → (box b).head.leads ≡ true → b ≡ c
  pub here : has w c ≡ true
  pub major : Major n (has w)
  pub quiet : phase_of x ≡ 0 → (a b : ℕ) → link a b ≡ []
  pub asking : phase_of x ≡ 1 → Asking n w box g c x
  pub hearing : phase_of x ≡ 2 → Hearing n w box g c x
  pub settled : (state_of x ≡ 0 → ⊥) → Settled n w box g c x
  pub mails : (a b : ℕ) → All (PostOk w g c x a (store (box a)) b (store (box b))) (link a b)

module _ {n w : ℕ} {box : ℕ → Box} {link : Links} {g : Agreement} where
  -- the box that leads is the leader
  pub led : Live n w box link g → (c : ℕ) → In c n → (box c).head.leads ≡ true
      → Led n w box link g c (box c)
  led L c c_in h =
      subst (λ (k : ℕ). Led n w box link g k (box k)) (sym (L.only c c_in h))
      (subst (Led n w box link g L.c) (sym L.at) (record {
        c_in = L.c_in;
        lead = subst (λ (y : Box). y.head.leads ≡ true) L.at L.lead;
        only = L.only;
        here = L.here;
        major = L.major;
        quiet = L.quiet;
        asking = L.asking;
        hearing = L.hearing;
        settled = L.settled;
        mails = L.mails;
      }))

  pub led-mail : {c : ℕ} {x : Box} (L : Led n w box link g c x)
      (a b : ℕ) (y : Letter) (ys : List Letter)
      → link a b ≡ y ∷ ys → (a ≡ b → ⊥) → (k : Kind) → y.head.kind ≡ k
      → MailOk w g c x a (store (box a)) b (store (box b)) (read_as k y)
  led-mail {c} {x} L a b y ys e ab k is =
      let m = subst (All (PostOk w g c x a _ b _)) e (L.mails a b) in
      subst (MailOk w g c x a _ b _) (ap (λ (k : Kind). read_as k y) is) (All-head m ab)

  -- ---- the leader's box becomes x

  module _ (c : ℕ) (L : Led n w box link g c (box c)) (x : Box)
      (x-leads : x.head.leads ≡ true) where
    -- the mail on its way, after it
    abbrev pub PostLed : Agreement → ℕ → ℕ → Letter → Type 0
    PostLed g' a b = PostOk w g' c x a (store (upd box c x a)) b (store (upd box c x b))

    stay : (j : ℕ) → (j ≡ c → ⊥) → store (box j) ≡ store (upd box c x j)
    stay j h = ap (λ (y : Box). store y) (sym (upd_other box c x j h))

    -- no clause reads the leader's own store at the mail's other end
    relocate : (g' : Agreement) (a b : ℕ) → (a ≡ b → ⊥) → (m : Reading)
        → MailOk w g' c x a (store (box a)) b (store (box b)) m
        → MailOk w g' c x a (store (upd box c x a)) b (store (upd box c x b)) m
    relocate g' a b ab (Collect q l) h = h
    relocate g' a b ab (Last q l F u rs) h =
        subst (λ (t : Store). LastOk w g' c x a t b q l F u rs) (stay a (λ k. ab (k ∙ sym h.to)))
        h
    relocate g' a b ab (Begin q l F r) h =
        subst (λ (t : Store). BeginOk w g' c x a b t q l r) (stay b (λ k. ab (h.from ∙ sym k))) h
    relocate g' a b ab (Accept q l) h =
        subst (λ (t : Store). AcceptOk w g' c x a t b q l) (stay a (λ k. ab (k ∙ sym h.to))) h
    relocate g' a b ab (Commit q l F rs) h = h
    relocate g' a b ab Inert h = h

    pub lead-mails : (g' : Agreement)
        → ((a b : ℕ) (m : Reading) → MailOk w g c (box c) a (store (box a)) b (store (box b)) m
        → MailOk w g' c x a (store (box a)) b (store (box b)) m)
        → (a b : ℕ) → All (PostLed g' a b) (link a b)
    lead-mails g' f a b =
        All-map (λ m h ab. relocate g' a b ab (read m) (f a b (read m) (h ab))) (L.mails a b)

    pub lead-live : (link' : Links) (g' : Agreement)
        → (phase_of x ≡ 0 → (a b : ℕ) → link' a b ≡ [])
        → (phase_of x ≡ 1 → Asking n w (upd box c x) g' c x)
        → (phase_of x ≡ 2 → Hearing n w (upd box c x) g' c x)
        → ((state_of x ≡ 0 → ⊥) → Settled n w (upd box c x) g' c x)
        → ((a b : ℕ) → All (PostLed g' a b) (link' a b))
        → Live n w (upd box c x) link' g'
    lead-live link' g' q a h s m = record {
      c = c;
      c_in = L.c_in;
      lead = rw (eqb_same c) x-leads;
      only = upd-all (λ b y. In b n → y.head.leads ≡ true → b ≡ c) box c (λ bn e. refl) L.only;
      here = L.here;
      major = L.major;
      x = x;
      at = upd_same box c x;
      quiet = q;
      asking = a;
      hearing = h;
      settled = s;
      mails = m;
    }

-- ---- a leader that keeps its store, but for what it has dropped

-- a book from number f on, with the record of the store's last+1
pub record SameNext (a : Store) (f : ℕ) (rs : List ℕ) : Type 0 where
  pub held : HeldNext a → span f a.last < length rs
  pub value : record_at f rs (a.last + 1) ≡ at a (a.last + 1)

pub same_next : (a : Store) → SameNext a a.first a.records
same_next a = record { held = λ h. h; value = refl }

abbrev pub booked : ℕ → List ℕ → Store → Store
booked f rs a = record {
  pn = a.pn;
  last = a.last;
  first = f;
  records = rs;
  stored_pn = a.stored_pn;
  stored_number = a.stored_number;
}

-- how its phase and state may go on
pub record Onward (y z : Box) : Type 0 where
  pub asking : phase_of z ≡ 1 → phase_of y ≡ 1
  pub hearing : phase_of z ≡ 2 → phase_of y ≡ 2
  pub beginning : phase_of y ≡ 4 → phase_of z ≡ 4
  pub recovering : state_of z ≡ 0 → state_of y ≡ 0

pub onward-same : {y z : Box} → phase_of z ≡ phase_of y → state_of z ≡ state_of y → Onward y z
onward-same p s = record {
  asking = λ e. sym p ∙ e;
  hearing = λ e. sym p ∙ e;
  beginning = λ e. p ∙ e;
  recovering = λ e. sym s ∙ e;
}

module _ (w : ℕ) (g : Agreement) (c : ℕ) (y z : Box) (on : Onward y z) (f : ℕ) (book : List ℕ)
    (next : SameNext (store y) f book) where
  abbrev x : Box
  x = keeping (booked f book (store y)) z

  pub voted-kept : {a : Store} → VotedFor y a → VotedFor x a
  voted-kept v = record {
    place = v.place;
    held = v.held;
    value = v.value ∙ sym next.value;
    under = v.under;
  }

  pub mail-kept : (a : ℕ) (sa : Store) (b : ℕ) (sb : Store) (m : Reading)
      → MailOk w g c y a sa b sb m → MailOk w g c x a sa b sb m
  mail-kept a sa b sb (Collect q l) h = record {
    from = h.from;
    to = h.to;
    rank = h.rank;
    le = h.le;
    fresh = λ e. h.fresh (on.asking e);
  }
  mail-kept a sa b sb (Last q l F u rs) h =
      record { to = h.to; from = h.from; told = λ e. again (h.told (on.recovering e)) }
    where
      again : Told w g c y a sa q l F u rs → Told w g c x a sa q l F u rs
      again t = record {
        rank = t.rank;
        fresh = λ e. t.fresh (on.asking e);
        low = t.low;
        agreed = t.agreed;
        same = t.same;
        old = t.old;
        answers = λ e f. let k = t.answers (on.hearing e) f in
            record { promise = k.promise; reach = k.reach; vote = k.vote };
      }
  mail-kept a sa b sb (Begin q l F r) h = record {
    from = h.from;
    to = h.to;
    recovered = λ e. h.recovered (on.recovering e);
    pn = h.pn;
    le = h.le;
    value = λ e. (next.held (h.value e).0, next.value ∙ (h.value e).1);
    done = h.done;
    top = h.top;
    now = λ e. on.beginning (h.now e);
  }
  mail-kept a sa b sb (Accept q l) h = record {
    to = h.to;
    from = h.from;
    recovered = λ e. h.recovered (on.recovering e);
    le = h.le;
    now = λ e. on.beginning (h.now e);
    voted = λ e. voted-kept (h.voted e);
  }
  mail-kept a sa b sb (Commit q l F rs) h =
      record { from = h.from; to = h.to; le = h.le; agreed = h.agreed }
  mail-kept a sa b sb Inert h = h

-- the leader's box becomes v, and keeps its pn and its last
pub ripe-put : {n w P l : ℕ} {box : ℕ → Box} {g : Agreement} (c : ℕ) (v : Box)
    → (store v).pn ≡ P → (store v).last ≡ l
    → (In c n → (store v).stored_pn ≤ P) → (In c n → (store v).stored_pn ≡ P → has w c ≡ true)
    → Ripe n w box g P l → Ripe n w (upd box c v) g P l
ripe-put {n} {w} {P} {l} {box} c v pn last stored mine k = record {
  pns = upd-all (λ b y. In b n → has w b ≡ true → (store y).pn ≡ P) box c (λ i h. pn) k.pns;
  stored_pns = upd-all (λ b y. In b n → (store y).stored_pn ≤ P) box c stored k.stored_pns;
  mine = upd-all (λ b y. In b n → (store y).stored_pn ≡ P → has w b ≡ true) box c mine k.mine;
  top = k.top;
  under = k.under;
  lasts = upd-all (λ b y. In b n → has w b ≡ true → (store y).last ≤ l) box c
      (λ i h. omega (arith, last)) k.lasts;
}

module _ {n w : ℕ} {box : ℕ → Box} {g : Agreement} (c : ℕ) (z : Box)
    (k : Settled n w box g c (box c)) where
  abbrev kept : Box
  kept = keeping (store (box c)) z

  pub settled-kept : ((phase_of z ≡ 4 → ⊥) → length g.records ≤ (store (box c)).last)
      → (phase_of z ≡ 4 → (store (box c)).stored_pn ≡ (store (box c)).pn)
      → (phase_of z ≡ 4 → (b : ℕ) → In b n → has z.head.accepts b ≡ true
      → VotedFor (box c) (store (box b)))
      → Settled n w (upd box c kept) g c kept
  settled-kept done own accepted = record {
    ripe = ripe-put c kept refl refl (k.ripe.stored_pns c) (k.ripe.mine c) k.ripe;
    done = done;
    own = own;
    accepted = λ e.
        upd-all (λ b y. In b n → has z.head.accepts b ≡ true → VotedFor (box c) (store y)) box c
        (accepted e c) (accepted e);
  }
