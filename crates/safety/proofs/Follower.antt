-- An even epoch in which one box changes that does not lead.
use Prim.Native.Nat.{ℕ, suc, ◌≤◌, ◌<◌}
use mathlib.Core.Path.{◌≡◌, sym, ap, ◌∙◌, subst}
use mathlib.Core.Bool.{true, false, ◌&&◌, cond}
use mathlib.Core.List.{List, [], ◌∷◌, ◌++◌, tail}
use native.Mathlib.Omega.{arith}
use lib.Dec.{eqb, ltb}
use lib.ListN.{length}
use borrow.Author.Tests.{ltb-true, ltb-false}
use Rattle.rules.specs.Sets.{has}
use Rattle.rules.specs.Box.{Box, Letter}
use Rattle.rules.specs.Site.{upd}
use Rattle.laws.proofs.Types.{Kind}
use Rattle.laws.proofs.Logic.{Or, left, right, In, decide, All, All-in, All-map}
use Rattle.laws.proofs.FrameLaws.{upd-all, upd_other, all_pop}
use Rattle.laws.proofs.View.{Links, Store, store, phase_of, state_of, Reading, Collect, Last, Begin}
use Rattle.laws.proofs.View.{Accept, Commit, Inert, read, read_as}
use Rattle.safety.proofs.Inv.{Agreement, BoxOk, Core, VotedFor, MailOk, PostOk, Told, Ripe}
use Rattle.safety.proofs.Inv.{Live}

-- ---- what is known of the leader and of the mail at a link's head

module _ {n w : ℕ} {box : ℕ → Box} {link : Links} {g : Agreement} (k : Core n box g)
    (L : Live n w box link g) where
  pub lead-ok : BoxOk g (g.by L.c) (store L.x)
  lead-ok =
      subst (λ (y : Box). BoxOk g (g.by L.c) (store y)) L.at (k.boxes L.c L.c_in)

-- a mail anywhere on a link
pub mail-on : {n w : ℕ} {box : ℕ → Box} {link : Links} {g : Agreement} (L : Live n w box link g)
    (a b : ℕ) (ahead : List Letter) (y : Letter) (behind : List Letter)
    → link a b ≡ ahead ++ (y ∷ behind) → (a ≡ b → ⊥) → (k : Kind) → y.head.kind ≡ k
    → MailOk w g L.c L.x a (store (box a)) b (store (box b)) (read_as k y)
mail-on {w = w} {g = g} L a b ahead y behind e ab k is =
    let m = subst (All (PostOk w g L.c L.x a _ b _)) e (L.mails a b) in
    subst (MailOk w g L.c L.x a _ b _) (ap (λ (k : Kind). read_as k y) is)
    (All-in ahead y behind m ab)

module _ {n w : ℕ} {box : ℕ → Box} {link : Links} {g : Agreement} (L : Live n w box link g)
    (a b : ℕ) (y : Letter) (ys : List Letter) (e : link a b ≡ y ∷ ys) where
  pub head-mail : (a ≡ b → ⊥) → (k : Kind) → y.head.kind ≡ k
      → MailOk w g L.c L.x a (store (box a)) b (store (box b)) (read_as k y)
  head-mail = mail-on L a b [] y ys e

  pub no_election : phase_of L.x ≡ 0 → ⊥
  no_election z = let h : 0 ≡ suc (length ys) = ap length (sym (L.quiet z a b) ∙ e) in omega arith

-- ---- what an even epoch, led by the box x, lets another box's store do

pub record Moved (x : Box) (a v : Store) : Type 0 where
  pub promise : a.pn ≡ (store x).pn → v.pn ≡ (store x).pn
  pub up : a.last ≤ v.last
  pub reach : a.last < v.last → v.last ≤ (store x).last
  pub voted : VotedFor x a → VotedFor x v

pub moved-refl : (x : Box) (a : Store) → Moved x a a
moved-refl x a =
    record { promise = λ e. e; up = omega arith; reach = λ l. absurd (omega arith); voted = λ h. h }

moved-reach : {x : Box} {a v : Store} → Moved x a v → (k : ℕ)
    → (k < a.last → a.last ≤ (store x).last) → k < v.last → v.last ≤ (store x).last
moved-reach {x} {a} {v} m k f l = go (decide (ltb a.last v.last))
  where
    go : Or (ltb a.last v.last ≡ true) (ltb a.last v.last ≡ false)
        → v.last ≤ (store x).last
    go (left e) = m.reach (ltb-true a.last v.last e)
    go (right e) = let h : v.last ≤ a.last = ltb-false a.last v.last e in
        omega (arith, f (omega arith))

pub moved-low : {x : Box} {a v : Store} → Moved x a v → a.last ≤ (store x).last
    → v.last ≤ (store x).last
moved-low {x} {a} {v} m h = go (decide (ltb a.last v.last))
  where
    go : Or (ltb a.last v.last ≡ true) (ltb a.last v.last ≡ false)
        → v.last ≤ (store x).last
    go (left e) = m.reach (ltb-true a.last v.last e)
    go (right e) = omega (arith, h, ltb-false a.last v.last e)

module _ (w : ℕ) (g : Agreement) (c : ℕ) (x : Box) (a : ℕ) (sa sa' : Store) (b : ℕ) (sb sb' : Store)
    (f : Moved x sa sa') (h : Moved x sb sb') where
  mail-moved : (m : Reading) → MailOk w g c x a sa b sb m → MailOk w g c x a sa' b sb' m
  mail-moved (Collect q l) k = k
  mail-moved (Last q l F u rs) k =
      record { to = k.to; from = k.from; told = λ z. again (k.told z) }
    where
      again : Told w g c x a sa q l F u rs → Told w g c x a sa' q l F u rs
      again t = record {
        rank = t.rank;
        fresh = t.fresh;
        low = t.low;
        agreed = t.agreed;
        same = t.same;
        old = t.old;
        answers = λ i j. let k = t.answers i j in record {
          promise = f.promise k.promise;
          reach = moved-reach f l k.reach;
          vote = k.vote;
        };
      }
  mail-moved (Begin q l F r) k = record {
    from = k.from;
    to = k.to;
    recovered = k.recovered;
    pn = k.pn;
    le = k.le;
    value = k.value;
    done = k.done;
    top = λ z. k.top (omega (arith, h.up, z));
    now = k.now;
  }
  mail-moved (Accept q l) k = record {
    to = k.to;
    from = k.from;
    recovered = k.recovered;
    le = k.le;
    now = k.now;
    voted = λ z. f.voted (k.voted z);
  }
  mail-moved (Commit q l F rs) k = k
  mail-moved Inert k = k

-- ---- the box d, not leading, becomes v

module _ {n w : ℕ} {box : ℕ → Box} {link : Links} {g : Agreement} (L : Live n w box link g)
    (d : ℕ) (v : Box) (mv : Moved L.x (store (box d)) (store v)) where
  moved_all : (b : ℕ) → Moved L.x (store (box b)) (store (upd box d v b))
  moved_all =
      upd-all (λ b y. Moved L.x (store (box b)) (store y)) box d mv
      (λ b. moved-refl L.x (store (box b)))

  -- the leader's pn
  abbrev P : ℕ
  P = (store L.x).pn

  -- the mail on the links after it
  abbrev pub PostAfter : ℕ → ℕ → Letter → Type 0
  PostAfter a b = PostOk w g L.c L.x a (store (upd box d v a)) b (store (upd box d v b))

  pub mails-moved : (a b : ℕ) → All (PostAfter a b) (link a b)
  mails-moved a b =
      All-map
      (λ m h ab.
      mail-moved w g L.c L.x a _ _ b _ _ (moved_all a) (moved_all b) (read m) (h ab))
      (L.mails a b)

  module _ (link' : Links)
      (Stored-here : ((store (box d)).stored_pn ≡ P → has w d ≡ true)
      → (store v).stored_pn ≡ P → has w d ≡ true)
      (ne : d ≡ L.c → ⊥)
      (led : v.head.leads ≡ (box d).head.leads)
      (quiet : phase_of L.x ≡ 0 → (a b : ℕ) → link' a b ≡ [])
      (stored-kept : state_of L.x ≡ 0 → (store v).stored_pn ≡ (store (box d)).stored_pn)
      (stored-le : (store (box d)).stored_pn ≤ P → (store v).stored_pn ≤ P)
      (pn-new : phase_of L.x ≡ 1 → ((store (box d)).pn ≡ P → ⊥) → (store v).pn ≡ P → ⊥)
      (mails : (a b : ℕ) → All (PostAfter a b) (link' a b)) where
    apart : state_of L.x ≡ 0 → ((b : ℕ) → In b n → (store (box b)).stored_pn ≡ P → ⊥)
        → (b : ℕ) → In b n → (store (upd box d v b)).stored_pn ≡ P → ⊥
    apart z old =
        upd-all (λ b y. In b n → (store y).stored_pn ≡ P → ⊥) box d
        (λ h e. old d h (sym (stored-kept z) ∙ e)) old

    apart-c : upd box d v L.c ≡ box L.c
    apart-c = upd_other box d v L.c (λ e. ne (sym e))

    ripe-moved : Ripe n w box g P (store L.x).last
        → Ripe n w (upd box d v) g P (store L.x).last
    ripe-moved k = record {
      pns = λ b i j. (moved_all b).promise (k.pns b i j);
      stored_pns = upd-all (λ b y. In b n → (store y).stored_pn ≤ P) box d
          (λ i. stored-le (k.stored_pns d i)) k.stored_pns;
      mine = upd-all (λ b y. In b n → (store y).stored_pn ≡ P → has w b ≡ true) box d
          (λ i. Stored-here (k.mine d i)) k.mine;
      top = k.top;
      under = k.under;
      lasts = λ b i j. moved-low (moved_all b) (k.lasts b i j);
    }

    pub live_moved : Live n w (upd box d v) link' g
    live_moved = record {
      c = L.c;
      c_in = L.c_in;
      lead = ap (λ (y : Box). y.head.leads) apart-c ∙ L.lead;
      only = upd-all (λ b y. In b n → y.head.leads ≡ true → b ≡ L.c) box d
          (λ bn e. L.only d bn (sym led ∙ e)) L.only;
      here = L.here;
      major = L.major;
      x = L.x;
      at = apart-c ∙ L.at;
      quiet = quiet;
      asking = λ z. let k = L.asking z in record {
        recovering = k.recovering;
        rank = k.rank;
        apart = apart k.recovering k.apart;
        new = upd-all (λ b y. In b n → (b ≡ L.c → ⊥) → (store y).pn ≡ P → ⊥) box d
            (λ i j. pn-new z (k.new d i j)) k.new;
      };
      hearing = λ z. let k = L.hearing z in record {
        recovering = k.recovering;
        apart = apart k.recovering k.apart;
        promise = λ b i j. (moved_all b).promise (k.promise b i j);
        lasts = λ b i j. moved-low (moved_all b) (k.lasts b i j);
        found = k.found;
        same = k.same;
        old = k.old;
        limit = k.limit;
      };
      settled = λ z. let k = L.settled z in record {
        ripe = ripe-moved k.ripe;
        done = k.done;
        own = k.own;
        accepted = λ y b i j. (moved_all b).voted (k.accepted y b i j);
      };
      mails = mails;
    }

-- ---- the box d takes a mail that it does not answer, and keeps its pn and its stored pn

pub live-read : {n w : ℕ} {box : ℕ → Box} {link : Links} {g : Agreement} (L : Live n w box link g)
    (a d : ℕ) (y : Letter) (ys : List Letter) → link a d ≡ y ∷ ys
    → (v : Box) → Moved L.x (store (box d)) (store v)
    → has w d ≡ true → (d ≡ L.c → ⊥) → v.head.leads ≡ (box d).head.leads
    → (store v).pn ≡ (store (box d)).pn → (store v).stored_pn ≡ (store (box d)).stored_pn
    → Live n w (upd box d v) (λ i j. cond (eqb i a && eqb j d) (tail (link i j)) (link i j)) g
live-read {link = link} L a d y ys e v mv here ne led pn stored =
    live_moved L d v mv _ (λ f j. here) ne led (λ z. absurd (no_election L a d y ys e z))
    (λ h. stored) (λ h. rw stored h) (λ h f j. f (sym pn ∙ j))
    (all_pop (PostAfter L d v mv) link (mails-moved L d v mv) a d)
