-- Trim: numbers below the new first leave the book. No clause reads them: what is kept is still
-- agreed, and the record at last+1 stays.
use Prim.Native.Nat.{ℕ, ◌+◌, ◌≤◌}
use mathlib.Core.Path.{◌≡◌, refl, sym, ◌∙◌, subst}
use mathlib.Core.Bool.{true}
use mathlib.Core.List.{List}
use native.Mathlib.Omega.{arith}
use lib.ListN.{drop}
use Rattle.rules.specs.Sets.{has}
use Rattle.rules.specs.Fields.{with_kept, keeping}
use Rattle.rules.specs.Parts.{dropped}
use Rattle.rules.specs.Steps.{trim, acted}
use Rattle.rules.specs.Box.{Box, written}
use Rattle.rules.specs.Site.{Site, setting, posted, upd}
use Rattle.rules.specs.Step.{step}
use Rattle.laws.proofs.Types.{Call}
use Rattle.laws.proofs.Logic.{Or, left, right, In, same?}
use Rattle.laws.proofs.Conditions.{CanTrim, go-unless, can-trim}
use Rattle.laws.proofs.FrameLaws.{upd-all}
use Rattle.laws.proofs.View.{Store, store, Raises, raises-trim, trimmed-at, trimmed-holds}
use Rattle.laws.proofs.StepLaws.{changed, by-acting}
use Rattle.safety.proofs.Inv.{BoxOk, VotedFor, Settled, Live, Inv}
use Rattle.safety.proofs.After.{After, after, after_same}
use Rattle.safety.proofs.Stores.{box-trimmed}
use Rattle.safety.proofs.Base.{core-kept, ranks-kept}
use Rattle.safety.proofs.Follower.{Moved, mails-moved, live_moved}
use Rattle.safety.proofs.Leader.{Led, led, lead-mails, lead-live, Onward, onward-same}
use Rattle.safety.proofs.Leader.{SameNext, voted-kept, mail-kept, ripe-put}

module _ (s : Site) (i : Inv s) (c : ℕ) (c_in : In c s.n) (k : ℕ)
    (o : CanTrim (s.box c).head (setting s c) k) where
  abbrev st : Store
  st = store (s.box c)

  abbrev book : List ℕ
  book = drop (dropped k (s.box c).head.kept) (s.box c).records

  abbrev v : Box
  v = record {
    head = with_kept (keeping k (s.box c).head.kept) (s.box c).head;
    records = book;
  }

  own : BoxOk i.agreed (i.agreed.by c) st
  own = i.core.boxes c c_in

  up : Raises st (dropped k (s.box c).head.kept) k
  up = raises-trim st own.shaped k o.above o.agreed

  voted : (x : Box) → VotedFor x st → VotedFor x (store v)
  voted x w = record {
    place = w.place;
    held = trimmed-holds st own.shaped up w.held;
    value =
        trimmed-at st own.shaped up ((store x).last + 1) (omega (arith, o.agreed, w.place))
        ∙ w.value;
    under = w.under;
  }

  -- ---- at a box that does not lead

  moved : (x : Box) → Moved x st (store v)
  moved x = record {
    promise = λ e. e;
    up = omega arith;
    reach = λ l. absurd (omega arith);
    voted = voted x;
  }

  -- ---- at the leader

  next : SameNext st k book
  next = record {
    held = trimmed-holds st own.shaped up;
    value = trimmed-at st own.shaped up (st.last + 1) up.top;
  }

  onward : Onward (s.box c) v
  onward = onward-same refl refl

  module _ (L : Led s.n s.present s.box s.link i.agreed c (s.box c)) where
    settled : Settled s.n s.present s.box i.agreed c (s.box c)
        → Settled s.n s.present (upd s.box c v) i.agreed c v
    settled h = record {
      ripe = ripe-put c v refl refl (h.ripe.stored_pns c) (h.ripe.mine c) h.ripe;
      done = h.done;
      own = h.own;
      accepted = λ e.
          upd-all
          (λ b y. In b s.n → has (s.box c).head.accepts b ≡ true → VotedFor v (store y))
          s.box c
          (λ bn t. still (voted (s.box c) (h.accepted e c bn t)))
          (λ b bn t. still (h.accepted e b bn t));
    }
      where
        still : {a : Store} → VotedFor (s.box c) a → VotedFor v a
        still = voted-kept s.present i.agreed c (s.box c) v onward k book next

    live-trimmed : Live s.n s.present (upd s.box c v) s.link i.agreed
    live-trimmed =
        lead-live c L v L.lead s.link i.agreed L.quiet
        (λ f. let a = L.asking f in record {
          recovering = a.recovering;
          rank = a.rank;
          apart = upd-all (λ b y. In b s.n → (store y).stored_pn ≡ st.pn → ⊥) s.box c
              (a.apart c) a.apart;
          new = upd-all (λ b y. In b s.n → (b ≡ c → ⊥) → (store y).pn ≡ st.pn → ⊥) s.box c
              (a.new c) a.new;
        })
        (λ f. let h = L.hearing f in record {
          recovering = h.recovering;
          apart = upd-all (λ b y. In b s.n → (store y).stored_pn ≡ st.pn → ⊥) s.box c
              (h.apart c) h.apart;
          promise = upd-all (λ b y. In b s.n → has (s.box c).head.answered b ≡ true
              → (store y).pn ≡ st.pn) s.box c (h.promise c) h.promise;
          lasts = upd-all (λ b y. In b s.n → has (s.box c).head.answered b ≡ true
              → (store y).last ≤ st.last) s.box c (h.lasts c) h.lasts;
          found = h.found;
          same = h.same;
          old = h.old;
          limit = h.limit;
        })
        (λ f. settled (L.settled f))
        (lead-mails c L v L.lead i.agreed
        (λ a b m.
        mail-kept s.present i.agreed c (s.box c) v onward k book next a _ b _ m))

  inv-trimmed : After s i (changed s (upd s.box c v) s.link)
  inv-trimmed = after (record {
    core = core-kept i.core c v c_in (box-trimmed st own up (omega (arith, o.agreed)))
        (omega arith) (omega arith) refl;
    ranks = ranks-kept i.ranks c v c_in refl refl;
    live = λ z. go (i.live z) (same? c (i.live z).c);
  })
    where
      go : (L : Live s.n s.present s.box s.link i.agreed)
          → Or (c ≡ L.c) (c ≡ L.c → ⊥)
          → Live s.n s.present (upd s.box c v) s.link i.agreed
      go L (left e) =
          live-trimmed
          (led L c c_in
          (subst (λ (j : ℕ). (s.box j).head.leads ≡ true) (sym e) L.lead))
      go L (right ne) =
          live_moved L c v (moved L.x) s.link (λ f e. o.here) ne refl L.quiet
          (λ h. refl) (λ h. h) (λ h f. f) (mails-moved L c v (moved L.x))

pub inv-trim : (s : Site) (i : Inv s) (c k : ℕ) → After s i (step s (Call.Trim c k)).next
unfolding step acted trim posted written
inv-trim s i c k =
    by-acting (After s i) s c _ _ _ (after_same i)
    (λ f c_in go. inv-trimmed s i c c_in k (can-trim (go-unless _ _ _ go).0))
