-- Collect: the leader's own record is the first best, and the leader alone has answered.
use Prim.Native.Nat.{ℕ, ◌+◌, ◌<◌}
use mathlib.Core.Path.{◌≡◌, refl, subst}
use mathlib.Core.Bool.{true}
use mathlib.Core.List.{[]}
use native.Mathlib.Omega.{arith}
use lib.Dec.{eqb}
use lib.ListN.{length}
use borrow.Author.Tests.{eq-eqb}
use Rattle.std.specs.Prelude.{Option}
use Rattle.rules.specs.Pick.{pick_true}
use Rattle.rules.specs.Sizes.{most_boxes}
use Rattle.rules.specs.Sets.{has, bit, without}
use Rattle.rules.specs.Fields.{with_phase, with_best, with_answered, with_peers}
use Rattle.rules.specs.Parts.{others, all_unknown, under_of, span}
use Rattle.rules.specs.Turns.{mail_of}
use Rattle.rules.specs.Steps.{best_held, collect, acted}
use Rattle.rules.specs.Box.{Box, Letter, mine, written, enclosed}
use Rattle.rules.specs.Site.{Site, setting, posted, upd}
use Rattle.rules.specs.Step.{step}
use Rattle.laws.proofs.Types.{Call, Kind, Out, Phase}
use Rattle.laws.proofs.Logic.{In, eqb_same}
use Rattle.laws.proofs.SetLaws.{bit_is, without_in}
use Rattle.laws.proofs.Conditions.{Leading, Is, go-unless, can-collect}
use Rattle.laws.proofs.FrameLaws.{upd-all, all_post}
use Rattle.laws.proofs.View.{Links, Store, store, HeldNext, held_elim, Reading, Collect, Last}
use Rattle.laws.proofs.View.{Begin, Accept, Commit, Inert}
use Rattle.laws.proofs.StepLaws.{changed, by-acting}
use Rattle.safety.proofs.Inv.{BoxOk, MailOk, Asking, Hearing, Inv}
use Rattle.safety.proofs.After.{After, after, after_same}
use Rattle.safety.proofs.Base.{core-kept, ranks-kept}
use Rattle.safety.proofs.Chosen.{BestOk, Found}
use Rattle.safety.proofs.Leader.{Led, led, PostLed, lead-mails, lead-live}

module _ (s : Site) (i : Inv s) (c : ℕ) (c_in : In c s.n)
    (o : Leading (Is 1) (Is 0) (s.box c).head (setting s c)) where
  abbrev st : Store
  st = store (s.box c)

  L : Led s.n s.present s.box s.link i.agreed c (s.box c)
  L = led (i.live o.even) c c_in o.leads

  asking : Asking s.n s.present s.box i.agreed c (s.box c)
  asking = L.asking o.phase

  abbrev x : Box
  x = record {
    head =
        with_peers all_unknown
        (with_answered (bit c)
        (with_best (best_held (s.box c).head.kept (mine (s.box c)))
        (with_phase Phase.Collect (s.box c).head)));
    records = (s.box c).records;
  }

  five : In c most_boxes
  five = (c_in.0, omega (arith, c_in.1, i.ranks.few))

  -- ---- the mail on its way is of no use to it

  mail-collect : (a : ℕ) (sa : Store) (b : ℕ) (sb : Store) (m : Reading)
      → MailOk s.present i.agreed c (s.box c) a sa b sb m
      → MailOk s.present i.agreed c x a sa b sb m
  mail-collect a sa b sb (Collect q l) h = record {
    from = h.from;
    to = h.to;
    rank = h.rank;
    le = h.le;
    fresh = λ e. absurd (omega arith);
  }
  mail-collect a sa b sb (Last q l F u rs) h = record {
    to = h.to;
    from = h.from;
    told = λ e. let t = h.told e in record {
      rank = t.rank;
      fresh = λ f. absurd (omega arith);
      low = t.low;
      agreed = t.agreed;
      same = t.same;
      old = t.old;
      answers = λ f j. absurd (t.fresh o.phase j);
    };
  }
  mail-collect a sa b sb (Begin q l F r) h = absurd (h.recovered o.state)
  mail-collect a sa b sb (Accept q l) h = absurd (h.recovered o.state)
  mail-collect a sa b sb (Commit q l F rs) h =
      record { from = h.from; to = h.to; le = h.le; agreed = h.agreed }
  mail-collect a sa b sb Inert h = h

  -- ---- the first best

  own : BoxOk i.agreed (i.agreed.by c) st
  own = i.core.boxes c c_in

  under-is : HeldNext st → under_of (s.box c).head.kept ≡ st.stored_pn
  unfolding under_of
  under-is h =
      let k = (s.box c).head.kept in
      pick_true (eqb k.stored.number (k.last + 1)) _ _
      (eq-eqb k.stored.number (k.last + 1) (omega (arith, own.number h)))

  best-ok : BestOk i.agreed st.last (best_held (s.box c).head.kept (mine (s.box c)))
  unfolding best_held
  best-ok =
      held_elim (λ (q : Option ℕ). BestOk i.agreed st.last (best_held (s.box c).head.kept q))
      (s.box c).records (span st.first st.last)
      (λ k. record {
        same = λ j f h u. let jl : j ≡ st.last = omega arith in
            rw jl (own.same (omega (arith, f, h)) k (omega (arith, u, under-is k)));
        old = λ f. omega (arith, own.old (omega arith) k, under-is k);
        limit = omega arith;
      })
      (λ k. record {
        same = λ j f. absurd (omega arith);
        old = λ f. omega arith;
        limit = omega arith;
      })

  found : i.agreed.by c ≡ true → st.last < length i.agreed.records
      → Found i.agreed (best_held (s.box c).head.kept (mine (s.box c)))
  unfolding best_held
  found m l = let v = own.vote m l in
      held_elim (λ (q : Option ℕ). Found i.agreed (best_held (s.box c).head.kept q))
      (s.box c).records (span st.first st.last)
      (λ e. record { number = omega (arith, v.0); pn = omega (arith, v.2, under-is e) })
      (λ e. absurd (omega (arith, v.1, e)))

  -- ---- the leader alone has answered

  abbrev asks : Letter
  asks = record {
    head = mail_of Kind.Collect (s.box c).head.kept.pn (s.box c).head.kept.last 0;
    records = [];
  }

  abbrev link' : Links
  link' = posted s.link c (Out.To (others (setting s c)) asks.head) (s.box c).records

  only-own : (b : ℕ) → has (bit c) b ≡ true → b ≡ c
  only-own b = bit_is c b five

  hearing : Hearing s.n s.present (upd s.box c x) i.agreed c x
  hearing = record {
    recovering = o.state;
    apart = upd-all (λ b t. In b s.n → (store t).stored_pn ≡ st.pn → ⊥) s.box c
        (asking.apart c) asking.apart;
    promise = λ b bn e. rw (only-own b e, eqb_same c) refl;
    lasts = λ b bn e. rw (only-own b e, eqb_same c) (omega arith);
    found = λ b bn e m l.
        let m' = subst (λ (j : ℕ). i.agreed.by j ≡ true) (only-own b e) m in
        let f = found m' l in
        (f.number, f.pn);
    same = best-ok.same;
    old = best-ok.old;
    limit = best-ok.limit;
  }

  inv-collected : After s i (changed s (upd s.box c x) link')
  unfolding others posted enclosed
  inv-collected = after (record {
    core = core-kept i.core c x c_in own (omega arith) (omega arith) refl;
    ranks = ranks-kept i.ranks c x c_in refl refl;
    live = λ e.
        lead-live c L x o.leads link' i.agreed
        (λ f. absurd (omega arith)) (λ f. absurd (omega arith)) (λ f. hearing)
        (λ f. absurd (f o.state))
        (all_post (PostLed c L x o.leads i.agreed) s.link
        (lead-mails c L x o.leads i.agreed (λ a b m. mail-collect a _ b _ m))
        (without s.present c) c _
        (λ b t ab. record {
          from = refl;
          to = (without_in s.present c b five t).0;
          rank = asking.rank;
          le = omega arith;
          fresh = λ f. absurd (omega arith);
        }));
  })

pub inv-collect : (s : Site) (i : Inv s) (c : ℕ) → After s i (step s (Call.Collect c)).next
unfolding step acted collect written
inv-collect s i c =
    by-acting (After s i) s c _ _ _ (after_same i)
    (λ f c_in go. inv-collected s i c c_in (can-collect (go-unless _ _ _ go).0))
