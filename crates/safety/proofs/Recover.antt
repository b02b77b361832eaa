-- Recover: the leader's new pn stands nowhere yet, and the links are empty.
use Prim.Native.Nat.{ℕ, ◌<◌}
use mathlib.Core.Path.{◌≡◌, refl, sym, subst}
use native.Mathlib.Omega.{arith}
use Rattle.rules.specs.NewPn.{new_pn}
use Rattle.rules.specs.Fields.{with_phase, with_kept, promised as promising}
use Rattle.rules.specs.Steps.{recover, acted}
use Rattle.rules.specs.Box.{Box, written}
use Rattle.rules.specs.Site.{Site, setting, posted, upd}
use Rattle.rules.specs.Step.{step}
use Rattle.laws.proofs.Types.{Call, Phase}
use Rattle.laws.proofs.Logic.{In, All, nil}
use Rattle.laws.proofs.NewPnLaws.{new_pn-above, new_pn-rank, new_pn-nowhere}
use Rattle.laws.proofs.Conditions.{Leading, Is, go-unless, can-recover}
use Rattle.laws.proofs.FrameLaws.{upd-all}
use Rattle.laws.proofs.View.{Store, store}
use Rattle.laws.proofs.StepLaws.{changed, by-acting}
use Rattle.safety.proofs.Inv.{Inv}
use Rattle.safety.proofs.After.{After, after, after_same}
use Rattle.safety.proofs.Stores.{box-promised}
use Rattle.safety.proofs.Base.{core-kept, ranks-put}
use Rattle.safety.proofs.Leader.{Led, led, lead-live}

module _ (s : Site) (i : Inv s) (c : ℕ) (c_in : In c s.n)
    (o : Leading (Is 0) (Is 0) (s.box c).head (setting s c)) where
  abbrev st : Store
  st = store (s.box c)

  abbrev P : ℕ
  P = new_pn (s.box c).head.kept.pn c

  abbrev x : Box
  x = record {
    head =
        with_kept (promising P (s.box c).head.kept)
        (with_phase Phase.SendCollect (s.box c).head);
    records = (s.box c).records;
  }

  L : Led s.n s.present s.box s.link i.agreed c (s.box c)
  L = led (i.live o.even) c c_in o.leads

  few : c < 100
  few = omega (arith, c_in.1, i.ranks.few)

  apart : (b : ℕ) → In b s.n → (store (s.box b)).stored_pn ≡ P → ⊥
  apart b h =
      new_pn-nowhere st.pn c (store (s.box b)).stored_pn few (i.ranks.stored_pns c b c_in h)

  new : (b : ℕ) → In b s.n → (store (s.box b)).pn ≡ P → ⊥
  new b h = new_pn-nowhere st.pn c (store (s.box b)).pn few (i.ranks.pns c b c_in h)

  inv-recovered : After s i (changed s (upd s.box c x) s.link)
  inv-recovered = after (record {
    core = core-kept i.core c x c_in
        (box-promised st (i.core.boxes c c_in) P (omega (arith, new_pn-above st.pn c)))
        (omega (arith, new_pn-above st.pn c)) (omega arith) refl;
    ranks = ranks-put i.ranks c x (omega (arith, new_pn-above st.pn c))
        (λ j jn jc e. absurd (jc (omega (arith, e, new_pn-rank st.pn c few))))
        (λ j jn. i.ranks.stored_pns j c jn c_in);
    live = λ e.
        lead-live c L x o.leads s.link i.agreed
        (λ f. absurd (omega arith))
        (λ f. record {
          recovering = o.state;
          rank = new_pn-rank st.pn c few;
          apart = upd-all (λ b t. In b s.n → (store t).stored_pn ≡ P → ⊥) s.box c
              (apart c) apart;
          new = upd-all (λ b t. In b s.n → (b ≡ c → ⊥) → (store t).pn ≡ P → ⊥) s.box c
              (λ h j. absurd (j refl)) (λ b h j. new b h);
        })
        (λ f. absurd (omega arith)) (λ f. absurd (f o.state))
        (λ a b. subst (All _) (sym (L.quiet o.phase a b)) nil);
  })

pub inv-recover : (s : Site) (i : Inv s) (c : ℕ) → After s i (step s (Call.Recover c)).next
unfolding step acted recover posted written
inv-recover s i c =
    by-acting (After s i) s c _ _ _ (after_same i)
    (λ f c_in go. inv-recovered s i c c_in (can-recover (go-unless _ _ _ go).0).0)
