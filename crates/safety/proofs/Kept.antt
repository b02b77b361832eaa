-- The leader keeps its store, its state and its accept set: an offer waits, a LeaseAck is noted,
-- the lease is heard.
use Prim.Native.Nat.{ℕ}
use mathlib.Core.Path.{◌≡◌, refl, sym, ◌∙◌}
use mathlib.Core.Bool.{true}
use mathlib.Core.List.{[]}
use native.Mathlib.Omega.{arith}
use Rattle.rules.specs.Sizes.{even}
use Rattle.rules.specs.Box.{Box, Letter}
use Rattle.rules.specs.Site.{Site, upd}
use Rattle.laws.proofs.Logic.{In, All}
use Rattle.laws.proofs.View.{Links, store, keeping, phase_of, state_of}
use Rattle.laws.proofs.StepLaws.{changed}
use Rattle.safety.proofs.Inv.{Inv}
use Rattle.safety.proofs.After.{After, after}
use Rattle.safety.proofs.Base.{core-kept, ranks-kept}
use Rattle.safety.proofs.Leader.{Led, led, lead-mails, lead-live, Onward, mail-kept}
use Rattle.safety.proofs.Leader.{same_next, settled-kept}

-- y is its box as the rule hands it on; it does not recover, and it neither enters Begin nor leaves
-- it
module _ (s : Site) (i : Inv s) (c : ℕ) (c_in : In c s.n) (z : even s.epoch ≡ true)
    (h : (s.box c).head.leads ≡ true) (y : Box) (y-leads : y.head.leads ≡ true)
    (accepts : y.head.accepts ≡ (s.box c).head.accepts)
    (state : state_of y ≡ state_of (s.box c))
    (asks : phase_of y ≡ 1 → ⊥) (collects : phase_of y ≡ 2 → ⊥)
    (enters : phase_of y ≡ 4 → phase_of (s.box c) ≡ 4)
    (leaves : phase_of (s.box c) ≡ 4 → phase_of y ≡ 4) where
  abbrev x : Box
  x = keeping (store (s.box c)) y

  L : Led s.n s.present s.box s.link i.agreed c (s.box c)
  L = led (i.live z) c c_in h

  onward : Onward (s.box c) y
  onward = record {
    asking = λ e. absurd (asks e);
    hearing = λ e. absurd (collects e);
    beginning = leaves;
    recovering = λ e. sym state ∙ e;
  }

  -- no mail is new on the links
  pub inv-kept : (link : Links) → (phase_of y ≡ 0 → (a b : ℕ) → link a b ≡ [])
      → ((P : ℕ → ℕ → Letter → Type 0) → ((a b : ℕ) → All (P a b) (s.link a b))
      → (a b : ℕ) → All (P a b) (link a b))
      → After s i (changed s (upd s.box c x) link)
  inv-kept link quiet mails = after (record {
    core = core-kept i.core c x c_in (i.core.boxes c c_in) (omega arith) (omega arith) refl;
    ranks = ranks-kept i.ranks c x c_in refl refl;
    live = λ e.
        lead-live c L x y-leads link i.agreed quiet
        (λ f. absurd (asks f)) (λ f. absurd (collects f))
        (λ f. let k = L.settled (λ g. f (state ∙ g)) in
        settled-kept c y k (λ g. k.done (λ p. g (leaves p))) (λ g. k.own (enters g))
        (λ g. rw accepts (k.accepted (enters g))))
        (mails _
        (lead-mails c L x y-leads i.agreed
        (λ a b m.
        mail-kept s.present i.agreed c (s.box c) y onward _ _
        (same_next (store (s.box c))) a _ b _ m)));
  })
