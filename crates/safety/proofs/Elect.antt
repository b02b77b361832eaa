-- Elect: links are emptied and stores stay. One box alone (n = 1) has recovered at once.
use Prim.Native.Nat.{ℕ, ◌≤◌}
use mathlib.Core.Path.{◌≡◌, refl, sym, ap, ◌∙◌, subst}
use mathlib.Core.Bool.{true, false}
use native.Mathlib.Omega.{arith}
use lib.Count.{ones}
use lib.Dec.{eqb}
use lib.ListN.{length}
use Rattle.rules.specs.Pick.{pick-false}
use Rattle.rules.specs.Sets.{has}
use Rattle.rules.specs.Numbers.{state_number}
use Rattle.rules.specs.Steps.{elected}
use Rattle.rules.specs.Box.{Box}
use Rattle.rules.specs.Site.{Site, setting, is_box}
use Rattle.rules.specs.Step.{elect}
use Rattle.laws.proofs.Types.{BoxState, State}
use Rattle.laws.proofs.Logic.{Or, left, right, In, decide, eqb_same, eqb_yes, cond_elim, nil}
use Rattle.laws.proofs.Counts.{Major, common}
use Rattle.laws.proofs.SetLaws.{ones-tally, major-present}
use Rattle.laws.proofs.FormLaws.{Formed, box-is}
use Rattle.laws.proofs.StepLaws.{Elects}
use Rattle.laws.proofs.View.{store, state_of}
use Rattle.safety.proofs.Inv.{Core, Ripe, Settled, Inv}
use Rattle.safety.proofs.After.{After, after}
use Rattle.safety.proofs.Base.{core-same, ripe-same, ranks-same}

module _ (s : Site) (c : ℕ) (i : Inv s) (f : Formed s) (e : Elects s c) where
  major : Major s.n (has s.present)
  major = major-present s.n s.present f.present e.majority

  same_store : (b : ℕ) → store ((elect s c).box b) ≡ store (s.box b)
  unfolding elect elected
  same_store b = cond_elim Same (is_box s.n b) (λ e. refl) (λ e. refl)
    where
      Same : BoxState → Type 0
      Same h = store (record { head = h; records = (s.box b).records }) ≡ store (s.box b)

  abbrev elects : ℕ → Box
  elects b = record { head = elected (s.box b).head (setting s b) c; records = (s.box b).records }

  is-after : (b : ℕ) → In b s.n → (elect s c).box b ≡ elects b
  unfolding elect
  is-after b h = rw (box-is h) refl

  k : Core s.n s.box i.agreed
  k = i.core

  -- who is Active at once is alone
  single : (state_of (elects c) ≡ 0 → ⊥)
      → Or (eqb (ones s.present) 1 ≡ true) (eqb (ones s.present) 1 ≡ false) → s.n ≤ 1
  unfolding elected
  single y (left h) = let m = ones-tally s.n s.present f.present in
      omega (arith, eqb_yes (ones s.present) 1 h, major, m)
  single y (right h) =
      absurd (y (ap state_number (pick-false _ State.Active State.Recovering h)))

  module _ (small : s.n ≤ 1) where
    is_c : (b : ℕ) → In b s.n → b ≡ c
    is_c b h = omega (arith, h, e.box, small)

    topped : length i.agreed.records ≤ (store (s.box c)).last
    topped =
        subst (λ (j : ℕ). length i.agreed.records ≤ (store (s.box j)).last)
        (is_c k.top k.top_in) k.topped

    -- each of the two majorities is c
    promised : i.agreed.pn ≤ (store (s.box c)).pn
    promised = let j = common s.n i.agreed.by i.agreed.by k.major k.major in
        subst (λ (j : ℕ). i.agreed.pn ≤ (store (s.box j)).pn) (is_c j.0 j.1)
        ((k.boxes j.0 j.1).promise j.2)

    stored : (b : ℕ) → In b s.n → (store (s.box b)).stored_pn ≤ (store (s.box c)).pn
    stored b h = let j = common s.n (k.N b) (k.N b) (k.N-major b h) (k.N-major b h) in
        subst (λ (j : ℕ). (store (s.box b)).stored_pn ≤ (store (s.box j)).pn) (is_c j.0 j.1)
        (k.N-pn b j.0 h j.1 j.2)

    ripe :
        Ripe s.n s.present s.box i.agreed
        (store (s.box c)).pn (store (s.box c)).last
    ripe = record {
      pns = λ b h t. ap (λ (j : ℕ). (store (s.box j)).pn) (is_c b h);
      stored_pns = stored;
      mine = λ b h t. subst (λ (j : ℕ). has s.present j ≡ true) (sym (is_c b h)) e.here;
      top = omega (arith, topped);
      under = promised;
      lasts = λ b h t. omega (arith, ap (λ (j : ℕ). (store (s.box j)).last) (is_c b h));
    }

    alone : Settled s.n s.present (elect s c).box i.agreed c (elects c)
    unfolding elected
    alone = record {
      ripe = ripe-same s.box (elect s c).box same_store ripe;
      done = λ y. topped;
      own = λ y. absurd (omega arith);
      accepted = λ y. absurd (omega arith);
    }

  pub inv-elect : After s i (elect s c)
  unfolding elect elected
  inv-elect = after (record {
    core = core-same s.box (elect s c).box same_store k;
    ranks = ranks-same s.box (elect s c).box same_store i.ranks;
    live = λ z. record {
      c = c;
      c_in = e.box;
      lead = ap (λ (y : Box). y.head.leads) (is-after c e.box) ∙ eqb_same c;
      only = λ b h t. eqb_yes b c (sym (ap (λ (y : Box). y.head.leads) (is-after b h)) ∙ t);
      here = e.here;
      major = major;
      x = elects c;
      at = is-after c e.box;
      quiet = λ y a b. refl;
      asking = λ y. absurd (omega arith);
      hearing = λ y. absurd (omega arith);
      settled = λ y. alone (single y (decide (eqb (ones s.present) 1)));
      mails = λ a b. nil;
    };
  })
