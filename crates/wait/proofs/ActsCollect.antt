-- The leader's Recover and Collect, where no mail is under way.
use Prim.Native.Nat.{ℕ, ◌+◌, ◌*◌, ◌≤◌, ◌<◌}
use mathlib.Core.Path.{◌≡◌, refl, sym, subst}
use mathlib.Core.Bool.{true}
use mathlib.Core.List.{[]}
use native.Mathlib.Omega.{arith}
use native.Mathlib.Nat.{mul-le-mul_right}
use Rattle.std.specs.Prelude.{Option, Some, None}
use Rattle.rules.specs.Sizes.{most_boxes}
use Rattle.rules.specs.Sets.{has}
use Rattle.rules.specs.Parts.{span, room_next}
use Rattle.rules.specs.NewPn.{new_pn}
use Rattle.rules.specs.Steps.{acted, best_held}
use Rattle.rules.specs.Box.{Box, own, mine, turn_of, written}
use Rattle.rules.specs.Site.{Site, setting}
use Rattle.laws.proofs.Types.{Act, Kept, Phase, State}
use Rattle.laws.proofs.Logic.{In, nil}
use Rattle.laws.proofs.Conditions.{has-previous}
use Rattle.laws.proofs.SetLaws.{bit_is}
use Rattle.laws.proofs.FormLaws.{FormedBox, FormedFirst, HeldCount}
use Rattle.laws.proofs.NewPnLaws.{new_pn-above, new_pn-near}
use Rattle.laws.proofs.View.{held_elim}
use Rattle.wait.proofs.Stages.{Time, Between, Leading, Acts, sent_to, cost}
use Rattle.wait.proofs.Stages.{round, ahead_of, pn, last, first, phase, state}
use Rattle.wait.proofs.Verdicts.{room-made, recover-turn, own-collect-turn}
use Rattle.wait.proofs.Quiet.{has-self, has-not, peer-unknown, few, to-others, sends}

-- the best that Collect begins with is of no number above last+1 ..
best-number : (k : Kept) (h : Option ℕ) → (best_held k h).number ≤ k.last + 1
unfolding best_held
best-number k (Some r) = omega arith
best-number k None = omega arith

-- .. and where last+1 is held there is room for it
held-room : {J f l n : ℕ} → FormedFirst f l → HeldCount J f l n → span f l < n
    → room_next J f l ≡ true
held-room {J} {f} {l} p h e =
    room-made J f l
    (omega (arith, p.top, h.next, h.room, e))
    (omega (arith, p.top, h.most, e))

module _ (s : Site) (c : ℕ) (X : Box) (box : ℕ → Box) (time : Time s c)
    (leads : X.head.leads ≡ true) (top : pn X ≤ 999999900)
    (form : FormedBox s.n s.J c X) where
  -- ---- Recover

  fewer : (k r : ℕ) → r ≤ k → (r + 1) * round k ≤ (k + 1) * round k
  fewer k r h = mul-le-mul_right (round k) (omega arith)

  pub recovers : phase X ≡ Phase.Election → state X ≡ State.Recovering → pn X ≤ 999999800
      → Acts s c X box Act.Recover (turn_of (setting s c) X (own Act.Recover))
  unfolding acted sent_to written ahead_of cost
  recovers p q h =
      subst (Acts s c X box Act.Recover)
      (sym (recover-turn X.head (setting s c) time.even leads p q time.several
      (omega (arith, near, h))))
      (record {
        done = refl;
        goes = record {
          leading = Leading.recovers refl q;
          leads = refl;
          top = omega (arith, near, h);
          rises = omega (arith, new_pn-above (pn X) c);
          to-others = tt;
        };
        between = λ b o. Between.old-commits [] refl nil;
        pays = λ k r r' few same.
            subst (λ (p : Phase). ahead_of k r' Phase.SendCollect + 0 < ahead_of k r p) (sym p)
            (omega (arith, fewer k r' few));
      })
    where
      near : new_pn (pn X) c ≤ pn X + 100
      near = new_pn-near (pn X) c (omega (arith, time.box.1, time.sizes.few-boxes))

  -- ---- Collect

  best-room : (best_held X.head.kept (mine X)).number ≡ last X + 1
      → room_next s.J (first X) (last X) ≡ true
  unfolding best_held
  best-room =
      held_elim (λ (h : Option ℕ). (best_held X.head.kept h).number ≡ last X + 1
      → room_next s.J (first X) (last X) ≡ true)
      X.records (span (first X) (last X))
      (λ h e. held-room form.first form.held h)
      (λ h e. absurd (omega (arith, e)))

  pub collects : phase X ≡ Phase.SendCollect → state X ≡ State.Recovering
      → Acts s c X box Act.Collect (turn_of (setting s c) X (own Act.Collect))
  unfolding acted written ahead_of cost
  collects p q =
      subst (Acts s c X box Act.Collect)
      (sym (own-collect-turn X.head (setting s c) time.even leads (mine X) p q))
      (record {
        done = refl;
        goes = record {
          leading = Leading.collects refl q (has-self c me)
              (λ b h e. subst (λ (k : ℕ). has s.present k ≡ true) (sym (bit_is c b me e))
              time.here)
              (best-number X.head.kept (mine X))
              (λ e. best-room (has-previous _ e).0);
          leads = refl;
          top = top;
          rises = omega arith;
          to-others = to-others s c time;
        };
        between = λ b o.
            sends s c time _ o
            (Between.collect _ refl refl refl (has-not c b me o.apart)
            (peer-unknown b (few s c time o.box)));
        pays = λ k r r' few same.
            subst (λ (p : Phase). ahead_of k r' Phase.Collect + k * (2 + k) < ahead_of k r p)
            (sym p)
            (subst (λ (i : ℕ). ahead_of k i Phase.Collect + k * (2 + k)
            < ahead_of k r Phase.SendCollect) (sym (same refl)) (omega arith));
      })
    where
      me : In c most_boxes
      me = few s c time time.box
