-- The leader's Ready, where no mail is under way: it starts the best record, or leases.
use Prim.Native.Nat.{ℕ, ◌+◌, ◌*◌, ◌≤◌, ◌<◌}
use mathlib.Core.Path.{◌≡◌, refl, sym, subst}
use mathlib.Core.Bool.{true, false}
use mathlib.Core.List.{List, [], ◌∷◌, ◌++◌}
use native.Mathlib.Omega.{arith}
use lib.ListN.{length, take, drop}
use Rattle.std.specs.Prelude.{Option, is_some}
use Rattle.rules.specs.Parts.{all_unknown, span}
use Rattle.rules.specs.Steps.{acted, started, has_previous}
use Rattle.rules.specs.Box.{Box, held_at, own, turn_of, written}
use Rattle.rules.specs.Site.{Site, setting}
use Rattle.laws.proofs.Types.{Act, Phase}
use Rattle.laws.proofs.Logic.{Or, left, right, decide}
use Rattle.laws.proofs.FormLaws.{FormedBox, FormedFirst, HeldCount}
use Rattle.laws.proofs.View.{held_elim, front-all}
use Rattle.wait.proofs.Stages.{Time, Between, Leading, Acts, cost}
use Rattle.wait.proofs.Stages.{ahead_of, pn, phase}
use Rattle.wait.proofs.Verdicts.{start-turn, lead-turn}
use Rattle.wait.proofs.Quiet.{Asked, Stand, has-self, few, all-present, to-others, sends}
use Rattle.wait.proofs.ActsRest.{leases}

held-made : (rs : List ℕ) (l : ℕ) → l < length rs → is_some (held_at rs l) ≡ true
held-made rs l h =
    held_elim (λ (h : Option ℕ). is_some h ≡ true) rs l (λ g. refl) (λ g. absurd (omega arith))

-- a record that is written at last+1 is held there
put-held : {J f l : ℕ} (rs : List ℕ) (r : ℕ) → FormedFirst f l → HeldCount J f l (length rs)
    → is_some (held_at (drop 0 (take (span f l) rs) ++ (r ∷ [])) (span f l)) ≡ true
put-held {J} {f} {l} rs r p h =
    held-made _ (span f l)
    (omega (arith, front-all f l 0 f rs (r ∷ []) (omega arith) (omega (arith, p.top)) h.all))

module _ (s : Site) (c : ℕ) (X : Box) (box : ℕ → Box) (time : Time s c)
    (leads : X.head.leads ≡ true) (top : pn X ≤ 999999900)
    (form : FormedBox s.n s.J c X) (p : phase X ≡ Phase.Collect) (led : Asked s c X)
    (stand : Stand s c X box Phase.Collect) where
  whole : X.head.answered ≡ s.present
  whole =
      all-present s c time X.head.answered form.answered led.self
      (λ b o. (stand b o).1) led.here

  starts : has_previous X.head ≡ true
      → Acts s c X box Act.Ready (turn_of (setting s c) X (own Act.Ready))
  unfolding acted started written ahead_of cost
  starts e =
      subst (Acts s c X box Act.Ready)
      (sym (start-turn X.head (setting s c) time.even leads p whole e (led.room e)))
      (record {
        done = refl;
        goes = record {
          leading = Leading.begins refl (right refl) (has-self c (few s c time time.box))
              (put-held X.records X.head.best.value form.first form.held);
          leads = refl;
          top = top;
          rises = omega arith;
          to-others = to-others s c time;
        };
        between = λ b o.
            sends s c time _ o
            (Between.begin _ refl refl refl (stand b o).2 refl (stand b o).0 (led.room e));
        pays = λ k r r' few same.
            subst (λ (p : Phase). ahead_of k r' Phase.Begin + k * 2 < ahead_of k r p) (sym p)
            (omega arith);
      })

  finds_none : has_previous X.head ≡ false
      → Acts s c X box Act.Ready (turn_of (setting s c) X (own Act.Ready))
  unfolding acted ahead_of
  finds_none e =
      subst (Acts s c X box Act.Ready)
      (sym (lead-turn X.head (setting s c) time.even leads p whole e))
      (leases s c X box time leads top Act.Ready all_unknown (λ b o. (stand b o).0)
      (λ k r. subst (λ (p : Phase). 1 + k * 2 < ahead_of k r p) (sym p) (omega arith)))

  pub readies : Acts s c X box Act.Ready (turn_of (setting s c) X (own Act.Ready))
  readies = go (decide (has_previous X.head))
    where
      go : Or (has_previous X.head ≡ true) (has_previous X.head ≡ false)
          → Acts s c X box Act.Ready (turn_of (setting s c) X (own Act.Ready))
      go (left e) = starts e
      go (right e) = finds_none e
