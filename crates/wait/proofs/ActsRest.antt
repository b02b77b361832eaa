-- The leader's Agree, Finish and Heard, where no mail is under way.
use Prim.Native.Nat.{ℕ, ◌+◌, ◌*◌, ◌≤◌, ◌<◌}
use mathlib.Core.Path.{◌≡◌, refl, sym, subst}
use mathlib.Core.Bool.{true}
use mathlib.Core.List.{List}
use native.Mathlib.Omega.{arith}
use Rattle.rules.specs.Sets.{has}
use Rattle.rules.specs.Fields.{with_peers}
use Rattle.rules.specs.Steps.{acted, leased}
use Rattle.rules.specs.Box.{Box, own, mine, turn_of, written}
use Rattle.rules.specs.Site.{Site, setting}
use Rattle.laws.proofs.Types.{Act, Phase, State}
use Rattle.wait.proofs.Stages.{Time, Other, Between, Leading, Acts, sent_to, cost}
use Rattle.wait.proofs.Stages.{ahead_of, pn, last, phase, state}
use Rattle.wait.proofs.Verdicts.{agree-turn, finish-turn, heard-turn}
use Rattle.wait.proofs.Quiet.{Begun, Stand, has-self, few, all_included, to-others, sends}

module _ (s : Site) (c : ℕ) (X : Box) (box : ℕ → Box) (time : Time s c)
    (leads : X.head.leads ≡ true) (top : pn X ≤ 999999900) where
  pub agrees : phase X ≡ Phase.Begin → Begun c X → Stand s c X box Phase.Begin
      → Acts s c X box Act.Agree (turn_of (setting s c) X (own Act.Agree))
  unfolding acted written ahead_of cost
  agrees p led stand =
      subst (Acts s c X box Act.Agree)
      (sym (agree-turn X.head (setting s c) time.even leads (mine X) p led.state
      (all_included s c time X.head.accepts led.self (λ b o. (stand b o).1)) led.held))
      (record {
        done = refl;
        goes = record {
          leading = Leading.commits refl refl;
          leads = refl;
          top = top;
          rises = omega arith;
          to-others = to-others s c time;
        };
        between = λ b o.
            sends s c time _ o
            (Between.commit _ refl refl refl (omega (arith, (stand b o).0)));
        pays = λ k r r' few same.
            subst (λ (p : Phase). ahead_of k r' Phase.Commit + k * 1 < ahead_of k r p) (sym p)
            (omega arith);
      })

  -- what Ready and Finish do where nothing is left to agree: ps are the peers
  pub leases : (a : Act) (ps : List ℕ)
      → ((b : ℕ) → Other s c b → last (box b) ≡ last X)
      → ((k r : ℕ) → 1 + k * 2 < ahead_of k r (phase X))
      → Acts s c X box a (leased (with_peers ps X.head) (setting s c))
  unfolding leased written ahead_of cost
  leases a ps same less = record {
    done = refl;
    goes = record {
      leading = Leading.leases refl refl (has-self c (few s c time time.box));
      leads = refl;
      top = top;
      rises = omega arith;
      to-others = to-others s c time;
    };
    between = λ b o. sends s c time _ o (Between.lease _ refl refl refl (same b o));
    pays = λ k r r' few same. less k r;
  }

  pub finishes : phase X ≡ Phase.Commit → state X ≡ State.Refresh → Stand s c X box Phase.Commit
      → Acts s c X box Act.Finish (turn_of (setting s c) X (own Act.Finish))
  unfolding acted ahead_of
  finishes p q stand =
      subst (Acts s c X box Act.Finish)
      (sym (finish-turn X.head (setting s c) time.even leads p q))
      (leases Act.Finish X.head.peers stand
      (λ k r. subst (λ (p : Phase). 1 + k * 2 < ahead_of k r p) (sym p) (omega arith)))

  pub hears : phase X ≡ Phase.Lease → state X ≡ State.Active → has X.head.heard c ≡ true
      → Stand s c X box Phase.Lease
      → Acts s c X box Act.Heard (turn_of (setting s c) X (own Act.Heard))
  unfolding acted sent_to written ahead_of cost
  hears p q self stand =
      subst (Acts s c X box Act.Heard)
      (sym (heard-turn X.head (setting s c) time.even leads p
      (all_included s c time X.head.heard self (λ b o. (stand b o).1))))
      (record {
        done = refl;
        goes = record {
          leading = Leading.leads refl q;
          leads = refl;
          top = top;
          rises = omega arith;
          to-others = tt;
        };
        between = λ b o. Between.usable refl (stand b o).2 (stand b o).0;
        pays = λ k r r' few same.
            subst (λ (p : Phase). ahead_of k r' Phase.LeaseDone + 0 < ahead_of k r p) (sym p)
            (omega arith);
      })
