-- The leader's step: the one of its phase, where its turn is not refused 3.
use Prim.Native.Nat.{ℕ}
use mathlib.Core.Path.{◌≡◌, sym, ap, ◌∙◌}
use mathlib.Core.Bool.{Bool, true, false}
use mathlib.Core.List.{List}
use lib.ListN.{get_or}
use borrow.Author.Tests.{eq-eqb}
use Rattle.rules.specs.Pick.{pick, pick_true, pick-false}
use Rattle.rules.specs.Box.{own, turn_of}
use Rattle.rules.specs.Site.{Site, setting}
use Rattle.laws.proofs.Types.{Act, Call, Phase, Setting, Turn}
use Rattle.laws.proofs.Logic.{left, right, In}
use Rattle.laws.proofs.FormLaws.{Formed, form-says, box-is}
use Rattle.wait.specs.Run.{leader_of, is_possible, leader_turn}
use Rattle.std.specs.Prelude.{Some, None}
use Rattle.wait.proofs.Stages.{StepOf}
use Rattle.wait.proofs.OneStep.{leader-tries}
use Rattle.memory.specs.Memory.{site_of, memory_form}
use Rattle.memory.specs.After.{setting_at, boxes_of}
use Rattle.memory.proofs.LentLaws.{form-site}
use Rattle.site.proofs.KnownLaws.{AtBox}
use Rattle.until.specs.Turns.{leader_in, act_in, call_in}
use Rattle.until.proofs.FirstLaws.{first-in}

-- in each phase its step, and in LeaseDone heard, which is refused there
module _ (s : Site) (c : ℕ) (f : Formed s) (h : In c s.n)
    (leads : (s.box c).head.leads ≡ true) where
  tries : (p : Phase) → (s.box c).head.phase ≡ p
      → leader_turn s
      ≡ pick (is_possible (turn_of (setting s c) (s.box c) (own (act_in p))).answer)
      (Some (call_in p c)) None
  tries Phase.Election e = leader-tries s c f h leads StepOf.recover (left e)
  tries Phase.SendCollect e = leader-tries s c f h leads StepOf.collect (left e)
  tries Phase.Collect e = leader-tries s c f h leads StepOf.ready (left e)
  tries Phase.Lease e = leader-tries s c f h leads StepOf.hear (left e)
  tries Phase.Begin e = leader-tries s c f h leads StepOf.agree (left e)
  tries Phase.Commit e = leader-tries s c f h leads StepOf.finish (left e)
  tries Phase.LeaseDone e = leader-tries s c f h leads StepOf.hear (right e)

-- ---- what the code has found in words by form

module _ (xs ls : List ℕ) (f : memory_form xs ls ≡ true) {g : Setting} (all : g ≡ setting_at xs 0)
    {c : ℕ} (found : c ≡ leader_in g xs) where
  pub leader-is : c ≡ leader_of (site_of xs ls)
  unfolding leader_of site_of
  leader-is = found ∙ ap (λ (t : Setting). leader_in t xs) all

  pub no-leader : c ≡ 0 → None ≡ leader_turn (site_of xs ls)
  unfolding leader_turn
  no-leader z = sym (pick_true _ _ _ (eq-eqb _ _ (sym leader-is ∙ z)))

  module _ (some : c ≡ 0 → ⊥) where
    leader-in : In c (site_of xs ls).n × (((site_of xs ls).box c).head.leads ≡ true)
    unfolding leader_of
    leader-in = rw leader-is (first-in (site_of xs ls).n _ (λ z. some (leader-is ∙ z)))

    pub at-leader : {s : Setting} → s ≡ setting_at xs c → AtBox xs ls c s
    unfolding site_of
    at-leader e = record {
      form = f;
      setting = e;
      box = box-is {n = get_or xs 0 0} {c = c} leader-in.0;
    }

    module _ {s : Setting} (e : s ≡ setting_at xs c) {p : Phase}
        (q : p ≡ (boxes_of s xs s.me).head.phase) {a : Act} (own-step : a ≡ act_in p) {t : Turn}
        (turned : t ≡ turn_of s (boxes_of s xs s.me) (own a)) {r : Bool}
        (asked : r ≡ is_possible t.answer) where
      phase-is : ((site_of xs ls).box c).head.phase ≡ p
      unfolding site_of
      phase-is =
          sym (q ∙ ap (λ (k : Setting). (boxes_of k xs k.me).head.phase) e)

      possible-is :
          is_possible
          (turn_of (setting (site_of xs ls) c) ((site_of xs ls).box c) (own (act_in p))).answer
          ≡ r
      unfolding site_of
      possible-is =
          sym (asked ∙ ap (λ (u : Turn). is_possible u.answer) turned
          ∙ (λ i. is_possible (turn_of (e i) (boxes_of (e i) xs (e i).me) (own (own-step i))
          ).answer))

      step_is : leader_turn (site_of xs ls) ≡ pick r (Some (call_in p c)) None
      step_is =
          tries (site_of xs ls) c (form-says (form-site xs ls f)) leader-in.0 leader-in.1 p
          phase-is
          ∙ ap (λ (t : Bool). pick t (Some (call_in p c)) None) possible-is

      pub leader-step : {d : Call} → d ≡ call_in p c → r ≡ true
          → Some d ≡ leader_turn (site_of xs ls)
      leader-step o y = ap Some o ∙ sym (step_is ∙ pick_true _ _ _ y)

      pub leader-none : r ≡ false → None ≡ leader_turn (site_of xs ls)
      leader-none n = sym (step_is ∙ pick-false _ _ _ n)
