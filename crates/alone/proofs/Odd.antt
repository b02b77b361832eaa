-- In an odd epoch a box does nothing: the site is left.
use Prim.Native.Nat.{ℕ}
use mathlib.Core.Path.{◌≡◌, refl}
use mathlib.Core.Bool.{true, false}
use mathlib.Core.List.{List, ◌∷◌}
use Rattle.rules.specs.Pick.{pick}
use Rattle.rules.specs.Sizes.{even}
use Rattle.rules.specs.Turns.{unless, settled}
use Rattle.rules.specs.Mails.{on_mail}
use Rattle.rules.specs.Steps.{recover, collect, ready, offer, propose, agree, finish, lease_heard}
use Rattle.rules.specs.Steps.{trim, acted}
use Rattle.rules.specs.Box.{Letter}
use Rattle.rules.specs.Site.{Site}
use Rattle.rules.specs.Step.{by_answer, acting, delivered}
use Rattle.laws.proofs.Types.{Act}
use Rattle.laws.proofs.Logic.{both-no}
use Rattle.laws.proofs.Conditions.{go-unless, can-recover, can-collect, can-ready, can-offer}
use Rattle.laws.proofs.Conditions.{can-propose, can-agree, can-finish, can-heard, can-trim}
use Rattle.laws.proofs.StepLaws.{by-acting}

module _ (s : Site) (odd : even s.epoch ≡ false) where
  abbrev Left : Site → Type 0
  Left t = t ≡ s

  never : even s.epoch ≡ true → ⊥
  never e = both-no e odd

  pub no-act : (c : ℕ) (a : Act) → (acting s c a).next ≡ s
  unfolding acted recover collect ready offer propose agree finish lease_heard trim
  no-act c Act.Recover =
      by-acting Left s c _ _ _ refl
      (λ f h go. absurd (never (can-recover (go-unless _ _ _ go).0).0.even))
  no-act c Act.Collect =
      by-acting Left s c _ _ _ refl
      (λ f h go. absurd (never (can-collect (go-unless _ _ _ go).0).even))
  no-act c Act.Ready =
      by-acting Left s c _ _ _ refl
      (λ f h go. absurd (never (can-ready (go-unless _ _ _ go).0).0.even))
  no-act c (Act.Offer l r) =
      by-acting Left s c _ _ _ refl
      (λ f h go.
      absurd (never (can-offer (go-unless _ _ _ (go-unless _ _ _ go).1).0).0.even))
  no-act c Act.Propose =
      by-acting Left s c _ _ _ refl
      (λ f h go. absurd (never (can-propose (go-unless _ _ _ go).0).0.even))
  no-act c Act.Agree =
      by-acting Left s c _ _ _ refl
      (λ f h go. absurd (never (can-agree (go-unless _ _ _ go).0).leading.even))
  no-act c Act.Finish =
      by-acting Left s c _ _ _ refl
      (λ f h go. absurd (never (can-finish (go-unless _ _ _ go).0).even))
  no-act c Act.Heard =
      by-acting Left s c _ _ _ refl
      (λ f h go. absurd (never (can-heard (go-unless _ _ _ go).0).0.even))
  no-act c (Act.Trim k) =
      by-acting Left s c _ _ _ refl
      (λ f h go. absurd (never (can-trim (go-unless _ _ _ go).0).even))

  pub no-letter : (a b : ℕ) (m : Letter) (behind : List Letter)
      → (delivered s a b (m ∷ behind)).next ≡ s
  unfolding delivered by_answer on_mail unless pick settled
  no-letter a b m behind = rw odd refl
