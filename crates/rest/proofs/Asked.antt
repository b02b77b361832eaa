-- Two sites with the same sizes, epoch and present set, whose boxes keep the same: a holds line is
-- answered alike, and so is who has not answered a lease.
use Rattle.std.specs.Prelude.{Result, Err}
use Prim.Native.Nat.{ℕ}
use mathlib.Core.Path.{◌≡◌, refl, sym, ap, ◌∙◌}
use mathlib.Core.Bool.{Bool, true, false, ◌&&◌}
use mathlib.Core.List.{List, [], ◌∷◌}
use Rattle.rules.specs.Pick.{pick, pick-false}
use Rattle.rules.specs.Sizes.{even}
use Rattle.rules.specs.Box.{Box}
use Rattle.rules.specs.Site.{Site, setting, is_box}
use Rattle.rules.specs.Form.{form}
use Rattle.rules.specs.Needs.{Need, need, ruled}
use Rattle.rules.specs.Step.{agreed_as, holds}
use Rattle.rules.specs.Unheard.{lease_is_out, unheard_by, unheard}
use Rattle.laws.proofs.Types.{Answer, BoxState, Refusal, Setting}
use Rattle.laws.proofs.Logic.{Or, left, right, decide, In, and_yes}
use Rattle.laws.proofs.FormLaws.{is-box}
use Rattle.laws.proofs.StepLaws.{changed}
use Rattle.laws.proofs.View.{Links}
use Rattle.rest.proofs.Aside.{Aside, aside_of, aside, leasing, Unread}
use Rattle.rest.proofs.Going.{met}

-- the needs behind one that is met
ruled-more {ℓ} : {A : Type ℓ} (f : Refusal → A) (why : Refusal) (t : Bool) (ks ls : List Need)
    (a b : A) → (t ≡ true → ruled f ks a ≡ ruled f ls b)
    → ruled f (need why t ∷ ks) a ≡ ruled f (need why t ∷ ls) b
unfolding ruled
ruled-more f why true ks ls a b more = more refl
ruled-more f why false ks ls a b more = refl

module _ (x : Site) (box : ℕ → Box) (link : Links) (fx : form x ≡ true)
    (fy : form (changed x box link) ≡ true) where
  agreed-two : (c k l r : ℕ) → (x.box c).head.kept ≡ (box c).head.kept
      → (x.box c).records ≡ (box c).records
      → agreed_as (x.box c) k l r ≡ agreed_as (box c) k l r
  unfolding agreed_as
  agreed-two c k l r e f = rw (e, f) refl

  pub holds-two : ((b : ℕ) → In b x.n → (x.box b).head.kept ≡ (box b).head.kept)
      → ((b : ℕ) → In b x.n → (x.box b).records ≡ (box b).records)
      → (c k l r : ℕ)
      → holds x c k l r ≡ holds (changed x box link) c k l r
  unfolding holds
  holds-two kept records c k l r =
      met Answer.Refused Refusal.Form (form x) _ _ fx
      ∙ ruled-more Answer.Refused Refusal.Box (is_box x.n c) _ _ _ _
      (λ e. ap (λ (t : Bool). ruled Answer.Refused (need Refusal.Untrue t ∷ []) Answer.Done)
      (agreed-two c k l r (kept c (is-box e)) (records c (is-box e))))
      ∙ sym (met Answer.Refused Refusal.Form (form (changed x box link)) _ _ fy)

  pub unheard-two :
      ((b : ℕ) → In b x.n
      → unheard_by (x.box b).head (setting x b) ≡ unheard_by (box b).head (setting x b))
      → (c : ℕ) → unheard x c ≡ unheard (changed x box link) c
  unfolding unheard
  unheard-two by c =
      met Err Refusal.Form (form x) _ _ fx
      ∙ ruled-more Err Refusal.Box (is_box x.n c) [] [] _ _
      (λ e. none (by c (is-box e)))
      ∙ sym (met Err Refusal.Form (form (changed x box link)) _ _ fy)
    where
      none : {a b : Result ℕ Refusal} → a ≡ b → ruled Err [] a ≡ ruled Err [] b
      none e = ap (ruled Err []) e

-- no lease is out in an odd epoch
pub odd-unheard : (b d : BoxState) (s : Setting) → even s.epoch ≡ false
    → unheard_by b s ≡ unheard_by d s
unfolding unheard_by lease_is_out pick
odd-unheard b d s e = rw e refl

-- the set is read while a lease is out
out-phase : (b : BoxState) (s : Setting) → lease_is_out b s ≡ true → leasing b.phase ≡ true
unfolding lease_is_out
out-phase b s e =
    let p = and_yes (even s.epoch && b.leads) (leasing b.phase) e in p.1

out : (b : BoxState) (o : Aside) (s : Setting) → b.heard ≡ o.heard
    → unheard_by b s ≡ unheard_by (aside b o) s
unfolding unheard_by lease_is_out
out b o s e = rw e refl

off : (b : BoxState) (s : Setting) → lease_is_out b s ≡ false
    → unheard_by b s ≡ Err Refusal.Condition
unfolding unheard_by
off b s e = pick-false _ _ _ e

same_out : (b : BoxState) (o : Aside) (s : Setting) → lease_is_out b s ≡ lease_is_out (aside b o) s
unfolding lease_is_out
same_out b o s = refl

pub aside-unheard : (b : BoxState) (o : Aside) (s : Setting) → Unread b.phase (aside_of b) o
    → unheard_by b s ≡ unheard_by (aside b o) s
aside-unheard b o s u = go (decide (lease_is_out b s))
  where
    go : Or (lease_is_out b s ≡ true) (lease_is_out b s ≡ false)
        → unheard_by b s ≡ unheard_by (aside b o) s
    go (left e) = out b o s (u.heard (out-phase b s e))
    go (right e) = off b s e ∙ sym (off (aside b o) s (sym (same_out b o s) ∙ e))
