-- If t then a else b. It does not unfold by itself: a proof takes a case by `pick_true` or
-- `pick-false`.
use Rattle.std.specs.Prelude.{Bool, true, false, ◌≡◌}

unfoldable pub pick {ℓ} : {A : Type ℓ} → Bool → A → A → A
pick true a b = a
pick false a b = b

pub pick_true {ℓ} : {A : Type ℓ} (t : Bool) (a b : A) → t ≡ true → pick t a b ≡ a
unfolding pick
pick_true t a b e = rw e

pub pick-false {ℓ} : {A : Type ℓ} (t : Bool) (a b : A) → t ≡ false → pick t a b ≡ b
unfolding pick
pick-false t a b e = rw e
