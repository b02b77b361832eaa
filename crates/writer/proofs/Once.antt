-- Nothing else could satisfy what `write` and `image_length` say: one answer and one buffer. And
-- what it says of order: nothing is written where it refuses.
use mathlib.Core.Path.{◌≡◌, refl}
use Prim.Native.Nat.{ℕ}
use native.Mathlib.Omega.{arith}
use mathlib.Core.List.{List}
use Rattle.laws.proofs.Logic.{both-no}
use Rattle.rules.specs.declared.model.Refusal.{Refusal}
use Rattle.std.specs.Prelude.{Err}
use Rattle.writer.specs.Writer.{Written}
use Rattle.writer.specs.Writer.{WriteIs, not-by-form, too_short, written}
use Rattle.writer.specs.Writer.{LengthIs, no-image, has-length}

pub write_once : {xs ls o p q : List ℕ} {a b : Written} → WriteIs xs ls o a p
    → WriteIs xs ls o b q
    → (a ≡ b) × (p ≡ q)
write_once (not-by-form e) (not-by-form f) = (refl, refl)
write_once (not-by-form e) (too_short f h) = absurd (both-no f e)
write_once (not-by-form e) (written f h) = absurd (both-no f e)
write_once (too_short e g) (not-by-form f) = absurd (both-no e f)
write_once (too_short e g) (too_short f h) = (refl, refl)
write_once (too_short e g) (written f h) = absurd (omega arith)
write_once (written e g) (not-by-form f) = absurd (both-no e f)
write_once (written e g) (too_short f h) = absurd (omega arith)
write_once (written e g) (written f h) = (refl, refl)

pub length-once : {xs ls : List ℕ} {a b : Written} → LengthIs xs ls a → LengthIs xs ls b → a ≡ b
length-once (no-image e) (no-image f) = refl
length-once (no-image e) (has-length f) = absurd (both-no f e)
length-once (has-length e) (no-image f) = absurd (both-no e f)
length-once (has-length e) (has-length f) = refl

pub refused-stays : {xs ls o p : List ℕ} {why : Refusal} → WriteIs xs ls o (Err why) p
    → p ≡ o
refused-stays (not-by-form e) = refl
refused-stays (too_short e g) = refl
