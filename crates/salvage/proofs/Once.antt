-- Nothing else could satisfy what `salvage` says: one answer, and one later content of the buffer.
use mathlib.Core.Path.{◌≡◌, refl, sym, ◌∙◌}
use mathlib.Core.Bool.{false≢true}
use Prim.Native.Nat.{ℕ, ◌≤◌, ◌<◌}
use native.Mathlib.Omega.{arith}
use mathlib.Core.List.{List}
use lib.ListN.{length}
use Rattle.salvage.specs.declared.Told.{Told}
use Rattle.salvage.specs.Block.{most_text, Salvaged}
use Rattle.salvage.specs.Block.Salvaged.{short, block, refused}

no_room : (o : List ℕ) → length o < most_text → most_text ≤ length o → ⊥
no_room o h l = omega arith

pub salvage_once : (im o : List ℕ) {r s : Told} {a b : List ℕ} → Salvaged im o r a
    → Salvaged im o s b → (r ≡ s) × (a ≡ b)
salvage_once im o (short h) (short l) = (refl, refl)
salvage_once im o (short h) (block l t) = absurd (no_room o h l)
salvage_once im o (short h) (refused l t) = absurd (no_room o h l)
salvage_once im o (block h e) (short l) = absurd (no_room o l h)
salvage_once im o (block h e) (block l t) = (refl, refl)
salvage_once im o (block h e) (refused l t) = absurd (false≢true (sym t ∙ e))
salvage_once im o (refused h e) (short l) = absurd (no_room o l h)
salvage_once im o (refused h e) (block l t) = absurd (false≢true (sym e ∙ t))
salvage_once im o (refused h e) (refused l t) = (refl, refl)
