-- When a buffer is long enough: a write of words by form is then never refused.
use mathlib.Core.Path.{◌≡◌, sym, ap}
use mathlib.Core.Bool.{true}
use Prim.Native.Nat.{ℕ, ◌≤◌}
use native.Mathlib.Omega.{arith}
use mathlib.Core.List.{List, ◌++◌}
use lib.ListN.{length, drop, get_or}
use Rattle.rules.specs.declared.model.Refusal.{Refusal}
use Rattle.laws.proofs.Logic.{both-no}
use Rattle.memory.specs.Memory.{memory_form}
use Rattle.image.specs.Longest.{longest}
use Rattle.image.proofs.MemoryImage.{memory_most}
use Rattle.std.specs.Prelude.{Err}
use Rattle.writer.specs.Writer.{Written}
use Rattle.writer.specs.Writer.{image, WriteIs, not-by-form, too_short, written}
use Rattle.writer.specs.Writer.{written_bytes, WholeImage}

-- Where the image of words by form fits, it is written ..
pub fits-written : {xs ls o o' : List ℕ} {w : Written} {r : ℕ} → WriteIs xs ls o w o'
    → memory_form xs ls ≡ true → length (image xs ls) ≤ length o → r ≡ written_bytes w
    → WholeImage xs ls o o' r
fits-written (not-by-form e) f h n = absurd (both-no f e)
fits-written (too_short e g) f h n = absurd (omega arith)
fits-written {xs} {ls} {o} (written e g) f h n = record {
  count = n;
  bytes = ap (λ (k : ℕ). image xs ls ++ drop k o) (sym n);
}

-- .. and never refused.
pub fits-not-refused : {xs ls o o' : List ℕ} {why : Refusal}
    → WriteIs xs ls o (Err why) o' → memory_form xs ls ≡ true
    → length (image xs ls) ≤ length o → ⊥
fits-not-refused (not-by-form e) f h = both-no f e
fits-not-refused (too_short e g) f h = omega arith

-- The answer is never 12 where the buffer has room for the longest image of the words' sizes.
pub never-short : {xs ls o o' : List ℕ}
    → WriteIs xs ls o (Err Refusal.Buffer) o'
    → longest (get_or xs 0 0) (get_or xs 1 0) (get_or xs 2 0) ≤ length o → ⊥
never-short {xs} {ls} (too_short e g) h = omega (arith, memory_most xs ls e)
