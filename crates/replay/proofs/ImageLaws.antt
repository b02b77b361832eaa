-- What was written of an image stands in the buffer.
use Prim.Native.Nat.{ℕ, ◌≤◌}
use mathlib.Core.Path.{◌≡◌}
use mathlib.Core.List.{List}
use native.Mathlib.Omega.{arith}
use lib.ListN.{length, drop, length-append}
use Rattle.writer.specs.Writer.{image, WriteIs, not-by-form, too_short, written}
use Rattle.std.specs.Prelude.{Ok}
use Rattle.writer.specs.Writer.{Written}

pub image-fits : {xs ls o p : List ℕ} {w : Written} {n : ℕ} → WriteIs xs ls o w p
    → w ≡ Ok n → n ≤ length p
image-fits (not-by-form g) e = absurd (let z : ◌≡◌ {A = ℕ} 0 1 = cc in omega arith)
image-fits (too_short g l) e = absurd (let z : ◌≡◌ {A = ℕ} 0 1 = cc in omega arith)
image-fits {xs} {ls} {o} {n = n} (written g l) e =
    let s : length (image xs ls) ≡ n = cc in
    omega (arith, s, length-append (image xs ls) (drop (length (image xs ls)) o))
