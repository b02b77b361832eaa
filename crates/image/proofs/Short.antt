-- An image is short: every offset and length in its table of contents is a number of 32 bits.
use mathlib.Core.Path.{ap}
use Prim.Native.Nat.{ℕ, ◌+◌, ◌^◌, ◌≤◌, ◌<◌}
use native.Mathlib.Omega.{arith}
use mathlib.Core.List.{List, [], ◌∷◌}
use lib.ListN.{length, length-append}
use Rattle.laws.proofs.FormLaws.{sizes-says}
use Rattle.cells.specs.Cells.{chain, Each, Below}
use Rattle.image.specs.Image.{contents}
use Rattle.image.specs.Parts.{Listed, n_in, bodies_in, GoodListed}
use Rattle.image.proofs.TableLaws.{bodies-bytes}
use Rattle.image.proofs.LongestLaws.{listed-most, sizes-most}

-- Offsets and lengths stay below the end of the last body.
contents-below : (b at : ℕ) (bs : List (List ℕ)) → at + length (chain (λ x. x) bs) < b
    → Below b (contents at bs)
unfolding contents chain Each
contents-below b at [] h = tt
contents-below b at (x ∷ bs) h =
    let rest = chain (λ (y : List ℕ). y) bs in
    let n = length-append x rest in
    (omega arith, (omega arith, contents-below b (at + length x) bs (omega arith)))

-- The words of the table.
pub table_below : (t : Listed) (at : ℕ) → GoodListed t → at ≤ 60
    → Below (256 ^ 4) ((n_in t + 2) ∷ contents at (bodies_in t))
unfolding Each
table_below t at g h =
    let z = sizes-says g.sizes in
    let size = ap length (bodies-bytes t) in
    let bodies = listed-most t g in
    let most = sizes-most z in
    (omega arith, contents-below (256 ^ 4) at (bodies_in t) (omega arith))
