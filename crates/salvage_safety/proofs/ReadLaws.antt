-- Numbers that stand in a body are read there.
use mathlib.Core.Path.{◌≡◌, refl, ap, ◌∙◌, subst}
use Prim.Native.Nat.{ℕ, zero, suc, ◌+◌, ◌*◌, ◌^◌, ◌<◌}
use native.Mathlib.Nat.{suc-mul}
use native.Mathlib.Omega.{arith}
use mathlib.Core.List.{List, [], ◌∷◌}
use lib.Dec.{leb}
use lib.ListN.{length, take, drop, get_or}
use lib.Seq.{take_at}
use borrow.Author.Tests.{le-leb}
use Rattle.le.specs.Le.{le, of_le}
use Rattle.le.proofs.LeLaws.{length-le, of-le}
use Rattle.rules.specs.Pick.{pick_true}
use Rattle.cells.specs.Cells.{chain, cells, Each, Below, Stands}
use Rattle.cells.proofs.StandLaws.{stands-first, stands-rest}
use Rattle.found.specs.Stands.{word_at, words_at}

word_stands : (k : ℕ) (src : List ℕ) (at x : ℕ) {q : ℕ} → Stands (le k x) src at q → x < 256 ^ k
    → word_at k src at ≡ x
unfolding word_at
word_stands k src at x {q} w b =
    let len = length-le k x in
    let next = w.next in
    let room = w.room in
    pick_true (leb (at + k) (length src)) _ _ (le-leb (at + k) (length src) (omega arith))
    ∙ ap of_le (ap (take k) w.here ∙ take_at (le k x) (drop q src) k len) ∙ of-le k x b

pub words_stand : (k : ℕ) (src ws : List ℕ) (at : ℕ) {r : ℕ} → Stands (cells k ws) src at r
    → Below (256 ^ k) ws → words_at k (length ws) src at ≡ ws
unfolding words_at chain Each
words_stand k src [] at w b = refl
words_stand k src (x ∷ ws) at {r} w b =
    let here = word_stands k src at x (stands-first (le k x) (cells k ws) w) b.0 in
    let place : at + length (le k x) ≡ at + k = ap (λ (m : ℕ). at + m) (length-le k x) in
    let rest = subst (λ (p : ℕ). Stands (cells k ws) src p r) place
    (stands-rest (le k x) (cells k ws) w) in
    let more = words_stand k src ws (at + k) rest b.1 in
    λ i. here i ∷ more i

-- Number i of them.
pub word_of : (k : ℕ) (src : List ℕ) (c at i : ℕ) → i < c
    → get_or (words_at k c src at) i 0 ≡ word_at k src (at + i * k)
unfolding words_at
word_of k src zero at i h = absurd (let no : ⊥ = omega arith in no)
word_of k src (suc c) at zero h =
    let e : at ≡ at + zero * k = omega arith in ap (word_at k src) e
word_of k src (suc c) at (suc i) h =
    let s : suc i * k ≡ i * k + k = rw suc-mul in
    let e : at + k + i * k ≡ at + suc i * k = omega arith in
    word_of k src c (at + k) i (omega arith) ∙ ap (word_at k src) e
