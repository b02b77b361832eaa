-- Numbers held against bytes, one after another.
use mathlib.Core.Path.{◌≡◌, sym, ap, ◌∙◌, subst}
use mathlib.Core.Bool.{true, false}
use Prim.Native.Nat.{ℕ, ◌+◌, ◌*◌, ◌^◌, ◌≤◌, ◌<◌}
use native.Mathlib.Nat.{zero-mul}
use native.Mathlib.Omega.{arith}
use mathlib.Core.List.{List}
use lib.ListN.{length, take, get_or}
use Rattle.words.specs.Rows.{part}
use Rattle.words.proofs.RowLaws.{row-end}
use Rattle.le.specs.Le.{le, Number}
use Rattle.cells.specs.Cells.{chain, cells, Stands, WordsAre}
use Rattle.cells.proofs.ChainLaws.{chain-step, chain-all, length-cells, each_at}
use Rattle.cells.proofs.StandLaws.{stands-nil, stands_seq, stands_as, stands-le}
use Rattle.cells.proofs.CodeLaws.{le-code, same-thing}
use Rattle.cells.proofs.WalkLaws.{next-stands}

-- The first i of the numbers ws, for all of which there is room at `at`, stand there up to p.
pub record WordsTo (k : ℕ) (src ws : List ℕ) (at i p : ℕ) : Type 0 where
  pub few : i ≤ length ws
  pub fits : at + length ws * k ≤ length src
  pub place : p ≡ at + i * k
  pub stands : Stands (cells k (take i ws)) src at p

module _ {k : ℕ} {src ws : List ℕ} {at : ℕ} where
  pub words-none : at + length ws * k ≤ length src → WordsTo k src ws at 0 at
  unfolding chain
  words-none h = record {
    few = omega arith;
    fits = h;
    place = omega (arith, zero-mul k);
    stands = stands-nil src at (omega arith);
  }

  module _ {i p : ℕ} (s : WordsTo k src ws at i p) (h : i < length ws) where
    pub word_room : p + k ≤ length src
    word_room = let f = s.fits in let b = s.place in omega (arith, row-end k h)

    module _ {x : ℕ} (e : Number k (part src p k) x) where
      word_stands : Stands (le k x) src p (p + k)
      word_stands = stands-le k src p x word_room e

      pub words_more : x ≡ get_or ws i 0 → WordsTo k src ws at (i + 1) (p + k)
      words_more same = record {
        few = omega (arith, h);
        fits = s.fits;
        place = omega (arith, s.place);
        stands = stands_as (sym (chain-step (le k) ws i 0 h))
            (stands_seq s.stands (stands_as (ap (le k) same) word_stands));
      }

      -- The number that is read is the one that stands there.
      pub word_same : {r : ℕ} → get_or ws i 0 < 256 ^ k → Stands (cells k ws) src at r
          → x ≡ get_or ws i 0
      word_same below w =
          same-thing (le k) (λ z. z < 256 ^ k) (le-code k) x (get_or ws i 0) e.below below
          word_stands (next-stands (le k) ws i 0 h w s.stands)

      pub words-other : (x ≡ get_or ws i 0 → ⊥) → WordsAre k ws src at false
      words-other other below r w =
          other (word_same (each_at (λ j z. z < 256 ^ k) ws i 0 h below) w)

  pub words-all : {i p : ℕ} → WordsTo k src ws at i p → length ws ≤ i
      → WordsAre k ws src at true
  words-all {i} s h =
      let w = stands_as (chain-all (le k) ws i h) s.stands in
      subst (Stands (cells k ws) src at)
      (w.next ∙ ap (λ (j : ℕ). at + j) (length-cells k ws)) w

-- The first of numbers that stand at the start is the one that is read there.
pub first_word : (k : ℕ) {src : List ℕ} (ws : List ℕ) {r x : ℕ} → Stands (cells k ws) src 0 r
    → 0 < length ws → get_or ws 0 0 < 256 ^ k → Number k (part src 0 k) x → x ≡ get_or ws 0 0
first_word k ws w some below e =
    let next = w.next in
    let room = w.room in
    word_same (words-none (omega (arith, length-cells k ws))) some e below w
