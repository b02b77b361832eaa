-- Numbers where they stand: one that fits, one that does not, and one more of many.
use mathlib.Core.Path.{◌≡◌, refl, sym, ap, ◌∙◌}
use Prim.Native.Nat.{ℕ, zero, suc, ◌+◌, ◌*◌, ◌^◌, ◌≤◌, ◌<◌}
use native.Mathlib.Nat.{suc-mul, mul-le-mul}
use native.Mathlib.Numerals.{add-one}
use native.Mathlib.Omega.{arith}
use mathlib.Core.List.{List, [], ◌∷◌, ◌++◌}
use lib.Dec.{leb}
use lib.ListN.{length, take, set, length-set}
use lib.Seq.{take_all, take-suc-set}
use borrow.Author.Tests.{le-leb, lt-leb}
use Rattle.words.specs.Rows.{part}
use Rattle.le.specs.Le.{Number}
use Rattle.rules.specs.Pick.{pick_true, pick-false}
use Rattle.found.specs.Stands.{missing, word_at, words_at}
use Rattle.found.specs.Near.{farthest}

module _ (k : ℕ) (src : List ℕ) (at : ℕ) where
  pub word_in : {x : ℕ} → at + k ≤ length src → Number k (part src at k) x → x ≡ word_at k src at
  unfolding word_at
  word_in h e =
      e.read ∙ sym (pick_true (leb (at + k) (length src)) _ _ (le-leb (at + k) (length src) h))

  pub word_out : length src < at + k → missing ≡ word_at k src at
  unfolding word_at
  word_out h = sym (pick-false (leb (at + k) (length src)) _ _ (lt-leb (at + k) (length src) h))

-- Four bytes hold no more.
pub few-bytes : (k : ℕ) {x : ℕ} → x < 256 ^ k → k ≤ 4 → x ≤ missing
few-bytes zero b h = omega arith
few-bytes (suc zero) b h = omega arith
few-bytes (suc (suc zero)) b h = omega arith
few-bytes (suc (suc (suc zero))) b h = omega arith
few-bytes (suc (suc (suc (suc zero)))) b h = omega arith
few-bytes (suc (suc (suc (suc (suc k))))) b h = absurd (omega arith)

module _ (k : ℕ) (src : List ℕ) where
  pub length-words : (c at : ℕ) → length (words_at k c src at) ≡ c
  unfolding words_at
  length-words zero at = refl
  length-words (suc c) at = ap suc (length-words c (at + k))

  pub words_snoc : (i at : ℕ)
      → words_at k (suc i) src at ≡ words_at k i src at ++ (word_at k src (at + i * k) ∷ [])
  unfolding words_at
  words_snoc zero at =
      let e : at ≡ at + zero * k = omega arith in ap (λ (p : ℕ). word_at k src p ∷ []) e
  words_snoc (suc i) at =
      let s : suc i * k ≡ i * k + k = rw suc-mul in
      let e : at + k + i * k ≡ at + suc i * k = omega arith in
      ap (λ (l : List ℕ). word_at k src at ∷ l)
      (words_snoc i (at + k)
      ∙ ap (λ (p : ℕ). words_at k i src (at + k) ++ (word_at k src p ∷ [])) e)

  -- i of the words of d are read, p is the place behind them
  pub record WordsTo (at : ℕ) (d₀ d : List ℕ) (i p : ℕ) : Type 0 where
    pub few : i ≤ length d₀
    pub place : p ≡ at + i * k
    pub size : length d ≡ length d₀
    pub read : take i d ≡ words_at k i src at

  module _ {at : ℕ} {d₀ : List ℕ} where
    pub words-none : WordsTo at d₀ d₀ 0 at
    unfolding words_at
    words-none = record { few = omega arith; place = omega arith; size = refl; read = refl }

    pub words_more : {d : List ℕ} {i p x : ℕ} → WordsTo at d₀ d i p → i < length d
        → x ≡ word_at k src p → WordsTo at d₀ (set d i x) (i + 1) (p + k)
    words_more {d} {i} {p} {x} w h e =
        let step : (i + 1) * k ≡ i * k + k = rw (add-one, suc-mul) in
        let l = w.size in
        let q = w.place in
        let set-size = length-set d i x in
        record {
          few = omega arith;
          place = omega arith;
          size = set-size ∙ l;
          read = rw (add-one i)
              (take-suc-set d i x h
              ∙ (λ j. w.read j ++ ((e ∙ ap (word_at k src) q) j ∷ []))
              ∙ sym (words_snoc i at));
        }

    pub words-all : {d : List ℕ} {i p : ℕ} → WordsTo at d₀ d i p → length d ≤ i
        → d ≡ words_at k (length d₀) src at
    words-all {d} {i} w h =
        let l = w.size in
        let f = w.few in
        let e : i ≡ length d₀ = omega arith in
        sym (take_all i d h) ∙ w.read ∙ ap (λ (c : ℕ). words_at k c src at) e

    -- the place behind 22 words of 8 bytes is not far
    pub words-near : {d : List ℕ} {i p : ℕ} → WordsTo at d₀ d i p → k ≤ 8 → length d₀ ≤ 22
        → at ≤ farthest → p + k < 2 ^ 64
    words-near {d} {i} {p} w k8 few near =
        let q = w.place in
        let f = w.few in
        let m : i * k ≤ 22 * 8 = mul-le-mul {n₂ = 22} {m₂ = 8} (omega arith) k8 in
        omega arith
