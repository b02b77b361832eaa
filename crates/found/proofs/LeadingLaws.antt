-- Records that are proper, before the first that is not.
use mathlib.Core.Path.{◌≡◌, sym, ap, ◌∙◌}
use mathlib.Core.Bool.{true, false}
use Prim.Native.Nat.{ℕ, zero, suc, ◌+◌, ◌-◌, ◌*◌, ◌≤◌, ◌<◌}
use native.Mathlib.Omega.{arith}
use mathlib.Core.List.{List}
use Rattle.rules.specs.Pick.{pick, pick_true, pick-false}
use Rattle.rules.specs.Sizes.{proper}
use Rattle.found.specs.Stands.{word_at, words_at}
use Rattle.found.specs.Found.{leading}

module _ (src : List ℕ) (at count : ℕ) where
  -- the first i are proper, and p is the place behind them
  pub record LeadingTo (i p : ℕ) : Type 0 where
    pub few : i ≤ count
    pub place : p ≡ at + 8 * i
    pub is : leading (words_at 8 count src at) ≡ i + leading (words_at 8 (count - i) src p)

  pub leading-none : LeadingTo 0 at
  leading-none =
      let all : count ≡ count - 0 = omega arith in
      let e = ap (λ (c : ℕ). leading (words_at 8 c src at)) all in
      record { few = omega arith; place = omega arith; is = omega arith }

  module _ {i p x : ℕ} (l : LeadingTo i p) (h : i < count) (e : x ≡ word_at 8 src p) where
    left : count - i ≡ suc (count - (i + 1))
    left = omega arith

    abbrev behind : ℕ
    behind = leading (words_at 8 (count - (i + 1)) src (p + 8))

    here : leading (words_at 8 (count - i) src p) ≡ pick (proper x) (suc behind) 0
    unfolding leading words_at
    here =
        ap (λ (c : ℕ). leading (words_at 8 c src p)) left
        ∙ ap (λ (y : ℕ). pick (proper y) (suc behind) 0) (sym e)

    pub leading-more : proper x ≡ true → LeadingTo (i + 1) (p + 8)
    leading-more t =
        let q = l.place in
        let s = l.is in
        let m = here ∙ pick_true (proper x) (suc behind) 0 t in
        record { few = omega arith; place = omega arith; is = omega arith }

    pub leading-stop : proper x ≡ false → i ≡ leading (words_at 8 count src at)
    leading-stop f =
        let s = l.is in
        let m = here ∙ pick-false (proper x) (suc behind) 0 f in
        omega arith

  pub leading-all : {i p : ℕ} → LeadingTo i p → count ≤ i → i ≡ leading (words_at 8 count src at)
  unfolding leading words_at
  leading-all {i} {p} l h =
      let s = l.is in
      let none : count - i ≡ zero = omega arith in
      let m : leading (words_at 8 (count - i) src p) ≡ 0 =
      ap (λ (c : ℕ). leading (words_at 8 c src p)) none in
      omega arith
