-- The four ways of `longer_is`: t is what the comparison has answered.
use Prim.Native.Nat.{ℕ, ◌≤◌, ◌<◌}
use mathlib.Core.Path.{◌≡◌, sym, ◌∙◌}
use mathlib.Core.Bool.{Bool, true, false}
use mathlib.Core.List.{List}
use lib.ListN.{length}
use borrow.Author.Tests.{le-leb, lt-leb}
use Rattle.rules.specs.Pick.{pick_true, pick-false}
use Rattle.longer.specs.Longer.{begins, longer_of}
use Rattle.longer.specs.declared.Which.{Which}

module _ (xs ys : List ℕ) {t : Bool} where
  pub is-first : length ys ≤ length xs → t ≡ begins ys xs → t ≡ true → Which.First ≡ longer_of xs ys
  unfolding longer_of
  is-first h e y = sym (pick_true _ _ _ (le-leb _ _ h) ∙ pick_true _ _ _ (sym e ∙ y))

  pub first-differs : length ys ≤ length xs → t ≡ begins ys xs → t ≡ false
      → Which.Differs ≡ longer_of xs ys
  unfolding longer_of
  first-differs h e y = sym (pick_true _ _ _ (le-leb _ _ h) ∙ pick-false _ _ _ (sym e ∙ y))

  pub is-second : length xs < length ys → t ≡ begins xs ys → t ≡ true
      → Which.Second ≡ longer_of xs ys
  unfolding longer_of
  is-second h e y = sym (pick-false _ _ _ (lt-leb _ _ h) ∙ pick_true _ _ _ (sym e ∙ y))

  pub second-differs : length xs < length ys → t ≡ begins xs ys → t ≡ false
      → Which.Differs ≡ longer_of xs ys
  unfolding longer_of
  second-differs h e y = sym (pick-false _ _ _ (lt-leb _ _ h) ∙ pick-false _ _ _ (sym e ∙ y))
