-- A record's frames in a word.
use mathlib.Core.Path.{◌≡◌, ◌∙◌, ap, sym}
use mathlib.Core.List.{List}
use mathlib.Core.Bool.{◌&&◌, and-true}
use Prim.Native.Nat.{ℕ, ◌<◌, ◌^◌}
use native.Mathlib.Omega.{arith}
use native.Mathlib.Nat.{div-lt_iff_lt-mul}
use lib.Dec.{leb, ltb}
use lib.ListN.{length, get_or}
use borrow.Author.Tests.{lt-ltb}
use denote.Ref.{Bor}
use Rattle.std.specs.Prelude.{Option, Some, None}
use Rattle.std.specs.Option.{option_copied}
use Rattle.std.specs.Slice.{IsItemAt}
use Rattle.rules.specs.Pick.{pick_true, pick-false}
use Rattle.rules.specs.Box.{held_at}
use Rattle.rules.specs.Sizes.{proper, left_of, right_of}

-- A word holds no left frame number that is too large.
pub proper-word : (x : ℕ) → x < 2 ^ 64 → proper x ≡ (leb 1 (left_of x) && leb 1 (right_of x))
unfolding proper
proper-word x h =
    let most : ℕ = 4294967296 in
    let b : left_of x < most =
    (div-lt_iff_lt-mul {k = most} {x = x} {y = most} (omega arith)).1 h in
    rw (lt-ltb (left_of x) most b, and-true)

-- What is held at a place, as the library looks there.
pub held_there : (rs : List ℕ) (l : ℕ) (r : Option (Bor ℕ)) → IsItemAt rs l r
    → option_copied r ≡ held_at rs l
unfolding held_at
held_there rs l (Some x) h =
    ap (λ (v : ℕ). Some v) (h.3.1 0)
    ∙ sym (pick_true (ltb l (length rs)) (Some (get_or rs l 0)) None (sym h.0))
held_there rs l None h =
    sym (pick-false (ltb l (length rs)) (Some (get_or rs l 0)) None (sym h.0))
