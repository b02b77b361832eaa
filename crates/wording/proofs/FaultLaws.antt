-- A text looked for from each place of a line on.
use Prim.Native.Nat.{ℕ, ◌+◌, ◌-◌, ◌<◌, ◌≤◌}
use mathlib.Core.Path.{◌≡◌, refl, ap, sym, ◌∙◌}
use mathlib.Core.Bool.{Bool, true, false}
use mathlib.Core.List.{List, [], ◌∷◌}
use native.Mathlib.Numerals.{add-one}
use native.Mathlib.Omega.{arith}
use lib.ListN.{length, take, drop, length-drop, drop_of_length-le}
use lib.Seq.{drop-cons, take_all}
use Rattle.rules.specs.Pick.{pick_true, pick-false}
use Rattle.lines.specs.Table.{starts}
use Rattle.wording.specs.Fault.{within, last_of}

-- a part that reaches to the end
rest : (s : List ℕ) (i : ℕ) → take (length s - i) (drop i s) ≡ drop i s
rest s i = take_all (length s - i) (drop i s) (rw length-drop (omega arith))

module _ (w s : List ℕ) (i : ℕ) (l : i < length s) {t : Bool}
    (e : t ≡ starts w (take (length s - i) (drop i s))) where
  found : t ≡ starts w (drop i s)
  found = e ∙ ap (starts w) (rest s i)

  pub within-here : t ≡ true → within w (drop i s) ≡ true
  unfolding within
  within-here h =
      rw (drop-cons s i 0 l) (pick_true _ _ _ (rw (drop-cons s i 0 l) at (sym found ∙ h)))

  pub within_on : t ≡ false → within w (drop i s) ≡ within w (drop (i + 1) s)
  unfolding within
  within_on h =
      rw (add-one, drop-cons s i 0 l) (pick-false _ _ _ (rw (drop-cons s i 0 l) at (sym found ∙ h)))

pub within_end : (w s : List ℕ) (i : ℕ) → length s ≤ i → within w (drop i s) ≡ false
unfolding within
within_end w s i h = rw (drop_of_length-le s h)

pub last_none : (s : List ℕ) → length s ≡ 0 → 0 ≡ last_of s
last_none [] e = refl
last_none (b ∷ s) e = absurd (omega arith)
