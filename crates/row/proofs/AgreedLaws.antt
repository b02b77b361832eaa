-- A number is agreed with its frames, by the words of a row by form.
use Prim.Native.Nat.{ℕ, ◌+◌, ◌-◌, ◌/◌, ◌%◌, ◌≤◌, ◌<◌}
use mathlib.Core.Path.{◌≡◌, refl}
use mathlib.Core.Bool.{false, ◌&&◌, ◌||◌}
use mathlib.Core.List.{List}
use native.Mathlib.Omega.{arith}
use lib.Dec.{eqb, ltb}
use lib.ListN.{length, get_or}
use borrow.Author.Tests.{eqb-true, le-leb, lt-leb}
use Rattle.words.specs.Rows.{part}
use Rattle.words.proofs.PartLaws.{get_or_part}
use Rattle.rules.specs.Sizes.{most_number}
use Rattle.rules.specs.Form.{count_form}
use Rattle.rules.specs.Step.{agreed_as}
use Rattle.rules.specs.declared.model.Setting.{Setting}
use Rattle.rules.proofs.BoundLaws.{first-of}
use Rattle.values.proofs.CountLaws.{either-of}
use Rattle.row.specs.Row.{box_of, last_at, first_at, count_at, head_words}
use Rattle.row.specs.Lent.{RowByForm}
use Rattle.row.proofs.TurnLaws.{row-formed}

module _ (s : Setting) (r : List ℕ) (k left right : ℕ) where
  abbrev first : ℕ
  first = get_or r first_at 0

  abbrev last : ℕ
  last = get_or r last_at 0

  abbrev count : ℕ
  count = get_or r count_at 0

  pub agreed-below : k < first → false ≡ agreed_as (box_of s.n r) k left right
  unfolding agreed_as
  agreed-below h = rw (lt-leb first k h) refl

  pub agreed-above : first ≤ k → last < k → false ≡ agreed_as (box_of s.n r) k left right
  unfolding agreed_as
  agreed-above f h = rw (le-leb first k f, lt-leb k last h) refl

  -- The record of number k stands i places behind the head.
  module _ (i : ℕ) (e : i ≡ k - first) (h : first ≤ k) (l : k ≤ last) (ok : RowByForm s r) where
    -- the agreed numbers from first on are held
    held : last < first + count
    unfolding count_form
    held =
        either-of (eqb (first + count) (last + 1)) _
        (first-of (eqb (first + count) (last + 1)
        || (eqb (first + count) (last + 2) && ltb last most_number)) _
        (row-formed s r ok).says.counted)
        (λ t. omega (arith, eqb-true (first + count) (last + 1) t))
        (λ t. omega (
          arith,
          eqb-true
              (first + count) (last + 2) (first-of (eqb (first + count) (last + 2)) _ t),
        ))

    pub agreed-within : head_words + i < length r
    agreed-within = omega (arith, held, (row-formed s r ok).readable.room)

    pub agreed-here :
        (eqb (get_or r (head_words + i) 0 / 4294967296) left
        && eqb (get_or r (head_words + i) 0 % 4294967296) right)
        ≡ agreed_as (box_of s.n r) k left right
    unfolding agreed_as
    agreed-here = rw (e, le-leb first k h, le-leb k last l, here) refl
      where
        here : get_or (part r head_words count) (k - first) 0
            ≡ get_or r (head_words + (k - first)) 0
        here = get_or_part head_words count (k - first) 0 r (omega (arith, held))
