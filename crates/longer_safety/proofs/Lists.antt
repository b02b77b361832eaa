-- The agreed records of two boxes by their numbers.
use Prim.Native.Nat.{ℕ, ◌+◌, ◌-◌, ◌≤◌, ◌<◌, max}
use mathlib.Core.Path.{◌≡◌, sym, ap, ◌∙◌}
use mathlib.Core.List.{List}
use native.Mathlib.Omega.{arith}
use lib.ListN.{length, get_or, length-take, length-drop}
use lib.Seq.{get_or-take, get_or-drop}
use Rattle.rules.specs.Box.{Box}
use Rattle.safety.specs.Demand3.{Agreed, record_at}
use Rattle.longer.specs.Longer.{longer_of, from_first}
use Rattle.longer.specs.declared.Which.{Which}
use Rattle.longer.proofs.Told.{told}
use Rattle.agreed.specs.Agreed.{agreed_count, agreed_records}
use Rattle.longer_safety.specs.NeverDiffers.{longer_of_boxes}

-- the list of a box from number f on, which is not below its own first
module _ (x : Box) (f i : ℕ) (own : x.head.kept.first ≤ f) where
  abbrev list : List ℕ
  list = from_first x.head.kept.first f (agreed_records x)

  module _ (within : i < length list) where
    -- its number i is agreed, ..
    pub number-agreed : Agreed x (f + i)
    number-agreed =
        let h = simp (length-drop, length-take) at within in
        (omega arith, omega arith)

    -- .. and its record is the box's
    pub record_is : get_or list i 0 ≡ record_at x (f + i)
    record_is =
        let first = x.head.kept.first in
        let h = simp (length-drop, length-take) at within in
        let e : f - first + i ≡ f + i - first = omega arith in
        get_or-drop (f - first) (agreed_records x) i 0
        ∙ get_or-take (agreed_count x) x.records (f - first + i) 0 (omega arith)
        ∙ ap (λ k. get_or x.records k 0) e

-- two boxes that agree wherever both keep a number
pub never : (x y : Box)
    → ((k : ℕ) → Agreed x k → Agreed y k → record_at x k ≡ record_at y k)
    → longer_of_boxes x y ≡ Which.Differs → ⊥
never x y agree e =
    let f = max x.head.kept.first y.head.kept.first in
    let at = told.differs (list x f 0 (omega arith)) (list y f 0 (omega arith)) e in
    let i = at.0 in
    let d = at.1 in
    d.differ
    (record_is x f i (omega arith) d.in_first
    ∙ agree (f + i) (number-agreed x f i (omega arith) d.in_first)
    (number-agreed y f i (omega arith) d.in_second)
    ∙ sym (record_is y f i (omega arith) d.in_second))

-- from the same first number the lists are whole
pub whole_lists : (x y : Box) → x.head.kept.first ≡ y.head.kept.first
    → longer_of_boxes x y ≡ longer_of (agreed_records x) (agreed_records y)
whole_lists x y e =
    let f = max x.head.kept.first y.head.kept.first in
    let p = told.from-own x.head.kept.first f (agreed_records x) (omega arith) in
    let q = told.from-own y.head.kept.first f (agreed_records y) (omega arith) in
    (λ i. longer_of (p i) (q i))

-- a box that keeps number 1 as agreed has a record in its list
pub some_record : (x : Box) → Agreed x 1 → x.head.kept.first ≡ 1
    → 1 - x.head.kept.first < length x.records → 0 < length (agreed_records x)
some_record x a e h = simp length-take (omega arith)
