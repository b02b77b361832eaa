-- Nothing else could satisfy the statements: the full reading is the smallest number by its words,
-- there is one such answer, and it is the site's alone.
use Prim.Native.Nat.{ℕ, ◌-◌, ◌≤◌, ◌<◌}
use mathlib.Core.Path.{◌≡◌, refl, sym, ap, ◌∙◌, subst}
use mathlib.Core.Bool.{true}
use mathlib.Core.List.{List}
use native.Mathlib.Omega.{arith}
use lib.Dec.{ltb}
use lib.ListN.{length, get_or}
use lib.Seq.{length-take-le, get_or-take}
use borrow.Author.Tests.{ltb-true, ltb-false}
use Rattle.index.specs.Index.{first_with}
use Rattle.index.specs.Found.{Answers}
use Rattle.index.proofs.CaseLaws.{test-cases, none-cases}
use Rattle.index.proofs.Once.{found-least}
use Rattle.rules.specs.Box.{Box}
use Rattle.rules.specs.Pick.{pick}
use Rattle.rules.specs.Site.{Site, is_box}
use Rattle.rules.specs.Sizes.{left_of}
use Rattle.rules.specs.Form.{form}
use Rattle.rules.specs.declared.model.Refusal.{Refusal}
use Rattle.laws.proofs.FormLaws.{form-says, is-box}
use Rattle.memory.specs.Memory.{site_of, memory_form}
use Rattle.agreed.specs.Agreed.{agreed_count, agreed_records}
use Rattle.find.specs.Find.{found_in, find, find_on}
use Rattle.find.specs.Smallest.{Has, Smallest, number, none}
use Rattle.std.specs.Prelude.{Option, Some, Result, Ok, Err}
use Rattle.find.proofs.FindLaws.{none_found, number-found, at-frame}

-- ---- a box that has every agreed record, from number 1 on or later

module _ (x : Box) (left : ℕ) (some : 1 ≤ x.head.kept.first)
    (all : agreed_count x ≤ length x.records) where
  abbrev first : ℕ
  first = x.head.kept.first

  abbrev answer : ℕ
  answer = first_with left first (agreed_records x)

  answers : Answers left first (agreed_records x) answer
  answers = found-least left first (agreed_records x) some

  as_many : length (agreed_records x) ≡ agreed_count x
  as_many = length-take-le (agreed_count x) x.records all

  same_record : (i : ℕ) → i < agreed_count x → get_or (agreed_records x) i 0 ≡ get_or x.records i 0
  same_record i h = get_or-take (agreed_count x) x.records i 0 h

  -- a number that has the frame is that of an agreed record that has it
  placed : (k : ℕ) → Has x left k → k - first < length (agreed_records x)
  placed k h = omega (arith, as_many, h.kept, h.agreed)

  framed : (k : ℕ) → Has x left k → left_of (get_or (agreed_records x) (k - first) 0) ≡ left
  framed k h =
      ap left_of (same_record (k - first) (omega (arith, h.kept, h.agreed))) ∙ h.frame

  has : 1 ≤ answer → Has x left answer
  has s =
      let w = answers.kept s in
      let low = w.0 in
      let high = w.1 in
      let many = as_many in
      record {
        kept = low;
        agreed = omega arith;
        frame = ap left_of (sym (same_record (answer - first) (omega arith))) ∙ answers.has s;
      }

  least : (i : ℕ) → Has x left i → answer ≤ i
  least i h =
      test-cases (ltb i answer)
      (λ t.
      let below = ltb-true i answer t in
      absurd (answers.least (i - first) (placed i h) (omega (arith, h.kept)) (framed i h)))
      (λ f. ltb-false i answer f)

  pub smallest : Smallest x left (found_in x left)
  smallest =
      none-cases answer
      (λ z. subst (λ (o : Option ℕ). Smallest x left (Ok o)) (none_found answer z)
      (none (λ i h. answers.none z (i - first) (placed i h) (framed i h))))
      (λ s. subst (λ (o : Option ℕ). Smallest x left (Ok o))
      (number-found answer (λ z. omega arith)) (number (has s) least))

-- ---- the answer

-- of a box of a site by form it is the smallest number, ..
pub found-smallest : (s : Site) (c left : ℕ) → form s ≡ true → is_box s.n c ≡ true
    → (left ≡ 0 → ⊥) → Smallest (s.box c) left (find s c left)
found-smallest s c left f b h =
    let x = (form-says f).boxes c (is-box b) in
    subst (Smallest (s.box c) left) (sym (at-frame s f c left b h))
    (smallest (s.box c) left x.first.some (omega (arith, x.held.all)))

-- .. there is one such answer, ..
pub smallest-once : {x : Box} {left : ℕ} {v w : Result (Option ℕ) Refusal} → Smallest x left v
    → Smallest x left w
    → v ≡ w
smallest-once (number {k} h l) (number {k = i} g m) =
    let below = l i g in
    let above = m k h in
    let e : k ≡ i = omega arith in
    ap (λ (j : ℕ). Ok (Some j)) e
smallest-once (number {k} h l) (none n) = absurd (n k h)
smallest-once (none n) (number {k} h l) = absurd (n k h)
smallest-once (none n) (none m) = refl

-- .. and it is the site's alone: other words that hold it are answered the same, whatever their
-- unused room holds
pub room-unread : (xs ls ys ms : List ℕ) (c left : ℕ) → memory_form xs ls ≡ memory_form ys ms
    → site_of xs ls ≡ site_of ys ms → find_on xs ls c left ≡ find_on ys ms c left
unfolding find_on
room-unread xs ls ys ms c left r e =
    λ t. pick (r t) (find (e t) c left) (Err Refusal.Form)

-- two results of one call are the same
pub once : (xs ls : List ℕ) (c left : ℕ) {v w : Result (Option ℕ) Refusal}
    → v ≡ find_on xs ls c left
    → w ≡ find_on xs ls c left → v ≡ w
once xs ls c left p q = p ∙ sym q
