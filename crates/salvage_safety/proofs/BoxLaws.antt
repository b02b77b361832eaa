-- The body of a box by form is kept, and what it keeps is what the box does.
use mathlib.Core.Path.{◌≡◌, refl, sym, ap, ◌∙◌, subst}
use mathlib.Core.Bool.{Bool, true, false}
use Prim.Native.Nat.{ℕ, zero, suc, ◌+◌, ◌-◌, ◌*◌, ◌^◌, ◌≤◌, ◌<◌}
use native.Mathlib.Omega.{arith}
use mathlib.Core.List.{List, [], ◌∷◌, ◌++◌}
use lib.Dec.{leb}
use lib.ListN.{length, get_or, replicate, length-append}
use borrow.Author.Tests.{le-leb, leb-true, eq-eqb}
use Rattle.words.specs.Rows.{part, splice}
use Rattle.words.proofs.PartLaws.{length_part}
use Rattle.rules.specs.Pick.{pick_true, pick-false}
use Rattle.rules.specs.Sizes.{most_boxes, most_loads, unknown, within, proper}
use Rattle.rules.specs.Box.{Box}
use Rattle.rules.proofs.BoundLaws.{first-of, second-of}
use Rattle.laws.proofs.FormLaws.{FormedBox, box-says}
use Rattle.safety.specs.Demand3.{record_at}
use Rattle.std.specs.Prelude.{Option, None, Ok}
use Rattle.values.specs.declared.Field.{Field}
use Rattle.values.proofs.FaultLaws.{whole-none}
use Rattle.row.specs.Row.{head_words, first_at, last_at, count_at}
use Rattle.row.specs.Faults.{head_fault}
use Rattle.cells.specs.Cells.{chain, cells, Each, All, Below, Stands}
use Rattle.cells.specs.Groups.{groups_bytes, GroupedWords}
use Rattle.cells.proofs.ChainLaws.{length-cells}
use Rattle.cells.proofs.StandLaws.{stands-all, stands-first, stands-rest}
use Rattle.image.specs.Image.{box_groups, box_words, box_body}
use Rattle.image.specs.Longest.{box_head_long}
use Rattle.image.specs.Parts.{GoodBox, GoodRecord}
use Rattle.image.proofs.Lengths.{length-box}
use Rattle.image.proofs.RecordLaws.{proper-below}
use Rattle.image.proofs.BoxLaws.{peer-none, box-split, box-records, box_headed}
use Rattle.image.proofs.BoxJudged.{box-passes}
use Rattle.found.specs.Stands.{word_at, words_at, groups_in}
use Rattle.found.specs.Found.{leading, first_in, box_words_in, records_found, held_found}
use Rattle.found.specs.Found.{head_found}
use Rattle.found.specs.Found.{box_found}
use Rattle.salvage.specs.Loads.{last_in, kept_in}
use Rattle.salvage.proofs.KeptLaws.{word_first, word-last, word_count}
use Rattle.salvage_safety.proofs.ReadLaws.{words_stand, word_of}

-- all of them are proper
all-lead : (rs : List ℕ) → All GoodRecord rs → leading rs ≡ length rs
unfolding leading Each
all-lead [] g = refl
all-lead (r ∷ rs) g = pick_true (proper r) _ _ g.0 ∙ ap suc (all-lead rs g.1)

all-below : (rs : List ℕ) → All GoodRecord rs → Below (256 ^ 8) rs
unfolding Each
all-below [] g = tt
all-below (r ∷ rs) g = (proper-below g.0, all-below rs g.1)

module _ (n J b : ℕ) (few : n ≤ most_boxes) (loads : J ≤ most_loads) (x : Box)
    (good : GoodBox n J b x) where
  abbrev body : List ℕ
  body = box_body n x

  abbrev w : List ℕ
  w = box_words x

  abbrev rs : List ℕ
  rs = x.records

  abbrev at : ℕ
  at = box_head_long n

  says : FormedBox n J b x
  says = box-says good

  ranged : GroupedWords (box_groups n) head_words unknown w
  ranged = (box_headed n J few loads).range x (b, good)

  -- ---- where its parts stand

  abbrev A : List ℕ
  A = cells 4 (part w 0 13)

  abbrev B : List ℕ
  B = cells 8 (part w 13 3)

  abbrev C : List ℕ
  C = cells 4 (part w 16 n)

  abbrev D : List ℕ
  D = cells 4 (part w 21 1)

  abbrev G : List ℕ
  G = A ++ (B ++ (C ++ (D ++ [])))

  whole : body ≡ G ++ cells 8 rs
  unfolding groups_bytes chain
  whole = box-split n x

  stands : Stands (G ++ cells 8 rs) body 0 (length body)
  stands = stands-all (sym whole)

  long-A : length A ≡ 52
  long-A = length-cells 4 (part w 0 13)

  long-B : length B ≡ 24
  long-B = length-cells 8 (part w 13 3)

  part-C : length (part w 16 n) ≡ n
  part-C = length_part 16 n w (omega arith)

  long-C : length C ≡ n * 4
  long-C = length-cells 4 (part w 16 n) ∙ ap (λ (m : ℕ). m * 4) part-C

  long-D : length D ≡ 4
  long-D = length-cells 4 (part w 21 1)

  head : Stands G body 0 (0 + length G)
  head = stands-first G (cells 8 rs) stands

  moved : {l : List ℕ} {p q r : ℕ} → p ≡ q → Stands l body p r → Stands l body q r
  moved {l} {r = r} e s = subst (λ (p : ℕ). Stands l body p r) e s

  at-B : Stands (B ++ (C ++ (D ++ []))) body 52 (0 + length G)
  at-B = moved (let l = long-A in omega arith) (stands-rest A (B ++ (C ++ (D ++ []))) head)

  at-C : Stands (C ++ (D ++ [])) body 76 (0 + length G)
  at-C = moved (let l = long-B in omega arith) (stands-rest B (C ++ (D ++ [])) at-B)

  at-D : Stands (D ++ []) body (76 + n * 4) (0 + length G)
  at-D = moved (let l = long-C in omega arith) (stands-rest C (D ++ []) at-C)

  long-G : length G ≡ at
  long-G =
      let a = long-A in
      let e = long-B in
      let c = long-C in
      let d = long-D in
      let l1 = length-append A (B ++ (C ++ (D ++ []))) in
      let l2 = length-append B (C ++ (D ++ [])) in
      let l3 = length-append C (D ++ []) in
      let l4 = length-append D [] in
      omega arith

  at_R : Stands (cells 8 rs) body at (length body)
  at_R = moved (let l = long-G in omega arith) (stands-rest G (cells 8 rs) stands)

  -- ---- its words

  words-A : words_at 4 13 body 0 ≡ part w 0 13
  unfolding Each
  words-A = words_stand 4 body (part w 0 13) 0 (stands-first A (B ++ (C ++ (D ++ []))) head)
      ranged.below.0

  words-B : words_at 8 3 body 52 ≡ part w 13 3
  unfolding Each
  words-B =
      words_stand 8 body (part w 13 3) 52 (stands-first B (C ++ (D ++ [])) at-B)
      ranged.below.1.0

  words-C : words_at 4 n body 76 ≡ part w 16 n
  unfolding Each
  words-C =
      ap (λ (m : ℕ). words_at 4 m body 76) (sym part-C)
      ∙ words_stand 4 body (part w 16 n) 76 (stands-first C (D ++ []) at-C)
      ranged.below.1.1.0

  words-D : words_at 4 1 body (76 + n * 4) ≡ part w 21 1
  unfolding Each
  words-D =
      words_stand 4 body (part w 21 1) (76 + n * 4) (stands-first D [] at-D)
      ranged.below.1.1.1.0

  abbrev built : ℕ → List ℕ
  built m = splice (splice (splice (splice (replicate 22 unknown) 0 13 (part w 0 13)) 13 3
      (part w 13 3)) 16 m (part w 16 m)) 21 1 (part w 21 1)

  none : (k : ℕ) → 1 ≤ k → k ≤ most_boxes → n < k → get_or x.head.peers (k - 1) 0 ≡ unknown
  none k l h a = peer-none n J b few x says k (l, h) a

  rebuilt : (m : ℕ) → m ≡ n → built m ≡ w
  rebuilt zero e =
      rw (
        none 1 (omega arith) (omega arith) (omega arith),
        none 2 (omega arith) (omega arith) (omega arith),
        none 3 (omega arith) (omega arith) (omega arith),
        none 4 (omega arith) (omega arith) (omega arith),
        none 5 (omega arith) (omega arith) (omega arith),
      )
  rebuilt (suc zero) e =
      rw (
        none 2 (omega arith) (omega arith) (omega arith),
        none 3 (omega arith) (omega arith) (omega arith),
        none 4 (omega arith) (omega arith) (omega arith),
        none 5 (omega arith) (omega arith) (omega arith),
      )
  rebuilt (suc (suc zero)) e =
      rw (
        none 3 (omega arith) (omega arith) (omega arith),
        none 4 (omega arith) (omega arith) (omega arith),
        none 5 (omega arith) (omega arith) (omega arith),
      )
  rebuilt (suc (suc (suc zero))) e =
      rw (
        none 4 (omega arith) (omega arith) (omega arith),
        none 5 (omega arith) (omega arith) (omega arith),
      )
  rebuilt (suc (suc (suc (suc zero)))) e =
      rw (none 5 (omega arith) (omega arith) (omega arith))
  rebuilt (suc (suc (suc (suc (suc zero))))) e = refl
  rebuilt (suc (suc (suc (suc (suc (suc m)))))) e =
      absurd (let no : ⊥ = omega arith in no)

  words_are : box_words_in n body ≡ w
  unfolding groups_in
  words_are =
      (λ i. splice (splice (splice (splice (replicate 22 unknown) 0 13 (words-A i)) 13 3
      (words-B i)) 16 n (words-C i)) 21 1 (words-D i))
      ∙ rebuilt n refl

  -- ---- it is kept

  first-is : first_in body ≡ x.head.kept.first
  first-is = sym (word_first n body few) ∙ ap (λ (v : List ℕ). get_or v first_at 0) words_are

  last-is : last_in body ≡ x.head.kept.last
  last-is = sym (word-last n body few) ∙ ap (λ (v : List ℕ). get_or v last_at 0) words_are

  count-is : word_at 4 body (at - 4) ≡ length rs
  count-is = sym (word_count n body few) ∙ ap (λ (v : List ℕ). get_or v count_at 0) words_are

  records_are : words_at 8 (length rs) body at ≡ rs
  records_are = words_stand 8 body rs at at_R (all-below rs (box-records n J b x good))

  held_kept : held_found body at ≡ Ok tt
  unfolding held_found records_found
  held_kept =
      let m : leading (words_at 8 (word_at 4 body (at - 4)) body at) ≡ length rs =
      ap (λ (c : ℕ). leading (words_at 8 c body at)) count-is ∙ ap leading records_are
      ∙ all-lead rs (box-records n J b x good) in
      let l = length-box n x few in
      let c = count-is in
      rw (
        le-leb (word_at 4 body (at - 4)) (leading (words_at 8 (word_at 4 body (at - 4)) body at))
            (omega arith),
        eq-eqb (at + 8 * word_at 4 body (at - 4)) (length body) (omega arith),
      )

  pub box-is-kept : box_found n J b body ≡ Ok tt
  unfolding box_found
  box-is-kept =
      let none : head_fault n J b (box_words_in n body) ≡ None =
      ap (head_fault n J b) words_are ∙ whole-none _ (box-passes n J b few x good) in
      ap (λ (f : Option Field). head_found f (held_found body at)) none ∙ held_kept

  -- ---- what it keeps

  module _ (k : ℕ) where
    abbrev inside : Bool
    inside = within x.head.kept.first x.head.kept.last k

    test-is : within (first_in body) (last_in body) k ≡ inside
    test-is = λ i. within (first-is i) (last-is i) k

    pub kept-not : inside ≡ false → kept_in true n body k ≡ 0
    unfolding kept_in
    kept-not e = pick-false (within (first_in body) (last_in body) k) _ _ (test-is ∙ e)

    pub kept_record : inside ≡ true → kept_in true n body k ≡ record_at x k
    unfolding kept_in
    kept_record e =
        let first = x.head.kept.first in
        let last = x.head.kept.last in
        let a = leb-true first k (first-of (leb first k) _ e) in
        let c = leb-true k last (second-of (leb first k) _ e) in
        let held = says.held.all in
        let f = first-is in
        let here : at + 8 * (k - first_in body) ≡ at + (k - first) * 8 = omega arith in
        pick_true (within (first_in body) (last_in body) k) _ _ (test-is ∙ e)
        ∙ ap (word_at 8 body) here
        ∙ sym (word_of 8 body (length rs) at (k - first) (omega arith))
        ∙ ap (λ (l : List ℕ). get_or l (k - first) 0) records_are
