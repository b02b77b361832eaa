-- A box's body that is kept is the body of a box by form.
use mathlib.Core.Path.{◌≡◌, refl, sym, ap, ◌∙◌, subst}
use mathlib.Core.Bool.{Bool, true, false}
use Prim.Native.Nat.{ℕ, zero, suc, ◌+◌, ◌-◌, ◌*◌, ◌^◌, ◌≤◌, ◌<◌}
use native.Mathlib.Nat.{suc-mul}
use native.Mathlib.Omega.{arith}
use mathlib.Core.List.{List, [], ◌∷◌, ◌++◌}
use lib.Dec.{leb}
use lib.ListN.{length, take, drop, get_or, replicate}
use lib.Seq.{get_or-drop}
use borrow.Author.Tests.{le-leb, leb-true, leb-false}
use Rattle.std.proofs.lemmas.List.{get_or-replicate}
use Rattle.words.specs.Rows.{part, splice}
use Rattle.words.proofs.PartLaws.{length_part, part-splice, part-below, drop_past, get_or-splice}
use Rattle.words.proofs.PartLaws.{length-splice}
use Rattle.le.specs.Le.{le, of_le, Number}
use Rattle.le.proofs.LeLaws.{Bytes, number}
use Rattle.rules.specs.Pick.{pick_true, pick-false}
use Rattle.rules.specs.Sizes.{most_boxes, unknown, proper}
use Rattle.values.specs.Faults.{is_whole}
use Rattle.row.specs.Row.{head_words, count_at}
use Rattle.row.specs.Faults.{head_fault}
use Rattle.cells.specs.Cells.{chain, cells, Each, All, Below, Stands}
use Rattle.cells.specs.Groups.{groups_bytes, GroupedWords, Outside}
use Rattle.cells.proofs.StandLaws.{stands-nil, stands-le, stands_seq, stands_as, stands-whole}
use Rattle.image.specs.Image.{box_groups}
use Rattle.image.specs.Longest.{box_head_long}
use Rattle.image.specs.Parts.{GoodRecord}
use Rattle.image.proofs.BoxLaws.{box-split}
use Rattle.image.proofs.BoxJudged.{read-box, words_are as box-words, form_of}
use Rattle.found.specs.Stands.{word_at, words_at}
use Rattle.found.specs.Found.{is_kept, leading, box_found}
use Rattle.found.proofs.StandsLaws.{length-words}
use Rattle.salvage.proofs.KeptLaws.{one, two, three, four, words_are, long-one, long-two}
use Rattle.salvage.proofs.KeptLaws.{long-three, word_count, BoxKept, box-kept}
use Rattle.salvage_safety.specs.Kept.{IsBox, KeptBox}
use Rattle.salvage_safety.proofs.BoxLaws.{box-is-kept}

-- ---- numbers that fit stand where they are read

bytes_take : (k : ℕ) (l : List ℕ) → Below 256 l → Below 256 (take k l)
unfolding Each
bytes_take zero l b = tt
bytes_take (suc k) [] b = tt
bytes_take (suc k) (x ∷ l) b = (b.0, bytes_take k l b.1)

bytes_drop : (k : ℕ) (l : List ℕ) → Below 256 l → Below 256 (drop k l)
unfolding Each
bytes_drop zero l b = b
bytes_drop (suc k) [] b = tt
bytes_drop (suc k) (x ∷ l) b = bytes_drop k l b.1

module _ (src : List ℕ) (bytes : (l : List ℕ) → Below 256 l → Bytes l) (b : Below 256 src) where
  number-here : (k at : ℕ) → at + k ≤ length src → Number k (part src at k) (word_at k src at)
  unfolding word_at
  number-here k at h =
      let l = part src at k in
      let is : word_at k src at ≡ of_le l =
      pick_true (leb (at + k) (length src)) _ _ (le-leb (at + k) (length src) h) in
      subst (λ (m : ℕ). Number m l (word_at k src at)) (length_part at k src h)
      (number l (bytes l (bytes_take k (drop at src) (bytes_drop at src b))) (word_at k src at) is)

  words-here : (k c at : ℕ) → at + c * k ≤ length src
      → Stands (cells k (words_at k c src at)) src at (at + c * k)
      × Below (256 ^ k) (words_at k c src at)
  unfolding words_at chain Each
  words-here k zero at h =
      let e : at ≡ at + zero * k = omega arith in
      (subst (λ (q : ℕ). Stands [] src at q) e (stands-nil src at (omega arith)), tt)
  words-here k (suc c) at h =
      let s : suc c * k ≡ c * k + k = rw suc-mul in
      let n = number-here k at (omega arith) in
      let rest = words-here k c (at + k) (omega arith) in
      let e : at + k + c * k ≡ at + suc c * k = omega arith in (
        subst (λ (q : ℕ). Stands (le k (word_at k src at) ++ cells k (words_at k c src (at + k)))
            src at q) e
            (stands_seq (stands-le k src at (word_at k src at) (omega arith) n) rest.0),
        (n.below, rest.1),
      )

-- as many are proper as there are
lead-all : (rs : List ℕ) → length rs ≤ leading rs → All GoodRecord rs
unfolding leading Each
lead-all [] h = tt
lead-all (r ∷ rs) h = go (lead-all rs) (proper r) refl
  where
    go : (length rs ≤ leading rs → All GoodRecord rs) → (t : Bool) → proper r ≡ t
        → (proper r ≡ true) × All GoodRecord rs
    go more true e =
        let l = pick_true (proper r) (suc (leading rs)) 0 e in
        (e, more (let m : length rs ≤ leading rs = omega arith in m))
    go more false e =
        let l = pick-false (proper r) (suc (leading rs)) 0 e in
        absurd (let no : ⊥ = omega arith in no)

-- what stands behind a splice stays
get_or_past : (a c k : ℕ) (xs ys : List ℕ) → a + c ≤ k → a + c ≤ length xs → length ys ≡ c
    → get_or (splice xs a c ys) k 0 ≡ get_or xs k 0
get_or_past a c k xs ys h l e =
    let z : k ≡ k + 0 = omega arith in
    ap (λ (i : ℕ). get_or (splice xs a c ys) i 0) z
    ∙ sym (get_or-drop k (splice xs a c ys) 0 0)
    ∙ ap (λ (v : List ℕ). get_or v 0 0) (drop_past a c k xs ys h l e)
    ∙ get_or-drop k xs 0 0 ∙ ap (λ (i : ℕ). get_or xs i 0) (sym z)

module _ (n J b : ℕ) (few : n ≤ most_boxes) (body : List ℕ) (bytes : Below 256 body)
    (byte : (l : List ℕ) → Below 256 l → Bytes l) (k : BoxKept n J b body) where
  abbrev at : ℕ
  at = box_head_long n

  abbrev w : List ℕ
  w = four n body few

  abbrev count : ℕ
  count = word_at 4 body (at - 4)

  abbrev rs : List ℕ
  rs = words_at 8 count body at

  room : at ≤ length body
  room = let l = k.long in omega arith

  -- ---- the parts of the words

  part-D : part w 21 1 ≡ words_at 4 1 body (76 + n * 4)
  part-D =
      let l = long-three n body few in
      part-splice 21 1 (three n body few) (words_at 4 1 body (76 + n * 4)) (omega arith)
      (length-words 4 body 1 (76 + n * 4))

  part-C : part w 16 n ≡ words_at 4 n body 76
  part-C =
      let l = long-two n body few in
      let m = long-three n body few in
      part-below 21 1 16 n (three n body few) (words_at 4 1 body (76 + n * 4)) (omega arith)
      (omega arith)
      ∙ part-splice 16 n (two n body few) (words_at 4 n body 76) (omega arith)
      (length-words 4 body n 76)

  part-B : part w 13 3 ≡ words_at 8 3 body 52
  part-B =
      let j = long-one n body few in
      let l = long-two n body few in
      let m = long-three n body few in
      part-below 21 1 13 3 (three n body few) (words_at 4 1 body (76 + n * 4)) (omega arith)
      (omega arith)
      ∙ part-below 16 n 13 3 (two n body few) (words_at 4 n body 76) (omega arith) (omega arith)
      ∙ part-splice 13 3 (one n body few) (words_at 8 3 body 52) (omega arith)
      (length-words 8 body 3 52)

  part-A : part w 0 13 ≡ words_at 4 13 body 0
  part-A =
      let j = long-one n body few in
      let l = long-two n body few in
      let m = long-three n body few in
      part-below 21 1 0 13 (three n body few) (words_at 4 1 body (76 + n * 4)) (omega arith)
      (omega arith)
      ∙ part-below 16 n 0 13 (two n body few) (words_at 4 n body 76) (omega arith) (omega arith)
      ∙ part-below 13 3 0 13 (one n body few) (words_at 8 3 body 52) (omega arith) (omega arith)
      ∙ part-splice 0 13 (replicate 22 unknown) (words_at 4 13 body 0) (omega arith)
      (length-words 4 body 13 0)

  width : length w ≡ head_words
  width =
      let l = long-three n body few in
      length-splice 21 1 (three n body few) (words_at 4 1 body (76 + n * 4)) (omega arith)
      (length-words 4 body 1 (76 + n * 4)) ∙ l

  here-A : Stands (cells 4 (part w 0 13)) body 0 52 × Below (256 ^ 4) (part w 0 13)
  here-A =
      let r = room in
      let s = words-here body byte bytes 4 13 0 (omega arith) in
      (stands_as (ap (cells 4) (sym part-A)) s.0, subst (Below (256 ^ 4)) (sym part-A) s.1)

  here-B : Stands (cells 8 (part w 13 3)) body 52 76 × Below (256 ^ 8) (part w 13 3)
  here-B =
      let r = room in
      let s = words-here body byte bytes 8 3 52 (omega arith) in
      (stands_as (ap (cells 8) (sym part-B)) s.0, subst (Below (256 ^ 8)) (sym part-B) s.1)

  here-C : Stands (cells 4 (part w 16 n)) body 76 (76 + n * 4) × Below (256 ^ 4) (part w 16 n)
  here-C =
      let r = room in
      let s = words-here body byte bytes 4 n 76 (omega arith) in
      (stands_as (ap (cells 4) (sym part-C)) s.0, subst (Below (256 ^ 4)) (sym part-C) s.1)

  here-D : Stands (cells 4 (part w 21 1)) body (76 + n * 4) at × Below (256 ^ 4) (part w 21 1)
  here-D =
      let r = room in
      let s = words-here body byte bytes 4 1 (76 + n * 4) (omega arith) in
      let e : 76 + n * 4 + 1 * 4 ≡ at = omega arith in (
        subst (λ (q : ℕ). Stands (cells 4 (part w 21 1)) body (76 + n * 4) q) e
            (stands_as (ap (cells 4) (sym part-D)) s.0),
        subst (Below (256 ^ 4)) (sym part-D) s.1,
      )

  here_R : Stands (cells 8 rs) body at (length body) × Below (256 ^ 8) rs
  here_R =
      let l = k.long in
      let s = words-here body byte bytes 8 count at (omega arith) in
      let e : at + count * 8 ≡ length body = omega arith in
      (subst (λ (q : ℕ). Stands (cells 8 rs) body at q) e s.0, s.1)

  stands : Stands (groups_bytes (box_groups n) w ++ cells 8 rs) body 0 (length body)
  unfolding groups_bytes chain
  stands =
      stands_seq
      (stands_seq here-A.0
      (stands_seq here-B.0
      (stands_seq here-C.0 (stands_seq here-D.0 (stands-nil body at room)))))
      here_R.0

  -- ---- a word of no group is unknown

  gap : (i : ℕ) → 16 + n ≤ i → i < 21 → get_or w i 0 ≡ unknown
  gap i l h =
      let j = long-one n body few in
      let q = long-two n body few in
      let m = long-three n body few in
      get_or-splice 21 1 i 0 (three n body few) (words_at 4 1 body (76 + n * 4)) (omega arith)
      (omega arith)
      ∙ get_or_past 16 n i (two n body few) (words_at 4 n body 76) l (omega arith)
      (length-words 4 body n 76)
      ∙ get_or_past 13 3 i (one n body few) (words_at 8 3 body 52) (omega arith) (omega arith)
      (length-words 8 body 3 52)
      ∙ get_or_past 0 13 i (replicate 22 unknown) (words_at 4 13 body 0) (omega arith) (omega arith)
      (length-words 4 body 13 0)
      ∙ get_or-replicate 22 i unknown 0 (omega arith)

  none : (i : ℕ) → i < head_words → Outside (box_groups n) i → get_or w i 0 ≡ unknown
  unfolding Each
  none i h o = go (leb (16 + n) i) refl (leb 21 i) refl
    where
      go : (t : Bool) → leb (16 + n) i ≡ t → (u : Bool) → leb 21 i ≡ u → get_or w i 0 ≡ unknown
      go true t true u =
          let a = leb-true 21 i u in
          absurd (o.1.1.1.0 a (let r : i < 21 + 1 = omega arith in r))
      go true t false u = gap i (leb-true (16 + n) i t) (leb-false 21 i u)
      go false t u v = early (leb 13 i) refl (leb 16 i) refl
        where
          early : (c : Bool) → leb 13 i ≡ c → (d : Bool) → leb 16 i ≡ d → get_or w i 0 ≡ unknown
          early false c d e =
              let a = leb-false 13 i c in
              absurd
              (o.0 (let r : 0 ≤ i = omega arith in r) (let r : i < 0 + 13 = omega arith in r))
          early true c false e =
              let a = leb-false 16 i e in
              absurd (o.1.0 (leb-true 13 i c) (let r : i < 13 + 3 = omega arith in r))
          early true c true e =
              let a = leb-false (16 + n) i t in
              absurd (o.1.1.0 (leb-true 16 i e) (let r : i < 16 + n = omega arith in r))

  grouped : GroupedWords (box_groups n) head_words unknown w
  unfolding Each
  grouped = record {
    width = width;
    below = (here-A.1, (here-B.1, (here-C.1, (here-D.1, tt))));
    none = none;
  }

  -- ---- the box

  whole : is_whole (head_fault n J b w) ≡ true
  whole =
      ap (λ (v : List ℕ). is_whole (head_fault n J b v))
      (sym (words_are n body few))
      ∙ ap is_whole k.whole

  counted : length rs ≡ get_or w count_at 0
  counted =
      length-words 8 body count at
      ∙ sym (ap (λ (v : List ℕ). get_or v count_at 0) (sym (words_are n body few))
      ∙ word_count n body few)

  pub is-box : IsBox n J b body
  is-box =
      let x = read-box n J b few w rs in
      let m = length-words 8 body count at in
      let p = k.proper in
      record {
        box = x;
        good = form_of n J b few w rs grouped whole counted (lead-all rs (omega arith));
        bytes =
            box-split n x
            ∙ ap (λ (v : List ℕ). groups_bytes (box_groups n) v ++ cells 8 rs)
            (sym (box-words n J b few w rs grouped whole counted))
            ∙ sym (stands-whole stands);
      }

-- ---- both ways

bytes_of : (l : List ℕ) → Below 256 l → Bytes l
unfolding Each
bytes_of [] b i = omega arith
bytes_of (x ∷ l) b zero = b.0
bytes_of (x ∷ l) b (suc i) = bytes_of l b.1 i

pub kept-box : KeptBox
kept-box = record {
  read = λ n J b few loads body bytes e.
      is-box n J b few body bytes bytes_of (box-kept n J b body (ap is_kept e));
  kept = λ n J b few loads body i.
      ap (box_found n J b) (sym i.bytes) ∙ box-is-kept n J b few loads i.box i.good;
}
