-- What is known of a box's body that is kept: its words, its count, its length; so that the boxes
-- of an image keep no more records than it has room for.
use mathlib.Core.Path.{◌≡◌, refl, sym, ap, ◌∙◌}
use mathlib.Core.Bool.{Bool, true, false, false≢true}
use Prim.Native.Nat.{ℕ, zero, suc, ◌+◌, ◌-◌, ◌*◌, ◌≤◌, ◌<◌}
use native.Mathlib.Omega.{arith}
use mathlib.Core.List.{List}
use lib.Dec.{leb, eqb}
use lib.ListN.{length, get_or, replicate}
use borrow.Author.Tests.{leb-true, eqb-true}
use Rattle.words.specs.Rows.{splice}
use Rattle.words.proofs.PartLaws.{length_part, get_or_part, get_or-splice, length-splice}
use Rattle.words.proofs.PartLaws.{part-splice}
use Rattle.rules.specs.Every.{all}
use Rattle.rules.specs.Sizes.{most_boxes, unknown}
use Rattle.rules.proofs.BoundLaws.{first-of}
use Rattle.std.specs.Prelude.{Option, Some, None, Ok}
use Rattle.values.specs.declared.Field.{Field}
use Rattle.values.specs.Counts.{held_count, agreed_count, full_count}
use Rattle.values.proofs.FaultLaws.{then-passed}
use Rattle.values.proofs.CountLaws.{either-of, count-says, full-says}
use Rattle.row.specs.Row.{first_at, last_at, count_at}
use Rattle.row.specs.Faults.{head_fault, number_tests, value_tests, peer_tests, count_test}
use Rattle.image.specs.Longest.{box_head_long, table_bytes}
use Rattle.bodies.specs.Contents.{count_of, begin_of, long_of}
use Rattle.found.specs.declared.Spot.{Spot}
use Rattle.found.specs.Stands.{word_at, words_at, groups_in}
use Rattle.found.specs.Found.{is_kept, leading, first_in, box_words_in, records_found, held_found}
use Rattle.found.specs.Found.{head_found, box_found}
use Rattle.found.proofs.StandsLaws.{length-words}
use Rattle.found.proofs.FoundLaws.{unless-kept}
use Rattle.salvage.specs.Table.{sound, boxes_in, box_body_of}
use Rattle.salvage.specs.Loads.{last_in}
use Rattle.salvage.specs.Tally.{flagged}
use Rattle.salvage.specs.Put.{LoadsFit}
use Rattle.salvage.proofs.TableLaws.{sound-is, longs_of, follow-sum, body-inside}
use Rattle.salvage.proofs.LinesLaws.{rem_of, lefts_of}

-- ---- the words of a head

module _ (n : ℕ) (body : List ℕ) (few : n ≤ most_boxes) where
  abbrev pub one : List ℕ
  one = splice (replicate 22 unknown) 0 13 (words_at 4 13 body 0)

  abbrev pub two : List ℕ
  two = splice one 13 3 (words_at 8 3 body 52)

  abbrev pub three : List ℕ
  three = splice two 16 n (words_at 4 n body 76)

  abbrev pub four : List ℕ
  four = splice three 21 1 (words_at 4 1 body (76 + n * 4))

  pub words_are : box_words_in n body ≡ four
  unfolding groups_in
  words_are = refl

  pub long-one : length one ≡ 22
  unfolding words_at
  long-one = refl

  pub long-two : length two ≡ 22
  long-two =
      let l = long-one in
      length-splice 13 3 one (words_at 8 3 body 52) (omega arith) (length-words 8 body 3 52) ∙ l

  pub long-three : length three ≡ 22
  long-three =
      let l = long-two in
      length-splice 16 n two (words_at 4 n body 76) (omega arith) (length-words 4 body n 76) ∙ l

  early : (i : ℕ) → i < 13 → get_or (box_words_in n body) i 0 ≡ get_or one i 0
  early i h =
      let a = long-one in
      let b = long-two in
      let c = long-three in
      ap (λ (w : List ℕ). get_or w i 0) words_are
      ∙ get_or-splice 21 1 i 0 three (words_at 4 1 body (76 + n * 4)) (omega arith) (omega arith)
      ∙ get_or-splice 16 n i 0 two (words_at 4 n body 76) (omega arith) (omega arith)
      ∙ get_or-splice 13 3 i 0 one (words_at 8 3 body 52) (omega arith) (omega arith)

  pub word_first : get_or (box_words_in n body) first_at 0 ≡ first_in body
  unfolding words_at
  word_first = early first_at (omega arith)

  pub word-last : get_or (box_words_in n body) last_at 0 ≡ last_in body
  unfolding words_at
  word-last = early last_at (omega arith)

  pub word_count : get_or (box_words_in n body) count_at 0 ≡ word_at 4 body (box_head_long n - 4)
  unfolding words_at
  word_count =
      let c = long-three in
      let ws = words_at 4 1 body (76 + n * 4) in
      let place : 76 + n * 4 ≡ box_head_long n - 4 = omega arith in
      ap (λ (w : List ℕ). get_or w count_at 0) words_are
      ∙ sym (get_or_part 21 1 0 0 four (omega arith))
      ∙ ap (λ (l : List ℕ). get_or l 0 0)
      (part-splice 21 1 three ws (omega arith) (length-words 4 body 1 (76 + n * 4)))
      ∙ ap (word_at 4 body) place

-- ---- a box that is kept

module _ (n J b : ℕ) (body : List ℕ) where
  abbrev at : ℕ
  at = box_head_long n

  abbrev count : ℕ
  count = word_at 4 body (at - 4)

  abbrev fault : Option Field
  fault = head_fault n J b (box_words_in n body)

  pub record BoxKept : Type 0 where
    pub whole : fault ≡ None
    pub proper : count ≤ leading (words_at 8 count body at)
    pub long : at + 8 * count ≡ length body

  head-kept : (f : Option Field) → is_kept (head_found f (held_found body at)) ≡ true
      → (f ≡ None) × (is_kept (held_found body at) ≡ true)
  head-kept None e = (refl, e)
  head-kept (Some x) e = absurd (false≢true e)

  pub box-kept : is_kept (box_found n J b body) ≡ true → BoxKept
  unfolding box_found held_found records_found
  box-kept e =
      let h = head-kept fault e in
      let m = leading (words_at 8 count body at) in
      let r = unless-kept (leb count m) (Spot.Record (first_in body + m)) _ h.1 in
      let l = unless-kept (eqb (at + 8 * count) (length body)) Spot.Rest (Ok tt) r.1 in
      record {
        whole = h.0;
        proper = leb-true count m r.0;
        long = eqb-true (at + 8 * count) (length body) l.0;
      }

  pub count_held : n ≤ most_boxes → BoxKept
      → held_count J (first_in body) (last_in body) count ≡ true
  unfolding head_fault all
  count_held few k =
      let w = box_words_in n body in
      let a = then-passed (number_tests w) _ k.whole in
      let c = then-passed (value_tests n w) _ a.1 in
      let d = then-passed (peer_tests n b w) _ c.1 in
      let f = then-passed (count_test J w) None d.1 in
      let t : held_count J (get_or w first_at 0) (get_or w last_at 0) (get_or w count_at 0) ≡ true =
      first-of (held_count J (get_or w first_at 0) (get_or w last_at 0) (get_or w count_at 0)) _
      f.0 in
      sym (λ i. held_count J (word_first n body few i) (word-last n body few i)
      (word_count n body few i)) ∙ t

  pub agreed-few : n ≤ most_boxes → BoxKept → last_in body + 1 - first_in body ≤ count
  agreed-few few k =
      either-of (agreed_count J (first_in body) (last_in body) count)
      (full_count J (first_in body) (last_in body) count) (count_held few k)
      (λ t.
      let s = (count-says J (first_in body) (last_in body) 0 count t).sum in
      let r : last_in body + 1 - first_in body ≤ count = omega arith in r)
      (λ t.
      let s = (full-says J (first_in body) (last_in body) count t).0.sum in
      let r : last_in body + 1 - first_in body ≤ count = omega arith in r)

  pub rem_room : n ≤ most_boxes → (t : Bool) → t ≡ is_kept (box_found n J b body)
      → 8 * rem_of t body 1 ≤ length body
  rem_room few true e =
      let k = box-kept (sym e) in
      let a = agreed-few few k in
      let l = k.long in
      omega arith
  rem_room few false e = omega arith

-- ---- all boxes

module _ (im : List ℕ) (n J : ℕ) (f : ℕ → Bool) (few : n ≤ most_boxes)
    (is : (b : ℕ) → 1 ≤ b → b ≤ n → f b ≡ is_kept (box_found n J b (box_body_of im b)))
    (inside : (b : ℕ) → 1 ≤ b → b ≤ n → length (box_body_of im b) ≡ long_of im (b + 1)) where
  lefts_room : (m b : ℕ) → 1 ≤ b → b + m ≤ n + 1
      → 8 * lefts_of f im m b 1 ≤ longs_of im m (suc b)
  unfolding lefts_of longs_of
  lefts_room zero b l h = omega arith
  lefts_room (suc m) b l h =
      let a = rem_room n J b (box_body_of im b) few (f b) (is b l (omega arith)) in
      let c = inside b l (omega arith) in
      let one : b + 1 ≡ suc b = omega arith in
      let d = ap (long_of im) one in
      let e = lefts_room m (suc b) (omega arith) (omega arith) in
      omega arith

longs-more : (im : List ℕ) (m k : ℕ) → longs_of im m k ≤ longs_of im (suc m) k
unfolding longs_of
longs-more im zero k = omega arith
longs-more im (suc m) k = let e = longs-more im m (suc k) in omega arith

pub loads-few : (im : List ℕ) (n J : ℕ) (f : ℕ → Bool) → sound im ≡ true → n ≡ boxes_in im
    → n ≤ most_boxes
    → ((b : ℕ) → 1 ≤ b → b ≤ n → f b ≡ is_kept (box_found n J b (box_body_of im b)))
    → lefts_of f im n 1 1 ≤ 8192
unfolding longs_of
loads-few im n J f sure e few is =
    let s = sound-is im sure in
    let least = s.least in
    let short = s.short in
    let sum = follow-sum im (count_of im) 1 (table_bytes (count_of im)) s.follows in
    let count : count_of im ≡ suc (suc n) = omega arith in
    let all = ap (λ (m : ℕ). longs_of im m 1) count in
    let more = longs-more im n 2 in
    let room = lefts_room im n J f few is
    (λ b l h. length_part (begin_of im (b + 1)) (long_of im (b + 1)) im
    (body-inside im sure (b + 1) (omega arith) (omega arith))) n 1 (omega arith) (omega arith) in
    omega arith

-- so many lines the loads of an image have at most
pub fit-few : {im : List ℕ} {n : ℕ} {ks : List ℕ} → LoadsFit im n ks
    → lefts_of (flagged ks) im n 1 1 ≤ 8192
fit-few {im} {n} {ks} w =
    let t = w.table in
    loads-few im n w.loads (flagged ks) t.table t.boxes t.few w.flags.each
