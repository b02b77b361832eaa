-- The table of contents of the image of a site by form, and a reader that walks it.
use Prim.Native.Nat.{ℕ, zero, suc, ◌+◌, ◌-◌, ◌^◌, ◌≤◌, ◌<◌}
use native.Mathlib.Omega.{arith}
use mathlib.Core.Path.{◌≡◌, refl, sym, ap, ◌∙◌, subst}
use mathlib.Core.Bool.{true, ◌&&◌}
use mathlib.Core.List.{List, [], ◌∷◌, ◌++◌, map}
use lib.Dec.{leb}
use lib.ListN.{length, take, get_or, length-append, length-map, get_or-append}
use lib.Seq.{take_at, get_or_at}
use borrow.Author.Tests.{le-leb, lt-leb, ne_eqb}
use Rattle.rules.specs.Site.{Site, fresh_box}
use Rattle.rules.specs.Form.{form}
use Rattle.rules.specs.declared.model.Refusal.{Refusal}
use Rattle.rules.specs.Sizes.{most_boxes}
use Rattle.laws.proofs.Logic.{and_both}
use Rattle.laws.proofs.FormLaws.{sizes-says}
use Rattle.cells.specs.Cells.{chain, Below}
use Rattle.image.specs.Image.{boxes_of, general_body, box_body, mail_body, bodies, contents}
use Rattle.image.specs.Image.{table_of}
use Rattle.image.specs.Image.{numbers_from, image_of}
use Rattle.image.specs.Longest.{table_bytes, table_long}
use Rattle.image.specs.Parts.{listed, GoodListed}
use Rattle.image.proofs.ListedLaws.{listed-good}
use Rattle.image.proofs.OrderLaws.{length-boxes, boxes-at, map_at}
use Rattle.image.proofs.TableLaws.{length-table, bodies-count, bodies-in}
use Rattle.image.proofs.Short.{table_below}
use Rattle.bodies.specs.Contents.{count_of, begin_of, long_of, body_of, named, asked, after}
use Rattle.bodies.specs.Contents.{most_bodies}
use Rattle.bodies.specs.Walked.{place_after, entry_of, none, Walked, Refused}
use Rattle.bodies.proofs.ContentsLaws.{named_other, named-not, named-is, after-part}
use Rattle.bodies.proofs.ContentsLaws.{after_none}
use Rattle.bodies.proofs.ContentsLaws.{asked-form, asked-named}
use Rattle.bodies.proofs.PartsLaws.{parts-count, parts-begin, parts-body}
use Rattle.bodies.proofs.PartsLaws.{parts-end, parts_next, parts_last, numbered}

-- ---- a reader at a place that stays

stays : (im : List ℕ) (k : ℕ) → after im k ≡ k → (j : ℕ) → place_after im k j ≡ k
unfolding place_after
stays im k e zero = refl
stays im k e (suc j) = ap (λ (p : ℕ). place_after im p j) e ∙ stays im k e j

pub refused : Refused
refused im j =
    let zero-stays : after im 0 ≡ 0 =
    sym (after_none im 0 {why = Refusal.Condition} (named_other im 0 refl)) in
    ap (asked im) (stays im 0 zero-stays j) ∙ sym (asked-form im 0 refl)

-- j turns, and one more
turns : (im : List ℕ) (j k : ℕ) → place_after im k (suc j) ≡ after im (place_after im k j)
unfolding place_after
turns im zero k = refl
turns im (suc j) k = turns im j (after im k)

-- ---- the image of a site by form

module _ (s : Site) (f : form s ≡ true) where
  abbrev bs : List (List ℕ)
  bs = bodies s

  abbrev im : List ℕ
  im = image_of s

  abbrev last : ℕ
  last = s.n + 2

  good : GoodListed (listed s)
  good = listed-good s f

  few : s.n ≤ most_boxes
  unfolding listed
  few = (sizes-says good.sizes).few-boxes

  long : length bs ≡ last
  unfolding listed
  long = ap length (bodies-in s) ∙ bodies-count (listed s) good.boxes.count

  below : Below (256 ^ 4) (length bs ∷ contents (table_bytes (length bs)) bs)
  unfolding listed
  below =
      subst (Below (256 ^ 4))
      (λ i. sym long i ∷ contents (table_bytes (sym long i)) (sym (bodies-in s) i))
      (table_below (listed s) (table_bytes last) good (omega (arith, few)))

  as_parts : im ≡ table_of bs ++ chain (λ b. b) bs
  unfolding image_of
  as_parts = refl

  module _ (k : ℕ) (low : 1 ≤ k) (high : k ≤ last) where
    abbrev i : ℕ
    i = k - 1

    back : i + 1 ≡ k
    back = omega arith

    is_in : i < length bs
    is_in = omega (arith, long)

    body_is : body_of im k ≡ get_or bs (k - 1) []
    unfolding image_of
    body_is = ap (body_of im) (sym back) ∙ parts-body bs below i is_in

    end_is : begin_of im k + long_of im k ≤ length im
    unfolding image_of
    end_is = subst (λ (m : ℕ). begin_of im m + long_of im m ≤ length im) back
        (parts-end bs below i is_in)

  counted : count_of im ≡ last
  unfolding image_of
  counted = parts-count bs below ∙ long

  table_in : table_bytes last ≤ length im
  unfolding image_of
  table_in =
      omega (arith, length-append (table_of bs) (chain (λ b. b) bs), length-table bs, long)

  entry-is : (k : ℕ) → 1 ≤ k → k ≤ last → named im k ≡ entry_of im k
  entry-is k low high =
      named-is im k
      (and_both (le-leb 1 k low) (le-leb k most_bodies (omega (arith, few))))
      (omega (arith, table_in))
      (and_both (le-leb k (count_of im) (omega (arith, counted)))
      (le-leb (begin_of im k + long_of im k) (length im) (end_is k low high)))

  none_more : (k : ℕ) → last < k → named im k ≡ none
  none_more k h =
      named-not im k
      (ap (λ t. t && leb (begin_of im k + long_of im k) (length im))
      (lt-leb k (count_of im) (omega (arith, counted))))

  -- ---- what the parts are

  general-is : body_of im 1 ≡ general_body s
  unfolding bodies
  general-is = body_is 1 (omega arith) (omega arith)

  boxes-long : length (map (box_body s.n) (boxes_of s)) ≡ s.n
  boxes-long = length-map (boxes_of s) (box_body s.n) ∙ length-boxes s

  box-there : (b : ℕ) → 1 ≤ b → b ≤ s.n → get_or bs (suc (b - 1)) [] ≡ box_body s.n (s.box b)
  unfolding bodies
  box-there b low high =
      let back : b - 1 + 1 ≡ b = omega arith in
      let there : b - 1 < length (boxes_of s) = omega (arith, length-boxes s) in
      get_or-append (map (box_body s.n) (boxes_of s)) (mail_body s ∷ []) [] (b - 1)
      (omega (arith, boxes-long))
      ∙ map_at (box_body s.n) (boxes_of s) (b - 1) [] fresh_box there
      ∙ ap (box_body s.n) (boxes-at s (b - 1) fresh_box (omega arith) ∙ ap s.box back)

  box-is : (b : ℕ) → 1 ≤ b → b ≤ s.n → body_of im (b + 1) ≡ box_body s.n (s.box b)
  box-is b low high =
      let at : b + 1 - 1 ≡ suc (b - 1) = omega arith in
      body_is (b + 1) (omega arith) (omega arith) ∙ ap (λ (k : ℕ). get_or bs k []) at
      ∙ box-there b low high

  mail-is : body_of im last ≡ mail_body s
  unfolding bodies
  mail-is =
      let boxes = map (box_body s.n) (boxes_of s) in
      let at : last - 1 ≡ suc s.n = omega arith in
      body_is last (omega arith) (omega arith) ∙ ap (λ (k : ℕ). get_or bs k []) at
      ∙ get_or_at boxes (mail_body s) [] [] s.n boxes-long

  -- ---- their places

  first-is : begin_of im 1 ≡ table_long s.n
  unfolding image_of chain
  first-is =
      parts-begin bs below 0 (omega (arith, long)) ∙ omega (arith, long)

  next-is : (k : ℕ) → 1 ≤ k → k < last → begin_of im (k + 1) ≡ begin_of im k + long_of im k
  unfolding image_of
  next-is k low high =
      let back : k - 1 + 1 ≡ k = omega arith in
      let two : k - 1 + 2 ≡ k + 1 = omega arith in
      ap (begin_of im) (sym two) ∙ parts_next bs below (k - 1) (omega (arith, long))
      ∙ ap (λ (m : ℕ). begin_of im m + long_of im m) back

  end-all : begin_of im last + long_of im last ≡ length im
  unfolding image_of
  end-all =
      let back : s.n + 1 + 1 ≡ last = omega arith in
      ap (λ (m : ℕ). begin_of im m + long_of im m) (sym back)
      ∙ parts_last bs below (s.n + 1) (omega (arith, long))

  whole_is : take (table_long s.n) im ++ chain (body_of im) (numbers_from 1 last) ≡ im
  unfolding image_of
  whole_is =
      let table = take_at (table_of bs) (chain (λ b. b) bs) (table_long s.n)
      (length-table bs ∙ omega (arith, long)) in
      let rest = numbered (body_of im) 1 bs (λ i h.
      let one : 1 + i ≡ i + 1 = omega arith in
      ap (body_of im) one ∙ parts-body bs below i h) in
      (λ j. table j ++ (ap (λ (m : ℕ). chain (body_of im) (numbers_from 1 m)) (sym long) ∙ rest) j)

  -- ---- a reader

  next_place : (k : ℕ) → 1 ≤ k → k ≤ last → after im k ≡ k + 1
  next_place k low high = sym (after-part im k (entry-is k low high))

  places_are : (j : ℕ) → j ≤ last → place_after im 1 j ≡ j + 1
  unfolding place_after
  places_are zero h = refl
  places_are (suc j) h =
      turns im j 1 ∙ ap (after im) (places_are j (omega arith))
      ∙ next_place (j + 1) (omega arith) (omega arith) ∙ omega arith

  handed-is : (j : ℕ) → j < last → asked im (place_after im 1 j) ≡ entry_of im (j + 1)
  handed-is j h =
      ap (asked im) (places_are j (omega arith))
      ∙ sym (asked-named im (j + 1) (ne_eqb (j + 1) 0 (λ e. omega arith))
      (sym (entry-is (j + 1) (omega arith) (omega arith))))

  -- behind the last
  behind : (d : ℕ) → place_after im 1 (last + d) ≡ last + 1
  behind zero = ap (place_after im 1) (let e : last + 0 ≡ last = omega arith in e) ∙ places_are last
      (omega arith)
  behind (suc d) =
      ap (place_after im 1) (let e : last + suc d ≡ suc (last + d) = omega arith in e)
      ∙ turns im (last + d) 1 ∙ ap (after im) (behind d)
      ∙ sym (after_none im (last + 1) (none_more (last + 1) (omega arith)))

  ended_is : (j : ℕ) → last ≤ j → asked im (place_after im 1 j) ≡ none
  ended_is j h =
      let d : j ≡ last + (j - last) = omega arith in
      ap (λ (m : ℕ). asked im (place_after im 1 m)) d ∙ ap (asked im) (behind (j - last))
      ∙ sym (asked-named im (last + 1) (ne_eqb (last + 1) 0 (λ e. omega arith))
      (sym (none_more (last + 1) (omega arith))))

  pub walked : Walked s
  walked = record {
    count = counted;
    is = entry-is;
    no-first = named_other im 0 refl;
    no_more = none_more;
    general = general-is;
    box = box-is;
    mail = mail-is;
    first = first-is;
    next = next-is;
    end = end-all;
    whole = whole_is;
    places = places_are;
    handed = handed-is;
    ended = ended_is;
  }
