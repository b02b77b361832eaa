-- The laws of a link's words: what they hold, with one mail more or less, and what is not read.
use Prim.Native.Nat.{ℕ, ◌+◌, ◌-◌, ◌*◌, ◌≤◌, ◌<◌}
use mathlib.Core.Path.{◌≡◌, refl, sym, ap, ◌∙◌}
use mathlib.Core.Bool.{Bool, true}
use mathlib.Core.List.{List, [], ◌∷◌, ◌++◌, map}
use native.Mathlib.Omega.{arith}
use lib.ListN.{length, drop, get_or, set, length-drop, length-map}
use lib.Seq.{ext_get_or}
use borrow.Author.Tests.{ltb-true, leb-true, lt-ltb, le-leb}
use Rattle.words.specs.Rows.{part, splice, rows}
use Rattle.words.specs.Ring.{slot, next, previous, ring}
use Rattle.words.proofs.PartLaws.{part-drop, drop-splice, get_or-splice, length-splice}
use Rattle.words.proofs.RowLaws.{row-end, rows_at, rows-splice, length-rows}
use Rattle.words.proofs.RingLaws.{slot_lt, previous_lt, length-ring, ring-at, ring_push, ring_pop}
use Rattle.words.proofs.RingLaws.{ring-front}
use Rattle.rules.specs.Every.{each}
use Rattle.rules.specs.Form.{form_letter}
use Rattle.laws.proofs.Logic.{passed, ◌&◌, none, made}
use Rattle.letter.specs.Place.{letter_at, place_fits, place_form}
use Rattle.link.specs.Link.{place_width, link_width, places, link_of, link_fits, link_form}
use Rattle.link.specs.Holds.{place_start, place_in}
use Rattle.link.proofs.TestLaws.{same_test, each_none, each_map, each_both}

-- where the head's place begins, and its words
abbrev pub head_start : ℕ → List ℕ → ℕ
head_start J r = 2 + get_or r 0 0 * place_width J

abbrev pub head_place : ℕ → List ℕ → List ℕ
head_place J r = part r (head_start J r) (place_width J)

-- the words when the head is gone: the first place is the next one, and one less is counted
abbrev pub after_pop : ℕ → List ℕ → List ℕ
after_pop L r = set (set r 0 (next L (get_or r 0 0))) 1 (get_or r 1 0 - 1)

-- where the place after the last begins, and the words when ys are there and one more is counted
abbrev pub end_start : ℕ → ℕ → List ℕ → ℕ
end_start J L r = place_start J L (get_or r 0 0) (get_or r 1 0)

abbrev pub after_push : ℕ → ℕ → List ℕ → List ℕ → List ℕ
after_push J L r ys = set (splice r (end_start J L r) (place_width J) ys) 1 (get_or r 1 0 + 1)

-- where the place before the first begins, and the words when ys are there and one more is counted,
-- from there on
abbrev pub front_start : ℕ → ℕ → List ℕ → ℕ
front_start J L r = 2 + previous L (get_or r 0 0) * place_width J

abbrev pub after_front : ℕ → ℕ → List ℕ → List ℕ → List ℕ
after_front J L r ys =
    set (set (splice r (front_start J L r) (place_width J) ys) 0 (previous L (get_or r 0 0)))
    1 (get_or r 1 0 + 1)

-- ---- the test of the words

pub record LinkFits (J L : ℕ) (r : List ℕ) : Type 0 where
  pub first : get_or r 0 0 < L
  pub count : get_or r 1 0 ≤ L
  pub held : each (place_fits J) (places J L r) ≡ true

pub fits-says : {J L : ℕ} {r : List ℕ} → link_fits J L r ≡ true → LinkFits J L r
unfolding link_fits
fits-says {J} {L} {r} e =
    let p = passed _ e in
    record {
      first = ltb-true (get_or r 0 0) L p.0;
      count = leb-true (get_or r 1 0) L p.1.0;
      held = p.1.1.0;
    }

pub fits-made : {J L : ℕ} {r : List ℕ} → LinkFits J L r → link_fits J L r ≡ true
unfolding link_fits
fits-made {J} {L} {r} h =
    made
    (lt-ltb (get_or r 0 0) L h.first
    & le-leb (get_or r 1 0) L h.count
    & h.held
    & none)

-- ---- the count

module _ (J L : ℕ) (r : List ℕ) where
  -- As many places are held as the count says.
  pub length-places : length (places J L r) ≡ get_or r 1 0
  unfolding places
  length-places = length-ring [] L (get_or r 0 0) (get_or r 1 0) (rows (place_width J) L (drop 2 r))

  -- As many letters are on the link as the count says.
  pub length-link : length (link_of J L r) ≡ get_or r 1 0
  unfolding link_of
  length-link = length-map (places J L r) letter_at ∙ length-places

-- ---- no mail

module _ (J L : ℕ) (r : List ℕ) (e : get_or r 1 0 ≡ 0) where
  places-none : places J L r ≡ []
  unfolding places ring
  places-none = ap (λ (c : ℕ). ring [] L (get_or r 0 0) c (rows (place_width J) L (drop 2 r))) e

  -- Where the count is 0, no letter is on the link, and its places are not looked at.
  pub link-none : link_of J L r ≡ []
  unfolding link_of
  link-none = ap (map letter_at) places-none

  pub fits-none : get_or r 0 0 < L → link_fits J L r ≡ true
  fits-none first = fits-made (record {
    first = first;
    count = omega arith;
    held = ap (each (place_fits J)) places-none ∙ each_none (place_fits J);
  })

-- ---- two words, and the places behind them

two : (r : List ℕ) → 2 ≤ length r → r ≡ get_or r 0 0 ∷ get_or r 1 0 ∷ drop 2 r
two [] h = absurd (omega arith)
two (s ∷ []) h = absurd (omega arith)
two (s ∷ c ∷ d) h = refl

pub two-set : (r : List ℕ) (s c : ℕ) → 2 ≤ length r → set (set r 0 s) 1 c ≡ s ∷ c ∷ drop 2 r
two-set [] s c h = absurd (omega arith)
two-set (x ∷ []) s c h = absurd (omega arith)
two-set (x ∷ y ∷ d) s c h = refl

module _ (J L s c : ℕ) (d : List ℕ) where
  -- one place less, from the front
  two_pop : s < L → 0 < c
      → places J L (s ∷ c ∷ d)
      ≡ part d (s * place_width J) (place_width J) ∷ places J L (next L s ∷ (c - 1) ∷ d)
  unfolding places
  two_pop first some =
      let rest = places J L (next L s ∷ (c - 1) ∷ d) in
      ring_pop [] L s c (rows (place_width J) L d) some
      ∙ ap (λ (x : List ℕ). x ∷ rest) (rows_at (place_width J) L s d first)

  -- one place more, at the end
  two_push : s < L → c < L → L * place_width J ≤ length d
      → (ys : List ℕ) → length ys ≡ place_width J
      → places J L (s ∷ (c + 1) ∷ splice d (slot L s c * place_width J) (place_width J) ys)
      ≡ places J L (s ∷ c ∷ d) ++ (ys ∷ [])
  unfolding places
  two_push first room long ys e =
      let b : slot L s c < L = slot_lt L s c first (omega arith) in
      let ps = rows (place_width J) L d in
      let l : L ≤ length ps = omega (arith, length-rows (place_width J) L d) in
      ap (ring [] L s (c + 1)) (rows-splice (place_width J) L (slot L s c) d ys b long e)
      ∙ ring_push [] L s c ps ys first room l

  -- one place more, in front
  two-front : s < L → c < L → L * place_width J ≤ length d
      → (ys : List ℕ) → length ys ≡ place_width J
      → places J L
      (previous L s ∷ (c + 1) ∷ splice d (previous L s * place_width J) (place_width J) ys)
      ≡ ys ∷ places J L (s ∷ c ∷ d)
  unfolding places
  two-front first room long ys e =
      let p = previous L s in
      let b : p < L = previous_lt L s first in
      let ps = rows (place_width J) L d in
      let l : L ≤ length ps = omega (arith, length-rows (place_width J) L d) in
      ap (ring [] L p (c + 1)) (rows-splice (place_width J) L p d ys b long e)
      ∙ ring-front [] L s c ps ys first room l

-- ---- what the words hold

module _ (J L : ℕ) (r : List ℕ) (first : get_or r 0 0 < L) where
  -- Place i of those held is the one that is i places on from the first.
  pub place_at : get_or r 1 0 ≤ L → (i : ℕ) → i < get_or r 1 0
      → get_or (places J L r) i [] ≡ place_in J L (get_or r 0 0) i r
  unfolding places
  place_at most i h =
      let w = place_width J in
      let p = slot L (get_or r 0 0) i in
      let b : p < L = slot_lt L (get_or r 0 0) i first (omega arith) in
      ring-at [] L (get_or r 0 0) (get_or r 1 0) i (rows w L (drop 2 r)) first most h
      ∙ rows_at w L p (drop 2 r) b
      ∙ part-drop 2 (p * w) w r

  -- POP: the head's place, and behind it the places when it is gone.
  pub places_pop : 2 ≤ length r → 0 < get_or r 1 0
      → places J L r ≡ head_place J r ∷ places J L (after_pop L r)
  places_pop long some =
      let s = get_or r 0 0 in
      let c = get_or r 1 0 in
      let head = part-drop 2 (s * place_width J) (place_width J) r in
      let rest = sym (two-set r (next L s) (c - 1) long) in
      ap (places J L) (two r long)
      ∙ two_pop J L s c (drop 2 r) first some
      ∙ (λ k. head k ∷ places J L (rest k))

  -- PUSH: the places, and behind them the words that are put in the place after the last.
  pub places_push : get_or r 1 0 < L → link_width J L ≤ length r
      → (ys : List ℕ) → length ys ≡ place_width J
      → places J L (after_push J L r ys) ≡ places J L r ++ (ys ∷ [])
  places_push room long ys e =
      let s = get_or r 0 0 in
      let c = get_or r 1 0 in
      let w = place_width J in
      let p = slot L s c in
      let end : p * w + w ≤ L * w = row-end w (slot_lt L s c first (omega arith)) in
      let t = splice r (2 + p * w) w ys in
      let l : length t ≡ length r = length-splice (2 + p * w) w r ys (omega arith) e in
      let m : L * w ≤ length (drop 2 r) = rw length-drop (omega arith) in
      let same = get_or-splice (2 + p * w) w 0 0 r ys (omega arith) (omega arith) in
      let rest = drop-splice 2 (p * w) w r ys (omega arith) in
      ap (λ (x : List ℕ). places J L (set x 1 (c + 1))) (two t (omega arith))
      ∙ (λ k. places J L (same k ∷ (c + 1) ∷ rest k))
      ∙ two_push J L s c (drop 2 r) first room m ys e
      ∙ ap (λ (x : List ℕ). places J L x ++ (ys ∷ [])) (sym (two r (omega arith)))

  -- FRONT: the words that are put in the place before the first, and behind them the places.
  pub places-front : get_or r 1 0 < L → link_width J L ≤ length r
      → (ys : List ℕ) → length ys ≡ place_width J
      → places J L (after_front J L r ys) ≡ ys ∷ places J L r
  places-front room long ys e =
      let s = get_or r 0 0 in
      let c = get_or r 1 0 in
      let w = place_width J in
      let p = previous L s in
      let end : p * w + w ≤ L * w = row-end w (previous_lt L s first) in
      let t = splice r (2 + p * w) w ys in
      let l : length t ≡ length r = length-splice (2 + p * w) w r ys (omega arith) e in
      let m : L * w ≤ length (drop 2 r) = rw length-drop (omega arith) in
      let rest = drop-splice 2 (p * w) w r ys (omega arith) in
      ap (places J L) (two-set t p (c + 1) (omega arith))
      ∙ ap (λ (x : List ℕ). places J L (p ∷ (c + 1) ∷ x)) rest
      ∙ two-front J L s c (drop 2 r) first room m ys e
      ∙ ap (λ (x : List ℕ). ys ∷ places J L x) (sym (two r (omega arith)))

-- ---- unused room

-- The first place, the count and the places held are the same; all else may differ.
pub record SameHeld (J L : ℕ) (r t : List ℕ) : Type 0 where
  pub first : get_or t 0 0 ≡ get_or r 0 0
  pub count : get_or t 1 0 ≡ get_or r 1 0
  pub held : (i : ℕ) → i < get_or r 1 0
      → place_in J L (get_or r 0 0) i t ≡ place_in J L (get_or r 0 0) i r

module _ {J L : ℕ} {r t : List ℕ} (first : get_or r 0 0 < L) (most : get_or r 1 0 ≤ L)
    (same : SameHeld J L r t) where
  places_same : places J L t ≡ places J L r
  places_same =
      ext_get_or [] (places J L t) (places J L r)
      (length-places J L t ∙ same.count ∙ sym (length-places J L r))
      each_same
    where
      each_same : (i : ℕ) → i < length (places J L t)
          → get_or (places J L t) i [] ≡ get_or (places J L r) i []
      each_same i h =
          let b : i < get_or r 1 0 = omega (arith, length-places J L t, same.count) in
          place_at J L t (rw same.first first) (rw same.count most) i (rw same.count b)
          ∙ ap (λ (s : ℕ). place_in J L s i t) same.first
          ∙ same.held i b
          ∙ sym (place_at J L r first most i b)

  -- So are the letters, and both tests.
  pub link-same : link_of J L t ≡ link_of J L r
  unfolding link_of
  link-same = ap (map letter_at) places_same

  pub fits-same : link_fits J L t ≡ link_fits J L r
  unfolding link_fits
  fits-same = rw (same.first, same.count, places_same)

  pub form-same : link_form J L t ≡ link_form J L r
  unfolding link_form
  form-same = rw (fits-same, link-same)

-- ---- by form

-- Where its two words are in range, a link is by form where each place that it holds is.
pub form-held : (J L : ℕ) (r : List ℕ) → get_or r 0 0 < L → get_or r 1 0 ≤ L
    → link_form J L r ≡ each (place_form J) (places J L r)
unfolding link_form place_form link_of
form-held J L r first most = same_test (link_form J L r) (each (place_form J) ps) says from
  where
    ps : List (List ℕ)
    ps = places J L r

    letter_form : List ℕ → Bool
    letter_form p = form_letter J (letter_at p)

    letters : each (form_letter J) (map letter_at ps) ≡ each letter_form ps
    letters = each_map (form_letter J) letter_at ps

    says : link_form J L r ≡ true → each (place_form J) ps ≡ true
    says e =
        let p = passed _ e in
        let fits : LinkFits J L r = fits-says p.0 in
        each_both (place_fits J) letter_form (place_form J) (λ x f g. made (f & g & none)) ps
        fits.held (sym letters ∙ p.1.0)

    part_of : (q : List ℕ → Bool) → ((x : List ℕ) → place_form J x ≡ true → q x ≡ true)
        → each (place_form J) ps ≡ true → each q ps ≡ true
    part_of q f e = each_both (place_form J) (place_form J) q (λ x p _. f x p) ps e e

    from : each (place_form J) ps ≡ true → link_form J L r ≡ true
    from e =
        let fits = part_of (place_fits J) (λ x p. (passed _ p).0) e in
        made
        (fits-made (record { first = first; count = most; held = fits })
        & letters ∙ part_of letter_form (λ x p. (passed _ p).1.0) e
        & none)
