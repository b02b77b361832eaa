-- A link whose head stands twice: its words are put in the place before the first.
use Prim.Native.Nat.{ℕ, ◌+◌, ◌*◌, ◌≤◌, ◌<◌}
use mathlib.Core.Path.{◌≡◌, sym, ap, ◌∙◌}
use mathlib.Core.Bool.{true}
use mathlib.Core.List.{List, ◌∷◌, map}
use native.Mathlib.Omega.{arith}
use lib.ListN.{length, get_or, set, length-set}
use borrow.Author.Tests.{leb-true}
use Rattle.words.specs.Rows.{part, splice}
use Rattle.words.specs.Ring.{previous}
use Rattle.words.proofs.PartLaws.{get_or_part, length-splice}
use Rattle.words.proofs.PartLaws.{begun, splice-begun, length-begun, take-begun}
use Rattle.words.proofs.RowLaws.{row-end}
use Rattle.words.proofs.RingLaws.{slot-zero, previous_lt}
use Rattle.rules.specs.Box.{Letter}
use Rattle.rules.specs.Site.{twice}
use Rattle.laws.proofs.Logic.{passed, and_both}
use Rattle.letter.specs.Place.{letter_at, place_fits, head_words, count_at}
use Rattle.letter.proofs.CopyLaws.{copied_letter, copied_fits}
use Rattle.link.specs.Link.{place_width, places, link_of, link_fits}
use Rattle.link.specs.Holds.{place_start, ReadableLink, Holds, HeadAt}
use Rattle.link.proofs.TestLaws.{each-cons}
use Rattle.link.proofs.LinkLaws.{front_start, after_front, places-front}
use Rattle.link.proofs.LinkLaws.{fits-says, fits-made, length-link, two-set}
use Rattle.link.proofs.HoldLaws.{first_below}

-- ---- one mail more, in front

module _ (J L : ℕ) (r : List ℕ) (ok : ReadableLink J L r) (room : get_or r 1 0 < L) where
  -- The place before the first ends within the link.
  front-inside : front_start J L r + place_width J ≤ length r
  front-inside =
      let p = previous_lt L (get_or r 0 0) (first_below ok) in
      omega (arith, ok.words.width, row-end (place_width J) p)

  module _ (ys : List ℕ) (e : length ys ≡ place_width J) where
    fronted : places J L (after_front J L r ys) ≡ ys ∷ places J L r
    fronted = places-front J L r (first_below ok) room (omega (arith, ok.words.width)) ys e

    length_front : length (splice r (front_start J L r) (place_width J) ys) ≡ length r
    length_front = length-splice (front_start J L r) (place_width J) r ys front-inside e

    -- FRONT: the letter that is put in the place before the first, and behind it the letters.
    link-front : link_of J L (after_front J L r ys) ≡ letter_at ys ∷ link_of J L r
    unfolding link_of
    link-front = ap (map letter_at) fronted

    fits-front : place_fits J ys ≡ true → link_fits J L (after_front J L r ys) ≡ true
    fits-front f =
        let t = splice r (front_start J L r) (place_width J) ys in
        let two = two-set t (previous L (get_or r 0 0)) (get_or r 1 0 + 1)
        (omega (arith, length_front, ok.words.width)) in
        fits-made (record {
          first = rw two (previous_lt L (get_or r 0 0) (first_below ok));
          count = rw two (omega arith);
          held = rw (fronted, each-cons (place_fits J))
              (and_both f (fits-says ok.fits).held);
        })

-- ---- the head's words

twice-head {ℓ} : {A : Type ℓ} {y : A} {ys l : List A} → l ≡ y ∷ ys → twice l ≡ y ∷ l
unfolding twice
twice-head {A = A} {y} {ys} {l} e = ap twice e ∙ ap (λ (k : List A). y ∷ k) (sym e)

-- The head's records have room.
pub head-count : {J L a : ℕ} {r : List ℕ} → HeadAt J L r a → get_or r (a + count_at) 0 ≤ J
unfolding place_fits
head-count {J} {L} {a} {r} at =
    let p = part r a (place_width J) in
    let few = leb-true (get_or p count_at 0) J (passed _ at.fits).1.0 in
    omega (arith, get_or_part a (place_width J) count_at 0 r (omega arith))

-- a is where the head's place begins, and the code's other numbers are those of the words
module _ {J L a : ℕ} {r : List ℕ} (ok : ReadableLink J L r) (at : HeadAt J L r a)
    (few : length (link_of J L r) < L) {s c b p x : ℕ} (es : s ≡ get_or r 0 0) (ec : c
    ≡ get_or r 1 0)
    (eb : b ≡ previous L s) (ep : p ≡ place_start J L b 0) (ex : x
    ≡ get_or r (a + count_at) 0) where
  front_at : p ≡ front_start J L r
  front_at =
      let w = place_width J in
      let q = previous_lt L (get_or r 0 0) (first_below ok) in
      ep
      ∙ ap (λ (v : ℕ). place_start J L v 0) (eb ∙ ap (previous L) es)
      ∙ ap (λ (v : ℕ). 2 + v * w) (slot-zero L (previous L (get_or r 0 0)) q)

  held-words : head_words + x ≡ head_words + get_or (part r a (place_width J)) count_at 0
  held-words =
      ap (λ (v : ℕ). head_words + v)
      (ex ∙ sym (get_or_part a (place_width J) count_at 0 r (omega arith)))

  pub double_done : Holds J L
      (set (set (splice r p (head_words + x) (part r a (head_words + x))) 0 b) 1 (c + 1))
      (twice (link_of J L r))
  double_done =
      let w = place_width J in
      let n = head_words + x in
      let f = front_start J L r in
      let room : get_or r 1 0 < L = omega (arith, length-link J L r) in
      let inside = front-inside J L r ok room in
      let short : n ≤ w = omega (arith, head-count at) in
      let end : a + w ≤ length r = omega (arith, at.inside, ok.words.width) in
      let ys = begun a f n w r short inside in
      let long = length-begun a f n w r short inside end in
      let same = take-begun a f n w r short inside end in
      let letter = copied_letter (part r a w) ys n held-words same in
      let fits = copied_fits (part r a w) ys n held-words same J in
      rw (front_at, splice-begun a f n w r short inside, eb, es, ec) (record {
        letters = link-front J L r ok room ys long
            ∙ ap (λ (y : Letter). y ∷ link_of J L r) letter
            ∙ sym (twice-head at.letters);
        fits = fits-front J L r ok room ys long (fits ∙ at.fits);
        width = simp length-set (length_front J L r ok room ys long ∙ ok.words.width);
      })
