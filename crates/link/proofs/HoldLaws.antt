-- What the functions of a link have computed is what they say that the link's words hold.
use Prim.Native.Nat.{ℕ, ◌+◌, ◌-◌, ◌*◌, ◌≤◌, ◌<◌}
use mathlib.Core.Path.{◌≡◌, refl, sym, ap, ◌∙◌}
use mathlib.Core.Bool.{true}
use mathlib.Core.List.{List, [], ◌∷◌, ◌++◌, map, map-append, tail}
use native.Mathlib.Nat.{mul-le-mul, add-sub_cancel_left}
use native.Mathlib.Omega.{arith}
use lib.ListN.{length, take, drop, get_or, set, length-drop, length-set}
use lib.Seq.{get_or-set_same, get_or-set_other}
use Rattle.words.specs.Rows.{splice}
use Rattle.words.specs.Ring.{next}
use Rattle.words.proofs.PartLaws.{get_or-splice, length-splice, length_cut}
use Rattle.words.proofs.RowLaws.{row-end}
use Rattle.words.proofs.RingLaws.{slot-zero, slot_lt, next_lt}
use Rattle.rules.specs.Every.{each}
use Rattle.rules.specs.Sizes.{most_loads, most_mails}
use Rattle.rules.specs.Box.{Letter, letter_of}
use Rattle.rules.specs.declared.model.Mail.{Mail}
use Rattle.laws.proofs.Logic.{and_yes}
use Rattle.letter.specs.Place.{letter_at, place_fits, place_form}
use Rattle.letter.specs.Lent.{Enclosed}
use Rattle.link.specs.Link.{place_width, link_width, places, link_of, link_fits, link_form}
use Rattle.link.specs.Holds.{place_start, LinkSizes, LinkWords, ReadableLink, Holds, HeadAt}
use Rattle.link.proofs.TestLaws.{each-cons, each_snoc}
use Rattle.link.proofs.LinkLaws.{head_start, head_place, after_pop, end_start, after_push}
use Rattle.link.proofs.LinkLaws.{fits-says, fits-made, length-link, two-set}
use Rattle.link.proofs.LinkLaws.{link-none, fits-none, places_pop, places_push, form-held}

-- the one product of a link's sizes
pub places-most : {J L : ℕ} → LinkSizes J L
    → L * place_width J ≤ most_mails * place_width most_loads
places-most h =
    mul-le-mul {n₂ = most_mails} {m₂ = place_width most_loads} h.few-mails (omega arith)

-- what a link that can be read gives a proof
module _ {J L : ℕ} {r : List ℕ} (ok : ReadableLink J L r) where
  pub first_below : get_or r 0 0 < L
  first_below = (fits-says ok.fits).first

  pub count_most : get_or r 1 0 ≤ L
  count_most = (fits-says ok.fits).count

  -- The place after the last ends within the link.
  end-inside : end_start J L r + place_width J ≤ length r
  end-inside =
      let p = slot_lt L (get_or r 0 0) (get_or r 1 0) first_below count_most in
      omega (arith, ok.words.width, row-end (place_width J) p)

-- ---- head and pop

module _ (J L : ℕ) (r : List ℕ) (ok : ReadableLink J L r) (some : 0 < length (link_of J L r)) where
  held : places J L r ≡ head_place J r ∷ places J L (after_pop L r)
  held =
      places_pop J L r (first_below ok)
      (omega (arith, ok.words.width)) (omega (arith, length-link J L r))

  -- POP: the head's letter, and behind it the letters when it is gone.
  pub link_pop : link_of J L r ≡ letter_at (head_place J r) ∷ link_of J L (after_pop L r)
  unfolding link_of
  link_pop = ap (map letter_at) held

  -- The head's place can be read, and so can those behind it.
  each_fits : (place_fits J (head_place J r) ≡ true)
      × (each (place_fits J) (places J L (after_pop L r)) ≡ true)
  each_fits = and_yes _ _ (rw (held, each-cons (place_fits J)) at (fits-says ok.fits).held)

  pub fits_pop : link_fits J L (after_pop L r) ≡ true
  fits_pop =
      let s = next L (get_or r 0 0) in
      let two = two-set r s (get_or r 1 0 - 1) (omega (arith, ok.words.width)) in
      fits-made (record {
        first = rw two (next_lt L (get_or r 0 0) (first_below ok));
        count = rw two (omega (arith, count_most ok));
        held = each_fits.1;
      })

  -- The head's place is by form where the link is.
  pub form-head : link_form J L r ≡ true → place_form J (head_place J r) ≡ true
  form-head f =
      let each-form = form-held J L r (first_below ok) (count_most ok) in
      (and_yes _ _ (rw (each-form, held, each-cons (place_form J)) at f)).0

  pub head_done : (a s : ℕ) → s ≡ get_or r 0 0 → a ≡ place_start J L s 0
      → a + place_width J ≤ link_width J L → HeadAt J L r a
  head_done a s es ea end =
      let w = place_width J in
      let zero-on = slot-zero L (get_or r 0 0) (first_below ok) in
      let here : a ≡ head_start J r =
      ea ∙ ap (λ (x : ℕ). place_start J L x 0) es ∙ ap (λ (p : ℕ). 2 + p * w) zero-on in
      let rest = ap (λ (l : List Letter). letter_at (head_place J r) ∷ tail l) (sym link_pop) in
      record {
        inside = end;
        letters = rw here (link_pop ∙ rest);
        fits = rw here each_fits.0;
        form = rw here form-head;
      }

  pub pop_done : (s c t v : ℕ) → s ≡ get_or r 0 0 → c ≡ get_or r 1 0 → t ≡ next L s → v ≡ c - 1
      → Holds J L (set (set r 0 t) 1 v) (tail (link_of J L r))
  pop_done s c t v es ec et ev =
      rw (ev, ec, et, es) (record {
        letters = sym (ap tail link_pop);
        fits = fits_pop;
        width = simp length-set ok.words.width;
      })

-- ---- push

module _ (J L : ℕ) (r : List ℕ) (ok : ReadableLink J L r) (room : get_or r 1 0 < L)
    (ys : List ℕ) (e : length ys ≡ place_width J) where
  filled : places J L (after_push J L r ys) ≡ places J L r ++ (ys ∷ [])
  filled = places_push J L r (first_below ok) room (omega (arith, ok.words.width)) ys e

  length_push : length (splice r (end_start J L r) (place_width J) ys) ≡ length r
  length_push = length-splice (end_start J L r) (place_width J) r ys (end-inside ok) e

  -- PUSH: the letters, and behind them the letter that is put in the place after the last.
  pub link_push : link_of J L (after_push J L r ys) ≡ link_of J L r ++ (letter_at ys ∷ [])
  unfolding link_of
  link_push = ap (map letter_at) filled ∙ map-append letter_at (places J L r) (ys ∷ [])

  pub fits_push : place_fits J ys ≡ true → link_fits J L (after_push J L r ys) ≡ true
  fits_push f =
      let a = end_start J L r in
      let c = get_or r 1 0 + 1 in
      let t = splice r a (place_width J) ys in
      let inside = end-inside ok in
      let same = get_or-splice a (place_width J) 0 0 r ys (omega arith) (omega arith) in
      let first = get_or-set_other t 1 0 c 0 (omega arith) ∙ same in
      let count = get_or-set_same t 1 c 0 (omega (arith, length_push)) in
      fits-made (record {
        first = rw first (first_below ok);
        count = rw count (omega arith);
        held = rw filled
            (each_snoc (place_fits J) (places J L r) ys (fits-says ok.fits).held f);
      })

pub push_done : (J L : ℕ) (r : List ℕ) → ReadableLink J L r → length (link_of J L r) < L
    → (m : Mail) (rs ys : List ℕ) (s c a v : ℕ) → s ≡ get_or r 0 0 → c ≡ get_or r 1 0
    → a ≡ place_start J L s c → v ≡ c + 1
    → Enclosed (take (a + place_width J - a) (drop a r)) m rs ys
    → Holds J L (set (splice r a (a + place_width J - a) ys) 1 v)
    (link_of J L r ++ (letter_of m rs ∷ []))
push_done J L r ok few m rs ys s c a v es ec ea ev put =
    let w = place_width J in
    let room : get_or r 1 0 < L = omega (arith, length-link J L r) in
    let here : a ≡ end_start J L r = ea ∙ (λ k. place_start J L (es k) (ec k)) in
    let cut : length (take (a + w - a) (drop a r)) ≡ w =
    length_cut a w r (rw here (end-inside ok)) in
    let e : length ys ≡ w = put.words ∙ cut in
    let last = ap (λ (y : Letter). link_of J L r ++ (y ∷ [])) put.letter in
    rw (add-sub_cancel_left, here, ev, ec) (record {
      letters = link_push J L r ok room ys e ∙ last;
      fits = fits_push J L r ok room ys e (put.fits J cut);
      width = simp length-set (length_push J L r ok room ys e ∙ ok.words.width);
    })

-- ---- clear

pub clear-done : (J L : ℕ) (r : List ℕ) → LinkWords J L r → Holds J L (set (set r 0 0) 1 0) []
clear-done J L r ok =
    let t : List ℕ = 0 ∷ 0 ∷ drop 2 r in
    rw (two-set r 0 0 (omega (arith, ok.width))) (record {
      letters = link-none J L t refl;
      fits = fits-none J L t refl ok.sizes.some-mails;
      width = omega (arith, length-drop 2 r, ok.width);
    })
