-- What the form of a letter's words says, and of a place: the words first, then the records.
use mathlib.Core.Path.{◌≡◌, refl, sym, ap, ◌∙◌}
use mathlib.Core.Bool.{Bool, true, false, ◌&&◌, ◌||◌, and-true}
use mathlib.Core.List.{List}
use Prim.Native.Nat.{ℕ, ◌+◌, ◌≤◌}
use native.Mathlib.Omega.{arith}
use lib.Dec.{leb, ltb, eqb}
use lib.ListN.{length, get_or}
use borrow.Author.Tests.{leb-true, ltb-true, eqb-true, le-leb, eq-eqb}
use Rattle.words.proofs.PartLaws.{length_part}
use Rattle.rules.specs.Every.{all, each}
use Rattle.rules.specs.Sizes.{most_number, most_pn, within, proper}
use Rattle.rules.specs.Form.{bare, first_form, count_form, form_kind, form_letter}
use Rattle.rules.specs.declared.model.Kind.{Kind}
use Rattle.rules.proofs.BoundLaws.{first-of, second-of}
use Rattle.values.specs.Counts.{agreed_count, full_count, held_count}
use Rattle.values.specs.Faults.{fault_then, is_whole}
use Rattle.std.specs.Prelude.{None}
use Rattle.values.specs.declared.Field.{Field}
use Rattle.values.proofs.AllLaws.{all-at}
use Rattle.values.proofs.CountLaws.{either-of, either_first, either_second, first_says}
use Rattle.values.proofs.CountLaws.{count-says, count-made, full-says, held-room, held-form}
use Rattle.values.proofs.FaultLaws.{then-passed}
use Rattle.letter.specs.Place.{kind_of, mail_at, letter_at, place_fits, place_form, most_kind}
use Rattle.letter.specs.Place.{kind_at, pn_at, last_at, first_at, unagreed_at, count_at, head_words}
use Rattle.letter.specs.Lent.{PlaceSized, PlaceReadable, Numbered}
use Rattle.letter.specs.Faults.{pn_fits, last_fits, first_fits, unagreed_fits, count_fits}
use Rattle.letter.specs.Faults.{head_fault}

-- ---- a kind's own rules

both_true : {a b : Bool} → a ≡ true → b ≡ true → (a && b) ≡ true
both_true p q = rw (p, q)

-- what the form of a letter of kind k asks of its numbers
pub record KindSays (k : Kind) (J p l f u c : ℕ) : Type 0 where
  pub form : form_kind k J p l f u c ≡ true
  pub pn : p ≤ most_pn
  pub last : l ≤ most_number
  pub first : f ≤ l + 1
  pub unagreed : u ≤ most_pn
  pub count : c ≤ J

module _ (J pn last first unagreed count : ℕ) where
  none_said : {b : ℕ} → eqb b 0 ≡ true → b ≤ most_pn
  none_said {b} e = let z = eqb-true b 0 e in omega arith

  bare-kind : (k : Kind) → pn ≤ most_pn → leb last most_number ≡ true → eqb first 0 ≡ true
      → eqb unagreed 0 ≡ true → eqb count 0 ≡ true
      → form_kind k J pn last first unagreed count ≡ true
      → KindSays k J pn last first unagreed count
  bare-kind k p l f u c g =
      let z = eqb-true first 0 f in
      let y = eqb-true count 0 c in
      record {
        form = g;
        pn = p;
        last = leb-true last most_number l;
        first = omega arith;
        unagreed = none_said u;
        count = omega arith;
      }

  full-kind : (k : Kind) → pn ≤ most_pn → last ≤ most_number → first_form first last ≡ true
      → unagreed ≤ most_pn → form_kind k J pn last first unagreed count ≡ true → count ≤ J
      → KindSays k J pn last first unagreed count
  full-kind k p l f u g c = record {
    form = g;
    pn = p;
    last = l;
    first = (first_says first last f).1;
    unagreed = u;
    count = c;
  }

  -- Field by field they say it ..
  pub kind-says : (k : Kind) → pn_fits k pn ≡ true → last_fits k last ≡ true
      → first_fits k first last ≡ true → unagreed_fits k unagreed ≡ true
      → count_fits k J first last unagreed count ≡ true
      → KindSays k J pn last first unagreed count
  unfolding form_kind
  kind-says Kind.Collect p l f u c =
      bare-kind Kind.Collect (leb-true pn most_pn p) l f u c (rw (c, u, f))
  kind-says Kind.Last p l f u c =
      let b = leb-true last most_number l in
      let a = (first_says first last f).1 in
      let h = first-of (held_count J first last count) _ c in
      let held = sym (held-form J first last count b a) ∙ h in
      full-kind Kind.Last (leb-true pn most_pn p) b f (leb-true unagreed most_pn u)
      (rw (f, held) (under (second-of (held_count J first last count) _ c)))
      (held-room J first last count h)
    where
      under : (eqb unagreed 0 || full_count J first last count) ≡ true
          → (eqb unagreed 0 || eqb (first + count) (last + 2)) ≡ true
      under e =
          either-of (eqb unagreed 0) (full_count J first last count) e
          (λ t. either_first (eqb unagreed 0) _ t)
          (λ t.
          let s = (full-says J first last count t).0.sum in
          either_second (eqb unagreed 0) (eqb (first + count) (last + 2))
          (eq-eqb (first + count) (last + 2) (omega arith)))
  kind-says Kind.Begin p l f u c =
      let z = leb-true count J (second-of (eqb count 1) _ c) in
      let b = ltb-true last most_number l in
      full-kind Kind.Begin (leb-true pn most_pn p) (omega arith) f (none_said u)
      (both_true (both_true (both_true f c) l) u) z
  kind-says Kind.Accept p l f u c =
      bare-kind Kind.Accept (leb-true pn most_pn p) l f u c (rw (c, u, f))
  kind-says Kind.Commit p l f u c =
      let h = count-says J first last 0 count c in
      let s : first + count ≡ last + 1 = omega (arith, h.sum) in
      full-kind Kind.Commit (leb-true pn most_pn p) (leb-true last most_number l) f (none_said u)
      (rw (f, eq-eqb (first + count) (last + 1) s, le-leb count J h.room, u)) h.room
  kind-says Kind.Lease p l f u c = bare-kind Kind.Lease (none_said p) l f u c (rw (c, u, f, p))
  kind-says Kind.LeaseAck p l f u c =
      bare-kind Kind.LeaseAck (none_said p) l f u c (rw (c, u, f, p))

  -- .. and what says it holds field by field.
  pub record KindFits (k : Kind) : Type 0 where
    pub pn-fits : pn_fits k pn ≡ true
    pub last-fits : last_fits k last ≡ true
    pub first-fits : first_fits k first last ≡ true
    pub unagreed-fits : unagreed_fits k unagreed ≡ true
    pub count-fits : count_fits k J first last unagreed count ≡ true

  bare-says : bare first unagreed count ≡ true
      → (eqb count 0 ≡ true) × (eqb unagreed 0 ≡ true) × (eqb first 0 ≡ true)
  bare-says e =
      let two = first-of (eqb count 0 && eqb unagreed 0) (eqb first 0) e in (
        first-of (eqb count 0) _ two,
        second-of (eqb count 0) _ two,
        second-of (eqb count 0 && eqb unagreed 0) (eqb first 0) e,
      )

  bare-fits : (k : Kind) → pn_fits k pn ≡ true → last_fits k last ≡ true
      → (count_fits k J first last unagreed count ≡ true) × (unagreed_fits k unagreed ≡ true)
      × (first_fits k first last ≡ true) → KindFits k
  bare-fits k p l b = record {
    pn-fits = p;
    last-fits = l;
    first-fits = b.2;
    unagreed-fits = b.1;
    count-fits = b.0;
  }

  pub kind_fits : (k : Kind) → form_kind k J pn last first unagreed count ≡ true
      → leb pn most_pn ≡ true → leb unagreed most_pn ≡ true → leb last most_number
      ≡ true → KindFits k
  unfolding form_kind
  kind_fits Kind.Collect g p u l = bare-fits Kind.Collect p l (bare-says g)
  kind_fits Kind.Last g p u l =
      let two = first-of (first_form first last && count_form J first last count) _ g in
      let f = first-of (first_form first last) _ two in
      let held = second-of (first_form first last) _ two in
      let b = leb-true last most_number l in
      let a = (first_says first last f).1 in
      let h = held-form J first last count b a ∙ held in
      record {
        pn-fits = p;
        last-fits = l;
        first-fits = f;
        unagreed-fits = u;
        count-fits = rw h
            (under h (second-of (first_form first last && count_form J first last count) _ g));
      }
    where
      under : held_count J first last count ≡ true
          → (eqb unagreed 0 || eqb (first + count) (last + 2)) ≡ true
          → (eqb unagreed 0 || full_count J first last count) ≡ true
      under h e =
          either-of (eqb unagreed 0) (eqb (first + count) (last + 2)) e
          (λ t. either_first (eqb unagreed 0) _ t)
          (λ t.
          let s = eqb-true (first + count) (last + 2) t in
          either-of (agreed_count J first last count) (full_count J first last count) h
          (λ q. let z = (count-says J first last 0 count q).sum in absurd (omega arith))
          (λ q. either_second (eqb unagreed 0) (full_count J first last count) q))
  kind_fits Kind.Begin g p u l =
      let three = first-of
      (first_form first last && (eqb count 1 && leb count J) && ltb last most_number)
      (eqb unagreed 0) g in
      let two = first-of (first_form first last && (eqb count 1 && leb count J))
      (ltb last most_number) three in
      record {
        pn-fits = p;
        last-fits = second-of (first_form first last && (eqb count 1 && leb count J))
            (ltb last most_number) three;
        first-fits = first-of (first_form first last) _ two;
        unagreed-fits = second-of
            (first_form first last && (eqb count 1 && leb count J) && ltb last most_number)
            (eqb unagreed 0) g;
        count-fits = second-of (first_form first last) _ two;
      }
  kind_fits Kind.Accept g p u l = bare-fits Kind.Accept p l (bare-says g)
  kind_fits Kind.Commit g p u l =
      let three = first-of
      (first_form first last && eqb (first + count) (last + 1) && leb count J) _ g in
      let two = first-of (first_form first last && eqb (first + count) (last + 1)) _ three in
      let f = first-of (first_form first last) _ two in
      let s = eqb-true (first + count) (last + 1) (second-of (first_form first last) _ two) in
      record {
        pn-fits = p;
        last-fits = l;
        first-fits = f;
        unagreed-fits = second-of
            (first_form first last && eqb (first + count) (last + 1) && leb count J) _ g;
        count-fits = count-made J first last 0 count
            (record {
              last = leb-true last most_number l;
              first = (first_says first last f).1;
              room = leb-true count J
                  (second-of (first_form first last && eqb (first + count) (last + 1)) _ three);
              sum = omega arith;
            });
      }
  kind_fits Kind.Lease g p u l =
      bare-fits Kind.Lease (second-of (bare first unagreed count) _ g) l
      (bare-says (first-of (bare first unagreed count) _ g))
  kind_fits Kind.LeaseAck g p u l =
      bare-fits Kind.LeaseAck (second-of (bare first unagreed count) _ g) l
      (bare-says (first-of (bare first unagreed count) _ g))

-- ---- the words of a head

-- what the words say where no field is amiss
pub record HeadSays (J : ℕ) (w : List ℕ) : Type 0 where
  pub least : 1 ≤ get_or w kind_at 0
  pub most : get_or w kind_at 0 ≤ most_kind
  pub kind : KindSays (kind_of (get_or w kind_at 0)) J (get_or w pn_at 0) (get_or w last_at 0)
      (get_or w first_at 0) (get_or w unagreed_at 0) (get_or w count_at 0)

module _ (J : ℕ) (w : List ℕ) where
  pub head-says : head_fault J w ≡ None → HeadSays J w
  unfolding head_fault
  head-says e =
      let t = (then-passed _ _ e).0 in
      let k = all-at 0 _ t in
      record {
        least = leb-true 1 (get_or w kind_at 0) (first-of (leb 1 (get_or w kind_at 0)) _ k);
        most = leb-true (get_or w kind_at 0) most_kind (second-of (leb 1 (get_or w kind_at 0)) _ k);
        kind = kind-says J _ _ _ _ _ (kind_of (get_or w kind_at 0)) (all-at 1 _ t) (all-at 2 _ t)
            (all-at 3 _ t) (all-at 4 _ t) (all-at 5 _ t);
      }

  pub head-whole : within 1 most_kind (get_or w kind_at 0) ≡ true
      → form_kind (kind_of (get_or w kind_at 0)) J (get_or w pn_at 0) (get_or w last_at 0)
      (get_or w first_at 0) (get_or w unagreed_at 0) (get_or w count_at 0) ≡ true
      → leb (get_or w pn_at 0) most_pn ≡ true → leb (get_or w unagreed_at 0) most_pn ≡ true
      → leb (get_or w last_at 0) most_number ≡ true → head_fault J w ≡ None
  unfolding head_fault fault_then
  head-whole n f p u l =
      let t = kind_fits J _ _ _ _ _ (kind_of (get_or w kind_at 0)) f p u l in
      rw (n, t.pn-fits, t.last-fits, t.first-fits, t.unagreed-fits, t.count-fits)

-- ---- a place

-- what the kind asks of a place's letter
abbrev pub kind_form : ℕ → List ℕ → Bool
kind_form J p =
    form_kind (mail_at p).kind J (mail_at p).pn (mail_at p).last (mail_at p).first
    (mail_at p).unagreed (length (letter_at p).records)

-- What a place shows where it fits.
pub fits-says : (J : ℕ) (p : List ℕ) → place_fits J p ≡ true
    → (1 ≤ get_or p kind_at 0) × (get_or p kind_at 0 ≤ most_kind) × (get_or p count_at 0 ≤ J)
unfolding place_fits
fits-says J p e =
    let k = all-at 0 _ e in (
      leb-true 1 (get_or p kind_at 0) (first-of (leb 1 (get_or p kind_at 0)) _ k),
      leb-true (get_or p kind_at 0) most_kind (second-of (leb 1 (get_or p kind_at 0)) _ k),
      leb-true (get_or p count_at 0) J (all-at 1 _ e),
    )

-- A place whose words say so can be read.
pub readable : (J : ℕ) (p : List ℕ) → PlaceSized J p → HeadSays J p → PlaceReadable p
readable J p s r = let k = r.kind in
    record {
      room = omega (arith, s.words, k.count);
      pn = omega (arith, k.pn);
      last = omega (arith, k.last);
      first = omega (arith, k.last, k.first);
      unagreed = omega (arith, k.unagreed);
    }

-- .. and its numbers counted.
pub numbered : (J : ℕ) (p : List ℕ) → HeadSays J p → Numbered (mail_at p)
numbered J p r = record { last = r.kind.last; first = r.kind.first }

-- How many records a place holds that can be read.
pub count_held : (p : List ℕ) → PlaceReadable p → length (letter_at p).records ≡ get_or p count_at 0
count_held p r = length_part head_words (get_or p count_at 0) p r.room

-- What the form of a place says.
pub record PlaceFormed (J : ℕ) (p : List ℕ) : Type 0 where
  pub fits : place_fits J p ≡ true
  pub letter : form_letter J (letter_at p) ≡ true
  pub kind : kind_form J p ≡ true
  pub proper : each proper (letter_at p).records ≡ true
  pub whole : head_fault J p ≡ None
  pub says : HeadSays J p
  pub readable : PlaceReadable p

module _ (J : ℕ) (p : List ℕ) (s : PlaceSized J p) where
  -- Its records are as many as its count, which has room.
  held : leb (get_or p count_at 0) J ≡ true → length (letter_at p).records ≡ get_or p count_at 0
  held e = let c = leb-true (get_or p count_at 0) J e in
      length_part head_words (get_or p count_at 0) p (omega (arith, s.words))

  pub formed : place_form J p ≡ true → PlaceFormed J p
  unfolding place_form place_fits form_letter
  formed e =
      let fits = all-at 0 _ e in
      let letter = all-at 1 _ e in
      let n = held (all-at 1 _ fits) in
      let whole = head-whole J p (all-at 0 _ fits)
      (rw n at (all-at 0 _ letter)) (all-at 2 _ letter) (all-at 3 _ letter) (all-at 4 _ letter) in
      let says = head-says J p whole in
      record {
        fits = fits;
        letter = letter;
        kind = all-at 0 _ letter;
        proper = all-at 1 _ letter;
        whole = whole;
        says = says;
        readable = readable J p s says;
      }

  -- What the code of `is_by_form` has: no word is amiss ..
  pub form-go : head_fault J p ≡ None → each proper (letter_at p).records ≡ place_form J p
  unfolding place_form place_fits form_letter all
  form-go e =
      let h = head-says J p e in
      let k = h.kind in
      let n = count_held p (readable J p s h) in
      let f = rw (← n) at k.form in
      rw (
        le-leb 1 (get_or p kind_at 0) h.least,
        le-leb (get_or p kind_at 0) most_kind h.most,
        le-leb (get_or p count_at 0) J k.count,
        f,
        le-leb (get_or p pn_at 0) most_pn k.pn,
        le-leb (get_or p unagreed_at 0) most_pn k.unagreed,
        le-leb (get_or p last_at 0) most_number k.last,
      )
      (simp and-true)

  -- .. or one is.
  pub form-stop : is_whole (head_fault J p) ≡ false → false ≡ place_form J p
  form-stop e = go (place_form J p) refl
    where
      go : (b : Bool) → place_form J p ≡ b → false ≡ place_form J p
      go true f = sym e ∙ ap is_whole (formed f).whole ∙ sym f
      go false f = sym f
