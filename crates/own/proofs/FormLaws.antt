-- The words of a lent row and of a lent place: what their tests come to, and what they say.
use mathlib.Core.Path.{◌≡◌, ◌∙◌}
use mathlib.Core.Bool.{Bool, true, false, ◌&&◌, and-true, and-false, and_assoc}
use mathlib.Core.List.{List, [], ◌∷◌}
use Prim.Native.Nat.{ℕ, ◌+◌, ◌≤◌, ◌<◌}
use lib.Dec.{leb}
use lib.ListN.{length}
use lib.Seq.{length-take-le}
use borrow.Author.Tests.{leb-true, le-leb, lt-leb}
use Rattle.rules.specs.Every.{all}
use Rattle.rules.specs.Sizes.{most_boxes, most_epoch, within, sizes_form}
use Rattle.rules.specs.Sets.{set_form}
use Rattle.rules.specs.Box.{Event, own, mail}
use Rattle.rules.specs.Form.{form_box}
use Rattle.rules.specs.Own.{form_event, form_own}
use Rattle.laws.proofs.Types.{Act, Setting}
use Rattle.laws.proofs.Logic.{and_yes, ◌&◌, none, made}
use Rattle.laws.proofs.FormLaws.{FormedBox, FormedLetter, sizes-says, box-says, letter-says}
use Rattle.letter.specs.Place.{place_form, head_words as letter_head}
use Rattle.letter.specs.Lent.{PlaceSized}
use Rattle.row.specs.Row.{row_form, row_width}
use Rattle.row.specs.Lent.{RowSized, RowByForm, PlaceByForm}
use Rattle.own.specs.Entry.{row_of, place_of, own_box, own_letter, row_reads, place_reads}
use Rattle.own.specs.Lent.{row_test, place_test, form_test}

-- ---- words of which the first w are read: what they hold fits, and has a form

module _ (w : ℕ) (ws : List ℕ) (fits form : Bool) where
  -- Where there are enough, their test is t ..
  pub long-tested : {t : Bool} → w ≤ length ws → t ≡ all (fits ∷ form ∷ [])
      → t ≡ (leb w (length ws) && fits && form)
  unfolding all
  long-tested h e = e ∙ rw (le-leb w (length ws) h, and-true)

  -- .. and where there are too few, they cannot be read.
  pub short-tested : length ws < w → false ≡ (leb w (length ws) && fits && form)
  short-tested h = rw (lt-leb w (length ws) h)

  tested : (leb w (length ws) && fits && form) ≡ true
      → (w ≤ length ws) × (fits ≡ true) × (form ≡ true)
  tested e =
      let p = and_yes (leb w (length ws) && fits) form e in
      let q = and_yes (leb w (length ws)) fits p.0 in
      (leb-true w (length ws) q.0, q.1, p.1)

module _ (s : Setting) where
  pub row_sized : (r : List ℕ) → sizes_form s.n s.j s.l ≡ true → row_width s.j ≤ length r
      → RowSized s.n s.j (row_of s.j r)
  row_sized r sizes h = let z = sizes-says sizes in
      record {
        words = length-take-le (row_width s.j) r h;
        boxes = z.few-boxes;
        loads = z.few-loads;
      }

  pub place-sized : (p : List ℕ) → sizes_form s.n s.j s.l ≡ true
      → letter_head + s.j ≤ length p
      → PlaceSized s.j (place_of s.j p)
  place-sized p sizes h =
      record { words = length-take-le (letter_head + s.j) p h; most = (sizes-says sizes).few-loads }

-- ---- the tests together

-- what the code asks before the event e is what its form needs
pub record Asks (s : Setting) (r p : List ℕ) (mailed : Bool) (e : Event) (reads : Bool) : Type 0
  where
    pub form : form_test s r p mailed ≡ (reads && form_own s (own_box s r) e)

module _ (s : Setting) (r : List ℕ) where
  asked : (e : Event) (b c : Bool)
      → (within 1 most_epoch s.epoch && set_form s.n s.present
      && (b && form_box s.n s.j s.me (own_box s r)) && (c && form_event s e))
      ≡ (b && c && form_own s (own_box s r) e)
  unfolding form_own all
  asked e true true = simp (and_assoc, and-true)
  asked e true false = simp and-false
  asked e false c = simp and-false

  pub act-asks : (p : List ℕ) (a : Act) → Asks s r p false (own a) (row_reads s.j r)
  act-asks p a =
      record { form = asked (own a) (row_reads s.j r) true ∙ rw (and-true (row_reads s.j r)) }

  pub mail-asks : (p : List ℕ) (sender : ℕ)
      → Asks s r p true (mail sender (own_letter s p)) (row_reads s.j r && place_reads s.j p)
  mail-asks p sender =
      record {
        form = asked (mail sender (own_letter s p)) (row_reads s.j r) (place_reads s.j p);
      }

-- ---- what they say

-- a box's own row by form
pub record OwnRow (s : Setting) (r : List ℕ) : Type 0 where
  pub long : row_width s.j ≤ length r
  pub box : FormedBox s.n s.j s.me (own_box s r)
  pub by_form : s.me ≤ most_boxes → RowByForm s (row_of s.j r)

pub own_row : (s : Setting) (r : List ℕ) → sizes_form s.n s.j s.l ≡ true
    → row_test s r ≡ true → OwnRow s r
unfolding row_reads row_form
own_row s r sizes e =
    let p = tested (row_width s.j) r _ _ e in
    record {
      long = p.0;
      box = box-says p.2;
      by_form = λ me. record {
        size = row_sized s r sizes p.0;
        form = made (p.1 & p.2 & none);
        me = me;
      };
    }

-- a letter by form in its place
pub record OwnPlace (s : Setting) (p : List ℕ) : Type 0 where
  pub long : letter_head + s.j ≤ length p
  pub letter : FormedLetter s.j (own_letter s p)
  pub by_form : PlaceByForm s (place_of s.j p)

pub own-place : (s : Setting) (p : List ℕ) → place_test s p ≡ true → OwnPlace s p
unfolding place_reads place_form
own-place s p e =
    let q = tested (letter_head + s.j) p _ _ e in
    record {
      long = q.0;
      letter = letter-says q.2;
      by_form = record {
        words = length-take-le (letter_head + s.j) p q.0;
        form = made (q.1 & q.2 & none);
      };
    }
