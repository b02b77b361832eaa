-- A mail in bytes: by form of its words, and of the letter that they say.
use mathlib.Core.Path.{◌≡◌, refl, sym, ap, ◌∙◌}
use mathlib.Core.Bool.{true, false, ◌&&◌}
use Prim.Native.Nat.{ℕ, ◌+◌, ◌-◌, ◌≤◌, ◌<◌}
use native.Mathlib.Omega.{arith}
use mathlib.Core.List.{List, [], ◌∷◌}
use borrow.Author.Tests.{le-leb, eqb-true, eq-eqb}
use lib.Dec.{eqb}
use lib.ListN.{length, get_or, replicate}
use Rattle.words.specs.Rows.{part}
use Rattle.words.proofs.PartLaws.{gets-all}
use Rattle.le.specs.Le.{Number}
use Rattle.rules.specs.Sizes.{most_loads, most_number, proper}
use Rattle.rules.specs.Box.{Letter}
use Rattle.rules.specs.Form.{form_letter}
use Rattle.laws.proofs.Logic.{passed, pass, all-each, and_yes, and_both}
use Rattle.values.specs.Faults.{is_whole}
use Rattle.values.proofs.FaultLaws.{whole-none}
use Rattle.letter.specs.Place.{mail_at, kind_of, kind_at, pn_at, last_at, first_at, unagreed_at}
use Rattle.letter.specs.Place.{count_at}
use Rattle.letter.specs.Place.{head_words}
use Rattle.letter.specs.Faults.{head_fault}
use Rattle.letter.proofs.KindLaws.{kind-back, kind-number-back, kind-in}
use Rattle.letter.proofs.FormLaws.{head-says, head-whole}
use Rattle.std.specs.Prelude.{Option, None}
use Rattle.cells.specs.Cells.{cells, All, NoneAt, WalkIs, Many}
use Rattle.cells.specs.declared.groups.Group.{Group}
use Rattle.cells.specs.Groups.{GroupsRead}
use Rattle.cells.proofs.StandLaws.{too_short, stands-le}
use Rattle.cells.proofs.CodeLaws.{told}
use Rattle.cells.proofs.GroupLaws.{groups-grouped}
use Rattle.image.specs.Image.{first_words, letter_groups, letter_words, letter_bytes}
use Rattle.image.specs.Parts.{GoodRecord, GoodLetter}
use Rattle.image.specs.Longest.{letter_head_long}
use Rattle.image.proofs.RecordLaws.{all-to}
use Rattle.image.proofs.HeadedLaws.{Judged, headed_none, headed_then, first-parts}
use Rattle.image.proofs.HeadedLaws.{known-walk}
use Rattle.image.proofs.LetterLaws.{LetterOf, kind-known, kind-of, letter_headed}
use Rattle.image.proofs.Lengths.{length-letter}

module _ (J : ℕ) (loads : J ≤ most_loads) where
  pub letter-passes : (y : Letter) → GoodLetter J y
      → is_whole (head_fault J (letter_words y)) ≡ true
  unfolding form_letter
  letter-passes y g =
      let t = passed _ g in
      ap is_whole (head-whole J (letter_words y) (kind-in y.head.kind)
      (rw (kind-back y.head.kind) t.0)
      t.1.1.0 t.1.1.1.0 t.1.1.1.1.0)

  pub letter-good : (w rs : List ℕ) → is_whole (head_fault J w) ≡ true
      → length rs ≡ get_or w count_at 0
      → All GoodRecord rs → GoodLetter J (record { head = mail_at w; records = rs })
  unfolding form_letter
  letter-good w rs t n h =
      let k = (head-says J w (whole-none (head_fault J w) t)).kind in
      pass _ (
        rw n k.form,
        (
          all-each proper rs (all-to GoodRecord rs h),
          (
            le-leb (get_or w pn_at 0) _ k.pn,
            (
              le-leb (get_or w unagreed_at 0) _ k.unagreed,
              (le-leb (get_or w last_at 0) most_number k.last, tt),
            ),
          ),
        ),
      )

  -- Words that are by form are those of the letter that they say, with its records.
  pub words_are : (w rs : List ℕ) → length w ≡ head_words → is_whole (head_fault J w) ≡ true
      → length rs ≡ get_or w count_at 0
      → w ≡ letter_words (record { head = mail_at w; records = rs })
  words_are w rs wide t n =
      let h = head-says J w (whole-none (head_fault J w) t) in
      let k = kind-number-back (get_or w kind_at 0) h.least h.most in
      sym (gets-all 0 w head_words wide)
      ∙ (λ i. sym k i ∷ get_or w pn_at 0 ∷ get_or w last_at 0 ∷ get_or w first_at 0
      ∷ get_or w unagreed_at 0
      ∷ sym n i ∷ [])

  -- The words of a letter whose kind has the number x.
  abbrev pub letter-judged : (x : ℕ) → Judged (letter_headed J loads x) (LetterOf J loads x)
  letter-judged x = record {
    test = λ w. is_whole (head_fault J w) && eqb (get_or w kind_at 0) x;
    fits = λ y g. g;
    passes = λ y g. and_both (letter-passes y g.0) (eq-eqb _ _ g.1);
    made = λ w rs. record { head = mail_at w; records = rs };
    good = λ w rs g t n h.
        let b = and_yes (is_whole (head_fault J w)) _ t in
        let k = head-says J w (whole-none (head_fault J w) b.0) in (
          letter-good w rs b.0 n h,
          kind-number-back (get_or w kind_at 0) k.least k.most ∙ eqb-true _ _ b.1,
        );
    words = λ w rs g t. words_are w rs g.width (and_yes (is_whole (head_fault J w)) _ t).0;
    records = λ w rs. refl;
  }

  -- x is read at `at`, and by its groups the head w.
  module _ {src : List ℕ} {at x : ℕ} (room : at + 4 ≤ length src)
      (number : Number 4 (part src at 4) x) where
    -- Too few bytes are left for a head of this kind.
    pub letter-short : at ≤ length src → length src - at < letter_head_long (kind_of x)
        → NoneAt letter_bytes (GoodLetter J) src at
    letter-short h s y q g v =
        let k = kind-of J loads x y (kind-known J loads room number y q g v) in
        too_short (letter_head_long (kind_of x)) h s
        (omega (arith, length-letter y, ap first_words k)) v

    module _ {p : ℕ} {w : List ℕ} (ns : List Group) (e : ns ≡ letter_groups (kind_of x))
        (read : GroupsRead ns src at (replicate head_words 0) w p) where
      -- The head begins with it too.
      front : get_or w kind_at 0 ≡ x
      front =
          let here = groups-grouped (letter_groups (kind_of x)) head_words 0 ns e refl read in
          sym (told (first-parts 4 2 head_words 0 _ (omega arith)) x number.below
          (stands-le 4 src at x room number) w p here.0 here.1).0

      pub letter-none : is_whole (head_fault J w) ≡ false
          → NoneAt letter_bytes (GoodLetter J) src at
      letter-none f =
          known-walk (kind-known J loads room number) None
          (headed_none (letter_headed J loads x) (letter-judged x) ns e read (rw f))

      pub letter-then : is_whole (head_fault J w) ≡ true → {count : ℕ} → count ≡ get_or w count_at 0
          → (r : Option ℕ) → WalkIs (cells 8) (Many (λ i. GoodRecord) count) src p r
          → WalkIs letter_bytes (GoodLetter J) src at r
      letter-then t c r f =
          known-walk (kind-known J loads room number) r
          (headed_then (letter_headed J loads x) (letter-judged x) ns e read
          (and_both t (eq-eqb _ _ front)) c r f)
