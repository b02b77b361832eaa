-- Unused room is not read: words that no box and no letter has change no outcome.
use mathlib.Core.Path.{◌≡◌, refl, sym, ap, ◌∙◌}
use mathlib.Core.Bool.{Bool, true, false, not, ◌&&◌}
use mathlib.Core.List.{List, [], ◌∷◌}
use Prim.Native.Nat.{ℕ, suc, ◌+◌, ◌<◌, min}
use native.Mathlib.Omega.{arith}
use lib.Dec.{leb, ltb}
use lib.ListN.{length, take, get_or, length-take}
use borrow.Author.Tests.{leb-true, leb-false, le-leb, lt-leb, lt-ltb, le-ltb}
use Rattle.index.specs.Index.{slots, tails_at, nexts_at, index_form}
use Rattle.rules.specs.Every.{all}
use Rattle.rules.specs.Parts.{span}
use Rattle.rules.specs.Box.{own, mail}
use Rattle.laws.proofs.Types.{Act, Setting}
use Rattle.letter.specs.Place as place
use Rattle.letter.specs.Place.{kind_of, letter_at, place_fits, head_words as letter_head}
use Rattle.row.specs.Row.{box_of, row_fits, row_width, most_state, most_phase, agreed_of, index_of}
use Rattle.row.specs.Row.{flag_at, state_at, phase_at, last_at, first_at, peers_at}
use Rattle.row.proofs.SameLaws.{SameRow, same-field, same-box, front-part}
use Rattle.own.specs.Entry.{row_of, place_of, own_box, own_letter, row_reads, place_reads}
use Rattle.own.specs.Entry.{buffered, own_on, act_on, mail_on, fresh_on, elected_on, holds_on}

-- ---- rows and places that are read alike give the same outcome

less-not : (a b : ℕ) → ltb a b ≡ not (leb b a)
less-not a b = go (leb b a) refl
  where
    go : (t : Bool) → leb b a ≡ t → ltb a b ≡ not t
    go true h = le-ltb a b (leb-true b a h)
    go false h = lt-ltb a b (leb-false b a h)

module _ (s : Setting) where
  pub record RowsAlike (r r' : List ℕ) : Type 0 where
    pub reads : row_reads s.j r ≡ row_reads s.j r'
    pub box : own_box s r ≡ own_box s r'

  pub record PlacesAlike (p p' : List ℕ) : Type 0 where
    pub reads : place_reads s.j p ≡ place_reads s.j p'
    pub letter : own_letter s p ≡ own_letter s p'

  -- of the place for the letter, only whether it is long enough
  abbrev pub AsLong : List ℕ → List ℕ → Type 0
  AsLong out out' = leb (letter_head + s.j) (length out) ≡ leb (letter_head + s.j) (length out')

  pub act-room : (a : Act) (r r' out out' : List ℕ) → RowsAlike r r' → AsLong out out'
      → act_on s r a out ≡ act_on s r' a out'
  unfolding own_on buffered
  act-room a r r' out out' e f =
      (λ i. own_on s (e.box i) (e.reads i) (own a) out)
      ∙ rw (
        less-not (length out) (letter_head + s.j),
        less-not
            (length out') (letter_head + s.j),
        f,
      )

  pub mail-room : (sender : ℕ) (r r' p p' out out' : List ℕ) → RowsAlike r r' → PlacesAlike p p'
      → AsLong out out' → mail_on s r sender p out ≡ mail_on s r' sender p' out'
  unfolding own_on buffered
  mail-room sender r r' p p' out out' e g f =
      (λ i. own_on s (e.box i) (e.reads i && g.reads i) (mail sender (g.letter i)) out)
      ∙ rw (
        less-not (length out) (letter_head + s.j),
        less-not
            (length out') (letter_head + s.j),
        f,
      )

  -- of a row that becomes a fresh box's, only whether it is long enough, and the box that it held
  pub fresh-room : (r r' : List ℕ)
      → leb (row_width s.j) (length r) ≡ leb (row_width s.j) (length r')
      → own_box s r ≡ own_box s r' → fresh_on s.n s.j s.l r ≡ fresh_on s.n s.j s.l r'
  unfolding fresh_on
  fresh-room r r' long e = rw (long, e)

  pub elected-room : (c : ℕ) (r r' : List ℕ) → RowsAlike r r' → elected_on s r c ≡ elected_on s r' c
  unfolding elected_on
  elected-room c r r' e = rw (e.reads, e.box)

  pub holds-room : (k left right : ℕ) (r r' : List ℕ) → RowsAlike r r'
      → holds_on s r k left right ≡ holds_on s r' k left right
  unfolding holds_on
  holds-room k left right r r' e = rw (e.reads, e.box)

-- ---- the words that are read

-- Words that agree on the first w are both enough for them, or neither.
pub enough : (w : ℕ) (xs ys : List ℕ) → take w xs ≡ take w ys
    → leb w (length xs) ≡ leb w (length ys)
enough w xs ys e = go (leb w (length xs)) refl
  where
    as_many : min w (length xs) ≡ min w (length ys)
    as_many = sym (length-take w xs) ∙ ap length e ∙ length-take w ys

    go : (t : Bool) → leb w (length xs) ≡ t → t ≡ leb w (length ys)
    go true h = sym (le-leb w (length ys) (omega (arith, leb-true w (length xs) h, as_many)))
    go false h = sym (lt-leb w (length ys) (omega (arith, leb-false w (length xs) h, as_many)))

-- of an index: the heads, the tails and a next word for each agreed record
abbrev pub SameIndex : ℕ → List ℕ → List ℕ → Type 0
SameIndex J r r' =
    take (nexts_at + length (agreed_of r)) (index_of J r)
    ≡ take (nexts_at + length (agreed_of r)) (index_of J r')

-- of a row: the words of its box, and of its index
pub record SameWords (n J : ℕ) (r r' : List ℕ) : Type 0 where
  pub box : SameRow n r r'
  pub index : SameIndex J r r'

same_index : (k : ℕ) (rs xs ys : List ℕ)
    → take (nexts_at + length rs) xs ≡ take (nexts_at + length rs) ys
    → index_form k rs xs ≡ index_form k rs ys
unfolding index_form
same_index k rs xs ys e =
    let w = nexts_at + length rs in
    rw (
      enough w xs ys e,
      front-part w xs ys e 0 slots (omega arith),
      front-part w xs ys e tails_at slots (omega arith),
      front-part w xs ys e nexts_at (length rs) (omega arith),
    )

same-fits : (n J : ℕ) (r r' : List ℕ) → SameWords n J r r' → row_fits J r ≡ row_fits J r'
unfolding row_fits
same-fits n J r r' e = λ i.
    all (leb (field flag_at refl i) 1
    ∷ leb (field state_at refl i) most_state
    ∷ leb (field phase_at refl i) most_phase
    ∷ leb (e.box.count i) J
    ∷ index i
    ∷ [])
  where
    field : (k : ℕ) → leb (suc k) peers_at ≡ true → get_or r k 0 ≡ get_or r' k 0
    field = same-field n r r' e.box

    index : index_form (get_or r first_at 0) (agreed_of r) (index_of J r)
        ≡ index_form (get_or r' first_at 0) (agreed_of r') (index_of J r')
    index =
        same_index (get_or r first_at 0) (agreed_of r) (index_of J r) (index_of J r') e.index
        ∙ (λ i. index_form (field first_at refl i)
        (take (span (field first_at refl i) (field last_at refl i)) (e.box.records i))
        (index_of J r'))

-- of a place: the fields, the count of records and the records held
pub record SamePlace (p p' : List ℕ) : Type 0 where
  pub fields : (k : ℕ) → k < letter_head → get_or p k 0 ≡ get_or p' k 0
  pub records : (letter_at p).records ≡ (letter_at p').records

module _ (p p' : List ℕ) (e : SamePlace p p') where
  word : (k : ℕ) → leb (suc k) letter_head ≡ true → get_or p k 0 ≡ get_or p' k 0
  word k h = e.fields k (leb-true (suc k) letter_head h)

  same-letter : letter_at p ≡ letter_at p'
  same-letter = λ i. record {
    head = record {
      kind = kind_of (word place.kind_at refl i);
      pn = word place.pn_at refl i;
      last = word place.last_at refl i;
      first = word place.first_at refl i;
      unagreed = word place.unagreed_at refl i;
    };
    records = e.records i;
  }

  same-room : (J : ℕ) → place_fits J p ≡ place_fits J p'
  unfolding place_fits
  same-room J = rw (word place.kind_at refl, word place.count_at refl)

module _ (s : Setting) where
  pub used-row : (r r' : List ℕ)
      → leb (row_width s.j) (length r) ≡ leb (row_width s.j) (length r')
      → SameWords s.n s.j (row_of s.j r) (row_of s.j r') → RowsAlike s r r'
  unfolding row_reads
  used-row r r' long e = record {
    reads = rw (long, same-fits s.n s.j (row_of s.j r) (row_of s.j r') e);
    box = same-box s.n (row_of s.j r) (row_of s.j r') e.box;
  }

  pub used-place : (p p' : List ℕ) → AsLong s p p'
      → SamePlace (place_of s.j p) (place_of s.j p') → PlacesAlike s p p'
  unfolding place_reads
  used-place p p' long e = record {
    reads = rw (long, same-room (place_of s.j p) (place_of s.j p') e s.j);
    letter = same-letter (place_of s.j p) (place_of s.j p') e;
  }

-- ---- what follows the first words is not read

module _ (s : Setting) where
  pub first-row : (r r' : List ℕ) → row_of s.j r ≡ row_of s.j r' → RowsAlike s r r'
  unfolding row_reads
  first-row r r' e = record {
    reads = rw (enough (row_width s.j) r r' e, e);
    box = ap (box_of s.n) e;
  }

  pub first-place : (p p' : List ℕ) → place_of s.j p ≡ place_of s.j p' → PlacesAlike s p p'
  unfolding place_reads
  first-place p p' e = record {
    reads = rw (
      enough
          (letter_head + s.j) p p' e,
      e,
    );
    letter = ap letter_at e;
  }
