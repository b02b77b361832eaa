-- The links in order, the place of a mail, and the groups of a link's bytes.
use mathlib.Core.Path.{◌≡◌, refl, sym, ap, ◌∙◌, subst}
use mathlib.Core.Bool.{true}
use Prim.Native.Nat.{ℕ, zero, suc, ◌+◌, ◌-◌, ◌*◌, ◌≤◌, ◌<◌}
use native.Mathlib.Omega.{arith}
use mathlib.Core.List.{List, [], ◌∷◌, ◌++◌}
use lib.ListN.{length, get_or, length-append, get_or-map}
use Rattle.words.specs.Rows.{part}
use Rattle.words.specs.Ring.{slot}
use Rattle.words.proofs.PartLaws.{length_part, gets-part}
use Rattle.words.proofs.RowLaws.{row-end}
use Rattle.words.proofs.RingLaws.{slot_lt}
use Rattle.rules.specs.Box.{Letter}
use Rattle.rules.specs.declared.model.Kind.{Kind}
use Rattle.rules.specs.declared.model.Setting.{Setting}
use Rattle.laws.proofs.Logic as logic
use Rattle.laws.proofs.FormLaws.{is-link}
use Rattle.letter.specs.Place.{letter_at, place_fits, kind_of, kind_at, pn_at, last_at, first_at}
use Rattle.letter.specs.Place.{unagreed_at, count_at, head_words}
use Rattle.letter.specs.Lent.{PlaceSized}
use Rattle.letter.proofs.KindLaws.{kind-number-back}
use Rattle.letter.proofs.FormLaws.{fits-says}
use Rattle.link.specs.Link.{place_width, places, link_of}
use Rattle.link.specs.Holds.{LinkSizes, ReadableLink, place_in}
use Rattle.link.proofs.LinkLaws.{length-places, length-link, place_at}
use Rattle.link.proofs.LinkLaws as link
use Rattle.memory.specs.After.{links_of, LinksLent, link_row}
use Rattle.memory.proofs.SizeLaws.{numbered}
use Rattle.memory.proofs.LinkLaws.{link-readable, link-letters}
use Rattle.cells.specs.Cells.{chain, cells, Each, All}
use Rattle.cells.proofs.ChainLaws.{length-cells}
use Rattle.cells.proofs.GroupLaws.{SameIn, groups_as, cut-more}
use Rattle.image.specs.Image.{first_words, letter_groups, letter_words, letter_bytes, link_bytes}
use Rattle.image.specs.Longest.{letter_long}
use Rattle.image.proofs.OrderLaws.{length_pairs, pairs-at}
use Rattle.image.proofs.CutLaws.{first-few, letter-cut}
use Rattle.image.proofs.LetterLaws.{letter-split}
use Rattle.image.proofs.Lengths.{length-letter}
use Rattle.writer.specs.Bodies.{links_in, link_in, letter_in}
use Rattle.writer.proofs.PutLaws.{Put}

-- ---- the links in order

pub length_links_in : (s : Setting) (ls : List ℕ) → length (links_in s ls) ≡ s.n * (s.n - 1)
unfolding links_in
length_links_in s ls = length_pairs s.n (links_of s ls)

-- r is the row of link k
pub record LinkOf (s : Setting) (ls : List ℕ) (k : ℕ) (r : List ℕ) : Type 0 where
  pub readable : ReadableLink s.j s.l r
  pub letters : link_in s ls k ≡ link_of s.j s.l r

pub link-is : (s : Setting) (ls : List ℕ) (k : ℕ) {r : List ℕ} → LinksLent s ls
    → k < s.n * (s.n - 1) → r ≡ link_row s ls k → LinkOf s ls k r
unfolding links_in
link-is s ls k lent h e =
    let m = numbered s.n k h in
    let row = e ∙ ap (link_row s ls) (sym m.index) in
    let t = is-link m.link in
    record {
      readable = link-readable s m.from m.to ls lent m.link row;
      letters =
          ap (link_in s ls) (sym m.index)
          ∙ pairs-at s.n (links_of s ls) m.from m.to [] t.0 t.1 t.2
          ∙ sym (link-letters s m.from m.to ls lent m.link row);
    }

-- ---- the place of mail i of the link r

pub record PlaceOf (J L : ℕ) (r : List ℕ) (i : ℕ) (p : List ℕ) : Type 0 where
  pub size : PlaceSized J p
  pub fits : place_fits J p ≡ true
  pub letter : letter_in J L r i ≡ letter_at p

-- Where the code looks for it.
pub place_needs : (J L : ℕ) (r : List ℕ) (i : ℕ) {first : ℕ} → ReadableLink J L r
    → i < length (link_of J L r) → first ≡ get_or r 0 0
    → LinkSizes J L × ((first < L) × (i ≤ L))
place_needs J L r i f h e =
    let t : link.LinkFits J L r = link.fits-says f.fits in
    (f.words.sizes, (omega (arith, t.first), omega (arith, t.count, length-link J L r)))

pub place_is : (J L : ℕ) (r : List ℕ) (i : ℕ) {p : List ℕ} → ReadableLink J L r
    → i < length (link_of J L r) → p ≡ place_in J L (get_or r 0 0) i r → PlaceOf J L r i p
unfolding link_of
place_is J L r i {p} f h e =
    let t : link.LinkFits J L r = link.fits-says f.fits in
    let few : i < get_or r 1 0 = omega (arith, length-link J L r) in
    let w = place_width J in
    let q = slot L (get_or r 0 0) i in
    let inside : q < L = slot_lt L (get_or r 0 0) i t.first (omega (arith, t.count)) in
    let here : get_or (places J L r) i [] ≡ p = place_at J L r t.first t.count i few ∙ sym e in
    let long = f.words.width in
    record {
      size = record {
        words = ap length e ∙ length_part (2 + q * w) w r (omega (arith, row-end w inside));
        most = f.words.sizes.few-loads;
      };
      fits = subst (λ (x : List ℕ). place_fits J x ≡ true) here
          (logic.each_at (place_fits J) (places J L r) [] t.held i
          (omega (arith, length-places J L r)));
      letter = get_or-map letter_at (places J L r) i [] ∙ ap letter_at here;
    }

module _ {J L : ℕ} {r : List ℕ} {i : ℕ} {p : List ℕ} (f : PlaceOf J L r i p) where
  pub place-count : get_or p count_at 0 ≤ J
  place-count = (fits-says J p f.fits).2

  -- It holds as many records as its count says.
  held : length (letter_at p).records ≡ get_or p count_at 0
  held = length_part head_words (get_or p count_at 0) p (omega (arith, place-count, f.size.words))

  -- the kind that its word says
  abbrev pub kind_in : Kind
  kind_in = kind_of (get_or p kind_at 0)

  pub letter-long : length (letter_bytes (letter_in J L r i))
      ≡ letter_long kind_in (get_or p count_at 0)
  letter-long =
      ap (λ (y : Letter). length (letter_bytes y)) f.letter
      ∙ length-letter (letter_at p) ∙ ap (letter_long kind_in) held

  -- Its words are those of the place, and so its bytes are.
  groups : All (SameIn (letter_words (letter_at p)) p) (letter_groups kind_in)
  unfolding Each
  groups =
      let w = f.size.words in
      let t = fits-says J p f.fits in
      let k = kind-number-back (get_or p kind_at 0) t.0 t.1 in (
        (λ i. k i ∷ get_or p pn_at 0 ∷ get_or p last_at 0 ∷ [])
            ∙ gets-part 0 p kind_at 3 (omega arith),
        (
          one (first_words kind_in) (first-few kind_in),
          (
            (λ i. get_or p unagreed_at 0 ∷ held i ∷ []) ∙ gets-part 0 p unagreed_at 2 (omega arith),
            tt,
          ),
        ),
      )
    where
      -- first, where the kind has it
      one : (c : ℕ) → c ≤ 1 → part (letter_words (letter_at p)) first_at c ≡ part p first_at c
      one zero h = refl
      one (suc zero) h = gets-part 0 p first_at 1 (omega (arith, f.size.words))
      one (suc (suc c)) h = absurd (omega arith)

  pub letter-put :
      Put (letter_groups kind_in) head_words count_at p (letter_bytes (letter_in J L r i))
  letter-put =
      let w = f.size.words in
      record {
        cut = cut-more (letter_groups kind_in) 0 (omega arith) (letter-cut kind_in);
        inside = omega arith;
        room = omega (arith, place-count);
        bytes =
            ap letter_bytes f.letter ∙ letter-split (letter_at p)
            ∙ ap (λ (l : List ℕ). l ++ cells 8 (letter_at p).records)
            (groups_as (letter_words (letter_at p)) p (letter_groups kind_in) groups);
      }

-- ---- a link: its count, and its mails

module _ {s : Setting} {ls : List ℕ} {k : ℕ} {r : List ℕ} (f : LinkOf s ls k r) where
  pub link-groups : link_bytes (link_in s ls k)
      ≡ cells 4 (part r 1 1) ++ chain letter_bytes (link_of s.j s.l r)
  unfolding link_bytes
  link-groups =
      let width = f.readable.words.width in
      ap link_bytes f.letters
      ∙ ap (λ (l : List ℕ). cells 4 l ++ chain letter_bytes (link_of s.j s.l r))
      (ap (λ (x : ℕ). x ∷ []) (length-link s.j s.l r) ∙ gets-part 0 r 1 1 (omega arith))

  pub link-long : length (link_bytes (link_in s ls k))
      ≡ 4 + length (chain letter_bytes (link_of s.j s.l r))
  unfolding link_bytes
  link-long =
      ap (λ (ys : List Letter). length (link_bytes ys)) f.letters
      ∙ simp (length-append, length-cells) (omega arith)
