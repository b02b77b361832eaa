-- A whole image: the bodies that were found and the table that stands before them make the image of
-- a site by form, or no such site has it.
use mathlib.Core.Path.{◌≡◌, refl, sym, ap, ◌∙◌, subst}
use mathlib.Core.Bool.{Bool, true, false, ◌&&◌}
use Prim.Native.Nat.{ℕ, ◌+◌, ◌*◌, ◌^◌, ◌≤◌, ◌<◌}
use native.Mathlib.Omega.{arith}
use mathlib.Core.List.{List, ◌∷◌, ◌++◌}
use lib.Dec.{eqb}
use lib.ListN.{length, take, get_or}
use lib.Seq.{get_or-take, length-take-le}
use borrow.Author.Tests.{eq-eqb}
use Rattle.words.specs.Rows.{part}
use Rattle.le.specs.Le.{Number}
use Rattle.rules.specs.Sizes.{most_boxes}
use Rattle.rules.specs.Site.{Site}
use Rattle.rules.specs.Form.{form}
use Rattle.laws.proofs.Logic.{both-no, and_yes, eqb_yes}
use Rattle.laws.proofs.FormLaws.{sizes-says}
use Rattle.std.specs.Prelude.{Option, None}
use Rattle.cells.specs.Cells.{cells, Below, Stands, Found, WordsAre}
use Rattle.cells.proofs.StandLaws.{stands_seq, stands_as, stands-first, stands-rest}
use Rattle.cells.proofs.StandLaws.{stands-whole, stands-all}
use Rattle.cells.proofs.CodeLaws.{same-thing}
use Rattle.cells.proofs.FindLaws.{first_word}
use Rattle.image.specs.Image.{contents, table_of, image_of}
use Rattle.image.specs.Longest.{table_bytes, table_long}
use Rattle.image.specs.Parts.{Listed, n_in, listed, bodies_in, listed_bytes, GoodListed}
use Rattle.image.proofs.ListedLaws.{listed-good, listed-code}
use Rattle.image.proofs.TableLaws.{length-table, bodies-count, image-in}
use Rattle.image.proofs.SiteIn.{site_in, site-form, site-image}
use Rattle.image.proofs.Short.{table_below}
use Rattle.whole.specs.Boxes.{list_words, table_words}
use Rattle.whole.specs.Whole.{ListedFound, ListedIs, ImageFound}

-- ---- the image of a site by form

-- The table as words.
table-words : (t : Listed) → GoodListed t → {at : ℕ} → at ≡ table_long (n_in t)
    → cells 4 ((n_in t + 2) ∷ contents at (bodies_in t)) ≡ table_of (bodies_in t)
unfolding table_of
table-words t g {at} e =
    let n = bodies-count t g.boxes.count in
    let start : at ≡ 4 + 8 * length (bodies_in t) = omega arith in
    (λ i. cells 4 (sym n i ∷ contents (start i) (bodies_in t)))

module _ {src : List ℕ} (s : Site) (f : form s ≡ true) (e : image_of s ≡ src) where
  abbrev table : List ℕ
  table = table_of (bodies_in (listed s))

  good : GoodListed (listed s)
  good = listed-good s f

  few : n_in (listed s) ≤ most_boxes
  few = (sizes-says good.sizes).few-boxes

  all-stands : Stands (table ++ listed_bytes (listed s)) src 0 (length src)
  all-stands = stands-all (sym (image-in s) ∙ e)

  table-long : 0 + length table ≡ table_long (n_in (listed s))
  table-long =
      let n = bodies-count (listed s) good.boxes.count in
      omega (arith, length-table (bodies_in (listed s)))

  table-stands : Stands table src 0 (table_long (n_in (listed s)))
  table-stands =
      subst (Stands table src 0) table-long
      (stands-first table (listed_bytes (listed s)) all-stands)

  bodies_stand : {at : ℕ} → table_long (n_in (listed s)) ≡ at
      → Stands (listed_bytes (listed s)) src at (length src)
  bodies_stand long =
      subst (λ (k : ℕ). Stands (listed_bytes (listed s)) src k (length src)) (table-long ∙ long)
      (stands-rest table (listed_bytes (listed s)) all-stands)

  -- It is not shorter than its count.
  pub image-short : length src < 4 → ⊥
  image-short h = let room = table-stands.room in omega arith

-- ---- the bytes, by what was found in them

-- The words of the table, as many as a table of so many bodies has.
table-front : {src : List ℕ} {at q count : ℕ} {ws : List ℕ} (f : ListedFound src at ws q)
    → n_in f.found.thing + 2 ≡ count
    → take (list_words count) ws
    ≡ (n_in f.found.thing + 2) ∷ contents at (bodies_in f.found.thing)
table-front {count = count} {ws = ws} f e =
    let size : list_words count ≡ table_words (n_in f.found.thing) = omega arith in
    ap (λ (k : ℕ). take k ws) size ∙ f.table

module _ {src : List ℕ} {count : ℕ} (c : Number 4 (part src 0 4) count) where
  module _ (s : Site) (f : form s ≡ true) (e : image_of s ≡ src) where
    -- The count that is read is its own.
    counted : n_in (listed s) + 2 ≡ count
    counted =
        sym (first_word 4 _ (stands_as (sym (table-words (listed s) (good s f e) refl))
        (table-stands s f e)) (omega arith) (omega (arith, few s f e)) c)

    pub image-many : most_boxes + 2 < count → ⊥
    image-many h = omega (arith, counted, few s f e)

  -- The bodies are looked for behind a table of so many.
  module _ {at : ℕ} (begin : at ≡ table_bytes count) where
    module _ (s : Site) (f : form s ≡ true) (e : image_of s ≡ src) where
      found_at : Stands (listed_bytes (listed s)) src at (length src)
      found_at = bodies_stand s f e (omega (arith, counted s f e, begin))

      pub image-table : length src < at → ⊥
      image-table h = let next = found_at.next in omega arith

      pub image-bodies : (ws : List ℕ) {r : Option ℕ} → r ≡ None → ListedIs src at ws r → ⊥
      image-bodies ws bad none =
          subst (ListedIs src at ws) bad none (listed s) (length src) (good s f e) found_at

      -- What was found is what the site lists, so it ends where the bytes do, and has its table.
      pub image-other : {ws : List ℕ} {q : ℕ} → ListedFound src at ws q → (same : Bool)
          → WordsAre 4 (take (list_words count) ws) src 0 same
          → (same && eqb q (length src)) ≡ false → ⊥
      image-other {ws} {q} g same h e' = go same h e'
        where
          t : Listed
          t = g.found.thing

          is : t ≡ listed s
          is =
              same-thing listed_bytes GoodListed listed-code t (listed s) g.found.good
              (good s f e) g.found.stands found_at

          n : n_in t + 2 ≡ count
          n = ap (λ (u : Listed). n_in u + 2) is ∙ counted s f e

          end : q ≡ length src
          end =
              g.found.stands.next ∙ ap (λ (u : Listed). at + length (listed_bytes u)) is
              ∙ sym found_at.next

          words : take (list_words count) ws ≡ (n_in t + 2) ∷ contents at (bodies_in t)
          words = table-front g n

          go : (same : Bool) → WordsAre 4 (take (list_words count) ws) src 0 same
              → (same && eqb q (length src)) ≡ false → ⊥
          go true h e' = both-no (eq-eqb q (length src) end) e'
          go false h e' =
              let most = (sizes-says g.found.good.sizes).few-boxes in
              h (subst (Below (256 ^ 4)) (sym words)
              (table_below t at g.found.good (omega (arith, n, begin))))
              (table_long (n_in (listed s)))
              (stands_as
              (ap (λ (u : Listed). table_of (bodies_in u)) (sym is)
              ∙ sym (table-words t g.found.good (omega (arith, n, begin)))
              ∙ ap (cells 4) (sym words))
              (table-stands s f e))

    -- The table stands before the bodies, and nothing behind them.
    pub image-found : {ws : List ℕ} {q : ℕ} → ListedFound src at ws q
        → length ws ≡ table_words most_boxes → count ≤ most_boxes + 2
        → (same : Bool) → WordsAre 4 (take (list_words count) ws) src 0 same
        → (same && eqb q (length src)) ≡ true → ImageFound src at
    image-found {ws} {q} g wide top same h e' =
        let t = g.found.thing in
        let good = g.found.good in
        let b = and_yes same (eqb q (length src)) e' in
        let front = take (list_words count) ws in
        let w : WordsAre 4 front src 0 true = subst (WordsAre 4 front src 0) b.0 h in
        let long = length-take-le (list_words count) ws (omega arith) in
        let first : get_or front 0 0 ≡ n_in t + 2 =
        get_or-take (list_words count) ws 0 0 (omega arith)
        ∙ sym (get_or-take (table_words (n_in t)) ws 0 0 (omega arith))
        ∙ ap (λ (l : List ℕ). get_or l 0 0) g.table in
        let most = (sizes-says good.sizes).few-boxes in
        let n : n_in t + 2 ≡ count =
        sym (first_word 4 front w (omega arith) (omega (arith, first)) c ∙ first) in
        let place : at ≡ table_long (n_in t) = omega arith in
        let table = stands_as (ap (cells 4) (table-front g n) ∙ table-words t good place) w in
        let size : 0 + length front * 4 ≡ at = omega arith in
        let all = stands_seq (subst (Stands (table_of (bodies_in t)) src 0) size table)
        g.found.stands in
        record {
          site = site_in t;
          by_form = site-form t good;
          image = site-image t good ∙ sym (stands-whole
              (subst (Stands (table_of (bodies_in t) ++ listed_bytes t) src 0)
              (eqb_yes q (length src) b.1) all));
          place = place;
        }

-- Behind the table of an image stand its bodies, to the end.
module _ {src : List ℕ} {at : ℕ} (f : ImageFound src at) where
  pub bodies-there : Stands (listed_bytes (listed f.site)) src at (length src)
  unfolding listed
  bodies-there = bodies_stand f.site f.by_form f.image (sym f.place)

  abbrev pub image-has : Found listed_bytes GoodListed src at (length src)
  image-has = record {
    thing = listed f.site;
    good = listed-good f.site f.by_form;
    stands = bodies-there;
  }
