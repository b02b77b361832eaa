-- By form, as the code looks at it: the general words, the lengths, each row, each link.
use Prim.Native.Nat.{ℕ, ◌+◌, ◌-◌, ◌*◌, ◌≤◌, ◌<◌}
use mathlib.Core.Path.{◌≡◌, refl, sym, ap, ◌∙◌}
use mathlib.Core.Bool.{Bool, true, false, ◌&&◌, and-true}
use mathlib.Core.List.{List}
use native.Mathlib.Nat.{add-sub_cancel}
use native.Mathlib.Omega.{arith}
use lib.Dec.{eqb, leb}
use lib.ListN.{length, get_or}
use borrow.Author.Tests.{leb-true, le-leb, eq-eqb, ne_eqb}
use Rattle.rules.specs.Every.{all, each, every, tally}
use Rattle.rules.specs.Sizes.{most_epoch, sizes_form, within}
use Rattle.rules.specs.Sets.{set_form}
use Rattle.rules.specs.Box.{Box, Letter}
use Rattle.rules.specs.Site.{is_link}
use Rattle.rules.specs.Form.{form_box, form_letter, form_link, form}
use Rattle.rules.specs.declared.model.Setting.{Setting}
use Rattle.laws.proofs.Logic.{Or, left, right, In, both-no, same?, and_yes, and_both, or_left}
use Rattle.laws.proofs.Logic.{or_right, passed, ◌&◌, none, made, every-at, every_made}
use Rattle.laws.proofs.Counts.{tally_ext}
use Rattle.laws.proofs.FormLaws.{sizes-says, is-box, box-is, is-link}
use Rattle.row.specs.Row.{row_fits, row_form}
use Rattle.values.proofs.SetLaws.{set-fits}
use Rattle.link.specs.Link.{link_form}
use Rattle.link.proofs.TestLaws.{same_test, not_yes, or_else}
use Rattle.link.proofs.LinkLaws.{fits-says, length-link}
use Rattle.memory.specs.Memory.{site_words, links_words, row_at, link_index, site_of, memory_form}
use Rattle.memory.specs.Memory.{general_words}
use Rattle.memory.specs.After.{setting_at, GeneralLent, boxes_of, links_of, RowsLent, LinksLent}
use Rattle.memory.specs.After.{link_row}
use Rattle.memory.specs.Parts.{general_form, words_form, row_test, leads_test, rows_form, link_test}
use Rattle.memory.specs.Parts.{links_form}
use Rattle.memory.proofs.EveryLaws.{PassTo}
use Rattle.memory.proofs.LentLaws.{readable-rows, readable-links, readable-made}
use Rattle.memory.proofs.LentLaws.{form-readable, form-site, form_both}
use Rattle.memory.proofs.SizeLaws.{link-is, index_below, Numbered, numbered}
use Rattle.memory.proofs.RowLaws.{box-at, row-form}
use Rattle.memory.proofs.LinkLaws.{link-letters, link-length}

-- ---- the general words

pub record General (xs : List ℕ) : Type 0 where
  pub words : general_words ≤ length xs
  pub sizes : sizes_form (get_or xs 0 0) (get_or xs 1 0) (get_or xs 2 0) ≡ true
  pub epoch : within 1 most_epoch (get_or xs 3 0) ≡ true
  pub present : set_form (get_or xs 0 0) (get_or xs 4 0) ≡ true

pub general-says : {xs : List ℕ} → general_form xs ≡ true → General xs
unfolding general_form
general-says {xs} e = let p = passed _ e in record {
  words = leb-true 5 (length xs) p.0;
  sizes = p.1.0;
  epoch = p.1.1.0;
  present = p.1.1.1.0;
}

pub general-made : {xs : List ℕ} → General xs → general_form xs ≡ true
unfolding general_form
general-made {xs} h =
    made (le-leb 5 (length xs) h.words & h.sizes & h.epoch & h.present & none)

module _ (xs : List ℕ) where
  pub no-five : length xs < 5 → false ≡ general_form xs
  no-five h = not_yes (general_form xs) (λ e. omega (arith, (general-says e).words))

  pub no-sizes : sizes_form (get_or xs 0 0) (get_or xs 1 0) (get_or xs 2 0) ≡ false
      → false ≡ general_form xs
  no-sizes f = not_yes (general_form xs) (λ e. both-no (general-says e).sizes f)

  -- the epoch and the present set are left
  pub general-rest : general_words ≤ length xs
      → sizes_form (get_or xs 0 0) (get_or xs 1 0) (get_or xs 2 0) ≡ true
      → (n : ℕ) (p : Bool) → n ≡ get_or xs 0 0 → p ≡ set_form n (get_or xs 4 0)
      → (within 1 most_epoch (get_or xs 3 0) && p) ≡ general_form xs
  unfolding general_form all
  general-rest h sizes n p en ep = rw (le-leb 5 (length xs) h, sizes, ep, en, and-true)

pub general-lent : {xs : List ℕ} → General xs → GeneralLent xs
general-lent {xs} h =
    let z = sizes-says h.sizes in
    let e = and_yes (leb 1 (get_or xs 3 0)) (leb (get_or xs 3 0) most_epoch) h.epoch in
    record {
      words = h.words;
      n = omega arith;
      j = omega arith;
      l = omega arith;
      epoch = omega (arith, leb-true (get_or xs 3 0) most_epoch e.1);
      present = set-fits (get_or xs 0 0) (get_or xs 4 0) z.few-boxes h.present;
    }

-- ---- the lengths

pub words_say : (s : Setting) (xs ls : List ℕ) → words_form s xs ls ≡ true
    → (site_words s.n s.j ≤ length xs) × (links_words s.n s.j s.l ≤ length ls)
words_say s xs ls w =
    let p = and_yes (leb (site_words s.n s.j) (length xs))
    (leb (links_words s.n s.j s.l) (length ls)) w in
    (leb-true _ _ p.0, leb-true _ _ p.1)

-- ---- the rows

module _ (s : Setting) (xs : List ℕ) where
  pub rows-not : false ≡ every s.n (row_test s xs) → false ≡ rows_form s xs
  unfolding rows_form
  rows-not f = not_yes (rows_form s xs) (λ e. both-no (passed _ e).0 (sym f))

  -- all n have passed, and so many lead
  pub rows_end : {b leaders : ℕ} → PassTo (row_test s xs) s.n b → s.n ≤ b
      → leaders ≡ tally b (leads_test s xs) → leb leaders 1 ≡ rows_form s xs
  unfolding rows_form all
  rows_end {b} to h f =
      let n : b ≡ s.n = omega (arith, to.few) in
      rw (rw n at to.all, and-true)
      (ap (λ (k : ℕ). leb k 1) (f ∙ ap (λ (k : ℕ). tally k (leads_test s xs)) n))

-- ---- all of it; the setting is read as that of a box 0

-- what the code has found
pub record Found (xs ls : List ℕ) : Type 0 where
  pub general : General xs
  pub words : words_form (setting_at xs 0) xs ls ≡ true
  pub rows : rows_form (setting_at xs 0) xs ≡ true
  pub links : links_form (setting_at xs 0) ls ≡ true

module _ (xs ls : List ℕ) where
  abbrev s : Setting
  s = setting_at xs 0

  -- the boxes of the site are those of the rows
  leads-same : (b : ℕ) → In b s.n → leads_test s xs b ≡ (boxes_of s xs b).head.leads
  leads-same b h = ap (λ (x : Box). x.head.leads) (box-at s b xs (box-is h) refl)

  -- ---- by form, and so found

  -- a letter by form on a link of the site is one in its row
  link-found : {i : ℕ} → LinksLent s ls → Numbered s.n i
      → every s.n (λ a. every s.n (form_link (site_of xs ls) a)) ≡ true
      → link_form s.j s.l (link_row s ls i) ≡ true
  unfolding site_of form_link link_form
  link-found lent k e =
      let h = is-link k.link in
      let letters = link-letters s k.from k.to ls lent k.link refl in
      let test = every-at s.n _ (every-at s.n _ e k.from h.0) k.to h.1 in
      let room = leb (length (links_of s ls k.from k.to)) s.l in
      let both = or_else (eqb k.from k.to) _ test (ne_eqb k.from k.to h.2) in
      ap (λ (x : ℕ). link_form s.j s.l (link_row s ls x)) (sym k.index)
      ∙ made
      (lent.fits k.from k.to k.link
      & ap (λ (l : List Letter). each (form_letter s.j) l) letters ∙ (and_yes room _ both).1
      & none)

  pub found : memory_form xs ls ≡ true → Found xs ls
  unfolding form site_of rows_form links_form
  found e =
      let p = passed _ (form-site xs ls e) in
      let rows = readable-rows xs ls 0 (form-readable xs ls e) in
      let links = readable-links xs ls 0 (form-readable xs ls e) in
      record {
        general = record {
          words = omega (arith, rows.words);
          sizes = p.0;
          epoch = p.1.0;
          present = p.1.1.0;
        };
        words = and_both (le-leb _ _ rows.words) (le-leb _ _ links.words);
        rows = made
            (every_made s.n (row_test s xs)
            (λ b h. row-form s b xs (box-is h) rows (every-at s.n _ p.1.1.1.0 b h))
            & ap (λ (k : ℕ). leb k 1) (tally_ext s.n _ _ leads-same) ∙ p.1.1.1.1.0
            & none);
        links = every_made (s.n * (s.n - 1)) (link_test s ls)
            (λ k h. link-found links (numbered s.n (k - 1) (omega (arith, h.0, h.1)))
            p.1.1.1.1.1.0);
      }

  -- ---- found, and so by form

  module _ (f : Found xs ls) where
    row-found : (b : ℕ) → In b s.n
        → (row_fits s.j (row_at s.j xs b) ≡ true)
        × (form_box s.n s.j b (boxes_of s xs b) ≡ true)
    unfolding rows_form row_form
    row-found b h =
        let p = passed _ (every-at s.n (row_test s xs) (passed _ f.rows).0 b h) in
        let here = sym (box-at s b xs (box-is h) refl) in
        (p.0, ap (λ (x : Box). form_box s.n s.j b x) here ∙ p.1.0)

    link_at : (a b : ℕ) → is_link s.n a b ≡ true
        → link_form s.j s.l (link_row s ls (link_index s.n a b)) ≡ true
    unfolding links_form
    link_at a b h =
        let i = link_index s.n a b in
        ap (λ (k : ℕ). link_form s.j s.l (link_row s ls k)) (sym (add-sub_cancel i 1))
        ∙ every-at (s.n * (s.n - 1)) (link_test s ls) f.links (i + 1)
        (omega arith, omega (arith, index_below s.n a b h))

    rows-lent : RowsLent s xs
    rows-lent = record {
      sizes = f.general.sizes;
      words = (words_say s xs ls f.words).0;
      fits = λ b h. (row-found b (is-box h)).0;
    }

    links-lent : LinksLent s ls
    unfolding link_form
    links-lent = record {
      sizes = f.general.sizes;
      words = (words_say s xs ls f.words).1;
      fits = λ a b h. (passed _ (link_at a b h)).0;
    }

    link-by-form : (a b : ℕ) → In a s.n → In b s.n → Or (a ≡ b) (a ≡ b → ⊥)
        → form_link (site_of xs ls) a b ≡ true
    unfolding site_of form_link link_form
    link-by-form a b ha hb (left e) = or_left _ (eq-eqb a b e)
    link-by-form a b ha hb (right e) =
        let h = link-is s.n a b ha hb e in
        let r = link_row s ls (link_index s.n a b) in
        let p = passed _ (link_at a b h) in
        let few : length (links_of s ls a b) ≤ s.l =
        omega (
          arith,
          (fits-says p.0).count,
          length-link s.j s.l r,
          link-length s a b ls links-lent h refl,
        ) in
        or_right (eqb a b)
        (and_both (le-leb _ _ few)
        (ap (λ (l : List Letter). each (form_letter s.j) l)
        (sym (link-letters s a b ls links-lent h refl)) ∙ p.1.0))

    pub from_found : memory_form xs ls ≡ true
    unfolding form site_of rows_form
    from_found =
        form_both xs ls (readable-made xs ls 0 rows-lent links-lent)
        (made
        (f.general.sizes
        & f.general.epoch
        & f.general.present
        & every_made s.n _ (λ b h. (row-found b h).1)
        & ap (λ (k : ℕ). leb k 1) (sym (tally_ext s.n _ _ leads-same)) ∙ (passed _ f.rows).1.0
        & every_made s.n _
        (λ a ha. every_made s.n _ (λ b hb. link-by-form a b ha hb (same? a b)))
        & none))

  -- ---- what the code answers; t is the setting that it has read

  module _ (t : Setting) (e : t ≡ s) where
    pub sizes-read : general_form xs ≡ true → sizes_form t.n t.j t.l ≡ true
    sizes-read g =
        ap (λ (x : Setting). sizes_form x.n x.j x.l) e ∙ (general-says g).sizes

    pub no_words : words_form t xs ls ≡ false → false ≡ memory_form xs ls
    no_words f =
        not_yes (memory_form xs ls)
        (λ g. both-no (found g).words (ap (λ (x : Setting). words_form x xs ls) (sym e) ∙ f))

    pub no_rows : rows_form t xs ≡ false → false ≡ memory_form xs ls
    no_rows f =
        not_yes (memory_form xs ls)
        (λ g. both-no (found g).rows (ap (λ (x : Setting). rows_form x xs) (sym e) ∙ f))

    -- the links are left
    pub links-rest : general_form xs ≡ true → words_form t xs ls ≡ true → rows_form t xs ≡ true
        → links_form t ls ≡ memory_form xs ls
    links-rest g w r =
        ap (λ (x : Setting). links_form x ls) e
        ∙ same_test (links_form s ls) (memory_form xs ls)
        (λ l. from_found (record {
          general = general-says g;
          words = ap (λ (x : Setting). words_form x xs ls) (sym e) ∙ w;
          rows = ap (λ (x : Setting). rows_form x xs) (sym e) ∙ r;
          links = l;
        }))
        (λ f. (found f).links)

  pub no-general : general_form xs ≡ false → false ≡ memory_form xs ls
  no-general f = not_yes (memory_form xs ls) (λ g. both-no (general-made (found g).general) f)
