-- From an image by form to the bodies that stand in it, and from these to what `read` says.
use mathlib.Core.Path.{◌≡◌, sym, ap, ◌∙◌, subst, subst₃}
use mathlib.Core.Bool.{true, false}
use Prim.Native.Nat.{ℕ, ◌≤◌}
use mathlib.Core.List.{List, ◌++◌}
use lib.ListN.{length}
use Rattle.rules.specs.Site.{Site}
use Rattle.rules.specs.declared.model.Setting.{Setting}
use Rattle.memory.specs.Memory.{site_words, links_words, enough, past_site, past_links, site_of}
use Rattle.memory.specs.Parts.{words_form}
use Rattle.memory.proofs.FormLaws.{words_say}
use Rattle.cells.specs.Cells.{Has}
use Rattle.image.specs.Image.{image_of, table_of}
use Rattle.image.specs.Parts.{Listed, n_in, JIn, LIn, listed, bodies_in, listed_bytes, GoodListed}
use Rattle.image.proofs.TableLaws.{image-in}
use Rattle.whole.specs.Whole.{ImageFound}
use Rattle.whole.proofs.ImageLaws.{image-has}
use Rattle.image.proofs.GeneralLaws.{GeneralRead, n-is, J-is, L-is}
use Rattle.store.specs.Store.{RoomFor, SiteStored}
use Rattle.reader.specs.Reader.{enough_for, Holds}

-- Sites of which the same is listed have the same image.
pub listed-image : (s t : Site) → listed s ≡ listed t → image_of s ≡ image_of t
listed-image s t e =
    image-in s ∙ ap (λ (l : Listed). table_of (bodies_in l) ++ listed_bytes l) e ∙ sym (image-in t)

-- ---- w are the general words that were read, z the sizes that they say

-- Whatever bodies stand there have these sizes.
pub room-found : {src : List ℕ} {at p : ℕ} {w : List ℕ} (z : Setting) (xs ls : List ℕ)
    → GeneralRead src at p w z.n z.j z.l → words_form z xs ls ≡ true
    → RoomFor src at xs ls
room-found z xs ls g r = record {
  words = λ t q h s.
      subst₃ (λ (n J L : ℕ). (site_words n J ≤ length xs) × (links_words n J L ≤ length ls))
      (n-is g h s) (J-is g h s) (L-is g h s) (words_say z xs ls r);
}

module _ {src : List ℕ} {at : ℕ} (f : ImageFound src at) where
  pub bodies-has : Has listed_bytes GoodListed src at
  bodies-has = record { place = length src; found = image-has f }

  pub no_room : {p : ℕ} {w : List ℕ} (z : Setting) (xs ls : List ℕ)
      → GeneralRead src at p w z.n z.j z.l → words_form z xs ls ≡ false
      → enough_for f.site xs ls ≡ false
  unfolding listed
  no_room z xs ls g r =
      let good = (image-has f).good in
      let s = (image-has f).stands in
      sym (λ i. enough (n-is g good s i) (J-is g good s i) (L-is g good s i) xs ls) ∙ r

  -- What is stored is the image's site.
  pub held-site : {xs ls ys ks : List ℕ} → SiteStored src at xs ls ys ks → Holds src xs ls ys ks
  unfolding listed site_of
  held-site {xs} {ls} {ys} {ks} got =
      let h = got (length src) (image-has f) in
      record {
        form = h.form;
        image = listed-image (site_of ys ks) f.site h.site ∙ f.image;
        site-words = h.site-words;
        links-words = h.links-words;
        past-site = subst (λ (t : Listed).
            past_site (n_in t) (JIn t) ys ≡ past_site (n_in t) (JIn t) xs) (sym h.site)
            h.past-site;
        past-links = subst (λ (t : Listed).
            past_links (n_in t) (JIn t) (LIn t) ks ≡ past_links (n_in t) (JIn t) (LIn t) ls)
            (sym h.site) h.past-links;
      }
