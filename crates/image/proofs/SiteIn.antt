-- The site that bodies by form hold: every such thing is what some site by form lists.
use mathlib.Core.Path.{◌≡◌, refl, sym, ap, ◌∙◌, subst}
use mathlib.Core.Bool.{true}
use Prim.Native.Nat.{ℕ, ◌+◌, ◌-◌, ◌*◌, ◌<◌}
use native.Mathlib.Nat.{zero-add}
use native.Mathlib.Omega.{arith}
use mathlib.Core.List.{List, [], ◌++◌, map}
use lib.ListN.{length, get_or, length-map}
use lib.Seq.{ext_get_or}
use Rattle.words.proofs.PartLaws.{gets-all}
use Rattle.rules.specs.Site.{Site, fresh_box}
use Rattle.rules.specs.Form.{form}
use Rattle.memory.specs.Memory.{link_index}
use Rattle.image.specs.Image.{numbers_from, boxes_of, links_of, table_of, image_of}
use Rattle.image.specs.Parts.{Listed, n_in, JIn, LIn, listed, bodies_in, listed_bytes}
use Rattle.image.specs.Parts.{GoodListed}
use Rattle.image.proofs.OrderLaws.{map_at, length_from, from-at, length-boxes, boxes-at}
use Rattle.image.proofs.OrderLaws.{pairs_flat}
use Rattle.image.proofs.ListedLaws.{good-listed}
use Rattle.image.proofs.TableLaws.{image-in}

-- box b stands at the index b − 1, the link from a to b at its own
abbrev pub site_in : Listed → Site
site_in t = record {
  n = n_in t;
  J = JIn t;
  L = LIn t;
  epoch = get_or t.general 3 0;
  present = get_or t.general 4 0;
  box = λ b. get_or t.boxes (b - 1) fresh_box;
  link = λ a b. get_or t.links (link_index (n_in t) a b) [];
}

-- A list is what stands at its indices.
pub at_indices {ℓ} : {A : Type ℓ} (d : A) (l : List A) (m : ℕ) → length l ≡ m
    → map (λ (k : ℕ). get_or l k d) (numbers_from 0 m) ≡ l
at_indices d l m e =
    let at : ℕ → _ = λ k. get_or l k d in
    let count : length (map at (numbers_from 0 m)) ≡ m =
    length-map (numbers_from 0 m) at ∙ length_from 0 m in
    ext_get_or d (map at (numbers_from 0 m)) l (count ∙ sym e)
    (λ i h.
    let k : i < m = omega arith in
    map_at at (numbers_from 0 m) i d 0 (omega (arith, length_from 0 m))
    ∙ ap at (from-at 0 m i 0 k ∙ zero-add i))

-- It lists just that.
pub listed-site : (t : Listed) → GoodListed t → listed (site_in t) ≡ t
unfolding listed links_of
listed-site t g =
    λ i. record {
      general = gets-all 0 t.general 5 g.words.width i;
      boxes = boxes i;
      links = links i;
    }
  where
    boxes : boxes_of (site_in t) ≡ t.boxes
    boxes =
        let s = site_in t in
        let n = g.boxes.count in
        ext_get_or fresh_box (boxes_of s) t.boxes (length-boxes s ∙ sym n)
        (λ i h.
        let same : i + 1 - 1 ≡ i = omega arith in
        boxes-at s i fresh_box (omega (arith, length-boxes s))
        ∙ ap (λ (k : ℕ). get_or t.boxes k fresh_box) same)

    links : links_of (site_in t) ≡ t.links
    links =
        pairs_flat (n_in t) (site_in t).link (λ k. get_or t.links k []) [] (λ a b ha hb ab. refl)
        ∙ at_indices [] t.links (n_in t * (n_in t - 1)) g.links.count

-- So it is by form, and these are its image.
pub site-form : (t : Listed) → GoodListed t → form (site_in t) ≡ true
site-form t g = good-listed (site_in t) (subst GoodListed (sym (listed-site t g)) g)

pub site-image : (t : Listed) → GoodListed t
    → image_of (site_in t) ≡ table_of (bodies_in t) ++ listed_bytes t
site-image t g =
    image-in (site_in t)
    ∙ ap (λ (u : Listed). table_of (bodies_in u) ++ listed_bytes u) (listed-site t g)
