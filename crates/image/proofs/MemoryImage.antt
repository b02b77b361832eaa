-- The site that lent words hold: two memories by form with the same image hold the same site; and
-- how long the image of words by form can be.
use mathlib.Core.Path.{◌≡◌, ap}
use mathlib.Core.Bool.{Bool, true, cond}
use Prim.Native.Nat.{ℕ, ◌+◌, ◌*◌, ◌≤◌}
use native.Mathlib.Omega.{arith}
use mathlib.Core.List.{List, []}
use lib.ListN.{length, get_or}
use borrow.Author.Tests.{leb-true}
use Rattle.rules.specs.Site.{fresh_box}
use Rattle.rules.specs.Form.{form}
use Rattle.laws.proofs.Logic.{passed}
use Rattle.laws.proofs.FormLaws.{sizes-says}
use Rattle.row.specs.Row.{box_of}
use Rattle.link.specs.Link.{link_of}
use Rattle.memory.specs.Memory.{site_words, links_words, row_at, link_at, site_of, roomy}
use Rattle.memory.specs.Memory.{memory_form}
use Rattle.image.specs.Image.{image_of, Bounded}
use Rattle.image.specs.Longest.{longest, longest_of_all}
use Rattle.image.proofs.OneImage.{one-site}
use Rattle.image.proofs.LongestLaws.{image-most, longest-grows, longest-words, any_image}

pub memory_bounded : (xs ls : List ℕ) → Bounded (site_of xs ls)
unfolding site_of
memory_bounded xs ls =
    let n = get_or xs 0 0 in
    let J = get_or xs 1 0 in
    let L = get_or xs 2 0 in
    record {
      box = λ b h. ap (λ (t : Bool). cond t (box_of n (row_at J xs b)) fresh_box) h;
      link = λ a b h. ap (λ (t : Bool). cond t (link_of J L (link_at n J L ls a b)) []) h;
    }

pub memory_formed : (xs ls : List ℕ) → memory_form xs ls ≡ true → form (site_of xs ls) ≡ true
unfolding memory_form
memory_formed xs ls e = (passed _ e).1.0

pub one_memory : (xs ls ys ks : List ℕ) → memory_form xs ls ≡ true → memory_form ys ks ≡ true
    → image_of (site_of xs ls) ≡ image_of (site_of ys ks) → site_of xs ls ≡ site_of ys ks
one_memory xs ls ys ks f g e =
    one-site (site_of xs ls) (site_of ys ks) (memory_formed xs ls f) (memory_formed ys ks g)
    (memory_bounded xs ls) (memory_bounded ys ks) e

-- ---- how long

module _ (xs ls : List ℕ) (e : memory_form xs ls ≡ true) where
  -- As the words' own sizes allow.
  pub memory_most : length (image_of (site_of xs ls))
      ≤ longest (get_or xs 0 0) (get_or xs 1 0) (get_or xs 2 0)
  unfolding site_of
  memory_most = image-most (site_of xs ls) (memory_formed xs ls e)

  -- As sizes allow that theirs do not exceed.
  pub memory_within : (n J L : ℕ) → get_or xs 0 0 ≤ n → get_or xs 1 0 ≤ J → get_or xs 2 0 ≤ L
      → length (image_of (site_of xs ls)) ≤ longest n J L
  memory_within n J L hn hJ hL = omega (arith, memory_most, longest-grows hn hJ hL)

  -- Any words.
  pub any_memory : length (image_of (site_of xs ls)) ≤ longest_of_all
  any_memory = any_image (site_of xs ls) (memory_formed xs ls e)

  -- Eight bytes for each word, whatever the sizes.
  pub memory_words : length (image_of (site_of xs ls)) ≤ 8 * (length xs + length ls)
  unfolding memory_form roomy
  memory_words =
      let n = get_or xs 0 0 in
      let J = get_or xs 1 0 in
      let L = get_or xs 2 0 in
      let t = passed _ (passed _ e).0 in
      let site : site_words n J ≤ length xs = leb-true _ _ t.1.0 in
      let links : links_words n J L ≤ length ls = leb-true _ _ t.1.1.0 in
      omega (arith, memory_most, longest-words (sizes-says t.0))
