-- A scan of the places that a link holds, in order, finds whether the link is by form.
use Prim.Native.Nat.{ℕ, ◌+◌, ◌≤◌, ◌<◌}
use mathlib.Core.Path.{◌≡◌, sym, ap, ◌∙◌}
use mathlib.Core.Bool.{Bool, true, false}
use mathlib.Core.List.{List, []}
use native.Mathlib.Omega.{arith}
use lib.ListN.{length, drop, get_or}
use Rattle.rules.specs.Every.{each}
use Rattle.laws.proofs.Logic.{passed}
use Rattle.letter.specs.Place.{place_form}
use Rattle.values.proofs.AllLaws.{each-go, each-stop, each-end}
use Rattle.link.specs.Link.{places, link_form}
use Rattle.link.specs.Holds.{place_in}
use Rattle.link.proofs.TestLaws.{not_yes}
use Rattle.link.proofs.LinkLaws.{LinkFits, fits-says, length-places, place_at, form-held}

-- Where one of the two words is out of range, the link is not by form.
module _ (J L : ℕ) (r : List ℕ) where
  form-fits : link_form J L r ≡ true → LinkFits J L r
  unfolding link_form
  form-fits e = fits-says (passed _ e).0

  pub first-no : (s : ℕ) → s ≡ get_or r 0 0 → L ≤ s → false ≡ link_form J L r
  first-no s e h = not_yes (link_form J L r) (λ f. omega (arith, (form-fits f).first))

  pub count_no : (c : ℕ) → c ≡ get_or r 1 0 → L < c → false ≡ link_form J L r
  count_no c e h = not_yes (link_form J L r) (λ f. omega (arith, (form-fits f).count))

-- The two words s and c are in range, and i of the places held are by form: the others decide.
pub record Scan (J L : ℕ) (r : List ℕ) (s c i : ℕ) : Type 0 where
  pub first : s ≡ get_or r 0 0
  pub count : c ≡ get_or r 1 0
  pub below : s < L
  pub most : c ≤ L
  pub left : link_form J L r ≡ each (place_form J) (drop i (places J L r))

module _ {J L : ℕ} {r : List ℕ} {s c : ℕ} where
  pub scan_begin : s ≡ get_or r 0 0 → c ≡ get_or r 1 0 → s < L → c ≤ L → Scan J L r s c 0
  scan_begin es ec below most = record {
    first = es;
    count = ec;
    below = below;
    most = most;
    left = form-held J L r (omega arith) (omega arith);
  }

  module _ {i : ℕ} (at : Scan J L r s c i) where
    pub scan_end : c ≤ i → true ≡ link_form J L r
    scan_end h =
        let past : length (places J L r) ≤ i = omega (arith, length-places J L r, at.count) in
        sym (at.left ∙ each-end (place_form J) [] (places J L r) i past)

    -- t is what the place says that is next
    module _ (h : i < c) {t : Bool} (e : t ≡ place_form J (place_in J L s i r)) where
      inside : i < length (places J L r)
      inside = omega (arith, length-places J L r, at.count)

      here : t ≡ place_form J (get_or (places J L r) i [])
      here =
          e
          ∙ ap (λ (x : ℕ). place_form J (place_in J L x i r)) at.first
          ∙ ap (place_form J) (sym (place_at J L r (omega arith) (omega arith) i (omega arith)))

      pub scan_go : t ≡ true → Scan J L r s c (i + 1)
      scan_go g = record {
        first = at.first;
        count = at.count;
        below = at.below;
        most = at.most;
        left = at.left ∙ each-go (place_form J) [] (places J L r) i t inside here g;
      }

      pub scan_stop : t ≡ false → false ≡ link_form J L r
      scan_stop g = sym (at.left ∙ each-stop (place_form J) [] (places J L r) i t inside here g)
