-- The head of a box and of a mail: its words are those of the groups, and what is found is said by
-- the first fault of them.
use mathlib.Core.Path.{◌≡◌, refl, sym, ap, ◌∙◌}
use Prim.Native.Nat.{ℕ, zero, suc, ◌+◌, ◌*◌, ◌≤◌, ◌<◌}
use native.Mathlib.Nat.{mul-le-mul}
use native.Mathlib.Numerals.{add-one}
use native.Mathlib.Omega.{arith}
use mathlib.Core.List.{List, [], ◌∷◌}
use lib.ListN.{length, drop, get_or, replicate}
use lib.Seq.{drop-cons}
use Rattle.words.specs.Rows.{splice}
use Rattle.rules.specs.declared.model.Kind.{Kind}
use Rattle.std.specs.Prelude.{Option, Some, None, Err}
use Rattle.values.specs.declared.Field.{Field}
use Rattle.letter.specs.Faults.{head_fault as letter_fault}
use Rattle.row.specs.Faults.{head_fault as box_fault}
use Rattle.cells.specs.declared.groups.Group.{Group}
use Rattle.cells.proofs.GroupLaws.{no_group}
use Rattle.image.specs.Image.{letter_groups}
use Rattle.image.specs.Longest.{box_head_long, letter_head_long}
use Rattle.found.specs.declared.Spot.{Spot}
use Rattle.found.specs.Found.{Found}
use Rattle.found.specs.Found.{Way}
use Rattle.found.specs.Stands.{words_at, groups_in}
use Rattle.found.specs.Found.{box_words_in, held_found, head_found, box_found, kind_in}
use Rattle.found.specs.Found.{letter_words_in, enclosed_way, head_way, letter_way}

-- ---- the groups of a head, one after another

-- The next group is read, and those behind it are left.
pub next-group : (gs : List Group) (i : ℕ) (src : List ℕ) (p : ℕ) (w : List ℕ) {v : List ℕ}
    → i < length gs
    → v ≡ splice w (get_or gs i no_group).from (get_or gs i no_group).count
    (words_at (get_or gs i no_group).width (get_or gs i no_group).count src p)
    → groups_in (drop (i + 1) gs) src
    (p + (get_or gs i no_group).count * (get_or gs i no_group).width) v
    ≡ groups_in (drop i gs) src p w
unfolding groups_in
next-group gs i src p w h e =
    let g = get_or gs i no_group in
    rw add-one
    (ap (groups_in (drop (suc i) gs) src (p + g.count * g.width)) e
    ∙ sym (ap (λ (l : List Group). groups_in l src p w) (drop-cons gs i no_group h)))

-- None is left.
pub no-group-left : (gs : List Group) (i : ℕ) (src : List ℕ) (p : ℕ) (w : List ℕ)
    → length gs ≤ i → w ≡ groups_in (drop i gs) src p w
unfolding groups_in
no-group-left gs i src p w h = ap (λ (l : List Group). groups_in l src p w) (sym (none gs i h))
  where
    none : (gs : List Group) (i : ℕ) → length gs ≤ i → drop i gs ≡ []
    none [] zero h = refl
    none [] (suc i) h = refl
    none (g ∷ gs) zero h = absurd (omega arith)
    none (g ∷ gs) (suc i) h = none gs i (omega arith)

pub group-small : (g : Group) → g.count ≤ 22 → g.width ≤ 8 → g.count * g.width ≤ 22 * 8
group-small g c k = mul-le-mul {n₂ = 22} {m₂ = 8} c k

pub same-groups : {gs hs : List Group} (src : List ℕ) (at : ℕ) (w : List ℕ) {v : List ℕ}
    → v ≡ groups_in gs src at w → gs ≡ hs → v ≡ groups_in hs src at w
same-groups src at w e same = e ∙ ap (λ (l : List Group). groups_in l src at w) same

-- ---- a box

module _ (n J b : ℕ) (body : List ℕ) {w : List ℕ} {f : Option Field} (words : w
    ≡ box_words_in n body)
    (fault : f ≡ box_fault n J b w) where
  faulted : box_fault n J b (box_words_in n body) ≡ f
  faulted = ap (box_fault n J b) (sym words) ∙ sym fault

  pub box-whole : {at : ℕ} {r : Found} → f ≡ None → at ≡ box_head_long n
      → r ≡ held_found body at → r ≡ box_found n J b body
  unfolding box_found
  box-whole none long e =
      e ∙ ap (held_found body) long
      ∙ sym (ap (λ (t : Option Field). head_found t (held_found body (box_head_long n)))
      (faulted ∙ none))

  pub box-aside : {x : Field} → f ≡ Some x → Err (Spot.At x) ≡ box_found n J b body
  unfolding box_found
  box-aside at =
      sym (ap (λ (t : Option Field). head_found t (held_found body (box_head_long n)))
      (faulted ∙ at))

-- ---- a mail

module _ (J a b i : ℕ) (src : List ℕ) (at : ℕ) {k : Kind} {w : List ℕ} {f : Option Field}
    (kind : k ≡ kind_in src at) (words : w ≡ groups_in (letter_groups k) src at (replicate 6 0))
    (fault : f ≡ letter_fault J w) where
  faulted-letter : letter_fault J (letter_words_in src at) ≡ f
  faulted-letter =
      ap (letter_fault J)
      (sym (words ∙ ap (λ (x : Kind). groups_in (letter_groups x) src at (replicate 6 0)) kind))
      ∙ sym fault

  abbrev enclosed : Way
  enclosed = enclosed_way a b i (kind_in src at) src at (at + letter_head_long (kind_in src at))

  pub letter-whole : {least : ℕ} {r : Way} → f ≡ None → least ≡ letter_head_long k
      → r ≡ enclosed_way a b i k src at (at + least) → r ≡ letter_way J a b src i at
  unfolding letter_way
  letter-whole {least} none long e =
      let here : at + least ≡ at + letter_head_long (kind_in src at) =
      ap (λ (x : ℕ). at + x) (long ∙ ap letter_head_long kind) in
      e ∙ (λ j. enclosed_way a b i (kind j) src at (here j))
      ∙ sym (ap (λ (t : Option Field). head_way a b i t enclosed) (faulted-letter ∙ none))

  pub letter-aside : {x : Field} → f ≡ Some x
      → Err (Spot.Mail a b i x) ≡ letter_way J a b src i at
  unfolding letter_way
  letter-aside e = sym (ap (λ (t : Option Field). head_way a b i t enclosed) (faulted-letter ∙ e))
