-- All boxes in bytes: found with their leaders counted and their entries noted, or none there.
use mathlib.Core.Path.{◌≡◌, refl, sym, ap, ◌∙◌}
use mathlib.Core.Bool.{Bool, true, false, cond}
use Prim.Native.Nat.{ℕ, suc, ◌+◌, ◌-◌, ◌^◌, ◌≤◌, ◌<◌}
use native.Mathlib.Numerals.{add-one}
use native.Mathlib.Omega.{arith}
use mathlib.Core.List.{List, [], ◌∷◌, ◌++◌, map, append_assoc, append-nil}
use lib.ListN.{length, take, drop, set, length-set}
use lib.Seq.{take-suc-set}
use Rattle.words.specs.Rows.{part}
use Rattle.le.specs.Le.{le, Number}
use Rattle.rules.specs.Sizes.{most_boxes, most_loads}
use Rattle.rules.specs.Numbers.{flag_number}
use Rattle.rules.specs.Box.{Box}
use Rattle.row.specs.Row.{best_at}
use Rattle.std.specs.Prelude.{Option, None}
use Rattle.cells.specs.Cells.{chain, cells, Found, NoneAt, WalkIs}
use Rattle.cells.proofs.ChainLaws.{chain-map}
use Rattle.cells.proofs.StandLaws.{stands_as, stands-le, stands-first}
use Rattle.cells.proofs.CodeLaws.{le-code, same-thing}
use Rattle.cells.proofs.WalkLaws.{Walked, walk_none, walk-next, walk-all, walk-stop}
use Rattle.image.specs.Image.{box_groups, box_words, box_body, contents}
use Rattle.image.specs.Parts.{GoodBox, leaders}
use Rattle.image.proofs.OrderLaws.{map-append}
use Rattle.image.proofs.HeadedLaws.{first_word}
use Rattle.image.proofs.BoxLaws.{box-split, box-code}
use Rattle.image.proofs.Lengths.{length-box}
use Rattle.image.proofs.ListedLaws.{leaders_snoc, boxes-code}
use Rattle.image.proofs.TableLaws.{contents_append}
use Rattle.whole.specs.Boxes.{box_entry, LedBoxes, BoxesFound}

-- ---- entries

-- Two words put behind the first k.
pub enter_law : (xs : List ℕ) (k x y p d : ℕ) → k + 2 ≤ length xs → x ≡ p → y ≡ d
    → take (k + 2) (set (set xs k x) (k + 1) y) ≡ take k xs ++ (p ∷ d ∷ [])
enter_law xs k x y p d h ex ey =
    let one = set xs k x in
    let n : length one ≡ length xs = length-set xs k x in
    let e : k + 2 ≡ suc (k + 1) = omega arith in
    ap (λ (i : ℕ). take i (set one (k + 1) y)) e
    ∙ take-suc-set one (k + 1) y (omega arith)
    ∙ ap (λ (i : ℕ). take i one ++ (y ∷ [])) (add-one k)
    ∙ ap (λ (l : List ℕ). l ++ (y ∷ [])) (take-suc-set xs k x (omega arith))
    ∙ append_assoc (take k xs) (x ∷ []) (y ∷ [])
    ∙ (λ i. take k xs ++ (ex i ∷ ey i ∷ []))

-- The entries of one body more.
pub contents_snoc : {A : Type 0} (enc : A → List ℕ) (at : ℕ) (l : List A) (x : A)
    → contents at (map enc (l ++ (x ∷ [])))
    ≡ contents at (map enc l) ++ ((at + length (chain enc l)) ∷ length (enc x) ∷ [])
unfolding contents
contents_snoc enc at l x =
    ap (contents at) (map-append enc l (x ∷ []))
    ∙ contents_append at (map enc l) (enc x ∷ [])
    ∙ ap (λ (b : List ℕ). contents at (map enc l) ++ ((at + length b) ∷ length (enc x) ∷ []))
    (chain-map (λ b. b) enc l)

-- ---- a box's flag

flag_is : (b : Bool) → (flag_number b ≡ cond b 1 0) × (flag_number b ≤ 1)
flag_is true = (refl, omega arith)
flag_is false = (refl, omega arith)

-- A box's bytes begin with its flag.
flag-first : (n : ℕ) (x : Box)
    → (rest : List ℕ) × (box_body n x ≡ le 4 (flag_number x.head.leads) ++ rest)
flag-first n x = (
  _,
  box-split n x
      ∙ ap (λ (l : List ℕ). l ++ cells 8 x.records)
      (first_word 4 (best_at - 1) (drop 1 (box_groups n)) (box_words x) (omega arith))
      ∙ append_assoc (le 4 (flag_number x.head.leads)) _ (cells 8 x.records),
)

module _ {n : ℕ} (few : n ≤ most_boxes) {Good : Box → Type 0} {src : List ℕ} {p q : ℕ}
    (g : Found (box_body n) Good src p q) where
  -- There is room for it where a box stands.
  pub flag-room : p + 4 ≤ length src
  flag-room =
      let next = g.stands.next in
      let room = g.stands.room in
      omega (arith, length-box n g.thing few)

  -- So the word that is read there says whether the box leads.
  module _ {flag : ℕ} (e : Number 4 (part src p 4) flag) where
    flag-number : flag ≡ flag_number g.thing.head.leads
    flag-number =
        let leads = g.thing.head.leads in
        let first = flag-first n g.thing in
        same-thing (le 4) (λ y. y < 256 ^ 4) (le-code 4) flag (flag_number leads) e.below
        (omega (arith, (flag_is leads).1)) (stands-le 4 src p flag flag-room e)
        (stands-first (le 4 (flag_number leads)) first.0 (stands_as first.1 g.stands))

    pub flag_one : flag ≤ 1
    flag_one = omega (arith, flag-number, (flag_is g.thing.head.leads).1)

    flag-told : flag ≡ cond g.thing.head.leads 1 0
    flag-told = flag-number ∙ (flag_is g.thing.head.leads).0

-- ---- one box after another

-- The words us of the table have become ws. The first i boxes are found: p is the place behind
-- them, so many lead, and their entries stand behind that of the general body.
pub record BoxesTo (n J : ℕ) (src : List ℕ) (at : ℕ) (us ws : List ℕ) (i p leads : ℕ) : Type 0
  where
    pub walked : Walked (box_body n) (λ k. GoodBox n J (k + 1)) src at n i p
    pub few-lead : leads ≤ i
    pub size : length ws ≡ length us
    pub leading : leads ≡ leaders walked.found.thing
    pub entries : take (box_entry i) ws
        ≡ take (box_entry 0) us ++ contents at (map (box_body n) walked.found.thing)

module _ {n J : ℕ} {src : List ℕ} {at : ℕ} {us : List ℕ} where
  pub boxes-none : at ≤ length src → BoxesTo n J src at us us 0 at 0
  unfolding leaders contents
  boxes-none h = record {
    walked = walk_none h;
    few-lead = omega arith;
    size = refl;
    leading = refl;
    entries = sym (append-nil (take (box_entry 0) us));
  }

  module _ {ws : List ℕ} {i p leads : ℕ} (f : BoxesTo n J src at us ws i p leads) where
    pub boxes-more : {vs : List ℕ} {q flag : ℕ} → n ≤ most_boxes → i < n
        → Found (box_body n) (GoodBox n J (i + 1)) src p q → Number 4 (part src p 4) flag
        → length vs ≡ length ws
        → take (box_entry i + 2) vs ≡ take (box_entry i) ws ++ (p ∷ (q - p) ∷ [])
        → BoxesTo n J src at us vs (i + 1) q (leads + flag)
    boxes-more {vs} {q} few h g e kept entry =
        let l = f.walked.found.thing in
        let enc = box_body n in
        let begin : p ≡ at + length (chain enc l) = f.walked.found.stands.next in
        let end : q ≡ p + length (enc g.thing) = g.stands.next in
        let long : q - p ≡ length (enc g.thing) = omega arith in
        let size : box_entry (i + 1) ≡ box_entry i + 2 = omega arith in
        record {
          walked = walk-next f.walked h g;
          few-lead = omega (arith, f.few-lead, flag_one few g e);
          size = kept ∙ f.size;
          leading = omega (arith, f.leading, flag-told few g e, leaders_snoc l g.thing);
          entries =
              ap (λ (k : ℕ). take k vs) size ∙ entry
              ∙ ap (λ (t : List ℕ). t ++ (p ∷ (q - p) ∷ [])) f.entries
              ∙ append_assoc (take (box_entry 0) us) (contents at (map enc l)) (p ∷ (q - p) ∷ [])
              ∙ ap (λ (t : List ℕ). take (box_entry 0) us ++ t)
              ((λ k. contents at (map enc l) ++ (begin k ∷ long k ∷ []))
              ∙ sym (contents_snoc enc at l g.thing));
        }

    module _ (few : n ≤ most_boxes) (loads : J ≤ most_loads) where
      -- The next is not by form.
      pub boxes-stop : i < n → {r : Option ℕ} → r ≡ None
          → WalkIs (box_body n) (GoodBox n J (i + 1)) src p r
          → NoneAt (chain (box_body n)) (LedBoxes n J) src at
      boxes-stop h bad none xs q g w =
          walk-stop (box-code n J few loads) (λ k x g. (k + 1, g)) f.walked h bad none xs q
          g.boxes w

      -- More than one leads.
      pub boxes-led : n ≤ i → 1 < leads → NoneAt (chain (box_body n)) (LedBoxes n J) src at
      boxes-led h more xs q g w =
          let all = walk-all f.walked h in
          let same : all.thing ≡ xs =
          boxes-code n J few loads all.thing xs (drop p src) (drop q src) all.good g.boxes
          (sym all.stands.here ∙ w.here) in
          let one = g.one-leader in
          omega (arith, f.leading, ap leaders same)

    -- All of them.
    pub boxes-all : n ≤ i → leads ≤ 1 → BoxesFound n J src at (take (box_entry 0) us) ws p
    boxes-all h one =
        let all = walk-all f.walked h in
        let few = f.walked.few in
        let same : n ≡ i = omega arith in
        record {
          found = record {
            thing = all.thing;
            good = record { boxes = all.good; one-leader = omega (arith, f.leading) };
            stands = all.stands;
          };
          entries = ap (λ (k : ℕ). take (box_entry k) ws) same ∙ f.entries;
        }
