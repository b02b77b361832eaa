-- All bodies in bytes: found with the words of their table of contents, or none there.
use mathlib.Core.Path.{◌≡◌, refl, sym, ap, ◌∙◌, subst, subst₃}
use mathlib.Core.Bool.{true, false, false≢true}
use Prim.Native.Nat.{ℕ, ◌+◌, ◌-◌, ◌≤◌}
use native.Mathlib.Omega.{arith}
use mathlib.Core.List.{List, [], ◌∷◌, ◌++◌, map, append_assoc}
use lib.ListN.{length, take, set, get_or}
use lib.Seq.{take-suc-set}
use borrow.Author.Tests.{le-leb}
use Rattle.rules.specs.Sizes.{sizes_form}
use Rattle.laws.proofs.Logic.{passed, pass}
use Rattle.laws.proofs.FormLaws.{FormedSizes}
use Rattle.memory.specs.Memory.{n_at, general_words}
use Rattle.memory.specs.Parts.{general_form}
use Rattle.std.specs.Prelude.{Option, Some, None}
use Rattle.cells.specs.Cells.{chain, Stands, Found, NoneAt}
use Rattle.cells.proofs.StandLaws.{stands_seq, stands_as, stands-first, read-end}
use Rattle.cells.proofs.CodeLaws.{Parts, told}
use Rattle.image.specs.Image.{box_body, link_bytes, contents}
use Rattle.image.specs.Longest.{general_long}
use Rattle.image.specs.Parts.{GoodLinks, Listed, n_in, listed_bytes, GoodListed}
use Rattle.image.proofs.ListedLaws.{boxes-code, listed-split}
use Rattle.image.proofs.TableLaws.{contents_in}
use Rattle.image.proofs.GeneralLaws.{GeneralRead, general-words, general-is, n-is, J-is, L-is}
use Rattle.image.proofs.GeneralLaws.{others_stand}
use Rattle.whole.specs.Boxes.{count_entry, general_entry, box_entry, mail_entry, table_words}
use Rattle.whole.specs.Boxes.{LedBoxes, BoxesFound, BoxesAre}
use Rattle.whole.specs.Whole.{MailFound, MailIs, rest_bytes, GoodRest, rest_entries}
use Rattle.whole.specs.Whole.{RestFound, RestIs, ListedIs}

-- ---- the mail

pub mail-then : {n J L : ℕ} {src : List ℕ} {at q : ℕ} {ws vs : List ℕ}
    → Found (chain link_bytes) (GoodLinks n J L) src at q
    → take (mail_entry n + 2) vs ≡ take (mail_entry n) ws ++ (at ∷ (q - at) ∷ [])
    → MailFound n J L src at ws vs q
mail-then {n} {at = at} {q = q} {ws = ws} {vs = vs} f e =
    let end = f.stands.next in
    let long : q - at ≡ length (chain link_bytes f.thing) = omega arith in
    let size : table_words n ≡ mail_entry n + 2 = omega arith in
    record {
      found = f;
      entry =
          ap (λ (k : ℕ). take k vs) size ∙ e
          ∙ ap (λ (k : ℕ). take (mail_entry n) ws ++ (at ∷ k ∷ [])) long;
    }

-- ---- the boxes and the mail

abbrev rest-parts : {n J L : ℕ} → FormedSizes n J L
    → Parts (rest_bytes n) (GoodRest n J L) (chain (box_body n)) (LedBoxes n J)
rest-parts {n} {J} z = record {
  code = λ a b r s g h e.
      boxes-code n J z.few-boxes z.few-loads a b r s g.boxes h.boxes e;
  first = λ c. c.0;
  rest = λ c. chain link_bytes c.1;
  split = λ c g. refl;
  range = λ c g. g.boxes;
}

module _ {n J L : ℕ} (z : FormedSizes n J L) (src : List ℕ) (at : ℕ) (front ws : List ℕ) where
  pub rest-none : {r : Option ℕ} → r ≡ None → BoxesAre n J src at front ws r
      → NoneAt (rest_bytes n) (GoodRest n J L) src at
  rest-none bad b c q g w =
      subst (BoxesAre n J src at front ws) bad b c.0 (at + length (chain (box_body n) c.0))
      g.boxes (stands-first (chain (box_body n) c.0) (chain link_bytes c.1) w)

  pub boxes-found : {r : Option ℕ} {p : ℕ} → r ≡ Some p → BoxesAre n J src at front ws r
      → BoxesFound n J src at front ws p
  boxes-found e b = subst (BoxesAre n J src at front ws) e b

  pub rest_then : (vs : List ℕ) {p : ℕ} → BoxesFound n J src at front ws p → (r : Option ℕ)
      → MailIs n J L src p ws vs r → RestIs n J L src at front vs r
  rest_then vs {p} b (Some q) m =
      let boxes = b.found.thing in
      let begin : p ≡ at + length (chain (box_body n) boxes) = b.found.stands.next in
      let mail = length (chain link_bytes m.found.thing) in
      let entries = contents at (map (box_body n) boxes) in
      record {
        found = record {
          thing = (boxes, m.found.thing);
          good = record { boxes = b.found.good; links = m.found.good };
          stands = stands_seq b.found.stands m.found.stands;
        };
        entries =
            m.entry ∙ ap (λ (l : List ℕ). l ++ (p ∷ mail ∷ [])) b.entries
            ∙ append_assoc front entries (p ∷ mail ∷ [])
            ∙ ap (λ (k : ℕ). front ++ (entries ++ (k ∷ mail ∷ []))) begin;
      }
  rest_then vs b None none = λ c q g w.
      let e = told (rest-parts z) b.found.thing b.found.good b.found.stands c q g w in
      none c.1 q g.links e.1

-- ---- all bodies

module _ {src : List ℕ} {at p : ℕ} {w : List ℕ} {n J L : ℕ}
    (g : GeneralRead src at p w n J L) where
  module _ {t : Listed} {q : ℕ} (h : GoodListed t) (v : Stands (listed_bytes t) src at q) where
    pub rest-good : GoodRest n J L (t.boxes, t.links)
    rest-good = subst₃ (λ (x y z : ℕ). GoodRest x y z (t.boxes, t.links)) (sym (n-is g h v))
        (sym (J-is g h v)) (sym (L-is g h v)) (record {
          boxes = record { boxes = h.boxes; one-leader = h.one-leader };
          links = h.links;
        })

    pub rest-stands : Stands (rest_bytes n (t.boxes, t.links)) src p q
    rest-stands =
        subst (λ (x : ℕ). Stands (rest_bytes x (t.boxes, t.links)) src p q) (sym (n-is g h v))
        (others_stand g h v)

  general-form : (t : Listed) → GoodListed t → general_form t.general ≡ true
  unfolding general_form
  general-form t h =
      let n = h.words.width in
      pass _ (
        le-leb general_words (length t.general) (omega arith),
        (h.sizes, (h.epoch, (h.present, tt))),
      )

  pub listed-none : general_form w ≡ false → NoneAt listed_bytes GoodListed src at
  listed-none f t q h v =
      absurd (false≢true (sym f ∙ ap general_form (general-is g h v) ∙ general-form t h))

  module _ (formed : general_form w ≡ true) where
    pub general-sizes : sizes_form n J L ≡ true
    unfolding general_form
    general-sizes =
        (λ i. sizes_form (g.n-said i) (g.J-said i) (g.L-said i)) ∙ (passed _ formed).1.0

    -- The count and the entry of the general body stand before the others'.
    pub listed_then : (front vs : List ℕ) (r : Option ℕ)
        → front ≡ (n + 2) ∷ at ∷ general_long ∷ [] → RestIs n J L src p front vs r
        → ListedIs src at vs r
    unfolding general_form
    listed_then front vs (Some q) e rest =
        let begun = subst (λ (l : List ℕ). RestFound n J L src p l vs q) e rest in
        let f = subst₃
        (λ (x y z : ℕ). RestFound x y z src p ((x + 2) ∷ at ∷ general_long ∷ []) vs q)
        g.n-said g.J-said g.L-said begun in
        let said = (passed _ formed).1 in
        let c = f.found.thing in
        let t : Listed = record { general = w; boxes = c.0; links = c.1 } in
        let begin : p ≡ at + general_long = read-end general_words g.read g.five in
        record {
          found = record {
            thing = t;
            good = record {
              words = general-words g;
              sizes = said.0;
              epoch = said.1.0;
              present = said.1.1.0;
              boxes = f.found.good.boxes.boxes;
              one-leader = f.found.good.boxes.one-leader;
              links = f.found.good.links;
            };
            stands =
                stands_as (sym (listed-split t)) (stands_seq g.read.stands f.found.stands);
          };
          table =
              f.entries
              ∙ ap (λ (k : ℕ). (n_in t + 2) ∷ at ∷ general_long ∷ rest_entries (n_in t) k c) begin
              ∙ ap (λ (l : List ℕ). (n_in t + 2) ∷ l) (sym (contents_in t at g.five));
        }
    listed_then front vs None e none = λ t q h v.
        none (t.boxes, t.links) q (rest-good h v) (rest-stands h v)

-- The count and the entry of the general body, as they are put.
pub front_law : {src : List ℕ} {at p : ℕ} {w : List ℕ} {n J L : ℕ} → GeneralRead src at p w n J L
    → (xs vs : List ℕ) → 1 ≤ length xs
    → take (box_entry 0) vs ≡ take general_entry (set xs count_entry (get_or w n_at 0 + 2))
    ++ (at ∷ (p - at) ∷ [])
    → take (box_entry 0) vs ≡ (n + 2) ∷ at ∷ general_long ∷ []
front_law {at = at} {p = p} {w = w} {n = n} g xs vs h e =
    let begin = read-end general_words g.read g.five in
    let long : p - at ≡ general_long = omega arith in
    let put : get_or w n_at 0 + 2 ≡ n + 2 = omega (arith, g.n-said) in
    e ∙ ap (λ (l : List ℕ). l ++ (at ∷ (p - at) ∷ [])) (take-suc-set xs 0 _ (omega arith))
    ∙ (λ i. put i ∷ at ∷ long i ∷ [])
