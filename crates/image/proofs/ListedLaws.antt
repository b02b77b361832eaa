-- What the bodies of a site hold: by form exactly where the site is, and told from their bytes.
use mathlib.Core.Path.{◌≡◌, refl, sym, ap, ◌∙◌, subst}
use mathlib.Core.Bool.{true, cond}
use Prim.Native.Nat.{ℕ, zero, suc, ◌+◌, ◌-◌, ◌≤◌, ◌<◌}
use native.Mathlib.Omega.{arith}
use mathlib.Core.List.{List, [], ◌∷◌, ◌++◌, map}
use lib.Dec.{leb}
use lib.ListN.{length, get_or}
use borrow.Author.Tests.{leb-true, le-leb}
use Rattle.rules.specs.Every.{tally}
use Rattle.rules.specs.Sizes.{most_boxes, most_loads, most_epoch, sizes_form}
use Rattle.rules.specs.Box.{Box, Letter}
use Rattle.rules.specs.Site.{Site, fresh_box}
use Rattle.rules.specs.Form.{form}
use Rattle.laws.proofs.Logic.{In, and_yes, and_both}
use Rattle.laws.proofs.Counts.{one-says, one-made}
use Rattle.laws.proofs.FormLaws.{sizes-says, sizes-made, FormedLink}
use Rattle.laws.proofs.FormLaws.{letter-says, letter-made, FormedBox, box-says, box-made}
use Rattle.laws.proofs.FormLaws.{Formed, form-says, form-made}
use Rattle.laws.proofs.Logic as logic
use Rattle.values.proofs.SetLaws.{set-fits}
use Rattle.memory.specs.Memory.{link_index}
use Rattle.cells.specs.Cells.{chain, cells, Each, All}
use Rattle.cells.proofs.ChainLaws.{each-made, each_at, each_map}
use Rattle.cells.proofs.CodeLaws.{Code, Parts, chain-code, cancel-same, regroup, told-code}
use Rattle.image.specs.Image.{numbers_from, boxes_of, links_of, box_body, link_bytes}
use Rattle.image.specs.Parts.{GoodLetter, GoodLink, GoodBox, SomeBox, GoodBoxes, GoodLinks}
use Rattle.image.specs.Parts.{Words}
use Rattle.image.specs.Parts.{leaders, Listed, n_in, JIn, LIn, listed, listed_bytes, GoodListed}
use Rattle.image.proofs.OrderLaws.{from_snoc, length-boxes, boxes-at, length-links}
use Rattle.image.proofs.OrderLaws.{link-index, links-at, all-links}
use Rattle.image.proofs.RecordLaws.{all_of, all-to}
use Rattle.image.proofs.LetterLaws.{words-code, link-code}
use Rattle.image.proofs.BoxLaws.{box-code}

-- ---- leaders

pub leaders_snoc : (l : List Box) (x : Box)
    → leaders (l ++ (x ∷ [])) ≡ cond x.head.leads 1 0 + leaders l
unfolding leaders
leaders_snoc [] x = refl
leaders_snoc (y ∷ l) x = omega (arith, leaders_snoc l x)

map_snoc {ℓ κ} : {A : Type ℓ} {B : Type κ} (f : A → B) (l : List A) (x : A)
    → map f (l ++ (x ∷ [])) ≡ map f l ++ (f x ∷ [])
map_snoc f [] x = refl
map_snoc f (y ∷ l) x = rw (map_snoc f l x)

-- The boxes that lead, counted in their order, are as many as the model counts.
pub leaders-tally : (f : ℕ → Box) (k : ℕ)
    → leaders (map f (numbers_from 1 k)) ≡ tally k (λ b. (f b).head.leads)
unfolding leaders tally numbers_from
leaders-tally f zero = refl
leaders-tally f (suc k) =
    let e : 1 + k ≡ suc k = omega arith in
    ap leaders (ap (map f) (from_snoc 1 k) ∙ map_snoc f (numbers_from 1 k) (1 + k))
    ∙ leaders_snoc (map f (numbers_from 1 k)) (f (1 + k))
    ∙ rw (e, leaders-tally f k)

-- ---- by form

module _ (s : Site) where
  pub listed-good : form s ≡ true → GoodListed (listed s)
  unfolding listed boxes_of Each
  listed-good e =
      let f = form-says e in
      let n = f.sizes.few-boxes in
      let J = f.sizes.few-loads in
      let L = f.sizes.few-mails in
      let epoch = f.few_epochs in
      let present = set-fits s.n s.present n f.present in
      record {
        words = record {
          width = refl;
          below = (omega arith, (omega arith, (omega arith, (omega arith, (omega arith, tt)))));
        };
        sizes = sizes-made f.sizes;
        epoch = and_both (le-leb 1 s.epoch f.some-epoch)
            (le-leb s.epoch most_epoch epoch);
        present = f.present;
        boxes = record {
          count = length-boxes s;
          each = each-made (λ i. GoodBox s.n s.J (i + 1)) (boxes_of s) fresh_box (box f);
        };
        one-leader = rw (leaders-tally s.box s.n) (one-made s.n _ f.one-leader);
        links = record {
          count = length-links s;
          each = all-links s (GoodLink s.J s.L)
              (λ a b ha hb ab. link (f.links a b ha hb ab));
        };
      }
    where
      box : Formed s → (i : ℕ) → i < length (boxes_of s)
          → GoodBox s.n s.J (i + 1) (get_or (boxes_of s) i fresh_box)
      box f i h =
          let k : i < s.n = omega (arith, length-boxes s) in
          rw (boxes-at s i fresh_box k) (box-made (f.boxes (i + 1) (omega arith, omega arith)))

      link : {a b : ℕ} → FormedLink s a b → GoodLink s.J s.L (s.link a b)
      link f = record {
        room = f.room;
        letters = all_of
            (logic.All-map (λ y. letter-made) f.letters);
      }

  pub good-listed : GoodListed (listed s) → form s ≡ true
  unfolding listed boxes_of
  good-listed g =
      let epoch = and_yes (leb 1 s.epoch) (leb s.epoch most_epoch) g.epoch in
      form-made
      (record {
        sizes = sizes-says g.sizes;
        some-epoch = leb-true 1 s.epoch epoch.0;
        few_epochs = leb-true s.epoch most_epoch epoch.1;
        present = g.present;
        boxes = box;
        one-leader = one-says s.n _ (rw (leaders-tally s.box s.n) at g.one-leader);
        links = link;
      })
    where
      box : (b : ℕ) → In b s.n → FormedBox s.n s.J b (s.box b)
      box b h =
          let low = h.0 in
          let top = h.1 in
          let same : b - 1 + 1 ≡ b = omega arith in
          let k : b - 1 < length (boxes_of s) = omega (arith, length-boxes s) in
          let good = each_at (λ i. GoodBox s.n s.J (i + 1)) (boxes_of s) (b - 1) fresh_box k
          g.boxes.each in
          box-says
          (subst (λ (c : ℕ). GoodBox s.n s.J c (s.box c)) same
          (rw (boxes-at s (b - 1) fresh_box (omega arith)) at good))

      link : (a b : ℕ) → In a s.n → In b s.n → (a ≡ b → ⊥) → FormedLink s a b
      link a b ha hb ab =
          let i = link_index s.n a b in
          let k : i < length (links_of s) =
          omega (arith, length-links s, link-index s.n a b ha hb ab) in
          let good = each_at (λ i. GoodLink s.J s.L) (links_of s) i [] k g.links.each in
          let here : GoodLink s.J s.L (s.link a b) =
          subst (GoodLink s.J s.L) (links-at s a b [] ha hb ab) good in
          record {
            room = here.room;
            letters = logic.All-map (λ y. letter-says)
                (all-to (GoodLetter s.J) (s.link a b) here.letters);
          }

-- ---- told from their bytes

abbrev rest_bytes : Listed → List ℕ
rest_bytes t = chain (box_body (n_in t)) t.boxes ++ chain link_bytes t.links

pub listed-split : (t : Listed) → listed_bytes t ≡ cells 4 t.general ++ rest_bytes t
unfolding listed_bytes
listed-split t = refl

abbrev pub listed-parts : Parts listed_bytes GoodListed (cells 4) (Words 5)
listed-parts = record {
  code = words-code 5;
  first = λ t. t.general;
  rest = rest_bytes;
  split = λ t g. listed-split t;
  range = λ t g. g.words;
}

-- Boxes of the same sizes are told from their bytes ..
pub boxes-code : (n J : ℕ) → n ≤ most_boxes → J ≤ most_loads → (x y : List Box) (r s : List ℕ)
    → GoodBoxes n J x → GoodBoxes n J y
    → chain (box_body n) x ++ r ≡ chain (box_body n) y ++ s → x ≡ y
boxes-code n J few loads x y r s gx gy e =
    chain-code (box_body n) (SomeBox n J) (box-code n J few loads) x y r s
    (gx.count ∙ sym gy.count) (some x gx.each) (some y gy.each) e
  where
    some : (l : List Box) → Each (λ i. GoodBox n J (i + 1)) l → All (SomeBox n J) l
    some l h = each_map (λ i. GoodBox n J (i + 1)) (λ i. SomeBox n J) (λ i x g. (i + 1, g)) l h

-- .. and so are boxes and links.
pub rest-code : (n J L : ℕ) → sizes_form n J L ≡ true → (x y : List Box) (k l : List (List Letter))
    (r s : List ℕ) → GoodBoxes n J x → GoodBoxes n J y → GoodLinks n J L k → GoodLinks n J L l
    → (chain (box_body n) x ++ chain link_bytes k) ++ r
    ≡ (chain (box_body n) y ++ chain link_bytes l)
    ++ s
    → (x ≡ y) × (k ≡ l)
rest-code n J L sizes x y k l r s gx gy gk gl e =
    let z = sizes-says sizes in
    let f = regroup (chain (box_body n) x) (chain link_bytes k) r (chain (box_body n) y)
    (chain link_bytes l) s e in
    let boxes : x ≡ y =
    boxes-code n J z.few-boxes z.few-loads x y (chain link_bytes k ++ r)
    (chain link_bytes l ++ s) gx gy f in
    let links : k ≡ l =
    chain-code link_bytes (GoodLink J L) (link-code J L z.few-loads z.few-mails) k l r s
    (gk.count ∙ sym gl.count) gk.each gl.each
    (cancel-same (chain (box_body n) x) (chain (box_body n) y) (ap (chain (box_body n)) boxes) f) in
    (boxes, links)

pub listed-code : Code listed_bytes GoodListed
listed-code t u r s g h e =
    let p = told-code listed-parts t u r s g h e in
    let w : u.general ≡ t.general = sym p.0 in
    let boxes : GoodBoxes (n_in t) (JIn t) u.boxes =
    subst (λ (v : List ℕ). GoodBoxes (get_or v 0 0) (get_or v 1 0) u.boxes) w h.boxes in
    let links : GoodLinks (n_in t) (JIn t) (LIn t) u.links =
    subst (λ (v : List ℕ). GoodLinks (get_or v 0 0) (get_or v 1 0) (get_or v 2 0) u.links) w
    h.links in
    let same : rest_bytes t ++ r
    ≡ (chain (box_body (n_in t)) u.boxes ++ chain link_bytes u.links) ++ s =
    p.1
    ∙ ap (λ (v : List ℕ). (chain (box_body (get_or v 0 0)) u.boxes ++ chain link_bytes u.links)
    ++ s) w in
    let z = rest-code (n_in t) (JIn t) (LIn t) g.sizes t.boxes u.boxes t.links
    u.links
    r s g.boxes boxes g.links links same in
    λ i. record { general = p.0 i; boxes = z.0 i; links = z.1 i }
