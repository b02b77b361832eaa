-- A row of the lent words is put back: it is there, and all else is as it was.
use Prim.Native.Nat.{ℕ, ◌+◌, ◌-◌, ◌*◌, ◌≤◌, ◌<◌}
use mathlib.Core.Path.{◌≡◌, refl, sym, ap, ◌∙◌}
use mathlib.Core.Bool.{Bool, true, false, ◌&&◌, cond}
use mathlib.Core.List.{List, []}
use native.Mathlib.Omega.{arith}
use lib.Dec.{eqb}
use lib.ListN.{length, take, drop, length-drop}
use borrow.Author.Tests.{eq-eqb}
use Rattle.words.specs.Rows.{part, splice}
use Rattle.words.proofs.PartLaws.{take-splice, drop-splice, drop_past, length-splice, part-splice}
use Rattle.words.proofs.PartLaws.{part-drop}
use Rattle.words.proofs.RowLaws.{row-end, part-other}
use Rattle.rules.specs.Box.{Box, Letter}
use Rattle.rules.specs.Site.{fresh_box, is_box, is_link, upd}
use Rattle.rules.specs.declared.model.Setting.{Setting}
use Rattle.laws.proofs.Logic.{Or, left, right, In, both-no, eqb_yes, eqb_no, same?, and_yes}
use Rattle.laws.proofs.Logic.{and_both}
use Rattle.laws.proofs.FormLaws.{is-box}
use Rattle.row.specs.Row.{box_of, row_fits}
use Rattle.link.specs.Link.{link_width, link_of, link_fits}
use Rattle.link.specs.Holds.{Holds}
use Rattle.memory.specs.Memory.{site_words, links_words, row_start, row_at, link_index}
use Rattle.row.specs.Row.{row_width}
use Rattle.memory.specs.Memory.{general_words}
use Rattle.memory.specs.After.{boxes_of, links_of, RowsLent, LinksLent, link_row, RowSet}
use Rattle.memory.specs.After.{LinkSet, RowsPut, LinksPut}
use Rattle.memory.proofs.SizeLaws.{row_within, index_below, index_same}

-- the part from p to e is w words from a on, as it is cut out and as it comes back
module _ (w : ℕ) {p e a : ℕ} (xs : List ℕ) (start : p ≡ a) (end : e ≡ p + w) where
  width : e - p ≡ w
  width = omega arith

  pub part_cut : take (e - p) (drop p xs) ≡ part xs a w
  part_cut = rw (width, start)

  pub part-put : (ys : List ℕ) → splice xs p (e - p) ys ≡ splice xs a w ys
  part-put ys = rw (width, start)

-- a thing that a test chooses is the same where it is in each case
pub cond_same {ℓ} : {A : Type ℓ} (t : Bool) {x y u v : A}
    → (t ≡ true → x ≡ u) → (t ≡ false → y ≡ v) → cond t x y ≡ cond t u v
cond_same true f g = f refl
cond_same false f g = g refl

-- ---- one box's row

module _ (s : Setting) (b : ℕ) (xs ys : List ℕ) (h : is_box s.n b ≡ true)
    (long : site_words s.n s.j ≤ length xs) (e : length ys ≡ row_width s.j) where
  abbrev row-after : List ℕ
  row-after = splice xs (row_start s.j b) (row_width s.j) ys

  row_inside : row_start s.j b + row_width s.j ≤ length xs
  row_inside = omega (arith, row_within s.j s.n b h)

  row_other : (c : ℕ) → is_box s.n c ≡ true → (c ≡ b → ⊥)
      → row_at s.j row-after c ≡ row_at s.j xs c
  row_other c g ne =
      let w = row_width s.j in
      let hb : In b s.n = is-box h in
      let hc : In c s.n = is-box g in
      let rows : s.n * w ≤ length (drop general_words xs) = rw length-drop (omega arith) in
      sym (part-drop 5 ((c - 1) * w) w row-after)
      ∙ ap (λ (l : List ℕ). part l ((c - 1) * w) w)
      (drop-splice 5 ((b - 1) * w) w xs ys (omega (arith, row_inside)))
      ∙ part-other w s.n (b - 1) (c - 1) (drop general_words xs) ys (omega (arith, hb.0, hb.1))
      (omega (arith, hc.0, hc.1)) (omega (arith, hb.0, hc.0)) rows e
      ∙ part-drop 5 ((c - 1) * w) w xs

  pub row-set : (x : Box) → box_of s.n ys ≡ x → row_fits s.j ys ≡ true
      → RowSet s b x xs row-after
  row-set x ex f =
      let w = row_width s.j in
      let here = part-splice (row_start s.j b) w xs ys row_inside e in
      record {
        box = ap (box_of s.n) here ∙ ex;
        fits = ap (row_fits s.j) here ∙ f;
        others = row_other;
        general = take-splice 5 ((b - 1) * w) w xs ys (omega (arith, row_inside));
        past = drop_past (row_start s.j b) w (site_words s.n s.j) xs ys
            (row_within s.j s.n b h) row_inside e;
        words = length-splice (row_start s.j b) w xs ys row_inside e;
      }

-- where all rows could be read, they can still
pub rows-set : (s : Setting) (b : ℕ) (x : Box) (xs xs' : List ℕ) → RowsLent s xs
    → is_box s.n b ≡ true → RowSet s b x xs xs' → RowsPut s (upd (boxes_of s xs) b x) xs xs'
rows-set s b x xs xs' lent h e = record {
  boxes = λ t. λ c. box c (eqb c b) refl t;
  general = e.general;
  past = e.past;
  words = e.words;
  lent = record {
    sizes = lent.sizes;
    words = rw e.words lent.words;
    fits = λ c g. fit c g (same? c b);
  };
}
  where
    box : (c : ℕ) (t : Bool) → eqb c b ≡ t → boxes_of s xs' c ≡ cond t x (boxes_of s xs c)
    box c true d =
        ap (boxes_of s xs') (eqb_yes c b d)
        ∙ ap (λ (t : Bool). cond t (box_of s.n (row_at s.j xs' b)) fresh_box) h
        ∙ e.box
    box c false d =
        cond_same (is_box s.n c)
        (λ g. ap (box_of s.n) (e.others c g (eqb_no c b d))) (λ g. refl)

    fit : (c : ℕ) → is_box s.n c ≡ true → Or (c ≡ b) (c ≡ b → ⊥)
        → row_fits s.j (row_at s.j xs' c) ≡ true
    fit c g (left d) = ap (λ (k : ℕ). row_fits s.j (row_at s.j xs' k)) d ∙ e.fits
    fit c g (right d) = ap (row_fits s.j) (e.others c g d) ∙ lent.fits c g

-- ---- one link's row

pub link_set : (s : Setting) (k : ℕ) (ls ys : List ℕ) (zs : List Letter)
    → k < s.n * (s.n - 1) → links_words s.n s.j s.l ≤ length ls
    → Holds s.j s.l ys zs
    → LinkSet s k zs ls (splice ls (k * link_width s.j s.l) (link_width s.j s.l) ys)
link_set s k ls ys zs h long e =
    let w = link_width s.j s.l in
    let inside : k * w + w ≤ length ls = omega (arith, row-end w h) in
    let here = part-splice (k * w) w ls ys inside e.width in
    record {
      letters = ap (link_of s.j s.l) here ∙ e.letters;
      fits = ap (link_fits s.j s.l) here ∙ e.fits;
      others = λ i g ne. part-other w (s.n * (s.n - 1)) k i ls ys h g ne long e.width;
      past = drop_past (k * w) w (links_words s.n s.j s.l) ls ys (row-end w h) inside
          e.width;
      words = length-splice (k * w) w ls ys inside e.width;
    }

-- where all links could be read, they can still
module _ (s : Setting) (a b : ℕ) (ys : List Letter) (ls ls' : List ℕ) (lent : LinksLent s ls)
    (h : is_link s.n a b ≡ true) (e : LinkSet s (link_index s.n a b) ys ls ls') where
  one_link : (x y : ℕ) (t : Bool) → (eqb x a && eqb y b) ≡ t
      → links_of s ls' x y ≡ cond t ys (links_of s ls x y)
  one_link x y true d =
      let p = and_yes (eqb x a) (eqb y b) d in
      (λ t. links_of s ls' (eqb_yes x a p.0 t) (eqb_yes y b p.1 t))
      ∙ ap (λ (t : Bool).
      cond t (link_of s.j s.l (link_row s ls' (link_index s.n a b))) []) h
      ∙ e.letters
  one_link x y false d =
      cond_same (is_link s.n x y)
      (λ g. ap (link_of s.j s.l) (e.others (link_index s.n x y)
      (index_below s.n x y g) (λ p. other (index_same s.n x y a b g h p))))
      (λ g. refl)
    where
      other : (x ≡ a) × (y ≡ b) → ⊥
      other p = both-no (and_both (eq-eqb x a p.0) (eq-eqb y b p.1)) d

  one-fits : (x y : ℕ) → is_link s.n x y ≡ true
      → Or (link_index s.n x y ≡ link_index s.n a b)
      (link_index s.n x y ≡ link_index s.n a b → ⊥)
      → link_fits s.j s.l (link_row s ls' (link_index s.n x y)) ≡ true
  one-fits x y g (left d) =
      ap (λ (k : ℕ). link_fits s.j s.l (link_row s ls' k)) d ∙ e.fits
  one-fits x y g (right d) =
      ap (link_fits s.j s.l) (e.others _ (index_below s.n x y g) d) ∙ lent.fits x y g

  pub links-set : (f : ℕ → ℕ → List Letter)
      → ((x y : ℕ) → cond (eqb x a && eqb y b) ys (links_of s ls x y) ≡ f x y) → LinksPut s f ls ls'
  links-set f same = record {
    links = λ t. λ x y. (one_link x y (eqb x a && eqb y b) refl ∙ same x y) t;
    past = e.past;
    words = e.words;
    lent = record {
      sizes = lent.sizes;
      words = rw e.words lent.words;
      fits = λ x y g. one-fits x y g (same? (link_index s.n x y) (link_index s.n a b));
    };
  }
