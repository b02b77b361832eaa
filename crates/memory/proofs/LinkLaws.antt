-- What the functions of one link have computed, in terms of all links.
use Prim.Native.Nat.{ℕ, ◌+◌, ◌-◌, ◌*◌, ◌≤◌, ◌<◌}
use mathlib.Core.Path.{◌≡◌, refl, sym, ap, ◌∙◌}
use mathlib.Core.Bool.{Bool, true, false, ◌&&◌, and-false, cond}
use mathlib.Core.List.{List, [], ◌∷◌, ◌++◌, tail}
use native.Mathlib.Omega.{arith}
use lib.Dec.{eqb}
use lib.ListN.{length, take, drop}
use Rattle.words.specs.Rows.{part, splice}
use Rattle.words.proofs.PartLaws.{length_part, part-part}
use Rattle.words.proofs.RowLaws.{row-end}
use Rattle.rules.specs.Sizes.{sizes_form}
use Rattle.rules.specs.Sets.{has}
use Rattle.rules.specs.Box.{Letter}
use Rattle.rules.specs.Site.{is_link}
use Rattle.rules.specs.declared.model.Setting.{Setting}
use Rattle.laws.proofs.Logic.{eqb_yes, and_yes, ◌&◌, none, made}
use Rattle.laws.proofs.FormLaws.{sizes-says}
use Rattle.letter.specs.Place.{letter_at, place_form}
use Rattle.link.specs.Link.{place_width, link_width, link_of, link_fits}
use Rattle.link.specs.Holds.{LinkWords, ReadableLink, Holds, HeadAt}
use Rattle.memory.specs.Memory.{links_words, link_index, link_start}
use Rattle.memory.specs.After.{links_of, LinksLent, link_row, LinkSet, LinksPut, HeadStands}
use Rattle.memory.specs.After.{links_by, sent}
use Rattle.memory.proofs.SizeLaws.{link-sizes, index_below, link-within}
use Rattle.memory.proofs.PutLaws.{part_cut, part-put, cond_same, link_set, links-set}

-- ---- the row of link k, from p to e

module _ (s : Setting) (k : ℕ) (ls : List ℕ) {p e : ℕ}
    (start : p ≡ k * link_width s.j s.l) (end : e ≡ p + link_width s.j s.l) where
  pub link-cut : take (e - p) (drop p ls) ≡ link_row s ls k
  link-cut = part_cut (link_width s.j s.l) ls start end

  pub cut-set : k < s.n * (s.n - 1) → links_words s.n s.j s.l ≤ length ls
      → {ys : List ℕ} {zs : List Letter} → Holds s.j s.l ys zs
      → LinkSet s k zs ls (splice ls p (e - p) ys)
  cut-set h long {ys} {zs} f =
      rw (part-put (link_width s.j s.l) ls start end ys) (link_set s k ls ys zs h long f)

-- r is the row of link k
pub row_words : (s : Setting) (k : ℕ) (ls : List ℕ) {r : List ℕ} → k < s.n * (s.n - 1)
    → links_words s.n s.j s.l ≤ length ls → sizes_form s.n s.j s.l ≡ true
    → r ≡ link_row s ls k → LinkWords s.j s.l r
row_words s k ls h long sizes row =
    let w = link_width s.j s.l in
    record {
      sizes = link-sizes (sizes-says sizes);
      width = ap length row ∙ length_part (k * w) w ls (omega (arith, row-end w h));
    }

-- ---- the link from a to b

-- r is its row
module _ (s : Setting) (a b : ℕ) (ls : List ℕ) {r : List ℕ} (lent : LinksLent s ls)
    (h : is_link s.n a b ≡ true) (row : r ≡ link_row s ls (link_index s.n a b)) where
  pub link-readable : ReadableLink s.j s.l r
  link-readable = record {
    words = row_words s (link_index s.n a b) ls (index_below s.n a b h) lent.words
        lent.sizes row;
    fits = ap (link_fits s.j s.l) row ∙ lent.fits a b h;
  }

  pub link-letters : link_of s.j s.l r ≡ links_of s ls a b
  link-letters =
      ap (link_of s.j s.l) row
      ∙ ap (λ (t : Bool).
      cond t (link_of s.j s.l (link_row s ls (link_index s.n a b))) []) (sym h)

  pub link-length : length (link_of s.j s.l r) ≡ length (links_of s ls a b)
  link-length = ap (λ (l : List Letter). length l) link-letters

-- its row, from p to e, becomes ys
module _ (a b : ℕ) {s : Setting} {ls : List ℕ} {p e : ℕ} (lent : LinksLent s ls)
    (h : is_link s.n a b ≡ true)
    (start : p ≡ link_start s.n s.j s.l a b) (end : e ≡ p + link_width s.j s.l) where
  abbrev held : List ℕ
  held = take (e - p) (drop p ls)

  row : held ≡ link_row s ls (link_index s.n a b)
  row = link-cut s (link_index s.n a b) ls start end

  -- it can be read, and holds as many mails
  pub cut-readable : ReadableLink s.j s.l held
  cut-readable = link-readable s a b ls lent h row

  pub cut-length : length (link_of s.j s.l held) ≡ length (links_of s ls a b)
  cut-length = link-length s a b ls lent h row

  pub cut-some : 0 < length (links_of s ls a b)
      → (ReadableLink s.j s.l held) × (0 < length (link_of s.j s.l held))
  cut-some more = (cut-readable, omega (arith, cut-length))

  -- the link holds the letters zs now
  link-done : (ys : List ℕ) (zs : List Letter) → Holds s.j s.l ys zs
      → (f : ℕ → ℕ → List Letter)
      → ((x y : ℕ) → cond (eqb x a && eqb y b) zs (links_of s ls x y) ≡ f x y)
      → LinksPut s f ls (splice ls p (e - p) ys)
  link-done ys zs holds =
      links-set s a b zs ls (splice ls p (e - p) ys) lent h
      (cut-set s (link_index s.n a b) ls start end (index_below s.n a b h) lent.words holds)

  same-link : (g : List Letter → List Letter) (x y : ℕ) → (eqb x a && eqb y b) ≡ true
      → g (link_of s.j s.l held) ≡ g (links_of s ls x y)
  same-link g x y d =
      let t = and_yes (eqb x a) (eqb y b) d in
      ap g (link-letters s a b ls lent h row
      ∙ (λ i. links_of s ls (sym (eqb_yes x a t.0) i) (sym (eqb_yes y b t.1) i)))

  -- its letters are changed by g
  pub by-done : (g : List Letter → List Letter) {ys : List ℕ}
      → Holds s.j s.l ys (g (link_of s.j s.l held))
      → LinksPut s (links_by g s a b ls) ls (splice ls p (e - p) ys)
  by-done g {ys} holds =
      link-done ys (g (link_of s.j s.l held)) holds _
      (λ x y. cond_same (eqb x a && eqb y b) (same-link g x y) (λ d. refl))

  -- one letter more goes from a to b, which is in the set
  pub send_done : (set : ℕ) → has set b ≡ true → (y : Letter) {ys : List ℕ}
      → Holds s.j s.l ys (link_of s.j s.l held ++ (y ∷ []))
      → LinksPut s (sent (links_of s ls) a (λ c. has set c && eqb c b) y) ls
      (splice ls p (e - p) ys)
  send_done set in-set y {ys} holds =
      link-done ys _ holds _
      (λ x c. cond_same (eqb x a && eqb c b) (same-link (λ l. l ++ (y ∷ [])) x c) (λ d. refl)
      ∙ ap (λ (t : Bool). cond t (links_of s ls x c ++ (y ∷ [])) (links_of s ls x c))
      (test (eqb x a) c (eqb c b) refl))
    where
      test : (t : Bool) (c : ℕ) (u : Bool) → eqb c b ≡ u → (t && u) ≡ (t && (has set c && u))
      test t c true d = rw (eqb_yes c b d, in-set) refl
      test t c false d = rw (and-false (has set c)) refl

-- no letter goes where p says none
pub not-sent : (link : ℕ → ℕ → List Letter) (c : ℕ) (p : ℕ → Bool) (y : Letter) (a b : ℕ)
    → p b ≡ false → link a b ≡ sent link c p y a b
not-sent link c p y a b e = rw (e, and-false (eqb a c)) refl

-- no letter goes from me to b, which is not in the set
pub send_none : {s : Setting} (set b : ℕ) {ls : List ℕ} → LinksLent s ls → has set b ≡ false
    → (y : Letter)
    → LinksPut s (sent (links_of s ls) s.me (λ c. has set c && eqb c b) y) ls ls
send_none {s} set b {ls} lent out y = record {
  links = λ t. λ x c.
      not-sent (links_of s ls) s.me (λ k. has set k && eqb k b) y x c (off c (eqb c b) refl) t;
  past = refl;
  words = refl;
  lent = lent;
}
  where
    off : (c : ℕ) (u : Bool) → eqb c b ≡ u → (has set c && u) ≡ false
    off c true d = rw (eqb_yes c b d, out) refl
    off c false d = and-false (has set c)

-- ---- the head of the link from a to me

pub head_done : (a : ℕ) {s : Setting} {ls : List ℕ} {p e q : ℕ} → LinksLent s ls
    → is_link s.n a s.me ≡ true
    → p ≡ link_start s.n s.j s.l a s.me → e ≡ p + link_width s.j s.l
    → HeadAt s.j s.l (take (e - p) (drop p ls)) q → HeadStands s a ls (p + q)
unfolding place_form
head_done a {s} {ls} {p} {e} {q} lent h start end at =
    let w = place_width s.j in
    let lw = link_width s.j s.l in
    let held = take (e - p) (drop p ls) in
    let place : part held q w ≡ part ls (p + q) w =
    ap (λ (r : List ℕ). part r q w) (part_cut lw ls refl end)
    ∙ part-part p lw q w ls at.inside in
    let letters = link-letters s a s.me ls lent h
    (link-cut s (link_index s.n a s.me) ls start end) in
    record {
      inside = omega
          (arith, at.inside, link-within s.n a s.me h s.j s.l, lent.words);
      letters = sym letters ∙ at.letters
          ∙ (λ t. letter_at (place t) ∷ tail (letters t));
      form = λ f. made (rw place at at.fits & f & none);
    }
