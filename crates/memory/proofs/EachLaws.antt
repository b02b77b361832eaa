-- Rows of the words that are set one after the other: those of the boxes, and those of the links.
use Prim.Native.Nat.{ℕ, ◌+◌, ◌-◌, ◌*◌, ◌≤◌, ◌<◌}
use mathlib.Core.Path.{◌≡◌, refl, sym, ◌∙◌}
use mathlib.Core.Bool.{Bool, true, false, cond}
use mathlib.Core.List.{List, []}
use native.Mathlib.Nat.{add-sub_cancel}
use native.Mathlib.Omega.{arith}
use lib.ListN.{length, take}
use Rattle.rules.specs.Sizes.{sizes_form}
use Rattle.rules.specs.Box.{Box}
use Rattle.rules.specs.Site.{fresh_box, is_box, is_link}
use Rattle.rules.specs.declared.model.Setting.{Setting}
use Rattle.laws.proofs.Logic.{Or, left, right, In, same?}
use Rattle.laws.proofs.FormLaws.{is-box, box-is}
use Rattle.row.specs.Row.{box_of, row_fits}
use Rattle.link.specs.Link.{link_of, link_fits}
use Rattle.memory.specs.Memory.{site_words, links_words, past_site, past_links, row_at, link_index}
use Rattle.memory.specs.Memory.{general_words}
use Rattle.memory.specs.After.{link_row, RowSet, RowsPut, LinkSet, LinksPut}
use Rattle.memory.proofs.SizeLaws.{index_below}

-- ---- n rows, from 1 on: row c is row xs c, and becomes what P says

module _ (row : List ℕ → ℕ → List ℕ) (n : ℕ) (P : ℕ → List ℕ → Type 0) where
  -- row b is set, the others are as they were
  pub record OneSet (b : ℕ) (xs xs' : List ℕ) : Type 0 where
    pub here : P b (row xs' b)
    pub others : (c : ℕ) → In c n → (c ≡ b → ⊥) → row xs' c ≡ row xs c

  -- the rows up to b are set, the later ones are as they were
  pub record UpTo (xs₀ : List ℕ) (b : ℕ) (xs : List ℕ) : Type 0 where
    pub few : b ≤ n
    pub done : (c : ℕ) → In c b → P c (row xs c)
    pub later : (c : ℕ) → In c n → b < c → row xs c ≡ row xs₀ c

  pub up_none : (xs : List ℕ) → UpTo xs 0 xs
  up_none xs = record {
    few = omega arith;
    done = λ c h. absurd (omega (arith, h.0, h.1));
    later = λ c h l. refl;
  }

  pub up_more : {xs₀ : List ℕ} {b : ℕ} {xs xs' : List ℕ} → UpTo xs₀ b xs → b < n
      → OneSet (b + 1) xs xs' → UpTo xs₀ (b + 1) xs'
  up_more {xs₀} {b} {xs} {xs'} was h e = record {
    few = omega arith;
    done = λ c g. go c g (same? c (b + 1));
    later = λ c g l. e.others c g (omega arith) ∙ was.later c g (omega arith);
  }
    where
      go : (c : ℕ) → In c (b + 1) → Or (c ≡ b + 1) (c ≡ b + 1 → ⊥) → P c (row xs' c)
      go c g (left d) = rw d e.here
      go c g (right d) =
          rw (e.others c (g.0, omega (arith, g.1)) d) (was.done c (g.0, omega (arith, g.1)))

-- ---- the boxes' rows

-- the rows up to b hold what f says; the words before and behind the rows are as they were
pub record BoxesUpTo (s : Setting) (f : ℕ → Box) (xs₀ : List ℕ) (b : ℕ) (xs : List ℕ) : Type 0
  where
    pub rows : UpTo (row_at s.j) s.n
        (λ c r. (box_of s.n r ≡ f c) × (row_fits s.j r ≡ true)) xs₀ b xs
    pub general : take general_words xs ≡ take general_words xs₀
    pub past : past_site s.n s.j xs ≡ past_site s.n s.j xs₀
    pub words : length xs ≡ length xs₀

module _ {s : Setting} {f : ℕ → Box} {xs₀ : List ℕ} where
  pub boxes-none : BoxesUpTo s f xs₀ 0 xs₀
  boxes-none = record { rows = up_none _ _ _ xs₀; general = refl; past = refl; words = refl }

  pub boxes-more : {b : ℕ} {xs xs' : List ℕ} → BoxesUpTo s f xs₀ b xs → b < s.n
      → RowSet s (b + 1) (f (b + 1)) xs xs' → BoxesUpTo s f xs₀ (b + 1) xs'
  boxes-more was h e = record {
    rows = up_more _ _ _ was.rows h (record {
      here = (e.box, e.fits);
      others = λ c g. e.others c (box-is g);
    });
    general = e.general ∙ was.general;
    past = e.past ∙ was.past;
    words = e.words ∙ was.words;
  }

  pub boxes-all : {b : ℕ} {xs : List ℕ} → BoxesUpTo s f xs₀ b xs → s.n ≤ b
      → sizes_form s.n s.j s.l ≡ true → site_words s.n s.j ≤ length xs₀
      → ((c : ℕ) → is_box s.n c ≡ false → f c ≡ fresh_box) → RowsPut s f xs₀ xs
  boxes-all {b} {xs} was h sizes long outside = record {
    boxes = λ t. λ c. box c (is_box s.n c) refl t;
    general = was.general;
    past = was.past;
    words = was.words;
    lent = record {
      sizes = sizes;
      words = rw was.words long;
      fits = λ c g. (set c g).1;
    };
  }
    where
      set : (c : ℕ) → is_box s.n c ≡ true
          → (box_of s.n (row_at s.j xs c) ≡ f c) × (row_fits s.j (row_at s.j xs c) ≡ true)
      set c g = let i : In c s.n = is-box g in was.rows.done c (i.0, omega (arith, i.1))

      box : (c : ℕ) (t : Bool) → is_box s.n c ≡ t
          → cond t (box_of s.n (row_at s.j xs c)) fresh_box ≡ f c
      box c true g = (set c g).0
      box c false g = sym (outside c g)

-- ---- the links' rows, whatever their words were

-- the first k links are empty; the words behind the links are as they were
pub record EmptyUpTo (s : Setting) (ls₀ : List ℕ) (k : ℕ) (ls : List ℕ) : Type 0 where
  pub rows : UpTo (λ xs i. link_row s xs (i - 1)) (s.n * (s.n - 1))
      (λ i r. (link_of s.j s.l r ≡ []) × (link_fits s.j s.l r ≡ true)) ls₀ k ls
  pub past : past_links s.n s.j s.l ls ≡ past_links s.n s.j s.l ls₀
  pub words : length ls ≡ length ls₀

module _ {s : Setting} {ls₀ : List ℕ} where
  pub empty-none : EmptyUpTo s ls₀ 0 ls₀
  empty-none = record { rows = up_none _ _ _ ls₀; past = refl; words = refl }

  pub empty-more : {k : ℕ} {ls ls' : List ℕ} → EmptyUpTo s ls₀ k ls → k < s.n * (s.n - 1)
      → LinkSet s k [] ls ls' → EmptyUpTo s ls₀ (k + 1) ls'
  empty-more {k} was h e = record {
    rows = up_more _ _ _ was.rows h (record {
      here = rw (add-sub_cancel k 1) (e.letters, e.fits);
      others = λ c g d. e.others (c - 1) (omega (arith, g.0, g.1)) (omega (arith, g.0, d));
    });
    past = e.past ∙ was.past;
    words = e.words ∙ was.words;
  }

  pub empty-all : {k : ℕ} {ls : List ℕ} → EmptyUpTo s ls₀ k ls → s.n * (s.n - 1) ≤ k
      → sizes_form s.n s.j s.l ≡ true → links_words s.n s.j s.l ≤ length ls₀
      → LinksPut s (λ a b. []) ls₀ ls
  empty-all {k} {ls} was h sizes long = record {
    links = λ t. λ a b. empty a b (is_link s.n a b) refl t;
    past = was.past;
    words = was.words;
    lent = record {
      sizes = sizes;
      words = rw was.words long;
      fits = λ a b g. (set a b g).1;
    };
  }
    where
      set : (a b : ℕ) → is_link s.n a b ≡ true
          → (link_of s.j s.l (link_row s ls (link_index s.n a b)) ≡ [])
          × (link_fits s.j s.l (link_row s ls (link_index s.n a b)) ≡ true)
      set a b g =
          let i = link_index s.n a b in
          rw (add-sub_cancel i 1) at
          (was.rows.done (i + 1) (omega arith, omega (arith, index_below s.n a b g)))

      empty : (a b : ℕ) (t : Bool) → is_link s.n a b ≡ t
          → cond t (link_of s.j s.l (link_row s ls (link_index s.n a b))) [] ≡ []
      empty a b true g = (set a b g).0
      empty a b false g = refl
