-- The general words, as they are read from bytes: the sizes that they say, and what stands behind.
use mathlib.Core.Path.{◌≡◌, ap, ◌∙◌}
use Prim.Native.Nat.{ℕ, ◌^◌, ◌≤◌, ◌<◌}
use native.Mathlib.Omega.{arith}
use mathlib.Core.List.{List, ◌++◌}
use lib.ListN.{length, get_or, length-append}
use Rattle.rules.specs.declared.model.Setting.{Setting}
use Rattle.memory.specs.Memory.{n_at, JAt, LAt, epoch_at, present_at, general_words}
use Rattle.memory.specs.After.{setting_at, GeneralLent}
use Rattle.cells.specs.Cells.{chain, cells, Stands, Read}
use Rattle.cells.proofs.ChainLaws.{length-cells, each_at}
use Rattle.cells.proofs.CodeLaws.{told}
use Rattle.image.specs.Image.{box_body, link_bytes}
use Rattle.image.specs.Longest.{general_long}
use Rattle.image.specs.Parts.{Words, Listed, n_in, JIn, LIn, listed_bytes, GoodListed}
use Rattle.image.proofs.ListedLaws.{listed-split, listed-parts}

-- w are the general words that were read at `at`, and n, J and L the sizes that they say.
pub record GeneralRead (src : List ℕ) (at p : ℕ) (w : List ℕ) (n J L : ℕ) : Type 0 where
  pub five : length w ≡ general_words
  pub read : Read 4 src at w p
  pub n-said : n ≡ get_or w n_at 0
  pub J-said : J ≡ get_or w JAt 0
  pub L-said : L ≡ get_or w LAt 0

-- The words w that were read are the first of ys.
module _ {src : List ℕ} {at p : ℕ} {w : List ℕ} (five : length w ≡ general_words)
    (g : Read 4 src at w p) (ys : List ℕ) (long : general_words ≤ length ys)
    (front : (i : ℕ) → i < general_words → get_or ys i 0 ≡ get_or w i 0) where
  pub general-lent : GeneralLent ys
  general-lent = record {
    words = long;
    n = below n_at (omega arith);
    j = below JAt (omega arith);
    l = below LAt (omega arith);
    epoch = below epoch_at (omega arith);
    present = below present_at (omega arith);
  }
    where
      below : (i : ℕ) → i < general_words → get_or ys i 0 < 2 ^ 32
      below i h =
          let b = each_at (λ i x. x < 256 ^ 4) w i 0 (omega (arith, five)) g.below in
          omega (arith, front i h)

  pub setting-read : (z : Setting) → z ≡ setting_at ys 0
      → GeneralRead src at p w z.n z.j z.l
  setting-read z e = record {
    five = five;
    read = g;
    n-said = ap (λ (x : Setting). x.n) e ∙ front n_at (omega arith);
    J-said = ap (λ (x : Setting). x.j) e ∙ front JAt (omega arith);
    L-said = ap (λ (x : Setting). x.l) e ∙ front LAt (omega arith);
  }

-- the bytes of the other bodies
abbrev pub others : Listed → List ℕ
others t = chain (box_body (n_in t)) t.boxes ++ chain link_bytes t.links

-- The general body alone has so many bytes.
pub length-listed : (t : Listed) → GoodListed t → general_long ≤ length (listed_bytes t)
length-listed t g =
    let n = g.words.width in
    omega (
      arith,
      ap length (listed-split t),
      length-append (cells 4 t.general) (others t),
      length-cells 4 t.general,
    )

module _ {src : List ℕ} {at p : ℕ} {w : List ℕ} {n J L : ℕ}
    (g : GeneralRead src at p w n J L) where
  pub general-words : Words general_words w
  general-words = record { width = g.five; below = g.read.below }

  -- The words are those of any bodies that stand there, which so have these sizes, and the others
  -- stand behind them.
  module _ {t : Listed} {q : ℕ} (h : GoodListed t) (v : Stands (listed_bytes t) src at q) where
    parts : (w ≡ t.general) × Stands (others t) src p q
    parts = told listed-parts w general-words g.read.stands t q h v

    pub general-is : w ≡ t.general
    general-is = parts.0

    pub n-is : n ≡ n_in t
    n-is = g.n-said ∙ ap (λ (l : List ℕ). get_or l n_at 0) general-is

    pub J-is : J ≡ JIn t
    J-is = g.J-said ∙ ap (λ (l : List ℕ). get_or l JAt 0) general-is

    pub L-is : L ≡ LIn t
    L-is = g.L-said ∙ ap (λ (l : List ℕ). get_or l LAt 0) general-is

    pub others_stand : Stands (others t) src p q
    others_stand = parts.1
