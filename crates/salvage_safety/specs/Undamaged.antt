-- "For an undamaged image reached by the rules, no number reads "differs" and every count is true."
-- (Q-8), in statements alone.
use Rattle.std.specs.Prelude.{ℕ, ◌≤◌, ◌≡◌, Bool, true, List, [], length}
use Rattle.rules.specs.Every.{tally}
use Rattle.rules.specs.Sizes.{most_boxes, within}
use Rattle.rules.specs.Site.{Site}
use Rattle.rules.specs.Form.{form}
use Rattle.rules.specs.Step.{run}
use Rattle.rules.specs.declared.model.Call.{Call}
use Rattle.safety.specs.Demand3.{In, Agreed, record_at, start}
use Rattle.image.specs.Image.{image_of}
use Rattle.std.specs.Prelude.{Ok}
use Rattle.salvage.specs.Table.{most_bytes, sound, boxes_in}
use Rattle.salvage.specs.Loads.{kept_by, held, record_text, load_text}
use Rattle.salvage.specs.Block.{found_general, found_box, readable}

-- whether box b of the site keeps number k as agreed, and how many do
abbrev pub keeps_at : Site → ℕ → ℕ → Bool
keeps_at s k b = within (s.box b).head.kept.first (s.box b).head.kept.last k

abbrev pub how_many : Site → ℕ → ℕ
how_many s k = tally s.n (keeps_at s k)

-- what is written of number k
abbrev pub line_of : List ℕ → ℕ → List ℕ
line_of im k = load_text k (held (kept_by (readable im) im (boxes_in im) k))

module _ (s : Site) where
  pub record Listed : Type 0 where
    -- its table is sound, and no box is set aside, nor the general body
    pub table : sound (image_of s) ≡ true
    pub general : found_general (image_of s) ≡ Ok tt
    pub box : (b : ℕ) → In b s.n → found_box (image_of s) b ≡ Ok tt
    -- a number that a box keeps as agreed has its record and a true count, so it does not differ
    pub line : (b k : ℕ) → In b s.n → Agreed (s.box b) k
        → line_of (image_of s) k ≡ record_text k (record_at (s.box b) k) (how_many s k)
    -- one that no box keeps has no line
    pub none : (k : ℕ) → how_many s k ≡ 0 → line_of (image_of s) k ≡ []

-- of every site by form that is reached by the rules, and whose image is not too long
abbrev pub Undamaged : Type 0
Undamaged = (n J L : ℕ) → In n most_boxes → (calls : List Call)
    → form (run (start n J L) calls) ≡ true
    → length (image_of (run (start n J L) calls)) ≤ most_bytes → Listed (run (start n J L) calls)
