-- What the functions that write the parts of a block ask for and give.
use Rattle.std.specs.Prelude.{ℕ, ◌+◌, ◌≤◌, ◌≡◌, true, List, length}
use Rattle.rules.specs.Sizes.{most_boxes, most_loads, most_mails}
use Rattle.cells.specs.Cells.{chain}
use Rattle.image.specs.Image.{numbers_from}
use Rattle.bodies.specs.Contents.{count_of}
use Rattle.print.specs.Text.{Wrote}
use Rattle.found.specs.Found.{is_kept, box_found, loads_of}
use Rattle.salvage.specs.Table.{sound, boxes_in, general_of, box_body_of}
use Rattle.salvage.specs.Tally.{flagged}
use Rattle.salvage.specs.Block.{box_line, bodies_text}

-- an image of n boxes
pub record Sound (im : List ℕ) (n : ℕ) : Type 0 where
  pub table : sound im ≡ true
  pub boxes : n ≡ boxes_in im
  pub few : n ≤ most_boxes

-- the words ks tell which of boxes 1 to n are readable
pub record Flags (im : List ℕ) (n J : ℕ) (ks : List ℕ) : Type 0 where
  pub words : length ks ≡ most_boxes
  pub each : (b : ℕ) → 1 ≤ b → b ≤ n
      → flagged ks b ≡ is_kept (box_found n J b (box_body_of im b))

-- the lines of all boxes were written, and which of them are readable
pub record BoxesPut (im : List ℕ) (n J : ℕ) (ks o o' : List ℕ) (at r : ℕ) : Type 0 where
  pub wrote : Wrote 800 o o' at r
      (chain (λ b. box_line b (box_found n J b (box_body_of im b))) (numbers_from 1 n))
  pub flags : Flags im n J ks

-- the load lines have room for so many bytes: at most 8,192 lines of at most 40
abbrev pub most_lines : ℕ
most_lines = 327680

-- .. where the records of readable boxes are so many
pub record LoadsFit (im : List ℕ) (n : ℕ) (ks : List ℕ) : Type 0 where
  pub table : Sound im n
  pub loads : ℕ
  pub flags : Flags im n loads ks

-- what `put_mail` and `put_bodies` ask for
pub record MailAsked (im : List ℕ) (count J L : ℕ) (o : List ℕ) (at : ℕ) : Type 0 where
  pub table : sound im ≡ true
  pub bodies : count ≡ count_of im
  pub loads : J ≤ most_loads
  pub mails : L ≤ most_mails
  pub room : at + 160 ≤ length o

pub record BodiesAsked (im : List ℕ) (count : ℕ) (ks o : List ℕ) : Type 0 where
  pub table : sound im ≡ true
  pub bodies : count ≡ count_of im
  pub words : length ks ≡ most_boxes
  pub room : 1300 ≤ length o

-- the lines of all bodies were written
pub record BodiesPut (im ks o o' : List ℕ) (r : ℕ) : Type 0 where
  pub wrote : Wrote 1120 o o' 0 r (bodies_text im)
  pub flags : Flags im (boxes_in im) (loads_of (boxes_in im) (general_of im)) ks
