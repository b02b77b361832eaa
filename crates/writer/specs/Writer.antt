-- What `write` answers for the lent words xs and ls, and what the buffer o becomes: 1, then 12,
-- else the image and its length, and the rest of a longer buffer as it was.
use Rattle.std.specs.Prelude.{◌≡◌, true, false, ℕ, ◌≤◌, ◌<◌, List, ◌++◌, length, drop}
use Rattle.rules.specs.declared.model.Refusal.{Refusal}
use Rattle.rules.specs.declared.model.Setting.{Setting}
use Rattle.memory.specs.Memory.{site_of, memory_form}
use Rattle.memory.specs.After.{setting_at}
use Rattle.image.specs.Image.{image_of}
use Rattle.writer.specs.declared.Extent.{Extent}
use Rattle.std.specs.Prelude.{Result, Ok, Err}

abbrev pub image : List ℕ → List ℕ → List ℕ
image xs ls = image_of (site_of xs ls)

-- the image's length, or why there is none
abbrev pub Written : Type 0
Written = Result ℕ Refusal

pub data WriteIs (xs ls o : List ℕ) : Written → List ℕ → Type 0 where
  not-by-form : memory_form xs ls ≡ false → WriteIs xs ls o (Err Refusal.Form) o
  too_short : memory_form xs ls ≡ true → length o < length (image xs ls)
      → WriteIs xs ls o (Err Refusal.Buffer) o
  written : memory_form xs ls ≡ true → length (image xs ls) ≤ length o
      → WriteIs xs ls o (Ok (length (image xs ls)))
      (image xs ls ++ drop (length (image xs ls)) o)

-- for callers: how many bytes were written, none where it was refused
abbrev pub written_bytes : Written → ℕ
written_bytes (Ok n) = n
written_bytes (Err why) = 0

-- for callers with room enough: the image, r bytes, was written to the front of the buffer o
pub record WholeImage (xs ls o o' : List ℕ) (r : ℕ) : Type 0 where
  pub count : r ≡ length (image xs ls)
  pub bytes : o' ≡ image xs ls ++ drop r o

-- what `image_length` answers: the same without a buffer
pub data LengthIs (xs ls : List ℕ) : Written → Type 0 where
  no-image : memory_form xs ls ≡ false → LengthIs xs ls (Err Refusal.Form)
  has-length : memory_form xs ls ≡ true → LengthIs xs ls (Ok (length (image xs ls)))

-- the words are by form, and s is their setting
pub record Formed (xs ls : List ℕ) (s : Setting) : Type 0 where
  pub form : memory_form xs ls ≡ true
  pub setting : s ≡ setting_at xs 0

-- what is known of words by form before the first byte is written
pub record Measured (xs ls : List ℕ) (e : Extent) : Type 0 where
  pub setting : e.setting ≡ setting_at xs 0
  pub total : e.total ≡ length (image xs ls)
