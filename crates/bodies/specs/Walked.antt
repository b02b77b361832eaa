-- What the reader hands out of the image of a site by form: "one body at a time", each "exactly the
-- part that the table names", and that part is what the image's definition says.
use Rattle.std.specs.Prelude.{ℕ, zero, suc, ◌+◌, ◌≤◌, ◌<◌, ◌≡◌, List, ◌++◌, length, take}
use Rattle.rules.specs.Site.{Site}
use Rattle.rules.specs.declared.model.Refusal.{Refusal}
use Rattle.cells.specs.Cells.{chain}
use Rattle.image.specs.Image.{numbers_from, general_body, box_body, mail_body, image_of}
use Rattle.image.specs.Longest.{table_long}
use Rattle.std.specs.Prelude.{Ok, Err}
use Rattle.bodies.specs.Contents.{Named, part_from}
use Rattle.bodies.specs.Contents.{count_of, begin_of, long_of, body_of, named, asked, after}

-- where a reader that began at place k stands after it handed out, or was asked for, j bodies
unfoldable pub place_after : List ℕ → ℕ → ℕ → ℕ
place_after im k zero = k
place_after im k (suc j) = place_after im (after im k) j

-- where the table says that body k is
abbrev pub entry_of : List ℕ → ℕ → Named
entry_of im k = Ok (part_from (begin_of im k) (long_of im k))

abbrev pub none : Named
none = Err Refusal.Condition

module _ (s : Site) where
  abbrev image : List ℕ
  image = image_of s

  abbrev last : ℕ
  last = s.n + 2

  pub record Walked : Type 0 where
    -- "number of bodies (n+2)"; a body's number gets its entry, and no other number does
    pub count : count_of image ≡ last
    pub is : (k : ℕ) → 1 ≤ k → k ≤ last → named image k ≡ entry_of image k
    pub no-first : named image 0 ≡ none
    pub no_more : (k : ℕ) → last < k → named image k ≡ none
    -- "general ..; each box; mail": what the part is
    pub general : body_of image 1 ≡ general_body s
    pub box : (b : ℕ) → 1 ≤ b → b ≤ s.n → body_of image (b + 1) ≡ box_body s.n (s.box b)
    pub mail : body_of image last ≡ mail_body s
    -- "in order without gaps": the first behind the table, each where the one before it ends, and
    -- the last ends with the image
    pub first : begin_of image 1 ≡ table_long s.n
    pub next : (k : ℕ) → 1 ≤ k → k < last → begin_of image (k + 1)
        ≡ begin_of image k + long_of image k
    pub end : begin_of image last + long_of image last ≡ length image
    -- the table and the bodies are the whole image, each byte once
    pub whole : take (table_long s.n) image ++ chain (body_of image) (numbers_from 1 last) ≡ image
    -- a reader goes from body to body, and stays after the last
    pub places : (j : ℕ) → j ≤ last → place_after image 1 j ≡ j + 1
    pub handed : (j : ℕ) → j < last → asked image (place_after image 1 j) ≡ entry_of image (j + 1)
    pub ended : (j : ℕ) → last ≤ j → asked image (place_after image 1 j) ≡ none

-- a reader of an image that is not by form answers 1, each time that it is asked
abbrev pub Refused : Type 0
Refused = (im : List ℕ) (j : ℕ) → asked im (place_after im 0 j) ≡ Err Refusal.Form
