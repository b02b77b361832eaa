-- "a sound contents table (3 to 7 bodies in order, no gaps, ending with the image)", and an image
-- "of at most 64 KiB".
use Rattle.std.specs.Prelude.{ℕ, zero, suc, ◌+◌, ◌-◌, Bool, ◌&&◌, List, leb, eqb, length}
use Rattle.rules.specs.Sizes.{within}
use Rattle.image.specs.Longest.{table_bytes}
use Rattle.bodies.specs.Contents.{count_of, begin_of, long_of, body_of, most_bodies}

abbrev pub most_bytes : ℕ
most_bytes = 65536

-- m bodies, counted from k on, follow each other from `at` on, and the last ends with the image
unfoldable pub follow : List ℕ → ℕ → ℕ → ℕ → Bool
follow im zero k at = eqb at (length im)
follow im (suc m) k at = eqb (begin_of im k) at && follow im m (suc k) (at + long_of im k)

unfoldable pub sound_table : List ℕ → Bool
sound_table im =
    within 3 most_bodies (count_of im)
    && (leb (table_bytes (count_of im)) (length im)
    && follow im (count_of im) 1 (table_bytes (count_of im)))

unfoldable pub sound : List ℕ → Bool
sound im = leb (length im) most_bytes && sound_table im

-- "n is the table's bodies less 2"
abbrev pub boxes_in : List ℕ → ℕ
boxes_in im = count_of im - 2

-- general, boxes 1 to n, mail
abbrev pub general_of : List ℕ → List ℕ
general_of im = body_of im 1

abbrev pub box_body_of : List ℕ → ℕ → List ℕ
box_body_of im b = body_of im (b + 1)

abbrev pub mail_body_of : List ℕ → List ℕ
mail_body_of im = body_of im (count_of im)
