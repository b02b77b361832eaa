-- The printed form of a list: the reader takes exactly the printed forms of lists of proper
-- records, so a list has one text.
use Rattle.std.specs.Prelude.{ℕ, ◌≡◌, true, List, [], ◌∷◌, ◌++◌, map}
use Rattle.rules.specs.Every.{each}
use Rattle.rules.specs.Sizes.{left_of, right_of, proper}
use Rattle.print.specs.Decimal.{decimal}
use Rattle.lists.specs.Lists.{records_in, is_held}

-- `LEFT:RIGHT`
abbrev pub record_text : ℕ → List ℕ
record_text r = decimal (left_of r) ++ (58 ∷ decimal (right_of r))

-- texts parted by commas
unfoldable pub commas : List (List ℕ) → List ℕ
commas [] = []
commas (t ∷ ts) = 44 ∷ (t ++ commas ts)

abbrev pub joined : List (List ℕ) → List ℕ
joined [] = []
joined (t ∷ ts) = t ++ commas ts

abbrev pub list_bytes : List ℕ → List ℕ
list_bytes [] = 45 ∷ []
list_bytes (r ∷ rs) = joined (map record_text (r ∷ rs))

pub record Exact : Type 0 where
  -- what is printed is read ..
  pub read_back : (rs : List ℕ) → each proper rs ≡ true → records_in (list_bytes rs) ≡ rs
  -- .. and what can be read is what is printed
  pub one-text : (s : List ℕ) → each is_held (records_in s) ≡ true → s ≡ list_bytes (records_in s)
