-- By form in the order in which the code looks: the general words, the lengths, each row, each
-- link.
use Rattle.std.specs.Prelude.{ℕ, ◌-◌, ◌*◌, Bool, List, [], ◌∷◌, leb, length, get_or}
use Rattle.rules.specs.Every.{all, every, tally}
use Rattle.rules.specs.Sizes.{most_epoch, within, sizes_form}
use Rattle.rules.specs.Sets.{set_form}
use Rattle.rules.specs.declared.model.Setting.{Setting}
use Rattle.row.specs.Row.{box_of, row_form}
use Rattle.link.specs.Link.{link_form}
use Rattle.memory.specs.Memory.{enough, row_at}
use Rattle.memory.specs.After.{link_row}

unfoldable pub general_form : List ℕ → Bool
general_form xs =
    all (leb 5 (length xs)
    ∷ sizes_form (get_or xs 0 0) (get_or xs 1 0) (get_or xs 2 0)
    ∷ within 1 most_epoch (get_or xs 3 0)
    ∷ set_form (get_or xs 0 0) (get_or xs 4 0)
    ∷ [])

-- the lengths
abbrev pub words_form : Setting → List ℕ → List ℕ → Bool
words_form s xs ls = enough s.n s.j s.l xs ls

abbrev pub row_test : Setting → List ℕ → ℕ → Bool
row_test s xs b = row_form s.n s.j b (row_at s.j xs b)

abbrev pub leads_test : Setting → List ℕ → ℕ → Bool
leads_test s xs b = (box_of s.n (row_at s.j xs b)).head.leads

unfoldable pub rows_form : Setting → List ℕ → Bool
rows_form s xs =
    all (every s.n (row_test s xs)
    ∷ leb (tally s.n (leads_test s xs)) 1
    ∷ [])

-- the links by their numbers, from 1 here
abbrev pub link_test : Setting → List ℕ → ℕ → Bool
link_test s ls k = link_form s.j s.l (link_row s ls (k - 1))

unfoldable pub links_form : Setting → List ℕ → Bool
links_form s ls = every (s.n * (s.n - 1)) (link_test s ls)
