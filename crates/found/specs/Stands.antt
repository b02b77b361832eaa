-- A number where it stands in a body. "A body too short: the first field that does not fit": such a
-- field reads as a number that is by form in no field, since four bytes do not hold it and as a
-- record it has no right frame.
use Rattle.std.specs.Prelude.{ℕ, zero, suc, ◌+◌, ◌*◌, List, [], ◌∷◌, leb, length}
use Rattle.words.specs.Rows.{part, splice}
use Rattle.le.specs.Le.{of_le}
use Rattle.rules.specs.Pick.{pick}
use Rattle.cells.specs.declared.groups.Group.{Group}

abbrev pub missing : ℕ
missing = 4294967296

-- the number of k bytes at `at`
unfoldable pub word_at : ℕ → List ℕ → ℕ → ℕ
word_at k src at = pick (leb (at + k) (length src)) (of_le (part src at k)) missing

-- c numbers of k bytes each, one after another
unfoldable pub words_at : ℕ → ℕ → List ℕ → ℕ → List ℕ
words_at k zero src at = []
words_at k (suc c) src at = word_at k src at ∷ words_at k c src (at + k)

-- the words w with those of the groups, which stand one after another from `at` on
unfoldable pub groups_in : List Group → List ℕ → ℕ → List ℕ → List ℕ
groups_in [] src at w = w
groups_in (g ∷ gs) src at w =
    groups_in gs src (at + g.count * g.width)
    (splice w g.from g.count (words_at g.width g.count src at))
