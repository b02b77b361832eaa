-- Words as bytes in groups: so many words from a place on, so many bytes for each. A list of groups
-- is the layout of a head, said once for whoever writes it, finds it or reads it.
use Rattle.std.specs.Prelude.{◌≡◌, ℕ, ◌+◌, ◌*◌, ◌^◌, ◌≤◌, ◌<◌, List, [], ◌∷◌, ◌++◌, length, drop}
use Rattle.std.specs.Prelude.{get_or}
use Rattle.words.specs.Rows.{part, splice}
use Rattle.cells.specs.declared.groups.Group.{Group}
use Rattle.cells.specs.Cells.{chain, cells, All, Below, Stands, Read}

-- `count` words from word `from` on, each of `width` bytes
abbrev pub group : ℕ → ℕ → ℕ → Group
group k a c = record { width = k; from = a; count = c }

abbrev pub group_end : Group → ℕ
group_end g = g.from + g.count

abbrev pub group_words : List ℕ → Group → List ℕ
group_words w g = part w g.from g.count

abbrev pub group_bytes : List ℕ → Group → List ℕ
group_bytes w g = cells g.width (group_words w g)

unfoldable pub groups_bytes : List Group → List ℕ → List ℕ
groups_bytes gs w = chain (group_bytes w) gs

unfoldable pub groups_length : List Group → ℕ
groups_length [] = 0
groups_length (g ∷ gs) = g.count * g.width + groups_length gs

-- the groups lie one behind the other between words `low` and m, gaps allowed
unfoldable pub Cut : ℕ → ℕ → List Group → Type 0
Cut low m [] = low ≤ m
Cut low m (g ∷ gs) = (low ≤ g.from) × (g.width ≤ 8) × Cut (group_end g) m gs

-- word k is in none of them
abbrev pub Outside : List Group → ℕ → Type 0
Outside gs k = All (λ (g : Group). g.from ≤ k → k < group_end g → ⊥) gs

-- its words are such as its bytes hold
abbrev pub GroupFits : List ℕ → Group → Type 0
GroupFits w g = Below (256 ^ g.width) (group_words w g)

-- m words that the groups' bytes hold; those in no group are `rest`
pub record GroupedWords (gs : List Group) (m rest : ℕ) (w : List ℕ) : Type 0 where
  pub width : length w ≡ m
  pub below : All (GroupFits w) gs
  pub none : (k : ℕ) → k < m → Outside gs k → get_or w k 0 ≡ rest

-- the words w have become v: the group's numbers stand at `at`, and are its words
pub record GroupRead (g : Group) (src : List ℕ) (at : ℕ) (w v : List ℕ) (r : ℕ) : Type 0 where
  pub words : List ℕ
  pub count : length words ≡ g.count
  pub read : Read g.width src at words r
  pub put : v ≡ splice w g.from g.count words

-- the words w have become v: the groups stand at `at`, r is the place behind them, and the words in
-- no group are as they were
pub record GroupsRead (gs : List Group) (src : List ℕ) (at : ℕ) (w v : List ℕ) (r : ℕ) : Type 0
  where
    pub width : length v ≡ length w
    pub stands : Stands (groups_bytes gs v) src at r
    pub below : All (GroupFits v) gs
    pub rest : (k : ℕ) → Outside gs k → get_or v k 0 ≡ get_or w k 0

-- ---- a head in groups, and behind it as many records as its word `count` says

abbrev pub headed_bytes : List Group → ℕ → ℕ → List ℕ → List ℕ
headed_bytes gs head count r = groups_bytes gs r ++ cells 8 (part r head (get_or r count 0))

-- whatever head stands at `at`, its records have room in m words and stand behind it
pub record RecordsThere (gs : List Group) (head count rest : ℕ) (src : List ℕ) (at m : ℕ) : Type 0
  where
    pub room : (v : List ℕ) (p : ℕ) → GroupedWords gs head rest v
        → Stands (groups_bytes gs v) src at p
        → (head + get_or v count 0 ≤ m) × (p + get_or v count 0 * 8 ≤ length src)

-- the words w have become z: the head v and its records stand at `at`, r is the place behind them,
-- and what lies behind the records is as it was
pub record HeadedRead (gs : List Group) (head count rest : ℕ) (src : List ℕ) (at : ℕ)
    (w z : List ℕ) (r : ℕ) : Type 0 where
  pub words : List ℕ
  pub records : List ℕ
  pub place : ℕ
  pub grouped : GroupedWords gs head rest words
  pub stands : Stands (groups_bytes gs words) src at place
  pub long : length records ≡ get_or words count 0
  pub read : Read 8 src place records r
  pub row : z ≡ words ++ (records ++ drop (head + length records) w)
