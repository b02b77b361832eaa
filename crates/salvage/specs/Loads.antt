-- "For every number that a readable box keeps as agreed: the record, how many boxes do so, or
-- "differs" if two readable ones disagree."
use Rattle.std.specs.Prelude.{ℕ, zero, suc, ◌+◌, ◌-◌, ◌*◌, Bool, ◌&&◌, List, [], ◌∷◌, ◌++◌, map}
use Rattle.std.specs.Prelude.{eqb, length}
use Rattle.rules.specs.Pick.{pick}
use Rattle.rules.specs.Every.{each}
use Rattle.rules.specs.Sizes.{left_of, right_of, within}
use Rattle.row.specs.Row.{last_at}
use Rattle.image.specs.Image.{numbers_from}
use Rattle.image.specs.Longest.{box_head_long}
use Rattle.print.specs.Bytes.{bytes}
use Rattle.print.specs.Decimal.{decimal}
use Rattle.found.specs.Stands.{word_at}
use Rattle.found.specs.Found.{first_in}
use Rattle.salvage.specs.Table.{box_body_of}

abbrev pub last_in : List ℕ → ℕ
last_in body = word_at 4 body (4 * last_at)

-- the record that a box of n, readable or not, keeps as agreed for number k; 0 where it keeps none
unfoldable pub kept_in : Bool → ℕ → List ℕ → ℕ → ℕ
kept_in readable n body k =
    pick (readable && within (first_in body) (last_in body) k)
    (word_at 8 body (box_head_long n + 8 * (k - first_in body))) 0

-- .. those of boxes 1 to n, of which box b is readable where `readable b`
abbrev pub kept_by : (ℕ → Bool) → List ℕ → ℕ → ℕ → List ℕ
kept_by readable im n k =
    map (λ b. kept_in (readable b) n (box_body_of im b) k) (numbers_from 1 n)

-- without those that keep none
unfoldable pub held : List ℕ → List ℕ
held [] = []
held (r ∷ rs) = pick (eqb r 0) (held rs) (r ∷ held rs)

-- `load NUMBER LEFT RIGHT HOWMANY` or `load NUMBER differs`
abbrev pub record_text : ℕ → ℕ → ℕ → List ℕ
record_text k r many =
    bytes "load " ++ (decimal k ++ ((32 ∷ decimal (left_of r)) ++ ((32 ∷ decimal (right_of r))
    ++ ((32 ∷ decimal many) ++ (10 ∷ [])))))

abbrev pub differs_text : ℕ → List ℕ
differs_text k = bytes "load " ++ (decimal k ++ bytes " differs\n")

-- what is written of number k, which these boxes keep with these records
abbrev pub load_text : ℕ → List ℕ → List ℕ
load_text k [] = []
load_text k (r ∷ rs) = pick (each (eqb r) rs) (record_text k r (length (r ∷ rs))) (differs_text k)

-- m numbers from k on, "numbers rising"
unfoldable pub loads_text : (ℕ → Bool) → List ℕ → ℕ → ℕ → ℕ → List ℕ
loads_text readable im n zero k = []
loads_text readable im n (suc m) k =
    load_text k (held (kept_by readable im n k)) ++ loads_text readable im n m (suc k)
