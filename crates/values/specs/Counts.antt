-- How many records go with a first and a last, of any words: where last is no load number, or first
-- lies beyond last+1, no count does, so no sum leaves a word.
use Rattle.std.specs.Prelude.{ℕ, ◌+◌, Bool, ◌&&◌, ◌||◌, leb, ltb, eqb}
use Rattle.rules.specs.Sizes.{most_number}
use Rattle.rules.specs.Parts.{span}

-- those of first to last and `more` behind them, at most J
unfoldable pub count_of : ℕ → ℕ → ℕ → ℕ → ℕ → Bool
count_of J first last more count =
    leb last most_number && leb first (last + 1)
    && (leb count J && eqb count (span first last + more))

-- those of first to last
abbrev pub agreed_count : ℕ → ℕ → ℕ → ℕ → Bool
agreed_count J first last count = count_of J first last 0 count

-- .. and of last+1, which is a load number too
abbrev pub full_count : ℕ → ℕ → ℕ → ℕ → Bool
full_count J first last count = count_of J first last 1 count && ltb last most_number

-- either
abbrev pub held_count : ℕ → ℕ → ℕ → ℕ → Bool
held_count J first last count = agreed_count J first last count || full_count J first last count
