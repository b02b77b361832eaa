-- The boxes one by one, for the functions that count: which of them are readable, what those seen
-- so far keep, and the next number that one of them may keep.
use Rattle.std.specs.Prelude.{ℕ, ◌+◌, ◌-◌, ◌≤◌, ◌<◌, ◌≡◌, Bool, false, not, ◌||◌, List, [], ◌∷◌}
use Rattle.std.specs.Prelude.{eqb, get_or}
use Rattle.rules.specs.Pick.{pick}
use Rattle.salvage.specs.declared.loads.Tally.{Tally}
use Rattle.salvage.specs.Loads.{kept_in, kept_by, held, record_text, differs_text}

-- word b − 1 is 1 where box b is readable
abbrev pub flagged : List ℕ → ℕ → Bool
flagged ks b = eqb (get_or ks (b - 1) 0) 1

abbrev pub none_yet : Tally
none_yet = record { value = 0; many = 0; differs = false }

-- one box more, which keeps r, or 0
unfoldable pub added : Tally → ℕ → Tally
added t r =
    pick (eqb r 0) t
    (pick (eqb t.many 0) (record { value = r; many = 1; differs = false })
    (record {
      value = t.value;
      many = t.many + 1;
      differs = t.differs || not (eqb t.value r);
    }))

unfoldable pub tallied : Tally → List ℕ → Tally
tallied t [] = t
tallied t (r ∷ rs) = tallied (added t r) rs

-- what is written of number k
unfoldable pub tally_text : ℕ → Tally → List ℕ
tally_text k t =
    pick (eqb t.many 0) []
    (pick t.differs (differs_text k) (record_text k t.value t.many))

-- r is a number from k on, and a box of n keeps none of those before it
pub record Skips (readable : Bool) (n : ℕ) (body : List ℕ) (k r : ℕ) : Type 0 where
  pub from : k ≤ r
  pub none : (j : ℕ) → k ≤ j → j < r → kept_in readable n body j ≡ 0

-- .. whatever n is
abbrev pub SkipsIn : Bool → List ℕ → ℕ → ℕ → Type 0
SkipsIn readable body k r = (n : ℕ) → Skips readable n body k r

-- .. and the boxes keep none
pub record SkipsAll (readable : ℕ → Bool) (im : List ℕ) (n k r : ℕ) : Type 0 where
  pub from : k ≤ r
  pub none : (j : ℕ) → k ≤ j → j < r → held (kept_by readable im n j) ≡ []
