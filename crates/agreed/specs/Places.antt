-- What is handed out, in statements alone.
use Rattle.std.specs.Prelude.{ℕ, ◌≡◌, true, List, length, get_or}
use Rattle.rules.specs.Site.{is_box}
use Rattle.memory.specs.Memory.{n_at, memory_form}
use Rattle.agreed.specs.Agreed.{agreed_count, agreed_records, box_at, agreed_on, named, records_on}

pub record Places : Type 0 where
  -- the part that `agreed_at` names is what `agreed_records` hands out, whatever the words are
  pub handed_out : (xs ls : List ℕ) (c : ℕ) → named xs (agreed_on xs ls c) ≡ records_on xs ls c
  -- of a box it is all of its agreed records, a number each
  pub of-box : (xs ls : List ℕ) (c : ℕ) → memory_form xs ls ≡ true
      → is_box (get_or xs n_at 0) c ≡ true
      → records_on xs ls c ≡ agreed_records (box_at xs ls c)
  pub as_many : (xs ls : List ℕ) (c : ℕ) → memory_form xs ls ≡ true
      → is_box (get_or xs n_at 0) c ≡ true → length (records_on xs ls c)
      ≡ agreed_count (box_at xs ls c)
