-- Ticks round the wrap, and the search for the nearest word.
use Rattle.std.proofs.Common.{◌≡◌, ℕ, ◌+◌, ◌%◌, ◌<◌, ◌≤◌, List, length, get_or, drop, add-one}
use Rattle.std.proofs.Common.{arith, drop_of_length-le, drop-cons}
use Rattle.desk.specs.Near.{ticks_from, better, nearest_from}

pub ticks_is : (a b r : ℕ) → a < 4294967296 → b < 4294967296 → r < 4294967296
    → (r + b) % 4294967296 ≡ a → r ≡ ticks_from b a
unfolding ticks_from
ticks_is a b r ha hb hr e = omega arith

module _ (t : ℕ) (ws : List ℕ) (i : ℕ) where
  pub found-on : (found : ℕ) {next all : ℕ} → i < length ws → next ≡ better t found (get_or ws i 0)
      → nearest_from t found (drop i ws) ≡ all → nearest_from t next (drop (i + 1) ws) ≡ all
  unfolding nearest_from
  found-on found h e k = rw (e, add-one) (rw (drop-cons ws i 0 h) at k)

  pub found-end : (found : ℕ) {all : ℕ} → length ws ≤ i → nearest_from t found (drop i ws) ≡ all
      → found ≡ all
  unfolding nearest_from
  found-end found h k = rw (drop_of_length-le ws h) at k
