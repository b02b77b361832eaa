-- The laws of a table of n values.
use mathlib.Core.Path.{◌≡◌, refl, sym, ap, ◌∙◌}
use mathlib.Core.Logic.{◌≢◌}
use Prim.Native.Nat.{ℕ, zero, suc, ◌+◌, ◌≤◌, ◌<◌}
use native.Mathlib.Nat.{zero-add}
use native.Mathlib.Omega.{arith}
use lib.ListN.{length, get_or, set, replicate}
use Rattle.index.specs.Index.{table}

module _ (f : ℕ → ℕ) where
  pub length-table : (s n : ℕ) → length (table f s n) ≡ n
  unfolding table
  length-table s zero = refl
  length-table s (suc n) = ap suc (length-table (suc s) n)

  pub get_or-table : (s n i : ℕ) → i < n → get_or (table f s n) i 0 ≡ f (s + i)
  unfolding table
  get_or-table s zero i h = omega arith
  get_or-table s (suc n) zero h = ap f (omega arith)
  get_or-table s (suc n) (suc i) h = get_or-table (suc s) n i (omega arith) ∙ ap f (omega arith)

-- a table of zeros
pub table_zeros : (f : ℕ → ℕ) (s n : ℕ) → ((i : ℕ) → f i ≡ 0) → table f s n ≡ replicate n 0
unfolding table
table_zeros f s zero z = refl
table_zeros f s (suc n) z = rw (z s, table_zeros f (suc s) n z)

-- two functions that agree but at one place have tables that do
pub table_same : (f g : ℕ → ℕ) (s n : ℕ) → ((j : ℕ) → s ≤ j → g j ≡ f j) → table g s n ≡ table f s n
unfolding table
table_same f g s zero h = refl
table_same f g s (suc n) h =
    rw (h s (omega arith), table_same f g (suc s) n (λ j l. h j (omega arith)))

pub table-set : (f g : ℕ → ℕ) (s n i v : ℕ) → g (s + i) ≡ v
    → ((j : ℕ) → j ≢ s + i → g j ≡ f j) → table g s n ≡ set (table f s n) i v
unfolding table
table-set f g s zero i v e h = refl
table-set f g s (suc n) zero v e h =
    let here : g s ≡ v = ap g (omega arith) ∙ e in
    rw (here, table_same f g (suc s) n (λ j l. h j (λ q. omega arith)))
table-set f g s (suc n) (suc i) v e h =
    let here : g s ≡ f s = h s (λ q. omega arith) in
    let at : suc s + i ≡ s + suc i = omega arith in
    rw (
      here,
      table-set f g (suc s) n i v (ap g at ∙ e) (λ j d. h j (λ q. d (q ∙ sym at))),
    )

-- .. and from 0 on
pub table-put : (f g : ℕ → ℕ) (n i v : ℕ) → g i ≡ v → ((j : ℕ) → j ≢ i → g j ≡ f j)
    → table g 0 n ≡ set (table f 0 n) i v
table-put f g n i v e h =
    table-set f g 0 n i v (ap g (zero-add i) ∙ e) (λ j d. h j (λ q. d (q ∙ sym (zero-add i))))

pub table_get : (f : ℕ → ℕ) (n i : ℕ) → i < n → get_or (table f 0 n) i 0 ≡ f i
table_get f n i h = get_or-table f 0 n i h ∙ ap f (zero-add i)
