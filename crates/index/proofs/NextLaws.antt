-- The heads, tails and next numbers of records: with a record before them, and with one behind.
use mathlib.Core.Path.{◌≡◌, refl, sym, ap, ◌∙◌}
use mathlib.Core.Logic.{◌≢◌}
use Prim.Native.Nat.{ℕ, zero, suc, ◌+◌, ◌-◌, ◌≤◌, ◌<◌}
use mathlib.Core.Bool.{true, false}
use mathlib.Core.List.{List, [], ◌∷◌, ◌++◌}
use native.Mathlib.Omega.{arith}
use lib.ListN.{length, get_or, set, drop}
use lib.Seq.{set-get_or}
use borrow.Author.Tests.{eq-eqb, ne_eqb, eqb-true}
use Rattle.index.specs.Index.{slots, slot_of, first_of, last_of, in_slot, head_of, tail_of}
use Rattle.index.specs.Index.{heads_of, tails_of, nexts_of}
use Rattle.index.proofs.CaseLaws.{test-cases, none-cases}
use Rattle.index.proofs.FirstLaws.{first-here, first_on, last-here, last_none, last_on}
use Rattle.index.proofs.FirstLaws.{last-skip, last_within, none_last, none_first}
use Rattle.index.proofs.FirstLaws.{first-stays, first-new, first-same, last-new, last-same}
use Rattle.index.proofs.TableLaws.{table-put, table_get, length-table}

-- ---- slots

pub slot-below : (r : ℕ) → slot_of r < slots
unfolding slot_of
slot-below r = omega arith

pub in_own : (r : ℕ) → in_slot (slot_of r) r ≡ true
unfolding in_slot
in_own r = eq-eqb (slot_of r) (slot_of r) refl

pub in-slot : (s r : ℕ) → in_slot s r ≡ true → slot_of r ≡ s
unfolding in_slot
in-slot s r e = eqb-true (slot_of r) s e

pub in_other : (s r : ℕ) → s ≢ slot_of r → in_slot s r ≡ false
unfolding in_slot
in_other s r d = ne_eqb (slot_of r) s (λ e. d (sym e))

-- two records are of one slot, or neither is of the other's
pub in_turn : (x r : ℕ) → in_slot (slot_of r) x ≡ false → in_slot (slot_of x) r ≡ false
in_turn x r e =
    test-cases (in_slot (slot_of x) r)
    (λ t. t ∙ (rw (in-slot (slot_of x) r t, in_own x) at e))
    (λ f. f)

-- ---- what stands at a slot, and beside a record

module _ (k : ℕ) (rs : List ℕ) where
  pub length-heads : length (heads_of k rs) ≡ slots
  unfolding heads_of
  length-heads = length-table (λ s. head_of s k rs) 0 slots

  pub length-tails : length (tails_of k rs) ≡ slots
  unfolding tails_of
  length-tails = length-table (λ s. tail_of s k rs) 0 slots

  pub get_or-heads : (s : ℕ) → s < slots → get_or (heads_of k rs) s 0 ≡ head_of s k rs
  unfolding heads_of
  get_or-heads s h = table_get (λ s. head_of s k rs) slots s h

  pub get_or-tails : (s : ℕ) → s < slots → get_or (tails_of k rs) s 0 ≡ tail_of s k rs
  unfolding tails_of
  get_or-tails s h = table_get (λ s. tail_of s k rs) slots s h

pub length-nexts : (k : ℕ) (rs : List ℕ) → length (nexts_of k rs) ≡ length rs
unfolding nexts_of
length-nexts k [] = refl
length-nexts k (r ∷ rs) = ap suc (length-nexts (k + 1) rs)

pub get_or-nexts : (k i : ℕ) (rs : List ℕ) → i < length rs
    → get_or (nexts_of k rs) i 0 ≡ head_of (slot_of (get_or rs i 0)) (k + suc i) (drop (suc i) rs)
unfolding nexts_of
get_or-nexts k i [] h = absurd (omega arith)
get_or-nexts k zero (r ∷ rs) h = ap (λ (a : ℕ). head_of (slot_of r) a rs) (omega arith)
get_or-nexts k (suc i) (r ∷ rs) h =
    get_or-nexts (k + 1) i rs (omega arith)
    ∙ ap (λ (a : ℕ). head_of (slot_of (get_or rs i 0)) a (drop (suc i) rs)) (omega arith)

-- ---- a record before them

module _ (k r : ℕ) (rs : List ℕ) where
  pub heads-enter : heads_of k (r ∷ rs) ≡ set (heads_of (k + 1) rs) (slot_of r) k
  unfolding heads_of
  heads-enter =
      table-put (λ s. head_of s (k + 1) rs) (λ s. head_of s k (r ∷ rs)) slots (slot_of r) k
      (first-here (in_slot (slot_of r)) k r rs (in_own r))
      (λ j d. first_on (in_slot j) k r rs (in_other j r d))

  pub tails-enter :
      tails_of k (r ∷ rs) ≡ set (tails_of (k + 1) rs) (slot_of r) (tail_of (slot_of r) k (r ∷ rs))
  unfolding tails_of
  tails-enter =
      table-put (λ s. tail_of s (k + 1) rs) (λ s. tail_of s k (r ∷ rs)) slots (slot_of r)
      (tail_of (slot_of r) k (r ∷ rs)) refl
      (λ j d. last-skip (in_slot j) k r rs (in_other j r d))

-- ---- a record behind them

module _ (k r : ℕ) (rs : List ℕ) (b : 1 ≤ k) where
  heads-more : heads_of k (rs ++ (r ∷ []))
      ≡ set (heads_of k rs) (slot_of r) (head_of (slot_of r) k (rs ++ (r ∷ [])))
  unfolding heads_of
  heads-more =
      table-put (λ s. head_of s k rs) (λ s. head_of s k (rs ++ (r ∷ []))) slots (slot_of r)
      (head_of (slot_of r) k (rs ++ (r ∷ []))) refl
      (λ j d. first-same (in_slot j) r k rs (in_other j r d))

  pub heads-new : tail_of (slot_of r) k rs ≡ 0
      → heads_of k (rs ++ (r ∷ [])) ≡ set (heads_of k rs) (slot_of r) (k + length rs)
  heads-new z =
      let p = in_slot (slot_of r) in
      let none = none_first p k rs b z in
      heads-more ∙ ap (set (heads_of k rs) (slot_of r)) (first-new p r k rs b none (in_own r))

  pub heads-stay : 1 ≤ tail_of (slot_of r) k rs → heads_of k (rs ++ (r ∷ [])) ≡ heads_of k rs
  heads-stay h =
      let p = in_slot (slot_of r) in
      let some : 1 ≤ head_of (slot_of r) k rs =
      none-cases (head_of (slot_of r) k rs)
      (λ z. let t = none_last p k rs b z in omega arith) (λ s. s) in
      let at = get_or-heads k rs (slot_of r) (slot-below r) in
      heads-more
      ∙ ap (set (heads_of k rs) (slot_of r)) (first-stays p r k rs some ∙ sym at)
      ∙ set-get_or (heads_of k rs) (slot_of r) 0

  pub tails-new : tails_of k (rs ++ (r ∷ [])) ≡ set (tails_of k rs) (slot_of r) (k + length rs)
  unfolding tails_of
  tails-new =
      table-put (λ s. tail_of s k rs) (λ s. tail_of s k (rs ++ (r ∷ []))) slots (slot_of r)
      (k + length rs) (last-new (in_slot (slot_of r)) r k rs b (in_own r))
      (λ j d. last-same (in_slot j) r k rs (in_other j r d))

module _ (r : ℕ) where
  -- no record of its slot: nothing names the new one
  pub nexts-new : (k : ℕ) (rs : List ℕ) → 1 ≤ k → tail_of (slot_of r) k rs ≡ 0
      → nexts_of k (rs ++ (r ∷ [])) ≡ nexts_of k rs ++ (0 ∷ [])
  unfolding nexts_of first_of
  nexts-new k [] b z = refl
  nexts-new k (x ∷ rs) b z =
      let p = in_slot (slot_of r) in
      none-cases (tail_of (slot_of r) (k + 1) rs)
      (λ y.
      test-cases (p x)
      (λ e. let here = last-here p k x rs y e in absurd (omega arith))
      (λ e.
      rw (
        first-same (in_slot (slot_of x)) r (k + 1) rs (in_turn x r e),
        nexts-new (k + 1) rs (omega arith) y,
      ) refl))
      (λ s. let on = last_on p k x rs s in absurd (omega arith))

  -- the record before it in its slot is the one at t
  pub nexts-link : (k : ℕ) (rs : List ℕ) (t v : ℕ) → 1 ≤ k → t ≡ tail_of (slot_of r) k rs → 1 ≤ t
      → v ≡ k + length rs
      → nexts_of k (rs ++ (r ∷ [])) ≡ set (nexts_of k rs) (t - k) v ++ (0 ∷ [])
  unfolding nexts_of last_of
  nexts-link k [] t v b e h q = absurd (omega arith)
  nexts-link k (x ∷ rs) t v b e h q =
      let p = in_slot (slot_of r) in
      let o = in_slot (slot_of x) in
      none-cases (tail_of (slot_of r) (k + 1) rs)
      (λ z.
      test-cases (p x)
      (λ i.
      let at : t - k ≡ 0 = omega (arith, last-here p k x rs z i) in
      let none : head_of (slot_of x) (k + 1) rs ≡ 0 =
      rw (in-slot (slot_of r) x i) (none_first p (k + 1) rs (omega arith) z) in
      let own : o r ≡ true = rw (in-slot (slot_of r) x i) (in_own r) in
      let new : head_of (slot_of x) (k + 1) (rs ++ (r ∷ [])) ≡ v =
      first-new o r (k + 1) rs (omega arith) none own ∙ omega arith in
      rw (at, new, nexts-new (k + 1) rs (omega arith) z) refl)
      (λ i. let none = last_none p k x rs z i in absurd (omega arith)))
      (λ s.
      let on = last_on p k x rs s in
      let w = last_within p (k + 1) rs s in
      let at : t - k ≡ suc (t - (k + 1)) = omega arith in
      let stays : head_of (slot_of x) (k + 1) (rs ++ (r ∷ [])) ≡ head_of (slot_of x) (k + 1) rs =
      test-cases (o r)
      (λ i.
      first-stays o r (k + 1) rs
      (none-cases (head_of (slot_of x) (k + 1) rs)
      (λ y.
      let none = none_last o (k + 1) rs (omega arith) y in
      let same = rw (← in-slot (slot_of x) r i) at none in
      absurd (omega arith))
      (λ y. y)))
      (λ i. first-same o r (k + 1) rs i) in
      let rest = nexts-link (k + 1) rs t v (omega arith) (e ∙ on) h (q ∙ omega arith) in
      rw (at, stays, rest) refl)
