-- The peers of a row: the place of each, and what their form says of the words.
use mathlib.Core.Path.{◌≡◌, refl, sym, ap, ◌∙◌}
use mathlib.Core.Bool.{Bool, true, false, not, ◌&&◌, ◌||◌, and-true, and_assoc}
use mathlib.Core.List.{List}
use Prim.Native.Nat.{ℕ, zero, suc, ◌+◌, ◌-◌, ◌≤◌, ◌<◌, ◌^◌}
use native.Mathlib.Omega.{arith}
use native.Mathlib.Decide.{ℕ_discrete}
use borrow.Author.Tests.{le-leb, lt-leb, leb-true, eqb-true}
use lib.Dec.{leb, eqb}
use lib.ListN.{get_or}
use Rattle.rules.specs.Every.{every}
use Rattle.rules.specs.Sizes.{most_boxes, most_number, unknown}
use Rattle.rules.specs.Form.{peer_form}
use Rattle.rules.proofs.BoundLaws.{first-of, second-of}
use Rattle.row.specs.Row.{peer_of, head_of, before_peers}

-- Every number of 1 to n passes, and so does k.
pub every-says : (n : ℕ) (p : ℕ → Bool) (k : ℕ) → every n p ≡ true → 1 ≤ k → k ≤ n → p k ≡ true
unfolding every
every-says zero p k e a b = absurd (omega arith)
every-says (suc n) p k e a b =
    go (ℕ_discrete k (suc n)) (every-says n p k (second-of (p (suc n)) (every n p) e) a)
  where
    go : Dec (k ≡ suc n) → (k ≤ n → p k ≡ true) → p k ≡ true
    go (yes q) below = ap p q ∙ first-of (p (suc n)) (every n p) e
    go (no ne) below = below (omega arith)

-- The five one by one.
pub every-five : (p : ℕ → Bool) → (p 5 && p 4 && p 3 && p 2 && p 1) ≡ every 5 p
unfolding every
every-five p = simp (and_assoc, and-true)

-- The last of peer k stands at its number less 1.
pub peers-at : (n : ℕ) (r : List ℕ) (k : ℕ) → 1 ≤ k → k ≤ most_boxes
    → get_or (head_of n r).peers (k - 1) 0 ≡ peer_of n r k
peers-at n r zero a b = absurd (omega arith)
peers-at n r (suc zero) a b = refl
peers-at n r (suc (suc zero)) a b = refl
peers-at n r (suc (suc (suc zero))) a b = refl
peers-at n r (suc (suc (suc (suc zero)))) a b = refl
peers-at n r (suc (suc (suc (suc (suc zero))))) a b = refl
peers-at n r (suc (suc (suc (suc (suc (suc k)))))) a b = absurd (omega arith)

module _ (n : ℕ) (r : List ℕ) (k : ℕ) where
  -- Peer k of n has its word ..
  pub peer_in : k ≤ n → peer_of n r k ≡ get_or r (before_peers + k) 0
  peer_in h = rw (le-leb k n h)

  -- .. and above n there is none.
  pub peer-above : n < k → peer_of n r k ≡ unknown
  peer-above h = rw (lt-leb k n h)

module _ (n b : ℕ) (r : List ℕ) (k : ℕ) (least : 1 ≤ k) (most : k ≤ most_boxes) where
  peer-form : peer_form n b (head_of n r).peers k
      ≡ (eqb (peer_of n r k) unknown
      || (leb k n && not (eqb k b) && leb (peer_of n r k) most_number))
  unfolding peer_form
  peer-form = rw (peers-at n r k least most)

  -- What the code of `is_peer` looks at is the form of peer k ..
  pub peer-go : k ≤ n
      → (eqb (get_or r (before_peers + k) 0) unknown
      || (not (eqb k b) && leb (get_or r (before_peers + k) 0) most_number))
      ≡ peer_form n b (head_of n r).peers k
  peer-go h = sym (peer-form ∙ rw (peer_in n r k h, le-leb k n h))

  -- .. and above n nothing is looked at.
  pub peer-stop : n < k → true ≡ peer_form n b (head_of n r).peers k
  peer-stop h = sym (peer-form ∙ rw (peer-above n r k h))

  -- The word of peer k fits 32 bits.
  pub peer-fits : k ≤ n → peer_form n b (head_of n r).peers k ≡ true
      → get_or r (before_peers + k) 0 < 2 ^ 32
  peer-fits h e = go (eqb x unknown) refl (peer-go h ∙ e)
    where
      x : ℕ
      x = get_or r (before_peers + k) 0

      go : (t : Bool) → eqb x unknown ≡ t
          → (eqb x unknown || (not (eqb k b) && leb x most_number)) ≡ true → x < 2 ^ 32
      go true q f = omega (arith, eqb-true x unknown q)
      go false q f =
          let g = rw q at f in
          omega (arith, leb-true x most_number (second-of (not (eqb k b)) (leb x most_number) g))
