-- What the functions over the index words ask for and give.
use Rattle.std.specs.Prelude.{◌≡◌, ℕ, ◌+◌, ◌-◌, ◌≤◌, ◌<◌, ◌^◌, Bool, true, false, ◌&&◌, ◌||◌, not}
use Rattle.std.specs.Prelude.{List, eqb, length, get_or, set, replicate}
use Rattle.words.specs.Rows.{part, splice}
use Rattle.rules.specs.Pick.{pick}
use Rattle.index.specs.Index.{slots, tails_at, nexts_at, index_form}
use Rattle.index.specs.Index.{heads_of, tails_of, nexts_of, tail_of}

-- The words ix hold the index of the records rs, the first of number k. Its next word is p: the p
-- records before it have left, and nothing has moved yet.
pub record Indexed (p k : ℕ) (rs ix : List ℕ) : Type 0 where
  pub begins : 1 ≤ k
  pub heads : part ix 0 slots ≡ heads_of k rs
  pub tails : part ix tails_at slots ≡ tails_of k rs
  pub nexts : part ix (nexts_at + p) (length rs) ≡ nexts_of k rs
  pub room : nexts_at + p + length rs ≤ length ix

-- ---- the words after each change

-- no record is in the index
unfoldable pub cleared : List ℕ → List ℕ
cleared ix = splice ix 0 nexts_at (replicate nexts_at 0)

-- where number k, whose next word is i, is entered behind the tail of its slot: where there is
-- none it is the head
unfoldable pub link_at : ℕ → ℕ → ℕ → ℕ → ℕ
link_at slot k i tail = pick (eqb tail 0) slot (nexts_at + i - (k - tail))

-- number k, whose next word is i, has become the last of its slot
unfoldable pub appended : ℕ → ℕ → ℕ → List ℕ → List ℕ
appended slot k i ix =
    set (set (set ix (link_at slot k i (get_or ix (tails_at + slot) 0)) k) (tails_at + slot) k)
    (nexts_at + i) 0

-- .. which asks for the room, and for a tail that is a number below k whose next word is there
pub record Appends (slot k i : ℕ) (ix : List ℕ) : Type 0 where
  pub within : slot < slots
  pub room : nexts_at + i < length ix
  pub below : get_or ix (tails_at + slot) 0 ≤ k
  pub near : 1 ≤ get_or ix (tails_at + slot) 0 → k ≤ get_or ix (tails_at + slot) 0 + i

-- the tail of a slot where its head has left and next stands behind that
unfoldable pub tail_after : ℕ → ℕ → ℕ
tail_after next tail = pick (eqb next 0) 0 tail

-- the head of a slot, whose next word is i, has gone
unfoldable pub gone : ℕ → ℕ → List ℕ → List ℕ
gone slot i ix =
    set (set ix slot (get_or ix (nexts_at + i) 0)) (tails_at + slot)
    (tail_after (get_or ix (nexts_at + i) 0) (get_or ix (tails_at + slot) 0))

-- the n next words from d on have moved to the front
unfoldable pub moved : ℕ → ℕ → List ℕ → List ℕ
moved d n ix = splice ix nexts_at n (part ix (nexts_at + d) n)

-- ---- the look at the whole index, from the last record to the first

-- A word a is the head; and where there is no head, t is k, as a tail must be that stands before
-- none.
unfoldable pub agrees : ℕ → ℕ → ℕ → ℕ → Bool
agrees a head t k = eqb a head && (not (eqb head 0) || eqb t k)

-- hs are the heads of the records rs, the first of number k and next word p, of which the next
-- words and, where a slot has a head, the tails are right
pub record Swept (p k : ℕ) (rs ix hs : List ℕ) : Type 0 where
  pub heads : hs ≡ heads_of k rs
  pub nexts : part ix (nexts_at + p) (length rs) ≡ nexts_of k rs
  pub tails : (s : ℕ) → s < slots → 1 ≤ get_or hs s 0 → get_or ix (tails_at + s) 0 ≡ tail_of s k rs

-- what the look says: all was right, or the words are no index of these records
pub record Looked (k : ℕ) (rs ix hs : List ℕ) (r : Bool) : Type 0 where
  pub right : r ≡ true → Swept 0 k rs ix hs
  pub wrong : r ≡ false → Indexed 0 k rs ix → ⊥

-- the words of slot s agree with its head: it is there, and without one there is no tail
pub record Ends (hs ix : List ℕ) (s : ℕ) : Type 0 where
  pub head : get_or ix s 0 ≡ get_or hs s 0
  pub tail : get_or hs s 0 ≡ 0 → get_or ix (tails_at + s) 0 ≡ 0

-- .. for each slot, or not
pub record Ended (hs ix : List ℕ) (r : Bool) : Type 0 where
  pub right : r ≡ true → (s : ℕ) → s < slots → Ends hs ix s
  pub wrong : r ≡ false → ((s : ℕ) → s < slots → Ends hs ix s) → ⊥

-- ---- the walk

-- the numbers of the records can be counted in 32 bits, and the words are their index
pub record Walks (first : ℕ) (rs ix : List ℕ) : Type 0 where
  pub form : index_form first rs ix ≡ true
  pub fits : first + length rs ≤ 2 ^ 32
