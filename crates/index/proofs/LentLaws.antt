-- The words hold the index of the records through each change.
use mathlib.Core.Path.{◌≡◌, refl, sym, ap, ◌∙◌}
use Prim.Native.Nat.{ℕ, suc, ◌+◌, ◌-◌, ◌≤◌, ◌<◌}
use native.Mathlib.Numerals.{add-one}
use native.Mathlib.Nat.{zero-add}
use native.Mathlib.Omega.{arith}
use mathlib.Core.List.{List, [], ◌∷◌, ◌++◌}
use lib.Dec.{eqb}
use lib.ListN.{length, get_or, set, take, drop, replicate, length-append, length-set, length-drop}
use lib.Seq.{take-set-le, take-set-lt, drop-set-lt, drop-set-add, take-suc-set, drop-cons, set-set}
use lib.Seq.{set-get_or, get_or-take}
use Rattle.words.specs.Rows.{part}
use Rattle.words.proofs.PartLaws.{length_part, get_or_part, part-part, part-splice, part-below}
use Rattle.words.proofs.PartLaws.{length-splice, drop_past}
use Rattle.rules.specs.Pick.{pick_true, pick-false}
use Rattle.index.specs.Index.{slots, tails_at, nexts_at, slot_of, in_slot, head_of, tail_of}
use Rattle.index.specs.Index.{heads_of, tails_of, nexts_of, first_of, last_of}
use Rattle.index.specs.Lent.{Indexed, Appends, cleared, link_at, appended, tail_after, gone}
use Rattle.index.specs.Lent.{moved}
use Rattle.index.proofs.CaseLaws.{none-cases, is_none, is_some}
use Rattle.index.proofs.FirstLaws.{last_within, last_on, none_last, none_first}
use Rattle.index.proofs.TableLaws.{table_zeros}
use Rattle.index.proofs.NextLaws.{slot-below, get_or-heads, get_or-tails}
use Rattle.index.proofs.NextLaws.{heads-enter, tails-enter}
use Rattle.index.proofs.NextLaws.{heads-new, heads-stay, tails-new, nexts-new, nexts-link}

-- ---- a word is set: before a part, in it, behind it, and right at its end

module _ (xs : List ℕ) (a k v : ℕ) where
  pub set_before : (i : ℕ) → i < a → part (set xs i v) a k ≡ part xs a k
  set_before i h = ap (take k) (drop-set-lt a xs i v h)

  pub set_in : (i j : ℕ) → i ≡ a + j → j < k → part (set xs i v) a k ≡ set (part xs a k) j v
  set_in i j e h = rw (e, drop-set-add a xs j v, take-set-lt k (drop a xs) j v h) refl

  pub set-behind : (i : ℕ) → a + k ≤ i → part (set xs i v) a k ≡ part xs a k
  set-behind i h =
      let e : i ≡ a + (i - a) = omega arith in
      let l : k ≤ i - a = omega arith in
      rw (e, drop-set-add a xs (i - a) v, take-set-le k (drop a xs) (i - a) v l) refl

  pub set-end : (i n : ℕ) → i ≡ a + k → i < length xs → n ≡ k + 1
      → part (set xs i v) a n ≡ part xs a k ++ (v ∷ [])
  set-end i n e h q =
      let l : k < length (drop a xs) = rw length-drop (omega arith) in
      rw (e, q, drop-set-add a xs k v, add-one k, take-suc-set (drop a xs) k v l) refl

-- a part without its first word
part-tail : (xs : List ℕ) (a k b : ℕ) → a + suc k ≤ length xs → b ≡ a + 1
    → part xs b k ≡ drop 1 (part xs a (suc k))
part-tail xs a k b h e =
    let l : a < length xs = omega arith in
    rw (e, drop-cons xs a 0 l, add-one a) refl

-- ---- what stands in the words

module _ {p k : ℕ} {rs ix : List ℕ} (x : Indexed p k rs ix) where
  pub head-word : (s : ℕ) → s < slots → get_or ix s 0 ≡ head_of s k rs
  head-word s h =
      sym (get_or-take slots ix s 0 h) ∙ ap (λ (l : List ℕ). get_or l s 0) x.heads
      ∙ get_or-heads k rs s h

  pub tail-word : (s : ℕ) → s < slots → get_or ix (tails_at + s) 0 ≡ tail_of s k rs
  tail-word s h =
      sym (get_or_part tails_at slots s 0 ix h) ∙ ap (λ (l : List ℕ). get_or l s 0) x.tails
      ∙ get_or-tails k rs s h

  pub next_word : (i : ℕ) → i < length rs
      → get_or ix (nexts_at + p + i) 0 ≡ get_or (nexts_of k rs) i 0
  next_word i h =
      sym (get_or_part (nexts_at + p) (length rs) i 0 ix h)
      ∙ ap (λ (l : List ℕ). get_or l i 0) x.nexts

-- ---- cleared

module _ (ix : List ℕ) (h : nexts_at ≤ length ix) where
  pub length-cleared : length (cleared ix) ≡ length ix
  unfolding cleared
  length-cleared = length-splice 0 nexts_at ix (replicate nexts_at 0) h refl

  cleared-part : (a : ℕ) → a + slots ≤ nexts_at
      → part (cleared ix) a slots ≡ part (replicate nexts_at 0) a slots
  unfolding cleared
  cleared-part a l =
      ap (λ (b : ℕ). part (cleared ix) b slots) (sym (zero-add a))
      ∙ sym (part-part 0 nexts_at a slots (cleared ix) l)
      ∙ ap (λ (xs : List ℕ). part xs a slots)
      (part-splice 0 nexts_at ix (replicate nexts_at 0) h refl)

  pub indexed-clear : (p k : ℕ) → 1 ≤ k → nexts_at + p ≤ length ix → Indexed p k [] (cleared ix)
  unfolding heads_of tails_of nexts_of first_of last_of
  indexed-clear p k b l =
      record {
        begins = b;
        heads =
            cleared-part 0 (omega arith)
            ∙ sym (table_zeros (λ s. head_of s k []) 0 slots (λ i. refl));
        tails =
            cleared-part tails_at (omega arith)
            ∙ sym (table_zeros (λ s. tail_of s k []) 0 slots (λ i. refl));
        nexts = refl;
        room = rw length-cleared (omega arith);
      }

  -- the words behind stay
  pub past-cleared : (b : ℕ) → nexts_at ≤ b → drop b (cleared ix) ≡ drop b ix
  unfolding cleared
  past-cleared b l = drop_past 0 nexts_at b ix (replicate nexts_at 0) l h refl

-- ---- appended

module _ (slot k i : ℕ) (ix : List ℕ) where
  pub length-appended : length (appended slot k i ix) ≡ length ix
  unfolding appended
  length-appended = simp length-set

-- the word that is to name number k is there
pub link-within : {slot k i : ℕ} {ix : List ℕ} → Appends slot k i ix
    → link_at slot k i (get_or ix (tails_at + slot) 0) < length ix
unfolding link_at
link-within {slot} {k} {i} {ix} a =
    let t = get_or ix (tails_at + slot) 0 in
    let within = a.within in
    let room = a.room in
    none-cases t
    (λ z. rw (pick_true (eqb t 0) _ _ (is_none t z)) (omega arith))
    (λ s. rw (pick-false (eqb t 0) _ _ (is_some t s)) (omega arith))

-- the words behind stay
pub past-appended : {slot k i : ℕ} {ix : List ℕ} (b : ℕ) → Appends slot k i ix → nexts_at + i < b
    → drop b (appended slot k i ix) ≡ drop b ix
unfolding appended link_at
past-appended {slot} {k} {i} {ix} b a h =
    let t = get_or ix (tails_at + slot) 0 in
    let at = link_at slot k i t in
    let within = a.within in
    let below : at < b =
    none-cases t
    (λ z. rw (pick_true (eqb t 0) _ _ (is_none t z)) (omega arith))
    (λ s. rw (pick-false (eqb t 0) _ _ (is_some t s)) (omega arith)) in
    let one = set ix at k in
    let two = set one (tails_at + slot) k in
    drop-set-lt b two (nexts_at + i) 0 h ∙ drop-set-lt b one (tails_at + slot) k (omega arith)
    ∙ drop-set-lt b ix at k below

module _ {p k : ℕ} {rs ix : List ℕ} (x : Indexed p k rs ix) (r n i : ℕ) (en : n ≡ k + length rs)
    (ei : i ≡ p + length rs) (h : nexts_at + i < length ix) where
  abbrev tail : ℕ
  tail = tail_of (slot_of r) k rs

  tail-here : get_or ix (tails_at + slot_of r) 0 ≡ tail
  tail-here = tail-word x (slot_of r) (slot-below r)

  -- what `append` asks for
  pub append_asks : Appends (slot_of r) n i ix
  append_asks =
      let w = last_within (in_slot (slot_of r)) k rs in
      record {
        within = slot-below r;
        room = h;
        below =
            rw tail-here
            (none-cases tail (λ z. omega arith) (λ s. let l = (w s).high in omega arith));
        near = λ s. let l = (w (rw tail-here at s)).low in rw tail-here (omega arith);
      }

  long : length (rs ++ (r ∷ [])) ≡ length rs + 1
  long = rw length-append refl

  -- the words when `append` has written the word `at`
  abbrev after : ℕ → List ℕ
  after at = set (set (set ix at n) (tails_at + slot_of r) n) (nexts_at + i) 0

  after-tails : (at : ℕ) → part (set ix at n) tails_at slots ≡ part ix tails_at slots
      → part (after at) tails_at slots ≡ tails_of k (rs ++ (r ∷ []))
  after-tails at same =
      let one = set ix at n in
      let two = set one (tails_at + slot_of r) n in
      set-behind two tails_at slots 0 (nexts_at + i) (omega arith)
      ∙ set_in one tails_at slots n (tails_at + slot_of r) (slot_of r) refl (slot-below r)
      ∙ ap (λ (l : List ℕ). set l (slot_of r) n) (same ∙ x.tails)
      ∙ ap (set (tails_of k rs) (slot_of r)) en
      ∙ sym (tails-new k r rs x.begins)

  after-heads : (at : ℕ) → part (after at) 0 slots ≡ part (set ix at n) 0 slots
  after-heads at =
      let one = set ix at n in
      let two = set one (tails_at + slot_of r) n in
      set-behind two 0 slots 0 (nexts_at + i) (omega arith)
      ∙ set-behind one 0 slots n (tails_at + slot_of r) (omega arith)

  after-nexts : (at : ℕ)
      → part (after at) (nexts_at + p) (length (rs ++ (r ∷ [])))
      ≡ part (set ix at n) (nexts_at + p) (length rs) ++ (0 ∷ [])
  after-nexts at =
      let one = set ix at n in
      let two = set one (tails_at + slot_of r) n in
      let l : nexts_at + i < length two = simp length-set h in
      let below = slot-below r in
      let m = length (rs ++ (r ∷ [])) in
      set-end two (nexts_at + p) (length rs) 0 (nexts_at + i) m (omega arith) l long
      ∙ ap (λ (l : List ℕ). l ++ (0 ∷ []))
      (set_before one (nexts_at + p) (length rs) n (tails_at + slot_of r) (omega arith))

  after-room : (at : ℕ) → nexts_at + p + length (rs ++ (r ∷ [])) ≤ length (after at)
  after-room at = simp (length-set, long) (omega arith)

  -- it is the first of its slot
  first-appended : tail ≡ 0 → Indexed p k (rs ++ (r ∷ [])) (after (slot_of r))
  first-appended z =
      let below = slot-below r in
      let s = slot_of r in
      record {
        begins = x.begins;
        heads =
            after-heads s ∙ set_in ix 0 slots n s s (sym (zero-add s)) below
            ∙ ap (λ (l : List ℕ). set l s n) x.heads ∙ ap (set (heads_of k rs) s) en
            ∙ sym (heads-new k r rs x.begins z);
        tails = after-tails s (set_before ix tails_at slots n s below);
        nexts =
            after-nexts s
            ∙ ap (λ (l : List ℕ). l ++ (0 ∷ []))
            (set_before ix (nexts_at + p) (length rs) n s (omega arith) ∙ x.nexts)
            ∙ sym (nexts-new r k rs x.begins z);
        room = after-room s;
      }

  -- it stands behind the tail
  next-appended : 1 ≤ tail → Indexed p k (rs ++ (r ∷ [])) (after (nexts_at + p + (tail - k)))
  next-appended t =
      let at = nexts_at + p + (tail - k) in
      let w = last_within (in_slot (slot_of r)) k rs t in
      record {
        begins = x.begins;
        heads =
            after-heads at ∙ set-behind ix 0 slots n at (omega arith) ∙ x.heads
            ∙ sym (heads-stay k r rs x.begins t);
        tails = after-tails at (set-behind ix tails_at slots n at (omega arith));
        nexts =
            after-nexts at
            ∙ ap (λ (l : List ℕ). l ++ (0 ∷ []))
            (set_in ix (nexts_at + p) (length rs) n at (tail - k) refl (omega arith)
            ∙ ap (λ (l : List ℕ). set l (tail - k) n) x.nexts)
            ∙ sym (nexts-link r k rs tail n x.begins refl t en);
        room = after-room at;
      }

  pub indexed_append : Indexed p k (rs ++ (r ∷ [])) (appended (slot_of r) n i ix)
  unfolding appended link_at
  indexed_append =
      rw tail-here
      (none-cases tail
      (λ z. rw (pick_true (eqb tail 0) _ _ (is_none tail z)) (first-appended z))
      (λ s.
      let w = last_within (in_slot (slot_of r)) k rs s in
      let at : nexts_at + i - (n - tail) ≡ nexts_at + p + (tail - k) = omega arith in
      rw (pick-false (eqb tail 0) _ _ (is_some tail s), at) (next-appended s)))

-- ---- gone

module _ (slot i : ℕ) (ix : List ℕ) where
  pub length-gone : length (gone slot i ix) ≡ length ix
  unfolding gone
  length-gone = simp length-set

  -- the words behind stay, the next words among them
  pub past-gone : (b : ℕ) → slot < slots → nexts_at ≤ b → drop b (gone slot i ix) ≡ drop b ix
  unfolding gone
  past-gone b h l =
      let next = get_or ix (nexts_at + i) 0 in
      let tail = tail_after next (get_or ix (tails_at + slot) 0) in
      drop-set-lt b (set ix slot next) (tails_at + slot) tail (omega arith)
      ∙ drop-set-lt b ix slot next (omega arith)

module _ {p k r : ℕ} {rs ix : List ℕ} (x : Indexed p k (r ∷ rs) ix) where
  abbrev next : ℕ
  next = head_of (slot_of r) (k + 1) rs

  next_here : get_or ix (nexts_at + p) 0 ≡ next
  unfolding nexts_of
  next_here =
      ap (λ (a : ℕ). get_or ix a 0) (omega arith) ∙ next_word x 0 (omega arith)

  tail-there : get_or ix (tails_at + slot_of r) 0 ≡ tail_of (slot_of r) k (r ∷ rs)
  tail-there = tail-word x (slot_of r) (slot-below r)

  -- what `leave` asks for
  pub leave-asks : nexts_at + p < length ix
  leave-asks = let room = x.room in omega arith

  -- the tail word becomes the tail of those that stay
  tail-left : tail_after next (tail_of (slot_of r) k (r ∷ rs)) ≡ tail_of (slot_of r) (k + 1) rs
  unfolding tail_after
  tail-left =
      let o = in_slot (slot_of r) in
      none-cases next
      (λ z.
      pick_true (eqb next 0) _ _ (is_none next z) ∙ sym (none_last o (k + 1) rs (omega arith) z))
      (λ s.
      pick-false (eqb next 0) _ _ (is_some next s)
      ∙ last_on o k r rs
      (none-cases (tail_of (slot_of r) (k + 1) rs)
      (λ z. let none = none_first o (k + 1) rs (omega arith) z in absurd (omega arith))
      (λ t. t)))

  pub indexed-leave : Indexed (p + 1) (k + 1) rs (gone (slot_of r) p ix)
  unfolding gone nexts_of
  indexed-leave =
      let s = slot_of r in
      let below = slot-below r in
      let one = set ix s next in
      let tail = tail_of s (k + 1) rs in
      let room = x.room in
      let at = get_or-heads (k + 1) rs s below in
      let end = get_or-tails (k + 1) rs s below in
      let words : gone s p ix ≡ set one (tails_at + s) tail =
      rw (next_here, tail-there, tail-left) refl in
      let rest : part ix (nexts_at + (p + 1)) (length rs) ≡ nexts_of (k + 1) rs =
      part-tail ix (nexts_at + p) (length rs) (nexts_at + (p + 1)) (omega arith) (omega arith)
      ∙ ap (drop 1) x.nexts in
      rw words
      (record {
        begins = omega arith;
        heads =
            set-behind one 0 slots tail (tails_at + s) (omega arith)
            ∙ set_in ix 0 slots next s s (sym (zero-add s)) below
            ∙ ap (λ (l : List ℕ). set l s next) (x.heads ∙ heads-enter k r rs)
            ∙ set-set (heads_of (k + 1) rs) s k next
            ∙ ap (set (heads_of (k + 1) rs) s) (sym at) ∙ set-get_or (heads_of (k + 1) rs) s 0;
        tails =
            set_in one tails_at slots tail (tails_at + s) s refl below
            ∙ ap (λ (l : List ℕ). set l s tail)
            (set_before ix tails_at slots next s below ∙ x.tails ∙ tails-enter k r rs)
            ∙ set-set (tails_of (k + 1) rs) s (tail_of s k (r ∷ rs)) tail
            ∙ ap (set (tails_of (k + 1) rs) s) (sym end) ∙ set-get_or (tails_of (k + 1) rs) s 0;
        nexts =
            set_before one (nexts_at + (p + 1)) (length rs) tail (tails_at + s) (omega arith)
            ∙ set_before ix (nexts_at + (p + 1)) (length rs) next s (omega arith) ∙ rest;
        room = simp length-set (omega arith);
      })

-- ---- moved

module _ {d k : ℕ} {rs ix : List ℕ} (x : Indexed d k rs ix) where
  abbrev n : ℕ
  n = length rs

  -- what `move_down` asks for
  pub move_asks : nexts_at + d + n ≤ length ix
  move_asks = x.room

  long-part : length (part ix (nexts_at + d) n) ≡ n
  long-part = length_part (nexts_at + d) n ix x.room

  pub length_moved : length (moved d n ix) ≡ length ix
  unfolding moved
  length_moved =
      let room = x.room in
      length-splice nexts_at n ix (part ix (nexts_at + d) n) (omega arith) long-part

  -- the words behind stay
  pub past-moved : (b : ℕ) → nexts_at + n ≤ b → drop b (moved d n ix) ≡ drop b ix
  unfolding moved
  past-moved b l =
      let room = x.room in
      drop_past nexts_at n b ix (part ix (nexts_at + d) n) l (omega arith) long-part

  pub indexed-move : Indexed 0 k rs (moved d n ix)
  unfolding moved
  indexed-move =
      let room = x.room in
      let ys = part ix (nexts_at + d) n in
      record {
        begins = x.begins;
        heads = part-below nexts_at n 0 slots ix ys (omega arith) (omega arith) ∙ x.heads;
        tails = part-below nexts_at n tails_at slots ix ys (omega arith) (omega arith) ∙ x.tails;
        nexts = part-splice nexts_at n ix ys (omega arith) long-part ∙ x.nexts;
        room = rw length_moved (omega arith);
      }

-- ---- other words that begin alike

pub indexed-front : {p k : ℕ} {rs xs ys : List ℕ} (m : ℕ) → nexts_at + p + length rs ≤ m
    → m ≤ length ys → take m xs ≡ take m ys → Indexed p k rs xs → Indexed p k rs ys
indexed-front {p} {k} {rs} {xs} {ys} m h l e x =
    record {
      begins = x.begins;
      heads = alike 0 slots (omega arith) ∙ x.heads;
      tails = alike tails_at slots (omega arith) ∙ x.tails;
      nexts = alike (nexts_at + p) (length rs) h ∙ x.nexts;
      room = omega arith;
    }
  where
    within : (zs : List ℕ) (a n : ℕ) → a + n ≤ m → part zs a n ≡ part (take m zs) a n
    within zs a n b =
        ap (λ (i : ℕ). part zs i n) (sym (zero-add a)) ∙ sym (part-part 0 m a n zs b)

    alike : (a n : ℕ) → a + n ≤ m → part ys a n ≡ part xs a n
    alike a n b =
        within ys a n b ∙ ap (λ (zs : List ℕ). part zs a n) (sym e) ∙ sym (within xs a n b)
