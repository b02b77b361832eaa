-- The look at the whole index, from the last record to the first, and then at each slot.
use mathlib.Core.Path.{◌≡◌, refl, sym, ap, ◌∙◌}
use Prim.Native.Nat.{ℕ, suc, ◌+◌, ◌≤◌, ◌<◌}
use native.Mathlib.Decide.{ℕ_discrete}
use native.Mathlib.Numerals.{add-one}
use native.Mathlib.Omega.{arith}
use mathlib.Core.Bool.{Bool, true, false, not, false≢true}
use mathlib.Core.List.{List, [], ◌∷◌}
use lib.Dec.{eqb}
use lib.ListN.{length, get_or, set, drop, replicate, length-drop}
use lib.Seq.{ext_get_or, drop-cons, get_or-take, get_or-set_other}
use borrow.Author.Tests.{eqb-true, eq-eqb}
use Rattle.words.specs.Rows.{part}
use Rattle.std.specs.List.{list_all, range_with_len}
use Rattle.words.proofs.TestLaws.{each-range, range-each}
use Rattle.words.proofs.PartLaws.{length_part, get_or_part}
use Rattle.rules.proofs.BoundLaws.{first-of, second-of}
use Rattle.index.specs.Index.{slots, tails_at, nexts_at, slot_of, in_slot, head_of, tail_of}
use Rattle.index.specs.Index.{heads_of, tails_of, nexts_of, first_of, index_form}
use Rattle.index.specs.Lent.{Indexed, agrees, Swept, Looked, Ends, Ended}
use Rattle.index.proofs.CaseLaws.{test-cases, none-cases, is_none, is_some}
use Rattle.index.proofs.FirstLaws.{last-here, last_on, last-skip, last-drop, none_last}
use Rattle.index.proofs.FirstLaws.{none_first}
use Rattle.index.proofs.TableLaws.{table_zeros}
use Rattle.index.proofs.NextLaws.{slot-below, in_own, in_other, get_or-heads, get_or-tails}
use Rattle.index.proofs.NextLaws.{length-heads, length-tails, get_or-nexts, heads-enter}
use Rattle.index.proofs.LentLaws.{head-word, tail-word, next_word}
use Rattle.index.proofs.FormLaws.{indexed-form, not-indexed}

-- ---- the test

module _ (a head t k : ℕ) where
  pub agrees-says : agrees a head t k ≡ true → (a ≡ head) × (head ≡ 0 → t ≡ k)
  unfolding agrees
  agrees-says e = (
    eqb-true a head (first-of (eqb a head) _ e),
    λ z.
        eqb-true t k (rw (is_none head z) at (second-of (eqb a head) _ e)),
  )

  pub agrees-holds : a ≡ head → (head ≡ 0 → t ≡ k) → agrees a head t k ≡ true
  unfolding agrees
  agrees-holds p q =
      rw (eq-eqb a head p)
      (none-cases head
      (λ z. rw (is_none head z, eq-eqb t k (q z)) refl)
      (λ s. rw (is_some head s) refl))

-- ---- the records

-- no record is looked at yet
pub swept_none : (p k : ℕ) (ix hs : List ℕ) → hs ≡ replicate slots 0 → Swept p k [] ix hs
unfolding heads_of nexts_of first_of
swept_none p k ix hs e =
    let heads : hs ≡ heads_of k [] =
    e ∙ sym (table_zeros (λ s. head_of s k []) 0 slots (λ i. refl)) in
    record {
      heads = heads;
      nexts = refl;
      tails = λ s h t.
          let none : get_or hs s 0 ≡ 0 =
          ap (λ (l : List ℕ). get_or l s 0) heads ∙ get_or-heads k [] s h in
          absurd (omega arith);
    }

-- one record more, which agrees
module _ (p k r : ℕ) {rs ix hs : List ℕ} (x : Swept (p + 1) (k + 1) rs ix hs) (b : 1 ≤ k)
    (room : nexts_at + p + suc (length rs) ≤ length ix)
    (next : get_or ix (nexts_at + p) 0 ≡ get_or hs (slot_of r) 0)
    (end : get_or hs (slot_of r) 0 ≡ 0 → get_or ix (tails_at + slot_of r) 0 ≡ k) where
  head_at : (s : ℕ) → s < slots → get_or hs s 0 ≡ head_of s (k + 1) rs
  head_at s h = ap (λ (l : List ℕ). get_or l s 0) x.heads ∙ get_or-heads (k + 1) rs s h

  own-tail : get_or ix (tails_at + slot_of r) 0 ≡ tail_of (slot_of r) k (r ∷ rs)
  own-tail =
      let o = in_slot (slot_of r) in
      let at = head_at (slot_of r) (slot-below r) in
      none-cases (get_or hs (slot_of r) 0)
      (λ z.
      end z ∙ sym (last-here o k r rs
      (none_last o (k + 1) rs (omega arith) (sym at ∙ z)) (in_own r)))
      (λ s.
      let tail = x.tails (slot_of r) (slot-below r) s in
      let some : 1 ≤ tail_of (slot_of r) (k + 1) rs =
      none-cases (tail_of (slot_of r) (k + 1) rs)
      (λ z. let none = none_first o (k + 1) rs (omega arith) z in absurd (omega arith))
      (λ t. t) in
      tail ∙ sym (last_on o k r rs some))

  each_tail : (s : ℕ) → s < slots → 1 ≤ get_or (set hs (slot_of r) k) s 0
      → get_or ix (tails_at + s) 0 ≡ tail_of s k (r ∷ rs)
  each_tail s h t = go (ℕ_discrete s (slot_of r))
    where
      go : Dec (s ≡ slot_of r) → get_or ix (tails_at + s) 0 ≡ tail_of s k (r ∷ rs)
      go (yes e) = rw e own-tail
      go (no d) =
          x.tails s h (rw (get_or-set_other hs (slot_of r) s k 0 d) at t)
          ∙ sym (last-skip (in_slot s) k r rs (in_other s r d))

  pub swept_more : Swept p k (r ∷ rs) ix (set hs (slot_of r) k)
  unfolding nexts_of
  swept_more =
      let at = head_at (slot_of r) (slot-below r) in
      let l : nexts_at + p < length ix = omega arith in
      let on : suc (nexts_at + p) ≡ nexts_at + (p + 1) = omega arith in
      record {
        heads = ap (λ (l : List ℕ). set l (slot_of r) k) x.heads ∙ sym (heads-enter k r rs);
        nexts = rw (drop-cons ix (nexts_at + p) 0 l, on, next, at, x.nexts) refl;
        tails = each_tail;
      }

-- the record of place i agrees where the words are the index
module _ {k i : ℕ} {rs ix hs : List ℕ} (x : Indexed 0 k rs ix) (h : i < length rs)
    (w : Swept (i + 1) (k + i + 1) (drop (i + 1) rs) ix hs) where
  abbrev r : ℕ
  r = get_or rs i 0

  abbrev head : ℕ
  head = get_or hs (slot_of r) 0

  head-there : head ≡ head_of (slot_of r) (k + i + 1) (drop (i + 1) rs)
  head-there =
      ap (λ (l : List ℕ). get_or l (slot_of r) 0) w.heads
      ∙ get_or-heads (k + i + 1) (drop (i + 1) rs) (slot_of r) (slot-below r)

  pub agrees-next : get_or ix (nexts_at + i) 0 ≡ head
  agrees-next =
      let a : nexts_at + i ≡ nexts_at + 0 + i = omega arith in
      let b : k + suc i ≡ k + i + 1 = omega arith in
      ap (λ (j : ℕ). get_or ix j 0) a ∙ next_word x i h ∙ get_or-nexts k i rs h
      ∙ rw (b, ← add-one i) (sym head-there)

  pub agrees-tail : head ≡ 0 → get_or ix (tails_at + slot_of r) 0 ≡ k + i
  agrees-tail z =
      let o = in_slot (slot_of r) in
      let begins = x.begins in
      let none : tail_of (slot_of r) (k + i + 1) (drop (i + 1) rs) ≡ 0 =
      none_last o (k + i + 1) (drop (i + 1) rs) (omega arith) (sym head-there ∙ z) in
      let here : tail_of (slot_of r) (k + i) (drop i rs) ≡ k + i =
      rw (drop-cons rs i 0 h, ← add-one i)
      (last-here o (k + i) r (drop (i + 1) rs) none (in_own r)) in
      tail-word x (slot_of r) (slot-below r) ∙ last-drop o k i rs (rw here (omega arith)) ∙ here

-- ---- the slots

module _ {k : ℕ} {rs ix hs : List ℕ} (w : Swept 0 k rs ix hs) (b : 1 ≤ k)
    (room : nexts_at + length rs ≤ length ix) where
  head-of : (s : ℕ) → s < slots → get_or hs s 0 ≡ head_of s k rs
  head-of s h = ap (λ (l : List ℕ). get_or l s 0) w.heads ∙ get_or-heads k rs s h

  pub ends-indexed : ((s : ℕ) → s < slots → Ends hs ix s) → Indexed 0 k rs ix
  ends-indexed ends =
      let lh : length (part ix 0 slots) ≡ slots = length_part 0 slots ix (omega arith) in
      let lt : length (part ix tails_at slots) ≡ slots =
      length_part tails_at slots ix (omega arith) in
      record {
        begins = b;
        heads =
            ext_get_or 0 (part ix 0 slots) (heads_of k rs) (lh ∙ sym (length-heads k rs))
            (λ s h.
            let l : s < slots = rw lh at h in
            get_or-take slots ix s 0 l ∙ (ends s l).head ∙ head-of s l
            ∙ sym (get_or-heads k rs s l));
        tails =
            ext_get_or 0 (part ix tails_at slots) (tails_of k rs) (lt ∙ sym (length-tails k rs))
            (λ s h.
            let l : s < slots = rw lt at h in
            get_or_part tails_at slots s 0 ix l
            ∙ none-cases (get_or hs s 0)
            (λ z.
            (ends s l).tail z
            ∙ sym (none_last (in_slot s) k rs b (sym (head-of s l) ∙ z)))
            (λ t. w.tails s l t)
            ∙ sym (get_or-tails k rs s l));
        nexts = w.nexts;
        room = room;
      }

  pub indexed-ends : Indexed 0 k rs ix → (s : ℕ) → s < slots → Ends hs ix s
  indexed-ends x s h =
      record {
        head = head-word x s h ∙ sym (head-of s h);
        tail = λ z. tail-word x s h ∙ none_last (in_slot s) k rs b (sym (head-of s h) ∙ z);
      }

-- ---- a turn of each loop, over what the code computes

module _ (hs ix : List ℕ) where
  module _ (s : ℕ) where
    abbrev pub slot-agrees : Bool
    slot-agrees = agrees (get_or ix s 0) (get_or hs s 0) (get_or ix (tails_at + s) 0) 0

    pub ends_more : slot-agrees ≡ true → Ends hs ix s
    ends_more e =
        let says = agrees-says (get_or ix s 0) (get_or hs s 0) (get_or ix (tails_at + s) 0) 0 e in
        record { head = says.0; tail = says.1 }

    pub more_ends : Ends hs ix s → slot-agrees ≡ true
    more_ends x =
        agrees-holds (get_or ix s 0) (get_or hs s 0) (get_or ix (tails_at + s) 0) 0 x.head x.tail

  -- All slots are looked at.
  pub ended_all : (r : Bool) → r ≡ list_all slot-agrees (range_with_len 0 slots)
      → Ended hs ix r
  ended_all r e =
      record {
        right = λ t s h.
            ends_more s (range-each slot-agrees 0 slots (sym e ∙ t) s (omega arith) (omega arith));
        wrong = λ f ends.
            let all =
            each-range slot-agrees 0 slots (λ s l h. more_ends s (ends s (omega arith))) in
            false≢true (sym f ∙ e ∙ all);
      }

-- all records are looked at
pub looked_right : (k i : ℕ) (rs : List ℕ) {ix hs : List ℕ} → i ≡ 0
    → Swept i (k + i) (drop i rs) ix hs → Looked k rs ix hs true
looked_right k i rs {ix} {hs} e w =
    let z : k + i ≡ k = omega arith in
    let all : Swept 0 k rs ix hs = rw (z, e) at w in
    record { right = λ t. all; wrong = λ f x. false≢true (sym f) }

-- the record of place j, behind which all was right
module _ (k i j slot : ℕ) (rs : List ℕ) {ix hs : List ℕ} (b : 1 ≤ k)
    (room : nexts_at + length rs ≤ length ix)
    (h : j < length rs) (ei : i ≡ j + 1) (es : slot ≡ slot_of (get_or rs j 0))
    (w : Swept i (k + i) (drop i rs) ix hs) where
  abbrev record_agrees : Bool
  record_agrees =
      agrees (get_or ix (nexts_at + j) 0) (get_or hs slot 0) (get_or ix (tails_at + slot) 0) (k + j)

  behind : Swept (j + 1) (k + j + 1) (drop (j + 1) rs) ix hs
  behind = let e : k + i ≡ k + j + 1 = omega arith in rw (e, ei) at w

  pub sweep_more : record_agrees ≡ true → Swept j (k + j) (drop j rs) ix (set hs slot (k + j))
  sweep_more e =
      let r = get_or rs j 0 in
      let says =
      agrees-says (get_or ix (nexts_at + j) 0) (get_or hs (slot_of r) 0)
      (get_or ix (tails_at + slot_of r) 0) (k + j) (rw es at e) in
      let long = length-drop (j + 1) rs in
      let more =
      swept_more j (k + j) r behind (omega arith) (omega arith) says.0 says.1 in
      rw (drop-cons rs j 0 h, ← add-one j, es) more

  pub sweep_wrong : (gs : List ℕ) → record_agrees ≡ false → Looked k rs ix gs false
  sweep_wrong gs e =
      record {
        right = λ t. absurd (false≢true t);
        wrong = λ f x.
            let r = get_or rs j 0 in
            let holds =
            agrees-holds (get_or ix (nexts_at + j) 0) (get_or hs (slot_of r) 0)
            (get_or ix (tails_at + slot_of r) 0) (k + j) (agrees-next x h behind)
            (agrees-tail x h behind) in
            false≢true (sym (rw es at e) ∙ holds);
      }

-- ---- what the look says of the form

-- the words beside the records are not right
pub form-wrong : {k : ℕ} {rs ix hs : List ℕ} {l : Bool} → Looked k rs ix hs l → l ≡ false
    → false ≡ index_form k rs ix
form-wrong {k} {rs} {ix} x f = not-indexed k rs ix (x.wrong f)

-- they are: the slots decide
pub form-ends : {k : ℕ} {rs ix hs : List ℕ} {l r : Bool} → 1 ≤ k
    → nexts_at + length rs ≤ length ix → Looked k rs ix hs l → l ≡ true → Ended hs ix r
    → r ≡ index_form k rs ix
form-ends {k} {rs} {ix} {r = r} b room x t e =
    let w = x.right t in
    test-cases r
    (λ y. y ∙ sym (indexed-form k rs ix (ends-indexed w b room (e.right y))))
    (λ n. n ∙ not-indexed k rs ix (λ i. e.wrong n (indexed-ends w b room i)))

-- number 0 is none, and too few words hold no index
pub form-none : (k : ℕ) (rs ix : List ℕ) → k ≡ 0 → false ≡ index_form k rs ix
form-none k rs ix e = not-indexed k rs ix (λ x. let b = x.begins in omega arith)

pub form-short : (k : ℕ) (rs ix : List ℕ) → length ix < nexts_at + length rs
    → false ≡ index_form k rs ix
form-short k rs ix h = not-indexed k rs ix (λ x. let l = x.room in omega arith)
