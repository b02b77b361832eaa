-- Rows that agree where a box is read hold the same box.
use Prim.Native.Nat.{ℕ, suc, ◌+◌, ◌≤◌, ◌<◌}
use mathlib.Core.Path.{◌≡◌, refl, sym, ap, ◌∙◌}
use mathlib.Core.Bool.{Bool, true, false, cond}
use mathlib.Core.List.{List, [], ◌∷◌}
use native.Mathlib.Nat.{zero-add}
use native.Mathlib.Omega.{arith}
use borrow.Author.Tests.{leb-true}
use lib.Dec.{leb}
use lib.ListN.{take, get_or}
use lib.Seq.{get_or-take}
use Rattle.words.specs.Rows.{part}
use Rattle.words.proofs.PartLaws.{part-part}
use Rattle.rules.specs.Sizes.{most_boxes, unknown}
use Rattle.rules.specs.Parts.{span}
use Rattle.row.specs.Row.{state_of, phase_of, flag_of, peer_of, box_of, head_words, index_at}
use Rattle.row.specs.Row.{agreed_of}
use Rattle.row.specs.Row.{flag_at, state_at, phase_at, pn_at, last_at, first_at, stored_pn_at}
use Rattle.row.specs.Row.{stored_number_at, best_pn_at, best_number_at, answered_at, accepts_at}
use Rattle.row.specs.Row.{heard_at, best_at, waiting_at, agreeing_at, before_peers, peers_at}
use Rattle.row.specs.Row.{count_at}
use Rattle.row.specs.Lent.{records_of}

-- the words that are read of a row for its box: the fields, the lasts of n peers, the count of
-- records and the records held
pub record SameRow (n : ℕ) (r r' : List ℕ) : Type 0 where
  pub fields : (k : ℕ) → k < peers_at → get_or r k 0 ≡ get_or r' k 0
  pub peers : (k : ℕ) → k ≤ n → get_or r (before_peers + k) 0 ≡ get_or r' (before_peers + k) 0
  pub count : get_or r count_at 0 ≡ get_or r' count_at 0
  pub records : records_of r ≡ records_of r'

module _ (n : ℕ) (r r' : List ℕ) (e : SameRow n r r') where
  pub same-field : (k : ℕ) → leb (suc k) peers_at ≡ true → get_or r k 0 ≡ get_or r' k 0
  same-field k h = e.fields k (leb-true (suc k) peers_at h)

  peer : (k : ℕ) → peer_of n r k ≡ peer_of n r' k
  peer k = go (leb k n) refl
    where
      go : (t : Bool) → leb k n ≡ t
          → cond t (get_or r (before_peers + k) 0) unknown
          ≡ cond t (get_or r' (before_peers + k) 0) unknown
      go true h = e.peers k (leb-true k n h)
      go false h = refl

  pub same-box : box_of n r ≡ box_of n r'
  same-box = λ i. record {
    head = record {
      leads = flag_of (same-field flag_at refl i);
      state = state_of (same-field state_at refl i);
      phase = phase_of (same-field phase_at refl i);
      kept = record {
        pn = same-field pn_at refl i;
        last = same-field last_at refl i;
        first = same-field first_at refl i;
        stored = record {
          pn = same-field stored_pn_at refl i;
          number = same-field stored_number_at refl i;
        };
      };
      best = record {
        pn = same-field best_pn_at refl i;
        number = same-field best_number_at refl i;
        value = same-field best_at refl i;
      };
      answered = same-field answered_at refl i;
      accepts = same-field accepts_at refl i;
      heard = same-field heard_at refl i;
      waiting = same-field waiting_at refl i;
      agreeing = same-field agreeing_at refl i;
      peers = peer 1 i ∷ peer 2 i ∷ peer 3 i ∷ peer 4 i ∷ peer 5 i ∷ [];
    };
    records = e.records i;
  }

-- ---- rows that agree before the index

-- words that agree on the first w
module _ (w : ℕ) (q r : List ℕ) (e : take w q ≡ take w r) where
  pub front_get : (i : ℕ) → i < w → get_or q i 0 ≡ get_or r i 0
  front_get i h =
      sym (get_or-take w q i 0 h) ∙ ap (λ (l : List ℕ). get_or l i 0) e ∙ get_or-take w r i 0 h

  pub front-part : (a k : ℕ) → a + k ≤ w → part q a k ≡ part r a k
  front-part a k h =
      sym (cut q) ∙ ap (λ (l : List ℕ). part l a k) e ∙ cut r
    where
      cut : (l : List ℕ) → part (take w l) a k ≡ part l a k
      cut l = part-part 0 w a k l h ∙ ap (λ (i : ℕ). part l i k) (zero-add a)

pub front-row : (n J : ℕ) (q r : List ℕ) → n ≤ most_boxes → get_or r count_at 0 ≤ J
    → take (index_at J) q ≡ take (index_at J) r → SameRow n q r
front-row n J q r few room e =
    let at = front_get (index_at J) q r e in
    let count = at count_at (omega arith) in
    record {
      fields = λ k h. at k (omega arith);
      peers = λ k h. at (before_peers + k) (omega arith);
      count = count;
      records =
          ap (λ (c : ℕ). part q head_words c) count
          ∙ front-part (index_at J) q r e head_words (get_or r count_at 0) (omega arith);
    }

-- what is read of a row before its index
module _ (J : ℕ) (q r : List ℕ) (room : get_or r count_at 0 ≤ J)
    (front : take (index_at J) q ≡ take (index_at J) r) where
  pub front-first : get_or q first_at 0 ≡ get_or r first_at 0
  front-first = front_get (index_at J) q r front first_at (omega arith)

  pub front-agreed : agreed_of q ≡ agreed_of r
  front-agreed =
      ap (λ (k : ℕ). take (span k (get_or q last_at 0)) (records_of q)) front-first
      ∙ ap (λ (k : ℕ). take (span (get_or r first_at 0) k) (records_of q))
      (front_get (index_at J) q r front last_at (omega arith))
      ∙ ap (take (span (get_or r first_at 0) (get_or r last_at 0)))
      (ap (λ (c : ℕ). part q head_words c) (front_get (index_at J) q r front count_at (omega arith))
      ∙ front-part (index_at J) q r front head_words (get_or r count_at 0) (omega arith))
