-- A row that is stored holds the box that was stored.
use mathlib.Core.Path.{◌≡◌, refl, sym, ap, ◌∙◌}
use mathlib.Core.Bool.{Bool, true, false, cond}
use mathlib.Core.List.{List, [], ◌∷◌, ◌++◌}
use Prim.Native.Nat.{ℕ, ◌-◌, ◌≤◌, ◌<◌}
use native.Mathlib.Omega.{arith}
use borrow.Author.Tests.{leb-false, le-leb}
use lib.Dec.{leb}
use lib.ListN.{length, take, drop, get_or}
use lib.Seq.{drop-append-add, drop-drop}
use Rattle.words.proofs.PartLaws.{gets-all}
use Rattle.rules.specs.Every.{all}
use Rattle.rules.specs.Sizes.{most_boxes, unknown}
use Rattle.rules.specs.Parts.{span}
use Rattle.index.specs.Lent.{Indexed}
use Rattle.index.proofs.FormLaws.{indexed-form}
use Rattle.rules.specs.declared.model.BoxState.{BoxState}
use Rattle.row.specs.Row.{box_of, row_fits, words_of, head_words, index_width, index_of}
use Rattle.row.proofs.NumberLaws.{flag-back, state-back, phase-back}
use Rattle.row.proofs.NumberLaws.{flag_in, state_in, phase_in}

module _ (n : ℕ) (ps : List ℕ) (five : length ps ≡ most_boxes)
    (above : (k : ℕ) → n < k → k ≤ most_boxes → get_or ps (k - 1) 0 ≡ unknown) where
  -- Peer k is read as it was stored: its word, or unknown above n.
  peer-back : (k : ℕ) → k ≤ most_boxes
      → cond (leb k n) (get_or ps (k - 1) 0) unknown ≡ get_or ps (k - 1) 0
  peer-back k m = go (leb k n) refl
    where
      go : (t : Bool) → leb k n ≡ t → cond t (get_or ps (k - 1) 0) unknown ≡ get_or ps (k - 1) 0
      go true e = refl
      go false e = sym (above k (leb-false k n e) m)

  peers-back : ◌≡◌ {A = List ℕ}
      (cond (leb 1 n) (get_or ps 0 0) unknown
      ∷ cond (leb 2 n) (get_or ps 1 0) unknown
      ∷ cond (leb 3 n) (get_or ps 2 0) unknown
      ∷ cond (leb 4 n) (get_or ps 3 0) unknown
      ∷ cond (leb 5 n) (get_or ps 4 0) unknown
      ∷ [])
      ps
  peers-back =
      rw (
        peer-back 1 (omega arith),
        peer-back 2 (omega arith),
        peer-back 3 (omega arith),
        peer-back 4 (omega arith),
        peer-back 5 (omega arith),
      )
      (gets-all 0 ps 5 five)

-- The box is the head that was stored, with as many records of what follows.
pub box-stored : (n : ℕ) (h : BoxState) (count : ℕ) (rest : List ℕ) → length h.peers ≡ most_boxes
    → ((k : ℕ) → n < k → k ≤ most_boxes → get_or h.peers (k - 1) 0 ≡ unknown)
    → box_of n (words_of h count ++ rest) ≡ record { head = h; records = take count rest }
box-stored n h count rest five above = λ i. record {
  head = record {
    leads = flag-back h.leads i;
    state = state-back h.state i;
    phase = phase-back h.phase i;
    kept = h.kept;
    best = h.best;
    answered = h.answered;
    accepts = h.accepts;
    heard = h.heard;
    waiting = h.waiting;
    agreeing = h.agreeing;
    peers = peers-back n h.peers five above i;
  };
  records = take count rest;
}

-- Its words are by form where its records have room and the index is theirs.
pub fits-stored : (J : ℕ) (h : BoxState) (count : ℕ) (rest : List ℕ) → count ≤ J
    → Indexed 0 h.kept.first (take (span h.kept.first h.kept.last) (take count rest))
    (index_of J (words_of h count ++ rest))
    → row_fits J (words_of h count ++ rest) ≡ true
unfolding row_fits all
fits-stored J h count rest room ix =
    rw (
      flag_in h.leads,
      state_in h.state,
      phase_in h.phase,
      le-leb count J room,
      indexed-form _ _ _ ix,
    )

-- The index stands where it stood.
pub index-stored : (J : ℕ) (h : BoxState) (count : ℕ) (r : List ℕ)
    → index_of J (words_of h count ++ drop head_words r) ≡ index_of J r
index-stored J h count r =
    ap (take (index_width J))
    (drop-append-add (words_of h count) (drop head_words r) J ∙ drop-drop J head_words r)

-- What the code of `store` has written is the head's words, and behind them what was there.
pub store_law : (r : List ℕ) (h : BoxState) (held : ℕ) (ws : List ℕ) → ws ≡ words_of h held
    → ws ++ drop head_words r ≡ words_of h held ++ drop head_words r
store_law r h held ws e = ap (λ (l : List ℕ). l ++ drop head_words r) e
