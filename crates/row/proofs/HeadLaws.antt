-- A head is stored in a row: that of a fresh box, of the elected.
use Prim.Native.Nat.{ℕ, zero, suc, ◌-◌, ◌≤◌, ◌<◌}
use mathlib.Core.Path.{◌≡◌, refl, sym, ap, ◌∙◌, subst}
use mathlib.Core.List.{List, [], ◌++◌}
use borrow.Author.Tests.{leb-true}
use native.Mathlib.Omega.{arith}
use lib.ListN.{length, take, drop, get_or, length-append, length-drop}
use Rattle.rules.specs.Sizes.{most_boxes, unknown}
use Rattle.rules.specs.Parts.{all_unknown}
use Rattle.rules.specs.Steps.{elected}
use Rattle.rules.specs.Site.{fresh_head, fresh_box}
use Rattle.rules.specs.Own.{elected_box}
use Rattle.rules.specs.declared.model.BoxState.{BoxState}
use Rattle.rules.specs.declared.model.Setting.{Setting}
use Rattle.rules.specs.Parts.{span}
use Rattle.index.specs.Lent.{Indexed}
use Rattle.row.specs.Row.{head_of, box_of, words_of, flag_at, state_at, phase_at}
use Rattle.row.specs.Row.{count_at, head_words, index_at, row_width, agreed_of, index_of}
use Rattle.row.specs.Lent.{RowByForm, RowHolds, Reindexed, Cleared}
use Rattle.row.proofs.NumberLaws.{flag_in, state_in, phase_in}
use Rattle.row.proofs.PeerLaws.{peers-at, peer-above}
use Rattle.row.proofs.FormLaws.{says-fits}
use Rattle.row.proofs.SameLaws.{same-box, front_get, front-row, front-first, front-agreed}
use Rattle.row.proofs.StoreLaws.{box-stored, fits-stored, index-stored}
use Rattle.row.proofs.TurnLaws.{row-formed}

-- r becomes q, the head h with so many of its records
module _ (n J : ℕ) (h : BoxState) (count : ℕ) (r : List ℕ) (room : length r ≡ row_width J)
    (few : count ≤ J) (five : length h.peers ≡ most_boxes)
    (above : (k : ℕ) → n < k → k ≤ most_boxes → get_or h.peers (k - 1) 0 ≡ unknown) where
  abbrev stored : List ℕ
  stored = words_of h count ++ drop head_words r

  pub stored-length : length stored ≡ length r
  stored-length = simp (length-append, length-drop) (omega (arith, room))

  row-stored : Indexed 0 h.kept.first
      (take (span h.kept.first h.kept.last) (take count (drop head_words r))) (index_of J r)
      → (q : List ℕ) → q ≡ stored
      → RowHolds n J (record { head = h; records = take count (drop head_words r) }) r q
  row-stored ix q e =
      rw e
      (record {
        box = box-stored n h count (drop head_words r) five above;
        fits = fits-stored J h count (drop head_words r) few
            (rw (index-stored J h count r) ix);
        words = stored-length;
      })

-- the head of the elected
pub elect_law : (s : Setting) (c : ℕ) (r : List ℕ) → RowByForm s r
    → (head next : BoxState) (held : ℕ) (q : List ℕ)
    → head ≡ head_of s.n r → next ≡ elected head s c → held ≡ get_or r count_at 0
    → q ≡ words_of next held ++ drop head_words r
    → RowHolds s.n s.j (elected_box s c (box_of s.n r)) r q
unfolding elected
elect_law s c r ok head next held q eh en ec eq =
    let f = row-formed s r ok in
    row-stored s.n s.j (elected (head_of s.n r) s c) (get_or r count_at 0) r ok.size.words
    f.says.count refl
    (λ k a m. peers-at s.n r k (omega arith) m ∙ peer-above s.n r k a) f.indexed q
    (eq ∙ (λ i. words_of ((en
    ∙ ap (λ (h : BoxState). elected h s c) eh) i) (ec i) ++ drop head_words r))

-- ---- a head is stored, and then the index becomes that of its agreed records

pub stored-indexed : (n J : ℕ) (h : BoxState) (count : ℕ) (rest q : List ℕ) → n ≤ most_boxes
    → count ≤ J → length h.peers ≡ most_boxes
    → ((k : ℕ) → n < k → k ≤ most_boxes → get_or h.peers (k - 1) 0 ≡ unknown)
    → Reindexed J 0 h.kept.first
    (take (span h.kept.first h.kept.last) (take count rest)) (words_of h count ++ rest) q
    → RowHolds n J (record { head = h; records = take count rest }) (words_of h count ++ rest) q
stored-indexed n J h count rest q boxes few five above made =
    let s = words_of h count ++ rest in
    let at = front_get (index_at J) q s made.front in
    record {
      box =
          same-box n q s (front-row n J q s boxes few made.front)
          ∙ box-stored n h count rest five above;
      fits = says-fits J q
          (rw (at flag_at (omega arith)) (leb-true _ _ (flag_in h.leads)))
          (rw (at state_at (omega arith)) (leb-true _ _ (state_in h.state)))
          (rw (at phase_at (omega arith)) (leb-true _ _ (phase_in h.phase)))
          (rw (at count_at (omega arith)) few)
          (subst (λ (k : ℕ). Indexed 0 k (agreed_of q) (index_of J q))
          (sym (front-first J q s few made.front))
          (subst (λ (rs : List ℕ). Indexed 0 h.kept.first rs (index_of J q))
          (sym (front-agreed J q s few made.front)) made.index));
      words = made.words;
    }

-- a fresh head, and no record in the index
pub fresh_law : (n J : ℕ) (r : List ℕ) → length r ≡ row_width J → n ≤ most_boxes → (s q : List ℕ)
    → s ≡ words_of fresh_head 0 ++ drop head_words r → Cleared J s q
    → RowHolds n J fresh_box r q
unfolding fresh_head
fresh_law n J r room boxes s q e made =
    let done = stored-indexed n J fresh_head 0 (drop head_words r) q boxes (omega arith) refl
    unknown-all (subst (λ (l : List ℕ). Reindexed J 0 1 [] l q) e (made 1 (omega arith))) in
    record {
      box = done.box;
      fits = done.fits;
      words = done.words ∙ stored-length n J fresh_head 0 r room (omega arith) refl unknown-all;
    }
  where
    unknown-all : (k : ℕ) → n < k → k ≤ most_boxes → get_or all_unknown (k - 1) 0 ≡ unknown
    unknown-all zero a m = refl
    unknown-all (suc zero) a m = refl
    unknown-all (suc (suc zero)) a m = refl
    unknown-all (suc (suc (suc zero))) a m = refl
    unknown-all (suc (suc (suc (suc zero)))) a m = refl
    unknown-all (suc (suc (suc (suc (suc zero))))) a m = refl
    unknown-all (suc (suc (suc (suc (suc (suc k)))))) a m = absurd (omega arith)
