-- The row of a box: its words are the box's numbers.
use mathlib.Core.Path.{◌≡◌, sym, ap, ◌∙◌, subst}
use mathlib.Core.Bool.{true}
use Prim.Native.Nat.{ℕ, ◌+◌, ◌-◌, ◌≤◌, ◌<◌}
use native.Mathlib.Omega.{arith}
use mathlib.Core.List.{List, [], ◌∷◌, ◌++◌, map}
use lib.ListN.{length, take, drop, get_or, length-map}
use lib.Seq.{get_or-take, get_or-drop, ext_get_or, length-take-le, take-append-le}
use Rattle.words.specs.Rows.{part}
use Rattle.words.proofs.PartLaws.{length_part, gets, gets-part}
use Rattle.rules.specs.Sizes.{most_boxes}
use Rattle.rules.specs.Box.{Box}
use Rattle.rules.specs.Site.{is_box, fresh_box}
use Rattle.rules.specs.declared.model.Setting.{Setting}
use Rattle.laws.proofs.FormLaws.{box-is}
use Rattle.row.specs.Row.{head_of, box_of, row_fits, head_words, pn_at, best_at, before_peers}
use Rattle.row.specs.Row.{peers_at, count_at}
use Rattle.row.specs.Lent.{RowSized}
use Rattle.row.proofs.NumberLaws.{flag-number-back, state-number-back, phase-number-back}
use Rattle.row.proofs.FormLaws.{fits-says}
use Rattle.row.proofs.PeerLaws.{peers-at, peer_in}
use Rattle.memory.specs.Memory.{row_at}
use Rattle.memory.specs.After.{boxes_of, RowsLent}
use Rattle.memory.proofs.RowLaws.{box-at, row_sized}
use Rattle.cells.specs.Cells.{cells, Each, All}
use Rattle.cells.proofs.GroupLaws.{SameIn, groups_as, cut-more}
use Rattle.image.specs.Image.{numbers_from, box_groups, box_words, box_body}
use Rattle.image.specs.Longest.{box_long}
use Rattle.image.proofs.OrderLaws.{map_at, length_from, from-at}
use Rattle.image.proofs.CutLaws.{box-cut as groups-cut}
use Rattle.image.proofs.BoxLaws.{box-split}
use Rattle.image.proofs.Lengths.{length-box}
use Rattle.writer.specs.Bodies.{boxes_in, box_at}
use Rattle.writer.proofs.PutLaws.{Put}

-- ---- the boxes in order

module _ (s : Setting) (xs : List ℕ) where
  pub length_boxes_in : length (boxes_in s xs) ≡ s.n
  unfolding boxes_in
  length_boxes_in = length-map (numbers_from 1 s.n) (boxes_of s xs) ∙ length_from 1 s.n

  pub boxes_in_at : (i : ℕ) → i < s.n → box_at s xs i ≡ boxes_of s xs (i + 1)
  unfolding boxes_in
  boxes_in_at i h =
      let number : 1 + i ≡ i + 1 = omega arith in
      map_at (boxes_of s xs) (numbers_from 1 s.n) i fresh_box 0
      (omega (arith, length_from 1 s.n))
      ∙ ap (boxes_of s xs) (from-at 1 s.n i 0 h ∙ number)

  -- Their bodies.
  pub length-bodies : length (map (box_body s.n) (boxes_in s xs)) ≡ s.n
  length-bodies = length-map (boxes_in s xs) (box_body s.n) ∙ length_boxes_in

  pub bodies-at : (i : ℕ) → i < s.n
      → get_or (map (box_body s.n) (boxes_in s xs)) i [] ≡ box_body s.n (box_at s xs i)
  bodies-at i h =
      map_at (box_body s.n) (boxes_in s xs) i [] fresh_box (omega (arith, length_boxes_in))

-- ---- the row of the box at index i

pub record RowOf (s : Setting) (xs : List ℕ) (i : ℕ) (r : List ℕ) : Type 0 where
  pub size : RowSized s.n s.j r
  pub fits : row_fits s.j r ≡ true
  pub box : box_at s xs i ≡ box_of s.n r

pub box-here : {n i : ℕ} → i < n → is_box n (i + 1) ≡ true
box-here {n} {i} h = box-is {n = n} {c = i + 1} (omega arith, omega arith)

pub row_is : (s : Setting) (xs : List ℕ) (i : ℕ) {r : List ℕ} → RowsLent s xs → i < s.n
    → r ≡ row_at s.j xs (i + 1) → RowOf s xs i r
row_is s xs i lent h e =
    let b = box-here h in
    record {
      size = subst (RowSized s.n s.j) (sym e)
          (row_sized s (i + 1) xs b lent.sizes lent.words);
      fits = ap (row_fits s.j) e ∙ lent.fits (i + 1) b;
      box = boxes_in_at s xs i h ∙ sym (box-at s (i + 1) xs b e);
    }

-- The first n peers of a box are their words.
peers_are : (n : ℕ) (r : List ℕ) → n ≤ most_boxes → head_words ≤ length r
    → take n (head_of n r).peers ≡ part r peers_at n
peers_are n r h l =
    ext_get_or 0 (take n ps) (part r peers_at n) (count
    ∙ sym (length_part peers_at n r (omega arith)))
    at
  where
    ps : List ℕ
    ps = (head_of n r).peers

    count : length (take n ps) ≡ n
    count = length-take-le n ps h

    at : (i : ℕ) → i < length (take n ps)
        → get_or (take n ps) i 0 ≡ get_or (part r peers_at n) i 0
    at i k =
        let b : i < n = omega (arith, count) in
        let less : i + 1 - 1 ≡ i = omega arith in
        let place : before_peers + (i + 1) ≡ peers_at + i = omega arith in
        get_or-take n ps i 0 b ∙ ap (λ (j : ℕ). get_or ps j 0) (sym less)
        ∙ peers-at n r (i + 1) (omega arith) (omega arith)
        ∙ peer_in n r (i + 1) (omega arith) ∙ ap (λ (j : ℕ). get_or r j 0) place
        ∙ sym (get_or-take n (drop peers_at r) i 0 b ∙ get_or-drop peers_at r i 0)

module _ {s : Setting} {xs : List ℕ} {i : ℕ} {r : List ℕ} (f : RowOf s xs i r) where
  pub row_count : get_or r count_at 0 ≤ s.j
  row_count = (fits-says s.j r f.fits).3

  -- It holds as many records as its count says.
  held : length (box_of s.n r).records ≡ get_or r count_at 0
  held = length_part head_words (get_or r count_at 0) r (omega (arith, row_count, f.size.words))

  pub box-long : length (box_body s.n (box_at s xs i)) ≡ box_long s.n (get_or r count_at 0)
  box-long =
      ap (λ (x : Box). length (box_body s.n x)) f.box
      ∙ length-box s.n (box_of s.n r) f.size.boxes ∙ ap (box_long s.n) held

  -- Its words in their groups are those of the row.
  groups : All (SameIn (box_words (box_of s.n r)) r) (box_groups s.n)
  unfolding Each
  groups =
      let w = f.size.words in
      let b = f.size.boxes in
      let t = fits-says s.j r f.fits in
      let flag = flag-number-back (get_or r 0 0) t.0 in
      let state = state-number-back (get_or r 1 0) t.1 in
      let phase = phase-number-back (get_or r 2 0) t.2 in (
        (λ i. flag i ∷ state i ∷ phase i ∷ gets 0 r pn_at (best_at - pn_at))
            ∙ gets-part 0 r 0 best_at (omega arith),
        (
          gets-part 0 r best_at 3 (omega arith),
          (
            take-append-le s.n (head_of s.n r).peers (length (box_of s.n r).records ∷ []) b
                ∙ peers_are s.n r b (omega arith),
            ((λ i. held i ∷ []) ∙ gets-part 0 r count_at 1 (omega arith), tt),
          ),
        ),
      )

  -- So its bytes are the row's.
  pub box-put : Put (box_groups s.n) head_words count_at r (box_body s.n (box_at s xs i))
  box-put =
      let w = f.size.words in
      record {
        cut = cut-more (box_groups s.n) 0 (omega arith) (groups-cut s.n f.size.boxes);
        inside = omega arith;
        room = omega (arith, row_count);
        bytes =
            ap (box_body s.n) f.box ∙ box-split s.n (box_of s.n r)
            ∙ ap (λ (l : List ℕ). l ++ cells 8 (box_of s.n r).records)
            (groups_as (box_words (box_of s.n r)) r (box_groups s.n) groups);
      }
