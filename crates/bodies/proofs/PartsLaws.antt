-- A table of contents and its bodies, of any bodies: its numbers, and the parts that they name.
use Prim.Native.Nat.{ℕ, zero, suc, ◌+◌, ◌-◌, ◌*◌, ◌^◌, ◌≤◌, ◌<◌}
use native.Mathlib.Nat.{add-zero}
use native.Mathlib.Omega.{arith}
use mathlib.Core.Path.{◌≡◌, refl, sym, ap, ◌∙◌}
use mathlib.Core.List.{List, [], ◌∷◌, ◌++◌, append_assoc, append-nil}
use lib.ListN.{length, take, drop, get_or, length-append}
use lib.Seq.{take-append_seam, drop-append_seam, drop-append-add, length-take-le}
use Rattle.words.specs.Rows.{part}
use Rattle.le.specs.Le.{le, of_le}
use Rattle.le.proofs.LeLaws.{length-le, of-le}
use Rattle.cells.specs.Cells.{chain, cells, Below}
use Rattle.cells.proofs.ChainLaws.{chain-step, chain-split, chain-all, chain-room}
use Rattle.cells.proofs.ChainLaws.{length-cells, each_at}
use Rattle.image.specs.Image.{numbers_from, contents, table_of}
use Rattle.image.specs.Longest.{table_bytes}
use Rattle.image.proofs.TableLaws.{length-contents, length-table}
use Rattle.bodies.specs.Contents.{table_number, count_of, begin_of, long_of, body_of}

-- One of several things in bytes, cut out again.
module _ {A : Type 0} (enc : A → List ℕ) (l : List A) (d : A) (r : List ℕ) where
  pub chain-part : (i : ℕ) → i < length l
      → part (chain enc l ++ r) (length (chain enc (take i l))) (length (enc (get_or l i d)))
      ≡ enc (get_or l i d)
  chain-part i h =
      let a = chain enc (take i l) in
      let x = enc (get_or l i d) in
      let c = chain enc (drop (i + 1) l) in
      let whole : chain enc l ++ r ≡ a ++ (x ++ (c ++ r)) =
      ap (λ (m : List ℕ). m ++ r)
      (chain-split enc l (i + 1) ∙ ap (λ (m : List ℕ). m ++ c) (chain-step enc l i d h))
      ∙ append_assoc (a ++ x) c r ∙ append_assoc a x (c ++ r) in
      ap (λ (m : List ℕ). part m (length a) (length x)) whole
      ∙ ap (take (length x)) (drop-append_seam a (x ++ (c ++ r)))
      ∙ take-append_seam x (c ++ r)

-- A number of a table.
pub number_at : (ws r : List ℕ) (i : ℕ) → i < length ws → Below (256 ^ 4) ws
    → table_number (cells 4 ws ++ r) i ≡ get_or ws i 0
unfolding table_number
number_at ws r i h b =
    let at : length (cells 4 (take i ws)) ≡ 4 * i =
    length-cells 4 (take i ws) ∙ omega (arith, length-take-le i ws (omega arith)) in
    let cut = chain-part (le 4) ws 0 r i h in
    ap of_le
    ((λ j. part (cells 4 ws ++ r) (sym at j) (sym (length-le 4 (get_or ws i 0)) j)) ∙ cut)
    ∙ of-le 4 (get_or ws i 0) (each_at (λ j x. x < 256 ^ 4) ws i 0 h b)

-- ---- the entries

pub entry-begin : (at : ℕ) (bs : List (List ℕ)) (i : ℕ) → i < length bs
    → get_or (contents at bs) (2 * i) 0 ≡ at + length (chain (λ b. b) (take i bs))
unfolding contents chain
entry-begin at [] i h = absurd (omega arith)
entry-begin at (b ∷ bs) zero h = sym (add-zero at)
entry-begin at (b ∷ bs) (suc i) h =
    let two : 2 * suc i ≡ suc (suc (2 * i)) = omega arith in
    let rest = chain (λ (y : List ℕ). y) (take i bs) in
    ap (λ (k : ℕ). get_or (contents at (b ∷ bs)) k 0) two
    ∙ entry-begin (at + length b) bs i (omega arith)
    ∙ omega (arith, length-append b rest)

pub entry-long : (at : ℕ) (bs : List (List ℕ)) (i : ℕ) → i < length bs
    → get_or (contents at bs) (2 * i + 1) 0 ≡ length (get_or bs i [])
unfolding contents
entry-long at [] i h = absurd (omega arith)
entry-long at (b ∷ bs) zero h = refl
entry-long at (b ∷ bs) (suc i) h =
    let two : 2 * suc i + 1 ≡ suc (suc (2 * i + 1)) = omega arith in
    ap (λ (k : ℕ). get_or (contents at (b ∷ bs)) k 0) two
    ∙ entry-long (at + length b) bs i (omega arith)

-- ---- the bodies behind their table

module _ (bs : List (List ℕ)) where
  abbrev start : ℕ
  start = table_bytes (length bs)

  abbrev words : List ℕ
  words = length bs ∷ contents start bs

  abbrev all : List ℕ
  all = table_of bs ++ chain (λ b. b) bs

  module _ (below : Below (256 ^ 4) words) where
    number : (i : ℕ) → i < 1 + 2 * length bs → table_number all i ≡ get_or words i 0
    unfolding table_of
    number i h =
        number_at words (chain (λ b. b) bs) i (omega (arith, length-contents start bs)) below

    pub parts-count : count_of all ≡ length bs
    parts-count = number 0 (omega arith)

    module _ (i : ℕ) (h : i < length bs) where
      pub parts-begin : begin_of all (i + 1) ≡ start + length (chain (λ b. b) (take i bs))
      parts-begin =
          let at : 2 * (i + 1) - 1 ≡ suc (2 * i) = omega arith in
          ap (table_number all) at ∙ number (suc (2 * i)) (omega arith) ∙ entry-begin start bs i h

      pub parts-long : long_of all (i + 1) ≡ length (get_or bs i [])
      parts-long =
          let at : 2 * (i + 1) ≡ suc (2 * i + 1) = omega arith in
          ap (table_number all) at ∙ number (suc (2 * i + 1)) (omega arith)
          ∙ entry-long start bs i h

      pub parts-body : body_of all (i + 1) ≡ get_or bs i []
      parts-body =
          let t = table_of bs in
          let c = chain (λ (b : List ℕ). b) bs in
          let f = chain (λ (b : List ℕ). b) (take i bs) in
          let begin : begin_of all (i + 1) ≡ length t + length f =
          parts-begin ∙ ap (λ (k : ℕ). k + length f) (sym (length-table bs)) in
          (λ j. part all (begin j) (parts-long j))
          ∙ ap (take (length (get_or bs i []))) (drop-append-add t c (length f))
          ∙ ap (λ (l : List ℕ). part l (length f) (length (get_or bs i [])))
          (sym (append-nil c))
          ∙ chain-part (λ b. b) bs [] [] i h

      pub parts-end : begin_of all (i + 1) + long_of all (i + 1) ≤ length all
      parts-end =
          let c = chain (λ (b : List ℕ). b) bs in
          omega (
            arith,
            parts-begin,
            parts-long,
            length-append (table_of bs) c,
            length-table bs,
            chain-room (λ b. b) bs i [] h,
          )

    -- Each begins where the one before it ends.
    pub parts_next : (i : ℕ) → i + 1 < length bs
        → begin_of all (i + 2) ≡ begin_of all (i + 1) + long_of all (i + 1)
    parts_next i h =
        let step = ap length (chain-step (λ (b : List ℕ). b) bs i [] (omega arith)) in
        let more = length-append (chain (λ (b : List ℕ). b) (take i bs)) (get_or bs i []) in
        let two : i + 2 ≡ i + 1 + 1 = omega arith in
        ap (begin_of all) two ∙ parts-begin (i + 1) h
        ∙ omega (arith, parts-begin i (omega arith), parts-long i (omega arith))

    -- The last ends with all.
    pub parts_last : (i : ℕ) → i + 1 ≡ length bs
        → begin_of all (i + 1) + long_of all (i + 1) ≡ length all
    parts_last i e =
        let c = chain (λ (b : List ℕ). b) bs in
        let step = ap length (chain-step (λ (b : List ℕ). b) bs i [] (omega arith)) in
        let more = length-append (chain (λ (b : List ℕ). b) (take i bs)) (get_or bs i []) in
        let whole = ap length (chain-all (λ (b : List ℕ). b) bs (i + 1) (omega arith)) in
        omega (
          arith,
          parts-begin i (omega arith),
          parts-long i (omega arith),
          length-append (table_of bs) c,
          length-table bs,
        )

-- Numbered parts are the bodies, where each is.
pub numbered : (f : ℕ → List ℕ) (a : ℕ) (bs : List (List ℕ))
    → ((i : ℕ) → i < length bs → f (a + i) ≡ get_or bs i [])
    → chain f (numbers_from a (length bs)) ≡ chain (λ b. b) bs
unfolding chain numbers_from
numbered f a [] h = refl
numbered f a (b ∷ bs) h =
    let first : f a ≡ b = ap f (sym (add-zero a)) ∙ h 0 (omega arith) in
    let rest = numbered f (suc a) bs (λ i k.
    ap f (let e : suc a + i ≡ a + suc i = omega arith in e) ∙ h (suc i) (omega arith)) in
    λ j. first j ++ rest j
