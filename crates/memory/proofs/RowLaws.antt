-- What the functions of one row have computed, in terms of all boxes.
use Prim.Native.Nat.{ℕ, ◌+◌, ◌-◌, ◌≤◌, ◌<◌}
use mathlib.Core.Path.{◌≡◌, refl, sym, ap, ◌∙◌, subst}
use mathlib.Core.Bool.{Bool, true, cond}
use mathlib.Core.List.{List}
use native.Mathlib.Omega.{arith}
use lib.ListN.{length, take, drop, get_or}
use lib.Dec.{eqb}
use borrow.Author.Tests.{leb-true, eq-eqb, ne_eqb}
use Rattle.words.specs.Rows.{splice}
use Rattle.words.proofs.PartLaws.{length_part}
use Rattle.rules.specs.Sizes.{sizes_form, unknown}
use Rattle.rules.specs.Box.{Box, turned, BookFits}
use Rattle.rules.specs.Form.{form_box}
use Rattle.rules.specs.Site.{fresh_box, is_box}
use Rattle.rules.specs.Own.{elected_box}
use Rattle.rules.specs.declared.model.Setting.{Setting}
use Rattle.rules.specs.declared.model.Turn.{Turn}
use Rattle.laws.proofs.Logic.{left, right, passed, ◌&◌, none, made}
use Rattle.laws.proofs.FormLaws.{Peer, sizes-says, box-says}
use Rattle.letter.specs.Place.{letter_at}
use Rattle.row.specs.Row.{box_of, row_fits, row_form, count_at, head_words}
use Rattle.row.specs.Lent.{RowSized, RowByForm, RowHolds, Plays, Played}
use Rattle.row.proofs.TurnLaws.{row-formed}
use Rattle.row.proofs.AfterLaws.{turn-numbered}
use Rattle.memory.specs.Memory.{site_words, row_start, row_at}
use Rattle.row.specs.Row.{row_width}
use Rattle.memory.specs.After.{boxes_of, RowsLent, BoxLent, RowSet, Playable, setting_for}
use Rattle.memory.proofs.SizeLaws.{box-few, row_within}
use Rattle.memory.proofs.PutLaws.{part_cut, part-put, row-set}

-- ---- box b in its row

module _ (s : Setting) (b : ℕ) (xs : List ℕ) (h : is_box s.n b ≡ true) where
  box-here : box_of s.n (row_at s.j xs b) ≡ boxes_of s xs b
  box-here = ap (λ (t : Bool). cond t (box_of s.n (row_at s.j xs b)) fresh_box) (sym h)

  pub box-at : {r : List ℕ} → r ≡ row_at s.j xs b → box_of s.n r ≡ boxes_of s xs b
  box-at e = ap (box_of s.n) e ∙ box-here

  pub row_sized : sizes_form s.n s.j s.l ≡ true → site_words s.n s.j ≤ length xs
      → RowSized s.n s.j (row_at s.j xs b)
  row_sized sizes long =
      let z = sizes-says sizes in
      let w = row_width s.j in
      record {
        words = length_part (row_start s.j b) w xs (omega (arith, row_within s.j s.n b h));
        boxes = z.few-boxes;
        loads = z.few-loads;
      }

  module _ (lent : RowsLent s xs) where
    count-few : get_or (row_at s.j xs b) count_at 0 ≤ s.j
    unfolding row_fits
    count-few = leb-true _ _ (passed _ (lent.fits b h)).1.1.1.0

    pub row_room : head_words + get_or (row_at s.j xs b) count_at 0 ≤ length (row_at s.j xs b)
    row_room = omega (arith, count-few, (row_sized lent.sizes lent.words).words)

    pub row-form : form_box s.n s.j b (boxes_of s xs b) ≡ true
        → row_form s.n s.j b (row_at s.j xs b) ≡ true
    unfolding row_form
    row-form f = made (lent.fits b h & ap (form_box s.n s.j b) box-here ∙ f & none)

  -- its row, from p to e, becomes q, which holds x
  module _ {p e : ℕ} (start : p ≡ row_start s.j b) (end : e ≡ p + row_width s.j) where
    pub row_cut : take (e - p) (drop p xs) ≡ row_at s.j xs b
    row_cut = part_cut (row_width s.j) xs start end

    pub row_done : sizes_form s.n s.j s.l ≡ true → site_words s.n s.j ≤ length xs
        → (x : Box) (q : List ℕ) → RowHolds s.n s.j x (take (e - p) (drop p xs)) q
        → RowSet s b x xs (splice xs p (e - p) q)
    row_done sizes long x q holds =
        rw (part-put (row_width s.j) xs start end q)
        (row-set s b xs q h long
        (holds.words ∙ ap length row_cut ∙ (row_sized sizes long).words) x holds.box
        holds.fits)

-- ---- box me

pub row-by-form : (s : Setting) (xs : List ℕ) → BoxLent s xs → RowByForm s (row_at s.j xs s.me)
row-by-form s xs lent = record {
  size = row_sized s s.me xs lent.me lent.rows.sizes lent.rows.words;
  form = row-form s s.me xs lent.me lent.rows lent.form;
  me = box-few s.n s.me (sizes-says lent.rows.sizes) lent.me;
}

-- ---- box me plays a turn in its row, from p to e

module _ (s : Setting) (xs place : List ℕ) (t : Turn) {p e : ℕ}
    (ok : Playable s xs (letter_at place).records t)
    (start : p ≡ row_start s.j s.me) (end : e ≡ p + row_width s.j) where
  row : take (e - p) (drop p xs) ≡ row_at s.j xs s.me
  row = row_cut s s.me xs ok.lent.me start end

  size : RowSized s.n s.j (row_at s.j xs s.me)
  size = row_sized s s.me xs ok.lent.me ok.lent.rows.sizes ok.lent.rows.words

  pub row-plays : Plays s.n s.j (take (e - p) (drop p xs)) place t
  row-plays =
      let lent = ok.lent in
      let ms = (letter_at place).records in
      let f = box-says ok.form in
      let here = box-here s s.me xs lent.me in
      let booked = (row-formed s (row_at s.j xs s.me) (row-by-form s xs lent)).booked in
      let book = subst (λ (x : Box). BookFits s.j x.records ms t.book) (sym here)
      ok.book in
      rw row
      (record {
        writes = record {
          J = s.j;
          words = size.words;
          loads = size.loads;
          count = count-few s s.me xs lent.me lent.rows;
          book = book;
        };
        room = refl;
        boxes = size.boxes;
        five = f.places;
        above = λ k a m. unknown-above k a (f.peers k (omega arith, m));
        fits = lent.rows.fits s.me lent.me;
        before = booked.numbers;
        after = turn-numbered s.n s.j s.me (row_at s.j xs s.me) ms t booked book
            (subst (λ (x : Box). form_box s.n s.j s.me (turned x t ms) ≡ true) (sym here)
            ok.form);
      })
    where
      unknown-above : (k : ℕ) {last : ℕ} → s.n < k → Peer s.n s.me k last
          → last ≡ unknown
      unknown-above k a (left e) = e
      unknown-above k a (right e) = absurd (omega (arith, e.0))

  pub row-played : (q : List ℕ) → Played s.n s.j (take (e - p) (drop p xs)) place t q
      → RowSet s s.me (turned (boxes_of s xs s.me) t (letter_at place).records) xs
      (splice xs p (e - p) q)
  row-played q done =
      let lent = ok.lent in
      row_done s s.me xs lent.me start end lent.rows.sizes lent.rows.words _ q
      (record {
        box = done.box
            ∙ ap (λ (x : Box). turned x t (letter_at place).records)
            (box-at s s.me xs lent.me row);
        fits = done.fits;
        words = done.words;
      })

-- ---- the elected

-- r is the row of box b of s
pub elect-there : (s : Setting) (b c : ℕ) {r r' q : List ℕ} → r ≡ r'
    → RowHolds s.n s.j (elected_box (setting_for s b) c (box_of s.n r)) r q
    → RowHolds s.n s.j (elected_box (setting_for s b) c (box_of s.n r')) r q
elect-there s b c e holds = record {
  box = holds.box ∙ ap (λ (l : List ℕ). elected_box (setting_for s b) c (box_of s.n l)) e;
  fits = holds.fits;
  words = holds.words;
}

-- ---- the leader, by the first word of its row

pub leads-yes : {r q : List ℕ} → r ≡ q → get_or r 0 0 ≡ 1
    → ◌≡◌ {A = ℕ} 1 (cond (eqb (get_or q 0 0) 1) 1 0)
leads-yes {r} {q} e f = rw (eq-eqb (get_or q 0 0) 1 (ap (λ (l : List ℕ). get_or l 0 0) (sym e) ∙ f))

pub leads-no : {r q : List ℕ} → r ≡ q → (get_or r 0 0 ≡ 1 → ⊥)
    → ◌≡◌ {A = ℕ} 0 (cond (eqb (get_or q 0 0) 1) 1 0)
leads-no {r} {q} e f =
    rw (ne_eqb (get_or q 0 0) 1 (λ g. f (ap (λ (l : List ℕ). get_or l 0 0) e ∙ g)))
