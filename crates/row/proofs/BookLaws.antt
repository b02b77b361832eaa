-- What a turn makes of the records in a row: some leave, one is put, or those of a mail are taken.
use mathlib.Core.Path.{◌≡◌, refl, sym, ap, ◌∙◌}
use mathlib.Core.List.{List, [], ◌∷◌, ◌++◌}
use Prim.Native.Nat.{ℕ, ◌+◌, ◌-◌, ◌≤◌, ◌<◌}
use native.Mathlib.Nat.{zero-add}
use native.Mathlib.Numerals.{add-one}
use native.Mathlib.Omega.{arith}
use lib.ListN.{length, take, drop, get_or, set, length-set, length-take, length-drop}
use lib.Seq.{take_all, take-take, take-suc-set, drop-set-add, drop-set-lt}
use Rattle.words.specs.Rows.{part, splice}
use Rattle.words.proofs.PartLaws.{length_part, length-splice, part-part, part-drop, part-splice}
use Rattle.words.proofs.PartLaws.{part-above, drop-splice, take-splice-end}
use Rattle.rules.specs.Box.{written}
use Rattle.rules.specs.declared.model.Book.{Book}
use Rattle.letter.specs.Place.{head_words as letter_head, count_at as letter_count}
use Rattle.row.specs.Row.{head_words, count_at, index_at, index_width, row_width, index_of}
use Rattle.row.specs.Lent.{records_of, moved, count_after, CountFits, Writes, Wrote}

-- ---- parts

-- A number within the length of a part is at most k, and within what follows the part's start.
in_part : (xs : List ℕ) (a k l : ℕ) → l ≤ length (part xs a k) → (l ≤ k) × (l ≤ length xs - a)
in_part xs a k l h =
    let m = simp (length-take, length-drop) at h in
    (omega arith, omega arith)

-- The elements a + 1 to l.
pub drop-take : (xs : List ℕ) (a l : ℕ) → a ≤ l → l ≤ length xs
    → drop a (take l xs) ≡ part xs a (l - a)
drop-take xs a l h m =
    let long : length (drop a (take l xs)) ≤ l - a =
    simp (length-drop, length-take) (omega arith) in
    sym (take_all (l - a) (drop a (take l xs)) long)
    ∙ part-part 0 l a (l - a) xs (omega arith)
    ∙ ap (λ (k : ℕ). part xs k (l - a)) (zero-add a)

-- All but b of the first e of a part, as they stand behind its start h.
within-part : (xs : List ℕ) (h k b e : ℕ) → b ≤ e → e ≤ length (part xs h k)
    → drop b (take e (part xs h k)) ≡ part xs (h + b) (e - b)
within-part xs h k b e le held =
    let i = in_part xs h k e held in
    let some : e ≤ length (drop h xs) = rw length-drop i.1 in
    ap (drop b) (take-take e k (drop h xs) i.0)
    ∙ drop-take (drop h xs) b e le some
    ∙ part-drop h b (e - b) xs

-- ---- what the code of `write` has written, book by book

-- of the first a records the first d leave
module _ (r : List ℕ) (d a : ℕ) (le : d ≤ a) (room : head_words + a ≤ length r) where
  long : length (part r (head_words + d) (a - d)) ≡ a - d
  long = length_part (head_words + d) (a - d) r (omega arith)

  pub moved_length : length (moved d a r) ≡ length r
  moved_length =
      length-splice head_words (a - d) r (part r (head_words + d) (a - d)) (omega arith) long

  pub moved-records : take (a - d) (drop head_words (moved d a r))
      ≡ part r (head_words + d) (a - d)
  moved-records =
      part-splice head_words (a - d) r (part r (head_words + d) (a - d)) (omega arith) long

-- what is written before the index leaves it
index-past : (J : ℕ) (r ys : List ℕ) (a k : ℕ) → head_words + a + k ≤ index_at J
    → length r ≡ row_width J → length ys ≡ k
    → index_of J (splice r (head_words + a) k ys) ≡ index_of J r
index-past J r ys a k h l e =
    part-above (head_words + a) k (index_at J) (index_width J) r ys h (omega arith) e

module _ (r p : List ℕ) where
  pub keep_law : Wrote r p Book.Keep r
  unfolding written
  keep_law = record { words = refl; index = λ J l. refl; records = refl }

  -- .. of the records that move down
  moved-index : (J d a : ℕ) → d ≤ a → a ≤ J → length r ≡ row_width J
      → index_of J (moved d a r) ≡ index_of J r
  moved-index J d a le few l =
      part-above head_words (a - d) (index_at J) (index_width J) r
      (part r (head_words + d) (a - d)) (omega arith) (omega arith)
      (length_part (head_words + d) (a - d) r (omega arith))

  -- A book that fits leaves the records within the row.
  kept-few : {J a : ℕ} → get_or r count_at 0 ≤ J → a ≤ length (records_of r) → a ≤ J
  kept-few {J} {a} c h = omega (arith, (in_part r head_words (get_or r count_at 0) a h).0)

  kept-room : {J a : ℕ} → length r ≡ row_width J → get_or r count_at 0 ≤ J
      → a ≤ length (records_of r) → head_words + a ≤ length r
  kept-room {J} {a} w c h = omega (arith, kept-few {J = J} {a = a} c h)

  -- .. and what stays of the first a is what the book says.
  stays : (d a : ℕ) → d ≤ a → a ≤ length (records_of r) → head_words + a ≤ length r
      → take (a - d) (drop head_words (moved d a r)) ≡ drop d (take a (records_of r))
  stays d a le held room =
      moved-records r d a le room
      ∙ sym (within-part r head_words (get_or r count_at 0) d a le held)

  pub drop-room : (d : ℕ) → Writes r p (Book.Drop d)
      → (d ≤ get_or r count_at 0) × (head_words + get_or r count_at 0 ≤ length r)
  drop-room d w =
      let i = in_part r head_words (get_or r count_at 0) d w.book in
      (i.0, omega (arith, w.words, w.count))

  pub drop_law : (d : ℕ) (q : List ℕ) → Writes r p (Book.Drop d)
      → q ≡ moved d (get_or r count_at 0) r → Wrote r p (Book.Drop d) q
  unfolding written
  drop_law d q w e =
      let c = get_or r count_at 0 in
      let room = drop-room d w in
      let whole : c ≤ length (records_of r) =
      rw (length_part head_words c r room.1) (omega arith) in
      rw e
      (record {
        words = moved_length r d c room.0 room.1;
        index = λ J l. moved-index J d c room.0 (omega (arith, w.count, w.words)) l;
        records =
            stays d c room.0 whole room.1
            ∙ ap (drop d) (take_all c (records_of r) (few c));
      })
    where
      few : (c : ℕ) → length (part r head_words c) ≤ c
      few c = rw length-take (omega arith)

  pub put-room : (d a v : ℕ) → Writes r p (Book.Put d a v)
      → (d ≤ a) × (head_words + a ≤ length r) × (head_words + (a - d) < length r)
  put-room d a v w = (
    w.book.0,
    kept-room w.words w.count w.book.1,
    omega (arith, w.words, w.book.2),
  )

  pub put_law : (d a v : ℕ) (q : List ℕ) → Writes r p (Book.Put d a v)
      → q ≡ set (moved d a r) (head_words + (a - d)) v → Wrote r p (Book.Put d a v) q
  unfolding written
  put_law d a v q w e =
      let m = moved d a r in
      let room = put-room d a v w in
      let same = moved_length r d a room.0 room.1 in
      let at : a - d < length (drop head_words m) =
      rw (length-drop, same) (omega (arith, room.2)) in
      rw e
      (record {
        words = length-set m (head_words + (a - d)) v ∙ same;
        index = λ J l.
            ap (take (index_width J))
            (drop-set-lt (index_at J) m (head_words + (a - d)) v
            (omega (arith, w.book.2, w.words)))
            ∙ moved-index J d a room.0
            (omega (arith, w.words, kept-few {J = w.J} {a = a} w.count w.book.1)) l;
        records =
            rw (
              add-one,
              drop-set-add head_words m (a - d) v,
              take-suc-set (drop head_words m) (a - d) v at,
            )
            (ap (λ (f : List ℕ). f ++ (v ∷ []))
            (stays d a room.0 w.book.1 room.1));
      })

  -- The mail's place has the records that are taken, and the row has room for them.
  pub record TakeRoom (d a b e : ℕ) : Type 0 where
    pub stay : d ≤ a
    pub kept : head_words + a ≤ length r
    pub some : b ≤ e
    pub there : letter_head + e ≤ length p
    pub room : head_words + (a - d) + (e - b) ≤ length r

  pub take-room : (d a b e : ℕ) → Writes r p (Book.Take d a b e) → TakeRoom d a b e
  take-room d a b e w =
      let i = in_part p letter_head (get_or p letter_count 0) e w.book.3 in
      record {
        stay = w.book.0;
        kept = kept-room w.words w.count w.book.1;
        some = omega (arith, w.book.2);
        there = omega (arith, i.1, w.book.2);
        room = omega (arith, w.words, w.book.4);
      }

  pub take_law : (d a b e : ℕ) (q : List ℕ) → Writes r p (Book.Take d a b e)
      → q ≡ splice (moved d a r) (head_words + (a - d)) (e - b) (part p (letter_head + b) (e - b))
      → Wrote r p (Book.Take d a b e) q
  unfolding written
  take_law d a b e q w eq =
      let m = moved d a r in
      let ys = part p (letter_head + b) (e - b) in
      let z = take-room d a b e w in
      let same = moved_length r d a z.stay z.kept in
      let there : letter_head + b + (e - b) ≤ length p = omega (arith, z.there, z.some) in
      let long = length_part (letter_head + b) (e - b) p there in
      let fits : head_words + (a - d) ≤ length m = rw same (omega (arith, z.room)) in
      let start : a - d ≤ length (drop head_words m) =
      rw (length-drop, same) (omega (arith, z.room)) in
      rw eq
      (record {
        words =
            length-splice (head_words + (a - d)) (e - b) m ys (rw same z.room) long ∙ same;
        index = λ J l.
            index-past J m ys (a - d) (e - b) (omega (arith, w.book.4, w.words)) (same ∙ l) long
            ∙ moved-index J d a z.stay
            (omega (arith, w.words, kept-few {J = w.J} {a = a} w.count w.book.1)) l;
        records =
            rw (
              drop-splice head_words (a - d) (e - b) m ys fits,
              take-splice-end (a - d) (e - b) (drop head_words m) ys start long,
              stays d a z.stay w.book.1 z.kept,
              within-part p letter_head (get_or p letter_count 0) b e z.some w.book.3,
            );
      })

-- ---- how many there are then

-- The new count has room ..
pub after-fits : (r p : List ℕ) (b : Book) (w : Writes r p b)
    → count_after b (get_or r count_at 0) ≤ w.J
after-fits r p Book.Keep w = w.count
after-fits r p (Book.Drop d) w = omega (arith, w.count)
after-fits r p (Book.Put d a v) w = omega (arith, w.book.2)
after-fits r p (Book.Take d a b e) w = w.book.4

-- .. and can be counted.
pub count-fits : (r p : List ℕ) (b : Book) → Writes r p b → CountFits b (get_or r count_at 0)
count-fits r p Book.Keep w = tt
count-fits r p (Book.Drop d) w = (in_part r head_words (get_or r count_at 0) d w.book).0
count-fits r p (Book.Put d a v) w = (w.book.0, omega (arith, w.book.2, w.loads))
count-fits r p (Book.Take d a b e) w =
    (w.book.0, omega (arith, w.book.2), omega (arith, w.book.4, w.loads))
