-- The index in a row: what the code of `indexed` has written.
use Prim.Native.Nat.{ℕ, ◌+◌, ◌-◌, ◌≤◌, ◌<◌}
use mathlib.Core.Path.{◌≡◌, refl, sym, ap, ◌∙◌, subst}
use mathlib.Core.Bool.{true, ◌&&◌}
use mathlib.Core.List.{List, [], ◌∷◌, ◌++◌}
use native.Mathlib.Nat.{sub-zero}
use native.Mathlib.Numerals.{add-one}
use native.Mathlib.Omega.{arith}
use borrow.Author.Tests.{leb-true, eqb-true}
use lib.Dec.{leb, eqb}
use lib.ListN.{length, take, drop, get_or, length-drop}
use lib.Seq.{length-take-le, take_at, take_all, take-take, take-suc, drop-cons, get_or-take}
use lib.Seq.{take-append-le}
use Rattle.words.specs.Rows.{part, splice}
use Rattle.words.proofs.PartLaws.{length_part, get_or_part, part-splice, length-splice, cut_at}
use Rattle.words.proofs.PartLaws.{put-at}
use Rattle.rules.specs.Parts.{span}
use Rattle.rules.specs.Box.{BookFits, written}
use Rattle.rules.specs.declared.model.Book.{Book}
use Rattle.rules.proofs.BoundLaws.{first-of, second-of}
use Rattle.index.specs.Index.{slot_of}
use Rattle.index.specs.Lent.{Indexed, Appends, cleared, appended, gone}
use Rattle.index.specs.Lent.{moved as index_moved}
use Rattle.index.proofs.LentLaws.{indexed-clear, append_asks, indexed_append, indexed-leave}
use Rattle.index.proofs.LentLaws.{indexed-move, length-cleared, length-appended, length-gone}
use Rattle.index.proofs.LentLaws.{length_moved}
use Rattle.row.specs.Row.{head_words, first_at, last_at, count_at, index_at, index_width, row_width}
use Rattle.row.specs.Row.{agreed_of, index_of}
use Rattle.row.specs.Lent.{RowBooked, Reindexed, Released, records_of, leaving, known}
use Rattle.row.specs.Lent.{agreed_stay, Cleared}
use Rattle.row.proofs.SameLaws.{front_get}
use Rattle.row.proofs.BookLaws.{drop-take}
use Rattle.row.proofs.SameLaws.{front-first, front-agreed}

-- ---- the agreed records of a row

module _ (J : ℕ) (r : List ℕ) (ok : RowBooked J r) where
  abbrev first : ℕ
  first = get_or r first_at 0

  abbrev count : ℕ
  count = get_or r count_at 0

  abbrev many : ℕ
  many = span (get_or r first_at 0) (get_or r last_at 0)

  pub records-length : length (records_of r) ≡ count
  records-length = length_part head_words count r (omega (arith, ok.words, ok.count))

  pub agreed-length : length (agreed_of r) ≡ many
  agreed-length =
      length-take-le many (records_of r) (omega (arith, records-length, ok.numbers.held))

  -- as the code reads them
  pub agreed-part : part r head_words many ≡ agreed_of r
  agreed-part = sym (take-take many count (drop head_words r) ok.numbers.held)

  pub agreed_get : (i : ℕ) → i < many → get_or (agreed_of r) i 0 ≡ get_or r (head_words + i) 0
  agreed_get i h =
      get_or-take many (records_of r) i 0 h
      ∙ get_or_part head_words count i 0 r (omega (arith, ok.numbers.held))

-- ---- only the index becomes another

module _ (J : ℕ) (r : List ℕ) (words : length r ≡ row_width J) where
  pub index-length : length (index_of J r) ≡ index_width J
  index-length = length_part (index_at J) (index_width J) r (omega (arith, words))

  -- as the code cuts it out, and puts it back
  pub index-cut : take (index_at J + index_width J - index_at J) (drop (index_at J) r)
      ≡ index_of J r
  index-cut = cut_at {a = index_at J} {k = index_width J} r refl refl

  pub index-put : (ix : List ℕ)
      → splice r (index_at J) (index_at J + index_width J - index_at J) ix
      ≡ splice r (index_at J) (index_width J) ix
  index-put ix = put-at {a = index_at J} {k = index_width J} r ix refl refl

  pub reindexed : {p k : ℕ} {rs : List ℕ} (ix q : List ℕ) → length ix ≡ length (index_of J r)
      → q ≡ splice r (index_at J) (index_width J) ix → Indexed p k rs ix → Reindexed J p k rs r q
  reindexed {p} {k} {rs} ix q e eq h =
      let long = e ∙ index-length in
      let within : index_at J + index_width J ≤ length r = omega (arith, words) in
      let front : take (index_at J) (splice r (index_at J) (index_width J) ix)
      ≡ take (index_at J) r =
      take_at (take (index_at J) r) _ (index_at J)
      (length-take-le (index_at J) r (omega (arith, words))) in
      rw eq
      (record {
        front = front;
        index = subst (Indexed p k rs)
            (sym (part-splice (index_at J) (index_width J) r ix within long)) h;
        words = length-splice (index_at J) (index_width J) r ix within long;
      })

  -- No record is in it ..
  pub clear_law : (q : List ℕ) → q ≡ splice r (index_at J) (index_width J) (cleared (index_of J r))
      → Cleared J r q
  clear_law q eq k one =
      reindexed (cleared (index_of J r)) q (length-cleared (index_of J r) room) eq
      (indexed-clear (index_of J r) room 0 k one room)
    where
      room : 128 ≤ length (index_of J r)
      room = omega (arith, index-length)

-- .. and what has become another once becomes another again.
pub again : {J p k p' k' : ℕ} {rs rs' r q q' : List ℕ} → Reindexed J p k rs r q
    → Reindexed J p' k' rs' q q' → Reindexed J p' k' rs' r q'
again a b = record {
  front = b.front ∙ a.front;
  index = b.index;
  words = b.words ∙ a.words;
}

-- ---- the first d leave

-- i of them have left
pub record Left (J : ℕ) (r : List ℕ) (i : ℕ) (q : List ℕ) : Type 0 where
  pub few : i ≤ length (agreed_of r)
  pub so_far : Reindexed J i (get_or r first_at 0 + i) (drop i (agreed_of r)) r q

module _ (J : ℕ) (r : List ℕ) (ok : RowBooked J r) where
  pub left-none : Indexed 0 (get_or r first_at 0) (agreed_of r) (index_of J r) → Left J r 0 r
  left-none h = record {
    few = omega arith;
    so_far = record {
      front = refl;
      index = subst (λ (k : ℕ). Indexed 0 k (agreed_of r) (index_of J r)) (sym same) h;
      words = refl;
    };
  }
    where
      same : get_or r first_at 0 + 0 ≡ get_or r first_at 0
      same = omega arith

  pub left-more : (i : ℕ) (q q' : List ℕ) → Left J r i q → i < length (agreed_of r)
      → q' ≡ splice q (index_at J) (index_width J)
      (gone (slot_of (get_or q (head_words + i) 0)) i (index_of J q))
      → Left J r (i + 1) q'
  left-more i q q' l h eq =
      let s = l.so_far in
      let long = s.words ∙ ok.words in
      let n = agreed-length J r ok in
      let x = get_or (agreed_of r) i 0 in
      let same : x ≡ get_or q (head_words + i) 0 =
      agreed_get J r ok i (omega (arith, n))
      ∙ sym (front_get (index_at J) q r s.front (head_words + i)
      (omega (arith, n, ok.numbers.held, ok.count))) in
      let shape : drop i (agreed_of r) ≡ x ∷ drop (i + 1) (agreed_of r) =
      drop-cons (agreed_of r) i 0 h ∙ ap (λ (n : ℕ). x ∷ drop n (agreed_of r)) (sym (add-one i)) in
      let here =
      subst (λ (rs : List ℕ). Indexed i (get_or r first_at 0 + i) rs (index_of J q)) shape
      s.index in
      let number : get_or r first_at 0 + i + 1 ≡ get_or r first_at 0 + (i + 1) = omega arith in
      let after = indexed-leave here in
      record {
        few = omega arith;
        so_far = again s
            (reindexed J q long (gone (slot_of x) i (index_of J q)) q'
            (length-gone (slot_of x) i (index_of J q))
            (eq ∙ ap (λ (v : ℕ). splice q (index_at J) (index_width J)
            (gone (slot_of v) i (index_of J q))) (sym same))
            (subst (λ (k : ℕ). Indexed (i + 1) k (drop (i + 1) (agreed_of r))
            (gone (slot_of x) i (index_of J q))) number after));
      }

  -- .. and the next words of the others move down.
  pub left-moved : (d : ℕ) (q q' : List ℕ) → Left J r d q
      → q' ≡ splice q (index_at J) (index_width J)
      (index_moved d (length (agreed_of r) - d) (index_of J q))
      → Reindexed J 0 (get_or r first_at 0 + d) (drop d (agreed_of r)) r q'
  left-moved d q q' l eq =
      let s = l.so_far in
      let rs = drop d (agreed_of r) in
      let long : length rs ≡ length (agreed_of r) - d = rw length-drop in
      again s
      (reindexed J q (s.words ∙ ok.words) (index_moved d (length rs) (index_of J q)) q'
      (length_moved s.index)
      (eq ∙ ap (λ (n : ℕ). splice q (index_at J) (index_width J) (index_moved d n (index_of J q)))
      (sym long))
      (indexed-move s.index))

-- ---- those from place m on come

-- those before place i are there
pub record Entered (J : ℕ) (r : List ℕ) (i : ℕ) (q : List ℕ) : Type 0 where
  pub few : i ≤ length (agreed_of r)
  pub so_far : Reindexed J 0 (get_or r first_at 0) (take i (agreed_of r)) r q

module _ (J : ℕ) (r : List ℕ) (ok : RowBooked J r) where
  pub entered-some : (m : ℕ) → m ≤ length (agreed_of r)
      → Indexed 0 (get_or r first_at 0) (take m (agreed_of r)) (index_of J r) → Entered J r m r
  entered-some m few h = record {
    few = few;
    so_far = record { front = refl; index = h; words = refl };
  }

  module _ (i k : ℕ) (q : List ℕ) (l : Entered J r i q) (h : i < length (agreed_of r))
      (number : k ≡ get_or r first_at 0 + i) where
    abbrev here : List ℕ
    here = take i (agreed_of r)

    x : ℕ
    x = get_or q (head_words + i) 0

    same : get_or (agreed_of r) i 0 ≡ get_or q (head_words + i) 0
    same =
        let n = agreed-length J r ok in
        agreed_get J r ok i (omega (arith, n))
        ∙ sym (front_get (index_at J) q r l.so_far.front (head_words + i)
        (omega (arith, n, ok.numbers.held, ok.count)))

    many-here : length here ≡ i
    many-here = length-take-le i (agreed_of r) l.few

    next-number : k ≡ get_or r first_at 0 + length here
    next-number = number ∙ ap (λ (n : ℕ). get_or r first_at 0 + n) (sym many-here)

    next_place : i ≡ 0 + length here
    next_place = omega (arith, many-here)

    long : length q ≡ row_width J
    long = l.so_far.words ∙ ok.words

    room : 128 + i < length (index_of J q)
    room = omega (
      arith,
      index-length J q long,
      agreed-length J r ok,
      ok.numbers.held,
      ok.count,
    )

    pub enters : Appends (slot_of (get_or q (head_words + i) 0)) k i (index_of J q)
    enters =
        append_asks l.so_far.index (get_or q (head_words + i) 0) k i next-number next_place room

    pub entered-more : (q' : List ℕ)
        → q' ≡ splice q (index_at J) (index_width J)
        (appended (slot_of (get_or q (head_words + i) 0)) k i (index_of J q))
        → Entered J r (i + 1) q'
    entered-more q' eq =
        let v = get_or q (head_words + i) 0 in
        let shape : take (i + 1) (agreed_of r) ≡ here ++ (v ∷ []) =
        rw add-one (take-suc (agreed_of r) i 0 h)
        ∙ ap (λ (y : ℕ). here ++ (y ∷ [])) same in
        record {
          few = omega arith;
          so_far = again l.so_far
              (reindexed J q long (appended (slot_of v) k i (index_of J q)) q'
              (length-appended (slot_of v) k i (index_of J q)) eq
              (subst (λ (rs : List ℕ). Indexed 0 (get_or r first_at 0) rs
              (appended (slot_of v) k i (index_of J q))) (sym shape)
              (indexed_append l.so_far.index v k i next-number next_place room)));
        }

  pub entered_all : (i : ℕ) (q : List ℕ) → Entered J r i q → length (agreed_of r) ≤ i
      → Reindexed J 0 (get_or r first_at 0) (agreed_of r) r q
  entered_all i q l h =
      subst (λ (rs : List ℕ). Reindexed J 0 (get_or r first_at 0) rs r q)
      (take_all i (agreed_of r) h) l.so_far

-- ---- those that stay

-- Of the first l records but d, with others behind them, the first are those up to a.
first-stay : (rs : List ℕ) (d l a : ℕ) → d ≤ a → a ≤ l → l ≤ length rs → (ys : List ℕ)
    → take (a - d) (drop d (take l rs) ++ ys) ≡ drop d (take a rs)
first-stay rs d l a le h held ys =
    let long : length (drop d (take l rs)) ≡ l - d =
    rw length-drop (ap (λ (n : ℕ). n - d) (length-take-le l rs held)) in
    take-append-le (a - d) (drop d (take l rs)) ys (omega (arith, long))
    ∙ ap (take (a - d)) (drop-take rs d l (omega arith) held)
    ∙ take-take (a - d) (l - d) (drop d rs) (omega arith)
    ∙ sym (drop-take rs d a le (omega arith))

-- What a book leaves of the first a records.
pub written-front : (J : ℕ) (rs ms : List ℕ) (b : Book) (a : ℕ) → BookFits J rs ms b
    → leaving b ≤ a → a ≤ known b (length rs)
    → take (a - leaving b) (written b rs ms) ≡ drop (leaving b) (take a rs)
unfolding written
written-front J rs ms Book.Keep a f le h = rw sub-zero
written-front J rs ms (Book.Drop d) a f le h = sym (drop-take rs d a le h)
written-front J rs ms (Book.Put d l v) a f le h =
    first-stay rs d l a le h f.1 (v ∷ [])
written-front J rs ms (Book.Take d l b e) a f le h =
    first-stay rs d l a le h f.1 (drop b (take e ms))

module _ (J : ℕ) (r : List ℕ) (ok : RowBooked J r) (b : Book) (first last : ℕ) where
  abbrev stayed : ℕ
  stayed = span (get_or r first_at 0) (get_or r last_at 0) - leaving b

  -- what the test says
  pub record Stays : Type 0 where
    pub number : get_or r first_at 0 + leaving b ≡ first
    pub leave : leaving b ≤ span (get_or r first_at 0) (get_or r last_at 0)
    pub known-all : span (get_or r first_at 0) (get_or r last_at 0) ≤ known b (get_or r count_at 0)
    pub later : get_or r last_at 0 ≤ last

  pub stays : agreed_stay r (span (get_or r first_at 0) (get_or r last_at 0)) b first last ≡ true
      → Stays
  stays e =
      let many = span (get_or r first_at 0) (get_or r last_at 0) in
      let three = first-of (eqb (get_or r first_at 0 + leaving b) first && leb (leaving b) many
      && leb many (known b (get_or r count_at 0))) _ e in
      let two = first-of (eqb (get_or r first_at 0 + leaving b) first && leb (leaving b) many) _
      three in
      record {
        number = eqb-true _ _ (first-of (eqb (get_or r first_at 0 + leaving b) first) _ two);
        leave = leb-true _ _ (second-of (eqb (get_or r first_at 0 + leaving b) first) _ two);
        known-all = leb-true _ _ (second-of (eqb (get_or r first_at 0 + leaving b) first
            && leb (leaving b) many) _ three);
        later = leb-true _ _ (second-of (eqb (get_or r first_at 0 + leaving b) first
            && leb (leaving b) many && leb many (known b (get_or r count_at 0))) _ e);
      }

  -- The first have left, and the others are in the index.
  pub release_some : Stays → (q : List ℕ)
      → Reindexed J 0 (get_or r first_at 0 + leaving b) (drop (leaving b) (agreed_of r)) r q
      → Released J b first last r stayed q
  release_some t q done =
      let long = records-length J r ok in
      record {
        few = omega (arith, t.number, t.later, t.leave, ok.numbers.order);
        kept = λ ms f.
            let same = written-front J (records_of r) ms b
            (span (get_or r first_at 0) (get_or r last_at 0)) f t.leave
            (subst (λ (n : ℕ). span (get_or r first_at 0) (get_or r last_at 0) ≤ known
            b n) (sym long)
            t.known-all) in
            subst (λ (k : ℕ). Reindexed J 0 k (take stayed (written b (records_of r) ms)) r q)
            t.number
            (subst (λ (rs : List ℕ). Reindexed J 0 (get_or r first_at 0 + leaving b) rs r q)
            (sym same) done);
      }

  -- All have left.
  pub release_all : 1 ≤ first → (q : List ℕ) → Cleared J r q
      → Released J b first last r 0 q
  release_all one q done = record { few = omega arith; kept = λ ms f. done first one }

-- ---- from nothing

module _ (J : ℕ) (r : List ℕ) (ok : RowBooked J r) (q : List ℕ) (none : Cleared J r q) where
  bare : Reindexed J 0 1 [] r q
  bare = none 1 (omega arith)

  bare-agreed : agreed_of q ≡ agreed_of r
  bare-agreed = front-agreed J q r ok.count bare.front

  bare-first : get_or q first_at 0 ≡ get_or r first_at 0
  bare-first = front-first J q r ok.count bare.front

  -- The row without an index can still be read as a book ..
  booked-again : RowBooked J q
  booked-again =
      let at = front_get (index_at J) q r bare.front in
      record {
        words = bare.words ∙ ok.words;
        loads = ok.loads;
        count = rw (at count_at (omega arith)) ok.count;
        numbers =
            rw (
              at count_at (omega arith),
              at first_at (omega arith),
              at last_at (omega arith),
            )
            ok.numbers;
      }

  -- .. none of whose records is in the index ..
  pub built-none : RowBooked J q
      × (Indexed 0 (get_or q first_at 0) (take 0 (agreed_of q)) (index_of J q)
      × (0 ≤ length (agreed_of q)))
  built-none = (
    booked-again,
    ((none (get_or q first_at 0) booked-again.numbers.one).index, omega arith),
  )

  -- .. and then all.
  pub built : (q' : List ℕ) → Reindexed J 0 (get_or q first_at 0) (agreed_of q) q q'
      → Reindexed J 0 (get_or r first_at 0) (agreed_of r) r q'
  built q' done =
      again bare
      (subst (λ (k : ℕ). Reindexed J 0 k (agreed_of r) q q') bare-first
      (subst (λ (rs : List ℕ). Reindexed J 0 (get_or q first_at 0) rs q q') bare-agreed done))
