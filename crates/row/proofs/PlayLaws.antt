-- What the code of `play` has written: the index of what stays, the records, the head, and then the
-- index of all agreed records.
use Prim.Native.Nat.{ℕ, ◌≤◌}
use mathlib.Core.Path.{◌≡◌, sym, ap, ◌∙◌, subst}
use mathlib.Core.List.{List, ◌++◌}
use native.Mathlib.Omega.{arith}
use lib.ListN.{length, take, drop, get_or}
use lib.Seq.{take-take}
use Rattle.words.specs.Rows.{part}
use Rattle.rules.specs.Parts.{span}
use Rattle.rules.specs.Box.{BookFits, written}
use Rattle.rules.specs.declared.model.Turn.{Turn}
use Rattle.index.specs.Lent.{Indexed}
use Rattle.letter.specs.Place.{letter_at}
use Rattle.row.specs.Row.{words_of, head_words, first_at, last_at, count_at, index_at}
use Rattle.row.specs.Row.{row_width, agreed_of, index_of}
use Rattle.row.specs.Lent.{RowBooked, Reindexed, Released, records_of, count_after, Writes}
use Rattle.row.specs.Lent.{Wrote, Plays, Played}
use Rattle.row.proofs.FormLaws.{fits-says}
use Rattle.row.proofs.SameLaws.{front_get, front-part}
use Rattle.row.proofs.StoreLaws.{index-stored}
use Rattle.row.proofs.BookLaws.{after-fits}
use Rattle.row.proofs.IndexLaws.{agreed-length}
use Rattle.row.proofs.HeadLaws.{stored-indexed, stored-length}

module _ (n J : ℕ) (r p : List ℕ) (t : Turn) (ok : Plays n J r p t) where
  abbrev ms : List ℕ
  ms = (letter_at p).records

  abbrev first : ℕ
  first = t.next.kept.first

  abbrev last : ℕ
  last = t.next.kept.last

  words : length r ≡ row_width J
  words = ok.writes.words ∙ ap row_width ok.room

  few : get_or r count_at 0 ≤ J
  few = subst (λ (j : ℕ). get_or r count_at 0 ≤ j) ok.room ok.writes.count

  -- The row can be read as a book with its index.
  pub play_booked : RowBooked J r
  play_booked = record {
    words = words;
    loads = omega (arith, ok.writes.loads, ok.room);
    count = few;
    numbers = ok.before;
  }

  pub play_indexed : Indexed 0 (get_or r first_at 0) (agreed_of r) (index_of J r)
  play_indexed = (fits-says J r ok.fits).4

  book : BookFits J (records_of r) ms t.book
  book = subst (λ (j : ℕ). BookFits j (records_of r) ms t.book) ok.room ok.writes.book

  module _ (m : ℕ) (r1 : List ℕ) (out : Released J t.book first last r m r1) where
    kept : Reindexed J 0 first (take m (written t.book (records_of r) ms)) r r1
    kept = out.kept ms book

    pub play_count : get_or r1 count_at 0 ≡ get_or r count_at 0
    play_count = front_get (index_at J) r1 r kept.front count_at (omega arith)

    same-records : records_of r1 ≡ records_of r
    same-records =
        ap (λ (c : ℕ). part r1 head_words c) play_count
        ∙ front-part (index_at J) r1 r kept.front head_words (get_or r count_at 0)
        (omega (arith, few))

    -- What stays is in the index: the records can be written.
    pub play_writes : Writes r1 p t.book
    play_writes = record {
      J = J;
      words = kept.words ∙ words;
      loads = play_booked.loads;
      count = rw play_count few;
      book = rw same-records book;
    }

    module _ (r2 r3 : List ℕ) (held : ℕ) (is : held ≡ count_after t.book (get_or r count_at 0))
        (wrote : Wrote r1 p t.book r2)
        (stored : r3 ≡ words_of t.next held ++ drop head_words r2) where
      abbrev all : List ℕ
      all = written t.book (records_of r) ms

      taken : take held (drop head_words r2) ≡ all
      taken =
          ap (λ (c : ℕ). take c (drop head_words r2))
          (is ∙ ap (count_after t.book) (sym play_count))
          ∙ wrote.records
          ∙ ap (λ (rs : List ℕ). written t.book rs ms) same-records

      held-few : held ≤ J
      held-few = rw is
          (omega (arith, after-fits r p t.book ok.writes, ok.room))

      long : length r2 ≡ row_width J
      long = wrote.words ∙ kept.words ∙ words

      -- The words before the index are those of the box after its turn.
      pub play_booked_again : RowBooked J r3
      play_booked_again =
          rw stored
          (record {
            words =
                stored-length n J t.next held r2 long held-few ok.five ok.above ∙ long;
            loads = play_booked.loads;
            count = held-few;
            numbers = rw is ok.after;
          })

      agreed-after : agreed_of r3 ≡ take (span first last) all
      agreed-after = rw stored (ap (take (span first last)) taken)

      index-after : index_of J r3 ≡ index_of J r1
      index-after =
          ap (index_of J) stored ∙ index-stored J t.next held r2
          ∙ wrote.index J (kept.words ∙ words)

      pub play_some : m ≤ length (agreed_of r3)
      play_some =
          omega (
            arith,
            out.few,
            agreed-length J r3 play_booked_again,
            ap (λ (l : List ℕ). span (get_or l first_at 0) (get_or l last_at 0)) stored,
          )

      pub play_index : Indexed 0 (get_or r3 first_at 0) (take m (agreed_of r3)) (index_of J r3)
      play_index =
          rw (index-after, agreed-after, take-take m (span first last) all out.few)
          (subst (λ (k : ℕ). Indexed 0 k (take m all) (index_of J r1))
          (sym (ap (λ (l : List ℕ). get_or l first_at 0) stored)) kept.index)

      -- The row holds the box after its turn.
      pub play_law : (q : List ℕ)
          → Reindexed J 0 (get_or r3 first_at 0) (agreed_of r3) r3 q → Played n J r p t q
      play_law q made =
          let there = rw stored at made in
          let done = stored-indexed n J t.next held (drop head_words r2) q ok.boxes held-few
          ok.five ok.above there in
          record {
            box = done.box
                ∙ ap (λ (rs : List ℕ). record { head = t.next; records = rs }) taken;
            words = made.words ∙ play_booked_again.words ∙ sym words;
            fits = done.fits;
          }
