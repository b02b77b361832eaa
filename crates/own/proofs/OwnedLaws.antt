-- What the code has done is what the statement says: nothing, or a turn that is carried out.
use mathlib.Core.Path.{◌≡◌, refl, sym, ap, ◌∙◌}
use mathlib.Core.Bool.{Bool, true, false, ◌&&◌, cond}
use mathlib.Core.List.{List, ◌++◌}
use Prim.Native.Nat.{ℕ, ◌+◌, ◌≤◌}
use native.Mathlib.Omega.{arith}
use lib.Dec.{ltb}
use lib.ListN.{length, take, drop, take-append-drop}
use lib.Seq.{length-take-le, length_front, take_at, drop_at}
use borrow.Author.Tests.{ltb-false, le-leb}
use Rattle.rules.specs.Box.{Box, turned}
use Rattle.rules.specs.Own.{OwnOutcome, unmoved, receivers, letters_of, own_turn}
use Rattle.laws.proofs.Types.{Answer, Refusal, Setting, Turn}
use Rattle.laws.proofs.Logic.{both-no, and_both}
use Rattle.laws.proofs.StepLaws.{accepted-kept}
use Rattle.letter.specs.Place.{letter_at, head_words as letter_head}
use Rattle.own.specs.Entry.{row_of, place_of, own_box, row_reads, place_reads}
use Rattle.rules.specs.Answers.{is_accepted}
use Rattle.own.specs.Entry.{buffered, Owned}
use Rattle.own.specs.Lent.{Carries, Carried, Concludes, concluded, StillReads}
use Rattle.row.specs.Row.{row_width}

-- Nothing has changed, and nothing is sent.
pub nothing-done : (s : Setting) (r out : List ℕ) (o : OwnOutcome) (a : Answer)
    → o ≡ unmoved (own_box s r) a → Owned s o r out r out a 0
nothing-done s r out o a e = record {
  answer = ap (λ (u : OwnOutcome). u.answer) (sym e);
  box = ap (λ (u : OwnOutcome). u.next) (sym e);
  receivers = ap (λ (u : OwnOutcome). u.to) (sym e);
  letter = ap (λ (u : OwnOutcome). u.letters) (sym e);
  kept = λ h. refl;
  quiet = λ h. refl;
  past_row = refl;
  past-out = refl;
  row_words = refl;
  out-words = refl;
}

pub still-there : (s : Setting) (r out : List ℕ) → StillReads s r r out 0
still-there s r out = record { row = λ h. h; letter = λ h. absurd (h refl) }

-- ---- the answer: the turn's, or 12 where its letter has no room

abbrev pub answer_in : Answer → Bool → Answer
answer_in a short = cond (is_accepted a && short) (Answer.Refused Refusal.Buffer) a

-- what a turn comes to that goes on
abbrev went_on : Answer → Box → Turn → List ℕ → OwnOutcome
went_on a x t ms = record {
  answer = a;
  next = turned x t ms;
  to = receivers t.out;
  letters = letters_of t.out (turned x t ms).records;
}

module _ (x : Box) (t : Turn) (ms : List ℕ) where
  abbrev comes : Answer → Bool → OwnOutcome
  comes b short =
      cond (is_accepted (own_turn b x t ms).answer && short)
      (unmoved x (Answer.Refused Refusal.Buffer))
      (own_turn b x t ms)

  -- The turn does not go on.
  stops : (b : Answer) (short : Bool) → is_accepted (answer_in b short) ≡ false
      → comes b short ≡ unmoved x (answer_in b short)
  unfolding own_turn
  stops Answer.Done true h = refl
  stops Answer.Done false h = absurd (both-no refl h)
  stops Answer.Taken true h = refl
  stops Answer.Taken false h = absurd (both-no refl h)
  stops (Answer.Discarded why) short h = refl
  stops (Answer.Refused why) short h = refl

  -- It goes on.
  goes : (b : Answer) (short : Bool) → is_accepted (answer_in b short) ≡ true
      → comes b short ≡ went_on (answer_in b short) x t ms
  unfolding own_turn
  goes Answer.Done true h = absurd (both-no h refl)
  goes Answer.Done false h = refl
  goes Answer.Taken true h = absurd (both-no h refl)
  goes Answer.Taken false h = refl
  goes (Answer.Discarded why) short h = absurd (both-no h refl)
  goes (Answer.Refused why) short h = absurd (both-no h refl)

-- Its letter has room.
went-on : (b : Answer) (short : Bool) → is_accepted (answer_in b short) ≡ true → short ≡ false
went-on b false h = refl
went-on Answer.Done true h = sym h
went-on Answer.Taken true h = sym h
went-on (Answer.Discarded why) true h = sym h
went-on (Answer.Refused why) true h = sym h

-- ---- the first w of xs have become ys

pub front-is : (w : ℕ) (xs ys : List ℕ) → w ≤ length xs → length ys ≡ length (take w xs)
    → take w (ys ++ drop w xs) ≡ ys
front-is w xs ys h e = take_at ys (drop w xs) w (e ∙ length-take-le w xs h)

pub front-past : (w : ℕ) (xs ys : List ℕ) → w ≤ length xs → length ys ≡ length (take w xs)
    → drop w (ys ++ drop w xs) ≡ drop w xs
front-past w xs ys h e = drop_at ys (drop w xs) w (e ∙ length-take-le w xs h)

front-back : (w : ℕ) (xs ys : List ℕ) → ys ≡ take w xs → ys ++ drop w xs ≡ xs
front-back w xs ys e = rw e (take-append-drop w xs)

-- ---- the turn t is concluded, with the answer a

pub has-room : (s : Setting) (out : List ℕ) (b a : Answer)
    → a ≡ answer_in b (ltb (length out) (letter_head + s.j)) → is_accepted a ≡ true
    → letter_head + s.j ≤ length out
has-room s out b a e h = ltb-false (length out) (letter_head + s.j) (went-on b _ (rw e at h))

module _ (s : Setting) (r p out : List ℕ) (t : Turn) (a : Answer)
    (e : a ≡ answer_in t.answer (ltb (length out) (letter_head + s.j))) where
  pub stopped : is_accepted a ≡ false → Owned s (concluded s r p t out) r out r out a 0
  unfolding buffered
  stopped h = rw e (nothing-done s r out _ _ (stops (own_box s r) t _ t.answer _ (rw e at h)))

  module _ (h : is_accepted a ≡ true) where
    long : letter_head + s.j ≤ length out
    long = has-room s out t.answer a e h

    -- The code cuts the row at `end` and the place at `room`.
    module _ (ok : Concludes s r p t) (end room : ℕ) (ee : end ≡ row_width s.j)
        (er : room ≡ letter_head + s.j) where
      pub can_carry : Carries s.n s.j (take end r) p (take room out) t
      can_carry =
          rw (ee, er)
          (record {
            plays = ok.plays;
            posts = ok.posts (place_of s.j out) (length-take-le (letter_head + s.j) out long);
          })

      module _ (q w : List ℕ) (to : ℕ)
          (c : Carried s.n s.j (take end r) p (take room out) t q w to) where
        done : Carried s.n s.j (row_of s.j r) p (place_of s.j out) t q w to
        done = rw (ee, er) at c

        row_is : row_of s.j (q ++ drop end r) ≡ q
        row_is = rw ee (front-is (row_width s.j) r q ok.words done.played.words)

        place_is : place_of s.j (w ++ drop room out) ≡ w
        place_is = rw er (front-is (letter_head + s.j) out w long done.posted.words)

        row_words : length (q ++ drop end r) ≡ length r
        row_words = rw ee (length_front r q (row_width s.j) done.played.words)

        place-words : length (w ++ drop room out) ≡ length out
        place-words = rw er (length_front out w (letter_head + s.j) done.posted.words)

        outcome : concluded s r p t out ≡ went_on a (own_box s r) t (letter_at p).records
        unfolding buffered
        outcome = rw e (goes (own_box s r) t (letter_at p).records t.answer _ (rw e at h))

        pub carried-out : Owned s (concluded s r p t out) r out
            (q ++ drop end r) (w ++ drop room out) a to
        carried-out =
            rw outcome
            (record {
              answer = refl;
              box = rw row_is done.played.box;
              receivers = done.posted.set;
              letter = rw place_is done.posted.letter;
              kept = λ f. absurd (both-no f (accepted-kept a h));
              quiet = λ z. rw er (front-back (letter_head + s.j) out w (done.posted.quiet z));
              past_row = rw ee (front-past (row_width s.j) r q ok.words
                  done.played.words);
              past-out = rw er (front-past (letter_head + s.j) out w long done.posted.words);
              row_words = row_words;
              out-words = place-words;
            })

        pub reads-again : StillReads s r (q ++ drop end r) (w ++ drop room out) to
        unfolding row_reads place_reads
        reads-again = record {
          row = λ f.
              and_both (le-leb (row_width s.j) _ (omega (arith, ok.words, row_words)))
              (rw row_is done.played.fits);
          letter = λ f.
              and_both (le-leb (letter_head + s.j) _ (omega (arith, long, place-words)))
              (rw place_is (done.posted.fits f s.j
              (length-take-le (letter_head + s.j) out long)));
        }
