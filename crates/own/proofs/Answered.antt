-- The contracts can be met: some words are what the entries of `own` may give back.
use Prim.Native.Nat.{ℕ, zero, suc, ◌+◌, ◌≤◌}
use mathlib.Core.Path.{◌≡◌, refl, sym, subst}
use mathlib.Core.Bool.{true, false, ◌&&◌}
use mathlib.Core.List.{List}
use lib.Dec.{ltb}
use native.Mathlib.Numerals.{add-one}
use native.Mathlib.Omega.{arith}
use lib.ListN.{length, take, get_or, length-append, length-drop}
use lib.Seq.{length-take-le}
use Rattle.index.specs.Lent.{Indexed}
use Rattle.rules.specs.Answers.{is_accepted}
use Rattle.rules.specs.Box.{own, mail, turn_of}
use Rattle.rules.specs.Own.{OwnOutcome, told_needs}
use Rattle.rules.specs.Needs.{ruled}
use Rattle.rules.specs.Sizes.{sizes_form}
use Rattle.laws.specs.Frames.{ActFits}
use Rattle.laws.proofs.Types.{Act, Answer, Book, Out, Setting, Turn}
use Rattle.laws.proofs.Logic.{Or, left, right, decide, same?}
use Rattle.letter.specs.Place.{head_words as letter_head}
use Rattle.letter.proofs.EncloseLaws.{enclose_law}
use Rattle.row.specs.Row.{first_at, row_width, agreed_of, index_of}
use Rattle.row.specs.Lent.{RowBooked, Reindexed, records_of, Writes, Wrote, Plays, Played}
use Rattle.row.proofs.BookLaws.{keep_law, drop_law, put_law, take_law}
use Rattle.row.proofs.IndexLaws.{Entered, entered-some, entered-more, entered_all, clear_law}
use Rattle.row.proofs.IndexLaws.{release_all}
use Rattle.row.proofs.PlayLaws.{play_booked, play_writes, play_booked_again, play_index, play_law}
use Rattle.row.proofs.HeadLaws.{fresh_law, elect_law}
use Rattle.std.specs.Prelude.{⊤, Result, Ok, Err}
use Rattle.rules.specs.declared.model.Refusal.{Refusal}
use Rattle.own.specs.Entry.{own_box, own_letter, place_of, row_reads, place_reads, act_on, mail_on}
use Rattle.own.specs.Entry.{Owned, row_of, fresh_on, elected_on, Told}
use Rattle.own.specs.Lent.{Posts, Posted, Carries, Carried, Concludes, concluded, StillReads}
use Rattle.own.specs.Lent.{passed}
use Rattle.own.specs.Lent.{judged, elected_by}
use Rattle.own.proofs.FormLaws.{Asks, act-asks, mail-asks}
use Rattle.own.proofs.OrderLaws.{found, clear}
use Rattle.own.proofs.PostLaws.{nothing-sent, nobody, posted, held_after, carried}
use Rattle.own.proofs.OwnedLaws.{answer_in, still-there, stopped, can_carry, carried-out}
use Rattle.own.proofs.OwnedLaws.{reads-again}
use Rattle.own.proofs.ToldLaws.{untold, made-fresh, not-elected, was-elected, both_boxes}
use Rattle.own.proofs.ToldLaws.{elected-found, elect-lent}
use Rattle.own.proofs.EntryLaws.{refused, no_mail, mail-fits, turn-concludes, turn-owned}

-- ---- the records, the row, the place

wrote : (r p : List ℕ) (b : Book) → Writes r p b → (s : List ℕ) × Wrote r p b s
wrote r p Book.Keep w = (r, keep_law r p)
wrote r p (Book.Drop d) w = (_, drop_law r p d _ w refl)
wrote r p (Book.Put d a v) w = (_, put_law r p d a v _ w refl)
wrote r p (Book.Take d a b e) w = (_, take_law r p d a b e _ w refl)

-- Of the agreed records, none of them in the index, the first i enter it, ..
entered : (J : ℕ) (r : List ℕ) → RowBooked J r
    → Indexed 0 (get_or r first_at 0) (take 0 (agreed_of r)) (index_of J r)
    → (i : ℕ) → i ≤ length (agreed_of r) → (q : List ℕ) × Entered J r i q
entered J r ok none zero h = (r, entered-some J r ok 0 h none)
entered J r ok none (suc i) h =
    let l = entered J r ok none i (omega arith) in
    subst (λ (m : ℕ). (q : List ℕ) × Entered J r m q) (add-one i) (
      _,
      entered-more J r ok i (get_or r first_at 0 + i) l.0 l.1 (omega arith) refl _ refl,
    )

-- .. and so all.
all-entered : (J : ℕ) (r : List ℕ) → RowBooked J r
    → Indexed 0 (get_or r first_at 0) (take 0 (agreed_of r)) (index_of J r)
    → (q : List ℕ) × Reindexed J 0 (get_or r first_at 0) (agreed_of r) r q
all-entered J r ok none =
    let n = length (agreed_of r) in
    let l = entered J r ok none n (omega arith) in
    (l.0, entered_all J r ok n l.0 l.1 (omega arith))

-- All leave the index, the book is written, the head stored, and all that are agreed then enter it.
played : (n J : ℕ) (r p : List ℕ) (t : Turn) → Plays n J r p t → (q : List ℕ) × Played n J r p t q
played n J r p t ok =
    let booked = play_booked n J r p t ok in
    let out = release_all J r booked t.book t.next.kept.first t.next.kept.last
    ok.after.one _ (clear_law J r booked.words _ refl) in
    let w = wrote _ p t.book (play_writes n J r p t ok 0 _ out) in
    let again = play_booked_again n J r p t ok 0 _ out w.0 _ _ refl w.1 refl in
    let all = all-entered J _ again
    (play_index n J r p t ok 0 _ out w.0 _ _ refl w.1 refl) in
    (all.0, play_law n J r p t ok 0 _ out w.0 _ _ refl w.1 refl all.0 all.1)

sends : (p : List ℕ) (o : Out) (rs : List ℕ) → Posts p o rs
    → (q : List ℕ) × (to : ℕ) × Posted p o rs q to
sends p Out.Nothing rs h = (p, 0, nothing-sent p rs)
sends p (Out.To to m) rs h = go (same? to 0)
  where
    go : Or (to ≡ 0) (to ≡ 0 → ⊥) → (q : List ℕ) × (k : ℕ) × Posted p (Out.To to m) rs q k
    go (left e) = (p, to, nobody p rs m to e)
    go (right some) =
        (_, to, posted p rs m to _ some (enclose_law p m rs h _ _ _ _ refl refl refl refl))

carries : (n J : ℕ) (r p out : List ℕ) (t : Turn) → Carries n J r p out t
    → (r' : List ℕ) × (out' : List ℕ) × (to : ℕ) × Carried n J r p out t r' out' to
carries n J r p out t ok =
    let q = played n J r p t ok.plays in
    let w = sends out t.out (records_of q.0)
    (subst (Posts out t.out) (sym (held_after n J r p t ok.plays q.0 q.1))
    ok.posts) in
    (q.0, w.0, w.1, carried n J r p t ok.plays q.0 q.1 out _ w.0 w.1 refl w.2)

-- ---- the turn

-- what a call with this outcome may give back: the row, the place, the answer and the set
pub record Given (s : Setting) (o : OwnOutcome) (r out : List ℕ) : Type 0 where
  pub row : List ℕ
  pub place : List ℕ
  pub answer : Answer
  pub to : ℕ
  pub owned : Owned s o r out row place answer to
  pub reads : StillReads s r row place to

concludes : (s : Setting) (r p out : List ℕ) (t : Turn) → Concludes s r p t
    → Given s (concluded s r p t out) r out
concludes s r p out t ok = go (decide (is_accepted a))
  where
    a : Answer
    a = answer_in t.answer (ltb (length out) (letter_head + s.j))

    go : Or (is_accepted a ≡ true) (is_accepted a ≡ false) → Given s (concluded s r p t out) r out
    go (right not) = record {
      row = r;
      place = out;
      answer = a;
      to = 0;
      owned = stopped s r p out t a refl not;
      reads = still-there s r out;
    }
    go (left on) =
        let c = carries s.n s.j _ p _ t
        (can_carry s r p out t a refl on ok (row_width s.j) (letter_head + s.j) refl refl) in
        record {
          row = _;
          place = _;
          answer = a;
          to = c.2;
          owned = carried-out s r p out t a refl on ok (row_width s.j) (letter_head + s.j) refl
              refl c.0 c.1 c.2 c.3;
          reads = reads-again s r p out t a refl on ok (row_width s.j) (letter_head + s.j) refl
              refl c.0 c.1 c.2 c.3;
        }

-- 13, 1 or 2 is found, or the turn is concluded
module _ (s : Setting) (r out : List ℕ) where
  pub act-given : (a : Act) → ActFits a → Given s (act_on s r a out) r out
  act-given a fits = go (found asks) refl
    where
      asks : Asks s r no_mail false (own a) (row_reads s.j r)
      asks = act-asks s r no_mail a

      go : (v : Result ⊤ Refusal) → found asks ≡ v → Given s (act_on s r a out) r out
      go (Err why) h =
          let k = refused {out = out} {to = 0} asks h (refl, refl) in
          record { row = r; place = out; answer = _; to = 0; owned = k.0; reads = k.1 }
      go (Ok tt) h =
          let ok = clear asks h in
          let c = concludes s r no_mail out (turn_of s (own_box s r) (own a))
          (turn-concludes ok no_mail refl refl fits) in
          record {
            row = c.row;
            place = c.place;
            answer = c.answer;
            to = c.to;
            owned = turn-owned ok no_mail refl refl c.owned;
            reads = c.reads;
          }

  pub mail-given : (sender : ℕ) (p : List ℕ) → Given s (mail_on s r sender p out) r out
  mail-given sender p = go (found asks) refl
    where
      asks : Asks s r p true (mail sender (own_letter s p))
          (row_reads s.j r && place_reads s.j p)
      asks = mail-asks s r p sender

      go : (v : Result ⊤ Refusal) → found asks ≡ v → Given s (mail_on s r sender p out) r out
      go (Err why) h =
          let k = refused {out = out} {to = 0} asks h (refl, refl) in
          record { row = r; place = out; answer = _; to = 0; owned = k.0; reads = k.1 }
      go (Ok tt) h =
          let ok = clear asks h in
          let q = place_of s.j p in
          let c = concludes s r q out (turn_of s (own_box s r) (mail sender (own_letter s p)))
          (turn-concludes ok q refl refl (mail-fits ok)) in
          record {
            row = c.row;
            place = c.place;
            answer = c.answer;
            to = c.to;
            owned = turn-owned ok q refl refl c.owned;
            reads = c.reads;
          }

-- ---- it is started, and told of an election

pub fresh-given : (n J L : ℕ) (r : List ℕ) → sizes_form n J L ≡ true → row_width J ≤ length r
    → (q : List ℕ) × Told n J (fresh_on n J L r) r q Answer.Done
fresh-given n J L r sizes long = (
  _,
  made-fresh n J L r sizes long (row_width J) refl _
      (λ m few. fresh_law m J (row_of J r) words few _ _ refl
      (clear_law J _ (simp (length-append, length-drop) (omega (arith, words))) _ refl)),
)
  where
    words : length (row_of J r) ≡ row_width J
    words = length-take-le (row_width J) r long

pub elected-given : (s : Setting) (r : List ℕ) (c : ℕ)
    → (q : List ℕ) × (a : Answer) × Told s.n s.j (elected_on s r c) r q a
elected-given s r c = go (judged s r no_mail false (both_boxes s r no_mail c)) refl
  where
    now-elected : judged s r no_mail false (both_boxes s r no_mail c) ≡ passed
        → (v : Result ⊤ Refusal)
        → ruled Err (told_needs s c) passed ≡ v
        → (q : List ℕ) × (a : Answer) × Told s.n s.j (elected_by s (own_box s r) c) r q a
    now-elected h (Err why) g = (r, Answer.Refused why, not-elected s r c g)
    now-elected h (Ok tt) g =
        let lent = elect-lent s r no_mail c h in (
          _,
          Answer.Done,
          was-elected s r c g lent (row_width s.j) refl _
              (elect_law s c (row_of s.j r) lent.by_form _ _ _ _ refl refl refl refl),
        )

    go : (v : Result ⊤ Refusal) → judged s r no_mail false (both_boxes s r no_mail c) ≡ v
        → (q : List ℕ) × (a : Answer) × Told s.n s.j (elected_on s r c) r q a
    go (Err why) h = (
      r,
      Answer.Refused why,
      untold s.n s.j r (elected_on s r c) why (sym (elected-found s r no_mail c h)),
    )
    go (Ok tt) h =
        let t = now-elected h (ruled Err (told_needs s c) passed) refl in (
          t.0,
          t.1,
          subst (λ (o : OwnOutcome). Told s.n s.j o r t.0 t.1)
              (elected-found s r no_mail c h) t.2,
        )
