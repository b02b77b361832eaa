-- A turn of a box by form can be carried out: its row can take it, and any place of the site what
-- it sends.
use mathlib.Core.Bool.{true, false}
use mathlib.Core.Path.{◌≡◌, refl, subst}
use mathlib.Core.List.{List}
use Prim.Native.Nat.{ℕ, ◌+◌, ◌-◌, ◌≤◌, ◌<◌}
use native.Mathlib.Omega.{arith}
use lib.ListN.{length, take, get_or, length-take, get_or-eq_default}
use lib.Dec.{ltb}
use borrow.Author.Tests.{ltb-true, ltb-false}
use Rattle.rules.specs.Sizes.{most_boxes, unknown, sizes_form}
use Rattle.rules.specs.Sets.{set_form}
use Rattle.rules.specs.Parts.{span}
use Rattle.rules.specs.Box.{Box, Event, enclosed, turn_of, brought}
use Rattle.laws.proofs.Types.{Kind, Out, Setting}
use Rattle.laws.proofs.Logic.{Or, left, right, In, All, All-head, decide}
use Rattle.laws.proofs.FormLaws.{Proper, proper-some, Peer, FormedBox, FormedKind}
use Rattle.laws.proofs.FormLaws.{sizes-says, box-made}
use Rattle.laws.proofs.TurnForm.{OutFits, Fits, EventFits, turn-fits}
use Rattle.letter.specs.Place.{letter_at, head_words as letter_head}
use Rattle.letter.specs.Lent.{enclosed_from, enclosed_count}
use Rattle.row.proofs.TurnLaws.{row-formed}
use Rattle.row.proofs.AfterLaws.{turn-numbered}
use Rattle.own.specs.Entry.{row_of, own_box}
use Rattle.own.specs.Lent.{Posts, Concludes}
use Rattle.own.proofs.FormLaws.{OwnRow}

-- ---- the row

-- No box has a number above n: nothing is known of it.
peers-above : {n J b : ℕ} {x : Box} → FormedBox n J b x → (k : ℕ) → n < k → k ≤ most_boxes
    → get_or x.head.peers (k - 1) 0 ≡ unknown
peers-above {n} {J} {b} {x} f k h m = go (f.peers k (omega arith, m))
  where
    go : Peer n b k (get_or x.head.peers (k - 1) 0) → get_or x.head.peers (k - 1) 0 ≡ unknown
    go (left e) = e
    go (right p) = absurd (omega (arith, p.0))

-- ---- the place

-- What is read past the end is no record.
proper-held : (rs : List ℕ) (l : ℕ) → Proper (get_or rs l 0) → l < length rs
proper-held rs l p = go (decide (ltb l (length rs)))
  where
    go : Or (ltb l (length rs) ≡ true) (ltb l (length rs) ≡ false) → l < length rs
    go (left e) = ltb-true l (length rs) e
    go (right e) =
        absurd (proper-some p (get_or-eq_default rs 0 (ltb-false l (length rs) e)))

-- The records that go with a mail by form are held, and at most J; its numbers can be counted.
module _ (J pn last first unagreed : ℕ) (rs : List ℕ) where
  abbrev agreed : ℕ
  agreed = span first last

  enclosed-held : (k : Kind)
      → FormedKind k J pn last first unagreed (length (enclosed k agreed rs))
      → All Proper (enclosed k agreed rs)
      → (enclosed_from k agreed + enclosed_count k agreed (length rs) ≤ length rs)
      × (enclosed_count k agreed (length rs) ≤ J)
      × (first ≤ last + 1)
  unfolding enclosed
  enclosed-held Kind.Collect f p = (omega arith, omega arith, omega (arith, f.no-first))
  enclosed-held Kind.Last f p = (omega arith, f.held.room, omega (arith, f.first.top))
  enclosed-held Kind.Begin f p =
      let h : agreed < length rs = proper-held rs agreed (All-head p) in
      (omega arith, f.fits, omega (arith, f.first.top))
  enclosed-held Kind.Accept f p = (omega arith, omega arith, omega (arith, f.no-first))
  enclosed-held Kind.Commit f p =
      let top : first ≤ last + 1 = omega (arith, f.first.top) in
      let l : length (take agreed rs) ≡ agreed = omega (arith, f.all-records) in
      (omega (arith, length-take agreed rs), omega (arith, f.room), top)
  enclosed-held Kind.Lease f p = (omega arith, omega arith, omega (arith, f.bare.no-first))
  enclosed-held Kind.LeaseAck f p = (omega arith, omega arith, omega (arith, f.bare.no-first))

posts : (n J : ℕ) (o : Out) (rs : List ℕ) → OutFits n J rs o → (q : List ℕ)
    → length q ≡ letter_head + J
    → Posts q o rs
posts n J Out.Nothing rs h q e = tt
posts n J (Out.To set m) rs h q e =
    let f = h.1 in
    let held = enclosed-held J _ m.last m.first _ rs m.kind f.kind f.records in
    record {
      numbered = record { last = f.last; first = held.2 };
      held = held.0;
      room = omega (arith, held.1);
    }

-- ---- the turn

pub concludes : (s : Setting) (r p : List ℕ) (e : Event) → sizes_form s.n s.j s.l ≡ true
    → OwnRow s r → In s.me s.n → set_form s.n s.present ≡ true → EventFits s e
    → brought e ≡ (letter_at p).records → Concludes s r p (turn_of s (own_box s r) e)
concludes s r p e sizes own me present fits same =
    let z = sizes-says sizes in
    let x = own_box s r in
    let t = turn_of s x e in
    let f = subst (λ (ms : List ℕ). Fits s.n s.j s.me x ms t) same
    (turn-fits s x e own.box z.few-boxes me present fits) in
    let row = row_of s.j r in
    let held = row-formed s row (own.by_form (omega (arith, me.1, z.few-boxes))) in
    record {
      words = own.long;
      plays = record {
        writes = record {
          J = s.j;
          words = held.booked.words;
          loads = z.few-loads;
          count = held.booked.count;
          book = f.book;
        };
        room = refl;
        boxes = z.few-boxes;
        five = f.box.places;
        above = peers-above f.box;
        fits = held.fits;
        before = held.booked.numbers;
        after = turn-numbered s.n s.j s.me row (letter_at p).records t held.booked
            f.book (box-made f.box);
      };
      posts = posts s.n s.j t.out _ f.out;
    }
