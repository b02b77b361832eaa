-- A turn of a box by form gives a box by form, a change of the book that fits, and letters by form.
use Prim.Native.Nat.{ℕ, ◌+◌, ◌≤◌, ◌<◌, max, min}
use mathlib.Core.Path.{◌≡◌, refl}
use mathlib.Core.Bool.{true}
use mathlib.Core.List.{List, []}
use native.Mathlib.Omega.{arith}
use lib.Dec.{ltb}
use lib.ListN.{length, get_or, take, length-take}
use borrow.Author.Tests.{ltb-true, leb-true, le-leb, lt-ltb}
use Rattle.std.specs.Prelude.{Option}
use Rattle.rules.specs.Sizes.{most_boxes, most_number, most_pn, record_of, left_of, right_of}
use Rattle.rules.specs.Sizes.{proper}
use Rattle.rules.specs.Sets.{set_form, bit}
use Rattle.rules.specs.NewPn.{new_pn}
use Rattle.rules.specs.Turns.{settled, still, mail_of, mail_from}
use Rattle.rules.specs.Parts.{others, span, higher, took_kept, took_book}
use Rattle.rules.specs.Last.{noted, told, lagging, raised, counted, uncounted, replied, on_last}
use Rattle.rules.specs.Mails.{unagreed_of, on_collect, on_begin, on_accept, on_commit, on_lease}
use Rattle.rules.specs.Mails.{on_lease_ack, of_kind, on_mail}
use Rattle.rules.specs.Steps.{recover, collect, started, leased, has_previous, can_ready, ready}
use Rattle.rules.specs.Steps.{offer, can_propose, propose, can_agree, agree, finish, lease_heard}
use Rattle.rules.specs.Steps.{trim}
use Rattle.rules.specs.Steps.{acted}
use Rattle.rules.specs.Box.{Box, Letter, Event, own, mail, mine, next_of, written, enclosed}
use Rattle.rules.specs.Box.{BookFits, letter_of, turn_of, turned, brought}
use Rattle.laws.specs.Frames.{ActFits}
use Rattle.laws.proofs.Types.{Act, Answer, BoxState, Kept, Kind, Out, Refusal, Setting}
use Rattle.laws.proofs.Types.{Turn, Verdict}
use Rattle.laws.proofs.Logic.{Or, left, right, In, nil, cons, All-at, All-take, and_yes}
use Rattle.laws.proofs.Logic.{and_both, pick_elim}
use Rattle.laws.proofs.SetLaws.{set-bit, set-joined, set-without, set-and}
use Rattle.laws.proofs.FormLaws.{Proper, FormedFirst, FormedBox, Bare, FormedLease}
use Rattle.laws.proofs.FormLaws.{FormedKind, FormedLetter}
use Rattle.laws.proofs.View.{store, at, Spans, last-spans, commit-spans, held_elim}
use Rattle.laws.proofs.View.{higher-max, stored, Raises, raises-none, raises-to, raises-trim}
use Rattle.laws.proofs.View.{stored_next}
use Rattle.laws.proofs.StepLaws.{by-verdict}
use Rattle.laws.proofs.Conditions.{go-unless, Room, room-next, room_where, go-last, go-begin}
use Rattle.laws.proofs.Conditions.{can-propose, can-agree, can-trim, has-previous}
use Rattle.laws.proofs.StoreForm.{is-held, KeptForm, kept-shaped, under-form, promised-form}
use Rattle.laws.proofs.StoreForm.{agreed-form, trimmed-form, stored-form, stored-fits}
use Rattle.laws.proofs.StoreForm.{took-form, took-fits, BestForm, cleared-form}
use Rattle.laws.proofs.StoreForm.{best-held-form, bettered-form, PeersForm, unknown-form}
use Rattle.laws.proofs.StoreForm.{noted-form, kept-part, best-part, peers-part, box-of}

-- ---- a turn that fits

-- what is sent, with its records of rs, goes to boxes of the site and is by form
abbrev pub OutFits : ℕ → ℕ → List ℕ → Out → Type 0
OutFits n J rs Out.Nothing = Unit {0}
OutFits n J rs (Out.To set m) = (set_form n set ≡ true) × FormedLetter J (letter_of m rs)

pub record Fits (n J c : ℕ) (x : Box) (ms : List ℕ) (t : Turn) : Type 0 where
  pub box : FormedBox n J c (turned x t ms)
  pub book : BookFits J x.records ms t.book
  pub out : OutFits n J (turned x t ms).records t.out
  pub leads : t.next.leads ≡ x.head.leads

-- a mail without records
bare : {J : ℕ} (k : Kind) (pn last : ℕ) (rs : List ℕ) → enclosed k (span 0 last) rs ≡ []
    → FormedKind k J pn last 0 0 0
    → pn ≤ most_pn → last ≤ most_number → FormedLetter J (letter_of (mail_of k pn last 0) rs)
bare k pn last rs e f p l = record {
  kind = rw e f;
  records = rw e nil;
  pn = p;
  unagreed = omega arith;
  last = l;
}

nothing : Bare 0 0 0
nothing = record { no-records = refl; no-unagreed = refl; no-first = refl }

nothing-promised : FormedLease 0 0 0 0
nothing-promised = record { bare = nothing; no-pn = refl }

-- a Commit of the records of first to last
commit-letter : {J : ℕ} {k : Kept} {rs : List ℕ} (pn : ℕ) → KeptForm J k rs → pn ≤ most_pn
    → FormedLetter J (letter_of (mail_from k.first Kind.Commit pn k.last 0) rs)
unfolding enclosed
commit-letter {J} {k} {rs} pn f p = record {
  kind = record {
    first = f.first;
    all-records = omega (arith, size, f.first.top, f.held.all);
    room = omega (arith, size, f.held.room);
    no-unagreed = refl;
  };
  records = All-take (span k.first k.last) f.records;
  pn = p;
  unagreed = omega arith;
  last = f.last;
}
  where
    size : length (take (span k.first k.last) rs)
        ≡ min (span k.first k.last) (length rs)
    size = length-take (span k.first k.last) rs

-- two frame numbers of 32 bits, neither 0
pair-proper : (l r : ℕ) → 0 < l → l < 4294967296 → 0 < r → r < 4294967296 → Proper (record_of l r)
unfolding proper
pair-proper l r hl ll hr lr =
    let a : left_of (record_of l r) ≡ l = omega arith in
    let b : right_of (record_of l r) ≡ r = omega arith in
    and_both
    (and_both (le-leb 1 (left_of (record_of l r)) (omega arith))
    (lt-ltb (left_of (record_of l r)) 4294967296 (omega arith)))
    (le-leb 1 (right_of (record_of l r)) (omega arith))

-- some record, and so a proper one
some-proper : {r : ℕ} → Or (r ≡ 0) (Proper r) → (r ≡ 0 → ⊥) → Proper r
some-proper (left e) some = absurd (some e)
some-proper (right p) some = p

module _ (s : Setting) (x : Box) (f : FormedBox s.n s.j s.me x) (few : s.n ≤ most_boxes)
    (me : In s.me s.n) (present : set_form s.n s.present ≡ true) where
  k : KeptForm s.j x.head.kept x.records
  k = kept-part f

  abbrev Good : List ℕ → Turn → Type 0
  Good ms t = Fits s.n s.j s.me x ms t

  -- nothing happens
  pub still-fits : (ms : List ℕ) (a : Answer) → Good ms (still x.head a)
  unfolding written
  still-fits ms a = record {
    box = box-of k (best-part f) f.answered f.accepts f.heard f.waiting f.agreeing
        (peers-part f);
    book = tt;
    out = tt;
    leads = refl;
  }

  settled-fits : (ms : List ℕ) (v : Verdict) (t : Turn) → (v ≡ Verdict.Go → Good ms t)
      → Good ms (settled x.head v t)
  settled-fits ms v t go = by-verdict (Good ms) x.head v t (still-fits ms) go

  others-form : set_form s.n (others s) ≡ true
  unfolding others
  others-form = set-without s.n s.present s.me present

  -- ---- steps

  recover-fits : Good [] (recover x.head s)
  unfolding recover written
  recover-fits =
      settled-fits [] _ _
      (λ go. let room = (go-unless _ _ _ (go-unless _ _ _ go).1).0 in
      record {
        box = box-of
            (promised-form k (new_pn x.head.kept.pn s.me) (leb-true _ _ room))
            (best-part f) f.answered f.accepts f.heard f.waiting f.agreeing
            (peers-part f);
        book = tt;
        out = tt;
        leads = refl;
      })

  collect-fits : Good [] (collect x.head s (mine x))
  unfolding collect written enclosed
  collect-fits =
      settled-fits [] _ _
      (λ go. record {
        box = box-of k (best-held-form k) (set-bit s.n s.me few me) f.accepts f.heard
            f.waiting f.agreeing (unknown-form s.n s.me);
        book = tt;
        out = (
          others-form,
          bare Kind.Collect _ _ x.records refl nothing k.pn k.last,
        );
        leads = refl;
      })

  -- last+1 holds r, which is proper; b is the head with other fields, of which form is asked anew
  started-fits : (b : BoxState) (r : ℕ) → b.kept ≡ x.head.kept → BestForm b.best
      → set_form s.n b.answered ≡ true → set_form s.n b.heard ≡ true
      → Or (b.waiting ≡ 0) (Proper b.waiting) → PeersForm s.n s.me b.peers
      → b.leads ≡ x.head.leads
      → Room s.j x.head.kept.first x.head.kept.last → Proper r
      → Good [] (started b s r)
  unfolding started written enclosed
  started-fits b r e best answered heard waiting peers leads room p = record {
    box = box-of
        (rw e (stored-form k none k.first x.head.kept.pn r k.pn room p))
        best answered (set-bit s.n s.me few me) heard waiting (right p) peers;
    book = rw e (stored-fits k none k.first r [] room);
    out = rw e (
      others-form,
      record {
        kind = record {
          first = k.first;
          one_record = refl;
          fits = one;
          room = room.number;
          no-unagreed = refl;
        };
        records = rw here (cons p nil);
        pn = k.pn;
        unagreed = omega arith;
        last = k.last;
      },
    );
    leads = leads;
  }
    where
      none : Raises (store x) 0 x.head.kept.first
      none = raises-none (store x) (kept-shaped k)

      one : 1 ≤ s.j
      one = omega (arith, room.records, none.top)

      here : at (stored 0 x.head.kept.first x.head.kept.pn r (store x))
          (x.head.kept.last + 1) ≡ r
      here = stored_next (store x) (kept-shaped k) none x.head.kept.pn r

  leased-fits : (b : BoxState) → b.kept ≡ x.head.kept → BestForm b.best
      → set_form s.n b.answered ≡ true
      → set_form s.n b.accepts ≡ true → Or (b.waiting ≡ 0) (Proper b.waiting)
      → Or (b.agreeing ≡ 0) (Proper b.agreeing) → PeersForm s.n s.me b.peers
      → b.leads ≡ x.head.leads → Good [] (leased b s)
  unfolding leased written enclosed
  leased-fits b e best answered accepts waiting agreeing peers leads = record {
    box = box-of (rw e k) best answered accepts (set-bit s.n s.me few me) waiting agreeing
        peers;
    book = tt;
    out = rw e (
      others-form,
      bare Kind.Lease 0 _ x.records refl nothing-promised (omega arith) k.last,
    );
    leads = leads;
  }

  ready-fits : Good [] (ready x.head s)
  unfolding ready
  ready-fits =
      settled-fits [] _ _
      (λ go. let asked = (go-unless _ _ _ (go-unless (can_ready x.head s) _ _ go).1).0 in
      pick_elim (Good []) (has_previous x.head)
      (λ e. let p = has-previous x.head e in
      started-fits _ _ refl (best-part f) f.answered f.heard f.waiting
      (unknown-form s.n s.me) refl
      (room_where s.j x.head.kept.first x.head.kept.last e asked)
      (some-proper f.best p.1))
      (λ e. leased-fits _ refl (best-part f) f.answered f.accepts f.waiting f.agreeing
      (unknown-form s.n s.me) refl))

  offer-fits : (l r : ℕ) → l < 4294967296 → r < 4294967296 → Good [] (offer x.head s l r)
  unfolding offer written
  offer-fits l r hl hr =
      settled-fits [] _ _
      (λ go. let p = and_yes _ _ (go-unless _ _ _ go).0 in
      record {
        box = box-of k (best-part f) f.answered f.accepts f.heard
            (right (pair-proper l r (ltb-true 0 l p.0) hl (ltb-true 0 r p.1) hr))
            f.agreeing (peers-part f);
        book = tt;
        out = tt;
        leads = refl;
      })

  propose-fits : Good [] (propose x.head s)
  unfolding propose
  propose-fits =
      settled-fits [] _ _
      (λ go. let p = go-unless (can_propose x.head s) Refusal.Condition _ go in
      let q = go-unless _ _ _ p.1 in
      started-fits _ _ refl (best-part f) f.answered f.heard (left refl) (peers-part f) refl
      (room-next s.j x.head.kept.first x.head.kept.last q.0)
      (some-proper f.waiting (can-propose p.0).1))

  agree-fits : Good [] (agree x.head s (mine x))
  unfolding agree written
  agree-fits =
      settled-fits [] _ _
      (λ go. let can = can-agree (go-unless (can_agree x.head s (mine x)) Refusal.Condition
      Verdict.Go go).0 in
      let agreed = agreed-form k (is-held _ _ can.held) in
      record {
        box = box-of agreed (best-part f) f.answered f.accepts f.heard f.waiting
            (left refl) (peers-part f);
        book = tt;
        out = (others-form, commit-letter x.head.kept.pn agreed k.pn);
        leads = refl;
      })

  finish-fits : Good [] (finish x.head s)
  unfolding finish
  finish-fits =
      settled-fits [] _ _
      (λ go. leased-fits _ refl (best-part f) f.answered f.accepts f.waiting f.agreeing
      (peers-part f) refl)

  heard-fits : Good [] (lease_heard x.head s)
  unfolding lease_heard written
  heard-fits =
      settled-fits [] _ _
      (λ go. record {
        box = box-of k (best-part f) f.answered f.accepts f.heard f.waiting
            f.agreeing (peers-part f);
        book = tt;
        out = tt;
        leads = refl;
      })

  trim-fits : (n : ℕ) → Good [] (trim x.head s n)
  unfolding trim written
  trim-fits n =
      settled-fits [] _ _
      (λ go. let can = can-trim {b = x.head} (go-unless _ _ _ go).0 in
      let up = raises-trim (store x) (kept-shaped k) n can.above can.agreed in
      record {
        box = box-of
            (trimmed-form k up
            (record { some = omega (arith, can.above); top = omega (arith, can.agreed) }))
            (best-part f) f.answered f.accepts f.heard f.waiting f.agreeing
            (peers-part f);
        book = omega (arith, up.by, up.top, k.held.all);
        out = tt;
        leads = refl;
      })

  pub act-fits : (a : Act) → ActFits a → Good [] (acted a x.head s (mine x))
  unfolding acted
  act-fits Act.Recover h = recover-fits
  act-fits Act.Collect h = collect-fits
  act-fits Act.Ready h = ready-fits
  act-fits (Act.Offer l r) h = offer-fits l r h.0 h.1
  act-fits Act.Propose h = propose-fits
  act-fits Act.Agree h = agree-fits
  act-fits Act.Finish h = finish-fits
  act-fits Act.Heard h = heard-fits
  act-fits (Act.Trim n) h = trim-fits n

  -- ---- mail

  module _ (a : ℕ) (from : In a s.n) (other : a ≡ s.me → ⊥) (y : Letter)
      (g : FormedLetter s.j y) where
    abbrev Heard : Turn → Type 0
    Heard t = Good y.records t

    abbrev Kinded : Kind → Type 0
    Kinded kind =
        FormedKind kind s.j y.head.pn y.head.last y.head.first y.head.unagreed
        (length y.records)

    reply-form : set_form s.n (bit a) ≡ true
    reply-form = set-bit s.n a few from

    collect-heard : Heard (on_collect x.head a y.head (mine x))
    unfolding on_collect written enclosed unagreed_of
    collect-heard =
        settled-fits _ _ _
        (λ go. record {
          box = box-of (promised-form k _ pn) (best-part f) f.answered f.accepts f.heard
              f.waiting f.agreeing (peers-part f);
          book = tt;
          out = (
            reply-form,
            record {
              kind = record { first = k.first; held = k.held; under = under };
              records = k.records;
              pn = pn;
              unagreed = unagreed;
              last = k.last;
            },
          );
          leads = refl;
        })
      where
        pn : max x.head.kept.pn y.head.pn ≤ most_pn
        pn = omega (arith, k.pn, g.pn)

        unagreed : unagreed_of x.head.kept (mine x) ≤ most_pn
        unagreed =
            held_elim (λ (h : Option ℕ). unagreed_of x.head.kept h ≤ most_pn) x.records
            (span x.head.kept.first x.head.kept.last)
            (λ h. under-form k)
            (λ h. omega arith)

        under : Or (unagreed_of x.head.kept (mine x) ≡ 0)
            (x.head.kept.first + length x.records ≡ x.head.kept.last + 2)
        under =
            held_elim (λ (h : Option ℕ). Or (unagreed_of x.head.kept h ≡ 0)
            (x.head.kept.first + length x.records ≡ x.head.kept.last + 2))
            x.records (span x.head.kept.first x.head.kept.last)
            (λ h. right (omega (arith, h, k.first.top, k.held.next)))
            (λ h. left refl)

    accept-heard : Heard (on_accept x.head a y.head)
    unfolding on_accept written
    accept-heard =
        settled-fits _ _ _
        (λ go. record {
          box = box-of k (best-part f) f.answered
              (set-joined s.n x.head.accepts a few f.accepts from)
              f.heard f.waiting f.agreeing (peers-part f);
          book = tt;
          out = tt;
          leads = refl;
        })

    lease-heard : Heard (on_lease x.head a y.head)
    unfolding on_lease written enclosed
    lease-heard =
        settled-fits _ _ _
        (λ go. record {
          box = box-of k (best-part f) f.answered f.accepts f.heard f.waiting
              f.agreeing (peers-part f);
          book = tt;
          out = (
            reply-form,
            bare Kind.LeaseAck 0 _ x.records refl nothing-promised (omega arith) k.last,
          );
          leads = refl;
        })

    lease-ack-heard : Heard (on_lease_ack x.head a)
    unfolding on_lease_ack written
    lease-ack-heard =
        settled-fits _ _ _
        (λ go. record {
          box = box-of k (best-part f) f.answered f.accepts
              (set-joined s.n x.head.heard a few f.heard from)
              f.waiting f.agreeing (peers-part f);
          book = tt;
          out = tt;
          leads = refl;
        })

    -- the lasts are the same, and so first is raised to no more than last+1
    begin-heard : Kinded Kind.Begin
        → Heard (on_begin x.head s a y.head (get_or y.records 0 0))
    unfolding on_begin written enclosed
    begin-heard h =
        settled-fits _ _ _
        (λ go. let taken = go-begin {b = x.head} {s = s} {m = y.head} go in
        let up = raises-to (store x) (kept-shaped k) y.head.first
        (omega (arith, h.first.top, taken.place)) in
        let low = low-form h.first taken.place in
        record {
          box = box-of
              (stored-form k up low y.head.pn _ g.pn taken.room
              (All-at g.records 0 0 (omega (arith, h.one_record))))
              (best-part f) f.answered f.accepts f.heard f.waiting f.agreeing
              (peers-part f);
          book = stored-fits k up low (get_or y.records 0 0) y.records taken.room;
          out = (reply-form, bare Kind.Accept _ _ x.records refl nothing g.pn k.last);
          leads = refl;
        })
      where
        low-form : FormedFirst y.head.first y.head.last
            → x.head.kept.last ≡ y.head.last
            → FormedFirst (higher x.head.kept.first y.head.first) x.head.kept.last
        low-form l e = let is = higher-max x.head.kept.first y.head.first in record {
          some = omega (arith, is, l.some);
          top = omega (arith, is, l.top, e, k.first.top);
        }

    -- records are taken
    module _ (low : FormedFirst y.head.first y.head.last)
        (sent : Spans y.head.first y.head.last y.records)
        (room : length y.records ≤ s.j) where
      took-fit : BookFits s.j x.records y.records
          (took_book y.head.first y.head.last x.head.kept)
      took-fit = took-fits k y.head.first y.head.last y.records g.last low sent room

      took : KeptForm s.j (took_kept y.head.first y.head.last x.head.kept)
          (written (took_book y.head.first y.head.last x.head.kept) x.records
          y.records)
      took =
          took-form k y.head.first y.head.last y.records g.last low sent room
          g.records

    commit-heard : Kinded Kind.Commit → Heard (on_commit x.head y.head)
    unfolding on_commit
    commit-heard h =
        settled-fits _ _ _
        (λ go. record {
          box = box-of (took h.first (commit-spans h) h.room)
              (cleared-form _ _ (best-part f))
              f.answered f.accepts f.heard f.waiting f.agreeing (peers-part f);
          book = took-fit h.first (commit-spans h) h.room;
          out = tt;
          leads = refl;
        })

    lagging-set : (peers : List ℕ) (last : ℕ) → set_form s.n (lagging peers last s) ≡ true
    unfolding lagging
    lagging-set peers last = set-and s.n (others s) _ others-form

    replied-leads : (replied (told x.head a y.head) s.me a y.head
        (next_of y)).leads ≡ x.head.leads
    unfolding replied raised counted uncounted told
    replied-leads =
        pick_elim (λ (b : BoxState). b.leads ≡ x.head.leads) _ (λ e. refl)
        (λ e. pick_elim (λ (b : BoxState). b.leads ≡ x.head.leads) _ (λ d. refl) (λ d. refl))

    -- what Last makes of the box, once it is told
    replied-form : (rs : List ℕ) → KeptForm s.j (told x.head a y.head).kept rs
        → Kinded Kind.Last
        → (ltb (told x.head a y.head).kept.pn y.head.pn ≡ true
        → new_pn y.head.pn s.me ≤ most_pn)
        → FormedBox s.n s.j s.me
        (record {
          head = replied (told x.head a y.head) s.me a y.head (next_of y);
          records = rs;
        })
    unfolding replied raised counted uncounted told
    replied-form rs t h fits =
        pick_elim Boxed _
        (λ e. box-of (promised-form t _ (fits e)) (cleared-form _ _ (best-part f))
        f.answered f.accepts f.heard f.waiting f.agreeing noted-peers)
        (λ e. pick_elim Boxed _
        (λ d. box-of t (bettered-form _ _ y.head y.records (best-part f) g.last
        h.first h.held g.records g.unagreed)
        (set-joined s.n x.head.answered a few f.answered from) f.accepts f.heard
        f.waiting f.agreeing noted-peers)
        (λ d. box-of t (cleared-form _ _ (best-part f))
        f.answered f.accepts f.heard f.waiting f.agreeing noted-peers))
      where
        Boxed : BoxState → Type 0
        Boxed b = FormedBox s.n s.j s.me (record { head = b; records = rs })

        noted-peers : PeersForm s.n s.me (noted x.head.peers a y.head.last)
        noted-peers = noted-form x.head.peers a y.head.last (peers-part f) from few other
            g.last

    last-heard : Kinded Kind.Last → Heard (on_last x.head s a y.head (next_of y))
    unfolding on_last told took_kept
    last-heard h =
        settled-fits _ _ _
        (λ go. let taken = go-last {b = x.head} {s = s} {m = y.head} go in
        let all = took h.first (last-spans h) h.held.room in
        record {
          box = replied-form _ all h
              (λ e. fits taken.new (ltb-true x.head.kept.pn y.head.pn e));
          book = took-fit h.first (last-spans h) h.held.room;
          out = (lagging-form, commit-letter x.head.kept.pn all k.pn);
          leads = leads-on;
        })
      where
        fits : Or (y.head.pn ≤ x.head.kept.pn) (new_pn y.head.pn s.me ≤ most_pn)
            → x.head.kept.pn < y.head.pn → new_pn y.head.pn s.me ≤ most_pn
        fits (left e) d = absurd (omega arith)
        fits (right e) d = e

        lagging-form : set_form s.n (lagging (noted x.head.peers a y.head.last)
            (took_kept y.head.first y.head.last x.head.kept).last s) ≡ true
        lagging-form = lagging-set _ _

        leads-on : (replied (told x.head a y.head) s.me a y.head (next_of y)).leads
            ≡ x.head.leads
        leads-on = replied-leads

    pub mail-fits : Heard (turn_of s x (mail a y))
    unfolding on_mail of_kind
    mail-fits = settled-fits _ _ _ (λ go. of-kind y.head.kind g.kind)
      where
        of-kind : (kind : Kind) → Kinded kind
            → Heard (of_kind kind x.head s a y.head (get_or y.records 0 0) (next_of y)
            (mine x))
        of-kind Kind.Collect h = collect-heard
        of-kind Kind.Last h = last-heard h
        of-kind Kind.Begin h = begin-heard h
        of-kind Kind.Accept h = accept-heard
        of-kind Kind.Commit h = commit-heard h
        of-kind Kind.Lease h = lease-heard
        of-kind Kind.LeaseAck h = lease-ack-heard

-- what an event must be for a turn: frame numbers of 32 bits, a letter by form from another box
abbrev pub EventFits : Setting → Event → Type 0
EventFits s (own a) = ActFits a
EventFits s (mail a y) = (In a s.n) × (a ≡ s.me → ⊥) × FormedLetter s.j y

pub turn-fits : (s : Setting) (x : Box) (e : Event) → FormedBox s.n s.j s.me x
    → s.n ≤ most_boxes
    → In s.me s.n → set_form s.n s.present ≡ true → EventFits s e
    → Fits s.n s.j s.me x (brought e) (turn_of s x e)
turn-fits s x (own a) f few me present h = act-fits s x f few me present a h
turn-fits s x (mail a y) f few me present h = mail-fits s x f few me present a h.0 h.1 y
    h.2
