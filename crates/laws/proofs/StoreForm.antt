-- By form, part by part: what a box keeps with its records, the best, the peers. Each change that a
-- rule makes of a part keeps it.
use Prim.Native.Nat.{ℕ, zero, suc, ◌+◌, ◌-◌, ◌≤◌, ◌<◌, max}
use mathlib.Core.Path.{◌≡◌, refl, sym, ◌∙◌}
use mathlib.Core.Bool.{true, ◌&&◌}
use mathlib.Core.List.{List, [], ◌∷◌, ◌++◌}
use native.Mathlib.Omega.{arith}
use lib.Dec.{eqb, leb, ltb}
use lib.ListN.{length, get_or, set, take, drop, length-drop, length-set}
use lib.Seq.{get_or-set_same, get_or-set_other}
use Rattle.std.specs.Prelude.{Option, is_some}
use Rattle.rules.specs.Sizes.{most_boxes, most_number, most_pn, unknown}
use Rattle.rules.specs.Sets.{set_form}
use Rattle.rules.specs.Fields.{promised, lasting, keeping, storing}
use Rattle.rules.specs.Parts.{all_unknown, under_of, span, higher, took_kept, took_book}
use Rattle.rules.specs.Parts.{none}
use Rattle.rules.specs.Parts.{cleared}
use Rattle.rules.specs.Last.{noted, improves, bettered}
use Rattle.rules.specs.Steps.{best_held}
use Rattle.rules.specs.Box.{Box, held_at, written, BookFits}
use Rattle.laws.proofs.Types.{Best, Book, BoxState, Kept, Mail}
use Rattle.laws.proofs.Logic.{Or, left, right, In, All, nil, cons, All-append, All-take}
use Rattle.laws.proofs.Logic.{All-drop, All-at, same?, below?, true≠false, pick_elim}
use Rattle.laws.proofs.FormLaws.{Proper, FormedFirst, HeldCount, Peer, FormedBox}
use Rattle.laws.proofs.Conditions.{Room}
use Rattle.laws.proofs.View.{Store, store_of, Spans, spans, Shaped, held_elim, higher-max}
use Rattle.laws.proofs.View.{Raises, raises-to, trimmed-shaped, stored-length, took-book}
use Rattle.laws.proofs.View.{took-cases, took_more, took-none, took-shaped}

-- ---- the record after the first l

pub is-held : (rs : List ℕ) (l : ℕ) → is_some (held_at rs l) ≡ true → l < length rs
is-held rs l =
    held_elim (λ (h : Option ℕ). is_some h ≡ true → l < length rs) rs l
    (λ h e. h)
    (λ h e. absurd (true≠false (sym e)))

-- ---- what a box keeps, with its records

pub record KeptForm (J : ℕ) (k : Kept) (rs : List ℕ) : Type 0 where
  pub last : k.last ≤ most_number
  pub first : FormedFirst k.first k.last
  pub held : HeldCount J k.first k.last (length rs)
  pub records : All Proper rs
  pub pn : k.pn ≤ most_pn
  pub stored-pn : k.stored.pn ≤ most_pn
  pub stored-number : k.stored.number ≤ most_number

-- a records without d of them, and those of e after b: these are the sender's, or fewer
kept-room : (J f l d a g F L b e : ℕ) → f + d ≡ g → d ≤ a → f + a ≡ l + 1 → F + b ≡ l + 1 → b < e
    → F + e ≡ L + 1 → F ≤ g → L + 1 ≤ J + F → a - d + (e - b) ≤ J
kept-room J f l d a g F L b e by within own theirs some all low room = omega arith

module _ {J : ℕ} {k : Kept} {rs : List ℕ} (f : KeptForm J k rs) where
  pub kept-shaped : Shaped (store_of k rs)
  kept-shaped = spans f.first f.held

  -- last+1 is a load number where it is held
  pub next-number : span k.first k.last < length rs → k.last + 1 ≤ most_number
  next-number h = omega (arith, f.last, f.first.top, f.held.all, f.held.most, h)

  pub under-form : under_of k ≤ most_pn
  unfolding under_of
  under-form =
      pick_elim (λ (q : ℕ). q ≤ most_pn) (eqb k.stored.number (k.last + 1))
      (λ e. f.stored-pn)
      (λ e. omega arith)

  pub promised-form : (q : ℕ) → q ≤ most_pn → KeptForm J (promised q k) rs
  promised-form q h = record {
    last = f.last;
    first = f.first;
    held = f.held;
    records = f.records;
    pn = h;
    stored-pn = f.stored-pn;
    stored-number = f.stored-number;
  }

  -- last+1, which is held, is agreed
  pub agreed-form : span k.first k.last < length rs → KeptForm J (lasting (k.last + 1) k) rs
  agreed-form h = record {
    last = next-number h;
    first = record { some = f.first.some; top = omega (arith, f.first.top) };
    held = record {
      all = omega (arith, h, f.first.top);
      next = omega (arith, f.held.next);
      most = omega (arith, f.held.most);
      room = f.held.room;
    };
    records = f.records;
    pn = f.pn;
    stored-pn = f.stored-pn;
    stored-number = f.stored-number;
  }

  -- first becomes g, and d records leave
  module _ {d g : ℕ} (up : Raises (store_of k rs) d g) (low : FormedFirst g k.last) where
    pub trimmed-form : KeptForm J (keeping g k) (drop d rs)
    trimmed-form = let shape = trimmed-shaped (store_of k rs) kept-shaped up in record {
      last = f.last;
      first = low;
      held = record {
        all = shape.all;
        next = shape.next;
        most = omega (arith, size, f.held.most, f.held.all, up.by, up.top);
        room = omega (arith, size, f.held.room);
      };
      records = All-drop d f.records;
      pn = f.pn;
      stored-pn = f.stored-pn;
      stored-number = f.stored-number;
    }
      where
        size : length (drop d rs) ≡ length rs - d
        size = length-drop d rs

    -- .. and last+1 holds r
    pub stored-form : (q r : ℕ) → q ≤ most_pn → Room J g k.last → Proper r
        → KeptForm J (keeping g (storing q (k.last + 1) k))
        (drop d (take (span k.first k.last) rs) ++ (r ∷ []))
    stored-form q r h room p = record {
      last = f.last;
      first = low;
      held = record {
        all = omega (arith, size);
        next = omega (arith, size);
        most = omega (arith, size, room.number);
        room = omega (arith, size, room.records);
      };
      records = All-append (All-drop d (All-take (span k.first k.last) f.records))
          (cons p nil);
      pn = f.pn;
      stored-pn = h;
      stored-number = omega (arith, room.number);
    }
      where
        size : g + length (drop d (take (span k.first k.last) rs) ++ (r ∷ [])) ≡ k.last + 2
        size = stored-length (store_of k rs) kept-shaped up q r

    -- what is kept of the book is there, and there is room
    pub stored-fits : (r : ℕ) (ms : List ℕ) → Room J g k.last
        → BookFits J rs ms (Book.Put d (span k.first k.last) r)
    stored-fits r ms room = (
      omega (arith, up.by, up.top),
      omega (arith, f.held.all),
      omega (arith, up.by, up.top, room.records, low.top),
    )

  -- the records of a mail are taken, of a sender that keeps from F to L
  module _ (F L : ℕ) (ms : List ℕ) (top : L ≤ most_number) (low : FormedFirst F L)
      (sent : Spans F L ms) (room : length ms ≤ J) where
    pub took-form : All Proper ms → KeptForm J (took_kept F L k) (written (took_book F L k) rs ms)
    unfolding took_kept
    took-form p = let shape = took-shaped F L ms a kept-shaped sent in record {
      last = omega (arith, last, top, f.last);
      first = record {
        some = shape.some;
        top = omega (arith, first, last, f.first.top, low.top);
      };
      held = record {
        all = shape.all;
        next = shape.next;
        most = (bound (below? k.last L)).0;
        room = (bound (below? k.last L)).1;
      };
      records = took-cases F L ms a kept-shaped (All Proper)
          (λ e. All-take (span F L) p)
          (λ e m. All-append
          (All-drop (higher k.first F - k.first)
          (All-take (span k.first k.last) f.records))
          (All-drop (span F k.last) (All-take (span F L) p)))
          (λ e m. All-drop (higher k.first F - k.first) f.records);
      pn = f.pn;
      stored-pn = f.stored-pn;
      stored-number = f.stored-number;
    }
      where
        a : Store
        a = store_of k rs

        first : higher k.first F ≡ max k.first F
        first = higher-max k.first F

        last : higher k.last L ≡ max k.last L
        last = higher-max k.last L

        count : ℕ
        count = length (written (took_book F L k) rs ms)

        bound : Or (k.last < L) (L ≤ k.last)
            → (higher k.first F + count ≤ max (higher k.last L) most_number + 1) × (count ≤ J)
        bound (left h) = let size = took_more F L ms a kept-shaped sent h in
            (omega (arith, size, last, top), omega (arith, size, first, sent.all, room))
        bound (right h) = let size = took-none F L ms a kept-shaped sent h in
            (omega (arith, size, last, f.held.most), omega (arith, size, first, f.held.room))

    pub took-fits : BookFits J rs ms (took_book F L k)
    took-fits =
        took-book (BookFits J rs ms) F L k
        (λ e. (
          omega arith,
          omega arith,
          omega (arith, e, low.top),
          omega (arith, sent.all),
          omega (arith, sent.next, room),
        ))
        (λ e m. let up = raises-to (store_of k rs) kept-shaped F e in
        let own : k.first + span k.first k.last ≡ k.last + 1
        = omega (arith, f.first.top) in
        let theirs : F + span F k.last ≡ k.last + 1 = omega (arith, e) in
        let all : F + span F L ≡ L + 1 = omega (arith, e, m) in
        let within : higher k.first F - k.first ≤ span k.first k.last
        = omega (arith, up.by, up.top, own) in
        let some : span F k.last < span F L = omega (arith, theirs, all, m) in (
          within,
          omega (arith, f.held.all),
          some,
          omega (arith, all, sent.all),
          kept-room _ _ _ _ _ _ _ _ _ _ up.by within own theirs some all
              (omega (arith, higher-max k.first F)) (omega (arith, sent.all, room)),
        ))
        (λ e m. let up = raises-to (store_of k rs) kept-shaped F e in
        omega (arith, up.by, up.top, f.held.all))

-- ---- the best

pub record BestForm (b : Best) : Type 0 where
  pub pn : b.pn ≤ most_pn
  pub number : b.number ≤ most_number
  pub value : Or (b.value ≡ 0) (Proper b.value)

pub none-form : BestForm none
none-form = record { pn = omega arith; number = omega arith; value = left refl }

pub cleared-form : (l : ℕ) (b : Best) → BestForm b → BestForm (cleared l b)
unfolding cleared
cleared-form l b f = pick_elim BestForm (leb b.number l) (λ e. none-form) (λ e. f)

-- "If last+1 is held it becomes the best unagreed"
pub best-held-form : {J : ℕ} {k : Kept} {rs : List ℕ} → KeptForm J k rs
    → BestForm (best_held k (held_at rs (span k.first k.last)))
unfolding best_held
best-held-form {J} {k} {rs} f =
    held_elim (λ (h : Option ℕ). BestForm (best_held k h)) rs (span k.first k.last)
    (λ h. record {
      pn = under-form f;
      number = next-number f h;
      value = right (All-at f.records (span k.first k.last) 0 h);
    })
    (λ h. none-form)

-- the mail's record at its last+1 becomes the best, or the best is cleared
pub bettered-form : {J : ℕ} (l : ℕ) (b : Best) (m : Mail) (ms : List ℕ) → BestForm b
    → m.last ≤ most_number → FormedFirst m.first m.last
    → HeldCount J m.first m.last (length ms) → All Proper ms → m.unagreed ≤ most_pn
    → BestForm (bettered l b m (held_at ms (span m.first m.last)))
unfolding bettered
bettered-form l b m ms f top low held p u =
    held_elim (λ (h : Option ℕ). BestForm (bettered l b m h)) ms (span m.first m.last)
    (λ h. pick_elim BestForm (improves l b m)
    (λ e. record {
      pn = u;
      number = omega (arith, h, top, low.top, held.most);
      value = right (All-at p (span m.first m.last) 0 h);
    })
    (λ e. cleared-form l b f))
    (λ h. cleared-form l b f)

-- ---- the peers

pub record PeersForm (n c : ℕ) (peers : List ℕ) : Type 0 where
  pub places : length peers ≡ most_boxes
  pub each : (k : ℕ) → In k most_boxes → Peer n c k (get_or peers (k - 1) 0)

pub unknown-form : (n c : ℕ) → PeersForm n c all_unknown
unknown-form n c = record { places = refl; each = λ k h. left (at k h) }
  where
    at : (k : ℕ) → In k most_boxes → get_or all_unknown (k - 1) 0 ≡ unknown
    at zero h = absurd (omega arith)
    at (suc zero) h = refl
    at (suc (suc zero)) h = refl
    at (suc (suc (suc zero))) h = refl
    at (suc (suc (suc (suc zero)))) h = refl
    at (suc (suc (suc (suc (suc zero))))) h = refl
    at (suc (suc (suc (suc (suc (suc k)))))) h = absurd (omega arith)

-- "Note the peer's last."
pub noted-form : {n c : ℕ} (peers : List ℕ) (a l : ℕ)
    → PeersForm n c peers → In a n → n ≤ most_boxes → (a ≡ c → ⊥) → l ≤ most_number
    → PeersForm n c (noted peers a l)
unfolding noted
noted-form {n} {c} peers a l f h few ne room =
    pick_elim (PeersForm n c) (ltb 0 a && leb a most_boxes)
    (λ e. record {
      places = length-set peers (a - 1) l ∙ f.places;
      each = λ k i. at k i
          (same? k a);
    })
    (λ e. f)
  where
    at : (k : ℕ) → In k most_boxes → Or (k ≡ a) (k ≡ a → ⊥)
        → Peer n c k (get_or (set peers (a - 1) l) (k - 1) 0)
    at k i (left e) =
        let here : get_or (set peers (a - 1) l) (k - 1) 0 ≡ l
        = rw e (get_or-set_same peers (a - 1) l 0 (omega (arith, f.places))) in
        right (omega (arith, h.1, e), (λ d. ne (sym e ∙ d)), omega (arith, here))
    at k i (right e) =
        let there : get_or (set peers (a - 1) l) (k - 1) 0 ≡ get_or peers (k - 1) 0
        = get_or-set_other peers (a - 1) (k - 1) l 0 (λ d. e (omega (arith, d))) in
        rw there (f.each k i)

-- ---- a box of its parts

module _ {n J c : ℕ} {x : Box} (f : FormedBox n J c x) where
  pub kept-part : KeptForm J x.head.kept x.records
  kept-part = record {
    last = f.last;
    first = f.first;
    held = f.held;
    records = f.records;
    pn = f.pn;
    stored-pn = f.stored-pn;
    stored-number = f.stored-number;
  }

  pub best-part : BestForm x.head.best
  best-part = record { pn = f.best-pn; number = f.best-number; value = f.best }

  pub peers-part : PeersForm n c x.head.peers
  peers-part = record { places = f.places; each = f.peers }

pub box-of : {n J c : ℕ} {h : BoxState} {rs : List ℕ} → KeptForm J h.kept rs
    → BestForm h.best → set_form n h.answered ≡ true
    → set_form n h.accepts ≡ true → set_form n h.heard ≡ true
    → Or (h.waiting ≡ 0) (Proper h.waiting)
    → Or (h.agreeing ≡ 0) (Proper h.agreeing) → PeersForm n c h.peers
    → FormedBox n J c (record { head = h; records = rs })
box-of k b answered accepts heard waiting agreeing p = record {
  last = k.last;
  first = k.first;
  held = k.held;
  records = k.records;
  pn = k.pn;
  stored-pn = k.stored-pn;
  stored-number = k.stored-number;
  best-pn = b.pn;
  best-number = b.number;
  best = b.value;
  answered = answered;
  accepts = accepts;
  heard = heard;
  waiting = waiting;
  agreeing = agreeing;
  places = p.places;
  peers = p.each;
}
