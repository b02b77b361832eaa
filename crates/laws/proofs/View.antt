-- What proofs read of a box and of a letter: what outlives a stop, the numbers of state and phase,
-- a letter by its kind; and how what outlives a stop changes, said number by number. These are
-- readings of the one model, not a second one: no rule stands here.
use Prim.Native.Nat.{ℕ, ◌+◌, ◌-◌, ◌≤◌, ◌<◌, max}
use mathlib.Core.Path.{◌≡◌, sym, ap, ◌∙◌, subst}
use mathlib.Core.List.{List, [], ◌∷◌, ◌++◌}
use native.Mathlib.Omega.{arith}
use lib.Dec.{ltb}
use lib.ListN.{length, get_or, take, drop, length-append, length-take, length-drop}
use lib.ListN.{get_or-append}
use lib.Seq.{get_or-take, get_or-drop, get_or-append-add}
use borrow.Author.Tests.{ltb-true, ltb-false}
use Rattle.std.specs.Prelude.{Option, Some, None}
use Rattle.rules.specs.Numbers.{state_number, phase_number}
use Rattle.rules.specs.Fields.{with_kept}
use Rattle.rules.specs.Parts.{span, higher, dropped, took_book}
use Rattle.rules.specs.Box.{Box, Letter, held_at, record_at, written}
use Rattle.laws.proofs.Types.{Book, Kept, Kind}
use Rattle.laws.proofs.Logic.{Or, left, right, below?, pick_elim}
use Rattle.laws.proofs.FormLaws.{FormedFirst, HeldCount, FormedBox, FormedLast}
use Rattle.laws.proofs.FormLaws.{FormedCommit}

-- promised pn, last agreed number, first kept number, records, stored pn and stored number
pub record Store : Type 0 where
  pub pn : ℕ
  pub last : ℕ
  pub first : ℕ
  pub records : List ℕ
  pub stored_pn : ℕ
  pub stored_number : ℕ

abbrev pub store_of : Kept → List ℕ → Store
store_of k rs = record {
  pn = k.pn;
  last = k.last;
  first = k.first;
  records = rs;
  stored_pn = k.stored.pn;
  stored_number = k.stored.number;
}

abbrev pub store : Box → Store
store x = store_of x.head.kept x.records

-- .. as the rules have it
abbrev pub kept : Store → Kept
kept a = record {
  pn = a.pn;
  last = a.last;
  first = a.first;
  stored = record { pn = a.stored_pn; number = a.stored_number };
}

-- the box z with the store a
abbrev pub keeping : Store → Box → Box
keeping a z = record { head = with_kept (kept a) z.head; records = a.records }

abbrev pub phase_of : Box → ℕ
phase_of x = phase_number x.head.phase

abbrev pub state_of : Box → ℕ
state_of x = state_number x.head.state

-- the record of number k
abbrev pub at : Store → ℕ → ℕ
at a k = record_at a.first a.records k

-- last+1 is held
abbrev pub HeldNext : Store → Type 0
HeldNext a = span a.first a.last < length a.records

-- rs are the records of first to last, and perhaps that of last+1
pub record Spans (first last : ℕ) (rs : List ℕ) : Type 0 where
  pub some : 1 ≤ first
  pub top : first ≤ last + 1
  pub all : last + 1 ≤ first + length rs
  pub next : first + length rs ≤ last + 2

abbrev pub Shaped : Store → Type 0
Shaped a = Spans a.first a.last a.records

-- so a box by form has it, and a Last and a Commit, of a sender that keeps from F on
pub spans : {J first last : ℕ} {rs : List ℕ} → FormedFirst first last
    → HeldCount J first last (length rs) → Spans first last rs
spans f h = record {
  some = f.some;
  top = omega (arith, f.top);
  all = h.all;
  next = h.next;
}

pub shaped : {n J b : ℕ} {x : Box} → FormedBox n J b x → Shaped (store x)
shaped f = spans f.first f.held

pub last-spans : {J last F unagreed : ℕ} {ms : List ℕ}
    → FormedLast J last F unagreed (length ms) → Spans F last ms
last-spans f = spans f.first f.held

pub commit-spans : {J last F unagreed : ℕ} {ms : List ℕ}
    → FormedCommit J last F unagreed (length ms) → Spans F last ms
commit-spans f = record {
  some = f.first.some;
  top = omega (arith, f.first.top);
  all = omega (arith, f.all-records);
  next = omega (arith, f.all-records);
}

-- the link from each box to each
abbrev pub Links : Type 0
Links = ℕ → ℕ → List Letter

-- ---- a letter by its kind

pub data Reading : Type 0 where
  Collect : (pn last : ℕ) → Reading
  Last : (pn last first unagreed : ℕ) (records : List ℕ) → Reading
  Begin : (pn last first value : ℕ) → Reading
  Accept : (pn last : ℕ) → Reading
  Commit : (pn last first : ℕ) (records : List ℕ) → Reading
  -- a Lease, a LeaseAck: nothing that is kept rests on it
  Inert : Reading

abbrev pub read_as : Kind → Letter → Reading
read_as Kind.Collect y = Collect y.head.pn y.head.last
read_as Kind.Last y =
    Last y.head.pn y.head.last y.head.first y.head.unagreed y.records
read_as Kind.Begin y = Begin y.head.pn y.head.last y.head.first (get_or y.records 0 0)
read_as Kind.Accept y = Accept y.head.pn y.head.last
read_as Kind.Commit y = Commit y.head.pn y.head.last y.head.first y.records
read_as Kind.Lease y = Inert
read_as Kind.LeaseAck y = Inert

abbrev pub read : Letter → Reading
read y = read_as y.head.kind y

-- ---- a record held after the first l

pub held_elim {κ} : (P : Option ℕ → Type κ) (rs : List ℕ) (l : ℕ)
    → (l < length rs → P (Some (get_or rs l 0))) → (length rs ≤ l → P None)
    → P (held_at rs l)
unfolding held_at
held_elim P rs l f g =
    pick_elim P (ltb l (length rs))
    (λ e. f (ltb-true l (length rs) e)) (λ e. g (ltb-false l (length rs) e))

-- ---- numbers that are raised, records that leave, records that are written

pub higher-max : (a b : ℕ) → higher a b ≡ max a b
unfolding higher
higher-max a b =
    pick_elim (λ (h : ℕ). h ≡ max a b) (ltb a b)
    (λ e. omega (arith, ltb-true a b e)) (λ e. omega (arith, ltb-false a b e))

-- first is raised from f to g, and so d records leave
pub at-dropped : (f d g : ℕ) (rs : List ℕ) (k : ℕ) → f + d ≡ g → g ≤ k
    → record_at g (drop d rs) k ≡ record_at f rs k
at-dropped f d g rs k e h =
    get_or-drop d rs (k - g) 0 ∙ ap (λ (i : ℕ). get_or rs i 0) (omega (arith, e, h))

-- those of f to l, as in a Commit
pub at-taken : (f l : ℕ) (rs : List ℕ) (k : ℕ) → f ≤ k → k ≤ l
    → record_at f (take (span f l) rs) k ≡ record_at f rs k
at-taken f l rs k h t = get_or-take (span f l) rs (k - f) 0 (omega (arith, h, t))

-- those of f to l stay, but for d of them, and others follow
module _ (f l d g : ℕ) (rs others : List ℕ) (e : f + d ≡ g) (top : g ≤ l + 1)
    (all : l + 1 ≤ f + length rs) where
  abbrev pub front : List ℕ
  front = drop d (take (span f l) rs)

  front_length : g + length front ≡ l + 1
  front_length = simp (length-drop, length-take) (omega (arith, e, top, all))

  pub front-all : g + length (front ++ others) ≡ l + 1 + length others
  front-all = rw length-append (omega (arith, front_length))

  pub front_at : (k : ℕ) → g ≤ k → k ≤ l → record_at g (front ++ others) k ≡ record_at f rs k
  front_at k h t =
      get_or-append front others 0 (k - g) (omega (arith, front_length, h, t))
      ∙ at-dropped f d g (take (span f l) rs) k e h
      ∙ at-taken f l rs k (omega (arith, e, h)) t

  pub front-after : (k : ℕ) → l < k
      → record_at g (front ++ others) k ≡ get_or others (k - (l + 1)) 0
  front-after k h =
      ap (λ (i : ℕ). get_or (front ++ others) i 0) (omega (arith, front_length, top, h))
      ∙ get_or-append-add front others (k - (l + 1)) 0

-- ---- how a store changes; a rule's next box has one of these by computation

abbrev pub promised : ℕ → Store → Store
promised q a = record {
  pn = q;
  last = a.last;
  first = a.first;
  records = a.records;
  stored_pn = a.stored_pn;
  stored_number = a.stored_number;
}

-- last+1 is agreed
abbrev pub agreed : Store → Store
agreed a = record {
  pn = a.pn;
  last = a.last + 1;
  first = a.first;
  records = a.records;
  stored_pn = a.stored_pn;
  stored_number = a.stored_number;
}

-- first becomes g, and d records leave
abbrev pub trimmed : ℕ → ℕ → Store → Store
trimmed d g a = record {
  pn = a.pn;
  last = a.last;
  first = g;
  records = drop d a.records;
  stored_pn = a.stored_pn;
  stored_number = a.stored_number;
}

-- .. and last+1 holds r, under pn q
abbrev pub stored : ℕ → ℕ → ℕ → ℕ → Store → Store
stored d g q r a = record {
  pn = a.pn;
  last = a.last;
  first = g;
  records = drop d (take (span a.first a.last) a.records) ++ (r ∷ []);
  stored_pn = q;
  stored_number = a.last + 1;
}

-- the records from own last+1 on are taken, of a sender that keeps ms from F to L
abbrev pub took : ℕ → ℕ → List ℕ → Store → Store
took F L ms a = record {
  pn = a.pn;
  last = higher a.last L;
  first = higher a.first F;
  records = written (took_book F L (kept a)) a.records ms;
  stored_pn = a.stored_pn;
  stored_number = a.stored_number;
}

-- first is raised to g, d records leave, and no number above last+1 is kept for it
pub record Raises (a : Store) (d g : ℕ) : Type 0 where
  pub by : a.first + d ≡ g
  pub top : g ≤ a.last + 1

module _ (a : Store) (shape : Shaped a) where
  -- last+1 was held; then none is beyond last
  pub agreed-shaped : HeldNext a → Shaped (agreed a)
  agreed-shaped h = record {
    some = shape.some;
    top = omega (arith, shape.top);
    all = omega (arith, shape.top, h);
    next = omega (arith, shape.next);
  }

  pub agreed-held : HeldNext (agreed a) → ⊥
  agreed-held h = omega (arith, shape.top, shape.next, h)

  -- not at all: a leader's start
  pub raises-none : Raises a 0 a.first
  raises-none = record { by = omega arith; top = shape.top }

  -- to a sender's first, F: a Begin that is taken
  pub raises-to : (F : ℕ) → F ≤ a.last + 1
      → Raises a (higher a.first F - a.first) (higher a.first F)
  raises-to F h = record {
    by = omega (arith, higher-max a.first F);
    top = omega (arith, higher-max a.first F, shape.top, h);
  }

  -- to k: a trim
  pub raises-trim : (k : ℕ) → a.first < k → k ≤ a.last
      → Raises a (higher a.first k - a.first) k
  raises-trim k h t = record {
    by = omega (arith, higher-max a.first k, h);
    top = omega (arith, t);
  }

  -- every number that is still kept has its record, and last+1 is held as it was
  module _ {d g : ℕ} (up : Raises a d g) where
    pub trimmed-at : (k : ℕ) → g ≤ k → at (trimmed d g a) k ≡ at a k
    trimmed-at k = at-dropped a.first d g a.records k up.by

    trimmed-length : length (drop d a.records) ≡ length a.records - d
    trimmed-length = length-drop d a.records

    pub trimmed-shaped : Shaped (trimmed d g a)
    trimmed-shaped = record {
      some = omega (arith, shape.some, up.by);
      top = up.top;
      all = omega (arith, trimmed-length, shape.all, up.by, up.top);
      next = omega (arith, trimmed-length, shape.all, shape.next, up.by, up.top);
    }

    pub trimmed-held : HeldNext (trimmed d g a) → HeldNext a
    trimmed-held h = omega (arith, trimmed-length, h, up.by, up.top)

    pub trimmed-holds : HeldNext a → HeldNext (trimmed d g a)
    trimmed-holds h = omega (arith, trimmed-length, h, up.by, up.top)

    -- every agreed number that is still kept has its record, and last+1 is held: it is r
    module _ (q r : ℕ) where
      pub stored_at : (k : ℕ) → g ≤ k → k ≤ a.last → at (stored d g q r a) k ≡ at a k
      stored_at =
          front_at a.first a.last d g a.records (r ∷ []) up.by up.top shape.all

      pub stored_next : at (stored d g q r a) (a.last + 1) ≡ r
      stored_next = let here : a.last + 1 - (a.last + 1) ≡ 0 = omega arith in
          front-after a.first a.last d g a.records (r ∷ []) up.by up.top
          shape.all (a.last + 1) (omega arith)
          ∙ ap (λ (i : ℕ). get_or (r ∷ []) i 0) here

      pub stored-length : g + length (stored d g q r a).records ≡ a.last + 2
      stored-length =
          front-all a.first a.last d g a.records (r ∷ []) up.by up.top shape.all
          ∙ omega arith

      pub stored-shaped : Shaped (stored d g q r a)
      stored-shaped = record {
        some = omega (arith, shape.some, up.by);
        top = up.top;
        all = omega (arith, stored-length);
        next = omega (arith, stored-length);
      }

      pub stored-held : HeldNext (stored d g q r a)
      stored-held = omega (arith, stored-length, up.top)

-- ---- records that are taken

-- the three cases
pub took-book {κ} : (P : Book → Type κ) (F L : ℕ) (k : Kept)
    → (k.last + 1 < F → P (Book.Take 0 0 0 (span F L)))
    → (F ≤ k.last + 1 → k.last < L
    → P (Book.Take (dropped F k) (span k.first k.last) (span F k.last) (span F L)))
    → (F ≤ k.last + 1 → L ≤ k.last → P (Book.Drop (dropped F k)))
    → P (took_book F L k)
unfolding took_book
took-book P F L k whole more none =
    pick_elim P (ltb (k.last + 1) F)
    (λ e. whole (ltb-true (k.last + 1) F e))
    (λ e. let h : F ≤ k.last + 1 = ltb-false (k.last + 1) F e in
    pick_elim P (ltb k.last L)
    (λ d. more h (ltb-true k.last L d))
    (λ d. none h (ltb-false k.last L d)))

module _ (F L : ℕ) (ms : List ℕ) (a : Store) (shape : Shaped a) where
  abbrev pub low : ℕ
  low = higher a.first F

  pub took-first : (took F L ms a).first ≡ max a.first F
  took-first = higher-max a.first F

  pub took-last : (took F L ms a).last ≡ max a.last L
  took-last = higher-max a.last L

  -- the records after each case
  pub took-cases : (P : List ℕ → Type 0)
      → (a.last + 1 < F → P (take (span F L) ms))
      → (F ≤ a.last + 1 → a.last < L
      → P (drop (low - a.first) (take (span a.first a.last) a.records)
      ++ drop (span F a.last) (take (span F L) ms)))
      → (F ≤ a.last + 1 → L ≤ a.last → P (drop (low - a.first) a.records))
      → P (took F L ms a).records
  unfolding written
  took-cases P = took-book (λ b. P (written b a.records ms)) F L (kept a)

  -- an own agreed number that is still kept has its record
  pub took-old : (k : ℕ) → low ≤ k → k ≤ a.last → at (took F L ms a) k ≡ at a k
  took-old k h t =
      took-cases (λ rs. record_at low rs k ≡ at a k)
      (λ e. absurd (omega (arith, took-first, h, t, e)))
      (λ e m. front_at a.first a.last (low - a.first) low a.records _
      (raises-to a shape F e).by (raises-to a shape F e).top shape.all k h t)
      (λ e m. trimmed-at a shape (raises-to a shape F e) k h)

  module _ (sent : Spans F L ms) where
    -- a number above own last has the sender's record
    pub took-new : (k : ℕ) → low ≤ k → a.last < k → k ≤ L
        → at (took F L ms a) k ≡ record_at F ms k
    took-new k h t u =
        took-cases (λ rs. record_at low rs k ≡ record_at F ms k)
        (λ e. let from : low ≡ F = omega (arith, took-first, shape.top, e) in
        ap (λ (g : ℕ). record_at g (take (span F L) ms) k) from
        ∙ at-taken F L ms k (omega (arith, from, h)) u)
        (λ e m. let up = raises-to a shape F e in
        front-after a.first a.last (low - a.first) low a.records _
        up.by up.top shape.all k t
        ∙ get_or-drop (span F a.last) (take (span F L) ms) (k - (a.last + 1)) 0
        ∙ ap (λ (i : ℕ). get_or (take (span F L) ms) i 0) (omega (arith, e, t))
        ∙ at-taken F L ms k (omega (arith, e, t)) u)
        (λ e m. absurd (omega (arith, m, t, u)))

    -- in one: every number that is kept as agreed then was kept so by one of the two before
    pub took-each {κ} : (P : ℕ → ℕ → Type κ)
        → ((k : ℕ) → a.first ≤ k → k ≤ a.last → P k (at a k))
        → ((k : ℕ) → F ≤ k → k ≤ L → P k (record_at F ms k))
        → (k : ℕ) → low ≤ k → k ≤ higher a.last L → P k (at (took F L ms a) k)
    took-each P own theirs k h t = go (below? a.last k)
      where
        go : Or (a.last < k) (k ≤ a.last) → P k (at (took F L ms a) k)
        go (left e) =
            let u : k ≤ L = omega (arith, took-last, e, t) in
            subst (P k) (sym (took-new k h e u)) (theirs k (omega (arith, took-first, h)) u)
        go (right e) =
            subst (P k) (sym (took-old k h e)) (own k (omega (arith, took-first, h)) e)

    -- so many are held then
    pub took_more : a.last < L → low + length (took F L ms a).records ≡ L + 1
    took_more h =
        took-cases (λ rs. low + length rs ≡ L + 1)
        (λ e. rw length-take (omega (arith, took-first, shape.top, e, sent.all)))
        (λ e m. let up = raises-to a shape F e in
        front-all a.first a.last (low - a.first) low a.records _
        up.by up.top shape.all
        ∙ simp (length-drop, length-take) (omega (arith, e, m, sent.all)))
        (λ e m. absurd (omega (arith, m, h)))

    pub took-none : L ≤ a.last
        → low + length (took F L ms a).records ≡ a.first + length a.records
    took-none h =
        took-cases (λ rs. low + length rs ≡ a.first + length a.records)
        (λ e. absurd (omega (arith, e, h, sent.top)))
        (λ e m. absurd (omega (arith, m, h)))
        (λ e m. let up = raises-to a shape F e in
        rw length-drop (omega (arith, up.by, up.top, shape.all)))

    pub took-shaped : Shaped (took F L ms a)
    took-shaped = go (below? a.last L)
      where
        go : Or (a.last < L) (L ≤ a.last) → Shaped (took F L ms a)
        go (left h) = record {
          some = omega (arith, took-first, shape.some);
          top = omega (arith, took-first, took-last, shape.top, sent.top);
          all = omega (arith, took-last, took_more h);
          next = omega (arith, took-last, took_more h);
        }
        go (right h) = record {
          some = omega (arith, took-first, shape.some);
          top = omega (arith, took-first, took-last, shape.top, sent.top);
          all = omega (arith, took-last, took-none h, shape.all);
          next = omega (arith, took-last, took-none h, shape.next);
        }

    -- where nothing is taken, every number that is still kept has its record, last+1 too
    pub took-same : L ≤ a.last → (k : ℕ) → low ≤ k → at (took F L ms a) k ≡ at a k
    took-same h k i =
        took-cases (λ rs. record_at low rs k ≡ at a k)
        (λ e. absurd (omega (arith, e, h, sent.top)))
        (λ e m. absurd (omega (arith, m, h)))
        (λ e m. trimmed-at a shape (raises-to a shape F e) k i)

    -- last+1 is held then if it was held, and nothing was taken
    pub took-holds : L ≤ a.last → HeldNext a → HeldNext (took F L ms a)
    took-holds h i =
        omega (arith, i, took-none h, took-first, took-last, shape.top, sent.top, h)

    pub took-held : HeldNext (took F L ms a) → (L ≤ a.last) × HeldNext a
    took-held i = go (below? a.last L)
      where
        go : Or (a.last < L) (L ≤ a.last) → (L ≤ a.last) × HeldNext a
        go (left h) =
            absurd (omega (arith, i, took_more h, took-first, took-last, shape.top, sent.top))
        go (right h) =
            (h, omega (arith, i, took-none h, took-first, took-last, shape.top, sent.top))
