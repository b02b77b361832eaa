-- "By form" in propositions with names: what a box, a letter and a site by form have, and that
-- this is all of form.
use Prim.Native.Nat.{ℕ, ◌+◌, ◌-◌, ◌≤◌, ◌<◌, max}
use mathlib.Core.Path.{◌≡◌, ap}
use mathlib.Core.Bool.{true, not, ◌&&◌, ◌||◌}
use mathlib.Core.List.{List}
use native.Mathlib.Omega.{arith}
use lib.Dec.{eqb, leb, ltb}
use lib.ListN.{length, get_or}
use borrow.Author.Tests.{leb-true, le-leb, ltb-true, lt-ltb, eq-eqb, ne_eqb, not-true}
use Rattle.rules.specs.Every.{all, each}
use Rattle.rules.specs.Sizes.{most_boxes, most_loads, most_mails, most_epoch, most_number, most_pn}
use Rattle.rules.specs.Sizes.{unknown, within, sizes_form, left_of, right_of, proper, record_form}
use Rattle.rules.specs.Sets.{set_form}
use Rattle.rules.specs.Box.{Box, Letter}
use Rattle.rules.specs.Site.{Site, is_box, is_link}
use Rattle.rules.specs.Form.{first_form, count_form, peer_form, form_box, bare, form_kind}
use Rattle.rules.specs.Form.{form_letter}
use Rattle.rules.specs.Form.{form_link, form}
use Rattle.laws.proofs.Types.{Kind}
use Rattle.laws.proofs.Logic.{Or, left, right, In, eqb_yes, eqb_no, same?, and_yes, and3}
use Rattle.laws.proofs.Logic.{and4, and_both, or_cases, or_left, or_right, passed, ◌&◌, none}
use Rattle.laws.proofs.Logic.{made, every-at, every_made, All, All-map, each_all, all-each}
use Rattle.laws.proofs.Counts.{AtMostOne, one-says, one-made}

-- ---- numbers of boxes

pub is-box : {n c : ℕ} → is_box n c ≡ true → In c n
is-box {n} {c} e = let p = and_yes (leb 1 c) (leb c n) e in
    (leb-true 1 c p.0, leb-true c n p.1)

pub box-is : {n c : ℕ} → In c n → is_box n c ≡ true
box-is {n} {c} h = and_both (le-leb 1 c h.0) (le-leb c n h.1)

pub is-link : {n a b : ℕ} → is_link n a b ≡ true → (In a n) × (In b n) × (a ≡ b → ⊥)
is-link {n} {a} {b} e =
    let p = and3 (is_box n a) (is_box n b) (not (eqb a b)) e in
    (is-box p.0, is-box p.1, eqb_no a b (not-true (eqb a b) p.2))

-- ---- ranges

within-says : (a b x : ℕ) → within a b x ≡ true → (a ≤ x) × (x ≤ b)
within-says a b x e = let p = and_yes (leb a x) (leb x b) e in
    (leb-true a x p.0, leb-true x b p.1)

within-made : (a b x : ℕ) → a ≤ x → x ≤ b → within a b x ≡ true
within-made a b x h g = and_both (le-leb a x h) (le-leb x b g)

pub record FormedSizes (n J L : ℕ) : Type 0 where
  pub some-boxes : 1 ≤ n
  pub few-boxes : n ≤ most_boxes
  pub some-loads : 1 ≤ J
  pub few-loads : J ≤ most_loads
  pub some-mails : 1 ≤ L
  pub few-mails : L ≤ most_mails

pub sizes-says : {n J L : ℕ} → sizes_form n J L ≡ true → FormedSizes n J L
unfolding sizes_form
sizes-says {n} {J} {L} e =
    let p = passed _ e in
    let boxes = within-says 1 most_boxes n p.0 in
    let loads = within-says 1 most_loads J p.1.0 in
    let mails = within-says 1 most_mails L p.1.1.0 in
    record {
      some-boxes = boxes.0;
      few-boxes = boxes.1;
      some-loads = loads.0;
      few-loads = loads.1;
      some-mails = mails.0;
      few-mails = mails.1;
    }

pub sizes-made : {n J L : ℕ} → FormedSizes n J L → sizes_form n J L ≡ true
unfolding sizes_form
sizes-made {n} {J} {L} h =
    made
    (within-made 1 most_boxes n h.some-boxes h.few-boxes
    & within-made 1 most_loads J h.some-loads h.few-loads
    & within-made 1 most_mails L h.some-mails h.few-mails
    & none)

-- ---- records

abbrev pub Proper : ℕ → Type 0
Proper r = proper r ≡ true

pub proper-some : {r : ℕ} → Proper r → r ≡ 0 → ⊥
unfolding proper
proper-some {r} e z =
    let p = and_yes (leb 1 (left_of r) && ltb (left_of r) 4294967296) (leb 1 (right_of r)) e in
    let q = and_yes (leb 1 (left_of r)) (ltb (left_of r) 4294967296) p.0 in
    let l : 1 ≤ left_of r = leb-true 1 (left_of r) q.0 in
    omega (arith, z)

-- a record that may be none
pub record_says : {r : ℕ} → record_form r ≡ true → Or (r ≡ 0) (Proper r)
unfolding record_form
record_says {r} e = go (or_cases (eqb r 0) (proper r) e)
  where
    go : Or (eqb r 0 ≡ true) (proper r ≡ true) → Or (r ≡ 0) (Proper r)
    go (left h) = left (eqb_yes r 0 h)
    go (right h) = right h

pub record_made : {r : ℕ} → Or (r ≡ 0) (Proper r) → record_form r ≡ true
unfolding record_form
record_made {r} (left h) = or_left (proper r) (eq-eqb r 0 h)
record_made {r} (right h) = or_right (eqb r 0) h

-- ---- numbers

-- "by form 1, or at most last" (Q-4)
pub record FormedFirst (first last : ℕ) : Type 0 where
  pub some : 1 ≤ first
  pub top : first ≤ max 1 last

pub first_says : {first last : ℕ} → first_form first last ≡ true → FormedFirst first last
unfolding first_form
first_says {first} {last} e =
    let p = and_yes (leb 1 first) (eqb first 1 || leb first last) e in
    record {
      some = leb-true 1 first p.0;
      top = go (or_cases (eqb first 1) (leb first last) p.1);
    }
  where
    go : Or (eqb first 1 ≡ true) (leb first last ≡ true) → first ≤ max 1 last
    go (left h) = omega (arith, eqb_yes first 1 h)
    go (right h) = omega (arith, leb-true first last h)

pub first_made : {first last : ℕ} → FormedFirst first last → first_form first last ≡ true
unfolding first_form
first_made {first} {last} h = and_both (le-leb 1 first h.some) (go (same? first 1))
  where
    go : Or (first ≡ 1) (first ≡ 1 → ⊥) → (eqb first 1 || leb first last) ≡ true
    go (left e) = or_left (leb first last) (eq-eqb first 1 e)
    go (right e) =
        or_right (eqb first 1) (le-leb first last (omega (arith, h.some, h.top, e)))

-- "keeps only first to last and perhaps last+1, at most J records in all" (Q-4); last+1 is a load
-- number too
pub record HeldCount (J first last count : ℕ) : Type 0 where
  pub all : last + 1 ≤ first + count
  pub next : first + count ≤ last + 2
  pub most : first + count ≤ max last most_number + 1
  pub room : count ≤ J

pub count-says : {J first last count : ℕ} → count_form J first last count ≡ true
    → HeldCount J first last count
unfolding count_form
count-says {J} {first} {last} {count} e =
    let p = and_yes (eqb (first + count) (last + 1) || (eqb (first + count) (last + 2)
    && ltb last most_number)) (leb count J) e in
    go (or_cases _ _ p.0) (leb-true count J p.1)
  where
    go : Or (eqb (first + count) (last + 1) ≡ true)
        ((eqb (first + count) (last + 2) && ltb last most_number) ≡ true) → count ≤ J
        → HeldCount J first last count
    go (left h) r = let k : first + count ≡ last + 1 = eqb_yes _ _ h in
        record { all = omega arith; next = omega arith; most = omega arith; room = r }
    go (right h) r =
        let p = and_yes (eqb (first + count) (last + 2)) (ltb last most_number) h in
        let k : first + count ≡ last + 2 = eqb_yes _ _ p.0 in
        let l : last < most_number = ltb-true _ _ p.1 in
        record { all = omega arith; next = omega arith; most = omega arith; room = r }

pub count-made : {J first last count : ℕ} → HeldCount J first last count
    → count_form J first last count ≡ true
unfolding count_form
count-made {J} {first} {last} {count} h =
    and_both (go (same? (first + count) (last + 1))) (le-leb count J h.room)
  where
    go : Or (first + count ≡ last + 1) (first + count ≡ last + 1 → ⊥)
        → (eqb (first + count) (last + 1) || (eqb (first + count) (last + 2)
        && ltb last most_number)) ≡ true
    go (left e) = or_left _ (eq-eqb _ _ e)
    go (right e) =
        let k : first + count ≡ last + 2 = omega (arith, h.all, h.next, e) in
        or_right (eqb (first + count) (last + 1))
        (and_both (eq-eqb _ _ k) (lt-ltb last most_number (omega (arith, h.most))))

-- ---- a box

-- what box b may have noted as the last of box k
abbrev pub Peer : ℕ → ℕ → ℕ → ℕ → Type 0
Peer n b k last = Or (last ≡ unknown) ((k ≤ n) × (k ≡ b → ⊥) × (last ≤ most_number))

peer-says : (n b : ℕ) (peers : List ℕ) (k : ℕ) → peer_form n b peers k ≡ true
    → Peer n b k (get_or peers (k - 1) 0)
unfolding peer_form
peer-says n b peers k e =
    go (or_cases (eqb l unknown) (leb k n && not (eqb k b) && leb l most_number) e)
  where
    l : ℕ
    l = get_or peers (k - 1) 0

    go : Or (eqb l unknown ≡ true) ((leb k n && not (eqb k b) && leb l most_number) ≡ true)
        → Peer n b k l
    go (left h) = left (eqb_yes l unknown h)
    go (right h) =
        let p = and3 (leb k n) (not (eqb k b)) (leb l most_number) h in
        right (
          leb-true k n p.0,
          eqb_no k b (not-true (eqb k b) p.1),
          leb-true l most_number p.2,
        )

peer-made : (n b : ℕ) (peers : List ℕ) (k : ℕ) → Peer n b k (get_or peers (k - 1) 0)
    → peer_form n b peers k ≡ true
unfolding peer_form
peer-made n b peers k (left h) = or_left _ (eq-eqb (get_or peers (k - 1) 0) unknown h)
peer-made n b peers k (right h) =
    or_right (eqb (get_or peers (k - 1) 0) unknown)
    (and_both
    (and_both (le-leb k n h.0) (ap not (ne_eqb k b h.1)))
    (le-leb (get_or peers (k - 1) 0) most_number h.2))

pub record FormedBox (n J b : ℕ) (x : Box) : Type 0 where
  pub last : x.head.kept.last ≤ most_number
  pub first : FormedFirst x.head.kept.first x.head.kept.last
  pub held : HeldCount J x.head.kept.first x.head.kept.last (length x.records)
  pub records : All Proper x.records
  pub pn : x.head.kept.pn ≤ most_pn
  pub stored-pn : x.head.kept.stored.pn ≤ most_pn
  pub stored-number : x.head.kept.stored.number ≤ most_number
  pub best-pn : x.head.best.pn ≤ most_pn
  pub best-number : x.head.best.number ≤ most_number
  pub best : Or (x.head.best.value ≡ 0) (Proper x.head.best.value)
  pub answered : set_form n x.head.answered ≡ true
  pub accepts : set_form n x.head.accepts ≡ true
  pub heard : set_form n x.head.heard ≡ true
  pub waiting : Or (x.head.waiting ≡ 0) (Proper x.head.waiting)
  pub agreeing : Or (x.head.agreeing ≡ 0) (Proper x.head.agreeing)
  pub places : length x.head.peers ≡ most_boxes
  pub peers : (k : ℕ) → In k most_boxes → Peer n b k (get_or x.head.peers (k - 1) 0)

module _ {n J b : ℕ} {x : Box} where
  pub box-says : form_box n J b x ≡ true → FormedBox n J b x
  unfolding form_box
  box-says e = let p = passed _ e in let q = p.1.1.1.1.1.1.1.1 in record {
    last = leb-true _ _ p.0;
    first = first_says p.1.0;
    held = count-says p.1.1.0;
    records = each_all proper x.records p.1.1.1.0;
    pn = leb-true _ _ p.1.1.1.1.0;
    stored-pn = leb-true _ _ p.1.1.1.1.1.0;
    stored-number = leb-true _ _ p.1.1.1.1.1.1.0;
    best-pn = leb-true _ _ p.1.1.1.1.1.1.1.0;
    best-number = leb-true _ _ q.0;
    best = record_says q.1.0;
    answered = q.1.1.0;
    accepts = q.1.1.1.0;
    heard = q.1.1.1.1.0;
    waiting = record_says q.1.1.1.1.1.0;
    agreeing = record_says q.1.1.1.1.1.1.0;
    places = eqb_yes _ _ q.1.1.1.1.1.1.1.0;
    peers = λ k h.
        peer-says n b x.head.peers k
        (every-at most_boxes _ q.1.1.1.1.1.1.1.1.0 k h);
  }

  pub box-made : FormedBox n J b x → form_box n J b x ≡ true
  unfolding form_box
  box-made h =
      made
      (le-leb _ _ h.last
      & first_made h.first
      & count-made h.held
      & all-each proper x.records h.records
      & le-leb _ _ h.pn
      & le-leb _ _ h.stored-pn
      & le-leb _ _ h.stored-number
      & le-leb _ _ h.best-pn
      & le-leb _ _ h.best-number
      & record_made h.best
      & h.answered
      & h.accepts
      & h.heard
      & record_made h.waiting
      & record_made h.agreeing
      & eq-eqb _ _ h.places
      & every_made most_boxes _ (λ k i. peer-made n b x.head.peers k (h.peers k i))
      & none)

-- ---- a letter

-- "the rest none; unagreed pn is 0"
pub record Bare (first unagreed count : ℕ) : Type 0 where
  pub no-records : count ≡ 0
  pub no-unagreed : unagreed ≡ 0
  pub no-first : first ≡ 0

-- F is the sender's first
pub record FormedLast (J last F unagreed count : ℕ) : Type 0 where
  pub first : FormedFirst F last
  pub held : HeldCount J F last count
  pub under : Or (unagreed ≡ 0) (F + count ≡ last + 2)

pub record FormedBegin (J last F unagreed count : ℕ) : Type 0 where
  pub first : FormedFirst F last
  pub one_record : count ≡ 1
  pub fits : count ≤ J
  pub room : last < most_number
  pub no-unagreed : unagreed ≡ 0

pub record FormedCommit (J last F unagreed count : ℕ) : Type 0 where
  pub first : FormedFirst F last
  pub all-records : F + count ≡ last + 1
  pub room : count ≤ J
  pub no-unagreed : unagreed ≡ 0

-- of a Lease and of a LeaseAck
pub record FormedLease (pn first unagreed count : ℕ) : Type 0 where
  pub bare : Bare first unagreed count
  pub no-pn : pn ≡ 0

abbrev pub FormedKind : Kind → ℕ → ℕ → ℕ → ℕ → ℕ → ℕ → Type 0
FormedKind Kind.Collect J pn last first unagreed count = Bare first unagreed count
FormedKind Kind.Last J pn last first unagreed count = FormedLast J last first unagreed count
FormedKind Kind.Begin J pn last first unagreed count = FormedBegin J last first unagreed count
FormedKind Kind.Accept J pn last first unagreed count = Bare first unagreed count
FormedKind Kind.Commit J pn last first unagreed count = FormedCommit J last first unagreed count
FormedKind Kind.Lease J pn last first unagreed count = FormedLease pn first unagreed count
FormedKind Kind.LeaseAck J pn last first unagreed count = FormedLease pn first unagreed count

bare-says : (first u count : ℕ) → bare first u count ≡ true → Bare first u count
bare-says first u count e =
    let p = and3 (eqb count 0) (eqb u 0) (eqb first 0) e in
    record {
      no-records = eqb_yes count 0 p.0;
      no-unagreed = eqb_yes u 0 p.1;
      no-first = eqb_yes first 0 p.2;
    }

bare-made : (first u count : ℕ) → Bare first u count → bare first u count ≡ true
bare-made first u count h =
    and_both (and_both (eq-eqb count 0 h.no-records) (eq-eqb u 0 h.no-unagreed))
    (eq-eqb first 0 h.no-first)

lease-says : (pn first u count : ℕ) → (bare first u count && eqb pn 0) ≡ true
    → FormedLease pn first u count
lease-says pn first u count e =
    let p = and_yes (bare first u count) (eqb pn 0) e in
    record { bare = bare-says first u count p.0; no-pn = eqb_yes pn 0 p.1 }

lease_made : (pn first u count : ℕ) → FormedLease pn first u count
    → (bare first u count && eqb pn 0) ≡ true
lease_made pn first u count h =
    and_both (bare-made first u count h.bare) (eq-eqb pn 0 h.no-pn)

pub kind-says : (k : Kind) (J pn last first unagreed count : ℕ)
    → form_kind k J pn last first unagreed count ≡ true
    → FormedKind k J pn last first unagreed count
unfolding form_kind
kind-says Kind.Collect J pn last first u count e = bare-says first u count e
kind-says Kind.Last J pn last first u count e =
    let p = and3 _ _ _ e in
    record {
      first = first_says p.0;
      held = count-says p.1;
      under = go (or_cases _ _ p.2);
    }
  where
    go : Or (eqb u 0 ≡ true) (eqb (first + count) (last + 2) ≡ true)
        → Or (u ≡ 0) (first + count ≡ last + 2)
    go (left h) = left (eqb_yes u 0 h)
    go (right h) = right (eqb_yes (first + count) (last + 2) h)
kind-says Kind.Begin J pn last first u count e =
    let one = eqb count 1 && leb count J in
    let p = and_yes (first_form first last && one && ltb last most_number) (eqb u 0) e in
    let q = and_yes (first_form first last && one) (ltb last most_number) p.0 in
    let r = and_yes (first_form first last) one q.0 in
    let t = and_yes (eqb count 1) (leb count J) r.1 in
    record {
      first = first_says r.0;
      one_record = eqb_yes count 1 t.0;
      fits = leb-true count J t.1;
      room = ltb-true last most_number q.1;
      no-unagreed = eqb_yes u 0 p.1;
    }
kind-says Kind.Accept J pn last first u count e = bare-says first u count e
kind-says Kind.Commit J pn last first u count e =
    let p = and4 _ _ _ _ e in
    record {
      first = first_says p.0;
      all-records = eqb_yes (first + count) (last + 1) p.1;
      room = leb-true count J p.2;
      no-unagreed = eqb_yes u 0 p.3;
    }
kind-says Kind.Lease J pn last first u count e = lease-says pn first u count e
kind-says Kind.LeaseAck J pn last first u count e = lease-says pn first u count e

pub kind-made : (k : Kind) (J pn last first unagreed count : ℕ)
    → FormedKind k J pn last first unagreed count
    → form_kind k J pn last first unagreed count ≡ true
unfolding form_kind
kind-made Kind.Collect J pn last first u count h = bare-made first u count h
kind-made Kind.Last J pn last first u count h =
    and_both (and_both (first_made h.first) (count-made h.held)) (go h.under)
  where
    go : Or (u ≡ 0) (first + count ≡ last + 2)
        → (eqb u 0 || eqb (first + count) (last + 2)) ≡ true
    go (left e) = or_left _ (eq-eqb u 0 e)
    go (right e) = or_right (eqb u 0) (eq-eqb (first + count) (last + 2) e)
kind-made Kind.Begin J pn last first u count h =
    and_both
    (and_both
    (and_both (first_made h.first)
    (and_both (eq-eqb count 1 h.one_record) (le-leb count J h.fits)))
    (lt-ltb last most_number h.room))
    (eq-eqb u 0 h.no-unagreed)
kind-made Kind.Accept J pn last first u count h = bare-made first u count h
kind-made Kind.Commit J pn last first u count h =
    and_both
    (and_both
    (and_both (first_made h.first) (eq-eqb (first + count) (last + 1) h.all-records))
    (le-leb count J h.room))
    (eq-eqb u 0 h.no-unagreed)
kind-made Kind.Lease J pn last first u count h = lease_made pn first u count h
kind-made Kind.LeaseAck J pn last first u count h = lease_made pn first u count h

pub record FormedLetter (J : ℕ) (y : Letter) : Type 0 where
  pub kind :
      FormedKind y.head.kind J y.head.pn y.head.last y.head.first
      y.head.unagreed (length y.records)
  pub records : All Proper y.records
  pub pn : y.head.pn ≤ most_pn
  pub unagreed : y.head.unagreed ≤ most_pn
  pub last : y.head.last ≤ most_number

module _ {J : ℕ} {y : Letter} where
  pub letter-says : form_letter J y ≡ true → FormedLetter J y
  unfolding form_letter
  letter-says e = let p = passed _ e in record {
    kind = kind-says y.head.kind J _ _ _ _ _ p.0;
    records = each_all proper y.records p.1.0;
    pn = leb-true _ _ p.1.1.0;
    unagreed = leb-true _ _ p.1.1.1.0;
    last = leb-true _ _ p.1.1.1.1.0;
  }

  pub letter-made : FormedLetter J y → form_letter J y ≡ true
  unfolding form_letter
  letter-made h =
      made
      (kind-made y.head.kind J _ _ _ _ _ h.kind
      & all-each proper y.records h.records
      & le-leb _ _ h.pn
      & le-leb _ _ h.unagreed
      & le-leb _ _ h.last
      & none)

-- ---- a site

pub record FormedLink (s : Site) (a b : ℕ) : Type 0 where
  pub room : length (s.link a b) ≤ s.L
  pub letters : All (FormedLetter s.J) (s.link a b)

pub record Formed (s : Site) : Type 0 where
  pub sizes : FormedSizes s.n s.J s.L
  pub some-epoch : 1 ≤ s.epoch
  pub few_epochs : s.epoch ≤ most_epoch
  pub present : set_form s.n s.present ≡ true
  pub boxes : (b : ℕ) → In b s.n → FormedBox s.n s.J b (s.box b)
  pub one-leader : AtMostOne s.n (λ b. (s.box b).head.leads)
  pub links : (a b : ℕ) → In a s.n → In b s.n → (a ≡ b → ⊥) → FormedLink s a b

module _ {s : Site} where
  link-says : (a b : ℕ) → form_link s a b ≡ true → (a ≡ b → ⊥) → FormedLink s a b
  unfolding form_link
  link-says a b e ab =
      let room = leb (length (s.link a b)) s.L in
      let letters = each (form_letter s.J) (s.link a b) in
      let p = and_yes room letters (rw (ne_eqb a b ab) at e) in
      record {
        room = leb-true _ _ p.0;
        letters = All-map (λ y. letter-says) (each_all (form_letter s.J) (s.link a b) p.1);
      }

  link-made : (a b : ℕ) → ((a ≡ b → ⊥) → FormedLink s a b) → form_link s a b ≡ true
  unfolding form_link
  link-made a b h = go (same? a b)
    where
      go : Or (a ≡ b) (a ≡ b → ⊥) → form_link s a b ≡ true
      go (left e) = or_left _ (eq-eqb a b e)
      go (right e) =
          or_right (eqb a b)
          (and_both (le-leb _ _ (h e).room)
          (all-each (form_letter s.J) (s.link a b) (All-map (λ y. letter-made) (h e).letters)))

  pub form-says : form s ≡ true → Formed s
  unfolding form
  form-says e =
      let p = passed _ e in
      let epoch = within-says 1 most_epoch s.epoch p.1.0 in
      record {
        sizes = sizes-says p.0;
        some-epoch = epoch.0;
        few_epochs = epoch.1;
        present = p.1.1.0;
        boxes = λ b h. box-says (every-at s.n _ p.1.1.1.0 b h);
        one-leader = one-says s.n _ (leb-true _ _ p.1.1.1.1.0);
        links = λ a b ha hb ab.
            link-says a b
            (every-at s.n _ (every-at s.n _ p.1.1.1.1.1.0 a ha) b hb) ab;
      }

  pub form-made : Formed s → form s ≡ true
  unfolding form
  form-made h =
      made
      (sizes-made h.sizes
      & within-made 1 most_epoch s.epoch h.some-epoch h.few_epochs
      & h.present
      & every_made s.n _ (λ b i. box-made (h.boxes b i))
      & le-leb _ _ (one-made s.n _ h.one-leader)
      & every_made s.n _
      (λ a ha. every_made s.n _ (λ b hb. link-made a b (h.links a b ha hb)))
      & none)
