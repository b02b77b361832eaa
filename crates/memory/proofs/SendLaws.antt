-- One mail to each box of a set: room for it, and the links when it has gone to the first boxes.
use Prim.Native.Nat.{ℕ, zero, suc, ◌+◌, ◌≤◌, ◌<◌}
use mathlib.Core.Path.{◌≡◌, refl, sym, ap, ◌∙◌}
use mathlib.Core.Bool.{Bool, true, false, not, ◌&&◌, and-false, ◌||◌, cond}
use mathlib.Core.List.{List, [], ◌∷◌, ◌++◌}
use native.Mathlib.Decide.{dec_lt}
use native.Mathlib.Omega.{arith}
use lib.Dec.{eqb, leb, ltb}
use lib.ListN.{length, take, length-take, get_or-eq_default}
use borrow.Author.Tests.{leb-true, leb-false, le-leb, lt-leb, ltb-true, ne_eqb}
use Rattle.rules.specs.Every.{every}
use Rattle.rules.specs.Sets.{has, set_form}
use Rattle.rules.specs.Parts.{span}
use Rattle.rules.specs.Box.{Letter, enclosed, letter_of}
use Rattle.rules.specs.Form.{form_letter}
use Rattle.rules.specs.Site.{is_box, is_link}
use Rattle.rules.specs.declared.model.Kind.{Kind}
use Rattle.rules.specs.declared.model.Mail.{Mail}
use Rattle.rules.specs.declared.model.Setting.{Setting}
use Rattle.laws.proofs.Logic.{both-no, eqb_yes, eqb_no, and_both, All, All-head, every-at}
use Rattle.laws.proofs.SetLaws.{set_in}
use Rattle.laws.proofs.FormLaws.{Proper, FormedKind, letter-says, proper-some}
use Rattle.letter.specs.Lent.{enclosed_from, enclosed_count}
use Rattle.link.specs.Holds.{Sendable}
use Rattle.memory.specs.After.{links_of, LinksLent, LinksPut, room_for, sent, SendsTo}
use Rattle.memory.proofs.LinkLaws.{not-sent}

-- a box of the set is another, and has a link from me
pub other-link : (n me b set : ℕ) → is_box n me ≡ true → is_box n b ≡ true → has set me ≡ false
    → has set b ≡ true → is_link n me b ≡ true
other-link n me b set hm hb out in-set =
    and_both (and_both hm hb)
    (ap not (ne_eqb me b (λ e. both-no in-set (ap (has set) (sym e) ∙ out))))

-- b is in the set: there is a link to it, which has room
module _ {s : Setting} {ls : List ℕ} {set b : ℕ} {m : Mail} {rs : List ℕ}
    (k : SendsTo s ls set b m rs) (in-set : has set b ≡ true) where
  pub to-link : is_link s.n s.me b ≡ true
  to-link = other-link s.n s.me b set k.me k.box k.other in-set

  pub to_room : length (links_of s ls s.me b) < s.l
  to_room = ltb-true _ _ (rw in-set at k.room)

-- ---- the letter

-- a letter by form has its records of those that are there, and has room for them
module _ (J pn last first unagreed : ℕ) (rs : List ℕ) where
  abbrev Enclosable : Kind → Type 0
  Enclosable k =
      (enclosed_from k (span first last) + enclosed_count k (span first last) (length rs)
      ≤ length rs)
      × (enclosed_count k (span first last) (length rs) ≤ J)
      × (first ≤ last + 1)

  enclosable : (k : Kind)
      → FormedKind k J pn last first unagreed (length (enclosed k (span first last) rs))
      → All Proper (enclosed k (span first last) rs) → Enclosable k
  unfolding enclosed
  enclosable Kind.Collect h p = (omega arith, omega arith, omega (arith, h.no-first))
  enclosable Kind.Last h p = (omega arith, h.held.room, omega (arith, h.first.top))
  enclosable Kind.Begin h p =
      (there (dec_lt (span first last) (length rs)), h.fits, omega (arith, h.first.top))
    where
      there : Dec (span first last < length rs) → span first last + 1 ≤ length rs
      there (yes l) = omega arith
      there (no l) =
          absurd
          (proper-some (All-head p)
          (get_or-eq_default rs 0 {n = span first last} (omega arith)))
  enclosable Kind.Accept h p = (omega arith, omega arith, omega (arith, h.no-first))
  enclosable Kind.Commit h p =
      let a = span first last in
      let top : first ≤ last + 1 = omega (arith, h.first.top) in
      let l : length (take a rs) ≡ a = omega (arith, h.all-records) in
      (omega (arith, length-take a rs), omega (arith, h.room), top)
  enclosable Kind.Lease h p = (omega arith, omega arith, omega (arith, h.bare.no-first))
  enclosable Kind.LeaseAck h p = (omega arith, omega arith, omega (arith, h.bare.no-first))

pub sendable : (J : ℕ) (m : Mail) (rs : List ℕ) → form_letter J (letter_of m rs) ≡ true
    → Sendable J m rs
sendable J m rs e =
    let f = letter-says e in
    let h = enclosable J m.pn m.last m.first m.unagreed rs m.kind f.kind
    f.records in
    record {
      numbered = record { last = f.last; first = h.2 };
      held = h.0;
      room = h.1;
    }

-- ---- the letters to the boxes up to b

-- a letter to the boxes below, and then to one more
cond-next {ℓ} : {A : Type ℓ} (t u now below up : Bool) (x : A) (f : A → A)
    → (now ≡ true → (below ≡ false) × (up ≡ true)) → (now ≡ false → below ≡ up)
    → cond (t && (u && now)) (f (cond (t && (u && below)) (f x) x))
    (cond (t && (u && below)) (f x) x)
    ≡ cond (t && (u && up)) (f x) x
cond-next false u now below up x f p q = refl
cond-next true false now below up x f p q = refl
cond-next true true true below up x f p q = rw ((p refl).0, (p refl).1) refl
cond-next true true false below up x f p q = rw (q refl) refl

module _ (s : Setting) (set : ℕ) (y : Letter) (ls₀ : List ℕ) where
  abbrev sent_up_to : ℕ → ℕ → ℕ → List Letter
  sent_up_to b = sent (links_of s ls₀) s.me (λ c. has set c && leb c b) y

  pub record SentUpTo (b : ℕ) (ls : List ℕ) : Type 0 where
    pub few : b ≤ s.n
    pub put : LinksPut s (sent_up_to b) ls₀ ls

module _ {s : Setting} {set : ℕ} {y : Letter} {ls₀ : List ℕ} where
  pub sent-none : LinksLent s ls₀ → SentUpTo s set y ls₀ 0 ls₀
  unfolding has
  sent-none lent = record {
    few = omega arith;
    put = record {
      links = λ t. λ x c.
          not-sent (links_of s ls₀) s.me (λ k. has set k && leb k 0) y x c (low c) t;
      past = refl;
      words = refl;
      lent = lent;
    };
  }
    where
      low : (c : ℕ) → (has set c && leb c 0) ≡ false
      low zero = refl
      low (suc c) = rw (lt-leb (suc c) 0 (omega arith), and-false (has set (suc c))) refl

  module _ {b : ℕ} {ls : List ℕ} (up_to : SentUpTo s set y ls₀ b ls) (h : b < s.n) where
    -- the next link is as it was
    next-link : links_of s ls s.me (b + 1) ≡ links_of s ls₀ s.me (b + 1)
    next-link =
        (λ t. up_to.put.links t s.me (b + 1))
        ∙ sym (not-sent (links_of s ls₀) s.me (λ k. has set k && leb k b) y s.me (b + 1)
        (rw (lt-leb (b + 1) b (omega arith), and-false (has set (b + 1))) refl))

    pub sent-room : every s.n (room_for s ls₀ set) ≡ true → room_for s ls set (b + 1) ≡ true
    sent-room room =
        ap (λ (l : List Letter). not (has set (b + 1)) || ltb (length l) s.l) next-link
        ∙ every-at s.n (room_for s ls₀ set) room (b + 1) (omega arith, omega arith)

    pub sent-more : {ls' : List ℕ}
        → LinksPut s (sent (links_of s ls) s.me (λ c. has set c && eqb c (b + 1)) y) ls ls'
        → SentUpTo s set y ls₀ (b + 1) ls'
    sent-more put = record {
      few = omega arith;
      put = record {
        links = put.links ∙ (λ t. λ x c.
            ((λ i. sent (up_to.put.links i) s.me (λ k. has set k && eqb k (b + 1)) y x c)
            ∙ next x c) t);
        past = put.past ∙ up_to.put.past;
        words = put.words ∙ up_to.put.words;
        lent = put.lent;
      };
    }
      where
        next : (x c : ℕ)
            → sent (sent_up_to s set y ls₀ b) s.me (λ k. has set k && eqb k (b + 1)) y x c
            ≡ sent_up_to s set y ls₀ (b + 1) x c
        next x c =
            cond-next (eqb x s.me) (has set c) (eqb c (b + 1)) (leb c b) (leb c (b + 1))
            (links_of s ls₀ x c) (λ l. l ++ (y ∷ []))
            (λ e. let d = eqb_yes c (b + 1) e in
            (lt-leb c b (omega arith), le-leb c (b + 1) (omega arith)))
            (λ e. apart (eqb_no c (b + 1) e) (leb c b) refl)
          where
            apart : (c ≡ b + 1 → ⊥) → (t : Bool) → leb c b ≡ t → t ≡ leb c (b + 1)
            apart ne true e = sym (le-leb c (b + 1) (omega (arith, leb-true c b e)))
            apart ne false e = sym (lt-leb c (b + 1) (omega (arith, leb-false c b e)))

  pub sent-all : {b : ℕ} {ls : List ℕ} → SentUpTo s set y ls₀ b ls → s.n ≤ b
      → set_form s.n set ≡ true → LinksPut s (sent (links_of s ls₀) s.me (has set) y) ls₀ ls
  sent-all {b} up_to h boxes = record {
    links = up_to.put.links ∙ (λ t. λ x c.
        cond (eqb x s.me && all c (has set c) refl t) (links_of s ls₀ x c ++ (y ∷ []))
        (links_of s ls₀ x c));
    past = up_to.put.past;
    words = up_to.put.words;
    lent = up_to.put.lent;
  }
    where
      all : (c : ℕ) (t : Bool) → has set c ≡ t → (t && leb c b) ≡ t
      all c true e =
          let i = set_in s.n set c boxes e in le-leb c b (omega (arith, i.1))
      all c false e = refl
