-- Demand 3 of what the rules answer.
use Prim.Native.Nat.{ℕ, ◌≤◌, ◌<◌, max}
use mathlib.Core.Path.{◌≡◌, refl, sym, ap, ◌∙◌, subst}
use mathlib.Core.Bool.{true}
use mathlib.Core.List.{List, [], ◌∷◌, ◌++◌, tail}
use native.Mathlib.Omega.{arith}
use lib.ListN.{length}
use Rattle.rules.specs.Sizes.{record_of, left_of, right_of}
use Rattle.rules.specs.Box.{Box}
use Rattle.rules.specs.Site.{Site, is_box}
use Rattle.rules.specs.Step.{run, holds}
use Rattle.rules.specs.declared.model.Answer.{Answer}
use Rattle.rules.specs.declared.model.Call.{Call}
use Rattle.laws.proofs.Logic.{Or, left, right, below?}
use Rattle.laws.proofs.FormLaws.{is-box, box-is}
use Rattle.safety.specs.Demand3.{In, Agreed, record_at, start, Offered, Once, OverTime}
use Rattle.safety.specs.Demand3 as model
use Rattle.safety.proofs.Safe.{same-n}
use Rattle.safety.proofs.Demand.{demand_3}
use Rattle.said.specs.Said.{Talk, called, calls, At, OfferAt}
use Rattle.said.specs.Spoken.{Spoken, Safe, firsts, SpokenSafely}
use Rattle.said.proofs.Lines.{Told, line-says, line-true, line_untrue}
use Rattle.said.proofs.Past.{at_in, Past, past, in-range, by_form, run_is, run_more}
use Rattle.said.proofs.Example.{a-load}
use Rattle.said.proofs.Past.{place_of, place-once, offered_in, offered-at}

-- the record that the latest call offers
latest_record : List Call → ℕ
latest_record (Call.Offer c l r ∷ cs) = record_of l r
latest_record _ = 0

-- one Offer at one place: of two lists and two places that are equal
same_offer : {s : Site} {cs ds : List Call} {i j q r : ℕ} → cs ≡ ds → i ≡ j
    → Offered s cs i q → Offered s ds j r → q ≡ r
unfolding latest_record
same_offer t at (model.now cs c l r e) (model.now ds d m s f) = ap latest_record t
same_offer t at (model.now cs c l r e) (model.before d o) =
    absurd (omega (arith, at, ap length (ap tail t), offered_in o))
same_offer t at (model.before d o) (model.now cs c l r e) =
    absurd (omega (arith, at, ap length (ap tail t), offered_in o))
same_offer t at (model.before c o) (model.before d p) = same_offer (ap tail t) at o p

one-offer : {s : Site} {cs : List Call} {j q r : ℕ} → Offered s cs j q → Offered s cs j r → q ≡ r
one-offer o p = same_offer refl refl o p

-- an Offer of the box's record is one of the line's frames
frames : {h : Talk} {i k l r : ℕ} {x : Box} → Told x k l r
    → OfferAt Answer.Done h i (left_of (record_at x k)) (right_of (record_at x k))
    → OfferAt Answer.Done h i l r
frames {h} {i} t o = (
  o.0,
  subst (At h i)
      (λ u. called (Call.Offer o.0 (t.left_is u) (t.right_is u)) Answer.Done) o.1,
)

module _ {n J L : ℕ} {h : Talk} {s : Site} (p : Spoken n J L h s) where
  boxes_are : s.n ≡ n
  boxes_are = ap (λ (t : Site). t.n) (run_is p) ∙ same-n n J L (in-range p) (calls h)

  box-here : (b : ℕ) → In b n → is_box s.n b ≡ true
  box-here b i = ap (λ m. is_box m b) boxes_are ∙ box-is i

  -- a line that is true now
  module _ (b k l r : ℕ) (yes : holds s b k l r ≡ Answer.Done) where
    a-box : In b n
    a-box = is-box (ap (λ m. is_box m b) (sym boxes_are) ∙ (line-says s b k l r yes).0)

    so_told : Told (s.box b) k l r
    so_told = (line-says s b k l r yes).1

    -- .. is one of every longer run
    once : (cs later : List Call) → cs ≡ later ++ calls h
        → Once n (start n J L) cs k (record_at (s.box b) k)
    once cs later time = record {
      later = later;
      earlier = calls h;
      time = time;
      box = b;
      box-in = a-box;
      agreed = subst (λ (t : Site). Agreed (t.box b) k) (run_is p) so_told.agreed;
      value = ap (λ (t : Site). record_at (t.box b) k) (sym (run_is p));
    }

module _ {n J L : ℕ} {h : Talk} {s : Site} (p : Spoken n J L h s) where
  -- where the number's offer stands, by the calls before it and by all that was said
  offers : OverTime n (start n J L) (calls h)
  offers = demand_3.offers-over-time n J L (in-range p) (calls h)

  abbrev offer-place : ℕ → ℕ
  offer-place k = place_of h (offers.offer-of k)

  -- a line of the past, true or not: the same site, some calls later
  module _ {i b k l r : ℕ} {a : Answer} (q : Past n J L h i b k l r a) where
    since : s ≡ run q.site q.later
    since =
        run_is p ∙ ap (run (start n J L)) q.time
        ∙ run_more (start n J L) q.later (calls q.said)
        ∙ ap (λ (t : Site). run t q.later) (sym (run_is q.spoken))

    grew : (firsts q.site b ≤ firsts s b)
        × ((q.site.box b).head.kept.last ≤ (s.box b).head.kept.last)
    grew =
        subst (λ (t : Site). (firsts q.site b ≤ firsts t b)
        × ((q.site.box b).head.kept.last ≤ (t.box b).head.kept.last)) (sym since)
        (demand_3.never-falls q.site q.later b)

  -- a true line of the past
  module _ {i b k l r : ℕ} (q : Past n J L h i b k l r Answer.Done) where
    then-told : Told (q.site.box b) k l r
    then-told = so_told q.spoken b k l r q.answer

    then-box : In b n
    then-box = a-box q.spoken b k l r q.answer

    then-once : Once n (start n J L) (calls h) k (record_at (q.site.box b) k)
    then-once = once q.spoken b k l r q.answer (calls h) q.later q.time

    offered : Offered (start n J L) (calls h) (offers.offer-of k) (record_at (q.site.box b) k)
    offered = offers.offer-is k _ then-once

    -- every number up to it that is kept is agreed, ..
    still : (m : ℕ) → firsts s b ≤ m → m ≤ k → Agreed (s.box b) m
    still m f e = (f, omega (arith, e, then-told.agreed.1, (grew q).1))

    agreed-line : (m : ℕ) → Agreed (s.box b) m
        → (left : ℕ) × (right : ℕ) × (holds s b m left right ≡ Answer.Done)
    agreed-line m a = (
      left_of (record_at (s.box b) m),
      right_of (record_at (s.box b) m),
      line-true s b m _ _ (by_form p) (box-here p b then-box)
          (record { agreed = a; left_is = refl; right_is = refl }),
    )

    some-line : (m : ℕ) → firsts s b ≤ m → m ≤ k
        → (left : ℕ) × (right : ℕ) × (holds s b m left right ≡ Answer.Done)
    some-line m f e = agreed-line m (still m f e)

    -- the last is one of those that are kept
    last_line : (m : ℕ) × (k ≤ m) × (left : ℕ) × (right : ℕ)
        × (holds s b m left right ≡ Answer.Done)
    last_line =
        let range = subst (λ (t : Site). In (firsts t b) (max 1 (t.box b).head.kept.last))
        (sym (run_is p))
        ((demand_3.after_run n J L (in-range p) (calls h)).kept-range b then-box) in
        let some : 1 ≤ firsts q.site b =
        subst (λ (t : Site). 1 ≤ firsts t b) (sym (run_is q.spoken))
        ((demand_3.after_run n J L (in-range p) (calls q.said)).kept-range b then-box).0 in
        let high : k ≤ (s.box b).head.kept.last =
        omega (arith, then-told.agreed.1, (grew q).1) in
        let low : 1 ≤ k = omega (arith, some, then-told.agreed.0) in
        let a : firsts s b ≤ (s.box b).head.kept.last = omega (arith, range.1, high, low) in
        let t = agreed-line (s.box b).head.kept.last (a, omega arith) in
        ((s.box b).head.kept.last, high, t.0, t.1, t.2)

    -- .. and itself with its frames
    stays : firsts s b ≤ k → holds s b k l r ≡ Answer.Done
    stays f =
        let a = still k f (omega arith) in
        let g = subst (λ (t : Site). Agreed (t.box b) k
        → record_at (t.box b) k ≡ record_at (q.site.box b) k) (sym (since q))
        (demand_3.kept-agreed q.site q.later b k then-told.agreed) a in
        line-true s b k l r (by_form p) (box-here p b then-box)
        (record {
          agreed = a;
          left_is = ap left_of g ∙ then-told.left_is;
          right_is = ap right_of g ∙ then-told.right_is;
        })

  same-frames : {i j b d k l r l' r' : ℕ} → Past n J L h i b k l r Answer.Done
      → Past n J L h j d k l' r' Answer.Done → (l ≡ l') × (r ≡ r')
  same-frames q u =
      let e = one-offer (offered q) (offered u) in (
        sym (then-told q).left_is ∙ ap left_of e ∙ (then-told u).left_is,
        sym (then-told q).right_is ∙ ap right_of e ∙ (then-told u).right_is,
      )

-- a line that was true and later was not: its first has passed it
passed : {n J L : ℕ} {h : Talk} {s : Site} {i b k l r : ℕ} {a : Answer} → Spoken n J L h s
    → Past n J L h i b k l r Answer.Done → holds s b k l r ≡ a → (a ≡ Answer.Done → ⊥)
    → k < firsts s b
passed {s = s} {b = b} {k = k} p q e not = go (below? k (firsts s b))
  where
    go : Or (k < firsts s b) (firsts s b ≤ k) → k < firsts s b
    go (left f) = f
    go (right f) = absurd (not (sym e ∙ stays p q f))

module _ {n J L : ℕ} {h : Talk} {s : Site} (p : Spoken n J L h s) where
  safely : Safe h (holds s) (firsts s)
  safely = record {
    agreement = λ i j b d k l r l' r' q u. same-frames p (past p q) (past p u);
    no_hole = λ i b k m l r q f e. some-line p (past p q) k f e;
    between = λ i b j k m l r l' r' yes q f e.
        some-line p (past p q) k (omega (arith, f, (so_told p b j l' r' yes).agreed.0)) e;
    kept = λ i b k l r q f. stays p (past p q) f;
    dropped = λ i j b k l r a q u e not l' r'.
        let v = past p u in
        let w = past v.spoken (v.until q e) in
        let f = passed v.spoken w v.answer not in
        line_untrue s b k l' r' (by_form p) (box-here p b (then-box p (past p q)))
        (λ (g : Agreed (s.box b) k). absurd (omega (arith, f, g.0, (grew p v).0)));
    lasting = λ i b k l r q. last_line p (past p q);
    origin = λ i b k l r q.
        let v = past p q in
        let o = frames (then-told p v)
        (offered-at v.spoken
        ((offers v.spoken).offer-is k _ (once v.spoken b k l r v.answer _ [] refl))) in (
          offer-place v.spoken k,
          omega (arith, at_in o.1, v.place),
          (o.0, v.since o.1),
        );
    offer-of = offer-place p;
    offer-is = λ i b k l r q.
        let v = past p q in
        frames (then-told p v) (offered-at p (offered p v));
    offer-once = λ i j b d k m l r l' r' q u e.
        let v = past p q in
        let w = past p u in
        (offers p).offer-once k m _ _ (then-once p v) (then-once p w)
        (place-once h _ _ (offered_in (offered p v)) (offered_in (offered p w)) e);
  }

pub spoken-safely : SpokenSafely
spoken-safely = record { demand_3 = safely; not-empty = a-load }
