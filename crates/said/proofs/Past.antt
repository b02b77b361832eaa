-- What was said is what the rules answered, each at a site of the run.
use Prim.Native.Nat.{ℕ, ◌≤◌, ◌<◌}
use mathlib.Core.Path.{◌≡◌, refl, sym, ap, ◌∙◌, subst}
use mathlib.Core.Bool.{true, cond}
use mathlib.Core.List.{List, [], ◌∷◌, ◌++◌}
use native.Mathlib.Omega.{arith}
use lib.Dec.{ltb}
use lib.ListN.{length}
use borrow.Author.Tests.{ltb-true, lt-ltb, le-ltb}
use Rattle.rules.specs.Sizes.{most_boxes, record_of, left_of, right_of}
use Rattle.rules.specs.Site.{Site}
use Rattle.rules.specs.Form.{form}
use Rattle.rules.specs.Step.{step, run, holds}
use Rattle.rules.specs.declared.model.Answer.{Answer}
use Rattle.rules.specs.declared.model.Call.{Call}
use Rattle.laws.proofs.Logic.{Or, left, right, below?, cond_elim}
use Rattle.laws.proofs.FormKept.{step-keeps-form, fresh-form}
use Rattle.laws.proofs.FormLaws.{sizes-says}
use Rattle.safety.specs.Demand3.{In, start, Offered}
use Rattle.safety.specs.Demand3 as model
use Rattle.said.specs.Said.{Said, Talk, called, held, calls, At, latest, before, OfferAt}
use Rattle.said.specs.Spoken.{Spoken, begun, stepped, asked}

pub at_in : {h : Talk} {i : ℕ} {w : Said Answer} → At h i w → i < length h
at_in latest = omega arith
at_in (before q) = omega (arith, at_in q)

pub at_place : {A : Type 0} {h : List (Said A)} {i j : ℕ} {w : Said A} → i ≡ j → At h i w
    → At h j w
at_place {h} {w = w} e q = subst (λ (i : ℕ). At h i w) e q

pub run_more : (s : Site) (ds cs : List Call) → run s (ds ++ cs) ≡ run (run s cs) ds
unfolding run
run_more s [] cs = refl
run_more s (d ∷ ds) cs = ap (λ (t : Site). (step t d).next) (run_more s ds cs)

module _ {n J L : ℕ} where
  pub in-range : {h : Talk} {s : Site} → Spoken n J L h s → In n most_boxes
  in-range (begun e) = let z = sizes-says e in (z.some-boxes, z.few-boxes)
  in-range (stepped d f p) = in-range p
  in-range (asked b k l r p) = in-range p

  pub by_form : {h : Talk} {s : Site} → Spoken n J L h s → form s ≡ true
  by_form (begun e) = fresh-form n J L e
  by_form (stepped {s = s} d f p) = step-keeps-form s d f (by_form p)
  by_form (asked b k l r p) = by_form p

  pub run_is : {h : Talk} {s : Site} → Spoken n J L h s → s ≡ run (start n J L) (calls h)
  unfolding run
  run_is (begun e) = refl
  run_is (stepped d f p) = ap (λ (s : Site). (step s d).next) (run_is p)
  run_is (asked b k l r p) = run_is p

-- ---- a holds line, when it was asked

pub record Past (n J L : ℕ) (h : Talk) (i b k l r : ℕ) (a : Answer) : Type 0 where
  pub said : Talk
  pub site : Site
  pub spoken : Spoken n J L said site
  pub answer : holds site b k l r ≡ a
  pub place : length said ≡ i
  pub later : List Call
  pub time : calls h ≡ later ++ calls said
  pub since : {m : ℕ} {w : Said Answer} → At said m w → At h m w
  pub until : {m : ℕ} {w : Said Answer} → At h m w → m < i → At said m w

-- something more was said
module _ {h : Talk} {i : ℕ} {v : Said Answer} (i-in : i < length h) where
  not-latest : {m : ℕ} {w : Said Answer} → At (v ∷ h) m w → m < i → At h m w
  not-latest latest e = absurd (omega (arith, e, i-in))
  not-latest (before q) e = q

pub past : {n J L : ℕ} {h : Talk} {s : Site} {i b k l r : ℕ} {a : Answer}
    → Spoken n J L h s → At h i (held b k l r a) → Past n J L h i b k l r a
past (asked b k l r p) latest = record {
  said = _;
  site = _;
  spoken = p;
  answer = refl;
  place = refl;
  later = [];
  time = refl;
  since = before;
  until = not_last;
}
  where
    not_last : {h : Talk} {m : ℕ} {v w : Said Answer} → At (v ∷ h) m w → m < length h → At h m w
    not_last latest e = absurd (omega (arith, e))
    not_last (before q) e = q
past (asked b k l r p) (before q) = let t = past p q in record {
  said = t.said;
  site = t.site;
  spoken = t.spoken;
  answer = t.answer;
  place = t.place;
  later = t.later;
  time = t.time;
  since = λ u. before (t.since u);
  until = λ u e. t.until (not-latest (at_in q) u e) e;
}
past (stepped d f p) (before q) = let t = past p q in record {
  said = t.said;
  site = t.site;
  spoken = t.spoken;
  answer = t.answer;
  place = t.place;
  later = d ∷ t.later;
  time = ap (λ (cs : List Call). d ∷ cs) t.time;
  since = λ u. before (t.since u);
  until = λ u e. t.until (not-latest (at_in q) u e) e;
}
past (begun e) q = elim q [ ]

-- ---- a call's place among all that was said, by its place among the calls

pub place_of : Talk → ℕ → ℕ
place_of [] j = 0
place_of (called d a ∷ h) j = cond (ltb j (length (calls h))) (place_of h j) (length h)
place_of (held b k l r a ∷ h) j = place_of h j

module _ (d : Call) (a : Answer) (h : Talk) (j : ℕ) where
  place-before : j < length (calls h) → place_of (called d a ∷ h) j ≡ place_of h j
  unfolding place_of
  place-before e = rw (lt-ltb j (length (calls h)) e) refl

  place-latest : length (calls h) ≤ j → place_of (called d a ∷ h) j ≡ length h
  unfolding place_of
  place-latest e = rw (le-ltb j (length (calls h)) e) refl

  -- of two: it was called before d, or is d
  abbrev Before? : Type 0
  Before? = Or (j < length (calls h)) (length (calls h) ≤ j)

place_in : (h : Talk) (j : ℕ) → j < length (calls h) → place_of h j < length h
unfolding place_of
place_in [] j e = absurd (omega (arith, e))
place_in (held b k l r a ∷ h) j e = omega (arith, place_in h j e)
place_in (called d a ∷ h) j e =
    cond_elim (λ p. p < length (called d a ∷ h)) (ltb j (length (calls h)))
    (λ q. omega (arith, place_in h j (ltb-true _ _ q)))
    (λ q. omega arith)

pub place-once : (h : Talk) (i j : ℕ) → i < length (calls h) → j < length (calls h)
    → place_of h i ≡ place_of h j → i ≡ j
unfolding place_of
place-once [] i j e f same = absurd (omega (arith, e))
place-once (held b k l r a ∷ h) i j e f same = place-once h i j e f same
place-once (called d a ∷ h) i j e f same =
    go (below? i (length (calls h))) (below? j (length (calls h))) (place-once h i j)
  where
    go : Before? d a h i → Before? d a h j
        → (i < length (calls h) → j < length (calls h) → place_of h i ≡ place_of h j → i ≡ j)
        → i ≡ j
    go (left p) (left q) more =
        more p q (sym (place-before d a h i p) ∙ same ∙ place-before d a h j q)
    go (left p) (right q) more = absurd (omega (
      arith,
      place_in h i p,
      sym (place-before d a h i p) ∙ same ∙ place-latest d a h j q,
    ))
    go (right p) (left q) more = absurd (omega (
      arith,
      place_in h j q,
      sym (place-before d a h j q) ∙ sym same ∙ place-latest d a h i p,
    ))
    go (right p) (right q) more = omega (arith, e, f, p, q)

pub offered_in : {s : Site} {cs : List Call} {j q : ℕ} → Offered s cs j q → j < length cs
offered_in (model.now cs c l r e) = omega arith
offered_in (model.before d o) = omega (arith, offered_in o)

-- the Offer that was just done
offer-said : {h : Talk} {c l r i : ℕ} {a : Answer} → l < 4294967296 → r < 4294967296
    → a ≡ Answer.Done → i ≡ length h
    → OfferAt Answer.Done (called (Call.Offer c l r) a ∷ h) i (left_of (record_of l r))
    (right_of (record_of l r))
offer-said {h} {c} {l} {r} {i} {a} fl fr e at =
    let el : left_of (record_of l r) ≡ l = omega (arith, fl, fr) in
    let er : right_of (record_of l r) ≡ r = omega (arith, fl, fr) in (
      c,
      subst (λ (w : Said Answer). At (called (Call.Offer c l r) a ∷ h) i w)
          (λ t. called (Call.Offer c (sym el t) (sym er t)) (e t))
          (at_place (sym at) latest),
    )

pub offered-at : {n J L : ℕ} {h : Talk} {s : Site} {j q : ℕ} → Spoken n J L h s
    → Offered (start n J L) (calls h) j q
    → OfferAt Answer.Done h (place_of h j) (left_of q) (right_of q)
unfolding place_of
offered-at (asked b k l r p) o = let t = offered-at p o in (t.0, before t.1)
offered-at (stepped {h = h} {s = s} d f p) (model.before e {j = j} o) =
    let t = offered-at p o in (
      t.0,
      at_place (sym (place-before d (step s d).answer h j (offered_in o))) (before t.1),
    )
offered-at (stepped {h = h} {s = s} d f p) (model.now cs c l r e) =
    offer-said f.0 f.1
    (ap (λ (t : Site). (step t (Call.Offer c l r)).answer) (run_is p) ∙ e)
    (place-latest d (step s d).answer h (length (calls h)) (omega arith))
offered-at (begun e) o = elim o [ ]
