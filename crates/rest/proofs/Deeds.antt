-- Demand 3 holds with rest steps anywhere in a run.
use Prim.Native.Nat.{ℕ, ◌-◌, ◌<◌, max}
use mathlib.Core.Path.{◌≡◌, refl, sym, ap, ap₂, ◌∙◌, subst}
use mathlib.Core.Bool.{true, false}
use mathlib.Core.List.{List, [], ◌∷◌, ◌++◌}
use native.Mathlib.Omega.{arith}
use lib.ListN.{length, get_or}
use borrow.Author.Tests.{not-true}
use Rattle.rules.specs.Sizes.{even, sizes_form, proper}
use Rattle.rules.specs.Fields.{with_kept}
use Rattle.rules.specs.Box.{Box}
use Rattle.rules.specs.Site.{Site, fresh_head, fresh}
use Rattle.rules.specs.Form.{form}
use Rattle.rules.specs.Step.{step, run}
use Rattle.laws.proofs.Types.{Call, Kept}
use Rattle.laws.proofs.Logic.{Or, left, right}
use Rattle.laws.proofs.FormLaws.{sizes-says}
use Rattle.laws.proofs.View.{Links, store}
use Rattle.laws.proofs.Growth.{Grows, Grown, grows-refl, grows_trans, grow_step}
use Rattle.laws.proofs.StepLaws.{changed, by-ruled, sizes_run}
use Rattle.laws.proofs.FormKept.{step-keeps-form, fresh-form}
use Rattle.safety.specs.Demand3.{In, Agreed, record_at, start, Offered, AfterRun}
use Rattle.safety.specs.Demand3.{now as offered, before as earlier}
use Rattle.safety.proofs.Demand.{demand_3}
use Rattle.rest.specs.Rest.{rested, rest}
use Rattle.rest.specs.Rests.{AllFit, sees_links}
use Rattle.rest.specs.Deeds.{Deed, calls, rests, done_by, calls_of, OfferedIn, now, before}
use Rattle.rest.specs.Deeds.{RestsKeep, Demand3Rests}
use Rattle.rest.proofs.Going.{Going, going_step}
use Rattle.rest.proofs.Resting.{Resting, Onward, resting-onward, resting-call}
use Rattle.rest.proofs.Seen.{begun, agreed-after, load-after-rest}
use Rattle.rest.proofs.Rests.{rested-form, going-kept, going-records, going-call}

-- ---- what is agreed only grows

rest-grows : (s : Site) → Grown s (rest s).next
unfolding rest rested
rest-grows s b =
    by-ruled (λ t. Grows (store (s.box b)) (store (t.box b))) s _ _
    (grows-refl (store (s.box b))) (λ p. grows-refl (store (s.box b)))

grow_deeds : (s : Site) (ds : List Deed) → Grown s (done_by s ds)
unfolding done_by
grow_deeds s [] = λ b. grows-refl (store (s.box b))
grow_deeds s (calls d ∷ ds) =
    λ b. grows_trans (grow_deeds s ds b) (grow_step (done_by s ds) d b)
grow_deeds s (rests ∷ ds) = λ b. grows_trans (grow_deeds s ds b) (rest-grows (done_by s ds) b)

-- ---- the run of the calls alone, and the run with rests

-- x without the rests, y with them
abbrev Beside : Site → Site → Type 0
Beside x y = Or (Resting x y) (Going x y)

going-self : (s : Site) → Going s s
going-self s = record {
  same = refl;
  boxes = λ b h. record {
    same = refl;
    unread = record {
      best = λ e. refl;
      answered = λ e. refl;
      peers = λ e. refl;
      accepts = λ e. refl;
      heard = λ e. refl;
    };
  };
}

forget : {e : ℕ} {x y : Site} → Onward e x y → Beside x y
forget (left r) = left r.0
forget (right g) = right g.0

beside-step : {x y : Site} → form x ≡ true → form y ≡ true → (d : Call) → Beside x y
    → Beside (step x d).next (step y d).next
beside-step fx fy d (left r) = forget (resting-onward r fx fy d)
beside-step fx fy d (right g) = right (going_step g fx fy d).going

-- the sizes are still those of x
rested-same : (x y : Site) (link : Links) → y ≡ changed x y.box link
    → rested y ≡ changed x (rested y).box (rested y).link
unfolding rested
rested-same x y link e =
    ap (λ (z : Site). record {
      n = z.n;
      J = z.J;
      L = z.L;
      epoch = z.epoch;
      present = z.present;
      box = (rested y).box;
      link = (rested y).link;
    }) e

rested-beside : (x y : Site) → even y.epoch ≡ false → Beside x y → Resting x (rested y)
unfolding rested
rested-beside x y odd (left r) = record {
  same = rested-same x y y.link r.same;
  odd = r.odd;
  kept = r.kept;
  records = r.records;
}
rested-beside x y odd (right g) = record {
  same = rested-same x y x.link g.same;
  odd = sym (ap (λ (z : Site). even z.epoch) g.same) ∙ odd;
  kept = going-kept g;
  records = going-records g;
}

rest-beside : (x y : Site) → Beside x y → Beside x (rest y).next
unfolding rest
rest-beside x y h =
    by-ruled (Beside x) y _ _ h (λ p. left (rested-beside x y (not-true _ p.1.0) h))

pub rest-form : (s : Site) → form s ≡ true → form (rest s).next ≡ true
unfolding rest
rest-form s f = by-ruled (λ t. form t ≡ true) s _ _ f (λ p. rested-form s f)

-- ---- demand 3

calls_append : (ds es : List Deed) → calls_of (ds ++ es) ≡ calls_of ds ++ calls_of es
calls_append [] es = refl
calls_append (calls d ∷ ds) es = ap (d ∷◌) (calls_append ds es)
calls_append (rests ∷ ds) es = calls_append ds es

fits_append : (ds es : List Deed) → AllFit (calls_of (ds ++ es)) → AllFit (calls_of es)
fits_append [] es h = h
fits_append (calls d ∷ ds) es h = fits_append ds es h.1
fits_append (rests ∷ ds) es h = fits_append ds es h

module _ (n J L : ℕ) (sizes : sizes_form n J L ≡ true) where
  -- the run of the calls alone
  abbrev plain : List Deed → Site
  plain ds = run (start n J L) (calls_of ds)

  abbrev with : List Deed → Site
  with ds = done_by (start n J L) ds

  some-n : In n 5
  some-n = let f = sizes-says sizes in (f.some-boxes, f.few-boxes)

  record Pair (ds : List Deed) : Type 0 where
    fx : form (plain ds) ≡ true
    fy : form (with ds) ≡ true
    beside : Beside (plain ds) (with ds)

  pairs : (ds : List Deed) → AllFit (calls_of ds) → Pair ds
  unfolding run done_by
  pairs [] h = record {
    fx = fresh-form n J L sizes;
    fy = fresh-form n J L sizes;
    beside = right (going-self (start n J L));
  }
  pairs (calls d ∷ ds) h = let p = pairs ds h.1 in record {
    fx = step-keeps-form _ d h.0 p.fx;
    fy = step-keeps-form _ d h.0 p.fy;
    beside = beside-step p.fx p.fy d p.beside;
  }
  pairs (rests ∷ ds) h = let p = pairs ds h in record {
    fx = p.fx;
    fy = rest-form _ p.fy;
    beside = rest-beside _ _ p.beside;
  }

  -- a box without what demand 3 does not speak of
  abbrev filed : Box → Box
  filed x = record { head = with_kept x.head.kept fresh_head; records = x.records }

  beside-filed : (x y : Site) → Beside x y → (b : ℕ) → In b x.n
      → filed (y.box b) ≡ filed (x.box b)
  beside-filed x y (left r) b h =
      ap₂ (λ (k : Kept) (rs : List ℕ). record { head = with_kept k fresh_head; records = rs })
      (sym (r.kept b h)) (sym (r.records b h))
  beside-filed x y (right g) b h =
      ap₂ (λ (k : Kept) (rs : List ℕ). record { head = with_kept k fresh_head; records = rs })
      (sym (going-kept g b h)) (sym (going-records g b h))

  module _ (ds : List Deed) (fits : AllFit (calls_of ds)) where
    module _ (b : ℕ) (h : In b n) where
      same : filed ((with ds).box b) ≡ filed ((plain ds).box b)
      unfolding fresh
      same =
          beside-filed (plain ds) (with ds) (pairs ds fits).beside b
          (subst (In b) (sym (sizes_run (start n J L) (calls_of ds)).n) h)

      agreed-at : (k : ℕ) → Agreed ((with ds).box b) k → Agreed ((plain ds).box b) k
      agreed-at k = subst (λ (x : Box). Agreed x k) same

      record-at : (k : ℕ) → record_at ((with ds).box b) k ≡ record_at ((plain ds).box b) k
      record-at k = ap (λ (x : Box). record_at x k) same

    after_run : AfterRun n (start n J L) (calls_of ds) (with ds).box
    after_run = let r = demand_3.after_run n J L some-n (calls_of ds) in record {
      agreement = λ b d k hb hd ab ad.
          record-at b hb k
          ∙ r.agreement b d k hb hd (agreed-at b hb k ab) (agreed-at d hd k ad)
          ∙ sym (record-at d hd k);
      kept-range = λ b hb.
          subst (λ (x : Box). In x.head.kept.first (max 1 x.head.kept.last))
          (sym (same b hb)) (r.kept-range b hb);
      no_hole = λ b k hb ab.
          subst (λ (x : Box). (k - x.head.kept.first < length x.records)
          × (proper (record_at x k) ≡ true))
          (sym (same b hb)) (r.no_hole b k hb (agreed-at b hb k ab));
      offer-of = r.offer-of;
      offer-is = λ b k hb ab.
          subst (Offered (start n J L) (calls_of ds) (r.offer-of k)) (sym (record-at b hb k))
          (r.offer-is b k hb (agreed-at b hb k ab));
      offer-once = λ b d j k hb hd aj ak.
          r.offer-once b d j k hb hd (agreed-at b hb j aj) (agreed-at d hd k ak);
    }

    answers : (d : Call) → (even (plain ds).epoch ≡ false → sees_links d ≡ false)
        → (step (plain ds) d).answer ≡ (step (with ds) d).answer
    answers d e = let p = pairs ds fits in go p.fx p.fy p.beside
      where
        go : form (plain ds) ≡ true → form (with ds) ≡ true → Beside (plain ds) (with ds)
            → (step (plain ds) d).answer ≡ (step (with ds) d).answer
        go fx fy (left r) = (resting-call r fx fy d (e r.odd)).answer
        go fx fy (right g) = (going-call fx fy g d).answer

  offers : (ds : List Deed) → AllFit (calls_of ds) → {j r : ℕ}
      → Offered (start n J L) (calls_of ds) j r → OfferedIn (start n J L) ds j r
  offers (rests ∷ ds) h o = before rests (offers ds h o)
  offers (calls d ∷ ds) h (earlier e o) = before (calls d) (offers ds h.1 o)
  offers (calls d ∷ ds) h (offered cs c l r e) =
      now ds c l r (sym (answers ds h.1 (Call.Offer c l r) (λ odd. refl)) ∙ e)
  offers [] h o = elim o [ ]

  over-time : (ds further : List Deed) → AllFit (calls_of (further ++ ds)) → (b d k : ℕ)
      → In b n → In d n
      → Agreed ((with ds).box b) k → Agreed ((with (further ++ ds)).box d) k
      → record_at ((with (further ++ ds)).box d) k ≡ record_at ((with ds).box b) k
  over-time ds further h b d k hb hd early late =
      let e = calls_append further ds in
      let g = fits_append further ds h in
      record-at (further ++ ds) h d hd k
      ∙ ap (λ (cs : List Call). record_at ((run (start n J L) cs).box d) k) e
      ∙ demand_3.over-time n J L some-n (calls_of ds) (calls_of further) b d k hb hd
      (agreed-at ds g b hb k early)
      (subst (λ (cs : List Call). Agreed ((run (start n J L) cs).box d) k) e
      (agreed-at (further ++ ds) h d hd k late))
      ∙ sym (record-at ds g b hb k)

  keeps : RestsKeep n J L
  keeps = record {
    after_run = after_run;
    offers = offers;
    over-time = over-time;
    answers = answers;
  }

-- one of the numbers that were computed
read : (k : ℕ) {l m : List ℕ} → l ≡ m → get_or l k 0 ≡ get_or m k 0
read k = ap (λ (l : List ℕ). get_or l k 0)

pub demand_3_rests : Demand3Rests
demand_3_rests = record {
  keeps = keeps;
  never-falls = λ s ds b. let g = grow_deeds s ds b in (g.first, g.up);
  kept-agreed = λ s ds b k early late. (grow_deeds s ds b).same k late.0 early.1;
  not-empty = (
    begun,
    agreed-after,
    (omega (arith, read 2 load-after-rest), omega (arith, read 0 load-after-rest)),
    (omega (arith, read 3 load-after-rest), omega (arith, read 1 load-after-rest)),
  );
}
