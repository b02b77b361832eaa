-- Demand 3 holds.
use Prim.Native.Nat.{ℕ, suc, ◌-◌, ◌≤◌, ◌<◌}
use mathlib.Core.Path.{◌≡◌, refl, sym, ap, ◌∙◌, subst}
use mathlib.Core.List.{List, [], ◌++◌, reverse}
use native.Mathlib.Omega.{arith}
use lib.ListN.{length, get_or}
use Rattle.rules.specs.Sizes.{most_boxes}
use Rattle.rules.specs.Site.{Site}
use Rattle.rules.specs.Step.{run}
use Rattle.laws.proofs.Types.{Call}
use Rattle.laws.proofs.Logic.{Or, left, right, below?}
use Rattle.laws.proofs.Growth.{grow_run}
use Rattle.safety.specs.Demand3.{In, Agreed, record_at, start, Offered, AfterRun, Once}
use Rattle.safety.specs.Demand3.{OverTime, Demand3}
use Rattle.safety.proofs.Safe.{agreed-list, longer-run, box-ok}
use Rattle.safety.proofs.Origin.{history_run}
use Rattle.safety.proofs.Proper.{proper-run}
use Rattle.safety.proofs.Example.{replayed-further, third_load, computed}

module _ (n J L : ℕ) (size : In n most_boxes) where
  abbrev end : List Call → Site
  end cs = run (start n J L) cs

  -- what is agreed after the calls, from number 1 on
  abbrev all : List Call → List ℕ
  all cs = agreed-list n J L size cs

  -- number k+1 of it
  agreed_record : (cs : List Call) (b k : ℕ) → In b n → Agreed ((end cs).box b) k
      → (k - 1 < length (all cs)) × (record_at ((end cs).box b) k ≡ get_or (all cs) (k - 1) 0)
  agreed_record cs b k hb h =
      let ok = box-ok n J L size cs b hb in
      let number : k ≡ suc (k - 1) = omega (arith, h.0, ok.shaped.some) in (
        omega (arith, number, h.1, ok.low),
        ap (λ (j : ℕ). record_at ((end cs).box b) j) number
            ∙ ok.agreed (k - 1) (omega (arith, number, h.0)) (omega (arith, number, h.1)),
      )

  -- .. and it is so after further calls
  agreed-later : (ds cs : List Call) (b k : ℕ) → In b n → Agreed ((end cs).box b) k
      → (k - 1 < length (all (ds ++ cs)))
      × (record_at ((end cs).box b) k ≡ get_or (all (ds ++ cs)) (k - 1) 0)
  agreed-later ds cs b k hb h =
      let now = agreed_record cs b k hb h in
      let later = longer-run n J L size ds cs (k - 1) now.0 in
      (later.0, now.1 ∙ sym later.1)

  over-time : (cs ds : List Call) (b d k : ℕ) → In b n → In d n
      → Agreed ((end cs).box b) k → Agreed ((end (ds ++ cs)).box d) k
      → record_at ((end (ds ++ cs)).box d) k ≡ record_at ((end cs).box b) k
  over-time cs ds b d k hb hd early late =
      (agreed_record (ds ++ cs) d k hd late).1 ∙ sym (agreed-later ds cs b k hb early).1

  module _ (cs : List Call) where
    -- the offer that fills number k+1, 0 where none does
    offer-at : (k : ℕ) → Or (k < length (all cs)) (length (all cs) ≤ k) → ℕ
    offer-at k (left e) = ((history_run n J L size cs).agreed k e).0
    offer-at k (right e) = 0

    offer-at-is : (k r : ℕ) → k < length (all cs) → r ≡ get_or (all cs) k 0
        → (o : Or (k < length (all cs)) (length (all cs) ≤ k))
        → Offered (start n J L) cs (offer-at k o) r
    unfolding offer-at
    offer-at-is k r h e (left l) =
        let f = (history_run n J L size cs).agreed k l in
        subst (Offered (start n J L) cs f.0) (sym e) f.1
    offer-at-is k r h e (right l) = absurd (omega (arith, h, l))

    offer-at-once : (j k : ℕ) → j < length (all cs) → k < length (all cs)
        → (o : Or (j < length (all cs)) (length (all cs) ≤ j))
        → (p : Or (k < length (all cs)) (length (all cs) ≤ k))
        → offer-at j o ≡ offer-at k p → j ≡ k
    unfolding offer-at
    offer-at-once j k hj hk (left d) (left e) same =
        let f = (history_run n J L size cs).agreed j d in
        let g = (history_run n J L size cs).agreed k e in
        omega (arith, f.2, g.2, ap (history_run n J L size cs).num same)
    offer-at-once j k hj hk (right d) p same = absurd (omega (arith, hj, d))
    offer-at-once j k hj hk (left d) (right e) same = absurd (omega (arith, hk, e))

    -- at some time of the run
    was : (k r : ℕ) → Once n (start n J L) cs k r
        → (1 ≤ k) × (k - 1 < length (all cs)) × (r ≡ get_or (all cs) (k - 1) 0)
    was k r o =
        let ok = box-ok n J L size o.earlier o.box o.box-in in
        let a = agreed-later o.later o.earlier o.box k o.box-in o.agreed in (
          omega (arith, ok.shaped.some, o.agreed.0),
          subst (λ (ds : List Call). k - 1 < length (all ds)) (sym o.time) a.0,
          sym o.value
              ∙ a.1
              ∙ ap (λ (ds : List Call). get_or (all ds) (k - 1) 0) (sym o.time),
        )

    offers-over-time : OverTime n (start n J L) cs
    offers-over-time = record {
      offer-of = λ k. offer-at (k - 1) (below? (k - 1) (length (all cs)));
      offer-is = λ k r o. let w = was k r o in offer-at-is (k - 1) r w.1 w.2 (below? _ _);
      offer-once = λ j k q r o p same.
          let v = was j q o in
          let w = was k r p in
          let e = offer-at-once (j - 1) (k - 1) v.1 w.1 (below? _ _) (below? _ _) same in
          omega (arith, e, v.0, w.0);
    }

    -- the last time among them
    now : (b k : ℕ) → In b n → Agreed ((end cs).box b) k
        → Once n (start n J L) cs k (record_at ((end cs).box b) k)
    now b k hb h = record {
      later = [];
      earlier = cs;
      time = refl;
      box = b;
      box-in = hb;
      agreed = h;
      value = refl;
    }

    after_run : AfterRun n (start n J L) cs (end cs).box
    after_run = record {
      agreement = λ b d k hb hd ab ad.
          (agreed_record cs b k hb ab).1 ∙ sym (agreed_record cs d k hd ad).1;
      kept-range = λ b hb. let ok = box-ok n J L size cs b hb in (ok.shaped.some, ok.kept);
      no_hole = λ b k hb ab.
          let ok = box-ok n J L size cs b hb in
          let here : k - ((end cs).box b).head.kept.first < length ((end cs).box b).records =
          omega (arith, ab.0, ab.1, ok.shaped.all) in
          (here, ((proper-run n J L cs).boxes b).records k ab.0 here);
      offer-of = offers-over-time.offer-of;
      offer-is = λ b k hb ab. offers-over-time.offer-is k _ (now b k hb ab);
      offer-once = λ b d j k hb hd aj ak same.
          offers-over-time.offer-once j k _ _ (now b j hb aj) (now d k hd ak) same;
    }

-- one of the numbers that were computed
read : (k : ℕ) {l m : List ℕ} → l ≡ m → get_or l k 0 ≡ get_or m k 0
read k = ap (λ (l : List ℕ). get_or l k 0)

pub demand_3 : Demand3
demand_3 = record {
  after_run = after_run;
  never-falls = λ s cs b. let g = grow_run s cs b in (g.first, g.up);
  kept-agreed = λ s cs b k before after. (grow_run s cs b).same k after.0 before.1;
  over-time = over-time;
  offers-over-time = offers-over-time;
  not-empty = (
    reverse replayed-further,
    (omega (arith, read 2 computed.further), omega (arith, read 0 computed.further)),
    (omega (arith, read 3 computed.further), omega (arith, read 1 computed.further)),
  );
  room-again = (
    reverse third_load,
    (omega (arith, read 2 computed.again), omega (arith, read 0 computed.again)),
    (omega (arith, read 3 computed.again), omega (arith, read 1 computed.again)),
  );
}
