-- Ready: all present have answered, and one of them with what was agreed last, so the best is that.
use Prim.Native.Nat.{ℕ, suc, ◌+◌, ◌≤◌}
use mathlib.Core.Path.{◌≡◌, refl, sym, ap, ◌∙◌}
use mathlib.Core.Bool.{true, false}
use mathlib.Core.List.{[]}
use native.Mathlib.Omega.{arith}
use lib.Dec.{ltb}
use lib.ListN.{length, get_or}
use borrow.Author.Tests.{ltb-true, ltb-false, eq-eqb, ne_eqb}
use Rattle.rules.specs.Pick.{pick}
use Rattle.rules.specs.Sets.{has}
use Rattle.rules.specs.Fields.{with_state, with_peers}
use Rattle.rules.specs.Parts.{all_unknown}
use Rattle.rules.specs.Steps.{started, leased, has_previous, ready, acted}
use Rattle.rules.specs.Box.{Box}
use Rattle.rules.specs.Site.{Site, setting, played}
use Rattle.rules.specs.Step.{step}
use Rattle.laws.proofs.Types.{Call, State, Turn}
use Rattle.laws.proofs.Logic.{Or, left, right, In, decide, both-no, same?, pick_elim, All-at}
use Rattle.laws.proofs.Counts.{Common, common}
use Rattle.laws.proofs.FormLaws.{Formed, form-says, proper-some}
use Rattle.laws.proofs.Conditions.{Leading, Is, Any, go-unless, can-ready}
use Rattle.laws.proofs.View.{Store, store, phase_of}
use Rattle.laws.proofs.StepLaws.{by-acting}
use Rattle.safety.proofs.Inv.{BoxOk, Ripe, Hearing, Inv}
use Rattle.safety.proofs.After.{After, after_same}
use Rattle.safety.proofs.Leader.{Led, led}
use Rattle.safety.proofs.Start.{inv-started, inv-leased}

module _ (s : Site) (i : Inv s) (c : ℕ) (c_in : In c s.n) (f : Formed s)
    (o : Leading (Is 2) Any (s.box c).head (setting s c))
    (all_in : (s.box c).head.answered ≡ s.present) where
  abbrev st : Store
  st = store (s.box c)

  L : Led s.n s.present s.box s.link i.agreed c (s.box c)
  L = led (i.live o.even) c c_in o.leads

  H : Hearing s.n s.present s.box i.agreed c (s.box c)
  H = L.hearing o.phase

  heard : (b : ℕ) → has s.present b ≡ true → has (s.box c).head.answered b ≡ true
  heard b t = rw all_in t

  -- one that answered took part in the last agreement
  both : Common s.n i.agreed.by (has s.present)
  both = common s.n i.agreed.by (has s.present) i.core.major L.major

  abbrev witness : ℕ
  witness = both.0

  answered : has (s.box c).head.answered witness ≡ true
  answered = heard witness both.3

  part : BoxOk i.agreed (i.agreed.by witness) (store (s.box witness))
  part = i.core.boxes witness both.1

  behind : (store (s.box witness)).last ≤ st.last
  behind = H.lasts witness both.1 answered

  top : length i.agreed.records ≤ suc st.last
  top = go (decide (ltb l m))
    where
      l : ℕ
      l = (store (s.box witness)).last

      m : ℕ
      m = length i.agreed.records

      go : Or (ltb l m ≡ true) (ltb l m ≡ false) → length i.agreed.records ≤ suc st.last
      go (left e) = let v = part.vote both.2 (ltb-true l m e) in omega (arith, v.0, behind)
      go (right e) = omega (arith, ltb-false l m e, behind)

  ripe : Ripe s.n s.present s.box i.agreed st.pn st.last
  ripe = record {
    pns = λ b bn t. H.promise b bn (heard b t);
    stored_pns = λ b bn.
        let k = i.core in
        let j = common s.n (k.N b) (has s.present) (k.N-major b bn) L.major in
        let p = H.promise j.0 j.1 (heard j.0 j.3) in
        omega (arith, k.N-pn b j.0 bn j.1 j.2, p);
    mine = λ b bn t. absurd (H.apart b bn t);
    top = top;
    under = omega (arith, part.promise both.2, H.promise witness both.1 answered);
    lasts = λ b bn t. H.lasts b bn (heard b t);
  }

  -- ---- number last+1 is agreed: the best is its record

  module _ (e : suc st.last ≡ length i.agreed.records) where
    found : ((s.box c).head.best.number ≡ length i.agreed.records)
        × (i.agreed.pn ≤ (s.box c).head.best.pn)
    found = H.found witness both.1 answered both.2 (omega (arith, e))

    best-is : (s.box c).head.best.value ≡ get_or i.agreed.records st.last 0
    best-is = H.same st.last (omega (arith, e, found.0)) e found.1

    -- the witness holds it, so it is proper
    best-some : (s.box c).head.best.value ≡ 0 → ⊥
    best-some zero =
        let v = part.vote both.2 (omega (arith, e, behind)) in
        let la : (store (s.box witness)).last ≡ st.last = omega (arith, e, v.0) in
        proper-some (All-at (f.boxes witness both.1).records _ 0 v.1)
        (part.same v.0 v.1 v.2
        ∙ ap (λ (t : ℕ). get_or i.agreed.records t 0) la
        ∙ sym best-is
        ∙ zero)

    previous : has_previous (s.box c).head ≡ true
    unfolding has_previous
    previous =
        let last = (s.box c).head.kept.last in
        let h : (s.box c).head.best.number ≡ last + 1 = omega (arith, found.0, e) in
        rw (eq-eqb _ (last + 1) h, ne_eqb (s.box c).head.best.value 0 best-some) refl

  done : has_previous (s.box c).head ≡ false
      → Or (suc st.last ≡ length i.agreed.records)
      (suc st.last ≡ length i.agreed.records → ⊥)
      → length i.agreed.records ≤ st.last
  done e (left h) = absurd (both-no (previous h) e)
  done e (right h) = omega (arith, top)

  abbrev starts : Box
  starts = record {
    head = with_state State.UpdatingPrevious (with_peers all_unknown (s.box c).head);
    records = (s.box c).records;
  }

  abbrev rests : Box
  rests = record { head = with_peers all_unknown (s.box c).head; records = (s.box c).records }

  inv_readied : After s i (played s c
      (pick (has_previous (s.box c).head)
      (started starts.head (setting s c) (s.box c).head.best.value)
      (leased rests.head (setting s c)))
      [])
  inv_readied =
      pick_elim (λ (t : Turn). After s i (played s c t [])) (has_previous (s.box c).head)
      (λ e. inv-started s i c c_in o.leads o.even busy ripe starts o.leads
      (s.box c).head.best.value (λ h. omega (arith, h)) best-is)
      (λ e. inv-leased s i c c_in o.leads o.even busy ripe rests o.leads
      (done e (same? (suc st.last) (length i.agreed.records))))
    where
      busy : phase_of (s.box c) ≡ 4 → ⊥
      busy h = omega (arith, o.phase, h)

pub inv-ready : (s : Site) (i : Inv s) (c : ℕ) → After s i (step s (Call.Ready c)).next
unfolding step acted ready
inv-ready s i c =
    by-acting (After s i) s c _ _ _ (after_same i)
    (λ f c_in go.
    let o = can-ready (go-unless _ _ _ go).0 in
    inv_readied s i c c_in (form-says f) o.0 o.1)
