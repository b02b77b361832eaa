-- What holds of any run at the desk.
use Prim.Native.Nat.{ℕ}
use mathlib.Core.Path.{◌≡◌, refl, sym, ap, subst, ◌∙◌}
use mathlib.Core.Bool.{true, false, not}
use mathlib.Core.List.{List, [], ◌∷◌}
use mathlib.Core.Logic.{◌⊎◌, inl, inr}
use native.Mathlib.Omega.{arith}
use lib.Dec.{eqb}
use lib.ListN.{length}
use Rattle.rules.specs.Form.{form}
use Rattle.rules.specs.Site.{Outcome}
use Rattle.rules.specs.Step.{refused, step}
use Rattle.rules.specs.declared.model.Answer.{Answer}
use Rattle.rules.specs.declared.model.Call.{Call}
use Rattle.rules.specs.declared.model.Refusal.{Refusal}
use Rattle.laws.proofs.Logic.{Or, left, right, decide, both-no}
use Rattle.wait.specs.Run.{leader_of}
use Rattle.memory.specs.Memory.{site_of, readable}
use Rattle.site.specs.Entries.{After, FreshMade, step_on, holds_on}
use Rattle.site.proofs.AfterLaws.{need-met, need-not, no_needs}
use Rattle.said.specs.Said.{Said, Talk, called, held, At, latest, before, OfferAt}
use Rattle.engine_safety.specs.Served.{Served, made, stepped, asked, stored}
use Rattle.engine_safety.proofs.Filed.{filed}
use Rattle.desk.specs.Sides.{stands, tick_in}
use Rattle.desk.specs.Desk.{side_of}
use Rattle.desk.specs.Offer.{offered, offered_on, PairIs}
use Rattle.std.specs.Prelude.{Result, Ok, Err}
use Rattle.desk.specs.declared.answers.Side.{Side}
use Rattle.desk.specs.declared.answers.Why.{Why}
use Rattle.desk.proofs.Told.{tick-at, at-stands, chosen-says}
use Rattle.desk_safety.specs.Runs as runs
use Rattle.desk_safety.specs.Runs.{Event, Then, none, more, Takes, Gives, Withdraws, Any}
use Rattle.desk_safety.specs.Runs.{here, there}
use Rattle.desk_safety.specs.Safe.{Waited, from_start, just, since, PairedNear, PastDesk}
use Rattle.desk_safety.specs.Safe.{DeskSafely}
use Rattle.desk_safety.proofs.Steps.{In, NotGiven, chosen-named, came, stayed, taken}

-- ---- no frame in two accepted offers

given-between : {ws xs ls ws' xs' ls' : List ℕ} {es : List Event} (s : Side) (f : ℕ)
    → (f ≡ 0 → ⊥) → Then ws xs ls es ws' xs' ls' → stands f (side_of s ws) ≡ false
    → stands f (side_of s ws') ≡ true → Any (λ e. (t : ℕ) × Gives s f t e) es
given-between s f k none n y = absurd (both-no y n)
given-between s f k (more {es = es} {e = e} {us = us} {vs = vs} th nx) n y =
    go (decide (stands f (side_of s us))) (came s f (tick_in f (side_of s vs)) k nx (tick-at f _ y))
    (given-between s f k th n)
  where
    go : Or (stands f (side_of s us) ≡ true) (stands f (side_of s us) ≡ false)
        → Or (Gives s f (tick_in f (side_of s vs)) e)
        (In s f (tick_in f (side_of s vs)) us × NotGiven s f e)
        → (stands f (side_of s us) ≡ true → Any (λ e. (t : ℕ) × Gives s f t e) es)
        → Any (λ e. (t : ℕ) × Gives s f t e) (e ∷ es)
    go (left a) c rest = there (rest a)
    go (right a) (left g) rest = here (tick_in f (side_of s vs), g)
    go (right a) (right w) rest = absurd (both-no (at-stands f _ (side_of s us) w.0) a)

-- ---- how a frame leaves

left_by : {ws xs ls ws' xs' ls' : List ℕ} {es : List Event} (s : Side) (f : ℕ)
    → (f ≡ 0 → ⊥) → Then ws xs ls es ws' xs' ls' → stands f (side_of s ws) ≡ true
    → stands f (side_of s ws') ≡ false → Any (λ e. Takes s f e ⊎ Withdraws s f e) es
left_by s f k none y n = absurd (both-no y n)
left_by s f k (more {es = es} {e = e} {us = us} {vs = vs} th nx) y n =
    go (decide (stands f (side_of s us))) (left_by s f k th y)
  where
    gone : Or (In s f (tick_in f (side_of s us)) vs) (Or (Takes s f e) (Withdraws s f e))
        → Any (λ e. Takes s f e ⊎ Withdraws s f e) (e ∷ es)
    gone (left w) = absurd (both-no (at-stands f _ (side_of s vs) w) n)
    gone (right (left p)) = here (inl p)
    gone (right (right p)) = here (inr p)

    go : Or (stands f (side_of s us) ≡ true) (stands f (side_of s us) ≡ false)
        → (stands f (side_of s us) ≡ false → Any (λ e. Takes s f e ⊎ Withdraws s f e) es)
        → Any (λ e. Takes s f e ⊎ Withdraws s f e) (e ∷ es)
    go (left a) rest = gone (stayed s f (tick_in f (side_of s us)) k nx (tick-at f _ a))
    go (right a) rest = there (rest a)

-- ---- with which tick a frame waits

known : {ws xs ls ws' xs' ls' : List ℕ} {es : List Event} (s : Side) (f t : ℕ) → (f ≡ 0 → ⊥)
    → Then ws xs ls es ws' xs' ls' → In s f t ws' → Waited ws s f t es
known s f t k none a = from_start a
known {ws} s f t k (more {es = es} {e = e} {us = us} th nx) a =
    go (came s f t k nx a) (known s f t k th)
  where
    go : Or (Gives s f t e) (In s f t us × NotGiven s f e)
        → (In s f t us → Waited ws s f t es) → Waited ws s f t (e ∷ es)
    go (left g) rest = subst (λ x. Waited ws s f t (x ∷ es)) (sym g) just
    go (right (w, n)) rest = since n (rest w)

-- ---- an offer that was accepted is a step of the engine

module _ {xs ls ys ms : List ℕ} (f g : ℕ)
    (after : After (offered_on xs ls f g) xs ls ys ms Answer.Done) where
  not-refused : {why : Refusal} → offered_on xs ls f g ≡ refused (site_of xs ls) why → ⊥
  not-refused e =
      let a : Answer.Done ≡ Answer.Refused _ =
      after.answer ∙ ap (λ (o : Outcome). o.answer) e in
      let z : ◌≡◌ {A = ℕ} 0 1 = cc in
      omega arith

  abbrev c : ℕ
  c = leader_of (site_of xs ls)

  offer-is : offered_on xs ls f g ≡ step_on xs ls (Call.Offer c f g)
  unfolding offered_on step_on offered
  offer-is =
      go (decide (readable xs ls)) (decide (form (site_of xs ls))) (decide (not (eqb c 0)))
    where
      go : Or (readable xs ls ≡ true) (readable xs ls ≡ false)
          → Or (form (site_of xs ls) ≡ true) (form (site_of xs ls) ≡ false)
          → Or (not (eqb c 0) ≡ true) (not (eqb c 0) ≡ false)
          → offered_on xs ls f g ≡ step_on xs ls (Call.Offer c f g)
      go (right r) y z = absurd (not-refused {why = Refusal.Form} (rw r refl))
      go (left r) (right y) z =
          absurd (not-refused {why = Refusal.Form} (rw r (need-not _ _ _ _ _ y)))
      go (left r) (left y) (right z) =
          absurd (not-refused {why = Refusal.Condition}
          (rw r (need-met _ _ _ _ _ y ∙ need-not _ _ _ _ _ z)))
      go (left r) (left y) (left z) =
          rw r (need-met _ _ _ _ _ y ∙ need-met _ _ _ _ _ z ∙ no_needs _ _)

  pub offer-stepped : After (step_on xs ls (Call.Offer c f g)) xs ls ys ms Answer.Done
  offer-stepped = subst (λ o. After o xs ls ys ms Answer.Done) offer-is after

-- ---- what was said to the engine

at-case : {A : Type 0} {v w : Said A} {h : List (Said A)} {j : ℕ} → At (v ∷ h) j w
    → Or (v ≡ w) (At h j w)
at-case latest = left refl
at-case (before p) = right p

-- each accepted offer among it was made past the desk, or of two near frames at it
abbrev Offers : List ℕ → Talk → List Event → Type 0
Offers ws h es = (j l r : ℕ) → OfferAt Answer.Done h j l r
    → Any (PastDesk l r) es ⊎ PairedNear ws l r es

record Told (n J L : ℕ) (ws : List ℕ) (es : List Event) (xs ls : List ℕ) : Type 0 where
  talk : Talk
  served : Served n J L talk xs ls
  offers : Offers ws talk es

later : {ws : List ℕ} {es : List Event} {l r : ℕ} (e : Event)
    → Any (PastDesk l r) es ⊎ PairedNear ws l r es
    → Any (PastDesk l r) (e ∷ es) ⊎ PairedNear ws l r (e ∷ es)
later e (inl p) = inl (there p)
later e (inr p) = inr (PairedNear.before p)

-- a call that says nothing to the engine
silent : {n J L : ℕ} {ws xs ls : List ℕ} {es : List Event} (e : Event) → Told n J L ws es xs ls
    → Told n J L ws (e ∷ es) xs ls
silent e t = record {
  talk = t.talk;
  served = t.served;
  offers = λ j l r o. later e (t.offers j l r o);
}

no-talk : {A : Type 0} {j : ℕ} {w : Said A} → At [] j w → ⊥
no-talk p = empty p refl
  where
    empty : {A : Type 0} {h : List (Said A)} {j : ℕ} {w : Said A} → At h j w → h ≡ [] → ⊥
    empty latest e = let z : ◌≡◌ {A = ℕ} 0 1 = cc in omega arith
    empty (before p) e = let z : ◌≡◌ {A = ℕ} 0 1 = cc in omega arith

-- one thing more is said to the engine; where it is an accepted offer, that is told here
module _ {n J L : ℕ} {ws xs ls ys ms : List ℕ} {es : List Event} {a : Answer} (d : Call) (e : Event)
    (t : Told n J L ws es xs ls) (s : Served n J L (called d a ∷ t.talk) ys ms)
    (tell : (c l r : ℕ) → called d a ≡ called (Call.Offer c l r) Answer.Done
    → Any (PastDesk l r) (e ∷ es) ⊎ PairedNear ws l r (e ∷ es)) where
  said_more : Told n J L ws (e ∷ es) ys ms
  said_more = record {
    talk = called d a ∷ t.talk;
    served = s;
    offers = λ j l r o. go l r o.0 j (at-case o.1);
  }
    where
      go : (l r c j : ℕ) → Or (called d a ≡ called (Call.Offer c l r) Answer.Done)
          (At t.talk j (called (Call.Offer c l r) Answer.Done))
          → Any (PastDesk l r) (e ∷ es) ⊎ PairedNear ws l r (e ∷ es)
      go l r c j (left p) = tell c l r p
      go l r c j (right p) = later e (t.offers j l r (c, p))

-- a pairing
pair-told : {n J L : ℕ} {ws us xs ls : List ℕ} (f : ℕ) {vs ys ms : List ℕ} {es : List Event}
    {q : Result ℕ Why} → runs.Fits f → runs.RightFits q
    → ((s : Side) (h t : ℕ) → (h ≡ 0 → ⊥) → In s h t us → Waited ws s h t es)
    → PairIs f us xs ls vs ys ms q → Told n J L ws es xs ls
    → Told n J L ws (runs.paired f q ∷ es) ys ms
pair-told f fits fits' known (PairIs.no-pair {why = why} c) t =
    silent (runs.paired f (Err why)) t
pair-told {n} {J} {L} {ws} {us} {xs} {ls} f {es = es} fits fits' known
    (PairIs.kept {xs' = ys} {ls' = ms} {why = why} c after) t =
    let k = after.kept refl in
    let e = runs.paired f (Err (Why.Engine why)) in
    subst (λ x. Told n J L ws (e ∷ es) x ms) (sym k.0)
    (subst (λ y. Told n J L ws (e ∷ es) xs y) (sym k.1) (silent e t))
pair-told {n} {J} {L} {ws} {us} {xs} {ls} f {es = es} fits fits' known
    (PairIs.accepted {g = g} {xs' = ys} {ls' = ms} c after) t =
    said_more (Call.Offer (leader_of (site_of xs ls)) f g) (runs.paired f (Ok g)) t
    (stepped (Call.Offer (leader_of (site_of xs ls)) f g) (fits, fits') t.served
    (offer-stepped f g after))
    (λ b l r e.
    let i : f ≡ l = cc in
    let j : g ≡ r = cc in
    inr (subst (λ x. PairedNear ws x r (runs.paired f (Ok g) ∷ es)) i
    (subst (λ y. PairedNear ws f y (runs.paired f (Ok g) ∷ es)) j near-now)))
  where
    near-now : PairedNear ws f g (runs.paired f (Ok g) ∷ es)
    near-now =
        let k = chosen-says f g us c in
        PairedNear.now k.0 k.2 (known Side.Left f k.0 (chosen-named f us c) k.1)
        (known Side.Right g k.2 k.3.some k.3.waits) k.3.near

told-run : {n J L : ℕ} {us vs ws xs ls ws' xs' ls' : List ℕ} {es : List Event}
    → FreshMade n J L us vs xs ls Answer.Done → Then ws xs ls es ws' xs' ls'
    → Told n J L ws es xs' ls'
told-run m none = record {
  talk = [];
  served = made m;
  offers = λ j l r o. absurd (no-talk o.1);
}
told-run m (more th (runs.gives s f t fits fits' i)) = silent _ (told-run m th)
told-run m (more th (runs.withdraws s f i)) = silent _ (told-run m th)
told-run m (more th (runs.pairs f fits fits' i)) =
    pair-told f fits fits' (λ s h t k a. known s h t k th a) i (told-run m th)
told-run m (more th (runs.steps d fits after)) =
    let t = told-run m th in
    said_more d _ t (stepped d fits t.served after)
    (λ c l r e. inl (here (c, told_as e)))
  where
    told_as : {x y : Call} {a b : Answer} → called x a ≡ called y b
        → runs.called x a ≡ runs.called y b
    told_as e = cc
told-run m (more th (runs.stores k w r)) =
    let t = told-run m th in
    record {
      talk = t.talk;
      served = stored k t.served w r;
      offers = λ j l r o. later _ (t.offers j l r o);
    }

-- the offer before a true holds line
module _ {n J L : ℕ} {ws xs ls : List ℕ} {es : List Event} (t : Told n J L ws es xs ls)
    (b k l r : ℕ) where
  of-talk : (j c : ℕ)
      → Or (held b k l r (holds_on xs ls b k l r) ≡ called (Call.Offer c l r) Answer.Done)
      (At t.talk j (called (Call.Offer c l r) Answer.Done))
      → Any (PastDesk l r) es ⊎ PairedNear ws l r es
  of-talk j c (left d) = let z : ◌≡◌ {A = ℕ} 0 1 = cc in absurd (omega arith)
  of-talk j c (right p) = t.offers j l r (c, p)

  near-told : holds_on xs ls b k l r ≡ Answer.Done → Any (PastDesk l r) es ⊎ PairedNear ws l r es
  near-told e =
      let s = asked b k l r t.served in
      let true-now = subst (λ a. At (held b k l r (holds_on xs ls b k l r) ∷ t.talk)
      (length t.talk) (held b k l r a)) e latest in
      let o = (filed.demand_3 s).origin (length t.talk) b k l r true-now in
      of-talk o.0 o.2.0 (at-case o.2.1)

pub safely : DeskSafely
safely = record {
  once = λ s f n th m p q.
      given-between s f (taken s f n p).some th (taken s f n p).gone-now
      (taken s f m q).waited;
  leaves = λ s f k th y n. left_by s f k th y n;
  near = λ m th b k l r e. near-told (told-run m th) b k l r e;
}
