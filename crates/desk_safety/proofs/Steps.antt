-- One call: which frames came, which stayed, which were taken.
use Prim.Native.Nat.{ℕ}
use mathlib.Core.Path.{◌≡◌, refl, sym, ap, subst, ◌∙◌}
use mathlib.Core.Bool.{true, false}
use mathlib.Core.List.{List}
use native.Mathlib.Omega.{arith}
use borrow.Author.Tests.{ltb-true}
use Rattle.rules.specs.Sizes.{record_of}
use Rattle.laws.proofs.Logic.{Or, left, right, decide, both-no, same?}
use Rattle.desk.specs.Sides.{frame_of, tick_of, place_of, stands, tick_in, without}
use Rattle.desk.specs.Desk.{side_of, chosen_of, leaves}
use Rattle.desk.specs.Offer.{PairIs}
use Rattle.desk.specs.Told.{WaitsAt}
use Rattle.std.specs.Prelude.{⊤, Result, Ok}
use Rattle.desk.specs.declared.answers.Why.{Why}
use Rattle.desk.specs.declared.answers.Side.{Side}
use Rattle.desk.proofs.DeskLaws.{chosen-long}
use Rattle.desk.proofs.Told.{place-has, tick-at, at-stands, chosen-says, chosen-case, Case}
use Rattle.desk.proofs.Told.{found}
use Rattle.desk_safety.specs.Runs.{Event, gave, withdrew, paired, Fits, Next}
use Rattle.desk_safety.specs.Runs.{gives, withdraws, pairs, steps, stores}
use Rattle.desk_safety.specs.Runs.{Takes, Gives, Withdraws}
use Rattle.desk_safety.proofs.SideChanges.{frame_is, tick_is, set-came, set-stays}
use Rattle.desk_safety.proofs.SideChanges.{without-came, without-stays}
use Rattle.desk_safety.proofs.DeskChanges.{other, which, not-other, GaveCase, gave-case}
use Rattle.desk_safety.proofs.DeskChanges.{refused, done, WithdrewCase, withdrew-case}
use Rattle.desk_safety.proofs.DeskChanges.{refused_too, gone, left-leaves, right-leaves}

-- the frame f of side s waits with tick t in the desk's words
abbrev pub In : Side → ℕ → ℕ → List ℕ → Type 0
In s f t ws = WaitsAt f t (side_of s ws)

abbrev pub NotGiven : Side → ℕ → Event → Type 0
NotGiven s f e = (u : ℕ) → Gives s f u e → ⊥

pub chosen-named : {g : ℕ} (f : ℕ) (ws : List ℕ) → chosen_of f ws ≡ Ok g → f ≡ 0 → ⊥
chosen-named {g} f ws e = go (chosen-case f ws e)
  where
    go : Case f ws (Ok g) → f ≡ 0 → ⊥
    go (found h n s k q) = n

-- ---- a pair that was accepted: both frames waited

module _ (f g : ℕ) (ws : List ℕ) (c : chosen_of f ws ≡ Ok g) where
  left-stands : stands f (side_of Side.Left ws) ≡ true
  left-stands = let k = chosen-says f g ws c in at-stands f k.0 (side_of Side.Left ws) k.1

  right-stands : stands g (side_of Side.Right ws) ≡ true
  right-stands =
      let k = chosen-says f g ws c in
      at-stands g k.2 (side_of Side.Right ws) k.3.waits

  left_after : side_of Side.Left (leaves f g ws) ≡ without f (side_of Side.Left ws)
  left_after = left-leaves f g ws (chosen-long f ws c) left-stands right-stands

  right-after : side_of Side.Right (leaves f g ws) ≡ without g (side_of Side.Right ws)
  right-after = right-leaves f g ws (chosen-long f ws c) left-stands right-stands

-- ---- who came

abbrev Came : Side → ℕ → ℕ → Event → List ℕ → Type 0
Came s f t e ws = Or (Gives s f t e) (In s f t ws × NotGiven s f e)

module _ (s : Side) (f t : ℕ) (k : f ≡ 0 → ⊥) where
  gave-came : {ws ws' : List ℕ} {r : Result ⊤ Why} (q : Side) (h u : ℕ) → Fits u
      → GaveCase q h u ws ws' r → In s f t ws' → Came s f t (gave q h u r) ws
  gave-came q h u fits (refused e) a =
      right (subst (In s f t) e a, λ x d. let z : ◌≡◌ {A = ℕ} 0 1 = cc in absurd (omega arith))
  gave-came {ws} {ws'} q h u fits (done l n z same rest) a = go (which s q)
    where
      old : s ≡ q → WaitsAt f t (side_of q ws) → Came s f t (gave q h u (Ok tt)) ws
      old e b =
          right (
            subst (λ x. In x f t ws) (sym e) b,
            λ x d.
                let i : h ≡ f = cc in
                both-no (at-stands f t (side_of q ws) b)
                (ap (λ y. stands y (side_of q ws)) (sym i) ∙ n),
          )

      new : s ≡ q
          → Or ((frame_of (record_of h u) ≡ f) × (tick_of (record_of h u) ≡ t))
          (WaitsAt f t (side_of q ws))
          → Came s f t (gave q h u (Ok tt)) ws
      new e (left p) =
          let i : h ≡ f = sym (frame_is h u fits) ∙ p.0 in
          let j : u ≡ t = sym (tick_is h u fits) ∙ p.1 in
          left cc
      new e (right b) = old e b

      go : Or (s ≡ q) (s ≡ other q) → Came s f t (gave q h u (Ok tt)) ws
      go (left e) =
          new e (set-came (side_of q ws) (place_of 0 (side_of q ws)) (record_of h u) f t
          (ltb-true _ _ z) (subst (WaitsAt f t) (ap (λ x. side_of x ws') e ∙ same) a))
      go (right e) =
          right (
            subst (WaitsAt f t) (ap (λ x. side_of x ws') e ∙ rest
                ∙ ap (λ x. side_of x ws) (sym e)) a,
            λ x d. let i : q ≡ s = cc in not-other q (sym e ∙ sym i),
          )

  withdrew-came : {ws ws' : List ℕ} {r : Result ⊤ Why} (q : Side) (h : ℕ)
      → WithdrewCase q h ws ws' r
      → In s f t ws' → In s f t ws
  withdrew-came q h (refused_too e) a = subst (In s f t) e a
  withdrew-came {ws} {ws'} q h (gone same rest) a = go (which s q)
    where
      go : Or (s ≡ q) (s ≡ other q) → In s f t ws
      go (left e) =
          subst (λ x. In x f t ws) (sym e)
          (without-came h (side_of q ws) f t k
          (subst (WaitsAt f t) (ap (λ x. side_of x ws') e ∙ same) a)).0
      go (right e) =
          subst (WaitsAt f t) (ap (λ x. side_of x ws') e ∙ rest ∙ ap (λ x. side_of x ws) (sym e)) a

accepted-came : (s : Side) (f t h g : ℕ) (ws : List ℕ) → (f ≡ 0 → ⊥)
    → chosen_of h ws ≡ Ok g → In s f t (leaves h g ws) → In s f t ws
accepted-came Side.Left f t h g ws k c a =
    (without-came h (side_of Side.Left ws) f t k
    (subst (WaitsAt f t) (left_after h g ws c) a)).0
accepted-came Side.Right f t h g ws k c a =
    (without-came g (side_of Side.Right ws) f t k
    (subst (WaitsAt f t) (right-after h g ws c) a)).0

pair-came : {h : ℕ} {ws xs ls ws' xs' ls' : List ℕ} {r : Result ℕ Why} (s : Side) (f t : ℕ)
    → (f ≡ 0 → ⊥) → PairIs h ws xs ls ws' xs' ls' r → In s f t ws' → In s f t ws
pair-came s f t k (PairIs.no-pair c) a = a
pair-came s f t k (PairIs.kept c o) a = a
pair-came {h} {ws} s f t k (PairIs.accepted {g = g} c o) a = accepted-came s f t h g ws k c a

-- a frame that waits was just given in, or waited before and was not
pub came : {ws xs ls ws' xs' ls' : List ℕ} {e : Event} (s : Side) (f t : ℕ) → (f ≡ 0 → ⊥)
    → Next ws xs ls e ws' xs' ls' → In s f t ws'
    → Or (Gives s f t e) (In s f t ws × NotGiven s f e)
came s f t k (gives {ws' = vs} {r = r} q h u fits fits' i) a =
    gave-came s f t k q h u fits' (gave-case q h u _ vs _ i) a
came s f t k (withdraws {ws' = vs} {r = r} q h i) a =
    right (
      withdrew-came s f t k q h (withdrew-case q h _ vs _ i) a,
      λ x d. let z : ◌≡◌ {A = ℕ} 0 1 = cc in absurd (omega arith),
    )
came s f t k (pairs h fits fits' i) a =
    right (
      pair-came s f t k i a,
      λ x d. let z : ◌≡◌ {A = ℕ} 0 1 = cc in absurd (omega arith),
    )
came s f t k (steps d fits i) a =
    right (a, λ x e. let z : ◌≡◌ {A = ℕ} 0 1 = cc in absurd (omega arith))
came s f t k (stores m i j) a =
    right (a, λ x e. let z : ◌≡◌ {A = ℕ} 0 1 = cc in absurd (omega arith))

-- ---- who stayed

abbrev Stayed : Side → ℕ → ℕ → Event → List ℕ → Type 0
Stayed s f t e ws' = Or (In s f t ws') (Or (Takes s f e) (Withdraws s f e))

module _ (s : Side) (f t : ℕ) (k : f ≡ 0 → ⊥) where
  gave-stayed : {ws ws' : List ℕ} {r : Result ⊤ Why} (q : Side) (h u : ℕ) → GaveCase q h u ws ws' r
      → In s f t ws → In s f t ws'
  gave-stayed q h u (refused e) a = subst (In s f t) (sym e) a
  gave-stayed {ws} {ws'} q h u (done l n z same rest) a = go (which s q)
    where
      go : Or (s ≡ q) (s ≡ other q) → In s f t ws'
      go (left e) =
          subst (λ x. In x f t ws') (sym e)
          (subst (WaitsAt f t) (sym same)
          (set-stays (side_of q ws) (place_of 0 (side_of q ws)) (record_of h u) f t
          (place-has 0 (side_of q ws) (ltb-true _ _ z)) k (subst (λ x. In x f t ws) e a)))
      go (right e) =
          subst (WaitsAt f t)
          (sym (ap (λ x. side_of x ws') e ∙ rest ∙ ap (λ x. side_of x ws) (sym e))) a

  withdrew-stayed : {ws ws' : List ℕ} {r : Result ⊤ Why} (q : Side) (h : ℕ)
      → WithdrewCase q h ws ws' r
      → In s f t ws → Stayed s f t (withdrew q h r) ws'
  withdrew-stayed q h (refused_too e) a = left (subst (In s f t) (sym e) a)
  withdrew-stayed {ws} {ws'} q h (gone same rest) a = go (which s q)
    where
      named : s ≡ q → Or (f ≡ h) (f ≡ h → ⊥) → Stayed s f t (withdrew q h (Ok tt)) ws'
      named e (left y) = right (right cc)
      named e (right n) =
          left (subst (λ x. In x f t ws') (sym e) (subst (WaitsAt f t) (sym same)
          (without-stays h (side_of q ws) f t n (subst (λ x. In x f t ws) e a))))

      go : Or (s ≡ q) (s ≡ other q) → Stayed s f t (withdrew q h (Ok tt)) ws'
      go (left e) = named e (same? f h)
      go (right e) =
          left (subst (WaitsAt f t)
          (sym (ap (λ x. side_of x ws') e ∙ rest ∙ ap (λ x. side_of x ws) (sym e))) a)

accepted-stayed : (s : Side) (f t h g : ℕ) (ws : List ℕ) → chosen_of h ws ≡ Ok g
    → In s f t ws → Or (In s f t (leaves h g ws)) (Takes s f (paired h (Ok g)))
accepted-stayed Side.Left f t h g ws c a = go (same? f h)
  where
    go : Or (f ≡ h) (f ≡ h → ⊥)
        → Or (In Side.Left f t (leaves h g ws)) (Takes Side.Left f (paired h (Ok g)))
    go (left y) = right (g, ap (λ x. paired x (Ok g)) (sym y))
    go (right n) =
        left (subst (WaitsAt f t) (sym (left_after h g ws c))
        (without-stays h (side_of Side.Left ws) f t n a))
accepted-stayed Side.Right f t h g ws c a = go (same? f g)
  where
    go : Or (f ≡ g) (f ≡ g → ⊥)
        → Or (In Side.Right f t (leaves h g ws)) (Takes Side.Right f (paired h (Ok g)))
    go (left y) = right (h, ap (λ x. paired h (Ok x)) (sym y))
    go (right n) =
        left (subst (WaitsAt f t) (sym (right-after h g ws c))
        (without-stays g (side_of Side.Right ws) f t n a))

pair-stayed : {h : ℕ} {ws xs ls ws' xs' ls' : List ℕ} {r : Result ℕ Why} (s : Side) (f t : ℕ)
    → PairIs h ws xs ls ws' xs' ls' r → In s f t ws
    → Or (In s f t ws') (Takes s f (paired h r))
pair-stayed s f t (PairIs.no-pair c) a = left a
pair-stayed s f t (PairIs.kept c o) a = left a
pair-stayed {h} {ws} s f t (PairIs.accepted {g = g} c o) a = accepted-stayed s f t h g ws c a

-- a frame that waited waits on, or was taken, or withdrawn
pub stayed : {ws xs ls ws' xs' ls' : List ℕ} {e : Event} (s : Side) (f t : ℕ) → (f ≡ 0 → ⊥)
    → Next ws xs ls e ws' xs' ls' → In s f t ws
    → Or (In s f t ws') (Or (Takes s f e) (Withdraws s f e))
stayed s f t k (gives {ws' = vs} q h u fits fits' i) a =
    left (gave-stayed s f t k q h u (gave-case q h u _ vs _ i) a)
stayed s f t k (withdraws {ws' = vs} q h i) a =
    withdrew-stayed s f t k q h (withdrew-case q h _ vs _ i) a
stayed s f t k (pairs h fits fits' i) a = go (pair-stayed s f t i a)
  where
    go : {x y z : Type 0} → Or x y → Or x (Or y z)
    go (left p) = left p
    go (right p) = right (left p)
stayed s f t k (steps d fits i) a = left a
stayed s f t k (stores m i j) a = left a

-- ---- who was taken

-- it waited, and does not
pub record Taken (s : Side) (f : ℕ) (ws ws' : List ℕ) : Type 0 where
  pub some : f ≡ 0 → ⊥
  pub waited : stands f (side_of s ws) ≡ true
  pub gone-now : stands f (side_of s ws') ≡ false

not_there : (f : ℕ) (v w : List ℕ) → (f ≡ 0 → ⊥) → v ≡ without f w → stands f v ≡ false
not_there f v w k e = go (decide (stands f v))
  where
    go : Or (stands f v ≡ true) (stands f v ≡ false) → stands f v ≡ false
    go (left y) =
        let a = tick-at f v y in
        absurd ((without-came f w f (tick_in f v) k (subst (WaitsAt f (tick_in f v)) e a)).1 refl)
    go (right n) = n

module _ (h g : ℕ) (ws : List ℕ) (c : chosen_of h ws ≡ Ok g) where
  left-taken : Taken Side.Left h ws (leaves h g ws)
  left-taken =
      let k = chosen-named h ws c in
      record {
        some = k;
        waited = left-stands h g ws c;
        gone-now = not_there h _ (side_of Side.Left ws) k (left_after h g ws c);
      }

  right-taken : Taken Side.Right g ws (leaves h g ws)
  right-taken =
      let k = (chosen-says h g ws c).3.some in
      record {
        some = k;
        waited = right-stands h g ws c;
        gone-now = not_there g _ (side_of Side.Right ws) k (right-after h g ws c);
      }

pair-takes : {h : ℕ} {ws xs ls ws' xs' ls' : List ℕ} {r : Result ℕ Why} (s : Side) (f : ℕ)
    → PairIs h ws xs ls ws' xs' ls' r → Takes s f (paired h r) → Taken s f ws ws'
pair-takes Side.Left f (PairIs.no-pair c) (g, e) =
    let z : ◌≡◌ {A = ℕ} 0 1 = cc in absurd (omega arith)
pair-takes Side.Right f (PairIs.no-pair c) (g, e) =
    let z : ◌≡◌ {A = ℕ} 0 1 = cc in absurd (omega arith)
pair-takes Side.Left f (PairIs.kept c o) (g, e) =
    let z : ◌≡◌ {A = ℕ} 0 1 = cc in absurd (omega arith)
pair-takes Side.Right f (PairIs.kept c o) (g, e) =
    let z : ◌≡◌ {A = ℕ} 0 1 = cc in absurd (omega arith)
pair-takes {h} {ws} Side.Left f (PairIs.accepted {g = g} c o) (x, e) =
    let i : h ≡ f = cc in
    subst (λ y. Taken Side.Left y ws (leaves h g ws)) i (left-taken h g ws c)
pair-takes {h} {ws} Side.Right f (PairIs.accepted {g = g} c o) (x, e) =
    let i : g ≡ f = cc in
    subst (λ y. Taken Side.Right y ws (leaves h g ws)) i (right-taken h g ws c)

never-takes : (s : Side) (f : ℕ) {e : Event} → ((h : ℕ) (r : Result ℕ Why) → e ≡ paired h r → ⊥)
    → Takes s f e → ⊥
never-takes Side.Left f n (g, e) = n f (Ok g) e
never-takes Side.Right f n (h, e) = n h (Ok f) e

pub taken : {ws xs ls ws' xs' ls' : List ℕ} {e : Event} (s : Side) (f : ℕ)
    → Next ws xs ls e ws' xs' ls' → Takes s f e → Taken s f ws ws'
taken s f (gives q h u fits fits' i) p =
    absurd (never-takes s f (λ x r d. let z : ◌≡◌ {A = ℕ} 0 1 = cc in omega arith) p)
taken s f (withdraws q h i) p =
    absurd (never-takes s f (λ x r d. let z : ◌≡◌ {A = ℕ} 0 1 = cc in omega arith) p)
taken s f (pairs h fits fits' i) p = pair-takes s f i p
taken s f (steps d fits i) p =
    absurd (never-takes s f (λ x r q. let z : ◌≡◌ {A = ℕ} 0 1 = cc in omega arith) p)
taken s f (stores m i j) p =
    absurd (never-takes s f (λ x r d. let z : ◌≡◌ {A = ℕ} 0 1 = cc in omega arith) p)
