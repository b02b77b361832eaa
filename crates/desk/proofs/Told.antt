-- What the definitions say of any desk.
use Rattle.std.proofs.Common.{◌≡◌, ℕ, zero, suc, ◌+◌, ◌<◌, ◌≤◌, true, false, not, eqb, ltb, List}
use Rattle.std.proofs.Common.{[], ◌∷◌, length, get_or, sym, refl, ap, ◌∙◌, subst, add-one, arith}
use Rattle.std.proofs.Common.{ltb-false, ltb-true, lt-ltb, eq-eqb, eqb-true}
use borrow.Author.Tests.{eqb-false, not-false}
use Rattle.rules.specs.Pick.{pick_true}
use Rattle.laws.proofs.Logic.{Or, left, right, decide, both-no, pick_elim}
use Rattle.words.proofs.PartLaws.{splice-same}
use Rattle.desk.specs.Sides.{frame_of, tick_of, place_of, stands, tick_in, Outcome}
use Rattle.desk.specs.Sides.{give_in, withdraw_from}
use Rattle.desk.specs.Near.{apart, near, nearest_of}
use Rattle.desk.specs.Desk.{side_at, side_of, on_side, named}
use Rattle.desk.specs.Desk.{given, withdrawn, right_by, chosen_of}
use Rattle.desk.specs.Told as specs
use Rattle.desk.specs.Told.{WaitsAt, Nearest}
use Rattle.std.specs.Prelude.{Result, Ok, Err}
use Rattle.desk.specs.declared.answers.Side.{Side}
use Rattle.desk.specs.declared.answers.Why.{Why}
use Rattle.desk.proofs.Chosen.{apart-both, near-says, near-made, nearest-is}

-- ---- places

-- the first place that was found has the frame
pub place-has : (f : ℕ) (ws : List ℕ) → place_of f ws < length ws
    → frame_of (get_or ws (place_of f ws) 0) ≡ f
unfolding place_of
place-has f [] h = absurd (omega arith)
place-has f (w ∷ ws) h =
    pick_elim (λ k. k < suc (length ws) → frame_of (get_or (w ∷ ws) k 0) ≡ f) (eqb (frame_of w) f)
    (λ e k. eqb-true _ _ e)
    (λ e k. rw add-one (place-has f ws (omega arith)))
    h

at_place : (f : ℕ) (ws : List ℕ) (i : ℕ) → i < length ws → frame_of (get_or ws i 0) ≡ f
    → place_of f ws < length ws
unfolding place_of
at_place f [] i h e = absurd (omega arith)
at_place f (w ∷ ws) zero h e = rw (pick_true _ 0 (place_of f ws + 1) (eq-eqb _ _ e)) (omega arith)
at_place f (w ∷ ws) (suc i) h e =
    let k = at_place f ws i (omega arith) e in
    pick_elim (λ j. j < suc (length ws)) (eqb (frame_of w) f) (λ y. omega arith) (λ n. omega arith)

-- a frame that stands waits with this tick
pub tick-at : (f : ℕ) (ws : List ℕ) → stands f ws ≡ true → WaitsAt f (tick_in f ws) ws
tick-at f ws e =
    let h : place_of f ws < length ws = ltb-true _ _ e in
    record { place = place_of f ws; there = h; frame = place-has f ws h; tick = refl }

pub at-stands : (f t : ℕ) (ws : List ℕ) → WaitsAt f t ws → stands f ws ≡ true
at-stands f t ws w = lt-ltb _ _ (at_place f ws w.place w.there w.frame)

-- ---- the cases of a choice

module _ (f : ℕ) (ws : List ℕ) where
  abbrev nearest : ℕ
  nearest = nearest_of (tick_in f (side_of Side.Left ws)) (side_of Side.Right ws)

pub data Case (f : ℕ) (ws : List ℕ) : Result ℕ Why → Type 0 where
  short : length ws < 64 → Case f ws (Err Why.Words)
  zero-frame : f ≡ 0 → Case f ws (Err Why.Frame)
  away : Case f ws (Err Why.Away)
  far : stands f (side_of Side.Left ws) ≡ true → nearest f ws ≡ 0
      → Case f ws (Err Why.Far)
  found : {g : ℕ} → 64 ≤ length ws → (f ≡ 0 → ⊥) → stands f (side_of Side.Left ws) ≡ true
      → (nearest f ws ≡ 0 → ⊥) → frame_of (nearest f ws) ≡ g → Case f ws (Ok g)

case-of : (f : ℕ) (ws : List ℕ) → Case f ws (chosen_of f ws)
unfolding chosen_of right_by
case-of f ws =
    pick_elim (Case f ws) (ltb (length ws) 64) (λ h. short (ltb-true _ _ h))
    (λ h. pick_elim (Case f ws) (eqb f 0) (λ z. zero-frame (eqb-true _ _ z))
    (λ z. pick_elim (Case f ws) (not (stands f (side_of Side.Left ws))) (λ a. away)
    (λ a. pick_elim (Case f ws) (eqb (nearest f ws) 0)
    (λ n. far (not-false _ a) (eqb-true _ _ n))
    (λ n. found (ltb-false _ _ h) (eqb-false _ _ z) (not-false _ a) (eqb-false _ _ n) refl))))

pub chosen-case : (f : ℕ) (ws : List ℕ) {c : Result ℕ Why} → chosen_of f ws ≡ c → Case f ws c
chosen-case f ws e = subst (Case f ws) e (case-of f ws)

-- ---- the nearest

module _ (t : ℕ) (ws : List ℕ) where
  -- a word that waits: near, or farther than 40
  far_or_near : (g u : ℕ) → WaitsAt g u ws → (g ≡ 0 → ⊥)
      → (i : ℕ) × (i < length ws) × (frame_of (get_or ws i 0) ≡ g) × (tick_of (get_or ws i 0) ≡ u)
      × Or (near t (get_or ws i 0) ≡ true) (40 < apart t u)
  far_or_near g u w n =
      (w.place, w.there, w.frame, w.tick, go (decide (ltb 40 (apart t u))))
    where
      go : Or (ltb 40 (apart t u) ≡ true) (ltb 40 (apart t u) ≡ false)
          → Or (near t (get_or ws w.place 0) ≡ true) (40 < apart t u)
      go (left e) = right (ltb-true _ _ e)
      go (right e) =
          left (near-made t (get_or ws w.place 0) (λ z. n (sym w.frame ∙ z))
          (subst (λ x. apart t x ≤ 40) (sym w.tick) (ltb-false _ _ e)))

  pub none-near : nearest_of t ws ≡ 0 → (g u : ℕ) → WaitsAt g u ws → (g ≡ 0 → ⊥)
      → 40 < apart t u
  none-near z g u w n = go (far_or_near g u w n)
    where
      go : (i : ℕ) × (i < length ws) × (frame_of (get_or ws i 0) ≡ g)
          × (tick_of (get_or ws i 0) ≡ u)
          × Or (near t (get_or ws i 0) ≡ true) (40 < apart t u) → 40 < apart t u
      go (i, h, a, b, left y) = absurd (both-no y (((nearest-is t ws).nothing z).1 i h))
      go (i, h, a, b, right y) = y

  module _ (n : nearest_of t ws ≡ 0 → ⊥) where
    is-near : near t (nearest_of t ws) ≡ true
    is-near = go (nearest-is t ws).good
      where
        go : Or (nearest_of t ws ≡ 0) (near t (nearest_of t ws) ≡ true)
            → near t (nearest_of t ws) ≡ true
        go (left z) = absurd (n z)
        go (right y) = y

    is-there : WaitsAt (frame_of (nearest_of t ws)) (tick_of (nearest_of t ws)) ws
    is-there = go (nearest-is t ws).from
      where
        go : Or (nearest_of t ws ≡ 0)
            ((i : ℕ) × (i < length ws) × (get_or ws i 0 ≡ nearest_of t ws))
            → WaitsAt (frame_of (nearest_of t ws)) (tick_of (nearest_of t ws)) ws
        go (left z) = absurd (n z)
        go (right (i, h, e)) =
            record { place = i; there = h; frame = ap frame_of e; tick = ap tick_of e }

    -- not after any that waits
    first : (h v : ℕ) → WaitsAt h v ws → (h ≡ 0 → ⊥)
        → (apart t (tick_of (nearest_of t ws)) ≤ apart t v)
        × (apart t (tick_of (nearest_of t ws)) ≡ apart t v → frame_of (nearest_of t ws) ≤ h)
    first h v w k = go (far_or_near h v w k)
      where
        go : (i : ℕ) × (i < length ws) × (frame_of (get_or ws i 0) ≡ h)
            × (tick_of (get_or ws i 0) ≡ v)
            × Or (near t (get_or ws i 0) ≡ true) (40 < apart t v)
            → (apart t (tick_of (nearest_of t ws)) ≤ apart t v)
            × (apart t (tick_of (nearest_of t ws)) ≡ apart t v → frame_of (nearest_of t ws) ≤ h)
        go (i, b, e, u, left y) =
            let a = (nearest-is t ws).new n i b y in (
              subst (λ x. apart t (tick_of (nearest_of t ws)) ≤ apart t x) u a.least,
              λ q. subst (λ x. frame_of (nearest_of t ws) ≤ x) e
                  (a.lower (q ∙ ap (apart t) (sym u))),
            )
        go (i, b, e, u, right y) =
            let a = (near-says t (nearest_of t ws) is-near).1 in
            (omega arith, λ q. absurd (omega arith))

    pub nearest-says : {g : ℕ} → frame_of (nearest_of t ws) ≡ g
        → Nearest t g (tick_of (nearest_of t ws)) ws
    nearest-says {g} e = record {
      waits = subst (λ x. WaitsAt x (tick_of (nearest_of t ws)) ws) e is-there;
      some = λ z. (near-says t (nearest_of t ws) is-near).0 (e ∙ z);
      near = (near-says t (nearest_of t ws) is-near).1;
      least = λ h v w k. (first h v w k).0;
      lower = λ h v w k q. subst (λ x. x ≤ h) e ((first h v w k).1 q);
    }

-- ---- a choice

pub chosen-says : (f g : ℕ) (ws : List ℕ) → chosen_of f ws ≡ Ok g
    → (t : ℕ) × WaitsAt f t (side_of Side.Left ws) × (u : ℕ) × Nearest t g u (side_of Side.Right ws)
chosen-says f g ws e = go (chosen-case f ws e)
  where
    go : Case f ws (Ok g)
        → (t : ℕ) × WaitsAt f t (side_of Side.Left ws)
        × (u : ℕ) × Nearest t g u (side_of Side.Right ws)
    go (found h n s k q) = (
      tick_in f (side_of Side.Left ws),
      tick-at f (side_of Side.Left ws) s,
      tick_of (nearest f ws),
      nearest-says (tick_in f (side_of Side.Left ws)) (side_of Side.Right ws) k q,
    )

far-says : (f : ℕ) (ws : List ℕ) → chosen_of f ws ≡ Err Why.Far
    → (t : ℕ) × WaitsAt f t (side_of Side.Left ws)
    × ((g u : ℕ) → WaitsAt g u (side_of Side.Right ws) → (g ≡ 0 → ⊥) → 40 < apart t u)
far-says f ws e = go (chosen-case f ws e)
  where
    go : Case f ws (Err Why.Far)
        → (t : ℕ) × WaitsAt f t (side_of Side.Left ws)
        × ((g u : ℕ) → WaitsAt g u (side_of Side.Right ws) → (g ≡ 0 → ⊥) → 40 < apart t u)
    go (far s z) = (
      tick_in f (side_of Side.Left ws),
      tick-at f (side_of Side.Left ws) s,
      none-near (tick_in f (side_of Side.Left ws)) (side_of Side.Right ws) z,
    )

-- ---- refusals

-- where it answers with a refusal, the words stay
abbrev Keeps : List ℕ → Outcome → Type 0
Keeps ws o = (why : Why) → o.answer ≡ Err why → o.next ≡ ws

give_keeps : (f t : ℕ) (ws : List ℕ) → Keeps ws (give_in f t ws)
unfolding give_in
give_keeps f t ws =
    pick_elim (Keeps ws) (stands f ws) (λ e why q. refl)
    (λ e. pick_elim (Keeps ws) (not (stands 0 ws)) (λ y why q. refl)
    (λ y why q. let z : ◌≡◌ {A = ℕ} 0 1 = cc in absurd (omega arith)))

withdraw_keeps : (f : ℕ) (ws : List ℕ) → Keeps ws (withdraw_from f ws)
unfolding withdraw_from
withdraw_keeps f ws =
    pick_elim (Keeps ws) (not (stands f ws)) (λ y why q. refl)
    (λ y why q. let z : ◌≡◌ {A = ℕ} 0 1 = cc in absurd (omega arith))

named-keeps : (f : ℕ) (does : List ℕ → Outcome) (ws : List ℕ) → Keeps ws (does ws)
    → Keeps ws (named f does ws)
named-keeps f does ws k =
    pick_elim (Keeps ws) (ltb (length ws) 64) (λ y why q. refl)
    (λ n. pick_elim (Keeps ws) (eqb f 0) (λ y why q. refl) (λ y. k))

on-keeps : (s : Side) (does : List ℕ → Outcome) (ws : List ℕ)
    → Keeps (side_of s ws) (does (side_of s ws)) → Keeps ws (on_side s does ws)
on-keeps s does ws k why q = rw (k why q) (splice-same (side_at s) 32 ws)

pub told : specs.Told
unfolding given withdrawn
told = record {
  stands_at = λ f ws e. (tick_in f ws, tick-at f ws e);
  at-stands = at-stands;
  chosen = chosen-says;
  far = far-says;
  not-far = λ t ws g u w n h z.
      let a = none-near t ws z g u w n in absurd (omega arith);
  both_ways = apart-both;
  kept_give = λ s f t ws ws' why i.
      i.words ∙ named-keeps f (on_side s (give_in f t)) ws
      (on-keeps s (give_in f t) ws (give_keeps f t (side_of s ws))) why (sym i.answer);
  kept_withdraw = λ s f ws ws' why i.
      i.words ∙ named-keeps f (on_side s (withdraw_from f)) ws
      (on-keeps s (withdraw_from f) ws (withdraw_keeps f (side_of s ws))) why (sym i.answer);
}
