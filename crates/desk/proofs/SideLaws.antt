-- One side, place by place.
use Rattle.std.proofs.Common.{◌≡◌, ℕ, suc, ◌+◌, ◌*◌, ◌<◌, ◌≤◌, true, false, not, eqb, List, [], ◌∷◌}
use Rattle.std.proofs.Common.{◌++◌, length, get_or, take, drop, set, sym, refl, ap, ◌∙◌, add-one}
use Rattle.std.proofs.Common.{arith, drop_of_length-le, drop-cons, drop-set-lt, le-ltb, lt-ltb}
use Rattle.std.proofs.Common.{eq-eqb, ne_eqb}
use Rattle.rules.specs.Pick.{pick_true, pick-false}
use Rattle.laws.proofs.Logic.{pick_elim}
use Rattle.words.proofs.WriteLaws.{write_more, write_end}
use Rattle.desk.specs.Sides.{frame_of, place_of, stands, unless, without, Outcome, SideIs}
use Rattle.desk.specs.Sides.{give_in, withdraw_from}
use Rattle.std.specs.Prelude.{Ok, Err}
use Rattle.desk.specs.declared.answers.Why.{Why}

-- ---- the first place with a frame

pub place-few : (f : ℕ) (ws : List ℕ) → place_of f ws ≤ length ws
unfolding place_of
place-few f [] = omega arith
place-few f (w ∷ ws) =
    let h = place-few f ws in
    pick_elim (λ k. k ≤ suc (length ws)) (eqb (frame_of w) f) (λ e. omega arith)
    (λ e. omega arith)

module _ (f : ℕ) (ws : List ℕ) (i : ℕ) where
  -- so many places were passed
  abbrev pub Passed : Type 0
  Passed = place_of f ws ≡ place_of f (drop i ws) + i

  pub place-on : i < length ws → (frame_of (get_or ws i 0) ≡ f → ⊥) → Passed
      → place_of f ws ≡ place_of f (drop (i + 1) ws) + (i + 1)
  unfolding place_of
  place-on h n e =
      let one : place_of f (drop i ws) ≡ place_of f (drop (suc i) ws) + 1 =
      rw (drop-cons ws i 0 h) (pick-false _ _ _ (ne_eqb _ _ n)) in
      rw add-one (omega arith)

  pub place_here : i < length ws → frame_of (get_or ws i 0) ≡ f → Passed → i ≡ place_of f ws
  unfolding place_of
  place_here h y e =
      let none : place_of f (drop i ws) ≡ 0 =
      rw (drop-cons ws i 0 h) (pick_true _ _ _ (eq-eqb _ _ y)) in
      omega arith

  pub place_none : length ws ≤ i → Passed → i ≡ place_of f ws
  unfolding place_of
  place_none h e =
      let none : place_of f (drop i ws) ≡ 0 = rw (drop_of_length-le ws h) refl in
      omega arith

-- ---- without a frame

pub length_without : (f : ℕ) (ws : List ℕ) → length (without f ws) ≡ length ws
unfolding without
length_without f [] = refl
length_without f (w ∷ ws) = ap suc (length_without f ws)

module _ (f : ℕ) (whole now : List ℕ) (i : ℕ) where
  -- what is cleared, and behind it what is still to be, is the whole
  abbrev pub Cleared : Type 0
  Cleared = whole ≡ take i now ++ without f (drop i now)

  pub clear-more : {x : ℕ} → i < length now → x ≡ unless f (get_or now i 0) → Cleared
      → whole ≡ take (i + 1) (set now i x) ++ without f (drop (i + 1) (set now i x))
  unfolding without
  clear-more {x} h e c =
      rw (drop-set-lt (i + 1) now i x (omega arith))
      (write_more whole now i x (without f (drop (i + 1) now)) h (rw (e, add-one)
      (rw (drop-cons now i 0 h) at c)))

  pub clear-end : length now ≤ i → Cleared → now ≡ whole
  unfolding without
  clear-end h c = write_end whole now i h (rw (drop_of_length-le now h) at c)

-- ---- what is done on a side; p is the place that was found for the frame, q a free one

pub side-is : {o o' : Outcome} → o ≡ o' → SideIs o o'.next o'.answer
side-is e = record {
  answer = ap (λ (x : Outcome). x.answer) (sym e);
  words = ap (λ (x : Outcome). x.next) (sym e);
}

module _ (f : ℕ) (ws : List ℕ) {p : ℕ} (found : p ≡ place_of f ws) where
  pub standing : p < length ws → stands f ws ≡ true
  standing h = rw (← found) (lt-ltb _ _ h)

  pub absent : length ws ≤ p → stands f ws ≡ false
  absent h = rw (← found) (le-ltb _ _ h)

  pub give_waits : (t : ℕ) → p < length ws → SideIs (give_in f t ws) ws (Err Why.Waits)
  unfolding give_in
  give_waits t h = side-is (pick_true _ _ _ (standing h))

  pub withdraw_away : length ws ≤ p → SideIs (withdraw_from f ws) ws (Err Why.Away)
  unfolding withdraw_from
  withdraw_away h = side-is (pick_true _ _ _ (ap not (absent h)))

  pub withdraw_done : {ws' : List ℕ} → p < length ws → ws' ≡ without f ws
      → SideIs (withdraw_from f ws) ws' (Ok tt)
  unfolding withdraw_from
  withdraw_done h e = rw e (side-is (pick-false _ _ _ (ap not (standing h))))

module _ (f t : ℕ) (ws : List ℕ) {p q : ℕ} (found : p ≡ place_of f ws) (none : length ws ≤ p)
    (free : q ≡ place_of 0 ws) where
  pub give_full : length ws ≤ q → SideIs (give_in f t ws) ws (Err Why.Full)
  unfolding give_in
  give_full h =
      side-is (pick-false _ _ _ (absent f ws found none)
      ∙ pick_true _ _ _ (ap not (absent 0 ws free h)))

  pub give_done : q < length ws
      → SideIs (give_in f t ws) (set ws q (f * 4294967296 + t)) (Ok tt)
  unfolding give_in
  give_done h =
      rw free (side-is (pick-false _ _ _ (absent f ws found none)
      ∙ pick-false _ _ _ (ap not (standing 0 ws free h))))
