-- The first of 1 to n that passes, and what a run does next.
use Prim.Native.Nat.{ℕ, zero, suc, ◌≤◌, ◌<◌}
use mathlib.Core.Path.{◌≡◌, refl, sym, ap, ◌∙◌}
use mathlib.Core.Bool.{Bool, true, false, not}
use mathlib.Core.List.{List, [], ◌∷◌}
use native.Mathlib.Omega.{arith}
use lib.Dec.{eqb, ltb}
use lib.ListN.{length}
use borrow.Author.Tests.{eq-eqb, ne_eqb, lt-ltb, ltb-true, ltb-false, not-true}
use Rattle.rules.specs.Pick.{pick, pick_true, pick-false}
use Rattle.rules.specs.Box.{Letter}
use Rattle.rules.specs.Site.{Site}
use Rattle.laws.proofs.Types.{Call}
use Rattle.laws.proofs.Logic.{Or, left, right, In, both-no, eqb_no, same?, below?}
use Rattle.laws.proofs.Logic.{and_yes, and_both}
use Rattle.laws.proofs.Counts.{in_up, in_top, in_down}
use Rattle.wait.specs.Run.{first_of, holds_mail, receiver_of, sender_of, leader_turn, next_turn}
use Rattle.std.specs.Prelude.{Some}
use Rattle.wait.proofs.Going.{Ahead, mail, quiet}

-- ---- the first that passes

-- k is 0 where none of 1 to n passes, else the first that does
pub data First (n : ℕ) (p : ℕ → Bool) (k : ℕ) : Type 0 where
  none : k ≡ 0 → ((i : ℕ) → In i n → p i ≡ false) → First n p k
  some : In k n → p k ≡ true → ((i : ℕ) → 1 ≤ i → i < k → p i ≡ false) → First n p k

pub first_says : (n : ℕ) (p : ℕ → Bool) → First n p (first_of n p)
unfolding first_of
first_says zero p = none refl (λ i h. absurd (omega arith))
first_says (suc n) p = go (first_says n p)
  where
    top : first_of n p ≡ 0 → ((i : ℕ) → In i n → p i ≡ false) → (b : Bool) → p (suc n) ≡ b
        → First (suc n) p (pick b (suc n) 0)
    top z off true e =
        rw (pick_true true (suc n) 0 refl)
        (some (in_top n) e (λ i h l. off i (h, omega (arith, l))))
    top z off false e =
        rw (pick-false false (suc n) 0 refl)
        (none refl (λ i h. last i h (same? i (suc n))))
      where
        last : (i : ℕ) → In i (suc n) → Or (i ≡ suc n) (i ≡ suc n → ⊥) → p i ≡ false
        last i h (left d) = ap p d ∙ e
        last i h (right d) = off i (in_down h d)

    go : First n p (first_of n p)
        → First (suc n) p
        (pick (eqb (first_of n p) 0) (pick (p (suc n)) (suc n) 0) (first_of n p))
    go (none z off) =
        rw (pick_true (eqb (first_of n p) 0) (pick (p (suc n)) (suc n) 0) (first_of n p)
        (eq-eqb (first_of n p) 0 z))
        (top z off (p (suc n)) refl)
    go (some h e off) =
        rw (pick-false (eqb (first_of n p) 0) (pick (p (suc n)) (suc n) 0) (first_of n p)
        (ne_eqb (first_of n p) 0 (λ z. omega (arith, z, h.0))))
        (some (in_up h) e off)

-- there is one such number
pub first-one : {n : ℕ} {p : ℕ → Bool} {j k : ℕ} → First n p j → First n p k → j ≡ k
first-one (none z off) (none w none-too) = z ∙ sym w
first-one (none z off) (some h e before) = absurd (both-no e (off _ h))
first-one (some h e before) (none z off) = absurd (both-no e (off _ h))
first-one {j = j} {k = k} (some h e before) (some g f off) = go (same? j k)
  where
    go : Or (j ≡ k) (j ≡ k → ⊥) → j ≡ k
    go (left d) = d
    go (right d) = absurd (apart (below? j k))
      where
        apart : Or (j < k) (k ≤ j) → ⊥
        apart (left l) = both-no e (off j h.0 l)
        apart (right l) = both-no f (before k g.0 (omega (arith, l, d)))

pub first-is : {n : ℕ} {p : ℕ → Bool} {k : ℕ} → First n p k → first_of n p ≡ k
first-is {n} {p} f = first-one (first_says n p) f

-- only what is said of 1 to n matters
pub first_ext : (n : ℕ) (p q : ℕ → Bool) → ((i : ℕ) → In i n → p i ≡ q i)
    → first_of n p ≡ first_of n q
first_ext n p q same = first-is (go (first_says n q))
  where
    go : {k : ℕ} → First n q k → First n p k
    go (none z off) = none z (λ i h. same i h ∙ off i h)
    go (some h e off) =
        some h (same _ h ∙ e)
        (λ i g l. same i (g, omega (arith, l, h.1)) ∙ off i g l)

-- the one that passes, where there is one at most
pub first-only : (n : ℕ) (p : ℕ → Bool) (k : ℕ) → In k n → p k ≡ true
    → ((i : ℕ) → In i n → p i ≡ true → i ≡ k) → first_of n p ≡ k
first-only n p k h e only = go (first_says n p)
  where
    go : First n p (first_of n p) → first_of n p ≡ k
    go (none z off) = absurd (both-no e (off k h))
    go (some g f off) = only (first_of n p) g f

-- ---- what a run does next

module _ (s : Site) where
  holds-none : (a b : ℕ) → (a ≡ b → ⊥) → holds_mail s a b ≡ false → s.link a b ≡ []
  unfolding holds_mail
  holds-none a b ab e = go (s.link a b) refl
    where
      go : (l : List Letter) → s.link a b ≡ l → l ≡ []
      go [] f = refl
      go (y ∷ ys) f =
          absurd (both-no
          (and_both (ap not (ne_eqb a b ab))
          (lt-ltb 0 (length (s.link a b)) (rw f (omega arith)))) e)

  holds-some : (a b : ℕ) → holds_mail s a b ≡ true
      → (a ≡ b → ⊥) × (y : Letter) × (ys : List Letter) × (s.link a b ≡ y ∷ ys)
  unfolding holds_mail
  holds-some a b e =
      let p = and_yes (not (eqb a b)) (ltb 0 (length (s.link a b))) e in
      go (eqb_no a b (not-true _ p.0)) (s.link a b) refl (ltb-true _ _ p.1)
    where
      go : (a ≡ b → ⊥) → (l : List Letter) → s.link a b ≡ l → 0 < length l
          → (a ≡ b → ⊥) × (y : Letter) × (ys : List Letter) × (s.link a b ≡ y ∷ ys)
      go ab [] f h = absurd (omega arith)
      go ab (y ∷ ys) f h = (ab, y, ys, f)

  pub receiver_says : (a : ℕ) → First s.n (holds_mail s a) (receiver_of s a)
  unfolding receiver_of
  receiver_says a = first_says s.n (holds_mail s a)

  pub sender-says : First s.n (λ a. ltb 0 (receiver_of s a)) (sender_of s)
  unfolding sender_of
  sender-says = first_says s.n (λ a. ltb 0 (receiver_of s a))

  pub next-mail : (sender_of s ≡ 0 → ⊥)
      → next_turn s ≡ Some (Call.Deliver (sender_of s) (receiver_of s (sender_of s)))
  unfolding next_turn
  next-mail h = pick-false _ _ _ (ne_eqb (sender_of s) 0 h)

  pub next-own : sender_of s ≡ 0 → next_turn s ≡ leader_turn s
  unfolding next_turn
  next-own h = pick_true _ _ _ (eq-eqb (sender_of s) 0 h)

  -- mail to hand over, or nothing under way
  pub look : Ahead s
  look = go sender-says
    where
      none_of : (a b : ℕ) → (a ≡ b → ⊥) → In b s.n → ltb 0 (receiver_of s a) ≡ false
          → First s.n (holds_mail s a) (receiver_of s a) → s.link a b ≡ []
      none_of a b ab hb e (none z off) = holds-none a b ab (off b hb)
      none_of a b ab hb e (some h f off) =
          absurd (omega (arith, h.0, ltb-false 0 (receiver_of s a) e))

      hands : In (sender_of s) s.n → 0 < receiver_of s (sender_of s)
          → First s.n (holds_mail s (sender_of s)) (receiver_of s (sender_of s)) → Ahead s
      hands ha l (none z off) = absurd (omega (arith, l, z))
      hands ha l (some hb e off) =
          let m = holds-some (sender_of s) (receiver_of s (sender_of s)) e in
          mail (sender_of s) (receiver_of s (sender_of s)) m.1 m.2 ha hb m.0 m.3
          (next-mail (λ z. omega (arith, z, ha.0)))

      go : First s.n (λ a. ltb 0 (receiver_of s a)) (sender_of s) → Ahead s
      go (none z off) =
          quiet (λ a b ha hb ab. none_of a b ab hb (off a ha) (receiver_says a)) (next-own z)
      go (some h e off) =
          hands h (ltb-true 0 (receiver_of s (sender_of s)) e) (receiver_says (sender_of s))
