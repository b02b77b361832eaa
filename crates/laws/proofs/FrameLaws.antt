-- What changes where: one box or one link changes and the others do not; what a turn posts.
use Prim.Native.Nat.{ℕ, ◌≤◌, ◌<◌}
use mathlib.Core.Path.{◌≡◌, refl, sym, subst}
use mathlib.Core.Bool.{true, not, ◌&&◌, cond}
use mathlib.Core.List.{List, [], ◌∷◌, ◌++◌, tail}
use native.Mathlib.Omega.{arith}
use lib.Dec.{eqb, ltb}
use lib.ListN.{length, length-append}
use borrow.Author.Tests.{ne_eqb, ltb-true}
use Rattle.rules.specs.Sets.{has}
use Rattle.rules.specs.Box.{Letter, letter_of}
use Rattle.rules.specs.Site.{Site, upd, posted, room}
use Rattle.laws.proofs.Types.{Mail, Out}
use Rattle.laws.proofs.Logic.{Or, left, right, In, both-no, eqb_same, eqb_yes, and_yes}
use Rattle.laws.proofs.Logic.{or_cases, cond_elim, every-at, All, nil, cons, All-append}
use Rattle.laws.proofs.Logic.{All-tail}
use Rattle.laws.proofs.View.{Links}

-- ---- one place of a function

pub upd_same {ℓ} : {A : Type ℓ} (f : ℕ → A) (k : ℕ) (v : A) → upd f k v k ≡ v
upd_same f k v = rw (eqb_same k)

pub upd_other {ℓ} : {A : Type ℓ} (f : ℕ → A) (k : ℕ) (v : A) (i : ℕ) → (i ≡ k → ⊥)
    → upd f k v i ≡ f i
upd_other f k v i ne = rw (ne_eqb i k ne)

-- a fact of every place, proved anew at the one that changed
pub upd-all {ℓ κ} : {A : Type ℓ} (P : ℕ → A → Type κ) (f : ℕ → A) (c : ℕ) {v : A}
    → P c v → ((b : ℕ) → P b (f b)) → (b : ℕ) → P b (upd f c v b)
upd-all P f c {v} new old b =
    cond_elim (P b) (eqb b c)
    (λ e. subst (λ (k : ℕ). P k v) (sym (eqb_yes b c e)) new)
    (λ e. old b)

-- ---- the mails of every link

module _ {κ} (P : ℕ → ℕ → Letter → Type κ) (link : Links)
    (old : (x y : ℕ) → All (P x y) (link x y)) where
  -- one link is changed by f, which puts nothing new on it
  pub all-relinked : (f : List Letter → List Letter)
      → ((Q : Letter → Type κ) (l : List Letter) → All Q l → All Q (f l))
      → (a b x y : ℕ) → All (P x y) (cond (eqb x a && eqb y b) (f (link x y)) (link x y))
  all-relinked f kept a b x y =
      cond_elim (All (P x y)) (eqb x a && eqb y b) (λ e. kept (P x y) (link x y) (old x y))
      (λ e. old x y)

  -- the head of one link leaves
  pub all_pop : (a b x y : ℕ) → All (P x y) (cond (eqb x a && eqb y b) (tail (link x y)) (link x y))
  all_pop = all-relinked tail (λ Q l. All-tail)

  -- one letter from c goes to each box of a set
  pub all_post : (set c : ℕ) (m : Letter) → ((y : ℕ) → has set y ≡ true → P c y m) → (x y : ℕ)
      → All (P x y) (cond (eqb x c && has set y) (link x y ++ (m ∷ [])) (link x y))
  all_post set c m new x y =
      cond_elim (All (P x y)) (eqb x c && has set y)
      (λ e. let p = and_yes (eqb x c) (has set y) e in
      All-append (old x y) (cons (at (eqb_yes x c p.0) p.1) nil))
      (λ e. old x y)
    where
      at : x ≡ c → has set y ≡ true → P x y m
      at p q = rw p (new y q)

  -- what a turn of box c sends
  pub all-posted : (c : ℕ) (out : Out) (rs : List ℕ)
      → ((set : ℕ) (m : Mail) → out ≡ Out.To set m → (y : ℕ) → has set y ≡ true
      → P c y (letter_of m rs))
      → (x y : ℕ) → All (P x y) (posted link c out rs x y)
  unfolding posted
  all-posted c Out.Nothing rs new x y = old x y
  all-posted c (Out.To set m) rs new x y = all_post set c (letter_of m rs) (new set m refl) x y

-- where there is room for what is sent, no link holds more than L
pub posted-room : (s : Site) (c : ℕ) (out : Out) (rs : List ℕ) → room s c out ≡ true
    → (a b : ℕ) → In b s.n → length (s.link a b) ≤ s.L
    → length (posted s.link c out rs a b) ≤ s.L
unfolding posted room
posted-room s c Out.Nothing rs r a b hb h = h
posted-room s c (Out.To set m) rs r a b hb h =
    cond_elim (λ (l : List Letter). length l ≤ s.L) (eqb a c && has set b)
    (λ e. let p = and_yes (eqb a c) (has set b) e in
    more (eqb_yes a c p.0) p.1 (or_cases _ _ (every-at s.n _ r b hb)))
    (λ e. h)
  where
    more : a ≡ c → has set b ≡ true
        → Or (not (has set b) ≡ true) (ltb (length (s.link c b)) s.L ≡ true)
        → length (s.link a b ++ (letter_of m rs ∷ [])) ≤ s.L
    more e f (left g) = absurd (both-no g (rw f refl))
    more e f (right g) =
        let k : length (s.link c b) < s.L = ltb-true (length (s.link c b)) s.L g in
        rw e (omega (arith, length-append (s.link c b) (letter_of m rs ∷ [])))
