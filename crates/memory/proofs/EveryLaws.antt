-- A scan of the numbers of 1 to n, from 1 on, that stops at the first that fails a test; and how
-- many pass.
use Prim.Native.Nat.{ℕ, ◌+◌, ◌≤◌, ◌<◌}
use mathlib.Core.Path.{◌≡◌, refl, sym, ap, ◌∙◌}
use mathlib.Core.Bool.{Bool, true, false, not, cond}
use native.Mathlib.Nat.{add_comm}
use native.Mathlib.Numerals.{add-one}
use native.Mathlib.Omega.{arith}
use Rattle.words.proofs.TestLaws.{fails, passes}
use Rattle.rules.specs.Every.{every, tally}
use Rattle.rules.specs.Site.{is_box}
use Rattle.laws.proofs.Logic.{both-no, and_both, every-at, every_made}
use Rattle.laws.proofs.FormLaws.{box-is}
use Rattle.link.proofs.TestLaws.{not_yes}

pub next-box : (n b : ℕ) → b < n → is_box n (b + 1) ≡ true
next-box n b h = box-is {n = n} {c = b + 1} (omega arith, omega arith)

-- those up to b pass
pub record PassTo (p : ℕ → Bool) (n b : ℕ) : Type 0 where
  pub few : b ≤ n
  pub all : every b p ≡ true

pub pass-none : {p : ℕ → Bool} {n : ℕ} → PassTo p n 0
unfolding every
pass-none = record { few = omega arith; all = refl }

module _ {p : ℕ → Bool} {n b : ℕ} (to : PassTo p n b) where
  pub pass_all : n ≤ b → true ≡ every n p
  pass_all h =
      sym (every_made n p (λ k g. every-at b p to.all k (g.0, omega (arith, g.1))))

  -- t is what the next says, and the code asks for `!t`
  module _ (h : b < n) {t : Bool} (e : t ≡ p (b + 1)) where
    pub pass-more : not t ≡ false → PassTo p n (b + 1)
    unfolding every
    pass-more f = record {
      few = omega arith;
      all = rw add-one (and_both (rw add-one at (passes e f)) to.all);
    }

    pub pass-stop : not t ≡ true → false ≡ every n p
    pass-stop f =
        not_yes (every n p)
        (λ q. both-no (every-at n p q (b + 1) (omega arith, omega arith)) (fails e f))

module _ (p : ℕ → Bool) where
  pub tally-none : tally 0 p ≡ 0
  unfolding tally
  tally-none = refl

  pub tally-more : (n : ℕ) → tally (n + 1) p ≡ tally n p + cond (p (n + 1)) 1 0
  unfolding tally
  tally-more n =
      ap (λ (k : ℕ). tally k p) (add-one n)
      ∙ add_comm _ (tally n p)
      ∙ ap (λ (k : ℕ). tally n p + cond (p k) 1 0) (sym (add-one n))
