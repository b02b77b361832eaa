-- Every record that stands anywhere is proper: an offer that is proposed is so by form.
use Prim.Native.Nat.{ℕ}
use mathlib.Core.Path.{◌≡◌, refl}
use mathlib.Core.List.{List, [], ◌∷◌}
use native.Mathlib.Omega.{arith}
use Rattle.rules.specs.Box.{own}
use Rattle.rules.specs.Site.{Site, fresh, fresh_head}
use Rattle.rules.specs.Step.{presented, step, run}
use Rattle.laws.proofs.Types.{Act, Call}
use Rattle.laws.proofs.Logic.{Or, left, right, In, nil}
use Rattle.laws.proofs.FormLaws.{Formed, Proper}
use Rattle.laws.proofs.StepLaws.{by-step}
use Rattle.safety.specs.Demand3.{start}
use Rattle.safety.proofs.Moves.{Sound, Comes, sound-popped, sound-doubled, sound-call}
use Rattle.safety.proofs.Moves.{sound-elect}

-- at any number
abbrev P : ℕ → ℕ → Type 0
P k r = Proper r

-- the offer that is proposed
waiting-proper : (s : Site) (c : ℕ) → Formed s → In c s.n → Comes P (s.box c) (own Act.Propose)
waiting-proper s c f i full = go (f.boxes c i).waiting
  where
    go : Or ((s.box c).head.waiting ≡ 0) (Proper (s.box c).head.waiting)
        → Proper (s.box c).head.waiting
    go (left e) = absurd (full e)
    go (right e) = e

proper-step : (s : Site) (d : Call) → Sound P s → Sound P (step s d).next
unfolding presented
proper-step s d h =
    by-step (Sound P) s h (λ c f e. sound-elect P s c h)
    (λ w f g e. record { boxes = h.boxes; mails = h.mails })
    (λ a b f. sound-popped P s a b h)
    (λ a b f g. sound-doubled P s a b h) d
    (λ c e link w f i r. sound-call P s c w f i h (λ is. waiting-proper s c f i))

pub proper-run : (n J L : ℕ) (cs : List Call) → Sound P (run (start n J L) cs)
unfolding run fresh fresh_head
proper-run n J L [] = record {
  boxes = λ b. record { records = λ k i h. absurd (omega arith); best = λ e. absurd (e refl) };
  mails = λ a b. nil;
}
proper-run n J L (c ∷ cs) = proper-step (run (start n J L) cs) c (proper-run n J L cs)
