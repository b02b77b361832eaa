-- What a call leaves alone: other boxes, other links, and what every box has stored.
use Prim.Native.Nat.{ℕ}
use mathlib.Core.Path.{◌≡◌, refl, ◌∙◌}
use mathlib.Core.Bool.{◌&&◌}
use mathlib.Core.List.{List, [], ◌∷◌, tail}
use lib.Dec.{eqb}
use Rattle.rules.specs.Sets.{has}
use Rattle.rules.specs.Steps.{elected}
use Rattle.rules.specs.Box.{Letter}
use Rattle.rules.specs.Site.{Site, is_box, relinked, popped, twice, posted}
use Rattle.rules.specs.Step.{acting, delivered, elect, presented, step}
use Rattle.laws.proofs.Types.{Act, BoxState, Call, Out}
use Rattle.laws.proofs.Logic.{eqb_yes, and_yes, cond_elim}
use Rattle.laws.proofs.StepLaws.{by-ruled, by-turn}
use Rattle.laws.proofs.FrameLaws.{upd_other}

-- the call is at another box than b
abbrev pub OtherBox : Call → ℕ → Type 0
OtherBox (Call.Elect c) b = ⊥
OtherBox (Call.Recover c) b = b ≡ c → ⊥
OtherBox (Call.Collect c) b = b ≡ c → ⊥
OtherBox (Call.Ready c) b = b ≡ c → ⊥
OtherBox (Call.Offer c l r) b = b ≡ c → ⊥
OtherBox (Call.Propose c) b = b ≡ c → ⊥
OtherBox (Call.Agree c) b = b ≡ c → ⊥
OtherBox (Call.Finish c) b = b ≡ c → ⊥
OtherBox (Call.Heard c) b = b ≡ c → ⊥
OtherBox (Call.Trim c k) b = b ≡ c → ⊥
OtherBox (Call.Stop c) b = Unit {0}
OtherBox (Call.Return c) b = Unit {0}
OtherBox (Call.Timeout c) b = Unit {0}
OtherBox (Call.Lose a c) b = Unit {0}
OtherBox (Call.Repeat a c) b = Unit {0}
OtherBox (Call.Deliver a c) b = b ≡ c → ⊥

abbrev pub NotThe : ℕ → ℕ → ℕ → ℕ → Type 0
NotThe a b x y = x ≡ a → y ≡ b → ⊥

-- the call takes nothing from the link from x to y, and sends nothing on it
abbrev pub OtherLink : Call → ℕ → ℕ → Type 0
OtherLink (Call.Elect c) x y = ⊥
OtherLink (Call.Recover c) x y = x ≡ c → ⊥
OtherLink (Call.Collect c) x y = x ≡ c → ⊥
OtherLink (Call.Ready c) x y = x ≡ c → ⊥
OtherLink (Call.Offer c l r) x y = x ≡ c → ⊥
OtherLink (Call.Propose c) x y = x ≡ c → ⊥
OtherLink (Call.Agree c) x y = x ≡ c → ⊥
OtherLink (Call.Finish c) x y = x ≡ c → ⊥
OtherLink (Call.Heard c) x y = x ≡ c → ⊥
OtherLink (Call.Trim c k) x y = x ≡ c → ⊥
OtherLink (Call.Stop c) x y = Unit {0}
OtherLink (Call.Return c) x y = Unit {0}
OtherLink (Call.Timeout c) x y = Unit {0}
OtherLink (Call.Lose a b) x y = NotThe a b x y
OtherLink (Call.Repeat a b) x y = NotThe a b x y
OtherLink (Call.Deliver a b) x y = (x ≡ b → ⊥) × NotThe a b x y

-- box c sends on its own links alone
pub posted-other : (link : ℕ → ℕ → List Letter) (c : ℕ) (out : Out) (rs : List ℕ) (x y : ℕ)
    → (x ≡ c → ⊥) → posted link c out rs x y ≡ link x y
unfolding posted
posted-other link c Out.Nothing rs x y ne = refl
posted-other link c (Out.To set m) rs x y ne =
    cond_elim (λ (l : List Letter). l ≡ link x y) (eqb x c && has set y)
    (λ e. absurd (ne (eqb_yes x c (and_yes (eqb x c) (has set y) e).0)))
    (λ e. refl)

module _ (s : Site) where
  -- ---- boxes

  module _ (b : ℕ) where
    abbrev SameBox : Site → Type 0
    SameBox t = t.box b ≡ s.box b

    acting-box : (c : ℕ) (a : Act) → (b ≡ c → ⊥) → SameBox (acting s c a).next
    acting-box c a ne =
        by-ruled SameBox s _ _ refl
        (λ p. by-turn SameBox s s c _ _ refl refl (λ r. upd_other s.box c _ b ne))

    delivered-box : (a c : ℕ) (ys : List Letter) → (b ≡ c → ⊥) → SameBox (delivered s a c ys).next
    unfolding delivered
    delivered-box a c [] ne = refl
    delivered-box a c (y ∷ ys) ne =
        by-turn SameBox s (popped s a c) c _ _ refl refl (λ r. upd_other s.box c _ b ne)

    pub other-box : (d : Call) → OtherBox d b → (step s d).next.box b ≡ s.box b
    unfolding step presented
    other-box (Call.Elect c) ne = absurd ne
    other-box (Call.Recover c) ne = acting-box c Act.Recover ne
    other-box (Call.Collect c) ne = acting-box c Act.Collect ne
    other-box (Call.Ready c) ne = acting-box c Act.Ready ne
    other-box (Call.Offer c l r) ne = acting-box c (Act.Offer l r) ne
    other-box (Call.Propose c) ne = acting-box c Act.Propose ne
    other-box (Call.Agree c) ne = acting-box c Act.Agree ne
    other-box (Call.Finish c) ne = acting-box c Act.Finish ne
    other-box (Call.Heard c) ne = acting-box c Act.Heard ne
    other-box (Call.Trim c k) ne = acting-box c (Act.Trim k) ne
    other-box (Call.Stop c) ne = by-ruled SameBox s _ _ refl (λ p. refl)
    other-box (Call.Return c) ne = by-ruled SameBox s _ _ refl (λ p. refl)
    other-box (Call.Timeout c) ne = by-ruled SameBox s _ _ refl (λ p. refl)
    other-box (Call.Lose a c) ne = by-ruled SameBox s _ _ refl (λ p. refl)
    other-box (Call.Repeat a c) ne = by-ruled SameBox s _ _ refl (λ p. refl)
    other-box (Call.Deliver a c) ne =
        by-ruled SameBox s _ _ refl (λ p. delivered-box a c (s.link a c) ne)

    -- "Nothing stored is lost": an election too leaves what outlives a stop
    pub elected-keeps : (c : ℕ) → (((step s (Call.Elect c)).next.box b).head.kept ≡ (s.box
        b).head.kept)
        × (((step s (Call.Elect c)).next.box b).records ≡ (s.box b).records)
    unfolding step elect elected
    elected-keeps c =
        by-ruled (λ t. ((t.box b).head.kept ≡ (s.box b).head.kept)
        × ((t.box b).records ≡ (s.box b).records))
        s _ _ (refl, refl)
        (λ p. (
          cond_elim (λ (h : BoxState). h.kept ≡ (s.box b).head.kept) (is_box s.n b)
              (λ e. refl) (λ e. refl),
          refl,
        ))

  -- ---- links

  module _ (x y : ℕ) where
    abbrev SameLink : Site → Type 0
    SameLink t = t.link x y ≡ s.link x y

    pub relinked-other : (f : List Letter → List Letter) (a b : ℕ) → NotThe a b x y
        → (relinked f s a b).link x y ≡ s.link x y
    relinked-other f a b ne =
        cond_elim (λ (l : List Letter). l ≡ s.link x y) (eqb x a && eqb y b)
        (λ e. let p = and_yes (eqb x a) (eqb y b) e in
        absurd (ne (eqb_yes x a p.0) (eqb_yes y b p.1)))
        (λ e. refl)

    acting-link : (c : ℕ) (a : Act) → (x ≡ c → ⊥) → SameLink (acting s c a).next
    acting-link c a ne =
        by-ruled SameLink s _ _ refl
        (λ p. by-turn SameLink s s c _ _ refl refl (λ r. posted-other s.link c _ _ x y ne))

    delivered-link : (a b : ℕ) (ys : List Letter) → (x ≡ b → ⊥) → NotThe a b x y
        → SameLink (delivered s a b ys).next
    unfolding delivered
    delivered-link a b [] ne no-head = refl
    delivered-link a b (z ∷ ys) ne no-head = let less = relinked-other tail a b no-head in
        by-turn SameLink s (popped s a b) b _ _ refl less
        (λ r. posted-other (popped s a b).link b _ _ x y ne ∙ less)

    pub other-link : (d : Call) → OtherLink d x y → (step s d).next.link x y ≡ s.link x y
    unfolding step presented
    other-link (Call.Elect c) ne = absurd ne
    other-link (Call.Recover c) ne = acting-link c Act.Recover ne
    other-link (Call.Collect c) ne = acting-link c Act.Collect ne
    other-link (Call.Ready c) ne = acting-link c Act.Ready ne
    other-link (Call.Offer c l r) ne = acting-link c (Act.Offer l r) ne
    other-link (Call.Propose c) ne = acting-link c Act.Propose ne
    other-link (Call.Agree c) ne = acting-link c Act.Agree ne
    other-link (Call.Finish c) ne = acting-link c Act.Finish ne
    other-link (Call.Heard c) ne = acting-link c Act.Heard ne
    other-link (Call.Trim c k) ne = acting-link c (Act.Trim k) ne
    other-link (Call.Stop c) ne = by-ruled SameLink s _ _ refl (λ p. refl)
    other-link (Call.Return c) ne = by-ruled SameLink s _ _ refl (λ p. refl)
    other-link (Call.Timeout c) ne = by-ruled SameLink s _ _ refl (λ p. refl)
    other-link (Call.Lose a b) ne = by-ruled SameLink s _ _ refl (λ p. relinked-other tail a b ne)
    other-link (Call.Repeat a b) ne =
        by-ruled SameLink s _ _ refl (λ p. relinked-other twice a b ne)
    other-link (Call.Deliver a b) ne =
        by-ruled SameLink s _ _ refl (λ p. delivered-link a b (s.link a b) ne.0 ne.1)
