-- Steps that change no box: Stop, Return and Timeout; Lose and Repeat; a mail that is discarded.
use Prim.Native.Nat.{ℕ, ◌+◌, ◌%◌}
use mathlib.Core.Path.{◌≡◌, refl, ap, ◌∙◌}
use mathlib.Core.Bool.{false, ◌&&◌, cond}
use mathlib.Core.List.{List, [], tail}
use native.Mathlib.Omega.{arith}
use lib.Dec.{eqb}
use borrow.Author.Tests.{ne_eqb}
use Rattle.rules.specs.Sizes.{even}
use Rattle.rules.specs.Box.{Box, Letter}
use Rattle.rules.specs.Site.{Site, relinked, popped, twice, doubled}
use Rattle.rules.specs.Step.{risen, presented}
use Rattle.laws.proofs.Logic.{both-no, eqb_yes, cond_elim, All, All-tail, All-twice}
use Rattle.laws.proofs.FrameLaws.{all-relinked}
use Rattle.laws.proofs.View.{Links, store}
use Rattle.safety.proofs.Inv.{Agreement, PostOk, Live, Inv}
use Rattle.safety.proofs.After.{After, after}

-- presence changes: the epoch is odd afterwards, and nothing is asked of the mail

pub odd-risen : (e : ℕ) → even (risen e) ≡ false
odd-risen e =
    cond_elim (λ (t : ℕ). even t ≡ false) (even e)
    (λ t. let h : e % 2 ≡ 0 = eqb_yes (e % 2) 0 t in ne_eqb ((e + 1) % 2) 0 (λ g. omega (arith, g)))
    (λ t. t)

pub inv-presented : (s : Site) (w : ℕ) (i : Inv s) → After s i (presented s w)
unfolding presented
inv-presented s w i = after (record {
  core = i.core;
  ranks = i.ranks;
  live = λ z. absurd (both-no z (odd-risen s.epoch));
})

-- one link is changed: every clause on the links is kept where nothing new stands on it

live-relinked : {n w : ℕ} {box : ℕ → Box} {link : Links} {g : Agreement}
    (L : Live n w box link g)
    (f : List Letter → List Letter) → f [] ≡ []
    → ((P : Letter → Type 0) (l : List Letter) → All P l → All P (f l))
    → (a b : ℕ) → Live n w box (λ x y. cond (eqb x a && eqb y b) (f (link x y)) (link x y)) g
live-relinked {n} {w} {box} {link} {g} L f none kept a b = record {
  c = L.c;
  c_in = L.c_in;
  lead = L.lead;
  only = L.only;
  here = L.here;
  major = L.major;
  x = L.x;
  at = L.at;
  quiet = λ z x y.
      cond_elim (λ (l : List Letter). l ≡ []) (eqb x a && eqb y b)
      (λ e. ap f (L.quiet z x y) ∙ none) (λ e. L.quiet z x y);
  asking = L.asking;
  hearing = L.hearing;
  settled = L.settled;
  mails = all-relinked (λ x y. PostOk w g L.c L.x x (store (box x)) y (store (box y))) link
      L.mails f kept a b;
}

inv-relinked : (s : Site) (f : List Letter → List Letter) → f [] ≡ []
    → ((P : Letter → Type 0) (l : List Letter) → All P l → All P (f l))
    → (a b : ℕ) (i : Inv s) → After s i (relinked f s a b)
inv-relinked s f none kept a b i = after (record {
  core = i.core;
  ranks = i.ranks;
  live = λ z. live-relinked (i.live z) f none kept a b;
})

-- a mail is gone
pub inv-popped : (s : Site) (a b : ℕ) (i : Inv s) → After s i (popped s a b)
inv-popped s = inv-relinked s tail refl (λ P l. All-tail)

-- a mail stands twice
pub inv-doubled : (s : Site) (a b : ℕ) (i : Inv s) → After s i (doubled s a b)
unfolding twice
inv-doubled s = inv-relinked s twice refl (λ P l. All-twice)
