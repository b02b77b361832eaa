-- A letter y at the head of the link from a to b, of the kind k, in an even epoch of a site by
-- form.
use Prim.Native.Nat.{ℕ}
use mathlib.Core.Path.{◌≡◌, subst}
use mathlib.Core.Bool.{true}
use mathlib.Core.List.{List, ◌∷◌}
use lib.ListN.{length}
use Rattle.rules.specs.Sizes.{even}
use Rattle.rules.specs.Box.{Letter}
use Rattle.rules.specs.Site.{Site}
use Rattle.laws.proofs.Types.{Kind}
use Rattle.laws.proofs.Logic.{In, All, All-head}
use Rattle.laws.proofs.FormLaws.{Formed, FormedKind, FormedLetter}

pub record Arrives (s : Site) (a b : ℕ) (y : Letter) (ys : List Letter) (k : Kind) : Type 0 where
  pub form : Formed s
  pub even : even s.epoch ≡ true
  pub from : In a s.n
  pub to : In b s.n
  pub apart : a ≡ b → ⊥
  pub head : s.link a b ≡ y ∷ ys
  pub kind : y.head.kind ≡ k

-- the letter is by form
pub arrived : {s : Site} {a b : ℕ} {y : Letter} {ys : List Letter} {k : Kind}
    → Arrives s a b y ys k
    → FormedKind k s.J y.head.pn y.head.last y.head.first y.head.unagreed
    (length y.records)
arrived {s} {a} {b} {y} r =
    let link = r.form.links a b r.from r.to r.apart in
    let form = All-head (subst (All (FormedLetter s.J)) r.head link.letters) in
    subst
    (λ (k : Kind).
    FormedKind k s.J y.head.pn y.head.last y.head.first y.head.unagreed
    (length y.records))
    r.kind form.kind
