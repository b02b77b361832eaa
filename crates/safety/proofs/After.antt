-- What a call makes of the invariant and of what is agreed: it only grows, at its end, by a record
-- that stands at a box.
use Prim.Native.Nat.{ℕ, suc, ◌-◌, ◌≤◌, ◌<◌}
use mathlib.Core.Path.{◌≡◌, refl}
use mathlib.Core.Bool.{true}
use mathlib.Core.List.{List}
use native.Mathlib.Omega.{arith}
use lib.ListN.{length, get_or}
use Rattle.rules.specs.Sizes.{even}
use Rattle.rules.specs.Box.{record_at}
use Rattle.rules.specs.Site.{Site}
use Rattle.safety.proofs.Inv.{Agreement, Core, Ranks, Live, Inv}

-- some box has the record r at number k, agreed or held
pub record Stands (s : Site) (k r : ℕ) : Type 0 where
  pub box : ℕ
  pub from : (s.box box).head.kept.first ≤ k
  pub place : k - (s.box box).head.kept.first < length (s.box box).records
  pub value : record_at (s.box box).head.kept.first (s.box box).records k ≡ r

-- A is a beginning of B, and what is new in B stands at a box of the site
pub record Longer (s : Site) (A B : List ℕ) : Type 0 where
  pub up : length A ≤ length B
  pub begins : (k : ℕ) → k < length A → get_or B k 0 ≡ get_or A k 0
  pub new : (k : ℕ) → length A ≤ k → k < length B → Stands s (suc k) (get_or B k 0)

pub longer-refl : (s : Site) (A : List ℕ) → Longer s A A
longer-refl s A = record {
  up = omega arith;
  begins = λ k h. refl;
  new = λ k h l. absurd (omega (arith, h, l));
}

-- the invariant of t, which a call has made of s
pub record After (s : Site) (i : Inv s) (t : Site) : Type 0 where
  pub inv : Inv t
  pub longer : Longer s i.agreed.records inv.agreed.records

-- where nothing new is agreed: the invariant of t, with the agreement in hand
pub record Under (g : Agreement) (t : Site) : Type 0 where
  pub core : Core t.n t.box g
  pub ranks : Ranks t.n t.box
  pub live : even t.epoch ≡ true → Live t.n t.present t.box t.link g

pub after : {s : Site} {i : Inv s} {t : Site} → Under i.agreed t → After s i t
after {s} {i} u = record {
  inv = record { agreed = i.agreed; core = u.core; ranks = u.ranks; live = u.live };
  longer = longer-refl s i.agreed.records;
}

pub after_same : {s : Site} (i : Inv s) → After s i s
after_same i = after (record { core = i.core; ranks = i.ranks; live = i.live })
