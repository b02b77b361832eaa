-- Q-10, in statements alone: a Begin on its way has just the number that its receiver has promised.
-- So "Begin mail with a number above the receiver's promise" cannot be made to happen.
use Rattle.std.specs.Prelude.{ℕ, ◌<◌, ◌≡◌, true, false, List, [], ◌∷◌, ◌++◌}
use Rattle.rules.specs.Sizes.{most_boxes, even}
use Rattle.rules.specs.Box.{Letter}
use Rattle.rules.specs.Site.{Site}
use Rattle.rules.specs.Step.{run}
use Rattle.rules.specs.declared.model.Call.{Call}
use Rattle.rules.specs.declared.model.Kind.{Kind}
use Rattle.safety.specs.Demand3.{In, start}

-- in an even epoch the Begin y stands on the link from a to another box b, behind the letters
-- `ahead`
pub record BeginComes (s : Site) (a b : ℕ) (ahead : List Letter) (y : Letter) : Type 0 where
  pub even : even s.epoch ≡ true
  pub other : a ≡ b → ⊥
  pub behind : List Letter
  pub stands : s.link a b ≡ ahead ++ (y ∷ behind)
  pub kind : y.head.kind ≡ Kind.Begin

pub record Begins : Type 0 where
  -- For every n from 1 to 5, every J and L, and any calls from the fresh site: wherever it stands,
  -- it has its receiver's promised number.
  pub promised : (n J L : ℕ) → In n most_boxes → (calls : List Call) (a b : ℕ) → In b n
      → (ahead : List Letter) (y : Letter) → BeginComes (run (start n J L) calls) a b ahead y
      → y.head.pn ≡ ((run (start n J L) calls).box b).head.kept.pn
  -- "no site reached from a fresh one by the steps, Q-1's repeats included, has such a mail at the
  -- head of a link in an even epoch where the receiver does not lead"
  pub none_above : (n J L : ℕ) → In n most_boxes → (calls : List Call) (a b : ℕ) → In b n
      → (y : Letter) → BeginComes (run (start n J L) calls) a b [] y
      → ((run (start n J L) calls).box b).head.leads ≡ false
      → ((run (start n J L) calls).box b).head.kept.pn < y.head.pn → ⊥
