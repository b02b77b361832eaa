-- The entries of `bodies` with their answer as one number, 0 or the refusal's, and where the body
-- begins and its length.
use Rattle.std.specs.Prelude.{ℕ, ◌≡◌, List}
use Rattle.bodies.specs.Contents.{Named, part_from}
use Rattle.bodies.specs.Handed.{BodyIs}
use Rattle.bodies.specs.declared.Part.{Part}
use Rattle.journal.specs.Answered.{number_of, or_before}

-- what was lent, where the call is refused
abbrev pub part_then : Named → ℕ → ℕ → Part
part_then w begin long = or_before w (part_from begin long)

-- the answer w: begin and len have become begin' and len', and r was answered
pub record Answered (w : Named) (begin begin' len len' r : ℕ) : Type 0 where
  pub number : r ≡ number_of w
  pub place : begin' ≡ (part_then w begin len).begin
  pub long : len' ≡ (part_then w begin len).long

-- `body` of these bytes
pub record BodyAnswered (bytes : List ℕ) (k begin begin' len len' r : ℕ) : Type 0 where
  pub answer : Named
  pub is : BodyIs bytes k answer
  pub answered : Answered answer begin begin' len len' r

-- `named`, which says w
pub record NamedAnswered (w : Named) (begin begin' len len' r : ℕ) : Type 0 where
  pub answer : Named
  pub is : answer ≡ w
  pub answered : Answered answer begin begin' len len' r
