-- Nothing else could satisfy what `journal_body` and `journal_named` say.
use Prim.Native.Nat.{ℕ}
use mathlib.Core.Path.{◌≡◌, sym, ap, ◌∙◌}
use mathlib.Core.List.{List}
use Rattle.bodies.specs.Contents.{Named}
use Rattle.bodies.proofs.Once.{body-once}
use Rattle.journal.specs.Answered.{number_of}
use Rattle.journal.specs.Bodies.{part_then}
use Rattle.journal.specs.Bodies.{Answered, BodyAnswered, NamedAnswered}

-- Two results of one answer.
same : {v w : Named} {begin a b len t u r q : ℕ} → v ≡ w → Answered v begin a len t r
    → Answered w begin b len u q → (r ≡ q) × (a ≡ b) × (t ≡ u)
same {begin = begin} {len = len} e g h = (
  g.number ∙ ap number_of e ∙ sym h.number,
  g.place ∙ ap (λ (w : Named). (part_then w begin len).begin) e ∙ sym h.place,
  g.long ∙ ap (λ (w : Named). (part_then w begin len).long) e ∙ sym h.long,
)

pub body-answered-once : {bytes : List ℕ} {k begin a b len t u r q : ℕ}
    → BodyAnswered bytes k begin a len t r → BodyAnswered bytes k begin b len u q
    → (r ≡ q) × (a ≡ b) × (t ≡ u)
body-answered-once g h = same (body-once g.is h.is) g.answered h.answered

pub named-answered-once : {w : Named} {begin a b len t u r q : ℕ}
    → NamedAnswered w begin a len t r → NamedAnswered w begin b len u q
    → (r ≡ q) × (a ≡ b) × (t ≡ u)
named-answered-once g h = same (g.is ∙ sym h.is) g.answered h.answered
