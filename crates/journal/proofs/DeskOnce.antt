-- Nothing else could satisfy the statements of the desk's functions.
use Prim.Native.Nat.{ℕ}
use mathlib.Core.Path.{◌≡◌, sym, ap, ◌∙◌}
use mathlib.Core.List.{List}
use Rattle.memory.specs.Memory.{site_of}
use Rattle.desk.specs.Sides.{Outcome}
use Rattle.desk.specs.Desk.{number_of}
use Rattle.std.specs.Prelude.{Result}
use Rattle.desk.specs.declared.answers.Why.{Why}
use Rattle.desk.proofs.Once.{side-once, pair-once}
use Rattle.journal.specs.Answered.{or_before}
use Rattle.journal.specs.Desk.{DeskAnswered, PairAnswered}

pub desk-once : {o : Outcome} {us vs : List ℕ} {q r : ℕ} → DeskAnswered o us q
    → DeskAnswered o vs r → (us ≡ vs) × (q ≡ r)
desk-once i j =
    let s = side-once i.side j.side in
    (s.0, i.number ∙ ap number_of s.1 ∙ sym j.number)

pub pair-answered-once : {f : ℕ} {ws xs ls us ys ms vs zs ns : List ℕ} {g h k q r : ℕ}
    → PairAnswered f ws xs ls us ys ms g h q → PairAnswered f ws xs ls vs zs ns g k r
    → (q ≡ r) × (h ≡ k) × (us ≡ vs) × (site_of ys ms ≡ site_of zs ns)
pair-answered-once {f} {ws} {xs} {ls} {g = g} i j =
    let s = pair-once f ws xs ls i.pair j.pair in (
      i.number ∙ ap number_of s.answer ∙ sym j.number,
      i.right ∙ ap (λ (p : Result ℕ Why). or_before p g) s.answer ∙ sym j.right,
      s.desk,
      s.site,
    )
