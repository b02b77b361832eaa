-- The first need that fails, as a verdict.
use Rattle.std.specs.Prelude.{List, [], ◌∷◌}
use Rattle.rules.specs.Needs.{Need}
use Rattle.rules.specs.Turns.{unless}
use Rattle.rules.specs.declared.model.Verdict.{Verdict}

unfoldable pub verdict_of : List Need → Verdict
verdict_of [] = Verdict.Go
verdict_of (k ∷ ks) = unless k.met k.why (verdict_of ks)
