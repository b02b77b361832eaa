-- What came of a turn, by its answer.
use Prim.Native.Nat.{ℕ}
use mathlib.Core.Path.{◌≡◌, refl, sym, subst}
use mathlib.Core.List.{List}
use Rattle.rules.specs.declared.model.Answer.{Answer}
use Rattle.rules.specs.declared.model.Call.{Call}
use Rattle.std.specs.Prelude.{Option, Some}
use Rattle.site.specs.Entries.{FormedStep}
use Rattle.until.specs.Turns.{went_by, Took}
use Rattle.until.specs.declared.turns.Went.{Went}

pub came : {next : Option Call} {d : Call} {xs ls xs' ls' : List ℕ} {a : Answer} {w : Went}
    → next ≡ Some d → FormedStep d xs ls xs' ls' a → w ≡ went_by a
    → Took w next xs ls xs' ls'
came {next} {d} {xs} {ls} {xs'} {ls'} {a} {w} e f q =
    subst (λ (v : Went). Took v next xs ls xs' ls') (sym q) (go a f)
  where
    go : (b : Answer) → FormedStep d xs ls xs' ls' b → Took (went_by b) next xs ls xs' ls'
    go Answer.Done g = (d, Answer.Done, e, refl, g)
    go Answer.Taken g = (d, Answer.Taken, e, refl, g)
    go (Answer.Discarded why) g = (d, Answer.Discarded why, e, refl, g)
    go (Answer.Refused why) g = (d, e, g)
