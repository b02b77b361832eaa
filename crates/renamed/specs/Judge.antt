-- Lines looked at one after another: how many, and which is the first that cannot be read, and the
-- first that has no name.
use Rattle.std.specs.Prelude.{ℕ, ◌+◌, Bool, not, ◌&&◌, List, [], ◌∷◌, ltb, Option}
use Rattle.std.specs.Prelude.{Some, is_none}
use Rattle.rules.specs.Pick.{pick}
use Rattle.lines.specs.Printed.{readable}
use Rattle.lines.specs.declared.Line.{Line}
use Rattle.renamed.specs.Read.{has_name}
use Rattle.renamed.specs.Trace.{fits}
use Rattle.renamed.specs.declared.judge.Judged.{Judged}
use Rattle.renamed.specs.declared.names.Names.{Names}

-- one line more; past 4,294,967,296 it does not matter how many
unfoldable pub one_more : ℕ → ℕ
one_more k = pick (ltb k 4294967296) (k + 1) k

-- the first of these, or else k where t says so
unfoldable pub first_of : Option ℕ → Bool → ℕ → Option ℕ
first_of a t k = pick (is_none a && t) (Some k) a

-- l is looked at; named: it has a name
unfoldable pub judged_by : Bool → Judged → Line → Judged
judged_by named j l = record {
  lines = one_more j.lines;
  unreadable = first_of j.unreadable (not (fits j.lines l)) (one_more j.lines);
  unnamed = first_of j.unnamed (readable l && not named) (one_more j.lines);
}

unfoldable pub judged_all : Names → Judged → List Line → Judged
judged_all to j [] = j
judged_all to j (l ∷ ls) = judged_all to (judged_by (has_name to l) j l) ls
