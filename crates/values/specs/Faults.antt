-- Tests of fields in the image's order, and the first that fails.
use Rattle.std.specs.Prelude.{Bool, true, false, cond, List, [], ◌∷◌}
use Rattle.std.specs.Prelude.{Option, Some, None}
use Rattle.values.specs.declared.Field.{Field}

-- a field, and whether it is by form
pub record Test : Type 0 where
  pub field : Field
  pub holds : Bool

abbrev pub test : Field → Bool → Test
test f b = record { field = f; holds = b }

-- the first field that is not by form, or what is said of those behind them
unfoldable pub fault_then : List Test → Option Field → Option Field
fault_then [] rest = rest
fault_then (t ∷ ts) rest = cond t.holds (fault_then ts rest) (Some t.field)

-- every field is by form
abbrev pub is_whole : Option Field → Bool
is_whole None = true
is_whole (Some f) = false
