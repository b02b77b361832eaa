-- What is wrong with a line that cannot be read: the first of these that applies.
use Rattle.std.specs.Prelude.{ℕ, ◌-◌, Bool, true, false, not, ◌||◌, List, [], ◌∷◌, eqb, ltb, length}
use Rattle.std.specs.Prelude.{get_or}
use Rattle.rules.specs.Pick.{pick}
use Rattle.lines.specs.Table.{starts}
use Rattle.wording.specs.declared.fault.Fault.{Fault}

-- w stands somewhere in s
unfoldable pub within : List ℕ → List ℕ → Bool
within w [] = false
within w (b ∷ s) = pick (starts w (b ∷ s)) true (within w s)

-- the last byte, 0 of an empty line
abbrev pub last_of : List ℕ → ℕ
last_of s = get_or s (length s - 1) 0

-- a space in front, at the end, or after another
unfoldable pub overspaced : List ℕ → Bool
overspaced s = starts (32 ∷ []) s || eqb (last_of s) 32 || within (32 ∷ 32 ∷ []) s

unfoldable pub fault_of : List ℕ → Bool → Fault
fault_of s ended =
    pick (not ended) Fault.Unended
    (pick (eqb (length s) 0) Fault.Empty
    (pick (starts (239 ∷ 187 ∷ 191 ∷ []) s) Fault.Mark
    (pick (eqb (last_of s) 13) Fault.Return
    (pick (starts (35 ∷ []) s) Fault.Remark
    (pick (within (9 ∷ []) s) Fault.Tab
    (pick (overspaced s) Fault.Space
    (pick (ltb 64 (length s)) Fault.Long
    Fault.Other)))))))
