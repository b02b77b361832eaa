-- Tests of fields: none fails where all pass.
use mathlib.Core.Path.{◌≡◌, refl, sym, ap, ◌∙◌}
use mathlib.Core.Bool.{Bool, true, false, false≢true, cond, ◌&&◌}
use mathlib.Core.List.{List, [], ◌∷◌}
use Rattle.rules.specs.Every.{all}
use Rattle.rules.proofs.BoundLaws.{first-of, second-of}
use Rattle.values.specs.Faults.{Test, fault_then, is_whole}
use Rattle.std.specs.Prelude.{Option, Some, None}
use Rattle.values.specs.declared.Field.{Field}

-- the tests alone
abbrev pub holds_of : List Test → List Bool
holds_of [] = []
holds_of (t ∷ ts) = t.holds ∷ holds_of ts

pub whole-then : (ts : List Test) (rest : Option Field)
    → is_whole (fault_then ts rest) ≡ (all (holds_of ts) && is_whole rest)
unfolding fault_then all
whole-then [] rest = refl
whole-then (t ∷ ts) rest = go (whole-then ts rest) t.holds
  where
    go : is_whole (fault_then ts rest) ≡ (all (holds_of ts) && is_whole rest)
        → (b : Bool) → is_whole (cond b (fault_then ts rest) (Some t.field))
        ≡ ((b && all (holds_of ts)) && is_whole rest)
    go more true = more
    go more false = refl

pub whole-none : (f : Option Field) → is_whole f ≡ true → f ≡ None
whole-none None h = refl
whole-none (Some x) h = absurd (false≢true h)

-- Where nothing is amiss, nothing was before and nothing is behind.
pub then-passed : (ts : List Test) (rest : Option Field) → fault_then ts rest ≡ None
    → (all (holds_of ts) ≡ true) × (rest ≡ None)
then-passed ts rest e =
    let t : (all (holds_of ts) && is_whole rest) ≡ true = sym (whole-then ts rest)
    ∙ ap is_whole e in
    (first-of (all (holds_of ts)) _ t, whole-none rest (second-of (all (holds_of ts)) _ t))

pub passed_then : (ts : List Test) {rest : Option Field} → all (holds_of ts) ≡ true → rest ≡ None
    → fault_then ts rest ≡ None
unfolding fault_then all
passed_then [] h e = e
passed_then (t ∷ ts) {rest} h e =
    ap (λ (b : Bool). cond b (fault_then ts rest) (Some t.field)) (first-of t.holds _ h)
    ∙ passed_then ts (second-of t.holds _ h) e
