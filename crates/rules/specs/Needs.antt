-- "Refusals and their order": needs in the table's order, the first that fails refuses.
use Rattle.std.specs.Prelude.{Bool, cond, List, [], ◌∷◌}
use Rattle.rules.specs.Types.{Refusal}

pub record Need : Type 0 where
  pub why : Refusal
  pub met : Bool

abbrev pub need : Refusal → Bool → Need
need why met = record { why = why; met = met }

-- "The first that applies, in this order, is given"; where none does, a
unfoldable pub ruled {ℓ} : {A : Type ℓ} → (Refusal → A) → List Need → A → A
ruled refuse [] a = a
ruled refuse (k ∷ ks) a = cond k.met (ruled refuse ks a) (refuse k.why)
