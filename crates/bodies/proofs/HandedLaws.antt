-- What is handed out for an answer, as the code cuts it; and that nothing else could be.
use Prim.Native.Nat.{ℕ, ◌+◌, ◌-◌}
use native.Mathlib.Nat.{add_comm}
use mathlib.Core.Path.{◌≡◌, refl, subst}
use mathlib.Core.List.{List}
use lib.ListN.{take, drop}
use denote.Ref.{Bor}
use Rattle.words.proofs.PartLaws.{cut_at}
use Rattle.std.specs.Prelude.{Ok, Err}
use Rattle.bodies.specs.declared.Part.{Part}
use Rattle.bodies.specs.Contents.{Named}
use Rattle.bodies.specs.Handed.{Handed}
use Rattle.rules.specs.declared.model.Refusal.{Refusal}

module _ (x : Bor (List ℕ)) where
  -- from a to e
  abbrev cut : ℕ → ℕ → Bor (List ℕ)
  cut a e = record {
    ref_ptr = (x.ref_ptr.0, a + x.ref_ptr.1);
    now = take (e - a) (drop a x.now);
  }

  pub handed-part : (p : Part) {w : Named} → Ok p ≡ w
      → Handed x w (cut p.begin (p.begin + p.long))
  handed-part p e =
      subst (λ (w : Named). Handed x w (cut p.begin (p.begin + p.long))) e
      (record {
        place = λ i. (x.ref_ptr.0, add_comm p.begin x.ref_ptr.1 i);
        bytes = cut_at {a = p.begin} {k = p.long} x.now refl refl;
      })

  pub handed-none : {why : Refusal} {w : Named} → Err why ≡ w → Handed x w (cut 0 0)
  handed-none e = subst (λ (w : Named). Handed x w (cut 0 0)) e refl
