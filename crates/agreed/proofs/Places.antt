-- What is handed out.
use Prim.Native.Nat.{ℕ}
use mathlib.Core.Path.{◌≡◌, ap, ◌∙◌}
use mathlib.Core.List.{List}
use lib.ListN.{length}
use lib.Seq.{length-take-le}
use Rattle.agreed.specs.Agreed.{agreed_count, box_at, agreed_on, named, records_on}
use Rattle.agreed.specs.Places as specs
use Rattle.std.specs.Prelude.{Result, Ok, Err}
use Rattle.agreed.specs.declared.Listed.{Listed}
use Rattle.rules.specs.declared.model.Refusal.{Refusal}
use Rattle.agreed.proofs.PlaceLaws.{Found, found, records-on, enough-held}

handed : (xs ls : List ℕ) (c : ℕ) (w : Result Listed Refusal) → Found xs ls c w
    → named xs w ≡ records_on xs ls c
handed xs ls c (Ok l) p = p.1
handed xs ls c (Err why) p = p

pub places : specs.Places
places = record {
  handed_out = λ xs ls c. handed xs ls c (agreed_on xs ls c) (found xs ls c);
  of-box = records-on;
  as_many = λ xs ls c f b.
      ap length (records-on xs ls c f b)
      ∙ length-take-le (agreed_count (box_at xs ls c)) (box_at xs ls c).records
      (enough-held xs ls c f b);
}
