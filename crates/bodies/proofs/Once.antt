-- Nothing else could satisfy the statements: two results are the same, and two parts that are
-- handed
-- out are the same bytes at the same place.
use Prim.Native.Nat.{ℕ}
use mathlib.Core.Path.{◌≡◌, refl, sym, ◌∙◌}
use mathlib.Core.List.{List}
use denote.Ref.{Bor}
use Rattle.std.specs.Prelude.{Ok, Err}
use Rattle.bodies.specs.Contents.{Named}
use Rattle.bodies.specs.Handed.{Handed, BodyIs, Opened}
use Rattle.bodies.specs.Handed.BodyIs.{not-by-form as no-image, by_form as image}
use Rattle.bodies.specs.Handed.Opened.{not-by-form as shut, by_form as open_at}

pub body-once : {im : List ℕ} {k : ℕ} {a b : Named} → BodyIs im k a → BodyIs im k b → a ≡ b
body-once (no-image p) (no-image q) = refl
body-once (no-image p) (image s f e) = absurd (p s f e)
body-once (image s f e) (no-image q) = absurd (q s f e)
body-once (image s f e) (image t g d) = refl

pub opened-once : {im : List ℕ} {a b : ℕ} → Opened im a → Opened im b → a ≡ b
opened-once (shut p) (shut q) = refl
opened-once (shut p) (open_at s f e) = absurd (p s f e)
opened-once (open_at s f e) (shut q) = absurd (q s f e)
opened-once (open_at s f e) (open_at t g d) = refl

-- A part has one place and one content; where nothing is handed out it is empty.
abbrev pub Alike : Named → Bor (List ℕ) → Bor (List ℕ) → Type 0
Alike (Ok p) q r = (q.ref_ptr ≡ r.ref_ptr) × (q.now ≡ r.now)
Alike (Err why) q r = q.now ≡ r.now

pub handed-once : (x : Bor (List ℕ)) (w : Named) (q r : Bor (List ℕ)) → Handed x w q
    → Handed x w r → Alike w q r
handed-once x (Ok p) q r g h = (
  g.place ∙ sym h.place,
  g.bytes ∙ sym h.bytes,
)
handed-once x (Err why) q r g h = g ∙ sym h
