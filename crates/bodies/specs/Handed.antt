-- What is handed out: the part of the lent image itself; and the answers that look at the whole
-- image first.
use Rattle.std.specs.Prelude.{ℕ, ◌+◌, ◌≡◌, true, List, []}
use Rattle.std.specs.Borrow.{Bor}
use Rattle.words.specs.Rows.{part}
use Rattle.rules.specs.Site.{Site}
use Rattle.rules.specs.Form.{form}
use Rattle.rules.specs.declared.model.Refusal.{Refusal}
use Rattle.image.specs.Image.{image_of}
use Rattle.std.specs.Prelude.{Ok, Err}
use Rattle.bodies.specs.Contents.{Named}
use Rattle.bodies.specs.Contents.{named}

-- "without copying": r lies in the lent bytes x, n of them from a on
pub record PartOf (x : Bor (List ℕ)) (a n : ℕ) (r : Bor (List ℕ)) : Type 0 where
  pub place : r.ref_ptr ≡ (x.ref_ptr.0, x.ref_ptr.1 + a)
  pub bytes : r.now ≡ part x.now a n

-- what is handed out for an answer
abbrev pub Handed : Bor (List ℕ) → Named → Bor (List ℕ) → Type 0
Handed x (Ok p) r = PartOf x p.begin p.long r
Handed x (Err why) r = r.now ≡ []

-- no site by form has this image
abbrev pub NotByForm : List ℕ → Type 0
NotByForm im = (s : Site) → form s ≡ true → image_of s ≡ im → ⊥

-- body k of an image: 1, else what its table names
pub data BodyIs (im : List ℕ) (k : ℕ) : Named → Type 0 where
  not-by-form : NotByForm im → BodyIs im k (Err Refusal.Form)
  by_form : (s : Site) → form s ≡ true → image_of s ≡ im → BodyIs im k (named im k)

-- the place at which a reader of the image begins
pub data Opened (im : List ℕ) : ℕ → Type 0 where
  not-by-form : NotByForm im → Opened im 0
  by_form : (s : Site) → form s ≡ true → image_of s ≡ im → Opened im 1
