-- Both round trips, over what `write` and `read` say of the lent buffers.
use mathlib.Core.Path.{◌≡◌, refl, sym, ap, ◌∙◌, subst}
use mathlib.Core.Bool.{true}
use Prim.Native.Nat.{ℕ, ◌≤◌}
use native.Mathlib.Omega.{arith}
use mathlib.Core.List.{List, ◌++◌}
use lib.ListN.{length, take, drop}
use lib.Seq.{take_at}
use Rattle.rules.specs.Site.{Site}
use Rattle.rules.specs.Form.{form}
use Rattle.rules.specs.declared.model.Answer.{Answer}
use Rattle.laws.proofs.Logic.{both-no}
use Rattle.memory.specs.Memory.{site_of, memory_form}
use Rattle.memory.proofs.LentLaws.{form-site}
use Rattle.image.specs.Image.{image_of}
use Rattle.image.proofs.OneImage.{Agree, one-image, agree_same}
use Rattle.image.proofs.MemoryImage.{memory_bounded}
use Rattle.std.specs.Prelude.{Ok}
use Rattle.writer.specs.Writer.{Written}
use Rattle.writer.specs.Writer.{WriteIs}
use Rattle.writer.specs.Writer as writer
use Rattle.reader.specs.Reader.{enough_for, ReadIs}
use Rattle.reader.specs.Reader as reader
use Rattle.reader.proofs.Once.{same-room, held-form}

-- Every site by form is read back from its image, where the words are enough for it.
pub read_back : (s : Site) {xs ls ys ks : List ℕ} {a : Answer} → form s ≡ true
    → enough_for s xs ls ≡ true → ReadIs (image_of s) xs ls a ys ks
    → (a ≡ Answer.Done) × Agree s (site_of ys ks)
read_back s f room (reader.not-by-form p) = absurd (p s f refl)
read_back s {xs} {ls} f room (reader.too_short t g e r) =
    absurd (both-no room (same-room s t xs ls f g (sym e) ∙ r))
read_back s {ys = ys} {ks = ks} f room (reader.done h) =
    (refl, one-image s (site_of ys ks) f (held-form h) (sym h.image))

-- ---- over the lent buffers

-- The bytes that `write` has written.
pub front-written : {us vs o o' : List ℕ} {w : Written} (n : ℕ) → w ≡ Ok n
    → WriteIs us vs o w o' → (memory_form us vs ≡ true) × (take n o' ≡ image_of (site_of us vs))
front-written n e (writer.not-by-form f) = absurd (let z : ◌≡◌ {A = ℕ} 0 1 = cc in omega arith)
front-written n e (writer.too_short f l) = absurd (let z : ◌≡◌ {A = ℕ} 0 1 = cc in omega arith)
front-written {us} {vs} {o} n e (writer.written f l) =
    let bytes = image_of (site_of us vs) in
    let long : length bytes ≡ n = cc in
    (f, take_at bytes (drop (length bytes) o) n long)

-- WRITE, THEN READ: the same site.
pub write_read : {us vs o o' xs ls ys ks : List ℕ} {w : Written} {a : Answer} (n : ℕ)
    → w ≡ Ok n → WriteIs us vs o w o' → enough_for (site_of us vs) xs ls ≡ true
    → ReadIs (take n o') xs ls a ys ks → (a ≡ Answer.Done) × (site_of ys ks ≡ site_of us vs)
write_read {us} {vs} {xs = xs} {ls = ls} {ys = ys} {ks = ks} {a = a} n e w room r =
    let k = front-written n e w in
    let b = read_back (site_of us vs) (form-site us vs k.0) room
    (subst (λ (l : List ℕ). ReadIs l xs ls a ys ks) k.1 r) in (
      b.0,
      sym
          (agree_same (site_of us vs) (site_of ys ks) b.1 (memory_bounded us vs)
          (memory_bounded ys ks)),
    )

-- READ, THEN WRITE: the image's bytes.
pub read_write : {image xs ls ys ks o o' : List ℕ} {w : Written} {a : Answer} → a ≡ Answer.Done
    → ReadIs image xs ls a ys ks → length image ≤ length o → WriteIs ys ks o w o'
    → (w ≡ Ok (length image)) × (o' ≡ image ++ drop (length image) o)
read_write e (reader.not-by-form p) room w = absurd (let z : ◌≡◌ {A = ℕ} 0 1 = cc in omega arith)
read_write e (reader.too_short s f d r) room w =
    absurd (let z : ◌≡◌ {A = ℕ} 0 1 = cc in omega arith)
read_write e (reader.done h) room (writer.not-by-form f) = absurd (both-no h.form f)
read_write e (reader.done h) room (writer.too_short f l) =
    let same = ap length h.image in
    absurd (omega arith)
read_write {o = o} e (reader.done h) room (writer.written f l) = (
  ap (λ (b : List ℕ). Ok (length b)) h.image,
  ap (λ (b : List ℕ). b ++ drop (length b) o) h.image,
)
