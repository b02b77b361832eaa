-- Nothing else could satisfy what `read` says: one answer, one site, and where it is refused every
-- word as it was.
use mathlib.Core.Path.{◌≡◌, refl, sym, ◌∙◌, subst}
use mathlib.Core.Bool.{true, false, ◌&&◌}
use Prim.Native.Nat.{ℕ, ◌≤◌}
use mathlib.Core.List.{List}
use lib.Dec.{leb}
use lib.ListN.{length, get_or}
use borrow.Author.Tests.{le-leb}
use Rattle.rules.specs.Site.{Site}
use Rattle.rules.specs.Form.{form}
use Rattle.rules.specs.declared.model.Answer.{Answer}
use Rattle.laws.proofs.Logic.{both-no, and_both}
use Rattle.memory.specs.Memory.{site_words, links_words, site_of}
use Rattle.memory.proofs.LentLaws.{form-readable, form-site, readable-rows, readable-links}
use Rattle.image.specs.Image.{image_of}
use Rattle.image.proofs.OneImage.{one-image}
use Rattle.image.proofs.MemoryImage.{one_memory}
use Rattle.reader.specs.Reader.{enough_for, Holds, ReadIs, not-by-form, too_short, done}

-- Two results have the same answer and the same site, and where it is refused the same words.
pub record Same (a b : Answer) (ys ks zs ms : List ℕ) : Type 0 where
  pub answer : a ≡ b
  pub site : site_of ys ks ≡ site_of zs ms
  pub words : (a ≡ Answer.Done → ⊥) → (ys ≡ zs) × (ks ≡ ms)

-- Sites by form of one image have room in the same words.
pub same-room : (s t : Site) (xs ls : List ℕ) → form s ≡ true → form t ≡ true
    → image_of s ≡ image_of t → enough_for s xs ls ≡ enough_for t xs ls
same-room s t xs ls f g e =
    let a = one-image s t f g e in
    λ i. leb (site_words (a.n i) (a.J i)) (length xs)
    && leb (links_words (a.n i) (a.J i) (a.L i)) (length ls)

module _ {image xs ls ys ks : List ℕ} (h : Holds image xs ls ys ks) where
  pub held-form : form (site_of ys ks) ≡ true
  held-form = form-site ys ks h.form

  -- Where it is stored there was room.
  pub held-room : enough_for (site_of ys ks) xs ls ≡ true
  unfolding site_of
  held-room =
      let r = form-readable ys ks h.form in
      let rows = (readable-rows ys ks 0 r).words in
      let links = (readable-links ys ks 0 r).words in
      let x = site_words (get_or ys 0 0) (get_or ys 1 0) in
      let y = links_words (get_or ys 0 0) (get_or ys 1 0) (get_or ys 2 0) in
      and_both (le-leb x (length xs) (subst (λ (k : ℕ). x ≤ k) h.site-words rows))
      (le-leb y (length ls) (subst (λ (k : ℕ). y ≤ k) h.links-words links))

  not_none : ((s : Site) → form s ≡ true → image_of s ≡ image → ⊥) → ⊥
  not_none none = none (site_of ys ks) held-form h.image

  not_short : (s : Site) → form s ≡ true → image_of s ≡ image → enough_for s xs ls ≡ false → ⊥
  not_short s f e short =
      both-no held-room
      (same-room (site_of ys ks) s xs ls held-form f (h.image ∙ sym e) ∙ short)

refused : {a : Answer} {ys ks : List ℕ} → Same a a ys ks ys ks
refused = record { answer = refl; site = refl; words = λ h. (refl, refl) }

pub read-once : {image xs ls ys ks zs ms : List ℕ} {a b : Answer} → ReadIs image xs ls a ys ks
    → ReadIs image xs ls b zs ms → Same a b ys ks zs ms
read-once (not-by-form p) (not-by-form q) = refused
read-once (not-by-form p) (too_short s f e r) = absurd (p s f e)
read-once (not-by-form p) (done h) = absurd (not_none h p)
read-once (too_short s f e r) (not-by-form q) = absurd (q s f e)
read-once (too_short s f e r) (too_short t g d q) = refused
read-once (too_short s f e r) (done h) = absurd (not_short h s f e r)
read-once (done h) (not-by-form q) = absurd (not_none h q)
read-once (done h) (too_short s f e r) = absurd (not_short h s f e r)
read-once {ys = ys} {ks = ks} {zs = zs} {ms = ms} (done h) (done k) = record {
  answer = refl;
  site = one_memory ys ks zs ms h.form k.form (h.image ∙ sym k.image);
  words = λ n. absurd (n refl);
}
