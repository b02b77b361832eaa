-- What is known of a general body that is kept; J and L where it is not.
use mathlib.Core.Path.{◌≡◌, refl, sym, ap, ◌∙◌}
use mathlib.Core.Bool.{Bool, true, false, false≢true}
use Prim.Native.Nat.{ℕ, ◌≤◌}
use native.Mathlib.Omega.{arith}
use mathlib.Core.List.{List}
use lib.Dec.{leb, eqb}
use lib.ListN.{length}
use borrow.Author.Tests.{leb-true, eqb-true}
use Rattle.rules.specs.Pick.{pick_true, pick-false}
use Rattle.rules.specs.Sizes.{most_loads, most_mails, most_epoch, within}
use Rattle.rules.specs.Sets.{set_form}
use Rattle.rules.proofs.BoundLaws.{second-of}
use Rattle.image.specs.Longest.{general_long}
use Rattle.found.specs.declared.Spot.{Spot}
use Rattle.std.specs.Prelude.{Ok}
use Rattle.found.specs.Found.{Found}
use Rattle.found.specs.Stands.{word_at}
use Rattle.found.specs.Found.{unless, is_kept, general_found, loads_of, mails_of}

pub unless-kept : (b : Bool) (s : Spot) (f : Found) → is_kept (unless b s f) ≡ true
    → (b ≡ true) × (is_kept f ≡ true)
unless-kept true s f e = (refl, e)
unless-kept false s f e = absurd (false≢true e)

module _ (n : ℕ) (body : List ℕ) where
  pub record GeneralKept : Type 0 where
    pub boxes : word_at 4 body 0 ≡ n
    pub loads : within 1 most_loads (word_at 4 body 4) ≡ true
    pub mails : within 1 most_mails (word_at 4 body 8) ≡ true
    pub epoch : within 1 most_epoch (word_at 4 body 12) ≡ true
    pub present : set_form n (word_at 4 body 16) ≡ true
    pub long : general_long ≡ length body

  pub general-kept : is_kept (general_found n body) ≡ true → GeneralKept
  unfolding general_found
  general-kept e =
      let a = unless-kept (eqb (word_at 4 body 0) n) _ _ e in
      let b = unless-kept (within 1 most_loads (word_at 4 body 4)) _ _ a.1 in
      let c = unless-kept (within 1 most_mails (word_at 4 body 8)) _ _ b.1 in
      let d = unless-kept (within 1 most_epoch (word_at 4 body 12)) _ _ c.1 in
      let f = unless-kept (set_form n (word_at 4 body 16)) _ _ d.1 in
      let g = unless-kept (eqb general_long (length body)) Spot.Rest (Ok tt) f.1 in
      record {
        boxes = eqb-true (word_at 4 body 0) n a.0;
        loads = b.0;
        mails = c.0;
        epoch = d.0;
        present = f.0;
        long = eqb-true general_long (length body) g.0;
      }

  within-most : (m x : ℕ) → within 1 m x ≡ true → x ≤ m
  within-most m x e = leb-true x m (second-of (leb 1 x) _ e)

  module _ {f : Found} {t : Bool} (is : f ≡ general_found n body) (told : t ≡ is_kept f) where
    kept : t ≡ true → is_kept (general_found n body) ≡ true
    kept e = ap is_kept (sym is) ∙ sym told ∙ e

    not-kept : t ≡ false → is_kept (general_found n body) ≡ false
    not-kept e = ap is_kept (sym is) ∙ sym told ∙ e

    pub loads-few : {x : ℕ} → t ≡ true → x ≡ word_at 4 body 4 → x ≤ most_loads
    loads-few e x =
        let m = within-most most_loads (word_at 4 body 4) (general-kept (kept e)).loads in
        omega arith

    pub loads-said : {x r : ℕ} → t ≡ true → x ≡ word_at 4 body 4 → r ≡ x
        → (r ≡ loads_of n body) × (r ≤ most_loads)
    unfolding loads_of
    loads-said e x y =
        let m = loads-few e x in
        (y ∙ x ∙ sym (pick_true (is_kept (general_found n body)) _ _ (kept e)), omega arith)

    pub loads_largest : t ≡ false → (most_loads ≡ loads_of n body) × (most_loads ≤ most_loads)
    unfolding loads_of
    loads_largest e =
        (sym (pick-false (is_kept (general_found n body)) _ _ (not-kept e)), omega arith)

    pub mails-said : {x : ℕ} → t ≡ true → x ≡ word_at 4 body 8
        → (x ≡ mails_of n body) × (x ≤ most_mails)
    unfolding mails_of
    mails-said e x =
        let m = within-most most_mails (word_at 4 body 8) (general-kept (kept e)).mails in
        (x ∙ sym (pick_true (is_kept (general_found n body)) _ _ (kept e)), omega arith)

    pub mails_largest : t ≡ false → (most_mails ≡ mails_of n body) × (most_mails ≤ most_mails)
    unfolding mails_of
    mails_largest e =
        (sym (pick-false (is_kept (general_found n body)) _ _ (not-kept e)), omega arith)
