-- The count of records that goes with a first and a last.
use mathlib.Core.Path.{◌≡◌, refl, sym}
use mathlib.Core.Bool.{Bool, true, false, false≢true, ◌&&◌, ◌||◌}
use Prim.Native.Nat.{ℕ, ◌+◌, ◌≤◌, ◌<◌}
use native.Mathlib.Omega.{arith}
use lib.Dec.{leb, ltb, eqb}
use borrow.Author.Tests.{leb-true, ltb-true, eqb-true, le-leb, lt-ltb, eq-eqb}
use Rattle.rules.specs.Sizes.{most_number}
use Rattle.rules.specs.Parts.{span}
use Rattle.rules.specs.Form.{first_form, count_form}
use Rattle.rules.proofs.BoundLaws.{first-of, second-of}
use Rattle.values.specs.Counts.{count_of, agreed_count, full_count, held_count}

-- Two tests that pass in the same cases are the same.
pub same_test : (a b : Bool) → (a ≡ true → b ≡ true) → (b ≡ true → a ≡ true) → a ≡ b
same_test true b f g = sym (f refl)
same_test false true f g = g refl
same_test false false f g = refl

pub either-of {κ} : {P : Type κ} (a b : Bool) → (a || b) ≡ true → (a ≡ true → P) → (b ≡ true → P)
    → P
either-of true b e f g = f refl
either-of false b e f g = g e

pub either_first : (a b : Bool) → a ≡ true → (a || b) ≡ true
either_first true b e = refl
either_first false b e = absurd (false≢true e)

pub either_second : (a b : Bool) → b ≡ true → (a || b) ≡ true
either_second true b e = refl
either_second false b e = e

pub first_says : (first last : ℕ) → first_form first last ≡ true
    → (1 ≤ first) × (first ≤ last + 1)
unfolding first_form
first_says first last e =
    let one = leb-true 1 first (first-of (leb 1 first) _ e) in (
      one,
      either-of (eqb first 1) (leb first last) (second-of (leb 1 first) _ e)
          (λ t. let q = eqb-true first 1 t in omega arith)
          (λ t. let q = leb-true first last t in omega arith),
    )

module _ (J f l more count : ℕ) where
  -- what a count that goes with first f and last l says
  pub record Counted : Type 0 where
    pub last : l ≤ most_number
    pub first : f ≤ l + 1
    pub room : count ≤ J
    pub sum : f + count ≡ l + 1 + more

  pub count-says : count_of J f l more count ≡ true → Counted
  unfolding count_of
  count-says e =
      let numbered = first-of (leb l most_number && leb f (l + 1)) _ e in
      let counted = second-of (leb l most_number && leb f (l + 1)) _ e in
      let a = leb-true l most_number (first-of (leb l most_number) _ numbered) in
      let b = leb-true f (l + 1) (second-of (leb l most_number) _ numbered) in
      let q = eqb-true count (span f l + more) (second-of (leb count J) _ counted) in
      record {
        last = a;
        first = b;
        room = leb-true count J (first-of (leb count J) _ counted);
        sum = omega arith;
      }

  pub count-made : Counted → count_of J f l more count ≡ true
  unfolding count_of
  count-made c =
      let b = c.first in
      let s = c.sum in
      let q : count ≡ span f l + more = omega arith in
      rw (
        le-leb l most_number c.last,
        le-leb f (l + 1) b,
        le-leb count J c.room,
        eq-eqb count (span f l + more) q,
      )

module _ (J first last count : ℕ) where
  pub full-says : full_count J first last count ≡ true
      → Counted J first last 1 count × (last < most_number)
  full-says e = (
    count-says J first last 1 count (first-of (count_of J first last 1 count) _ e),
    ltb-true last most_number (second-of (count_of J first last 1 count) _ e),
  )

  pub full-made : Counted J first last 1 count → last < most_number
      → full_count J first last count ≡ true
  full-made c l = rw (count-made J first last 1 count c, lt-ltb last most_number l)

  -- What is held has room ..
  pub held-room : held_count J first last count ≡ true → count ≤ J
  held-room e =
      either-of (agreed_count J first last count) (full_count J first last count) e
      (λ t. (count-says J first last 0 count t).room)
      (λ t. (full-says t).0.room)

  -- .. and, of numbers in their ranges, is what the paper says.
  pub held-form : last ≤ most_number → first ≤ last + 1
      → held_count J first last count ≡ count_form J first last count
  unfolding count_form
  held-form l f = same_test _ _ to from
    where
      to : held_count J first last count ≡ true → count_form J first last count ≡ true
      to e =
          either-of (agreed_count J first last count) (full_count J first last count) e
          (λ t.
          let c = count-says J first last 0 count t in
          let s : first + count ≡ last + 1 = omega (arith, c.sum) in
          rw (eq-eqb (first + count) (last + 1) s, le-leb count J c.room))
          (λ t.
          let c = (full-says t).0 in
          let s : first + count ≡ last + 2 = omega (arith, c.sum) in
          rw (
            either_second (eqb (first + count) (last + 1))
                (eqb (first + count) (last + 2) && ltb last most_number)
                (rw (
                  eq-eqb (first + count) (last + 2) s,
                  lt-ltb last most_number (full-says t).1,
                )
                refl),
            le-leb count J c.room,
          ))

      from : count_form J first last count ≡ true → held_count J first last count ≡ true
      from e =
          let way = first-of
          (eqb (first + count) (last + 1)
          || (eqb (first + count) (last + 2) && ltb last most_number)) _ e in
          let room = leb-true count J (second-of
          (eqb (first + count) (last + 1)
          || (eqb (first + count) (last + 2) && ltb last most_number)) _ e) in
          either-of (eqb (first + count) (last + 1)) _ way
          (λ t.
          let s = eqb-true (first + count) (last + 1) t in
          either_first (agreed_count J first last count) _
          (count-made J first last 0 count
          (record { last = l; first = f; room = room; sum = omega arith })))
          (λ t.
          let s = eqb-true (first + count) (last + 2)
          (first-of (eqb (first + count) (last + 2)) _ t) in
          let b = ltb-true last most_number (second-of (eqb (first + count) (last + 2)) _ t) in
          either_second (agreed_count J first last count) _
          (full-made (record { last = l; first = f; room = room; sum = omega arith }) b))
