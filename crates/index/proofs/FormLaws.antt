-- By form, and the record that says the same.
use mathlib.Core.Path.{◌≡◌, refl, sym}
use Prim.Native.Nat.{ℕ, ◌+◌}
use mathlib.Core.Bool.{Bool, true, false, false≢true}
use mathlib.Core.List.{List, [], ◌∷◌}
use lib.Dec.{leb, eqb}
use lib.ListN.{length}
use borrow.Author.Tests.{eqb-true, eq-eqb, leb-true, le-leb}
use Rattle.words.specs.Rows.{part}
use Rattle.rules.specs.Every.{all}
use Rattle.rules.proofs.BoundLaws.{first-of, second-of}
use Rattle.index.specs.Index.{slots, tails_at, nexts_at, heads_of, tails_of, nexts_of, same}
use Rattle.index.specs.Index.{index_form}
use Rattle.index.specs.Lent.{Indexed}
use Rattle.index.proofs.CaseLaws.{test-cases}

-- ---- two lists are the same

pub same_true : (xs ys : List ℕ) → same xs ys ≡ true → xs ≡ ys
unfolding same
same_true [] [] e = refl
same_true [] (y ∷ ys) e = absurd (false≢true e)
same_true (x ∷ xs) [] e = absurd (false≢true e)
same_true (x ∷ xs) (y ∷ ys) e =
    rw (
      eqb-true x y (first-of (eqb x y) (same xs ys) e),
      same_true xs ys (second-of (eqb x y) (same xs ys) e),
    )

same_self : (xs : List ℕ) → same xs xs ≡ true
unfolding same
same_self [] = refl
same_self (x ∷ xs) = rw (eq-eqb x x refl, same_self xs) refl

pub true_same : (xs ys : List ℕ) → xs ≡ ys → same xs ys ≡ true
true_same xs ys e = rw e (same_self ys)

-- ---- the index

module _ (k : ℕ) (rs ix : List ℕ) where
  abbrev heads : Bool
  heads = same (part ix 0 slots) (heads_of k rs)

  abbrev tails : Bool
  tails = same (part ix tails_at slots) (tails_of k rs)

  abbrev nexts : Bool
  nexts = same (part ix nexts_at (length rs)) (nexts_of k rs)

  abbrev room : Bool
  room = leb (nexts_at + length rs) (length ix)

  pub form-indexed : index_form k rs ix ≡ true → Indexed 0 k rs ix
  unfolding index_form all
  form-indexed e =
      let e₁ = second-of (leb 1 k) _ e in
      let e₂ = second-of room _ e₁ in
      let e₃ = second-of heads _ e₂ in
      let e₄ = second-of tails _ e₃ in
      let l = leb-true (nexts_at + length rs) (length ix) (first-of room _ e₁) in
      record {
        begins = leb-true 1 k (first-of (leb 1 k) _ e);
        heads = same_true (part ix 0 slots) (heads_of k rs) (first-of heads _ e₂);
        tails = same_true (part ix tails_at slots) (tails_of k rs) (first-of tails _ e₃);
        nexts = same_true (part ix nexts_at (length rs)) (nexts_of k rs) (first-of nexts _ e₄);
        room = l;
      }

  pub indexed-form : Indexed 0 k rs ix → index_form k rs ix ≡ true
  unfolding index_form all
  indexed-form x =
      rw (
        le-leb 1 k x.begins,
        le-leb (nexts_at + length rs) (length ix) x.room,
        true_same (part ix 0 slots) (heads_of k rs) x.heads,
        true_same (part ix tails_at slots) (tails_of k rs) x.tails,
        true_same (part ix nexts_at (length rs)) (nexts_of k rs) x.nexts,
      ) refl

  pub not-indexed : (Indexed 0 k rs ix → ⊥) → false ≡ index_form k rs ix
  not-indexed n =
      test-cases (index_form k rs ix) (λ t. absurd (n (form-indexed t))) (λ f. sym f)
