-- What the answer and the part say of any two lists.
use Prim.Native.Nat.{ℕ, ◌+◌, ◌-◌, ◌≤◌, ◌<◌}
use mathlib.Core.Path.{◌≡◌, refl, sym, ap, subst, ◌∙◌}
use mathlib.Core.Bool.{true, false}
use mathlib.Core.List.{List}
use mathlib.Core.Logic.{◌⊎◌, inl, inr}
use native.Mathlib.Omega.{arith}
use lib.Dec.{leb}
use lib.ListN.{length, take, get_or}
use lib.Seq.{take-length, get_or-drop}
use borrow.Author.Tests.{leb-true, leb-false}
use denote.Ref.{Bor}
use Rattle.laws.proofs.Logic.{Or, left, right, pick_elim, below?}
use Rattle.longer.specs.Longer.{begins, longer_of, Part, from_first}
use Rattle.longer.specs.Told as specs
use Rattle.longer.specs.Told.{DifferAt}
use Rattle.longer.specs.declared.Which.{Which}
use Rattle.longer.proofs.BeginLaws.{begins-yes, yes-begins, begins-no, no-begins}
use Rattle.longer.proofs.FromLaws.{from-whole}
use Rattle.longer.proofs.WhichLaws.{is-first, first-differs, is-second, second-differs}

-- the cases of an answer
data Case (xs ys : List ℕ) : Which → Type 0 where
  is_the_first : length ys ≤ length xs → begins ys xs ≡ true → Case xs ys Which.First
  is_the_second : length xs < length ys → begins xs ys ≡ true → Case xs ys Which.Second
  is-not-first : length ys ≤ length xs → begins ys xs ≡ false → Case xs ys Which.Differs
  is-not-second : length xs < length ys → begins xs ys ≡ false → Case xs ys Which.Differs

case : (xs ys : List ℕ) → Case xs ys (longer_of xs ys)
unfolding longer_of
case xs ys =
    pick_elim (Case xs ys) (leb (length ys) (length xs))
    (λ h. pick_elim (Case xs ys) (begins ys xs) (is_the_first (leb-true _ _ h))
    (is-not-first (leb-true _ _ h)))
    (λ h. pick_elim (Case xs ys) (begins xs ys) (is_the_second (leb-false _ _ h))
    (is-not-second (leb-false _ _ h)))

told_as : {xs ys : List ℕ} {w : Which} → longer_of xs ys ≡ w → Case xs ys w
told_as {xs} {ys} e = subst (Case xs ys) e (case xs ys)

swap : {xs ys : List ℕ} {i : ℕ} → DifferAt xs ys i → DifferAt ys xs i
swap d = record {
  in_first = d.in_second;
  in_second = d.in_first;
  differ = λ e. d.differ (sym e);
}

module _ (xs ys : List ℕ) where
  on-first : Case xs ys Which.First → (length ys ≤ length xs) × (take (length ys) xs ≡ ys)
  on-first (is_the_first h e) = (h, (begins-yes ys xs e).1)

  on-second : Case xs ys Which.Second → (length xs < length ys) × (take (length xs) ys ≡ xs)
  on-second (is_the_second h e) = (h, (begins-yes xs ys e).1)

  on-differs : Case xs ys Which.Differs → (i : ℕ) × DifferAt xs ys i
  on-differs (is-not-first h e) = let d = begins-no ys xs h e in (d.0, swap d.1)
  on-differs (is-not-second h e) = begins-no xs ys (omega arith) e

  differ : (i : ℕ) → DifferAt xs ys i → longer_of xs ys ≡ Which.Differs
  differ i d = go (below? (length xs) (length ys))
    where
      go : Or (length xs < length ys) (length ys ≤ length xs) → longer_of xs ys ≡ Which.Differs
      go (left h) = sym (second-differs xs ys h refl (no-begins xs ys i d))
      go (right h) = sym (first-differs xs ys h refl (no-begins ys xs i (swap d)))

module _ (a b r : Bor (List ℕ)) where
  -- the lists that are lent, and the one that is handed back
  abbrev Both : Type 0
  Both = (take (length a.now) r.now ≡ a.now) × (take (length b.now) r.now ≡ b.now)

  whole : {q : Bor (List ℕ)} → r ≡ q → take (length q.now) r.now ≡ q.now
  whole {q} e = ap (λ (x : Bor (List ℕ)). take (length q.now) x.now) e ∙ take-length q.now

  one : (w : Which) → Part w a b r → (w ≡ Which.Differs → ⊥) → (r ≡ a) ⊎ (r ≡ b)
  one Which.First p n = inl p
  one Which.Second p n = inr p
  one Which.Differs p n = absurd (n refl)

  both : (w : Which) → Case a.now b.now w → Part w a b r → (w ≡ Which.Differs → ⊥) → Both
  both Which.First c p n =
      let f = on-first a.now b.now c in
      (whole p, ap (λ (x : Bor (List ℕ)). take (length b.now) x.now) p ∙ f.1)
  both Which.Second c p n =
      let f = on-second a.now b.now c in
      (ap (λ (x : Bor (List ℕ)). take (length a.now) x.now) p ∙ f.1, whole p)
  both Which.Differs c p n = absurd (n refl)

same : (w : Which) (a b q r : Bor (List ℕ)) → Part w a b q → Part w a b r
    → (q.now ≡ r.now) × ((w ≡ Which.Differs → ⊥) → q ≡ r)
same Which.First a b q r p s = (ap (λ (x : Bor (List ℕ)). x.now) (p ∙ sym s), λ n. p ∙ sym s)
same Which.Second a b q r p s = (ap (λ (x : Bor (List ℕ)). x.now) (p ∙ sym s), λ n. p ∙ sym s)
same Which.Differs a b q r p s = (p ∙ sym s, λ n. absurd (n refl))

later : (own first i : ℕ) (xs : List ℕ) → own ≤ first
    → get_or (from_first own first xs) i 0 ≡ get_or xs (first + i - own) 0
later own first i xs h =
    let e : first - own + i ≡ first + i - own = omega arith in
    get_or-drop (first - own) xs i 0 ∙ ap (λ k. get_or xs k 0) e

pub told : specs.Told
told = record {
  first = λ xs ys e. on-first xs ys (told_as e);
  first-only = λ xs ys h e. sym (is-first xs ys h refl (yes-begins ys xs e));
  second = λ xs ys e. on-second xs ys (told_as e);
  second-only = λ xs ys h e. sym (is-second xs ys h refl (yes-begins xs ys e));
  differs = λ xs ys e. on-differs xs ys (told_as e);
  differs-only = differ;
  one_of_two = λ a b r p n. one a b r (longer_of a.now b.now) p n;
  holds-both = λ a b r p n.
      both a b r (longer_of a.now b.now) (case a.now b.now) p n;
  once = same;
  from-later = later;
  from-own = λ own first xs h. sym (from-whole own first xs h);
}
