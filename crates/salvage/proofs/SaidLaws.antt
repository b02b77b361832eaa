-- What is counted box by box is what the list of those that keep a record says.
use mathlib.Core.Path.{◌≡◌, refl, sym, ap, ◌∙◌, subst}
use mathlib.Core.Bool.{Bool, true, false, not, ◌&&◌, ◌||◌}
use Prim.Native.Nat.{ℕ, suc, ◌+◌, ◌<◌}
use native.Mathlib.Omega.{arith}
use mathlib.Core.List.{List, [], ◌∷◌}
use lib.Dec.{eqb}
use lib.ListN.{length}
use borrow.Author.Tests.{ne_eqb}
use Rattle.rules.specs.Pick.{pick, pick_true, pick-false}
use Rattle.rules.specs.Every.{each}
use Rattle.salvage.specs.declared.loads.Tally.{Tally}
use Rattle.salvage.specs.Loads.{held, record_text, differs_text, load_text}
use Rattle.salvage.specs.Tally.{none_yet, added, tallied, tally_text}

-- ---- one record more

pub held-skip : (r : ℕ) (rs : List ℕ) → eqb r 0 ≡ true → held (r ∷ rs) ≡ held rs
unfolding held
held-skip r rs e = pick_true (eqb r 0) _ _ e

pub held-keep : (r : ℕ) (rs : List ℕ) → eqb r 0 ≡ false → held (r ∷ rs) ≡ r ∷ held rs
unfolding held
held-keep r rs e = pick-false (eqb r 0) _ _ e

pub added-skip : (t : Tally) (r : ℕ) → eqb r 0 ≡ true → added t r ≡ t
unfolding added
added-skip t r e = pick_true (eqb r 0) _ _ e

abbrev pub first_one : ℕ → Tally
first_one r = record { value = r; many = 1; differs = false }

abbrev pub one_more : Tally → ℕ → Tally
one_more t r = record {
  value = t.value;
  many = t.many + 1;
  differs = t.differs || not (eqb t.value r);
}

pub added-first : (t : Tally) (r : ℕ) → eqb r 0 ≡ false → eqb t.many 0 ≡ true
    → added t r ≡ first_one r
unfolding added
added-first t r e z = pick-false (eqb r 0) _ _ e ∙ pick_true (eqb t.many 0) _ _ z

pub added_more : (t : Tally) (r : ℕ) → eqb r 0 ≡ false → eqb t.many 0 ≡ false
    → added t r ≡ one_more t r
unfolding added
added_more t r e z = pick-false (eqb r 0) _ _ e ∙ pick-false (eqb t.many 0) _ _ z

-- ---- all of them

-- u is what t becomes by the records hs
record Says (t : Tally) (hs : List ℕ) (u : Tally) : Type 0 where
  pub value : u.value ≡ t.value
  pub many : u.many ≡ t.many + length hs
  pub differs : u.differs ≡ (t.differs || not (each (eqb t.value) hs))

or_false : (b : Bool) → b ≡ (b || false)
or_false true = refl
or_false false = refl

or_not_and : (a b c : Bool) → ((a || not b) || not c) ≡ (a || not (b && c))
or_not_and true b c = refl
or_not_and false true c = refl
or_not_and false false c = refl

says_nothing : (t : Tally) → Says t [] t
unfolding each
says_nothing t =
    record { value = refl; many = omega arith; differs = or_false t.differs }

says-more : (t u : Tally) (r : ℕ) (hs : List ℕ) → Says (one_more t r) hs u → Says t (r ∷ hs) u
unfolding each
says-more t u r hs s =
    let m = s.many in
    record {
      value = s.value;
      many = omega arith;
      differs = s.differs
          ∙ or_not_and t.differs (eqb t.value r) (each (eqb t.value) hs);
    }

says : (rs : List ℕ) (t : Tally) → 0 < t.many → Says t (held rs) (tallied t rs)
unfolding held tallied
says [] t h = says_nothing t
says (r ∷ rs) t h = go (says rs) (eqb r 0) refl
  where
    go : ((u : Tally) → 0 < u.many → Says u (held rs) (tallied u rs))
        → (b : Bool) → eqb r 0 ≡ b → Says t (held (r ∷ rs)) (tallied t (r ∷ rs))
    go ih true e =
        subst (λ (hs : List ℕ). Says t hs (tallied (added t r) rs)) (sym (held-skip r rs e))
        (subst (λ (u : Tally). Says t (held rs) (tallied u rs)) (sym (added-skip t r e)) (ih t h))
    go ih false e =
        let z = ne_eqb t.many 0 (λ q. let no : ⊥ = omega arith in no) in
        subst (λ (hs : List ℕ). Says t hs (tallied (added t r) rs)) (sym (held-keep r rs e))
        (subst (λ (u : Tally). Says t (r ∷ held rs) (tallied u rs)) (sym (added_more t r e z))
        (says-more t (tallied (one_more t r) rs) r (held rs)
        (ih (one_more t r) (let m : 0 < t.many + 1 = omega arith in m))))

-- ---- the text

turned : (b : Bool) (r d : List ℕ) → pick (not b) d r ≡ pick b r d
unfolding pick
turned true r d = refl
turned false r d = refl

module _ (k : ℕ) where
  said-some : (r : ℕ) (hs : List ℕ) (u : Tally) → Says (first_one r) hs u
      → tally_text k u ≡ load_text k (r ∷ hs)
  unfolding tally_text
  said-some r hs u s =
      let m = s.many in
      let z = ne_eqb u.many 0 (λ q. let no : ⊥ = omega arith in no) in
      let long : u.many ≡ suc (length hs) = omega arith in
      pick-false (eqb u.many 0) _ _ z
      ∙ (λ j. pick (s.differs j) (differs_text k) (record_text k (s.value j) (long j)))
      ∙ turned (each (eqb r) hs) (record_text k r (suc (length hs))) (differs_text k)

  pub load_said : (rs : List ℕ) → tally_text k (tallied none_yet rs) ≡ load_text k (held rs)
  unfolding held tallied tally_text
  load_said [] = pick_true (eqb 0 0) _ _ refl
  load_said (r ∷ rs) = go (load_said rs) (eqb r 0) refl
    where
      go : tally_text k (tallied none_yet rs) ≡ load_text k (held rs) → (b : Bool) → eqb r 0 ≡ b
          → tally_text k (tallied none_yet (r ∷ rs)) ≡ load_text k (held (r ∷ rs))
      go ih true e =
          ap (λ (u : Tally). tally_text k (tallied u rs)) (added-skip none_yet r e) ∙ ih
          ∙ ap (load_text k) (sym (held-skip r rs e))
      go ih false e =
          ap (λ (u : Tally). tally_text k (tallied u rs)) (added-first none_yet r e refl)
          ∙ said-some r (held rs) (tallied (first_one r) rs)
          (says rs (first_one r) (let m : 0 < 1 = omega arith in m))
          ∙ ap (load_text k) (sym (held-keep r rs e))
