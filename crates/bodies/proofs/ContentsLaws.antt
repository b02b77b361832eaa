-- What the table of contents of any bytes names: by cases, and what each answer tells.
use Prim.Native.Nat.{ℕ, ◌+◌, ◌≤◌, ◌<◌}
use mathlib.Core.Path.{◌≡◌, refl, sym, ap, ◌∙◌, subst}
use mathlib.Core.Bool.{Bool, true, false, ◌&&◌}
use mathlib.Core.List.{List}
use lib.Dec.{leb, eqb}
use lib.ListN.{length}
use borrow.Author.Tests.{leb-true, le-leb, lt-leb}
use Rattle.rules.specs.Pick.{pick_true, pick-false}
use Rattle.rules.specs.declared.model.Refusal.{Refusal}
use Rattle.laws.proofs.Logic.{and_yes, and_both, pick_elim}
use Rattle.image.specs.Longest.{table_bytes}
use Rattle.std.specs.Prelude.{Ok, Err}
use Rattle.bodies.specs.declared.Part.{Part}
use Rattle.bodies.specs.Contents.{Named, part_from}
use Rattle.bodies.specs.Contents.{count_of, begin_of, long_of, is_number, most_bodies, has_body}
use Rattle.bodies.specs.Contents.{named, asked, after}

abbrev none : Named
none = Err Refusal.Condition

and-not : (a : Bool) {b : Bool} → b ≡ false → (a && b) ≡ false
and-not true e = e
and-not false e = refl

not-and : {a : Bool} (b : Bool) → a ≡ false → (a && b) ≡ false
not-and b e = ap (λ (t : Bool). t && b) e

-- ---- by cases

module _ (im : List ℕ) (k : ℕ) where
  abbrev entry : Named
  entry = Ok (part_from (begin_of im k) (long_of im k))

  abbrev fits : Bool
  fits = leb k (count_of im) && leb (begin_of im k + long_of im k) (length im)

  abbrev tabled : Bool
  tabled = leb (table_bytes k) (length im)

  pub named_other : is_number k ≡ false → named im k ≡ none
  unfolding named has_body
  named_other e = pick-false _ entry none (not-and (tabled && fits) e)

  pub named-short : length im < table_bytes k → named im k ≡ none
  unfolding named has_body
  named-short h =
      pick-false _ entry none (and-not (is_number k)
      (not-and fits (lt-leb (table_bytes k) (length im) h)))

  pub named-not : fits ≡ false → named im k ≡ none
  unfolding named has_body
  named-not e = pick-false _ entry none (and-not (is_number k) (and-not tabled e))

  pub named-is : is_number k ≡ true → table_bytes k ≤ length im → fits ≡ true → named im k ≡ entry
  unfolding named has_body
  named-is e h f =
      pick_true _ entry none (and_both e (and_both (le-leb (table_bytes k) (length im) h) f))

  -- ---- what an answer tells

  pub record Inside (a n : ℕ) : Type 0 where
    pub has : has_body im k ≡ true
    pub least : 1 ≤ k
    pub most : k ≤ most_bodies
    pub table : table_bytes k ≤ length im
    pub counted : k ≤ count_of im
    pub begin : a ≡ begin_of im k
    pub long : n ≡ long_of im k
    pub end : a + n ≤ length im

  abbrev pub Told : Named → Type 0
  Told (Ok p) = Inside p.begin p.long
  Told (Err why) = (has_body im k ≡ false) × (why ≡ Refusal.Condition)

  pub inside : has_body im k ≡ true → Inside (begin_of im k) (long_of im k)
  unfolding has_body
  inside e =
      let a = and_yes (is_number k) (tabled && fits) e in
      let b = and_yes tabled fits a.1 in
      let c = and_yes (leb k (count_of im)) (leb (begin_of im k + long_of im k) (length im)) b.1 in
      let d = and_yes (leb 1 k) (leb k most_bodies) a.0 in
      record {
        has = e;
        least = leb-true _ _ d.0;
        most = leb-true _ _ d.1;
        table = leb-true _ _ b.0;
        counted = leb-true _ _ c.0;
        begin = refl;
        long = refl;
        end = leb-true _ _ c.1;
      }

  pub told : Told (named im k)
  unfolding named
  told = pick_elim Told (has_body im k) inside (λ e. (e, refl))

  pub told_as : {w : Named} → named im k ≡ w → Told w
  told_as e = subst Told e told

  -- ---- the places of a reader

  pub after-part : {p : Part} → named im k ≡ Ok p → k + 1 ≡ after im k
  unfolding after
  after-part e = sym (pick_true _ (k + 1) k (told_as e).has)

  pub after_none : {why : Refusal} → named im k ≡ Err why → k ≡ after im k
  unfolding after
  after_none e = sym (pick-false _ (k + 1) k (told_as e).0)

  pub asked-form : eqb k 0 ≡ true → Err Refusal.Form ≡ asked im k
  unfolding asked
  asked-form e = sym (pick_true (eqb k 0) (Err Refusal.Form) (named im k) e)

  pub asked-named : {w : Named} → eqb k 0 ≡ false → w ≡ named im k → w ≡ asked im k
  unfolding asked
  asked-named e h = h ∙ sym (pick-false (eqb k 0) (Err Refusal.Form) (named im k) e)
