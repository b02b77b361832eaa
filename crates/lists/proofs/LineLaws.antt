-- A list that may be `-`, and two lists of a line.
use Prim.Native.Nat.{ℕ, ◌+◌, ◌-◌, ◌≤◌}
use mathlib.Core.Path.{◌≡◌, refl, sym, ap, ◌∙◌, subst}
use mathlib.Core.Bool.{Bool, true, false, ◌&&◌}
use mathlib.Core.List.{List, [], ◌∷◌}
use native.Mathlib.Omega.{arith}
use lib.Dec.{eqb}
use lib.ListN.{length, take, length-take, length-drop}
use lib.Pointwise.{pointwise}
use lib.Seq.{take_all}
use borrow.Author.Tests.{ne_eqb}
use Rattle.std.proofs.Common.{Option, Some, None}
use Rattle.rules.specs.Pick.{pick_true, pick-false}
use Rattle.rules.specs.Every.{each}
use Rattle.scan.specs.Bytes.{index_of}
use Rattle.print.specs.Bytes.{bytes}
use Rattle.print.specs.Text.{Wrote}
use Rattle.print.proofs.WriteLaws.{spelled, at_most}
use Rattle.longer.specs.Longer.{longer_of}
use Rattle.longer.specs.declared.Which.{Which}
use Rattle.lists.specs.Lists.{up_to, behind, records_by, is_none, records_in, listed_as, Reads}
use Rattle.lists.specs.Lists.{said_as, said_of, compared, ListRead, Weighed}
use Rattle.lists.specs.Lists.{list_text, which_text, said_text}
use Rattle.lists.proofs.ListLaws.{listed-all}

and_yes-end : (t : Bool) → (t && true) ≡ t
and_yes-end true = refl
and_yes-end false = refl

and_no-end : (t : Bool) → (t && false) ≡ false
and_no-end true = refl
and_no-end false = refl

-- a text compared with `-`
pub dashed : (s : List ℕ) {t : Bool} {d : List ℕ} → t ≡ pointwise eqb s d → d ≡ 45 ∷ []
    → t ≡ is_none s
dashed s e f = e ∙ ap (pointwise eqb s) f ∙ go s
  where
    go : (s : List ℕ) → pointwise eqb s (45 ∷ []) ≡ is_none s
    go [] = refl
    go (x ∷ []) = and_yes-end (eqb x 45)
    go (x ∷ y ∷ s) =
        let long : (length (x ∷ y ∷ s) ≡ 1 → ⊥) = λ h. omega arith in
        and_no-end (eqb x 45)
        ∙ ap (λ b. b && eqb x 45) (sym (ne_eqb (length (x ∷ y ∷ s)) 1 long))

pub front-some : (n : ℕ) (xs : List ℕ) → take (n - 0) xs ≡ take n xs
front-some n xs = ap (λ k. take k xs) (let e : n - 0 ≡ n = omega arith in e)

pub front-all : (n : ℕ) (xs : List ℕ) → length xs ≤ n → xs ≡ take n xs
front-all n xs h = sym (take_all n xs h)

-- `-` is read
pub none_read : (s o : List ℕ) → is_none s ≡ true → Reads (records_in s) o o (Some 0)
unfolding records_in each
none_read s o e =
    subst (λ rs. Reads rs o o (Some 0)) (sym (pick_true _ _ _ e))
    (record {
      answer = listed-all (length o) [] refl (omega arith);
      records = λ n t. let z : 0 ≡ n = cc in ap (λ k. take k o) (sym z);
      words = refl;
    })

-- any other list
pub others-read : (s o o' : List ℕ) {r : Option ℕ} → is_none s ≡ false → Reads (records_by s) o o' r
    → Reads (records_in s) o o' r
unfolding records_in
others-read s o o' {r} e p = subst (λ rs. Reads rs o o' r) (sym (pick-false _ _ _ e)) p

-- both lists as they were read
pub both_read : (xs ys o p o' p' : List ℕ) (x y : Option ℕ) → Reads xs o o' x → Reads ys p p' y
    → compared x o' y p' ≡ said_as (listed_as (length o) xs) xs (listed_as (length p) ys) ys
both_read xs ys o p o' p' x y a b = go x y a.records b.records
    ∙ (λ i. said_as (a.answer i) xs (b.answer i) ys)
  where
    go : (x y : Option ℕ) → ((n : ℕ) → x ≡ Some n → take n o' ≡ xs)
        → ((n : ℕ) → y ≡ Some n → take n p' ≡ ys)
        → compared x o' y p' ≡ said_as x xs y ys
    go (Some n) (Some m) f g =
        (λ i. Some (longer_of (f n refl i) (g m refl i)))
    go (Some n) None f g = refl
    go None y f g = refl

-- what was read of a line and compared is its answer; s and t are its two texts
pub weighed : (line a b : List ℕ) {s t a' b' : List ℕ} {x y : Option ℕ} {r : Option Which}
    → s ≡ up_to 32 line → t ≡ behind 32 line → ListRead s a a' x → ListRead t b b' y
    → r ≡ compared x a' y b' → Weighed (length a) (length b) line (length a') (length b') r
unfolding said_of
weighed line a b {a' = a'} {b' = b'} {x = x} {y = y} f g p q e = record {
  said =
      e ∙ both_read (records_in (up_to 32 line)) (records_in (behind 32 line)) a b a' b' x y
      (subst (λ s. ListRead s a a' x) f p) (subst (λ t. ListRead t b b' y) g q);
  first-room = p.words;
  second-room = q.words;
}

-- ---- the answer's text

pub first_short : (line : List ℕ) {s : List ℕ} → s ≡ up_to 32 line → length s ≤ length line
first_short line e =
    omega (arith, ap length e ∙ length-take (index_of 32 line) line)

pub second_short : (line : List ℕ) {s : List ℕ} → s ≡ behind 32 line → length s ≤ length line
second_short line e =
    omega (arith, ap length e ∙ length-drop (index_of 32 line + 1) line)

module _ (line : List ℕ) {o o' : List ℕ} {r : ℕ} {w : Which} where
  pub first_said : {s : List ℕ} → s ≡ up_to 32 line → w ≡ Which.First
      → Wrote (length s + 3) o o' 0 r (list_text 49 s)
      → Wrote (length line + 11) o o' 0 r (which_text line w)
  first_said {s} e t p =
      let h = first_short line e in
      at_most (omega arith) (spelled (ap (list_text 49) e ∙ ap (which_text line) (sym t)) p)

  pub second-said : {s : List ℕ} → s ≡ behind 32 line → w ≡ Which.Second
      → Wrote (length s + 3) o o' 0 r (list_text 50 s)
      → Wrote (length line + 11) o o' 0 r (which_text line w)
  second-said {s} e t p =
      let h = second_short line e in
      at_most (omega arith) (spelled (ap (list_text 50) e ∙ ap (which_text line) (sym t)) p)

  pub differs-said : w ≡ Which.Differs → Wrote 11 o o' 0 r (bytes "refused 22\n")
      → Wrote (length line + 11) o o' 0 r (which_text line w)
  differs-said t p = at_most (omega arith) (spelled (ap (which_text line) (sym t)) p)

  pub which-said : {u : Option Which} → u ≡ Some w
      → Wrote (length line + 11) o o' 0 r (which_text line w)
      → Wrote (length line + 11) o o' 0 r (said_text line u)
  which-said t p = spelled (ap (said_text line) (sym t)) p

pub unread-said : (line : List ℕ) {o o' : List ℕ} {r : ℕ} {u : Option Which} → u ≡ None
    → Wrote 11 o o' 0 r (bytes "refused 11\n")
    → Wrote (length line + 11) o o' 0 r (said_text line u)
unread-said line t p = at_most (omega arith) (spelled (ap (said_text line) (sym t)) p)
