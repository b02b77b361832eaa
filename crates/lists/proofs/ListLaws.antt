-- The loop over the records of a list: n of them stand in front of the words, and the text goes on
-- at i.
use Prim.Native.Nat.{ℕ, suc, ◌+◌, ◌-◌, ◌≤◌, ◌<◌}
use mathlib.Core.Path.{◌≡◌, refl, sym, ap, ◌∙◌}
use mathlib.Core.Bool.{Bool, true, false, not, ◌&&◌}
use mathlib.Core.List.{List, [], ◌∷◌, ◌++◌, map, append_assoc}
use native.Mathlib.Omega.{arith}
use native.Mathlib.Numerals.{add-one}
use lib.Dec.{leb}
use lib.ListN.{length, take, drop, set, length-append, length-set, length-drop}
use lib.Seq.{take_all, take-suc-set, drop-drop, length-take-le}
use borrow.Author.Tests.{le-leb, lt-leb, ne_eqb}
use Rattle.std.proofs.Common.{Some, None}
use Rattle.rules.specs.Pick.{pick_true, pick-false}
use Rattle.rules.specs.Every.{each}
use Rattle.scan.specs.Bytes.{index_of}
use Rattle.laws.proofs.Logic.{and_yes, and_both}
use Rattle.lists.specs.Lists.{up_to, behind, record_in, records_by, is_held, listed_as}
use Rattle.lists.specs.Lists.{Reads}
use Rattle.lists.proofs.PartLaws.{parted-more, parted-last, parted-first}

-- ---- tests of each record

and_no : (a : Bool) → (a && false) ≡ false
and_no true = refl
and_no false = refl

each-no : (xs ys : List ℕ) → each is_held (xs ++ (0 ∷ ys)) ≡ false
unfolding each
each-no [] ys = refl
each-no (x ∷ xs) ys = ap (λ b. is_held x && b) (each-no xs ys) ∙ and_no (is_held x)

each-yes : (xs : List ℕ) (r : ℕ) → each is_held xs ≡ true → (r ≡ 0 → ⊥)
    → each is_held (xs ++ (r ∷ [])) ≡ true
unfolding each
each-yes [] r e h = and_both (ap not (ne_eqb r 0 h)) refl
each-yes (x ∷ xs) r e h =
    let p = and_yes (is_held x) (each is_held xs) e in and_both p.0 (each-yes xs r p.1 h)

-- ---- the answer

module _ (room : ℕ) (rs : List ℕ) where
  pub listed-all : each is_held rs ≡ true → length rs ≤ room
      → Some (length rs) ≡ listed_as room rs
  unfolding listed_as
  listed-all e h = sym (pick_true _ _ _ (and_both e (le-leb (length rs) room h)))

  listed-bad : each is_held rs ≡ false → None ≡ listed_as room rs
  unfolding listed_as
  listed-bad e = sym (pick-false _ _ _ (ap (λ b. b && leb (length rs) room) e))

  listed-long : room < length rs → None ≡ listed_as room rs
  unfolding listed_as
  listed-long h =
      sym (pick-false _ _ _
      (ap (λ b. each is_held rs && b) (lt-leb (length rs) room h) ∙ and_no (each is_held rs)))

  unread : {o o' : List ℕ} → room ≡ length o → length o' ≡ length o
      → None ≡ listed_as room rs → Reads rs o o' None
  unread {o} q w e = record {
    answer = e ∙ ap (λ k. listed_as k rs) q;
    records = λ n t. let z : ◌≡◌ {A = ℕ} 0 1 = cc in absurd (omega arith);
    words = w;
  }

-- ---- the loop

-- the rest of the text from i on, as the code cuts it
pub cut-rest : (s : List ℕ) (i : ℕ) → take (length s - i) (drop i s) ≡ drop i s
cut-rest s i = take_all (length s - i) (drop i s) (omega (arith, length-drop i s))

pub record Going (s o₀ o : List ℕ) (i n : ℕ) : Type 0 where
  pub read : records_by s ≡ take n o ++ records_by (drop i s)
  pub good : each is_held (take n o) ≡ true
  pub few : n ≤ length o
  pub inside : i ≤ length s
  pub words : length o ≡ length o₀

pub going_start : (s o : List ℕ) → Going s o o 0 0
unfolding each
going_start s o = record {
  read = refl;
  good = refl;
  few = omega arith;
  inside = omega arith;
  words = refl;
}

module _ {s o₀ o : List ℕ} {i n : ℕ} (g : Going s o₀ o i n) where
  -- a record that cannot be read
  pub going-bad : {r : ℕ} → r ≡ record_in (up_to 44 (drop i s)) → r ≡ 0
      → Reads (records_by s) o₀ o None
  going-bad {r} e z =
      let p = parted-first 44 (drop i s) in
      let rest = map record_in p.0 in
      let all : records_by s ≡ take n o ++ (0 ∷ rest) =
      g.read ∙ ap (λ ts. take n o ++ map record_in ts) p.1
      ∙ ap (λ x. take n o ++ (x ∷ rest)) (sym e ∙ z) in
      unread (length o₀) (records_by s) refl g.words
      (listed-bad (length o₀) (records_by s) (ap (each is_held) all ∙ each-no (take n o) rest))

  -- more records than there is room for
  pub going-full : length o ≤ n → Reads (records_by s) o₀ o None
  going-full h =
      let p = parted-first 44 (drop i s) in
      let rest = map record_in p.0 in
      let all : records_by s ≡ take n o ++ (record_in (up_to 44 (drop i s)) ∷ rest) =
      g.read ∙ ap (λ ts. take n o ++ map record_in ts) p.1 in
      let f = g.few in
      let w = g.words in
      let m : length (take n o) ≡ n = length-take-le n o g.few in
      let many : length (records_by s) ≡ length (take n o) + suc (length rest) =
      ap length all ∙ length-append (take n o) _ in
      unread (length o₀) (records_by s) refl g.words
      (listed-long (length o₀) (records_by s) (omega arith))

  -- the next record is stored
  module _ {r : ℕ} (e : r ≡ record_in (up_to 44 (drop i s))) (some : r ≡ 0
      → ⊥) (room : n < length o)
    where
      front : take (n + 1) (set o n r) ≡ take n o ++ (r ∷ [])
      front = ap (λ k. take k (set o n r)) (add-one n) ∙ take-suc-set o n r room

      held : each is_held (take (n + 1) (set o n r)) ≡ true
      held = ap (each is_held) front ∙ each-yes (take n o) r g.good some

      as_long : length (set o n r) ≡ length o₀
      as_long = length-set o n r ∙ g.words

      pub going_end : length (drop i s) ≤ index_of 44 (drop i s)
          → Reads (records_by s) o₀ (set o n r) (Some (n + 1))
      going_end h =
          let f = g.few in
          let w = as_long in
          let l = length-set o n r in
          let all : records_by s ≡ take (n + 1) (set o n r) =
          g.read ∙ ap (λ ts. take n o ++ map record_in ts) (parted-last 44 (drop i s) h)
          ∙ ap (λ x. take n o ++ (x ∷ [])) (sym e) ∙ sym front in
          let m : length (records_by s) ≡ n + 1 =
          ap length all ∙ length-take-le (n + 1) (set o n r) (omega arith) in
          record {
            answer =
                ap Some (sym m)
                ∙ listed-all (length o₀) (records_by s) (ap (each is_held) all
                ∙ held) (omega arith);
            records = λ k t.
                let c : n + 1 ≡ k = cc in
                ap (λ j. take j (set o n r)) (sym c) ∙ sym all;
            words = as_long;
          }

      pub going_more : {k : ℕ} → k ≡ index_of 44 (drop i s) → k < length (drop i s)
          → Going s o₀ (set o n r) (i + (k + 1)) (n + 1)
      going_more {k} q h =
          let t = drop i s in
          let f = g.few in
          let v = g.inside in
          let w = length-drop i s in
          let l = length-set o n r in
          let next : behind 44 t ≡ drop (i + (k + 1)) s =
          ap (λ j. drop (j + 1) t) (sym q) ∙ drop-drop (k + 1) i s in
          let inner : index_of 44 t < length t = omega arith in
          let more : records_by t ≡ r ∷ records_by (drop (i + (k + 1)) s) =
          ap (map record_in) (parted-more 44 t inner)
          ∙ (λ j. sym e j ∷ records_by (next j)) in
          record {
            read =
                g.read ∙ ap (λ xs. take n o ++ xs) more
                ∙ sym (append_assoc (take n o) (r ∷ []) (records_by (drop (i + (k + 1)) s)))
                ∙ ap (λ xs. xs ++ records_by (drop (i + (k + 1)) s)) (sym front);
            good = held;
            few = omega arith;
            inside = omega arith;
            words = as_long;
          }
