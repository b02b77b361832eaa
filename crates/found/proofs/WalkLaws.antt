-- A walk over things one after another: what is left of it after i of them.
use mathlib.Core.Path.{◌≡◌, sym, ap, ◌∙◌, subst}
use Prim.Native.Nat.{ℕ, zero, suc, ◌+◌, ◌-◌, ◌*◌, ◌≤◌, ◌<◌}
use native.Mathlib.Nat.{suc-mul}
use native.Mathlib.Numerals.{add-one}
use native.Mathlib.Omega.{arith}
use mathlib.Core.List.{List}
use borrow.Author.Tests.{le-leb, lt-leb, eq-eqb, ne_eqb}
use Rattle.rules.specs.declared.model.Kind.{Kind}
use Rattle.found.specs.declared.Spot.{Spot}
use Rattle.std.specs.Prelude.{Result, Ok, Err, IsErr, IsErrAnd}
use Rattle.found.specs.Found.{Found}
use Rattle.found.specs.Found.{Way}
use Rattle.found.specs.Stands.{missing, word_at, words_at}
use Rattle.found.specs.Found.{go_on, walk_on, leading, number_in, records_way, enclosed_way}
use Rattle.found.specs.Found.{letter_way, link_way, pair_way, sender_way}
use Rattle.found.specs.Found.{end_found, way_found, mail_found}
use Rattle.found.specs.Near.{Within}

-- What a `?` gives back for a field at which the walk has ended.
pub handed-on : {A : Type 0} (r : Result A Spot) {s : Spot} → IsErr r × IsErrAnd r (λ e. e ≡ s)
    → r ≡ Err s
handed-on (Ok x) h = absurd h.1
handed-on (Err e) h = ap Err h.1

pub within-ended : (m : ℕ) {r : Way} {s : Spot} → r ≡ Err s → Within m r
within-ended m e = subst (Within m) (sym e) tt

pub within-next : {m q : ℕ} {r : Way} → r ≡ Ok q → Within m r → q ≤ m
within-next {m} e w = subst (Within m) e w

module _ (step : ℕ → ℕ → Way) (stride m at : ℕ) where
  -- i of the m things are behind p, each at most a stride long
  pub record WalkTo (i p : ℕ) : Type 0 where
    pub few : i ≤ m
    pub near : p ≤ at + i * stride
    pub is : walk_on step m 1 at ≡ walk_on step (m - i) (suc i) p

  pub walk_none : WalkTo 0 at
  walk_none =
      let all : m ≡ m - 0 = omega arith in
      record {
        few = omega arith;
        near = omega arith;
        is = ap (λ (c : ℕ). walk_on step c 1 at) all;
      }

  module _ {i p : ℕ} {r : Way} (w : WalkTo i p) (h : i < m) (e : r ≡ step (i + 1) p) where
    here : walk_on step m 1 at ≡ go_on r (walk_on step (m - (i + 1)) (suc (suc i)))
    unfolding walk_on
    here =
        let left : m - i ≡ suc (m - (i + 1)) = omega arith in
        let one : i + 1 ≡ suc i = omega arith in
        w.is ∙ ap (λ (c : ℕ). walk_on step c (suc i) p) left
        ∙ ap (λ (s : Way). go_on s (walk_on step (m - (i + 1)) (suc (suc i))))
        (ap (λ (k : ℕ). step k p) (sym one) ∙ sym e)

    pub walk_more : {q : ℕ} → r ≡ Ok q → q ≤ p + stride → WalkTo (i + 1) q
    walk_more {q} t n =
        let near = w.near in
        let one : suc i ≡ i + 1 = omega arith in
        let more : (i + 1) * stride ≡ i * stride + stride = rw (add-one, suc-mul) in
        record {
          few = omega arith;
          near = omega arith;
          is = here ∙ ap (λ (s : Way). go_on s (walk_on step (m - (i + 1)) (suc (suc i)))) t
              ∙ ap (λ (k : ℕ). walk_on step (m - (i + 1)) (suc k) q) one;
        }

    pub walk-stop : {s : Spot} → r ≡ Err s → Err s ≡ walk_on step m 1 at
    walk-stop t =
        sym (here ∙ ap (λ (v : Way). go_on v (walk_on step (m - (i + 1)) (suc (suc i)))) t)

  pub walk-all : {i p : ℕ} → WalkTo i p → m ≤ i → Ok p ≡ walk_on step m 1 at
  unfolding walk_on
  walk-all {i} {p} w h =
      let none : m - i ≡ zero = omega arith in
      sym (w.is ∙ ap (λ (c : ℕ). walk_on step c (suc i) p) none)

-- The records of a mail: all proper, or not.
module _ (a b i : ℕ) where
  pub records-next : {count m n : ℕ} (at first : ℕ) → count ≤ missing → count ≤ m → n ≡ count
      → (Ok (at + 8 * n) ≡ records_way a b i at first count m)
      × (at + 8 * n ≤ at + 8 * missing)
  unfolding records_way
  records-next {count} {m} {n} at first few h e =
      (ap (λ (k : ℕ). Ok (at + 8 * k)) e ∙ rw (le-leb count m h), omega arith)

  pub records-stop : {count m : ℕ} (at first : ℕ) → m < count
      → (Err (Spot.MailRecord a b i (first + m)) ≡ records_way a b i at first count m)
      × Unit {0}
  unfolding records_way
  records-stop {count} {m} at first h = (rw (lt-leb count m h), tt)

pub within_more : {m l : ℕ} (r : Way) → m ≤ l → Within m r → Within l r
within_more (Ok q) h w = omega arith
within_more (Err s) h w = tt

pub number-near : (k : Kind) {first last number : ℕ} → number ≡ number_in k first last
    → first ≤ missing → last ≤ missing → number ≤ missing + 1
number-near Kind.Collect e f l = omega arith
number-near Kind.Last e f l = omega arith
number-near Kind.Begin e f l = omega arith
number-near Kind.Accept e f l = omega arith
number-near Kind.Commit e f l = omega arith
number-near Kind.Lease e f l = omega arith
number-near Kind.LeaseAck e f l = omega arith

pub enclosed-told : (a b i : ℕ) (k : Kind) (src : List ℕ) (at p : ℕ)
    {last first number count m : ℕ} {r : Way} → last ≡ word_at 4 src (at + 8)
    → first ≡ word_at 4 src (at + 12) → number ≡ number_in k first last
    → count ≡ word_at 4 src (p - 4) → m ≡ leading (words_at 8 count src p)
    → r ≡ records_way a b i p number count m → r ≡ enclosed_way a b i k src at p
unfolding enclosed_way
enclosed-told a b i k src at p {last} {first} {number} {count} {m} el ef en ec em e =
    let number_is : number ≡ number_in k (word_at 4 src (at + 12)) (word_at 4 src (at + 8)) =
    en ∙ (λ j. number_in k (ef j) (el j)) in
    let m-is : m ≡ leading (words_at 8 (word_at 4 src (p - 4)) src p) =
    em ∙ ap (λ (c : ℕ). leading (words_at 8 c src p)) ec in
    e ∙ (λ j. records_way a b i p (number_is j) (ec j) (m-is j))

-- ---- a link

module _ (J L a b : ℕ) (src : List ℕ) (at : ℕ) {count : ℕ} (is : count ≡ word_at 4 src at) where
  pub link-told : {r : Way} → count ≤ L
      → r ≡ walk_on (letter_way J a b src) count 1 (at + 4) → r ≡ link_way J L a b src at
  unfolding link_way
  link-told h e =
      e ∙ ap (λ (c : ℕ). walk_on (letter_way J a b src) c 1 (at + 4)) is
      ∙ sym (rw (le-leb (word_at 4 src at) L (omega arith)))

  pub link-over : L < count → Err (Spot.Link a b) ≡ link_way J L a b src at
  unfolding link_way
  link-over h = sym (rw (lt-leb (word_at 4 src at) L (omega arith)))

module _ (J L : ℕ) (src : List ℕ) (at : ℕ) {a b : ℕ} where
  pub pair_same : a ≡ b → Ok at ≡ pair_way J L a src b at
  unfolding pair_way
  pair_same e = sym (rw (eq-eqb a b e))

  pub pair-other : {r : Way} → (a ≡ b → ⊥) → r ≡ link_way J L a b src at
      → r ≡ pair_way J L a src b at
  unfolding pair_way
  pair-other n e = e ∙ sym (rw (ne_eqb a b n))

-- ---- the mail

module _ (n J L : ℕ) (body : List ℕ) {w : Way}
    (is : w ≡ walk_on (sender_way n J L body) n 1 0) where
  pub mail-told : {q : ℕ} {r : Found} → w ≡ Ok q → r ≡ end_found body q
      → r ≡ mail_found n J L body
  unfolding mail_found
  mail-told t e = e ∙ ap (way_found body) (sym t ∙ is)

  pub mail-aside : {s : Spot} → w ≡ Err s → Err s ≡ mail_found n J L body
  unfolding mail_found
  mail-aside t = ap (way_found body) (sym t ∙ is)
