-- The laws of bytes that stand at a place, and of numbers that are read there.
use mathlib.Core.Path.{◌≡◌, refl, sym, ap, ◌∙◌, subst}
use Prim.Native.Nat.{ℕ, ◌+◌, ◌-◌, ◌*◌, ◌^◌, ◌≤◌, ◌<◌}
use native.Mathlib.Nat.{add-zero}
use native.Mathlib.Numerals.{add-one}
use native.Mathlib.Omega.{arith}
use mathlib.Core.List.{List, [], ◌++◌, append_assoc, append-nil}
use lib.ListN.{length, take, drop, set, length-append, take-append-drop}
use lib.Seq.{take_all, take_at, drop-drop, drop-length, take-suc-set, drop-append_seam}
use Rattle.words.specs.Rows.{part}
use Rattle.le.specs.Le.{le, Number}
use Rattle.le.proofs.LeLaws.{length-le}
use Rattle.cells.specs.Cells.{chain, Each, Stands, Read}
use Rattle.cells.proofs.ChainLaws.{chain_snoc, length-cells, each_snoc}

pub stands-nil : (src : List ℕ) (at : ℕ) → at ≤ length src → Stands [] src at at
stands-nil src at h = record { next = sym (add-zero at); room = h; here = refl }

-- One behind the other.
pub stands_seq : {a b src : List ℕ} {at p q : ℕ} → Stands a src at p → Stands b src p q
    → Stands (a ++ b) src at q
stands_seq {a} {b} {src} {at} {p} {q} v w =
    let n = v.next in
    let m = w.next in
    record {
      next = rw (length-append a b) (omega arith);
      room = w.room;
      here =
          v.here ∙ ap (λ (l : List ℕ). a ++ l) w.here ∙ sym (append_assoc a b (drop q src));
    }

module _ {src : List ℕ} {at q : ℕ} (a b : List ℕ) (w : Stands (a ++ b) src at q) where
  whole : drop at src ≡ a ++ (b ++ drop q src)
  whole = w.here ∙ append_assoc a b (drop q src)

  behind : drop (at + length a) src ≡ b ++ drop q src
  behind =
      sym (drop-drop (length a) at src) ∙ ap (drop (length a)) whole
      ∙ drop-append_seam a (b ++ drop q src)

  -- Of two, the first stands there ..
  pub stands-first : Stands a src at (at + length a)
  stands-first =
      let n = w.next in
      let m = w.room in
      record { next = refl; room = omega (arith, length-append a b); here = rw behind whole }

  -- .. and the second behind it.
  pub stands-rest : Stands b src (at + length a) q
  stands-rest =
      let n = w.next in
      record { next = omega (arith, length-append a b); room = w.room; here = behind }

-- Bytes that are the same stand there too.
pub stands_as : {a b src : List ℕ} {at q : ℕ} → a ≡ b → Stands a src at q → Stands b src at q
stands_as {src = src} {at = at} {q = q} e w = subst (λ (l : List ℕ). Stands l src at q) e w

-- What stands from the start to the end is all.
pub stands-whole : {bs src : List ℕ} → Stands bs src 0 (length src) → src ≡ bs
stands-whole {bs} {src} w =
    let n = w.next in
    sym (take_all (length bs) src (omega arith)) ∙ ap (take (length bs)) w.here
    ∙ take_at bs (drop (length src) src) (length bs) refl

-- All that there is stands from the start to the end.
pub stands-all : {bs src : List ℕ} → bs ≡ src → Stands bs src 0 (length src)
stands-all {bs} {src} e = record {
  next = ap length (sym e) ∙ omega arith;
  room = omega arith;
  here = sym e ∙ sym (append-nil bs) ∙ ap (λ (l : List ℕ). bs ++ l) (sym (drop-length src));
}

-- Too few bytes are left for what a thing takes at least.
pub too_short : {bs src : List ℕ} {at q : ℕ} (k : ℕ) → at ≤ length src → length src - at < k
    → k ≤ length bs → Stands bs src at q → ⊥
too_short k h s l w = let n = w.next in let r = w.room in omega arith

-- ---- numbers

-- A number, as `le` reads it.
pub stands-le : (k : ℕ) (src : List ℕ) (at x : ℕ) → at + k ≤ length src
    → Number k (part src at k) x → Stands (le k x) src at (at + k)
stands-le k src at x h e = record {
  next = rw (length-le k x);
  room = h;
  here = sym (take-append-drop k (drop at src)) ∙ rw (e.written, drop-drop k at src);
}

-- The place behind m numbers.
pub read-end : {k : ℕ} {src : List ℕ} {at : ℕ} {ws : List ℕ} {r : ℕ} (m : ℕ)
    → Read k src at ws r → length ws ≡ m → r ≡ at + m * k
read-end {k} {src} {at} {ws} m g e =
    g.stands.next ∙ ap (λ (x : ℕ). at + x) (length-cells k ws ∙ ap (λ (x : ℕ). x * k) e)

module _ (k : ℕ) (src : List ℕ) where
  -- Before the first number.
  pub read_none : (d : List ℕ) (at : ℕ) → at ≤ length src → Read k src at (take 0 d) at
  unfolding chain Each
  read_none d at h = record { stands = stands-nil src at h; below = tt }

  -- One number more.
  pub read_next : (d : List ℕ) (i x : ℕ) {at p : ℕ} → i < length d → p + k ≤ length src
      → Read k src at (take i d) p → Number k (part src p k) x
      → Read k src at (take (i + 1) (set d i x)) (p + k)
  read_next d i x {at} {p} h l g e =
      let f = take i d in
      let s = stands_seq g.stands (stands-le k src p x l e) in
      let b = each_snoc (λ i y. y < 256 ^ k) f x g.below e.below in
      rw (add-one i, take-suc-set d i x h)
      (record { stands = stands_as (sym (chain_snoc (le k) f x)) s; below = b })

  -- After the last.
  pub read_all : (d : List ℕ) (i : ℕ) {at p : ℕ} → length d ≤ i → Read k src at (take i d) p
      → Read k src at d p
  read_all d i h g = rw (take_all i d h) at g
