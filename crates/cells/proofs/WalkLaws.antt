-- Walks: things one after another, each found by form or not. One family of laws over what a
-- thing's bytes are, and when the thing at an index is by form.
use mathlib.Core.Path.{◌≡◌, refl, sym, ap, ◌∙◌, subst}
use Prim.Native.Nat.{ℕ, suc, ◌+◌, ◌≤◌, ◌<◌}
use native.Mathlib.Omega.{arith}
use mathlib.Core.List.{List, [], ◌∷◌, ◌++◌}
use lib.ListN.{length, take, drop, get_or, length-append}
use lib.Seq.{length-take-le, drop-cons}
use Rattle.std.specs.Prelude.{Option, Some, None}
use Rattle.cells.specs.Cells.{chain, Each, All, Stands, Found, NoneAt, WalkIs, Many}
use Rattle.cells.specs.Steps.{Reached, Steps}
use Rattle.cells.specs.Steps.Reached.{start, onward}
use Rattle.cells.proofs.ChainLaws.{chain-cons, chain_snoc, chain-split, each_snoc, each_take}
use Rattle.cells.proofs.ChainLaws.{each_at, each_map}
use Rattle.cells.proofs.StandLaws.{stands-nil, stands_as, stands_seq, stands-first}
use Rattle.cells.proofs.StandLaws.{stands-rest}
use Rattle.cells.proofs.CodeLaws.{Code, chain-code}

-- ---- what a walk has answered

module _ {A : Type 0} {enc : A → List ℕ} {Good : A → Type 0} {src : List ℕ} {at : ℕ} where
  pub walk-found : {r : Option ℕ} {q : ℕ} → r ≡ Some q → WalkIs enc Good src at r
      → Found enc Good src at q
  walk-found e f = subst (WalkIs enc Good src at) e f

  pub none-found : {r : Option ℕ} → r ≡ None → NoneAt enc Good src at → WalkIs enc Good src at r
  none-found e none = subst (WalkIs enc Good src at) (sym e) none

-- Behind the first i of the things l stands the next.
pub next-stands : {A : Type 0} (enc : A → List ℕ) (l : List A) (i : ℕ) (d : A) {src : List ℕ}
    {at p q : ℕ} → i < length l → Stands (chain enc l) src at q
    → Stands (chain enc (take i l)) src at p
    → Stands (enc (get_or l i d)) src p (p + length (enc (get_or l i d)))
next-stands enc l i d {src} {at} {p} {q} h w s =
    let x = get_or l i d in
    let rest = chain enc (drop (suc i) l) in
    let parts : chain enc l ≡ chain enc (take i l) ++ (enc x ++ rest) =
    chain-split enc l i
    ∙ ap (λ (b : List ℕ). chain enc (take i l) ++ b)
    (ap (chain enc) (drop-cons l i d h) ∙ chain-cons enc x (drop (suc i) l)) in
    let v = stands-rest (chain enc (take i l)) (enc x ++ rest) (stands_as parts w) in
    stands-first (enc x) rest
    (subst (λ (k : ℕ). Stands (enc x ++ rest) src k q) (sym s.next) v)

-- ---- what is found so far

pub each_none : {A : Type 0} (Good : ℕ → A → Type 0) → Each Good []
unfolding Each
each_none Good = tt

pub none-stands : {A : Type 0} (enc : A → List ℕ) (src : List ℕ) (at : ℕ) → at ≤ length src
    → Stands (chain enc []) src at at
unfolding chain
none-stands enc src at h = stands-nil src at h

-- Of n things the first i are found, and p is the place behind them.
pub record Walked {A : Type 0} (enc : A → List ℕ) (Good : ℕ → A → Type 0) (src : List ℕ)
    (at n i p : ℕ) : Type 0 where
  pub few : i ≤ n
  pub room : p ≤ length src
  pub found : Found (chain enc) (Many Good i) src at p

module _ {A : Type 0} {enc : A → List ℕ} {Good : ℕ → A → Type 0} {src : List ℕ} {at n : ℕ} where
  -- Before the first.
  abbrev pub walk_none : at ≤ length src → Walked enc Good src at n 0 at
  walk_none h = record {
    few = omega arith;
    room = h;
    found = record {
      thing = [];
      good = record { count = refl; each = each_none Good };
      stands = none-stands enc src at h;
    };
  }

  -- One more.
  abbrev pub walk-next : {i p q : ℕ} → Walked enc Good src at n i p → i < n
      → Found enc (Good i) src p q → Walked enc Good src at n (i + 1) q
  walk-next {i} w h g =
      let f = w.found in
      let l = f.thing in
      let x = g.thing in
      let count : length l ≡ i = f.good.count in
      record {
        few = omega arith;
        room = g.stands.room;
        found = record {
          thing = l ++ (x ∷ []);
          good = record {
            count = length-append l (x ∷ []) ∙ omega arith;
            each = each_snoc Good l x f.good.each
                (subst (λ (k : ℕ). Good k x) (sym count) g.good);
          };
          stands = stands_as (sym (chain_snoc enc l x)) (stands_seq f.stands g.stands);
        };
      }

  -- All of them.
  abbrev pub walk-all : {i p : ℕ} → Walked enc Good src at n i p → n ≤ i
      → Found (chain enc) (Many Good n) src at p
  walk-all w h = let few = w.few in let f = w.found in
      record {
        thing = f.thing;
        good = record { count = f.good.count ∙ omega arith; each = f.good.each };
        stands = f.stands;
      }

  -- The next is not by form: there are no n such things.
  pub walk-stop : {Range : A → Type 0} → Code enc Range
      → ((i : ℕ) (a : A) → Good i a → Range a) → {i p : ℕ} → Walked enc Good src at n i p
      → i < n → {r : Option ℕ} → r ≡ None → WalkIs enc (Good i) src p r
      → NoneAt (chain enc) (Many Good n) src at
  walk-stop code fits w h bad none [] q g v = let count = g.count in omega arith
  walk-stop {Range = Range} code fits {i} {p} w h bad none (d ∷ m) q g v =
      subst (WalkIs enc (Good i) src p) bad none (get_or l i d) (p + length (enc (get_or l i d)))
      (each_at Good l i d within g.each)
      (next-stands enc l i d within v (stands_as (ap (chain enc) same) w.found.stands))
    where
      l : List A
      l = d ∷ m

      within : i < length l
      within = let count = g.count in omega arith

      ranged : (m : List A) → Each Good m → All Range m
      ranged m e = each_map Good (λ i. Range) fits m e

      same : w.found.thing ≡ take i l
      same =
          let f = w.found in
          let first = stands-first (chain enc (take i l)) (chain enc (drop i l))
          (stands_as (chain-split enc l i) v) in
          chain-code enc Range code f.thing (take i l) (drop p src)
          (drop (at + length (chain enc (take i l))) src)
          (f.good.count ∙ sym (length-take-le i l (omega (arith, within))))
          (ranged f.thing f.good.each)
          (ranged (take i l) (each_take Good i l g.each)) (sym f.stands.here ∙ first.here)

-- ---- by steps

module _ {A : Type 0} {enc : A → List ℕ} {Good : A → Type 0} {src : List ℕ} {at : ℕ}
    {R : ℕ → Option ℕ → Type 0} (n : ℕ)
    (finds : (p : ℕ) (r : Option ℕ) → p ≤ length src → R p r → WalkIs enc Good src p r)
    (within : at ≤ length src) where
  reached-walked : {i p : ℕ} → i ≤ n → Reached R at i p → Walked enc (λ k. Good) src at n i p
  reached-walked few start = walk_none within
  reached-walked few (onward {i} {p} {q} w r) =
      let b = reached-walked (omega arith) w in
      walk-next b (omega arith) (finds p (Some q) b.room r)

  -- What n steps answer, each of which finds the next thing or none.
  pub steps-found : {Range : A → Type 0} → Code enc Range → ((a : A) → Good a → Range a)
      → (r : Option ℕ) → Steps R at n r → WalkIs (chain enc) (Many (λ k. Good) n) src at r
  steps-found code fits (Some p) w = walk-all (reached-walked (omega arith) w) (omega arith)
  steps-found code fits None e =
      let few = e.few in
      let b = reached-walked (omega arith) e.reached in
      walk-stop code (λ k. fits) b few refl (finds e.place None b.room e.none)
