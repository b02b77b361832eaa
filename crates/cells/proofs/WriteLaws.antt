-- The laws of writing: one thing, one after another, and in a loop.
use mathlib.Core.Path.{◌≡◌, refl, sym, ap, ◌∙◌, subst₂}
use Prim.Native.Nat.{ℕ, ◌+◌, ◌-◌, ◌≤◌, ◌<◌}
use native.Mathlib.Nat.{add-zero}
use native.Mathlib.Omega.{arith}
use mathlib.Core.List.{List, [], ◌++◌, append_assoc}
use lib.ListN.{length, take, drop, get_or, length-append, length-drop, take-append-drop}
use lib.Seq.{take_at, drop_at, drop-drop, length-take-le, take-add, take-take, take-append-le}
use lib.Seq.{drop-append-le, take-append-add, drop-append-add}
use Rattle.words.specs.Rows.{splice}
use Rattle.le.specs.Le.{le}
use Rattle.le.proofs.LeLaws.{length-le}
use Rattle.cells.specs.Cells.{chain, Wrote, Room}
use Rattle.cells.proofs.ChainLaws.{chain-step, chain-all, chain-room}

pub wrote-nil : (o : List ℕ) (at : ℕ) → at ≤ length o → Wrote [] o at o at
wrote-nil o at h =
    record { next = sym (add-zero at); room = h; out = sym (take-append-drop at o) }

pub wrote-length : {bs o o' : List ℕ} {at r : ℕ} → Wrote bs o at o' r → length o' ≡ length o
wrote-length {bs} {o} {o'} {at} {r} w =
    let n = w.next in
    let m = w.room in
    let t : length (take at o) ≡ at = length-take-le at o (omega arith) in
    rw w.out (simp (length-append, length-drop) (omega arith))

-- Said in other words.
pub wrote_as : {a b o o' : List ℕ} {at p q : ℕ} → a ≡ b → p ≡ q → Wrote a o at o' p
    → Wrote b o at o' q
wrote_as {o = o} {o' = o'} {at = at} e f w =
    subst₂ (λ (l : List ℕ) (r : ℕ). Wrote l o at o' r) e f w

-- One after the other.
pub wrote_seq : {a b o o1 o2 : List ℕ} {at p q : ℕ} → Wrote a o at o1 p → Wrote b o1 p o2 q
    → Wrote (a ++ b) o at o2 q
wrote_seq {a} {b} {o} {o1} {o2} {at} {p} {q} v w =
    let n = v.next in
    let m = v.room in
    let n' = w.next in
    let m' = w.room in
    let l = wrote-length v in
    let f = take at o ++ a in
    let t : length (take at o) ≡ at = length-take-le at o (omega arith) in
    let tf : length f ≡ p = length-append (take at o) a ∙ omega arith in
    let e : o1 ≡ f ++ drop p o = v.out ∙ sym (append_assoc (take at o) a (drop p o)) in
    let x : take p o1 ≡ f = rw e (take_at f (drop p o) p tf) in
    let y : drop p o1 ≡ drop p o = rw e (drop_at f (drop p o) p tf) in
    let more = length b in
    let z : drop q o1 ≡ drop q o =
    rw n' (sym (drop-drop more p o1) ∙ ap (drop more) y ∙ drop-drop more p o) in
    record {
      next = rw (length-append a b) (omega arith);
      room = omega arith;
      out =
          w.out ∙ rw (
            x,
            z,
            append_assoc (take at o) a (b ++ drop q o),
            append_assoc a b
                (drop q o),
          );
    }

-- With room for two there is room for the first, and when that is written for the second.
pub room-first : {a o : List ℕ} {at : ℕ} (b : List ℕ) → Room (a ++ b) o at → Room a o at
room-first {a} {o} {at} b h = let f = h.fits in
    record { fits = omega (arith, length-append a b) }

pub room-rest : {a b o o' : List ℕ} {at p : ℕ} → Room (a ++ b) o at → Wrote a o at o' p
    → Room b o' p
room-rest {a} {b} h w = let f = h.fits in let n = w.next in
    record { fits = omega (arith, length-append a b, wrote-length w) }

-- What is written before a place that was written to before is as if it had been written first.
pub record Before (e o : List ℕ) (k : ℕ) (k' : ℕ) (b : List ℕ) (at : ℕ) (o' : List ℕ) (r : ℕ)
    : Type 0 where
  pub middle : List ℕ
  pub first : Wrote e o k middle k'
  pub then : Wrote b middle at o' r

pub wrote-before : {b e o o1 o2 : List ℕ} {at r k k' : ℕ} → Wrote b o at o1 r
    → Wrote e o1 k o2 k' → k' ≤ at → Before e o k k' b at o2 r
wrote-before {b} {e} {o} {o1} {o2} {at} {r} {k} {k'} v w h =
    let n = v.next in
    let m = v.room in
    let n' = w.next in
    let g = at - k' in
    let f = take k o ++ e in
    let mid = take k o ++ (e ++ drop k' o) in
    let tk : length (take k o) ≡ k = length-take-le k o (omega arith) in
    let ta : length (take at o) ≡ at = length-take-le at o (omega arith) in
    let tk' : length (take k' o) ≡ k' = length-take-le k' o (omega arith) in
    let tf : length f ≡ k' = length-append (take k o) e ∙ omega arith in
    let split : mid ≡ f ++ drop k' o = sym (append_assoc (take k o) e (drop k' o)) in
    let far : at ≡ length f + g = omega arith in
    let add : at ≡ k' + g = omega arith in
    let gap : drop k' (take at o) ≡ take g (drop k' o) =
    ap (λ (x : ℕ). drop k' (take x o)) add
    ∙ ap (drop k') (take-add k' g o)
    ∙ drop_at (take k' o) (take g (drop k' o)) k' tk' in
    let low : take k o1 ≡ take k o =
    ap (take k) v.out
    ∙ take-append-le k (take at o) (b ++ drop r o) (omega arith)
    ∙ take-take k at o (omega arith) in
    let high : drop k' o1 ≡ take g (drop k' o) ++ (b ++ drop r o) =
    ap (drop k') v.out
    ∙ drop-append-le k' (take at o) (b ++ drop r o) (omega arith)
    ∙ ap (λ (l : List ℕ). l ++ (b ++ drop r o)) gap in
    let front : take at mid ≡ f ++ take g (drop k' o) =
    (λ i. take (far i) (split i)) ∙ take-append-add f (drop k' o) g in
    let past : r ≡ length f + (r - k') = omega arith in
    let back : k' + (r - k') ≡ r = omega arith in
    let behind : drop r mid ≡ drop r o =
    (λ i. drop (past i) (split i))
    ∙ drop-append-add f (drop k' o) (r - k')
    ∙ drop-drop (r - k') k' o
    ∙ ap (λ (x : ℕ). drop x o) back in
    let first : Wrote e o k mid k' = record { next = n'; room = omega arith; out = refl } in
    record {
      middle = mid;
      first = first;
      then = record {
        next = n;
        room = omega (arith, wrote-length first);
        out =
            w.out
            ∙ (λ i. low i ++ (e ++ high i))
            ∙ sym (append_assoc (take k o) e (take g (drop k' o) ++ (b ++ drop r o)))
            ∙ sym (append_assoc f (take g (drop k' o)) (b ++ drop r o))
            ∙ sym (λ i. front i ++ (b ++ behind i));
      };
    }

-- A number at a place, as `le` writes it.
pub wrote-le : (k x : ℕ) (o o' : List ℕ) (at : ℕ) → at + k ≤ length o
    → o' ≡ splice o at k (le k x) → Wrote (le k x) o at o' (at + k)
wrote-le k x o o' at h e =
    record { next = rw (length-le k x); room = h; out = e ∙ rw (drop-drop k at o) }

-- ---- things one after another in a loop, l the whole of them

module _ {ℓ} {A : Type ℓ} (enc : A → List ℕ) (l : List A) where
  -- Before the first.
  pub wrote_none : (o : List ℕ) (at : ℕ) → at ≤ length o → Wrote (chain enc (take 0 l)) o at o at
  unfolding chain
  wrote_none o at h = wrote-nil o at h

  -- After the last.
  pub wrote-all : (i : ℕ) {o o' : List ℕ} {at p : ℕ} → length l ≤ i
      → Wrote (chain enc (take i l)) o at o' p → Wrote (chain enc l) o at o' p
  wrote-all i h w = rw (chain-all enc l i h) at w

  module _ (d : A) (i : ℕ) (h : i < length l) where
    -- There is room for the next ..
    pub room-next : {o o' : List ℕ} {at p : ℕ} → Room (chain enc l) o at
        → Wrote (chain enc (take i l)) o at o' p → Room (enc (get_or l i d)) o' p
    room-next r w = let f = r.fits in let n = w.next in
        record { fits = omega (arith, wrote-length w, chain-room enc l i d h) }

    -- .. and it is written.
    pub wrote-next : {o o1 o2 : List ℕ} {at p q : ℕ} → Wrote (chain enc (take i l)) o at o1 p
        → Wrote (enc (get_or l i d)) o1 p o2 q → Wrote (chain enc (take (i + 1) l)) o at o2 q
    wrote-next v w = rw (chain-step enc l i d h) (wrote_seq v w)
