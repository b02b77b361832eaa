-- Bodies with their entries in the table of contents: one, one after another, and in a loop.
use mathlib.Core.Path.{◌≡◌, refl, sym, ap, ◌∙◌, subst}
use Prim.Native.Nat.{ℕ, ◌+◌, ◌-◌, ◌*◌, ◌≤◌, ◌<◌}
use native.Mathlib.Numerals.{add-one}
use native.Mathlib.Omega.{arith}
use mathlib.Core.List.{List, [], ◌∷◌, ◌++◌}
use lib.ListN.{length, take, drop, get_or, length-append, take-append-drop}
use lib.Seq.{take-suc, take_all, length-take-le}
use Rattle.le.specs.Le.{le}
use Rattle.cells.specs.Cells.{chain, cells, Room, Wrote}
use Rattle.cells.proofs.ChainLaws.{chain_append, chain-one}
use Rattle.cells.proofs.WriteLaws.{wrote-nil, wrote-length, wrote_seq, wrote_as, wrote-before}
use Rattle.image.specs.Image.{contents}
use Rattle.image.proofs.TableLaws.{contents_append}
use Rattle.writer.specs.Bodies.{Space, Entered}

abbrev whole : List ℕ → List ℕ
whole b = b

pub entered-length : {bs : List (List ℕ)} {o o' : List ℕ} {k at r : ℕ} → Entered bs o k at o' r
    → length o' ≡ length o
entered-length v = wrote-length v.bodies ∙ wrote-length v.entries

pub entered-none : {o : List ℕ} {k at : ℕ} → k ≤ at → at ≤ length o → Entered [] o k at o at
unfolding chain contents
entered-none {o} {k} {at} h l =
    let none : k ≡ k + 8 * 0 = omega arith in
    record {
      middle = o;
      entries = wrote_as refl none (wrote-nil o k (omega arith));
      bodies = wrote-nil o at l;
      apart = omega arith;
    }

-- There is room for a body; it is written, and then its entry.
pub space_one : {b o : List ℕ} {k at : ℕ} → Space (b ∷ []) o k at → Room b o at
space_one {b} {o} {k} {at} s =
    subst (λ (l : List ℕ). Room l o at) (chain-one whole b) s.room

pub entered-one : {b o o1 o2 : List ℕ} {k at r : ℕ} → Space (b ∷ []) o k at → Wrote b o at o1 r
    → Wrote (cells 4 (at ∷ (r - at) ∷ [])) o1 k o2 (k + 8) → Entered (b ∷ []) o k at o2 r
unfolding contents
entered-one {b} {at = at} {r = r} s v w =
    let h = s.entries in
    let n = v.next in
    let long : r - at ≡ length b = omega arith in
    let t = wrote-before v w h in
    record {
      middle = t.middle;
      entries = wrote_as (ap (λ (x : ℕ). cells 4 (at ∷ x ∷ [])) long) refl t.first;
      bodies = wrote_as (sym (chain-one whole b)) refl t.then;
      apart = h;
    }

module _ (bs cs : List (List ℕ)) {o : List ℕ} {k at : ℕ} (s : Space (bs ++ cs) o k at) where
  count : length (bs ++ cs) ≡ length bs + length cs
  count = length-append bs cs

  size : length (chain whole (bs ++ cs)) ≡ length (chain whole bs) + length (chain whole cs)
  size = ap length (chain_append whole bs cs) ∙ length-append (chain whole bs) (chain whole cs)

  pub space_first : Space bs o k at
  space_first =
      let e = s.entries in
      let f = s.room.fits in
      record { entries = omega (arith, count); room = record { fits = omega (arith, size) } }

  module _ {o1 : List ℕ} {p : ℕ} (v : Entered bs o k at o1 p) where
    pub space_rest : Space cs o1 (k + 8 * length bs) p
    space_rest =
        let e = s.entries in
        let f = s.room.fits in
        let n = v.bodies.next in
        let l = entered-length v in
        record { entries = omega (arith, count); room = record { fits = omega (arith, size) } }

    -- One after another.
    pub entered_seq : {o2 : List ℕ} {r : ℕ} → Entered cs o1 (k + 8 * length bs) p o2 r
        → Entered (bs ++ cs) o k at o2 r
    entered_seq w =
        let e = s.entries in
        let place : k + 8 * length bs + 8 * length cs ≡ k + 8 * length (bs ++ cs) =
        omega (arith, count) in
        let t = wrote-before v.bodies w.entries (omega (arith, count)) in
        let table : cells 4 (contents at bs) ++ cells 4 (contents p cs)
        ≡ cells 4 (contents at (bs ++ cs)) =
        sym (chain_append (le 4) (contents at bs) (contents p cs))
        ∙ ap (λ (q : ℕ). cells 4 (contents at bs ++ contents q cs)) v.bodies.next
        ∙ ap (cells 4) (sym (contents_append at bs cs)) in
        record {
          middle = t.middle;
          entries = wrote_as table place (wrote_seq v.entries t.first);
          bodies = wrote_as (sym (chain_append whole bs cs)) refl
              (wrote_seq t.then w.bodies);
          apart = e;
        }

-- ---- in a loop, bs all bodies

module _ (bs : List (List ℕ)) {o : List ℕ} {k at : ℕ} (s : Space bs o k at) where
  pub entered-start : Entered (take 0 bs) o k at o at
  entered-start = let f = s.room.fits in let e = s.entries in
      entered-none (omega arith) (omega arith)

  pub entered_all : (i : ℕ) {o' : List ℕ} {p : ℕ} → length bs ≤ i → Entered (take i bs) o k at o' p
      → Entered bs o k at o' p
  entered_all i h v = rw (take_all i bs h) at v

  -- b is the next
  module _ (i : ℕ) {b : List ℕ} (h : i < length bs) (e : get_or bs i [] ≡ b) {o1 : List ℕ} {p : ℕ}
      (v : Entered (take i bs) o k at o1 p) where
    next : take (i + 1) bs ≡ take i bs ++ (b ∷ [])
    next =
        ap (λ (j : ℕ). take j bs) (add-one i) ∙ take-suc bs i [] h
        ∙ ap (λ (x : List ℕ). take i bs ++ (x ∷ [])) e

    so_far : Space (take i bs ++ (b ∷ [])) o k at
    so_far =
        space_first (take i bs ++ (b ∷ [])) (drop (i + 1) bs)
        (subst (λ (l : List (List ℕ)). Space l o k at)
        (sym (take-append-drop (i + 1) bs)
        ∙ ap (λ (l : List (List ℕ)). l ++ drop (i + 1) bs) next) s)

    place : k + 8 * length (take i bs) ≡ k + 8 * i
    place = ap (λ (x : ℕ). k + 8 * x) (length-take-le i bs (omega arith))

    pub space_next : Space (b ∷ []) o1 (k + 8 * i) p
    space_next =
        subst (λ (x : ℕ). Space (b ∷ []) o1 x p) place
        (space_rest (take i bs) (b ∷ []) so_far v)

    pub entered-next : {o2 : List ℕ} {r : ℕ} → Entered (b ∷ []) o1 (k + 8 * i) p o2 r
        → Entered (take (i + 1) bs) o k at o2 r
    entered-next {o2} {r} w =
        subst (λ (l : List (List ℕ)). Entered l o k at o2 r) (sym next)
        (entered_seq (take i bs) (b ∷ []) so_far v
        (subst (λ (x : ℕ). Entered (b ∷ []) o1 x p o2 r) (sym place) w))
