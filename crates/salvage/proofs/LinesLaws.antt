-- The lines of the loads one by one: what is written, what is left, and that there is room.
use mathlib.Core.Path.{◌≡◌, refl, sym, ap, ◌∙◌, subst}
use mathlib.Core.Bool.{Bool, true, false, false≢true, ◌&&◌, cond}
use Prim.Native.Nat.{ℕ, zero, suc, ◌+◌, ◌-◌, ◌*◌, ◌≤◌, ◌<◌}
use native.Mathlib.Omega.{arith}
use mathlib.Core.List.{List, [], ◌∷◌, ◌++◌, map, append_assoc, append-nil}
use lib.Dec.{leb, eqb}
use lib.ListN.{length}
use borrow.Author.Tests.{leb-true, eq-eqb}
use Rattle.rules.specs.Pick.{pick-false}
use Rattle.rules.specs.Sizes.{most_number, within}
use Rattle.rules.proofs.BoundLaws.{first-of, second-of}
use Rattle.image.specs.Image.{numbers_from}
use Rattle.print.specs.Text.{Wrote}
use Rattle.print.proofs.WriteLaws.{nothing, then, spelled, at_most}
use Rattle.found.specs.Found.{first_in}
use Rattle.salvage.specs.declared.loads.Tally.{Tally}
use Rattle.salvage.specs.Table.{box_body_of}
use Rattle.salvage.specs.Loads.{last_in, kept_in, kept_by, held, load_text, loads_text}
use Rattle.salvage.specs.Tally.{none_yet, tallied, tally_text, SkipsAll}
use Rattle.salvage.proofs.SaidLaws.{held-skip, load_said}
use Rattle.salvage.proofs.TextLaws.{shorter}

-- ---- how many numbers a box still has from k on

abbrev pub rem_of : Bool → List ℕ → ℕ → ℕ
rem_of readable body k =
    cond readable (last_in body + 1 - first_in body - (k - first_in body)) 0

rem_less : (readable : Bool) (body : List ℕ) (k j : ℕ) → k ≤ j
    → rem_of readable body j ≤ rem_of readable body k
rem_less true body k j h = omega arith
rem_less false body k j h = omega arith

rem_falls : (readable : Bool) (n : ℕ) (body : List ℕ) (k : ℕ)
    → eqb (kept_in readable n body k) 0 ≡ false
    → rem_of readable body (k + 1) + 1 ≤ rem_of readable body k
unfolding kept_in
rem_falls readable n body k e =
    go (readable && within (first_in body) (last_in body) k) refl readable refl
  where
    go : (t : Bool) → (readable && within (first_in body) (last_in body) k) ≡ t
        → (q : Bool) → readable ≡ q → rem_of readable body (k + 1) + 1 ≤ rem_of readable body k
    go false f q r =
        absurd (false≢true (sym e ∙ eq-eqb (kept_in readable n body k) 0
        (pick-false (readable && within (first_in body) (last_in body) k) _ _ f)))
    go true f false r = absurd (false≢true (sym r ∙ first-of readable _ f))
    go true f true r =
        let w = second-of readable _ f in
        let a = leb-true (first_in body) k (first-of (leb (first_in body) k) _ w) in
        let b = leb-true k (last_in body) (second-of (leb (first_in body) k) _ w) in
        let last = last_in body in
        let first = first_in body in
        let falls : last + 1 - first - (k + 1 - first) + 1 ≤ last + 1 - first - (k - first) =
        omega arith in
        subst (λ (x : Bool). rem_of x body (k + 1) + 1 ≤ rem_of x body k) (sym r) falls

-- all boxes, m of them from b on
unfoldable pub lefts_of : (ℕ → Bool) → List ℕ → ℕ → ℕ → ℕ → ℕ
lefts_of f im zero b k = 0
lefts_of f im (suc m) b k = rem_of (f b) (box_body_of im b) k + lefts_of f im m (suc b) k

module _ (f : ℕ → Bool) (im : List ℕ) where
  lefts_less : (m b k j : ℕ) → k ≤ j → lefts_of f im m b j ≤ lefts_of f im m b k
  unfolding lefts_of
  lefts_less zero b k j h = omega arith
  lefts_less (suc m) b k j h =
      let a = rem_less (f b) (box_body_of im b) k j h in
      let c = lefts_less m (suc b) k j h in
      omega arith

  module _ (n k : ℕ) where
    abbrev keeps : ℕ → ℕ
    keeps b = kept_in (f b) n (box_body_of im b) k

    lefts_fall : (m b : ℕ) → 0 < length (held (map keeps (numbers_from b m)))
        → lefts_of f im m b (k + 1) + 1 ≤ lefts_of f im m b k
    unfolding lefts_of numbers_from held
    lefts_fall zero b h = absurd (let no : ⊥ = omega arith in no)
    lefts_fall (suc m) b h = go (lefts_fall m (suc b)) (eqb (keeps b) 0) refl
      where
        go : (0 < length (held (map keeps (numbers_from (suc b) m)))
            → lefts_of f im m (suc b) (k + 1) + 1 ≤ lefts_of f im m (suc b) k)
            → (t : Bool) → eqb (keeps b) 0 ≡ t
            → lefts_of f im (suc m) b (k + 1) + 1 ≤ lefts_of f im (suc m) b k
        go ih true e =
            let rest = map keeps (numbers_from (suc b) m) in
            let skip = ap length (held-skip (keeps b) rest e) in
            let more : 0 < length (held rest) = omega arith in
            let s = ih more in
            let a = rem_less (f b) (box_body_of im b) k (k + 1) (omega arith) in
            omega arith
        go ih false e =
            let s = rem_falls (f b) n (box_body_of im b) k e in
            let a = lefts_less m (suc b) k (k + 1) (omega arith) in
            omega arith

-- ---- numbers that none keeps have no line

module _ (f : ℕ → Bool) (im : List ℕ) (n : ℕ) where
  loads-skip : (d m k : ℕ) → d ≤ m
      → ((j : ℕ) → k ≤ j → j < k + d → held (kept_by f im n j) ≡ [])
      → loads_text f im n m k ≡ loads_text f im n (m - d) (k + d)
  unfolding loads_text
  loads-skip zero m k h none =
      let a : m ≡ m - 0 = omega arith in
      let b : k ≡ k + 0 = omega arith in
      λ i. loads_text f im n (a i) (b i)
  loads-skip (suc d) zero k h none = absurd (let no : ⊥ = omega arith in no)
  loads-skip (suc d) (suc m) k h none =
      let a : m - d ≡ suc m - suc d = omega arith in
      let b : suc k + d ≡ k + suc d = omega arith in
      ap (λ (hs : List ℕ). load_text k hs ++ loads_text f im n m (suc k))
      (none k (omega arith) (omega arith))
      ∙ loads-skip d m (suc k) (omega arith) (λ j l x. none j (omega arith) (omega arith))
      ∙ (λ i. loads_text f im n (a i) (b i))

  loads-none : (m k : ℕ) → ((j : ℕ) → k ≤ j → j < k + m → held (kept_by f im n j) ≡ [])
      → loads_text f im n m k ≡ []
  unfolding loads_text
  loads-none m k none =
      let z : m - m ≡ 0 = omega arith in
      loads-skip m m k (omega arith) none
      ∙ ap (λ (c : ℕ). loads_text f im n c (k + m)) z

  abbrev whole : List ℕ
  whole = loads_text f im n most_number 1

  abbrev left_at : ℕ → ℕ
  left_at k = lefts_of f im n 1 k

  -- the lines of the numbers below k are written
  pub record LinesTo (at : ℕ) (o o' : List ℕ) (k p : ℕ) : Type 0 where
    pub least : 1 ≤ k
    pub most : k ≤ most_number + 1
    pub used : ℕ
    pub text : List ℕ
    pub wrote : Wrote (40 * used) o o' at p text
    pub all : text ++ loads_text f im n (most_number + 1 - k) k ≡ whole
    pub few : used + left_at k ≤ left_at 1

  pub lines_none : (at : ℕ) (o : List ℕ) → LinesTo at o o 1 at
  lines_none at o =
      let m : most_number + 1 - 1 ≡ most_number = omega arith in
      record {
        least = omega arith;
        most = omega arith;
        used = 0;
        text = [];
        wrote = at_most {m = 0} (omega arith) nothing;
        all = ap (λ (c : ℕ). loads_text f im n c 1) m;
        few = omega arith;
      }

  module _ {at : ℕ} {o o' : List ℕ} {k p q : ℕ} (w : LinesTo at o o' k p)
      (s : SkipsAll f im n k q) where
    -- none of the boxes keeps a number from k on
    pub lines_end : most_number + 1 ≤ q → Wrote (40 * w.used) o o' at p whole
    lines_end h =
        let none = loads-none (most_number + 1 - k) k
        (λ j l x. s.none j l (let m = w.most in omega arith)) in
        spelled
        (sym (append-nil w.text) ∙ ap (λ (l : List ℕ). w.text ++ l) (sym none) ∙ w.all)
        w.wrote

    module _ (h : q ≤ most_number) where
      unfoldable behind : List ℕ
      behind = loads_text f im n (most_number + 1 - (q + 1)) (q + 1)

      here : loads_text f im n (most_number + 1 - k) k
          ≡ load_text q (held (kept_by f im n q)) ++ behind
      unfolding loads_text behind
      here =
          let from = s.from in
          let a : most_number + 1 - k - (q - k) ≡ suc (most_number + 1 - (q + 1)) = omega arith in
          let b : k + (q - k) ≡ q = omega arith in
          let c : suc q ≡ q + 1 = omega arith in
          loads-skip (q - k) (most_number + 1 - k) k (omega arith)
          (λ j l x. s.none j l (omega arith))
          ∙ (λ i. loads_text f im n (a i) (b i))
          ∙ ap (λ (z : ℕ). load_text q (held (kept_by f im n q))
          ++ loads_text f im n (most_number + 1 - (q + 1)) z) c

      going : (line : List ℕ) → line ≡ load_text q (held (kept_by f im n q))
          → (w.text ++ line) ++ behind ≡ whole
      going line e =
          append_assoc w.text line behind
          ∙ ap (λ (l : List ℕ). w.text ++ l)
          (ap (λ (l : List ℕ). l ++ behind) e ∙ sym here)
          ∙ w.all

      -- the line of q is written, if it has one
      pub lines_more : {o'' : List ℕ} {r : ℕ} {t : Tally}
          → t ≡ tallied none_yet (kept_by f im n q) → Wrote 40 o' o'' p r (tally_text q t)
          → LinesTo at o o'' (q + 1) r
      unfolding behind
      lines_more {o''} {r} {t} e v = go (held (kept_by f im n q)) refl
        where
          is : tally_text q t ≡ load_text q (held (kept_by f im n q))
          is = ap (tally_text q) e ∙ load_said q (kept_by f im n q)

          go : (hs : List ℕ) → held (kept_by f im n q) ≡ hs → LinesTo at o o'' (q + 1) r
          go [] none =
              let empty : tally_text q t ≡ [] = is ∙ ap (load_text q) none in
              let long : length (tally_text q t) ≤ 0 = let l = ap length empty in omega arith in
              let from = s.from in
              let few = w.few in
              let less = lefts_less f im n 1 k (q + 1) (omega arith) in
              record {
                least = omega arith;
                most = omega arith;
                used = w.used;
                text = w.text ++ tally_text q t;
                wrote = at_most (omega arith) (then w.wrote (shorter (tally_text q t) long v));
                all = going (tally_text q t) is;
                few = omega arith;
              }
          go (x ∷ hs) some =
              let n0 = ap length some in
              let kept : 0 < length (held (kept_by f im n q)) = omega arith in
              let from = s.from in
              let few = w.few in
              let falls = lefts_fall f im n q n 1 kept in
              let less = lefts_less f im n 1 k q from in
              record {
                least = omega arith;
                most = omega arith;
                used = w.used + 1;
                text = w.text ++ tally_text q t;
                wrote = at_most (omega arith) (then w.wrote v);
                all = going (tally_text q t) is;
                few = omega arith;
              }

  -- after the largest number
  pub lines-all : {at : ℕ} {o o' : List ℕ} {k p : ℕ} (w : LinesTo at o o' k p)
      → most_number + 1 ≤ k → Wrote (40 * w.used) o o' at p whole
  unfolding loads_text
  lines-all {k = k} w h =
      let z : most_number + 1 - k ≡ 0 = omega arith in
      let none : loads_text f im n (most_number + 1 - k) k ≡ [] =
      ap (λ (c : ℕ). loads_text f im n c k) z in
      spelled
      (sym (append-nil w.text) ∙ ap (λ (l : List ℕ). w.text ++ l) (sym none) ∙ w.all)
      w.wrote
