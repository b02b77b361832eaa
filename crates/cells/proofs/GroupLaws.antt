-- Words in groups: how long they are, that they can be told from their bytes, and how they are
-- written and read one group after another.
use mathlib.Core.Path.{◌≡◌, refl, sym, ap, ◌∙◌, subst}
use mathlib.Core.Bool.{Bool, true, false}
use Prim.Native.Nat.{ℕ, zero, suc, ◌+◌, ◌-◌, ◌*◌, ◌^◌, ◌≤◌, ◌<◌}
use native.Mathlib.Nat.{add-sub_cancel_left}
use native.Mathlib.Numerals.{add-one}
use native.Mathlib.Omega.{arith}
use mathlib.Core.List.{List, [], ◌∷◌, ◌++◌}
use lib.Dec.{leb, ltb}
use lib.ListN.{length, take, drop, get_or, replicate, length-append, length-replicate}
use lib.ListN.{get_or-replicate}
use lib.Seq.{take_at, drop_at, drop-drop}
use lib.Seq.{ext_get_or, take-suc, take_all, length-take-le, take-take, get_or-take}
use borrow.Author.Tests.{leb-true, leb-false, ltb-true, ltb-false}
use Rattle.words.specs.Rows.{splice}
use Rattle.words.proofs.PartLaws.{length_part, get_or_part, length-splice, part-splice}
use Rattle.words.proofs.PartLaws.{get_or-splice, get_or_past, part-below}
use Rattle.cells.specs.Cells.{chain, cells, Each, All, Below, Stands, Read}
use Rattle.cells.specs.declared.groups.Group.{Group}
use Rattle.cells.specs.Groups.{group_end, group_words, group_bytes, groups_bytes}
use Rattle.cells.specs.Groups.{groups_length, Cut, Outside, GroupFits}
use Rattle.cells.specs.Groups.{GroupedWords, GroupRead, GroupsRead}
use Rattle.cells.proofs.ChainLaws.{length-cells, chain_snoc, each_snoc, each_take, each_at}
use Rattle.cells.proofs.ChainLaws.{each_map, chain_same}
use Rattle.cells.proofs.StandLaws.{stands-nil, stands_seq, stands_as}
use Rattle.cells.proofs.CodeLaws.{Code, cells-code, cancel-same, regroup}

abbrev pub no_group : Group
no_group = record { width = 0; from = 0; count = 0 }

-- ---- where they lie

module _ (m : ℕ) where
  -- What lies behind `low` lies behind what is before it.
  pub cut_low : (gs : List Group) {low lower : ℕ} → lower ≤ low → Cut low m gs → Cut lower m gs
  unfolding Cut
  cut_low [] h c = omega arith
  cut_low (g ∷ gs) h c = let b = c.0 in (omega arith, c.1, c.2)

  pub cut_in : (gs : List Group) (low : ℕ) → Cut low m gs → low ≤ m
  unfolding Cut
  cut_in [] low c = c
  cut_in (g ∷ gs) low c = let b = c.0 in let r = cut_in gs (group_end g) c.2 in omega arith

  -- Group i lies behind `low` and within m words, each of at most 8 bytes ..
  pub cut-at-group : (gs : List Group) (low i : ℕ) → Cut low m gs → i < length gs
      → (low ≤ (get_or gs i no_group).from) × (group_end (get_or gs i no_group) ≤ m)
      × ((get_or gs i no_group).width ≤ 8)
  unfolding Cut
  cut-at-group [] low i c h = absurd (omega arith)
  cut-at-group (g ∷ gs) low zero c h = (c.0, cut_in gs (group_end g) c.2, c.1)
  cut-at-group (g ∷ gs) low (suc i) c h =
      let r = cut-at-group gs (group_end g) i c.2 (omega arith) in
      let a = c.0 in
      let b = r.0 in
      (omega arith, r.1, r.2)

  -- .. and behind those before it.
  pub cut-before : (gs : List Group) (low i : ℕ) → Cut low m gs → i < length gs
      → All (λ (g : Group). group_end g ≤ (get_or gs i no_group).from) (take i gs)
  unfolding Cut Each
  cut-before [] low i c h = absurd (omega arith)
  cut-before (g ∷ gs) low zero c h = tt
  cut-before (g ∷ gs) low (suc i) c h =
      let k : i < length gs = omega arith in
      ((cut-at-group gs (group_end g) i c.2 k).0, cut-before gs (group_end g) i c.2 k)

-- What lies within m words lies within more.
pub cut-more : (gs : List Group) (low : ℕ) {m more : ℕ} → m ≤ more → Cut low m gs → Cut low more gs
unfolding Cut
cut-more [] low h c = omega arith
cut-more (g ∷ gs) low h c = (c.0, c.1, cut-more gs (group_end g) h c.2)

-- ---- their length

pub length-groups : (gs : List Group) (low m : ℕ) (w : List ℕ) → Cut low m gs → length w ≡ m
    → length (groups_bytes gs w) ≡ groups_length gs
unfolding groups_bytes chain groups_length Cut
length-groups [] low m w c e = refl
length-groups (g ∷ gs) low m w c e =
    let h = cut_in m gs (group_end g) c.2 in
    let n : length (group_words w g) ≡ g.count =
    length_part g.from g.count w (omega arith) in
    length-append (group_bytes w g) (chain (group_bytes w) gs)
    ∙ (λ i. (length-cells g.width (group_words w g) ∙ ap (λ (k : ℕ). k * g.width) n) i
    + length-groups gs (group_end g) m w c.2 e i)

one-more : (gs : List Group) (i : ℕ) → i < length gs
    → groups_length (take (suc i) gs)
    ≡ groups_length (take i gs) + (get_or gs i no_group).count * (get_or gs i no_group).width
unfolding groups_length
one-more [] i h = absurd (omega arith)
one-more (g ∷ gs) zero h = omega arith
one-more (g ∷ gs) (suc i) h = let r = one-more gs i (omega arith) in omega arith

pub length-next-group : (gs : List Group) (i : ℕ) → i < length gs
    → groups_length (take (i + 1) gs)
    ≡ groups_length (take i gs) + (get_or gs i no_group).count * (get_or gs i no_group).width
length-next-group gs i h = rw add-one (one-more gs i h)

pub length-first-groups : (gs : List Group) (i : ℕ) → groups_length (take i gs) ≤ groups_length gs
unfolding groups_length
length-first-groups gs zero = omega arith
length-first-groups [] (suc i) = omega arith
length-first-groups (g ∷ gs) (suc i) = let r = length-first-groups gs i in omega arith

-- ---- told from their bytes

abbrev pub SameIn : List ℕ → List ℕ → Group → Type 0
SameIn v w g = group_words v g ≡ group_words w g

-- A word is the same where it is in a group that is, and else where that is shown.
same_at : (v w : List ℕ) (gs : List Group) → All (SameIn v w) gs → (k : ℕ)
    → (Outside gs k → get_or v k 0 ≡ get_or w k 0) → get_or v k 0 ≡ get_or w k 0
unfolding Each
same_at v w [] h k none = none tt
same_at v w (g ∷ gs) h k none =
    go (same_at v w gs h.1 k) (leb g.from k) refl (ltb k (group_end g)) refl
  where
    go : ((Outside gs k → get_or v k 0 ≡ get_or w k 0) → get_or v k 0 ≡ get_or w k 0)
        → (s : Bool) → leb g.from k ≡ s → (t : Bool) → ltb k (group_end g) ≡ t
        → get_or v k 0 ≡ get_or w k 0
    go more true a true b =
        let low = leb-true g.from k a in
        let high = ltb-true k (group_end g) b in
        let i = k - g.from in
        let at : g.from + i ≡ k = omega arith in
        let in-it : i < g.count = omega arith in
        ap (λ (j : ℕ). get_or v j 0) (sym at)
        ∙ sym (get_or_part g.from g.count i 0 v in-it)
        ∙ ap (λ (l : List ℕ). get_or l i 0) h.0
        ∙ get_or_part g.from g.count i 0 w in-it
        ∙ ap (λ (j : ℕ). get_or w j 0) at
    go more true a false b =
        let high = ltb-false k (group_end g) b in
        more (λ o. none ((λ low below. omega arith), o))
    go more false a t b =
        let low = leb-false g.from k a in
        more (λ o. none ((λ above below. omega arith), o))

pub groups_as : (v w : List ℕ) (gs : List Group) → All (SameIn v w) gs
    → groups_bytes gs v ≡ groups_bytes gs w
unfolding groups_bytes
groups_as v w gs h =
    chain_same (group_bytes v) (group_bytes w) gs
    (each_map (λ j. SameIn v w) (λ j g. group_bytes v g ≡ group_bytes w g)
    (λ j g e. ap (cells g.width) e) gs h)

groups-same : (gs : List Group) (low m : ℕ) (v w r s : List ℕ) → Cut low m gs
    → length v ≡ m → length w ≡ m → All (GroupFits v) gs → All (GroupFits w) gs
    → chain (group_bytes v) gs ++ r ≡ chain (group_bytes w) gs ++ s → All (SameIn v w) gs
unfolding chain Cut Each
groups-same [] low m v w r s c lv lw p q e = tt
groups-same (g ∷ gs) low m v w r s c lv lw p q e =
    let h = cut_in m gs (group_end g) c.2 in
    let n : length (group_words v g) ≡ length (group_words w g) =
    length_part g.from g.count v (omega arith)
    ∙ sym (length_part g.from g.count w (omega arith)) in
    let v' = chain (group_bytes v) gs in
    let w' = chain (group_bytes w) gs in
    let f = regroup (group_bytes v g) v' r (group_bytes w g) w' s e in
    let same : SameIn v w g =
    cells-code g.width (group_words v g) (group_words w g) (v' ++ r) (w' ++ s) n p.0 q.0 f
    in
    let rest = cancel-same (group_bytes v g) (group_bytes w g) (ap (cells g.width) same) f in
    (same, groups-same gs (group_end g) m v w r s c.2 lv lw p.1 q.1 rest)

pub groups-code : (gs : List Group) (m rest : ℕ) → Cut 0 m gs
    → Code (groups_bytes gs) (GroupedWords gs m rest)
unfolding groups_bytes
groups-code gs m rest c v w r s p q e =
    let lv = p.width in
    let lw = q.width in
    let same = groups-same gs 0 m v w r s c lv lw p.below q.below e in
    ext_get_or 0 v w (lv ∙ sym lw)
    (λ k h. same_at v w gs same k
    (λ o. p.none k (omega arith) o ∙ sym (q.none k (omega arith) o)))

-- ---- read, the first i of them

module _ (gs : List Group) (src : List ℕ) (at : ℕ) (w : List ℕ) where
  pub groups_none : (v : List ℕ) → v ≡ w → at ≤ length src
      → GroupsRead (take 0 gs) src at w v at
  unfolding groups_bytes chain Each
  groups_none v e h = record {
    width = ap length e;
    stands = stands-nil src at h;
    below = tt;
    rest = λ k o. ap (λ (l : List ℕ). get_or l k 0) e;
  }

  pub groups-all : (i : ℕ) {v : List ℕ} {p : ℕ} → length gs ≤ i
      → GroupsRead (take i gs) src at w v p → GroupsRead gs src at w v p
  groups-all i {v} {p} h g =
      subst (λ (l : List Group). GroupsRead l src at w v p) (take_all i gs h) g

  module _ (low : ℕ) (cut : Cut low (length w) gs) (i : ℕ) (h : i < length gs) where
    abbrev next : Group
    next = get_or gs i no_group

    module _ (v d : List ℕ) {p q : ℕ} (g : GroupsRead (take i gs) src at w v p)
        (n : length d ≡ next.count) (r : Read next.width src p d q) where
      abbrev now : List ℕ
      now = splice v next.from next.count d

      inside : group_end next ≤ length v
      inside = let b = (cut-at-group (length w) gs low i cut h).1 in let l = g.width in
          omega arith

      new : group_words now next ≡ d
      new = part-splice next.from next.count v d inside n

      step : take (i + 1) gs ≡ take i gs ++ (next ∷ [])
      step = rw add-one (take-suc gs i no_group h)

      kept : All (λ (x : Group). group_words now x ≡ group_words v x) (take i gs)
      kept =
          each_map (λ j (x : Group). group_end x ≤ next.from)
          (λ j x. group_words now x ≡ group_words v x)
          (λ j x l. let b = inside in
          part-below next.from next.count x.from x.count v d l (omega arith))
          (take i gs) (cut-before (length w) gs low i cut h)

      bytes : chain (group_bytes now) (take i gs) ≡ chain (group_bytes v) (take i gs)
      bytes =
          chain_same (group_bytes now) (group_bytes v) (take i gs)
          (each_map (λ j x. group_words now x ≡ group_words v x)
          (λ j x. group_bytes now x ≡ group_bytes v x)
          (λ j x e. ap (cells x.width) e) (take i gs) kept)

      fits : (l : List Group) → All (λ (x : Group). group_words now x ≡ group_words v x) l
          → All (GroupFits v) l → All (GroupFits now) l
      unfolding Each
      fits [] e f = tt
      fits (x ∷ l) e f =
          (subst (Below (256 ^ x.width)) (sym e.0) f.0, fits l e.1 f.1)

      before : (k : ℕ) → Outside (take (i + 1) gs) k → Outside (take i gs) k
      before k o =
          subst (λ (l : List Group). Outside l k) (take-take i (i + 1) gs (omega arith))
          (each_take (λ j x. x.from ≤ k → k < group_end x → ⊥) i (take (i + 1) gs) o)

      apart : (k : ℕ) → Outside (take (i + 1) gs) k → next.from ≤ k → k < group_end next → ⊥
      apart k o =
          let l = length-take-le (i + 1) gs (omega arith) in
          subst (λ (x : Group). x.from ≤ k → k < group_end x → ⊥)
          (get_or-take (i + 1) gs i no_group (omega arith))
          (each_at (λ j x. x.from ≤ k → k < group_end x → ⊥) (take (i + 1) gs) i no_group
          (omega arith) o)

      past : (k : ℕ) → (next.from ≤ k → k < group_end next → ⊥) → next.from ≤ k
          → group_end next ≤ k
      past k off low = go (leb (group_end next) k) refl
        where
          go : (t : Bool) → leb (group_end next) k ≡ t → group_end next ≤ k
          go true e = leb-true (group_end next) k e
          go false e = absurd (off low (leb-false (group_end next) k e))

      outside : (k : ℕ) → (next.from ≤ k → k < group_end next → ⊥) → get_or now k 0 ≡ get_or v k 0
      outside k off = go (ltb k next.from) refl
        where
          go : (t : Bool) → ltb k next.from ≡ t → get_or now k 0 ≡ get_or v k 0
          go true e =
              let b = inside in
              get_or-splice next.from next.count k 0 v d (ltb-true k next.from e)
              (omega arith)
          go false e =
              get_or_past next.from next.count k 0 v d
              (past k off (ltb-false k next.from e)) inside n

      -- One group more: those before it stay.
      pub groups-next : GroupsRead (take (i + 1) gs) src at w now q
      unfolding groups_bytes
      groups-next = record {
        width = length-splice next.from next.count v d inside n ∙ g.width;
        stands = stands_as
            (sym (ap (chain (group_bytes now)) step ∙ chain_snoc (group_bytes now)
            (take i gs) next))
            (stands_seq (stands_as (sym bytes) g.stands)
            (stands_as (sym (ap (cells next.width) new)) r.stands));
        below = subst (All (GroupFits now)) (sym step)
            (each_snoc (λ j. GroupFits now) (take i gs) next (fits (take i gs) kept g.below)
            (subst (Below (256 ^ next.width)) (sym new) r.below));
        rest = λ k o. outside k (apart k o) ∙ g.rest k (before k o);
      }

-- Read into words that were all `rest`, by the code's list of the groups gs.
pub groups-grouped : (gs : List Group) (m rest : ℕ) (ns : List Group) {src : List ℕ} {at : ℕ}
    {w v : List ℕ} {r : ℕ} → ns ≡ gs → w ≡ replicate m rest
    → GroupsRead ns src at w v r
    → GroupedWords gs m rest v × Stands (groups_bytes gs v) src at r
groups-grouped gs m rest ns {src} {at} {w} {v} {r} n e g' =
    let g = subst (λ (l : List Group). GroupsRead l src at w v r) n g' in (
      record {
        width = g.width ∙ ap length e ∙ length-replicate m rest;
        below = g.below;
        none = λ k h o.
            g.rest k o ∙ ap (λ (l : List ℕ). get_or l k 0) e ∙ get_or-replicate m k rest 0 h;
      },
      g.stands,
    )

-- The next group was read.
module _ (gs : List Group) (i : ℕ) (h : i < length gs) (src : List ℕ) (at : ℕ) (w : List ℕ)
    (cut : Cut 0 (length w) gs) where
  pub group-read : {v u : List ℕ} {p q : ℕ} → GroupsRead (take i gs) src at w v p
      → GroupRead (get_or gs i no_group) src p v u q → GroupsRead (take (i + 1) gs) src at w u q
  group-read {v} {u} {p} {q} g r =
      subst (λ (x : List ℕ). GroupsRead (take (i + 1) gs) src at w x q) (sym r.put)
      (groups-next gs src at w 0 cut i h v r.words g r.count r.read)

-- Behind a head v, m records ys take the place of what the row w had there.
pub headed_put : (v w : List ℕ) {tail : List ℕ} (h m : ℕ) (ys : List ℕ) → tail ≡ drop h w
    → length v ≡ h → length ys ≡ m
    → splice (v ++ tail) h (h + m - h) ys ≡ v ++ (ys ++ drop (h + length ys) w)
headed_put v w {tail} h m ys t e n =
    rw (
      add-sub_cancel_left,
      take_at v tail h e,
      drop_at v tail h e,
      t,
      drop-drop m h w,
      n,
    )
