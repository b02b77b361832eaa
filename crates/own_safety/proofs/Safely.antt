-- Demand 3 of what boards in words said, and that there are such.
use Prim.Native.Nat.{ℕ, ◌≤◌}
use mathlib.Core.Path.{◌≡◌, refl, ap, ◌∙◌, subst}
use mathlib.Core.Bool.{true}
use mathlib.Core.List.{List, [], ◌∷◌, ◌++◌}
use native.Mathlib.Omega.{arith}
use lib.ListN.{length}
use Rattle.rules.specs.Sizes.{sizes_form}
use Rattle.rules.specs.Box.{Box}
use Rattle.rules.specs.Site.{Site}
use Rattle.rules.specs.Step.{run, holds}
use Rattle.rules.specs.Every.{all}
use Rattle.laws.specs.Frames.{CallFits}
use Rattle.laws.proofs.Types.{Answer, Call}
use Rattle.laws.proofs.Logic.{In, all-each}
use Rattle.own.specs.Entry.{place_reads}
use Rattle.safety.specs.Demand3.{start}
use Rattle.said.specs.Said.{Talk, called, held, calls, At, latest, before, TrueAt}
use Rattle.said.specs.Spoken.{Safe}
use Rattle.said.proofs.Spoke.{spoken-safely}
use Rattle.said.proofs.ByNumbers.{safe_by_numbers}
use Rattle.said.proofs.Example.{load, computed}
use Rattle.alone.specs.Yard.{Alone, Lived}
use Rattle.alone.proofs.Keeps.{demand_3_alone}
use Rattle.alone.specs.Alone.{AllFit}
use Rattle.own_safety.specs.Boards.{Boards, asks}
use Rattle.own_safety.specs.Worked.{Worked, began, did, told, waits, asked, box_in, firsts_in}
use Rattle.own_safety.specs.Worked.{Reads}
use Rattle.own_safety.specs.Worked.{WorkedSafely}
use Rattle.own_safety.proofs.Read.{yard_of, box-at}
use Rattle.own_safety.proofs.Alike.{alike}
use Rattle.own_safety.proofs.Goes.{Readable}
use Rattle.own_safety.proofs.Stand.{Holds, worked, keeps, asks-same, row_is, firsts_same}
use Rattle.own_safety.proofs.Lives.{alive}

-- only boxes are asked
asked-box : {n J L : ℕ} {h : Talk} {y : Boards} {i b k l r : ℕ} {a : Answer} → Worked n J L h y
    → At h i (held b k l r a) → In b n
asked-box {n = n} {L = L} {i = i} {b = b} {k = k} {l = l} {r = r} {a = a} (began words rows _ _) q =
    elim q [ ]
asked-box (did w happens) (before q) = asked-box w q
asked-box (told b r w tells) q = asked-box w q
asked-box (waits b e w i old t) q = asked-box old q
asked-box (asked b k l r i w) latest = i
asked-box (asked b k l r i w) (before q) = asked-box w q

calls_append : (more h : Talk) → calls (more ++ h) ≡ calls more ++ calls h
calls_append [] h = refl
calls_append (called d a ∷ more) h = ap (λ (ds : List Call). d ∷ ds) (calls_append more h)
calls_append (held b k l r a ∷ more) h = calls_append more h

module _ {n J L : ℕ} {h : Talk} {y z : Boards} (more : Talk) (w : Holds n J L h y)
    (v : Holds n J L (more ++ h) z) (b : ℕ) (i : In b n) where
  abbrev Up : Box → Box → Type 0
  Up x x' =
      (x.head.kept.first ≤ x'.head.kept.first) × (x.head.kept.last ≤ x'.head.kept.last)

  never-falls : Up (box_in y b) (box_in z b)
  never-falls =
      subst (λ (x : Box). Up x (box_in z b)) (row_is w b i)
      (subst (Up ((yard_of y).box b).row) (row_is v b i)
      ((keeps w).never-falls (calls more) w.lived
      (subst (λ (ds : List Call). Lived n J L ds (yard_of z)) (calls_append more h) v.lived) b i))

reads_as : (y : Boards) → Readable y → Reads y (yard_of y)
reads_as y can = record {
  rows-read = can.rows;
  letters-read = λ a b. all-each (place_reads y.J) (y.link a b) (can.letters a b);
  sizes = (refl, refl, refl);
  epoch = refl;
  present = refl;
  leader = refl;
  rows = λ b i. ap (λ (x : Alone). x.row) (box-at y b i);
  told = λ b i. (
    ap (λ (x : Alone). x.epoch) (box-at y b i),
    ap (λ (x : Alone). x.present) (box-at y b i),
  );
  links = λ a b. refl;
}

-- ---- a load that two boxes hold

offer-fits : CallFits (Call.Offer 1 71 72)
offer-fits = (omega arith, omega arith)

load_fits : AllFit load
load_fits = (tt, (tt, (tt, (tt, (tt, (offer-fits, (tt, (tt, (tt, (tt, (tt, (tt, (tt, tt)))))))))))))

two : sizes_form 2 16 8 ≡ true
unfolding sizes_form all
two = refl

said_so : {h : Talk} {b k l r : ℕ} {a : Answer} → a ≡ Answer.Done
    → TrueAt Answer.Done (held b k l r a ∷ h) (length h) b k l r
said_so {h} {b} {k} {l} {r} {a} e =
    subst (At (held b k l r a ∷ h) (length h)) (λ t. held b k l r (e t)) latest

a-load : (h : Talk) × (y : Boards) × Worked 2 16 8 h y
    × (i : ℕ) × TrueAt Answer.Done h i 1 1 71 72 × (j : ℕ) × TrueAt Answer.Done h j 2 1 71 72
a-load =
    let k = (demand_3_alone.keeps 2 16 8 two).lives load load_fits in
    let z = alive 2 16 8 two k.lived in
    let at = ap (run (start 2 16 8)) z.is ∙ k.same in
    let one = asks-same (worked z.worked) 1 (omega arith, omega arith) 1 71 72
    ∙ ap (λ (s : Site). holds s 1 1 71 72) at ∙ computed.one in
    let both = asks-same (worked z.worked) 2 (omega arith, omega arith) 1 71 72
    ∙ ap (λ (s : Site). holds s 2 1 71 72) at ∙ computed.two in (
      _,
      z.boards,
      asked 2 1 71 72 (omega arith, omega arith)
          (asked 1 1 71 72 (omega arith, omega arith) z.worked),
      _,
      before (said_so one),
      _,
      said_so both,
    )

safely : {n J L : ℕ} {h : Talk} {y : Boards} → Worked n J L h y → Safe h (asks y) (firsts_in y)
safely w =
    alike (λ i b k l r q. asks-same (worked w) b (asked-box w q))
    (λ i b k l r q. firsts_same (worked w) b (asked-box w q))
    (spoken-safely.demand_3 (worked w).said)

pub worked-safely : WorkedSafely
worked-safely = record {
  demand_3 = safely;
  by-numbers = λ w. safe_by_numbers.demand_3 (safely w);
  spoken = λ w. (worked w).said;
  reads = λ {y = y} w. (yard_of y, (worked w).lived, reads_as y (worked w).readable);
  lives = λ {n = n} {J = J} {L = L} sizes l.
      let k = alive n J L sizes l in
      let reads = reads_as k.boards (worked k.worked).readable in
      (k.talk, k.boards, k.worked, k.is, subst (Reads k.boards) k.same reads);
  not-empty = a-load;
  never-falls = λ more w v. never-falls more (worked w) (worked v);
}
