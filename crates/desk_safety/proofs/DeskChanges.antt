-- Both sides after a call at the desk.
use Prim.Native.Nat.{ℕ, ◌≤◌}
use mathlib.Core.Path.{◌≡◌, refl, sym, ap, subst, ◌∙◌}
use mathlib.Core.Bool.{true, false, not}
use mathlib.Core.List.{List}
use native.Mathlib.Omega.{arith}
use lib.Dec.{ltb, eqb}
use lib.ListN.{length, set, length-set}
use borrow.Author.Tests.{ltb-false, not-false}
use Rattle.rules.specs.Pick.{pick-false}
use Rattle.rules.specs.Sizes.{record_of}
use Rattle.laws.proofs.Logic.{Or, left, right, pick_elim}
use Rattle.words.specs.Rows.{splice}
use Rattle.words.proofs.PartLaws.{part-splice, part-above, part-below, splice-same, length-splice}
use Rattle.desk.specs.Sides.{place_of, stands, without, Outcome, SideIs, give_in, withdraw_from}
use Rattle.desk.specs.Desk.{side_at, side_of, on_side, given, withdrawn, leaves}
use Rattle.desk.specs.declared.answers.Side.{Side}
use Rattle.std.specs.Prelude.{⊤, Result, Ok, Err}
use Rattle.desk.specs.declared.answers.Why.{Why}
use Rattle.desk.proofs.SideLaws.{length_without}
use Rattle.desk.proofs.DeskLaws.{length-side}

abbrev pub other : Side → Side
other Side.Left = Side.Right
other Side.Right = Side.Left

pub which : (s r : Side) → Or (s ≡ r) (s ≡ other r)
which Side.Left Side.Left = left refl
which Side.Left Side.Right = right refl
which Side.Right Side.Left = right refl
which Side.Right Side.Right = left refl

pub not-other : (s : Side) → other s ≡ s → ⊥
not-other Side.Left e = let z : ◌≡◌ {A = ℕ} 0 1 = cc in omega arith
not-other Side.Right e = let z : ◌≡◌ {A = ℕ} 0 1 = cc in omega arith

-- ---- a side is replaced

module _ (ws v : List ℕ) (h : 64 ≤ length ws) (e : length v ≡ 32) where
  pub side_same : (s : Side) → side_of s (splice ws (side_at s) 32 v) ≡ v
  side_same Side.Left = part-splice 0 32 ws v (omega arith) e
  side_same Side.Right = part-splice 32 32 ws v (omega arith) e

  pub side-other : (s : Side) → side_of (other s) (splice ws (side_at s) 32 v)
      ≡ side_of (other s) ws
  side-other Side.Left = part-above 0 32 32 32 ws v (omega arith) (omega arith) e
  side-other Side.Right = part-below 32 32 0 32 ws v (omega arith) (omega arith)

  pub long : (s : Side) → 64 ≤ length (splice ws (side_at s) 32 v)
  long Side.Left = omega (arith, length-splice 0 32 ws v (omega arith) e)
  long Side.Right = omega (arith, length-splice 32 32 ws v (omega arith) e)

-- ---- giving in

pub data GaveCase (s : Side) (f t : ℕ) (ws ws' : List ℕ) : Result ⊤ Why → Type 0 where
  refused : {why : Why} → ws' ≡ ws → GaveCase s f t ws ws' (Err why)
  done : 64 ≤ length ws → stands f (side_of s ws) ≡ false → stands 0 (side_of s ws) ≡ true
      → side_of s ws' ≡ set (side_of s ws) (place_of 0 (side_of s ws)) (record_of f t)
      → side_of (other s) ws' ≡ side_of (other s) ws → GaveCase s f t ws ws' (Ok tt)

module _ (s : Side) (f t : ℕ) (ws ws' : List ℕ) (r : Result ⊤ Why) where
  abbrev From : Outcome → Type 0
  From o = SideIs o ws' r → GaveCase s f t ws ws' r

  abbrev OnSide : Outcome → Type 0
  OnSide o = From (record { answer = o.answer; next = splice ws (side_at s) 32 o.next })

  still : (why : Why) → SideIs (record { answer = Err why; next = ws }) ws' r
      → GaveCase s f t ws ws' r
  still why i = subst (GaveCase s f t ws ws') (sym i.answer) (refused i.words)

  on-still : (why : Why)
      → SideIs (record {
        answer = Err why;
        next = splice ws (side_at s) 32 (side_of s ws);
      }) ws' r → GaveCase s f t ws ws' r
  on-still why i =
      subst (GaveCase s f t ws ws') (sym i.answer)
      (refused (i.words ∙ splice-same (side_at s) 32 ws))

  pub gave-case : SideIs (given s f t ws) ws' r → GaveCase s f t ws ws' r
  unfolding given give_in
  gave-case =
      pick_elim From (ltb (length ws) 64) (λ y. still Why.Words)
      (λ y. pick_elim From (eqb f 0) (λ z. still Why.Frame)
      (λ z. pick_elim OnSide (stands f (side_of s ws)) (λ a. on-still Why.Waits)
      (λ a. pick_elim OnSide (not (stands 0 (side_of s ws))) (λ b. on-still Why.Full)
      (λ b i. made (ltb-false _ _ y) a (not-false _ b) i))))
    where
      made : 64 ≤ length ws → stands f (side_of s ws) ≡ false → stands 0 (side_of s ws) ≡ true
          → SideIs (record {
            answer = Ok tt;
            next = splice ws (side_at s) 32
                (set (side_of s ws) (place_of 0 (side_of s ws)) (record_of f t));
          }) ws' r → GaveCase s f t ws ws' r
      made h a b i =
          let v = set (side_of s ws) (place_of 0 (side_of s ws)) (record_of f t) in
          let e : length v ≡ 32 =
          length-set (side_of s ws) (place_of 0 (side_of s ws)) (record_of f t)
          ∙ length-side s ws h in
          subst (GaveCase s f t ws ws') (sym i.answer)
          (done h a b (ap (side_of s) i.words ∙ side_same ws v h e s)
          (ap (side_of (other s)) i.words ∙ side-other ws v h e s))

-- ---- withdrawing

pub data WithdrewCase (s : Side) (f : ℕ) (ws ws' : List ℕ) : Result ⊤ Why → Type 0 where
  refused_too : {why : Why} → ws' ≡ ws → WithdrewCase s f ws ws' (Err why)
  gone : side_of s ws' ≡ without f (side_of s ws) → side_of (other s) ws' ≡ side_of (other s) ws
      → WithdrewCase s f ws ws' (Ok tt)

module _ (s : Side) (f : ℕ) (ws ws' : List ℕ) (r : Result ⊤ Why) where
  abbrev Out : Outcome → Type 0
  Out o = SideIs o ws' r → WithdrewCase s f ws ws' r

  pub withdrew-case : SideIs (withdrawn s f ws) ws' r → WithdrewCase s f ws ws' r
  unfolding withdrawn withdraw_from
  withdrew-case =
      pick_elim Out (ltb (length ws) 64) (λ y i. stay i.answer i.words)
      (λ y. pick_elim Out (eqb f 0) (λ z i. stay i.answer i.words)
      (λ z. pick_elim
      (λ (o : Outcome).
      Out (record { answer = o.answer; next = splice ws (side_at s) 32 o.next }))
      (not (stands f (side_of s ws)))
      (λ a i. stay i.answer (i.words ∙ splice-same (side_at s) 32 ws))
      (λ a i. made (ltb-false _ _ y) i.answer i.words)))
    where
      stay : {why : Why} → r ≡ Err why → ws' ≡ ws → WithdrewCase s f ws ws' r
      stay q w = subst (WithdrewCase s f ws ws') (sym q) (refused_too w)

      made : 64 ≤ length ws → r ≡ Ok tt
          → ws' ≡ splice ws (side_at s) 32 (without f (side_of s ws)) → WithdrewCase s f ws ws' r
      made h q w =
          let v = without f (side_of s ws) in
          let e : length v ≡ 32 = length_without f (side_of s ws) ∙ length-side s ws h in
          subst (WithdrewCase s f ws ws') (sym q)
          (gone (ap (side_of s) w ∙ side_same ws v h e s)
          (ap (side_of (other s)) w ∙ side-other ws v h e s))

-- ---- a pair leaves

withdraw_is : (f : ℕ) (v : List ℕ) → stands f v ≡ true → (withdraw_from f v).next ≡ without f v
unfolding withdraw_from
withdraw_is f v e = ap (λ (o : Outcome). o.next) (pick-false _ _ _ (ap not e))

module _ (f g : ℕ) (ws : List ℕ) (h : 64 ≤ length ws)
    (l : stands f (side_of Side.Left ws) ≡ true) (r : stands g (side_of Side.Right ws) ≡ true) where
  abbrev half : List ℕ
  half = splice ws 0 32 (without f (side_of Side.Left ws))

  short : length (without f (side_of Side.Left ws)) ≡ 32
  short = length_without f (side_of Side.Left ws) ∙ length-side Side.Left ws h

  right-half : side_of Side.Right half ≡ side_of Side.Right ws
  right-half = side-other ws (without f (side_of Side.Left ws)) h short Side.Left

  leaves_as : leaves f g ws ≡ splice half 32 32 (without g (side_of Side.Right ws))
  unfolding leaves
  leaves_as =
      let a : (on_side Side.Left (withdraw_from f) ws).next ≡ half =
      ap (splice ws 0 32) (withdraw_is f (side_of Side.Left ws) l) in
      let b : (withdraw_from g (side_of Side.Right half)).next ≡ without g (side_of Side.Right ws) =
      ap (λ v. (withdraw_from g v).next) right-half ∙ withdraw_is g (side_of Side.Right ws) r in
      ap (λ u. (on_side Side.Right (withdraw_from g) u).next) a ∙ ap (splice half 32 32) b

  short-right : length (without g (side_of Side.Right ws)) ≡ 32
  short-right = length_without g (side_of Side.Right ws) ∙ length-side Side.Right ws h

  pub left-leaves : side_of Side.Left (leaves f g ws) ≡ without f (side_of Side.Left ws)
  left-leaves =
      ap (side_of Side.Left) leaves_as
      ∙ side-other half (without g (side_of Side.Right ws))
      (long ws (without f (side_of Side.Left ws)) h short Side.Left) short-right Side.Right
      ∙ side_same ws (without f (side_of Side.Left ws)) h short Side.Left

  pub right-leaves : side_of Side.Right (leaves f g ws) ≡ without g (side_of Side.Right ws)
  right-leaves =
      ap (side_of Side.Right) leaves_as
      ∙ side_same half (without g (side_of Side.Right ws))
      (long ws (without f (side_of Side.Left ws)) h short Side.Left) short-right Side.Right
