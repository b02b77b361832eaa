-- A box's clauses (`BoxOk`) as its store changes: a higher promise, numbers dropped, a record
-- stored at last+1, records taken.
use Prim.Native.Nat.{ℕ, suc, ◌+◌, ◌≤◌, ◌<◌, max}
use mathlib.Core.Path.{◌≡◌, sym, ap, ◌∙◌}
use mathlib.Core.Bool.{Bool}
use mathlib.Core.List.{List}
use native.Mathlib.Omega.{arith}
use lib.ListN.{length, get_or, take}
use Rattle.rules.specs.Parts.{span}
use Rattle.laws.proofs.Logic.{Or, left, right, below?}
use Rattle.laws.proofs.View.{Store, at, Spans, at-taken, promised, trimmed, stored, took, Raises}
use Rattle.laws.proofs.View.{trimmed-at, trimmed-shaped, trimmed-held, trimmed-holds, stored_at}
use Rattle.laws.proofs.View.{stored_next, stored-shaped, stored-held, took-first, took-last}
use Rattle.laws.proofs.View.{took-old, took-new, took-shaped, took-same, took-holds, took-held}
use Rattle.safety.proofs.Inv.{Agreement, Agrees, BoxOk}

-- a Commit's records
pub agrees-take : (g : Agreement) (F L : ℕ) (rs : List ℕ) → Agrees g F L rs
    → Agrees g F L (take (span F L) rs)
agrees-take g F L rs h k i j = at-taken F L rs (suc k) i j ∙ h k i j

module _ {g : Agreement} {part : Bool} (a : Store) (h : BoxOk g part a) where
  pub box-promised : (q : ℕ) → a.pn ≤ q → BoxOk g part (promised q a)
  box-promised q le = record {
    low = h.low;
    agreed = h.agreed;
    shaped = h.shaped;
    kept = h.kept;
    number = h.number;
    promise = λ m. omega (arith, h.promise m, le);
    vote = h.vote;
    same = h.same;
    old = h.old;
  }

  -- ---- first is raised to f

  module _ {d f : ℕ} (up : Raises a d f) (kept : f ≤ max 1 a.last) where
    pub box-trimmed : BoxOk g part (trimmed d f a)
    box-trimmed = record {
      low = h.low;
      agreed = λ k i j.
          trimmed-at a h.shaped up (suc k) i ∙ h.agreed k (omega (arith, up.by, i)) j;
      shaped = trimmed-shaped a h.shaped up;
      kept = kept;
      number = λ l. h.number (trimmed-held a h.shaped up l);
      promise = h.promise;
      vote = λ m l. let v = h.vote m l in (v.0, trimmed-holds a h.shaped up v.1, v.2);
      same = λ m l u.
          trimmed-at a h.shaped up (a.last + 1) up.top
          ∙ h.same m (trimmed-held a h.shaped up l) u;
      old = λ m l. h.old m (trimmed-held a h.shaped up l);
    }

    -- r is stored under the own pn, where nothing beyond is agreed, and the agreed record where
    -- this one is
    pub box-stored : (q r : ℕ) → q ≡ a.pn → length g.records ≤ suc a.last
        → (suc a.last ≡ length g.records → r ≡ get_or g.records a.last 0)
        → BoxOk g part (stored d f q r a)
    box-stored q r e top is = record {
      low = h.low;
      agreed = λ k i j.
          stored_at a h.shaped up q r (suc k) i j ∙ h.agreed k (omega (arith, up.by, i)) j;
      shaped = stored-shaped a h.shaped up q r;
      kept = kept;
      number = λ l. omega arith;
      promise = h.promise;
      vote = λ m l. (
        omega (arith, l, top),
        stored-held a h.shaped up q r,
        omega (arith, h.promise m, e),
      );
      same = λ m l u. stored_next a h.shaped up q r ∙ is m;
      old = λ l. absurd (omega (arith, l, top));
    }

  -- ---- agreed records from F to L are taken

  module _ (F L : ℕ) (ms : List ℕ) (sent : Spans F L ms) where
    abbrev t : Store
    t = took F L ms a

    last : t.last ≡ max a.last L
    last = took-last F L ms a h.shaped

    first : t.first ≡ max a.first F
    first = took-first F L ms a h.shaped

    pub box-took : F ≤ max 1 L → L ≤ length g.records → Agrees g F L ms
        → BoxOk g part (took F L ms a)
    box-took kept low agreed = record {
      low = omega (arith, last, h.low, low);
      agreed = λ k i j. own_or_sent k i j (below? a.last (suc k));
      shaped = took-shaped F L ms a h.shaped sent;
      kept = omega (arith, first, last, h.kept, kept);
      number = λ l. let w = took-held F L ms a h.shaped sent l in
          omega (arith, last, w.0, h.number w.1);
      promise = h.promise;
      vote = λ m l.
          let v = h.vote m (omega (arith, last, l)) in
          let none : L ≤ a.last = omega (arith, last, l, v.0) in (
            omega (arith, last, none, v.0),
            took-holds F L ms a h.shaped sent none v.1,
            v.2,
          );
      same = λ m l u.
          let w = took-held F L ms a h.shaped sent l in
          let e : t.last ≡ a.last = omega (arith, last, w.0) in
          took-same F L ms a h.shaped sent w.0 (t.last + 1)
          (omega (arith, first, last, h.kept, kept))
          ∙ ap (λ (l : ℕ). at a (l + 1)) e
          ∙ h.same (omega (arith, m, e)) w.1 u
          ∙ sym (ap (λ (l : ℕ). get_or g.records l 0) e);
      old = λ m l. let w = took-held F L ms a h.shaped sent l in
          h.old (omega (arith, last, m, w.0)) w.1;
    }
      where
        own_or_sent : (k : ℕ) → t.first ≤ suc k → suc k ≤ t.last
            → Or (a.last < suc k) (suc k ≤ a.last) → at t (suc k) ≡ get_or g.records k 0
        own_or_sent k i j (left e) =
            let l : suc k ≤ L = omega (arith, last, j, e) in
            took-new F L ms a h.shaped sent (suc k) i e l ∙ agreed k (omega (arith, first, i)) l
        own_or_sent k i j (right e) =
            took-old F L ms a h.shaped (suc k) i e ∙ h.agreed k (omega (arith, first, i)) e
