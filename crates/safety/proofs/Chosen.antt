-- The best unagreed record as answers come in.
use Prim.Native.Nat.{ℕ, suc, ◌+◌, ◌≤◌, ◌<◌}
use mathlib.Core.Path.{◌≡◌, refl}
use mathlib.Core.Bool.{true, false, ◌&&◌}
use mathlib.Core.List.{List}
use native.Mathlib.Omega.{arith}
use lib.Dec.{leb}
use lib.ListN.{length, get_or}
use borrow.Author.Tests.{leb-true, leb-false, le-leb}
use Rattle.std.specs.Prelude.{Option}
use Rattle.rules.specs.Parts.{span, cleared}
use Rattle.rules.specs.Last.{improves, bettered}
use Rattle.rules.specs.Box.{held_at, record_at}
use Rattle.laws.proofs.Types.{Best, Mail}
use Rattle.laws.proofs.Logic.{Or, left, right, decide, both-no, and_yes, pick_elim}
use Rattle.laws.proofs.View.{held_elim}
use Rattle.safety.proofs.Inv.{Agreement}

module _ (g : Agreement) where
  -- the clauses of `Hearing` on the best t of a leader whose last is `last`
  pub record BestOk (last : ℕ) (t : Best) : Type 0 where
    pub same : (k : ℕ) → suc k ≡ t.number → suc k ≡ length g.records → g.pn ≤ t.pn
        → t.value ≡ get_or g.records k 0
    pub old : t.number < length g.records → t.pn ≤ g.pn
    pub limit : t.number ≤ suc last

  pub record Found (t : Best) : Type 0 where
    pub number : t.number ≡ length g.records
    pub pn : g.pn ≤ t.pn

  -- ---- the best is cleared

  pub best-cleared : (last last' : ℕ) (t : Best) → BestOk last t → last ≤ last'
      → BestOk last' (cleared last' t)
  unfolding cleared
  best-cleared last last' t k le =
      pick_elim (BestOk last') (leb t.number last')
      (λ e. record {
        same = λ j f. absurd (omega arith);
        old = λ f. omega arith;
        limit = omega arith;
      })
      (λ e. record { same = k.same; old = k.old; limit = omega (arith, k.limit) })

  pub found-cleared : (last' : ℕ) (t : Best) → last' < length g.records → Found t
      → Found (cleared last' t)
  unfolding cleared
  found-cleared last' t l f =
      pick_elim Found (leb t.number last')
      (λ e. absurd (omega (arith, leb-true t.number last' e, f.number)))
      (λ e. f)

  -- ---- an answer m with the records rs; the leader's last was `last`, and is `last'` now

  module _ (last last' : ℕ) (t : Best) (k : BestOk last t) (le : last ≤ last')
      (m : Mail) (rs : List ℕ) (ll : m.last ≤ last') where
    -- the place of the answer's last+1
    abbrev next : ℕ
    next = span m.first m.last

    improved : improves last' t m ≡ true
        → (last' ≤ m.last) × (t.number ≤ m.last + 1) × (t.pn ≤ m.unagreed)
    unfolding improves
    improved e =
        let last = leb last' m.last in
        let number = leb t.number (m.last + 1) in
        let f = and_yes (last && number) (leb t.pn m.unagreed) e in
        let h = and_yes last number f.0 in
        (leb-true _ _ h.0, leb-true _ _ h.1, leb-true _ _ f.1)

    pub best-chosen :
        (suc m.last ≡ length g.records → next < length rs → g.pn ≤ m.unagreed
        → record_at m.first rs (m.last + 1) ≡ get_or g.records m.last 0)
        → (suc m.last < length g.records → next < length rs → m.unagreed ≤ g.pn)
        → BestOk last' (bettered last' t m (held_at rs next))
    unfolding bettered
    best-chosen is_same is-old =
        held_elim (λ (h : Option ℕ). BestOk last' (bettered last' t m h)) rs next
        (λ n. pick_elim (BestOk last') (improves last' t m)
        (λ e. record {
          same = λ j f h i. let jl : j ≡ m.last = omega arith in
              rw jl (is_same (omega (arith, f, h)) n i);
          old = λ f. is-old (omega arith) n;
          limit = omega (arith, (improved e).0);
        })
        (λ e. best-cleared last last' t k le))
        (λ n. best-cleared last last' t k le)

    -- the best so far is the agreed record, or the answer holds it
    pub found-chosen : last' < length g.records
        → Or (Found t)
        ((suc m.last ≡ length g.records) × (next < length rs) × (g.pn ≤ m.unagreed))
        → Found (bettered last' t m (held_at rs next))
    unfolding bettered improves
    found-chosen lt (left f) =
        held_elim (λ (h : Option ℕ). Found (bettered last' t m h)) rs next
        (λ n. pick_elim Found (improves last' t m)
        (λ e. let h = improved e in record {
          number = omega (arith, h.1, f.number, ll, lt);
          pn = omega (arith, h.2, f.pn);
        })
        (λ e. found-cleared last' t lt f))
        (λ n. found-cleared last' t lt f)
    found-chosen lt (right v) =
        held_elim (λ (h : Option ℕ). Found (bettered last' t m h)) rs next
        (λ n. pick_elim Found (improves last' t m)
        (λ e. record { number = omega (arith, v.0); pn = v.2 })
        (λ e. found-cleared last' t lt (higher e (decide (leb t.pn m.unagreed)))))
        (λ n. absurd (omega (arith, v.1)))
      where
        at : last' ≡ m.last
        at = omega (arith, v.0, ll, lt)

        small : t.number ≤ m.last + 1
        small = omega (arith, k.limit, at, le)

        -- a best that is not bettered has a higher pn, so by `old` it is of the agreed number
        higher : improves last' t m ≡ false
            → Or (leb t.pn m.unagreed ≡ true) (leb t.pn m.unagreed ≡ false) → Found t
        higher e (left f) = absurd (both-no improves_so e)
          where
            improves_so : improves last' t m ≡ true
            improves_so =
                let last = le-leb last' m.last (omega (arith, at)) in
                let number = le-leb t.number (m.last + 1) small in
                rw (last, number, f) refl
        higher e (right f) = let gt : m.unagreed < t.pn = leb-false t.pn m.unagreed f in
            record {
              number = big (decide (leb (length g.records) t.number));
              pn = omega (arith, v.2);
            }
          where
            big : Or (leb (length g.records) t.number ≡ true)
                (leb (length g.records) t.number ≡ false)
                → t.number ≡ length g.records
            big (left j) = omega (arith, leb-true (length g.records) t.number j, small, v.0)
            big (right j) = let h = k.old (leb-false (length g.records) t.number j) in
                absurd (omega (arith, h, leb-false t.pn m.unagreed f, v.2))
