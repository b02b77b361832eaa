-- Things that stand one after another in bytes go into rows, one after another. One family of laws
-- over what a thing's bytes are, when it is by form, when a row holds it, and how wide a row is.
use mathlib.Core.Path.{◌≡◌, refl, sym, ap, ◌∙◌, subst}
use Prim.Native.Nat.{ℕ, ◌+◌, ◌-◌, ◌*◌, ◌≤◌, ◌<◌}
use native.Mathlib.Decide.{ℕ_discrete}
use native.Mathlib.Omega.{arith}
use mathlib.Core.List.{List}
use lib.ListN.{length, take, drop, get_or}
use lib.Seq.{take_all}
use Rattle.words.specs.Rows.{part, splice}
use Rattle.words.proofs.PartLaws.{drop_past, part-splice, put-at, length_cut, length-splice}
use Rattle.words.proofs.RowLaws.{row-end, part-other}
use Rattle.cells.specs.Cells.{chain, Stands, Found, Many, Has}
use Rattle.cells.specs.Stored.{HoldsRows, StoredIs}
use Rattle.cells.proofs.ChainLaws.{chain-step, each_at}
use Rattle.cells.proofs.StandLaws.{stands-nil, stands_as, stands_seq}
use Rattle.cells.proofs.WalkLaws.{next-stands}

module _ {A : Type 0} (enc : A → List ℕ) (Good : A → Type 0) (Holds : List ℕ → A → Type 0)
    (w n : ℕ) (d : A) (src : List ℕ) (at : ℕ) (xs : List ℕ) where
  -- The first i things of l stand up to p, and are in the rows of ys.
  pub record First (i : ℕ) (ys : List ℕ) (p : ℕ) (l : List A) : Type 0 where
    pub each : (k : ℕ) → k < i → Holds (part ys (k * w) w) (get_or l k d)
    pub rest : drop (n * w) ys ≡ drop (n * w) xs
    pub stands : Stands (chain enc (take i l)) src at p

  -- The words xs have become ys: of whatever n things stand at `at` the first i are stored, and p
  -- is the place behind them.
  pub record Stored (i : ℕ) (ys : List ℕ) (p : ℕ) : Type 0 where
    pub few : i ≤ n
    pub size : length ys ≡ length xs
    pub room : n * w ≤ length ys
    pub first : (q : ℕ) (f : Found (chain enc) (Many (λ i. Good) n) src at q)
        → First i ys p f.thing

module _ {A : Type 0} {enc : A → List ℕ} {Good : A → Type 0} {Holds : List ℕ → A → Type 0}
    {w n : ℕ} {d : A} {src : List ℕ} {at : ℕ} {xs : List ℕ} where
  -- Before the first.
  pub stored-none : n * w ≤ length xs → Stored enc Good Holds w n d src at xs 0 xs at
  unfolding chain
  stored-none room = record {
    few = omega arith;
    size = refl;
    room = room;
    first = λ q f.
        let next = f.stands.next in
        let end = f.stands.room in
        record {
          each = λ k h. absurd (omega arith);
          rest = refl;
          stands = stands-nil src at (omega arith);
        };
  }

  module _ {i p : ℕ} {ys : List ℕ} (s : Stored enc Good Holds w n d src at xs i ys p)
      (h : i < n) where
    -- The next thing stands at p.
    abbrev next-found : {q : ℕ} (f : Found (chain enc) (Many (λ i. Good) n) src at q)
        → Found enc Good src p (p + length (enc (get_or f.thing i d)))
    next-found {q} f =
        let count = f.good.count in
        let within : i < length f.thing = omega arith in
        record {
          thing = get_or f.thing i d;
          good = each_at (λ i. Good) f.thing i d within f.good.each;
          stands = next-stands enc f.thing i d within f.stands (s.first q f).stands;
        }

    pub next-has : Has (chain enc) (Many (λ i. Good) n) src at → Has enc Good src p
    next-has x = record {
      place = p + length (enc (get_or x.found.thing i d));
      found = next-found x.found;
    }

    -- Row i, as the code cuts it out from a to a + w, and then is put back.
    module _ {a : ℕ} (start : a ≡ i * w) where
      pub row-wide : length (take (a + w - a) (drop a ys)) ≡ w
      row-wide = let room = s.room in length_cut a w ys (omega (arith, row-end w h))

      module _ (zs : List ℕ) (long : length zs ≡ length (take (a + w - a) (drop a ys))) where
        wide : length zs ≡ w
        wide = long ∙ row-wide

        -- One row more holds its thing.
        row_more : (l : List A) → ((k : ℕ) → k < i → Holds (part ys (k * w) w) (get_or l k d))
            → Holds zs (get_or l i d) → (k : ℕ) → k < i + 1
            → Holds (part (splice ys (i * w) w zs) (k * w) w) (get_or l k d)
        row_more l all here k m = go (ℕ_discrete k i)
          where
            fits : i * w + w ≤ length ys
            fits = let room = s.room in omega (arith, row-end w h)

            go : Dec (k ≡ i) → Holds (part (splice ys (i * w) w zs) (k * w) w) (get_or l k d)
            go (yes q) = rw (q, part-splice (i * w) w ys zs fits wide) here
            go (no ne) =
                rw (part-other w n i k ys zs h (omega (arith, h, m)) ne s.room wide)
                (all k (omega (arith, m, ne)))

        pub stored_next : {r : ℕ} → StoredIs enc Good src p (Holds zs) r
            → Stored enc Good Holds w n d src at xs (i + 1) (splice ys a (a + w - a) zs) r
        stored_next {r} got =
            subst (λ (t : List ℕ). Stored enc Good Holds w n d src at xs (i + 1) t r)
            (sym (put-at ys zs start refl))
            (record {
              few = omega (arith, h);
              size = same ∙ s.size;
              room = omega (arith, same, s.room);
              first = λ q f.
                  let v = s.first q f in
                  let l = f.thing in
                  let g = next-found f in
                  let z = got (p + length (enc (get_or l i d))) g in
                  let count = f.good.count in
                  record {
                    each = row_more l v.each z.0;
                    rest = drop_past (i * w) w (n * w) ys zs (row-end w h) fits wide ∙ v.rest;
                    stands = subst (λ (m : ℕ). Stands (chain enc (take (i + 1) l)) src at m)
                        (sym z.1)
                        (stands_as (sym (chain-step enc l i d (omega (arith, h))))
                        (stands_seq v.stands g.stands));
                  };
            })
          where
            fits : i * w + w ≤ length ys
            fits = let room = s.room in omega (arith, row-end w h)

            same : length (splice ys (i * w) w zs) ≡ length ys
            same = length-splice (i * w) w ys zs fits wide

  -- After the last; v is the width as the contract has it.
  pub stored-all : {v i p : ℕ} {ys : List ℕ} → w ≡ v
      → Stored enc Good Holds w n d src at xs i ys p → n ≤ i
      → StoredIs (chain enc) (Many (λ i. Good) n) src at (HoldsRows Holds v n d xs ys) p
  stored-all {v} {i} {p} {ys} e s h q f =
      let t = s.first q f in
      let few = s.few in
      let count = f.good.count in
      let all = take_all i f.thing (omega arith) in (
        subst (λ (v : ℕ). HoldsRows Holds v n d xs ys f.thing) e
            (record { each = λ k m. t.each k (omega arith); rest = t.rest }),
        t.stands.next ∙ ap (λ (l : List A). at + length (chain enc l)) all
            ∙ sym f.stands.next,
      )
