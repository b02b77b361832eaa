-- Boards in words stand for a yard that was lived in the model, and a site answers as they did.
use Prim.Native.Nat.{ℕ}
use mathlib.Core.Path.{◌≡◌, refl, sym, ap, ◌∙◌, subst, fun_ext}
use mathlib.Core.Bool.{Bool, true, false, cond}
use mathlib.Core.List.{List, [], ◌∷◌}
use native.Mathlib.Omega.{arith}
use Rattle.rules.specs.Sizes.{sizes_form}
use Rattle.rules.specs.Sets.{full_set}
use Rattle.rules.specs.Box.{Box}
use Rattle.rules.specs.Own.{own_holds}
use Rattle.rules.specs.Site.{Site, fresh_box, is_box}
use Rattle.rules.specs.Step.{run, holds}
use Rattle.laws.proofs.Types.{Answer}
use Rattle.laws.proofs.Logic.{In, nil}
use Rattle.laws.proofs.FormLaws.{is-box}
use Rattle.row.specs.Row.{box_of}
use Rattle.own.specs.Entry as entry
use Rattle.own.specs.Entry.{row_of, fresh_on}
use Rattle.safety.specs.Demand3.{start}
use Rattle.said.specs.Said.{Talk, called, held, calls}
use Rattle.said.specs.Spoken.{Spoken, firsts}
use Rattle.said.specs.Spoken as spoken
use Rattle.alone.specs.Yard.{Alone, Lived}
use Rattle.alone.specs.Yard as yard
use Rattle.alone.specs.Alone.{AloneKeeps}
use Rattle.alone.proofs.Mirror.{same-n}
use Rattle.alone.proofs.Keeps.{demand_3_alone}
use Rattle.alone.specs.Apart.{begun_with, known, knowing}
use Rattle.own_safety.specs.Boards.{Boards, asks}
use Rattle.own_safety.specs.Worked.{Worked, began, did, told, waits, asked, box_in, firsts_in}
use Rattle.own_safety.proofs.EntryLaws.{holds-on, fresh-on}
use Rattle.own_safety.proofs.Read.{nobody, yard_of, box-at}
use Rattle.own_safety.proofs.Goes.{Readable, goes, tells_as, told_same, told-readable}
use Rattle.own_safety.proofs.Goes.{waits_as, waits-same, waits-readable}

-- ---- from the beginning

module _ (n J L : ℕ) (words rows : ℕ → List ℕ)
    (made : (b : ℕ) → In b n
    → entry.Told n J (fresh_on n J L (words b)) (words b) (rows b) Answer.Done) where
  begins : (b : ℕ) → In b n → (sizes_form n J L ≡ true) × (box_of n (row_of J (rows b)) ≡ fresh_box)
  begins b i =
      let t = made b i in
      let f = fresh-on n J L (words b) (sym t.answer) in
      (f.0, t.box ∙ f.1)

  pub begun-same : yard_of (begun_with n J L rows) ≡ yard.begun n J L
  unfolding yard.begun
  begun-same =
      ap (λ (box : ℕ → Alone). record {
        n = n;
        J = J;
        L = L;
        epoch = 1;
        present = full_set n;
        leader = 0;
        box = box;
        link = λ a b. [];
      })
      (fun_ext (λ b. go b (is_box n b) (λ e. is-box e)))
    where
      go : (b : ℕ) (t : Bool) → (t ≡ true → In b n)
          → cond t (record { row = box_of n (row_of J (rows b)); epoch = 1; present = full_set n })
          (nobody n) ≡ nobody n
      go b true e = ap (λ (x : Box). record { row = x; epoch = 1; present = full_set n })
          (begins b (e refl)).1
      go b false e = refl

abbrev pub end : ℕ → ℕ → ℕ → Talk → Site
end n J L h = run (start n J L) (calls h)

pub record Holds (n J L : ℕ) (h : Talk) (y : Boards) : Type 0 where
  pub sizes : sizes_form n J L ≡ true
  pub lived : Lived n J L (calls h) (yard_of y)
  pub readable : Readable y
  pub said : Spoken n J L h (end n J L h)

module _ {n J L : ℕ} {h : Talk} {y : Boards} (w : Holds n J L h y) where
  abbrev pub keeps : AloneKeeps n J L
  keeps = demand_3_alone.keeps n J L w.sizes

  module _ (b : ℕ) (i : In b n) where
    here : In b y.n
    here = subst (In b) (sym (same-n n J L w.sizes w.lived)) i

    -- what it answers now
    pub asks-same : (k left right : ℕ) → asks y b k left right ≡ holds (end n J L h) b k left right
    asks-same k left right =
        holds-on (known y b) (y.box b).row (w.readable.rows b here) k left right
        ∙ ap (λ (x : Alone). own_holds (knowing (yard_of y) x.epoch x.present b) x.row
        k left right)
        (sym (box-at y b here))
        ∙ keeps.asked-alike w.lived b i k left right

    pub row_is : ((yard_of y).box b).row ≡ box_in y b
    row_is = ap (λ (x : Alone). x.row) (box-at y b here)

    pub firsts_same : firsts_in y b ≡ firsts (end n J L h) b
    firsts_same =
        ap (λ (x : Box). x.head.kept.first) (sym row_is)
        ∙ ap (λ k. k.first) ((keeps.stands w.lived).kept b here)

pub worked : {n J L : ℕ} {h : Talk} {y : Boards} → Worked n J L h y → Holds n J L h y
unfolding run
worked {n} {J} {L} (began words rows some made) =
    let sizes = (begins n J L words rows made 1 (omega arith, some)).0 in
    record {
      sizes = sizes;
      lived = subst (Lived n J L []) (sym (begun-same n J L words rows made)) yard.began;
      readable = record { rows = λ b i. (made b i).reads refl; letters = λ a b. nil };
      said = spoken.begun sizes;
    }
worked {n} {J} {L} (did {h = h} {y = y} {d = d} {a = a} old happens) =
    let w = worked old in
    let g = goes y w.readable happens in
    record {
      sizes = w.sizes;
      lived = yard.did w.lived g.happens;
      readable = g.readable;
      said = subst (λ (b : Answer). Spoken n J L (called d b ∷ h) (end n J L (called d b ∷ h)))
          ((keeps w).answers w.lived g.happens) (spoken.stepped d g.fits w.said);
    }
worked {n} {J} {L} (told {h = h} {y = y} b r old tells) =
    let w = worked old in
    record {
      sizes = w.sizes;
      lived = subst (Lived n J L (calls h)) (sym (told_same y w.readable b r tells))
          (yard.told b w.lived (tells_as y w.readable b r tells));
      readable = told-readable y w.readable b r tells;
      said = w.said;
    }
worked {n} {J} {L} (waits {h = h} {y = y} b e w i old t) =
    let k = worked old in
    let j = here k b i in
    record {
      sizes = k.sizes;
      lived = subst (Lived n J L (calls h)) (sym (waits-same y k.readable b j e w))
          (yard.waits b e w k.lived j (waits_as y k.readable b j t));
      readable = waits-readable y k.readable b j e w;
      said = k.said;
    }
worked {n} {J} {L} (asked {h = h} {y = y} b k l r i old) =
    let w = worked old in
    record {
      sizes = w.sizes;
      lived = w.lived;
      readable = w.readable;
      said = subst (λ (a : Answer). Spoken n J L (held b k l r a ∷ h) (end n J L h))
          (sym (asks-same w b i k l r)) (spoken.asked b k l r w.said);
    }
