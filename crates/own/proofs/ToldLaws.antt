-- A box is started, told of an election, and asked: nothing is done, or its row holds another box.
use mathlib.Core.Path.{◌≡◌, refl, sym, ap, ◌∙◌}
use mathlib.Core.Bool.{Bool, true, false, not, ◌&&◌, ◌||◌, cond}
use mathlib.Core.List.{List, [], ◌∷◌, ◌++◌}
use Prim.Native.Nat.{ℕ, ◌≤◌, ◌<◌}
use native.Mathlib.Omega.{arith}
use lib.Dec.{leb}
use lib.ListN.{length, take, drop}
use lib.Seq.{length_front}
use borrow.Author.Tests.{le-leb, lt-leb}
use Rattle.rules.specs.Sizes.{most_boxes, sizes_form}
use Rattle.rules.specs.Needs.{need, ruled}
use Rattle.rules.specs.Box.{Box}
use Rattle.rules.specs.Site.{fresh_box, is_box}
use Rattle.rules.specs.Step.{agreed_as}
use Rattle.rules.specs.Own.{OwnOutcome, unmoved, own_fresh, own_elected, own_holds}
use Rattle.rules.specs.Own.{elected_box, told_needs}
use Rattle.laws.proofs.Types.{Answer, Refusal, Setting}
use Rattle.laws.proofs.Logic.{both-no, and_yes, and_both}
use Rattle.laws.proofs.FormLaws.{sizes-says, is-box}
use Rattle.row.specs.Row.{box_of, row_width}
use Rattle.row.specs.Lent.{RowHolds, FreshRow}
use Rattle.std.specs.Prelude.{⊤, Result, Err}
use Rattle.own.specs.Entry.{row_of, own_box, row_reads, fresh_on, elected_on, holds_on, Told}
use Rattle.own.specs.Lent.{judged, RowLent, elected_by, passed}
use Rattle.own.proofs.FormLaws.{own_row}
use Rattle.own.proofs.OrderLaws.{by, judged-by, told-found, asked}
use Rattle.own.proofs.OwnedLaws.{front-is, front-past}

module _ (n J : ℕ) (r : List ℕ) (o : OwnOutcome) where
  -- Nothing has changed.
  pub untold : (why : Refusal) → o ≡ unmoved (box_of n (row_of J r)) (Answer.Refused why)
      → Told n J o r r (Answer.Refused why)
  untold why e = record {
    answer = ap (λ (u : OwnOutcome). u.answer) (sym e);
    box = ap (λ (u : OwnOutcome). u.next) (sym e);
    kept = λ h. refl;
    reads = λ h. absurd (both-no refl h);
    past_row = refl;
    row_words = refl;
  }

  -- The first words of the row, which the code cuts at `end`, hold the box x.
  module _ (x : Box) (e : o ≡ unmoved x Answer.Done) (long : row_width J ≤ length r)
      (end : ℕ) (ee : end ≡ row_width J) (q : List ℕ) where
    pub row_told : RowHolds n J x (row_of J r) q → Told n J o r (q ++ drop end r) Answer.Done
    unfolding row_reads
    row_told holds =
        let here : row_of J (q ++ drop end r) ≡ q =
        rw ee (front-is (row_width J) r q long holds.words) in
        let as_long : length (q ++ drop end r) ≡ length r =
        rw ee (length_front r q (row_width J) holds.words) in
        record {
          answer = ap (λ (u : OwnOutcome). u.answer) (sym e);
          box = rw here holds.box ∙ ap (λ (u : OwnOutcome). u.next) (sym e);
          kept = λ h. absurd (both-no h refl);
          reads = λ h.
              and_both (le-leb (row_width J) _ (omega (arith, long, as_long)))
              (rw here holds.fits);
          past_row = rw ee (front-past (row_width J) r q long holds.words);
          row_words = as_long;
        }

-- ---- it is started: 13, and then 12

started : {A : Type 0} (refuse : Refusal → A) (a : A) (sizes long : Bool)
    → cond (long || not sizes) (ruled refuse (need Refusal.Sizes sizes ∷ []) a)
    (refuse Refusal.Buffer)
    ≡ cond sizes (cond long a (refuse Refusal.Buffer)) (refuse Refusal.Sizes)
unfolding ruled
started refuse a true true = refl
started refuse a true false = refl
started refuse a false true = refl
started refuse a false false = refl

module _ (n J L : ℕ) (r : List ℕ) where
  abbrev x : Box
  x = box_of n (row_of J r)

  fresh-is : fresh_on n J L r
      ≡ cond (sizes_form n J L)
      (cond (leb (row_width J) (length r)) (unmoved fresh_box Answer.Done)
      (unmoved x (Answer.Refused Refusal.Buffer)))
      (unmoved x (Answer.Refused Refusal.Sizes))
  unfolding fresh_on own_fresh
  fresh-is =
      started (λ why. unmoved x (Answer.Refused why)) (unmoved fresh_box Answer.Done)
      (sizes_form n J L) (leb (row_width J) (length r))

  pub bad-sizes : sizes_form n J L ≡ false → Told n J (fresh_on n J L r) r r
      (Answer.Refused Refusal.Sizes)
  bad-sizes e = untold n J r _ Refusal.Sizes (fresh-is ∙ rw e refl)

  module _ (e : sizes_form n J L ≡ true) where
    pub too_short : length r < row_width J → Told n J (fresh_on n J L r) r r
        (Answer.Refused Refusal.Buffer)
    too_short h =
        untold n J r _ Refusal.Buffer
        (fresh-is ∙ rw (e, lt-leb (row_width J) (length r) h) refl)

    pub made-fresh : (long : row_width J ≤ length r) (end : ℕ) (ee : end ≡ row_width J)
        (q : List ℕ) → FreshRow J (take end r) q
        → Told n J (fresh_on n J L r) r (q ++ drop end r) Answer.Done
    made-fresh long end ee q made =
        row_told n J r _ fresh_box (fresh-is ∙ rw (e, le-leb (row_width J) (length r) long) refl)
        long end ee q
        ((rw ee at made) n (sizes-says e).few-boxes)

-- ---- it is told of an election, and asked

-- 3 or 4 is found, or nothing is.
module _ (s : Setting) (r : List ℕ) (c : ℕ) where
  abbrev outcome : OwnOutcome
  outcome = elected_by s (own_box s r) c

  module _ {v : Result ⊤ Refusal} (h : ruled Err (told_needs s c) passed ≡ v) where
    comes : outcome ≡ by (λ why. unmoved (own_box s r) (Answer.Refused why))
        (unmoved (elected_box s c (own_box s r)) Answer.Done) v
    comes =
        judged-by (λ why. unmoved (own_box s r) (Answer.Refused why)) _ (told_needs s c)
        ∙ ap (by (λ why. unmoved (own_box s r) (Answer.Refused why))
        (unmoved (elected_box s c (own_box s r)) Answer.Done)) h

  pub not-elected : {why : Refusal}
      → ruled Err (told_needs s c) passed ≡ Err why
      → Told s.n s.j outcome r r (Answer.Refused why)
  not-elected {why} h = untold s.n s.j r outcome why (comes h)

  pub was-elected : ruled Err (told_needs s c) passed ≡ passed
      → RowLent s r → (end : ℕ) → end ≡ row_width s.j → (q : List ℕ)
      → RowHolds s.n s.j (elected_box s c (box_of s.n (take end r))) (take end r) q
      → Told s.n s.j outcome r (q ++ drop end r) Answer.Done
  was-elected h lent end ee q holds =
      row_told s.n s.j r outcome (elected_box s c (own_box s r)) (comes h) lent.words end ee
      q (rw ee at holds)

module _ (s : Setting) (r p : List ℕ) where
  pub told-lent : (numbers : Bool) → judged s r p false numbers ≡ passed
      → is_box s.n s.me ≡ true → RowLent s r
  told-lent numbers h me =
      let t = asked s r p numbers h in
      let own = own_row s r t.0 t.1 in
      record {
        words = own.long;
        by_form = own.by_form
            (omega (arith, (is-box {n = s.n} {c = s.me} me).1, (sizes-says t.0).few-boxes));
      }

  module _ (c : ℕ) where
    abbrev pub both_boxes : Bool
    both_boxes = is_box s.n s.me && is_box s.n c

    module _ {v : Result ⊤ Refusal} (h : judged s r p false both_boxes ≡ v) where
      pub elected-found : by (λ why. unmoved (own_box s r) (Answer.Refused why))
          (elected_by s (own_box s r) c) v ≡ elected_on s r c
      unfolding elected_on own_elected
      elected-found =
          told-found (λ why. unmoved (own_box s r) (Answer.Refused why)) s r p both_boxes
          (told_needs s c) (unmoved (elected_box s c (own_box s r)) Answer.Done) h

    module _ (h : judged s r p false both_boxes ≡ passed) where
      both : (is_box s.n s.me ≡ true) × (is_box s.n c ≡ true)
      both =
          and_yes (is_box s.n s.me) (is_box s.n c)
          (asked s r p both_boxes h).2

      pub elect-lent : RowLent s r
      elect-lent = told-lent both_boxes h both.0

      pub elect-box : c ≤ most_boxes
      elect-box =
          omega (
            arith,
            (is-box
                {n = s.n} {c = c} both.1).1,
            (sizes-says (asked s r p both_boxes h).0).few-boxes,
          )

  module _ (k left right : ℕ) {v : Result ⊤ Refusal}
      (h : judged s r p false (is_box s.n s.me) ≡ v) where
    pub holds-found : by Answer.Refused
        (cond (agreed_as (own_box s r) k left right) Answer.Done (Answer.Refused Refusal.Untrue)) v
        ≡ holds_on s r k left right
    unfolding holds_on own_holds ruled
    holds-found =
        told-found Answer.Refused s r p (is_box s.n s.me)
        (need Refusal.Untrue (agreed_as (own_box s r) k left right) ∷ []) Answer.Done h
