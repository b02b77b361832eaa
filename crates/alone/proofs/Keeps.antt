-- Boxes by themselves keep demand 3: their rows are those of a run.
use Prim.Native.Nat.{ℕ, ◌-◌, ◌≤◌, ◌<◌, max}
use mathlib.Core.Path.{◌≡◌, refl, sym, ap, ap₂, ◌∙◌, subst}
use mathlib.Core.Bool.{true}
use mathlib.Core.List.{List, [], ◌∷◌, ◌++◌, reverse}
use native.Mathlib.Omega.{arith}
use lib.ListN.{length, get_or}
use borrow.Author.Tests.{leb-true}
use Rattle.rules.specs.Every.{all}
use Rattle.rules.specs.Sizes.{sizes_form, left_of, right_of, proper, record_of}
use Rattle.rules.specs.Answers.{is_refusal}
use Rattle.rules.specs.Fields.{with_kept}
use Rattle.rules.specs.Form.{form}
use Rattle.rules.specs.Needs.{need, ruled}
use Rattle.rules.specs.Box.{Box}
use Rattle.rules.specs.Own.{form_own, own_holds}
use Rattle.rules.specs.Site.{Site, fresh, fresh_head}
use Rattle.rules.specs.Step.{step, run, agreed_as, holds}
use Rattle.laws.proofs.Types.{Answer, Call, Kept, Refusal}
use Rattle.laws.proofs.Logic.{true≠false, eqb_yes, and4, made, none, ◌&◌}
use Rattle.laws.proofs.FormLaws.{sizes-says, sizes-made, box-is, form-says}
use Rattle.laws.proofs.StepLaws.{by_needs, sizes_run}
use Rattle.safety.specs.Demand3.{In, Agreed, record_at, start, Offered, AfterRun}
use Rattle.safety.specs.Demand3.{now as offered, before as earlier}
use Rattle.safety.proofs.Demand.{demand_3}
use Rattle.safety.proofs.Example.{replayed, replayed-further, ranges, computed}
use Rattle.alone.specs.Yard.{Yard, asked, Happens, Lived, began, did, told, waits}
use Rattle.alone.specs.Alone.{Stands, Taken, now, before, before-told, before-waits, AllFit}
use Rattle.alone.specs.Alone.{Demand3Alone}
use Rattle.alone.proofs.Lives.{lives}
use Rattle.alone.proofs.OwnStep as OwnStep
use Rattle.alone.proofs.OwnStep.{skip}
use Rattle.alone.proofs.Mirror.{Mirrored, lived, same_answer, same-n}

stood : {y : Yard} {s : Site} → Mirrored y s → Stands y s
stood {y} r = subst (Stands y) (sym r.same) (record {
  sizes = (refl, refl, refl);
  epoch = refl;
  present = refl;
  links = r.mirror.links;
  told = λ b t. ((r.mirror.boxes b t.box).told t.even t.told).1;
  kept = λ b h. ap (λ (x : Box). x.head.kept) (r.mirror.boxes b h).rests;
  records = λ b h. ap (λ (x : Box). x.records) (r.mirror.boxes b h).rests;
})

-- the calls of a run, and further ones
run-on : (s : Site) (cs ds : List Call) → run (run s cs) ds ≡ run s (ds ++ cs)
unfolding run
run-on s cs [] = refl
run-on s cs (d ∷ ds) = ap (λ (t : Site). (step t d).next) (run-on s cs ds)

module _ (n J L : ℕ) (sizes : sizes_form n J L ≡ true) where
  abbrev end : List Call → Site
  end calls = run (start n J L) calls

  some-n : In n 5
  some-n = let f = sizes-says sizes in (f.some-boxes, f.few-boxes)

  stands : {calls : List Call} {y : Yard} → Lived n J L calls y → Stands y (end calls)
  stands l = stood (lived n J L sizes l)

  module _ {calls : List Call} {y : Yard} (l : Lived n J L calls y) where
    -- a row without what demand 3 does not speak of, and the run's box likewise
    abbrev filed : Box → Box
    filed x = record { head = with_kept x.head.kept fresh_head; records = x.records }

    module _ (b : ℕ) (h : In b n) where
      same : filed (y.box b).row ≡ filed ((end calls).box b)
      same =
          let i : In b y.n = subst (In b) (sym (same-n n J L sizes l)) h in
          ap₂ (λ (k : Kept) (rs : List ℕ). record { head = with_kept k fresh_head; records = rs })
          ((stands l).kept b i) ((stands l).records b i)

      agreed-at : (k : ℕ) → Agreed (y.box b).row k → Agreed ((end calls).box b) k
      agreed-at k = subst (λ (x : Box). Agreed x k) same

      record-at : (k : ℕ) → record_at (y.box b).row k ≡ record_at ((end calls).box b) k
      record-at k = ap (λ (x : Box). record_at x k) same

    -- what it answers where it is asked
    module _ (b : ℕ) (h : In b n) (k left right : ℕ) where
      abbrev says : Box → Answer
      says x = ruled Answer.Refused (need Refusal.Untrue (agreed_as x k left right)
          ∷ []) Answer.Done

      row-says : asked y b k left right ≡ says (y.box b).row
      unfolding own_holds form_own
      row-says =
          let r = lived n J L sizes l in
          let i : In b y.n = subst (In b) (sym (same-n n J L sizes l)) h in
          let q = (r.mirror.boxes b i).right in
          skip _ _ _ _ (sizes-made (form-says r.mirror.form).sizes)
          ∙ skip _ _ _ _ (made (q.0 & q.1 & q.2 & refl & none))
          ∙ skip _ _ _ _ (box-is i)

      site-says : holds (end calls) b k left right ≡ says ((end calls).box b)
      unfolding holds fresh
      site-says =
          let r = lived n J L sizes l in
          skip _ _ _ _ (subst (λ (s : Site). form s ≡ true) (sym r.same) r.mirror.form)
          ∙ skip _ _ _ _ (box-is (subst (In b) (sym (sizes_run (start n J L) calls).n) h))

      answers : asked y b k left right ≡ holds (end calls) b k left right
      unfolding agreed_as
      answers = row-says ∙ ap says (same b h) ∙ sym site-says

      -- a true answer
      says-true : asked y b k left right ≡ Answer.Done
          → Agreed (y.box b).row k × (left_of (record_at (y.box b).row k) ≡ left)
          × (right_of (record_at (y.box b).row k) ≡ right)
      unfolding agreed_as
      says-true e =
          let p =
          and4 _ _ _ _
          (by_needs (λ (a : Answer). a ≡ Answer.Done → agreed_as (y.box b).row k left right ≡ true)
          Answer.Refused (need Refusal.Untrue (agreed_as (y.box b).row k left right) ∷ [])
          Answer.Done
          (λ why e. absurd (true≠false (ap is_refusal e))) (λ p e. p.0) (sym row-says ∙ e))
          in
          ((leb-true _ _ p.0, leb-true _ _ p.1), eqb_yes _ _ p.2, eqb_yes _ _ p.3)

    after_run : AfterRun n (start n J L) calls (λ b. (y.box b).row)
    after_run = let r = demand_3.after_run n J L some-n calls in record {
      agreement = λ b d k hb hd ab ad.
          record-at b hb k
          ∙ r.agreement b d k hb hd (agreed-at b hb k ab) (agreed-at d hd k ad)
          ∙ sym (record-at d hd k);
      kept-range = λ b hb.
          subst (λ (x : Box). In x.head.kept.first (max 1 x.head.kept.last))
          (sym (same b hb)) (r.kept-range b hb);
      no_hole = λ b k hb ab.
          subst (λ (x : Box). (k - x.head.kept.first < length x.records)
          × (proper (record_at x k) ≡ true))
          (sym (same b hb)) (r.no_hole b k hb (agreed-at b hb k ab));
      offer-of = r.offer-of;
      offer-is = λ b k hb ab.
          subst (Offered (start n J L) calls (r.offer-of k)) (sym (record-at b hb k))
          (r.offer-is b k hb (agreed-at b hb k ab));
      offer-once = λ b d j k hb hd aj ak.
          r.offer-once b d j k hb hd (agreed-at b hb j aj) (agreed-at d hd k ak);
    }

  offers : {calls : List Call} {y : Yard} (l : Lived n J L calls y) {j r : ℕ}
      → Offered (start n J L) calls j r → Taken calls y l j r
  offers (told b l h) o = before-told h (offers l o)
  offers (waits b e w l i h) o = before-waits i h (offers l o)
  offers (did l h) (earlier d o) = before h (offers l o)
  offers (did {y = y} {z = z} l h) (offered calls c left right e) =
      subst (λ (a : Answer). (g : Happens y (Call.Offer c left right) a z)
      → Taken (Call.Offer c left right ∷ calls) z (did l g) (length calls) (record_of left right))
      (sym e ∙ same_answer n J L sizes l h) (λ g. now l c left right g) h
  offers began o = elim o [ ]

  module _ {calls : List Call} {y z : Yard} (further : List Call) (l : Lived n J L calls y)
      (m : Lived n J L (further ++ calls) z) where
    abbrev Up : Box → Box → Type 0
    Up w x =
        (w.head.kept.first ≤ x.head.kept.first) × (w.head.kept.last ≤ x.head.kept.last)

    never-falls : (b : ℕ) → In b n → Up (y.box b).row (z.box b).row
    never-falls b h =
        subst (λ (w : Box). Up w (z.box b).row) (sym (same l b h))
        (subst (Up ((end calls).box b)) (sym (same m b h))
        (subst (λ (s : Site). Up ((end calls).box b) (s.box b)) (run-on (start n J L) calls further)
        (demand_3.never-falls (end calls) further b)))

    over-time : (b d k : ℕ) → In b n → In d n → Agreed (y.box b).row k → Agreed (z.box d).row k
        → record_at (z.box d).row k ≡ record_at (y.box b).row k
    over-time b d k hb hd early late =
        record-at m d hd k
        ∙ demand_3.over-time n J L some-n calls further b d k hb hd (agreed-at l b hb k early)
        (agreed-at m d hd k late)
        ∙ sym (record-at l b hb k)

    one-pair : (b d k left right left' right' : ℕ) → In b n → In d n
        → asked y b k left right ≡ Answer.Done → asked z d k left' right' ≡ Answer.Done
        → (left ≡ left') × (right ≡ right')
    one-pair b d k left right left' right' hb hd e f =
        let p = says-true l b hb k left right e in
        let q = says-true m d hd k left' right' f in
        let same = over-time b d k hb hd p.0 q.0 in
        (sym p.1 ∙ ap left_of (sym same) ∙ q.1, sym p.2 ∙ ap right_of (sym same) ∙ q.2)

-- ---- the worked replay, lived by two boxes

replay-fits : AllFit (reverse replayed-further)
unfolding replayed replayed-further
replay-fits = (
  tt,
  (
    tt,
    (
      tt,
      (
        tt,
        (
          tt,
          (
            tt,
            (
              tt,
              (
                (omega arith, omega arith),
                (tt, (tt, (tt, (tt, (tt, (tt, tt)))))),
              ),
            ),
          ),
        ),
      ),
    ),
  ),
)

two : sizes_form 2 16 8 ≡ true
unfolding sizes_form all
two = refl

read : (k : ℕ) → get_or (ranges (end 2 16 8 two (reverse replayed-further))) k 0
    ≡ get_or (1 ∷ 1 ∷ 1 ∷ 1 ∷ []) k 0
read k = ap (λ (l : List ℕ). get_or l k 0) computed.further

not-empty : (calls : List Call) × (y : Yard) × Lived 2 16 8 calls y
    × Agreed (y.box 1).row 1 × Agreed (y.box 2).row 1
not-empty =
    let k = lives 2 16 8 two (reverse replayed-further) replay-fits in (
      k.calls,
      k.yard,
      k.lived,
      agreed 1 (omega arith, omega arith) (omega (arith, read 2), omega (arith, read 0)),
      agreed 2 (omega arith, omega arith) (omega (arith, read 3), omega (arith, read 1)),
    )
  where
    agreed : (b : ℕ) → In b 2 → Agreed ((end 2 16 8 two (reverse replayed-further)).box b) 1
        → Agreed ((lives 2 16 8 two (reverse replayed-further) replay-fits).yard.box b).row 1
    agreed b h a =
        let k = lives 2 16 8 two (reverse replayed-further) replay-fits in
        subst (λ (x : Box). Agreed x 1) (sym (same 2 16 8 two k.lived b h))
        (subst (λ (s : Site). Agreed (s.box b) 1) (sym k.same) a)

pub demand_3_alone : Demand3Alone
demand_3_alone = record {
  own-is-site = record {
    acts = OwnStep.acts;
    delivers = OwnStep.delivers;
    starts = OwnStep.starts;
    is-told = OwnStep.elects;
    is-asked = OwnStep.asks;
  };
  keeps = λ n J L e. record {
    stands = stands n J L e;
    answers = same_answer n J L e;
    after_run = after_run n J L e;
    offers = offers n J L e;
    never-falls = never-falls n J L e;
    over-time = over-time n J L e;
    asked-alike = answers n J L e;
    one-pair = one-pair n J L e;
    lives = lives n J L e;
  };
  not-empty = not-empty;
}
