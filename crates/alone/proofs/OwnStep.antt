-- The site's Recover .. Finish and Deliver are the box's own step plus links; and a box is started,
-- told of an election and asked as the site is.
use Prim.Native.Nat.{ℕ, ◌+◌, ◌%◌}
use mathlib.Core.Path.{◌≡◌, refl, sym, ap, ap₂, ◌∙◌, fun_ext}
use mathlib.Core.Bool.{Bool, true, false, not, ◌&&◌, ◌||◌, cond}
use mathlib.Core.List.{List, [], ◌∷◌, ◌++◌}
use native.Mathlib.Omega.{arith}
use lib.Count.{ones}
use lib.Dec.{leb, ltb, eqb}
use lib.ListN.{length}
use borrow.Author.Tests.{eqb-false, eq-eqb, le-leb}
use Rattle.rules.specs.Every.{every}
use Rattle.rules.specs.Sizes.{most_epoch, majority_of, even, within, sizes_form}
use Rattle.rules.specs.Sets.{has}
use Rattle.rules.specs.Form.{form}
use Rattle.rules.specs.Needs.{Need, need, ruled}
use Rattle.rules.specs.Box.{Box, Letter, Event, own, mail, letter_of, turn_of, turned, brought}
use Rattle.rules.specs.Own.{OwnOutcome, unmoved, receivers, letters_of, own_turn, form_event}
use Rattle.rules.specs.Own.{right_numbers, form_own, own_step, own_fresh, own_elected, own_holds}
use Rattle.rules.specs.Own.{elected_box}
use Rattle.rules.specs.Site.{Site, Outcome, is_box, is_link, setting, upd, posted, room, played}
use Rattle.rules.specs.Site.{popped, fresh}
use Rattle.rules.specs.Steps.{elected}
use Rattle.rules.specs.Answers.{is_refusal}
use Rattle.rules.specs.Step.{refused, by_answer, acting, delivered, elect, did, step, holds}
use Rattle.laws.proofs.Types.{Act, Answer, Call, Out, Refusal, Setting, Turn}
use Rattle.laws.proofs.Logic.{In, Passed, eqb_yes, cond_elim, pick_elim}
use Rattle.laws.proofs.Logic.{every_made, made, none, ◌&◌, All-head}
use Rattle.laws.proofs.Logic.{true≠false, both-no, and_yes, and_both, or_left, passed, every-at}
use Rattle.laws.proofs.SetLaws.{has-zero}
use Rattle.laws.proofs.FormLaws.{form-says, sizes-made, box-is, is-link}
use Rattle.laws.proofs.FormLaws.{letter-made}
use Rattle.laws.proofs.StepLaws.{mets, by_needs}
use Rattle.alone.specs.Links.{Links, room_for, held_back, after, joined_by, linked, call_of}

-- every need is met
pub ruled-met {ℓ} : {A : Type ℓ} (refuse : Refusal → A) (ks : List Need) (a : A) → Passed (mets ks)
    → ruled refuse ks a ≡ a
unfolding ruled
ruled-met refuse [] a p = refl
ruled-met refuse (k ∷ ks) a p = rw p.0 (ruled-met refuse ks a p.1)

-- ---- the letters of a turn, by the box itself and by the site

-- nothing is sent to the empty set
none-to : (link : Links) (c : ℕ) (ys : List Letter) (a b : ℕ)
    → link a b ≡ cond (eqb a c && has 0 b) (link a b ++ ys) (link a b)
none-to link c ys a b =
    cond_elim (λ (t : List Letter). link a b ≡ t) (eqb a c && has 0 b)
    (λ e. absurd (both-no (and_yes (eqb a c) (has 0 b) e).1 (has-zero b)))
    (λ e. refl)

sent-posted : (link : Links) (c : ℕ) (out : Out) (rs : List ℕ) (a b : ℕ)
    → posted link c out rs a b
    ≡ cond (eqb a c && has (receivers out) b) (link a b ++ letters_of out rs) (link a b)
unfolding posted
sent-posted link c Out.Nothing rs a b = none-to link c [] a b
sent-posted link c (Out.To set m) rs a b =
    pick_elim (λ (ys : List Letter). posted link c (Out.To set m) rs a b
    ≡ cond (eqb a c && has set b) (link a b ++ ys) (link a b))
    (eqb set 0)
    (λ e. rw (eqb_yes set 0 e) (sym (none-to link c (letter_of m rs ∷ []) a b) ∙ none-to link c []
    a b))
    (λ e. refl)

room-sent : (s : Site) (c : ℕ) (out : Out)
    → room s c out
    ≡ every s.n (λ b. not (has (receivers out) b) || ltb (length (s.link c b)) s.L)
unfolding room
room-sent s c Out.Nothing =
    sym (every_made s.n _ (λ b h. or_left {a = not (has 0 b)} _ (rw (has-zero b) refl)))
room-sent s c (Out.To set m) = refl

-- ---- the turn

module _ (s base : Site) (c : ℕ) (t : Turn) (ms : List ℕ) where
  abbrev ended : Answer → OwnOutcome
  ended a = record {
    answer = a;
    next = turned (base.box c) t ms;
    to = receivers t.out;
    letters = letters_of t.out (turned (base.box c) t ms).records;
  }

  played-joined : (a : Answer) → played base c t ms ≡ joined_by base c (ended a)
  played-joined a =
      ap (λ (link : Links). record {
        n = base.n;
        J = base.J;
        L = base.L;
        epoch = base.epoch;
        present = base.present;
        box = upd base.box c (turned (base.box c) t ms);
        link = link;
      })
      (fun_ext (λ i. fun_ext (λ j. sent-posted base.link c t.out _ i j)))

  -- with room, or held back
  abbrev gave : Answer → Bool → Site → Outcome
  gave a r z = cond r (record { answer = a; next = z }) (refused s Refusal.Link)

  abbrev came : Answer → Bool → Site → Outcome
  came a r z = record { answer = held_back r a; next = after (held_back r a) s base z }

  done-same : (r : Bool) (z : Site) → gave Answer.Done r z ≡ came Answer.Done r z
  unfolding after
  done-same true z = refl
  done-same false z = refl

  taken-same : (r : Bool) (z : Site) → gave Answer.Taken r z ≡ came Answer.Taken r z
  unfolding after
  taken-same true z = refl
  taken-same false z = refl

  by-own : (a : Answer)
      → by_answer a s base c t ms ≡ linked s base c (own_turn a (base.box c) t ms)
  unfolding by_answer own_turn after ruled
  by-own (Answer.Refused why) = refl
  by-own (Answer.Discarded why) = refl
  by-own Answer.Done =
      ap₂ (gave Answer.Done) (room-sent base c t.out) (played-joined Answer.Done)
      ∙ done-same (room_for base.n base.L base.link c (ended Answer.Done))
      (joined_by base c (ended Answer.Done))
  by-own Answer.Taken =
      ap₂ (gave Answer.Taken) (room-sent base c t.out) (played-joined Answer.Taken)
      ∙ taken-same (room_for base.n base.L base.link c (ended Answer.Taken))
      (joined_by base c (ended Answer.Taken))

-- ---- the step, of a site by form

-- what box c knows, in an epoch of its own
abbrev at-epoch : Site → ℕ → ℕ → Setting
at-epoch s c epoch = record {
  n = s.n;
  j = s.J;
  l = s.L;
  epoch = epoch;
  present = s.present;
  me = c;
}

own-form : (s : Site) → form s ≡ true → (c : ℕ) → In c s.n → (epoch : ℕ)
    → within 1 most_epoch epoch ≡ true → (e : Event) → form_event (at-epoch s c epoch) e ≡ true
    → form_own (at-epoch s c epoch) (s.box c) e ≡ true
unfolding form_own form
own-form s f c box epoch counted e letter =
    let p = passed _ f in
    made (counted & p.1.1.0 & every-at s.n _ p.1.1.1.0 c box & letter & none)

pub epoch-form : (s : Site) → form s ≡ true → within 1 most_epoch s.epoch ≡ true
unfolding form
epoch-form s f = (passed _ f).1.0

module _ (s : Site) (f : form s ≡ true) (c : ℕ) (box : In c s.n) (e : Event)
    (letter : form_event (setting s c) e ≡ true) (number : right_numbers (setting s c)
    e ≡ true) where
  abbrev t : Turn
  t = turn_of (setting s c) (s.box c) e

  own-step : own_step (setting s c) (s.box c) e ≡ own_turn t.answer (s.box c) t (brought e)
  unfolding own_step
  own-step = ruled-met _ _ _ (
    sizes-made (form-says f).sizes,
    (own-form s f c box s.epoch (epoch-form s f) e letter, (number, tt)),
  )

pub is-acting : (s : Site) (c : ℕ) (a : Act) → step s (call_of c a) ≡ acting s c a
unfolding step
is-acting s c Act.Recover = refl
is-acting s c Act.Collect = refl
is-acting s c Act.Ready = refl
is-acting s c (Act.Offer l r) = refl
is-acting s c Act.Propose = refl
is-acting s c Act.Agree = refl
is-acting s c Act.Finish = refl
is-acting s c Act.Heard = refl
is-acting s c (Act.Trim k) = refl

module _ (s : Site) (f : form s ≡ true) where
  pub acts : (c : ℕ) (a : Act) → In c s.n
      → step s (call_of c a) ≡ linked s s c (own_step (setting s c) (s.box c) (own a))
  acts c a box =
      is-acting s c a
      ∙ ruled-met _ _ _ (f, (box-is box, tt))
      ∙ by-own s s c (turn_of (setting s c) (s.box c) (own a)) [] _
      ∙ ap (linked s s c) (sym (own-step s f c box (own a) refl (box-is box)))

  pub delivers : (a b : ℕ) (y : Letter) (ys : List Letter) → is_link s.n a b ≡ true
      → s.link a b ≡ y ∷ ys
      → step s (Call.Deliver a b)
      ≡ linked s (popped s a b) b (own_step (setting s b) (s.box b) (mail a y))
  unfolding step delivered
  delivers a b y ys link stands =
      let l = is-link link in
      ruled-met _ _ _ (f, (link, tt))
      ∙ ap (delivered s a b) stands
      ∙ by-own s (popped s a b) b (turn_of (setting s b) (s.box b) (mail a y)) y.records _
      ∙ ap (linked s (popped s a b) b)
      (sym (own-step s f b l.1 (mail a y)
      (letter-made (All-head (rw stands at ((form-says f).links a b l.0 l.1 l.2).letters)))
      link))

-- ---- started, told of an election, asked

pub starts : (n J L : ℕ) (x : Box) → sizes_form n J L ≡ true → (b : ℕ)
    → own_fresh n J L x ≡ unmoved ((fresh n J L).box b) Answer.Done
unfolding own_fresh fresh
starts n J L x e b = ruled-met _ _ _ (e, tt)

-- what is done with an outcome is done with each of its cases
ruled-ap {ℓ κ} : {A : Type ℓ} {B : Type κ} (g : A → B) (refuse : Refusal → A) (ks : List Need)
    (a : A) → g (ruled refuse ks a) ≡ ruled (λ why. g (refuse why)) ks (g a)
unfolding ruled
ruled-ap g refuse [] a = refl
ruled-ap {B = B} g refuse (k ∷ ks) a = go k.met (ruled-ap g refuse ks a)
  where
    go : (t : Bool) → g (ruled refuse ks a) ≡ ruled (λ why. g (refuse why)) ks (g a)
        → g (cond t (ruled refuse ks a) (refuse k.why))
        ≡ cond t (ruled (λ why. g (refuse why)) ks (g a)) (g (refuse k.why))
    go true rest = rest
    go false rest = refl

-- a need that is met
pub skip {ℓ} : {A : Type ℓ} (refuse : Refusal → A) (k : Need) (ks : List Need) (a : A)
    → k.met ≡ true → ruled refuse (k ∷ ks) a ≡ ruled refuse ks a
unfolding ruled
skip refuse k ks a e = rw e refl

module _ (s : Site) (f : form s ≡ true) where
  sizes : sizes_form s.n s.J s.L ≡ true
  sizes = sizes-made (form-says f).sizes

  pub asks : (c k left right : ℕ) → In c s.n
      → own_holds (setting s c) (s.box c) k left right ≡ holds s c k left right
  unfolding own_holds holds
  asks c k l r box =
      skip _ _ _ _ sizes
      ∙ skip _ _ _ _ (own-form s f c box s.epoch (epoch-form s f) (own Act.Recover) refl)
      ∙ sym (skip _ _ _ _ f)

  module _ (odd : even s.epoch ≡ false) (b c : ℕ) (box : In b s.n) where
    -- the outcome of a call, for box b
    abbrev for_box : Outcome → OwnOutcome
    for_box r = unmoved (r.next.box b) r.answer

    -- what is needed after form
    abbrev later : Bool → Bool → List Need
    later number due =
        need Refusal.Box number
        ∷ need Refusal.Condition due
        ∷ need Refusal.Condition (has s.present c)
        ∷ need Refusal.Majority (leb (majority_of s.n) (ones s.present))
        ∷ []

    abbrev hearing : Bool → Bool → Box → OwnOutcome
    hearing number due x =
        ruled (λ why. unmoved (s.box b) (Answer.Refused why)) (later number due)
        (unmoved x Answer.Done)

    odd_number : s.epoch % 2 ≡ 0 → ⊥
    odd_number = eqb-false (s.epoch % 2) 0 odd

    even-next : even (s.epoch + 1) ≡ true
    even-next = eq-eqb ((s.epoch + 1) % 2) 0 (omega (arith, odd_number))

    counted : within 1 most_epoch (s.epoch + 1) ≡ true
    counted =
        let h = form-says f in
        and_both (le-leb 1 (s.epoch + 1) (omega arith))
        (le-leb (s.epoch + 1) most_epoch (omega (arith, h.few_epochs, odd_number)))

    is-elected : elected_box (at-epoch s b (s.epoch + 1)) c (s.box b) ≡ (elect s c).box b
    unfolding elect elected
    is-elected = rw (box-is box) refl

    pub elects : own_elected (at-epoch s b (s.epoch + 1)) (s.box b) c
        ≡ unmoved ((step s (Call.Elect c)).next.box b) (step s (Call.Elect c)).answer
    unfolding own_elected step
    elects =
        let number : (is_box s.n b && is_box s.n c) ≡ is_box s.n c = rw (box-is box) refl in
        let due : even (s.epoch + 1) ≡ not (even s.epoch) = even-next ∙ sym (ap not odd) in
        skip _ _ _ _ sizes
        ∙ skip _ _ _ _ (own-form s f b box (s.epoch + 1) counted (own Act.Recover) refl)
        ∙ (λ i. hearing (number i) (due i) (is-elected i))
        ∙ sym (ruled-ap for_box (refused s) (later (is_box s.n c) (not (even s.epoch)))
        (did (elect s c)))
        ∙ ap for_box (sym (skip (refused s) (need Refusal.Form (form s)) _ (did (elect s c)) f))

-- .. and where it was told, it is what the election makes of it
pub told-done : (s : Setting) (x : Box) (c : ℕ) → (own_elected s x c).answer ≡ Answer.Done
    → (even s.epoch ≡ true) × ((own_elected s x c).next ≡ elected_box s c x)
unfolding own_elected
told-done s x c =
    by_needs (λ (o : OwnOutcome). o.answer ≡ Answer.Done → (even s.epoch ≡ true)
    × (o.next ≡ elected_box s c x))
    (λ why. unmoved x (Answer.Refused why)) _ _
    (λ why e. absurd (true≠false (ap is_refusal e))) (λ p e. (p.1.1.1.0, refl))
