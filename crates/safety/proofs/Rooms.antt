-- After every run from a fresh site neither Ready nor a mail is refused for want of room (7).
use Prim.Native.Nat.{ℕ}
use mathlib.Core.Path.{◌≡◌, refl, ap, subst}
use mathlib.Core.Bool.{Bool, true, false, not, ◌||◌}
use mathlib.Core.List.{List, [], ◌∷◌}
use native.Mathlib.Omega.{arith}
use lib.Dec.{eqb}
use lib.ListN.{get_or}
use borrow.Author.Tests.{le-leb, lt-ltb, not-false}
use Rattle.std.specs.Prelude.{Option}
use Rattle.rules.specs.Numbers.{phase_number, refusal_number}
use Rattle.rules.specs.Parts.{higher, room_next}
use Rattle.rules.specs.Turns.{first_cause, unless, settled}
use Rattle.rules.specs.Last.{last_verdict, on_last}
use Rattle.rules.specs.Mails.{on_collect, begin_verdict, on_begin, accept_verdict, on_accept}
use Rattle.rules.specs.Mails.{on_commit}
use Rattle.rules.specs.Mails.{on_lease, lease_ack_verdict, on_lease_ack, of_kind, on_mail}
use Rattle.rules.specs.Steps.{started, leased, can_ready, has_previous, ready, acted}
use Rattle.rules.specs.Box.{Letter, next_of, mine}
use Rattle.rules.specs.Site.{Site, Outcome, is_box, is_link, setting, room, popped}
use Rattle.rules.specs.Form.{form}
use Rattle.rules.specs.Needs.{ruled}
use Rattle.rules.specs.Step.{by_answer, by_turn, delivered, step, run}
use Rattle.laws.proofs.Types.{Answer, BoxState, Call, Kind, Refusal, Setting, Turn, Verdict}
use Rattle.laws.proofs.Logic.{both-no, eqb_yes, and_both, or_no, cond_elim, pick_elim, All}
use Rattle.laws.proofs.Logic.{All-head}
use Rattle.laws.proofs.Conditions.{Room, can-ready, has-previous}
use Rattle.laws.proofs.View.{higher-max, read, read_as}
use Rattle.safety.specs.Demand3.{start}
use Rattle.safety.specs.Rooms.{Rooms}
use Rattle.safety.proofs.Room.{BoxRoom, MailRoom, Roomy, roomy-run}

-- ---- an answer and a verdict that are not 7

no_room : Answer → Bool
no_room Answer.Done = false
no_room Answer.Taken = false
no_room (Answer.Discarded why) = false
no_room (Answer.Refused why) = eqb (refusal_number why) 7

wants_room : Verdict → Bool
wants_room Verdict.Go = false
wants_room (Verdict.Discard why) = false
wants_room (Verdict.Refuse why) = eqb (refusal_number why) 7

abbrev Other : Verdict → Type 0
Other v = wants_room v ≡ false

other-unless : (t : Bool) (why : Refusal) (v : Verdict) → (t ≡ true → Other v)
    → (t ≡ false → Other (Verdict.Refuse why)) → Other (unless t why v)
unfolding unless
other-unless t why v = pick_elim Other t

other_cause : (a b c d : Bool) (v : Verdict) → (d ≡ false → Other v)
    → Other (first_cause a b c d v)
unfolding first_cause wants_room
other_cause a b c d v h =
    pick_elim Other a (λ e. refl)
    (λ e. pick_elim Other b (λ e. refl)
    (λ e. pick_elim Other c (λ e. refl)
    (λ e. pick_elim Other d (λ e. refl) h)))

other-settled : (b : BoxState) (v : Verdict) (t : Turn) → Other v → no_room t.answer ≡ false
    → no_room (settled b v t).answer ≡ false
unfolding settled no_room wants_room
other-settled b Verdict.Go t f g = g
other-settled b (Verdict.Discard why) t f g = refl
other-settled b (Verdict.Refuse why) t f g = f

abbrev Says : Outcome → Type 0
Says o = no_room o.answer ≡ false

other-turn : (s base : Site) (c : ℕ) (t : Turn) (ms : List ℕ) → no_room t.answer ≡ false
    → Says (by_turn s base c t ms)
unfolding by_answer ruled no_room
other-turn s base c t ms = go t.answer
  where
    go : (a : Answer) → no_room a ≡ false → Says (by_answer a s base c t ms)
    go Answer.Done e = cond_elim Says (room base c t.out) (λ r. refl) (λ r. refl)
    go Answer.Taken e = cond_elim Says (room base c t.out) (λ r. refl) (λ r. refl)
    go (Answer.Discarded why) e = refl
    go (Answer.Refused why) e = e

-- ---- where there is room

room-made : {J first last : ℕ} → Room J first last → room_next J first last ≡ true
unfolding room_next
room-made h = and_both (le-leb _ _ h.records) (lt-ltb _ _ h.number)

module _ (s : Setting) (b : BoxState) where
  other-ready : BoxRoom s.j b → no_room (ready b s).answer ≡ false
  unfolding ready started leased wants_room no_room
  other-ready h =
      other-settled b _ _
      (other-unless (can_ready b s) _ _
      (λ can. other-unless _ _ Verdict.Go (λ e. refl)
      (λ e. absurd (never (can-ready can).0.phase e)))
      (λ e. refl))
      (pick_elim (λ (t : Turn). no_room t.answer ≡ false) (has_previous b) (λ e. refl)
      (λ e. refl))
    where
      -- the best is of last+1, so there is room for it
      never : phase_number b.phase ≡ 2
          → (not (has_previous b) || room_next s.j b.kept.first b.kept.last) ≡ false → ⊥
      never p e =
          let n = or_no _ _ e in
          let q = has-previous b (not-false _ n.0) in
          both-no (room-made ((h p).next q.0)) n.1

  module _ (a : ℕ) (y : Letter) (one : ℕ) (next mine : Option ℕ) where
    -- a Begin is taken at its own last, with at least its own first
    other-kind : (k : Kind) → MailRoom s.j (read_as k y)
        → no_room (of_kind k b s a y.head one next mine).answer ≡ false
    unfolding of_kind on_collect on_last last_verdict on_begin begin_verdict
        on_accept accept_verdict
        on_commit on_lease lease_ack_verdict on_lease_ack wants_room no_room
    other-kind Kind.Collect g =
        other-settled b _ _ (other_cause _ _ _ _ _ (λ e. refl)) refl
    other-kind Kind.Last g =
        other-settled b _ _
        (other_cause _ _ _ _ _ (λ e. other-unless _ _ Verdict.Go (λ e. refl) (λ e. refl))) refl
    other-kind Kind.Begin g =
        other-settled b _ _
        (other_cause _ _ _ _ _
        (λ e. other-unless _ _ Verdict.Go (λ f. refl) (λ f. absurd (both-no (fits e) f)))) refl
      where
        fits : not (eqb b.kept.last y.head.last) ≡ false
            → room_next s.j (higher b.kept.first y.head.first) b.kept.last ≡ true
        fits e =
            let place = eqb_yes b.kept.last y.head.last (not-false _ e) in
            let first = higher-max b.kept.first y.head.first in
            room-made (record {
              records = omega (arith, g.records, place, first);
              number = omega (arith, g.number, place);
            })
    other-kind Kind.Accept g =
        other-settled b _ _ (other_cause _ _ _ _ _ (λ e. refl)) refl
    other-kind Kind.Commit g =
        other-settled b _ _ (other_cause _ _ _ _ _ (λ e. refl)) refl
    other-kind Kind.Lease g =
        other-settled b _ _ (other_cause _ _ _ _ _ (λ e. refl)) refl
    other-kind Kind.LeaseAck g =
        other-settled b _ _ (other_cause _ _ _ _ _ (λ e. refl)) refl

-- ---- the two calls

ready-says : (s : Site) → Roomy s → (c : ℕ) → Says (step s (Call.Ready c))
unfolding step ruled acted no_room
ready-says s h c =
    cond_elim Says (form s)
    (λ f. cond_elim Says (is_box s.n c)
    (λ i. other-turn s s c _ [] (other-ready (setting s c) (s.box c).head (h.boxes c)))
    (λ i. refl))
    (λ f. refl)

deliver-says : (s : Site) → Roomy s → (a b : ℕ) → Says (step s (Call.Deliver a b))
unfolding step ruled delivered on_mail no_room wants_room
deliver-says s h a b =
    cond_elim Says (form s)
    (λ f. cond_elim Says (is_link s.n a b) (λ i. go (s.link a b) refl) (λ i. refl))
    (λ f. refl)
  where
    go : (ys : List Letter) → s.link a b ≡ ys → Says (delivered s a b ys)
    go [] e = refl
    go (y ∷ ys) e =
        let g = All-head (subst (All (λ y. MailRoom s.J (read y))) e (h.mails a b)) in
        other-turn s (popped s a b) b _ _
        (other-settled _ _ _ (other-unless _ _ Verdict.Go (λ e. refl) (λ e. refl))
        (other-kind (setting s b) (s.box b).head a y (get_or y.records 0 0) (next_of y)
        (mine (s.box b)) y.head.kind g))

pub rooms : Rooms
unfolding no_room
rooms = record {
  ready = λ n J L cs c e.
      both-no (ap no_room e) (ready-says (run (start n J L) cs) (roomy-run n J L cs) c);
  deliver = λ n J L cs a b e.
      both-no (ap no_room e) (deliver-says (run (start n J L) cs) (roomy-run n J L cs) a b);
}
