-- "Mail": what a box does with each kind. Last has a file of its own.
use Rattle.std.specs.Prelude.{ℕ, ◌+◌, max, false, not, eqb, Option, Some, None}
use Rattle.rules.specs.Sizes.{even}
use Rattle.rules.specs.Sets.{bit, joined}
use Rattle.rules.specs.Numbers.{in_phase}
use Rattle.rules.specs.Fields.{with_state, with_kept, with_best, with_accepts, promised, keeping}
use Rattle.rules.specs.Fields.{storing, with_heard}
use Rattle.rules.specs.Parts.{under_of, span, higher, dropped, took_kept, took_book, room_next}
use Rattle.rules.specs.Parts.{cleared}
use Rattle.rules.specs.Turns.{first_cause, unless, settled, taken, mail_of, mail_from}
use Rattle.rules.specs.Last.{on_last}
use Rattle.rules.specs.Types.{Book, BoxState, Kept, Kind, Mail, Out, Phase, Refusal}
use Rattle.rules.specs.Types.{Setting, State, Turn, Verdict}

-- "stored pn if last+1 is held and the stored number is last+1, else 0"
unfoldable pub unagreed_of : Kept → Option ℕ → ℕ
unagreed_of k (Some r) = under_of k
unagreed_of k None = 0

-- "Collect (role: receiver leads). Recovering; promised pn becomes the larger; replies
-- Last(promised pn, last, records held, [unagreed pn])." It carries "the sender's first" (Q-4).
unfoldable pub on_collect : BoxState → ℕ → Mail → Option ℕ → Turn
on_collect b sender m mine =
    settled b (first_cause b.leads false false false Verdict.Go)
    (taken
    (with_state State.Recovering
    (with_kept (promised (max b.kept.pn m.pn) b.kept) b))
    Book.Keep
    (Out.To (bit sender)
    (mail_from b.kept.first Kind.Last (max b.kept.pn m.pn) b.kept.last
    (unagreed_of b.kept mine))))

-- "Begin (role: receiver leads; number: pn below promised; place: lasts differ)"; "such mail in a
-- foreign image", above it, "is discarded for the cause 'number'" too (Q-10); refusal 7 of a Begin
-- that would be taken, "first raised" (Q-4)
unfoldable pub begin_verdict : BoxState → Setting → Mail → Verdict
begin_verdict b s m =
    first_cause b.leads false
    (not (eqb b.kept.pn m.pn))
    (not (eqb b.kept.last m.last))
    (unless (room_next s.j (higher b.kept.first m.first) b.kept.last) Refusal.Book
    Verdict.Go)

-- "last+1 holds the record; stored pn and number set; Updating; replies Accept(pn, last)." It
-- "raises its own first" (Q-4).
unfoldable pub on_begin : BoxState → Setting → ℕ → Mail → ℕ → Turn
on_begin b s sender m r =
    settled b (begin_verdict b s m)
    (taken
    (with_state State.Updating
    (with_kept
    (keeping (higher b.kept.first m.first)
    (storing m.pn (b.kept.last + 1) b.kept)) b))
    (Book.Put (dropped m.first b.kept) (span b.kept.first b.kept.last) r)
    (Out.To (bit sender) (mail_of Kind.Accept m.pn b.kept.last 0)))

-- "Accept (role: not leader; phase: not Begin; number: pn differs; place: lasts differ)."
unfoldable pub accept_verdict : BoxState → Mail → Verdict
accept_verdict b m =
    first_cause (not b.leads)
    (not (in_phase b.phase Phase.Begin))
    (not (eqb b.kept.pn m.pn))
    (not (eqb b.kept.last m.last))
    Verdict.Go

-- "Sender joins the accept set."
unfoldable pub on_accept : BoxState → ℕ → Mail → Turn
on_accept b sender m =
    settled b (accept_verdict b m)
    (taken (with_accepts (joined b.accepts sender) b) Book.Keep Out.Nothing)

-- "Commit (role: receiver leads). Takes records as in Last; best cleared if its number is not above
-- last."
unfoldable pub on_commit : BoxState → Mail → Turn
on_commit b m =
    settled b (first_cause b.leads false false false Verdict.Go)
    (taken
    (with_best (cleared (took_kept m.first m.last b.kept).last b.best)
    (with_kept (took_kept m.first m.last b.kept) b))
    (took_book m.first m.last b.kept)
    Out.Nothing)

-- "Lease (role: receiver leads; place: lasts differ). Active." A box that takes it "replies
-- LeaseAck(last), kind 7, pn 0, no records" (Q-12).
unfoldable pub on_lease : BoxState → ℕ → Mail → Turn
on_lease b sender m =
    settled b
    (first_cause b.leads false false (not (eqb b.kept.last m.last)) Verdict.Go)
    (taken (with_state State.Active b) Book.Keep
    (Out.To (bit sender) (mail_of Kind.LeaseAck 0 b.kept.last 0)))

-- "A LeaseAck is discarded for role (not leader) or phase (not Lease)": its last is not compared
-- (Q-12)
unfoldable pub lease_ack_verdict : BoxState → Verdict
lease_ack_verdict b =
    first_cause (not b.leads) (not (in_phase b.phase Phase.Lease)) false false Verdict.Go

-- "the leader in phase Lease notes the sender in a set" (Q-12)
unfoldable pub on_lease_ack : BoxState → ℕ → Turn
on_lease_ack b sender =
    settled b (lease_ack_verdict b)
    (taken (with_heard (joined b.heard sender) b) Book.Keep Out.Nothing)

-- each kind has its rule: `one` is the mail's first record (0: none), `next` what it holds at its
-- last+1, `mine` what the box holds at its own
unfoldable pub of_kind : Kind → BoxState → Setting → ℕ → Mail → ℕ → Option ℕ → Option ℕ → Turn
of_kind Kind.Collect b s sender m one next mine = on_collect b sender m mine
of_kind Kind.Last b s sender m one next mine = on_last b s sender m next
of_kind Kind.Begin b s sender m one next mine = on_begin b s sender m one
of_kind Kind.Accept b s sender m one next mine = on_accept b sender m
of_kind Kind.Commit b s sender m one next mine = on_commit b m
of_kind Kind.Lease b s sender m one next mine = on_lease b sender m
of_kind Kind.LeaseAck b s sender m one next mine = on_lease_ack b sender

-- "All but Elect, Stop, Return and Lose need an even epoch."
unfoldable pub on_mail : BoxState → Setting → ℕ → Mail → ℕ → Option ℕ → Option ℕ → Turn
on_mail b s sender m one next mine =
    settled b (unless (even s.epoch) Refusal.Condition Verdict.Go)
    (of_kind m.kind b s sender m one next mine)
