-- "Steps": what a box does by itself, for its own part, and what an election makes of a box. Each
-- has its condition (refusal 3) and its turn. All of them need an even epoch.
use Rattle.std.specs.Prelude.{ℕ, ◌+◌, Bool, not, ◌&&◌, ◌||◌, leb, ltb, eqb, Option, Some, None}
use Rattle.std.specs.Prelude.{is_some}
use Rattle.std.specs.Int.Count.{ones}
use Rattle.rules.specs.Pick.{pick}
use Rattle.rules.specs.Sizes.{even, most_pn, record_of}
use Rattle.rules.specs.Sets.{bit, includes, has}
use Rattle.rules.specs.Numbers.{in_phase, in_state}
use Rattle.rules.specs.NewPn.{new_pn}
use Rattle.rules.specs.Fields.{with_leads, with_state, with_phase, with_kept, with_best}
use Rattle.rules.specs.Fields.{with_answered, with_accepts, with_waiting, with_agreeing}
use Rattle.rules.specs.Fields.{with_heard, with_peers, promised, lasting, keeping, storing}
use Rattle.rules.specs.Parts.{others, all_unknown, under_of, none, span, dropped}
use Rattle.rules.specs.Parts.{room_next}
use Rattle.rules.specs.Turns.{unless, settled, done, mail_of, mail_from}
use Rattle.rules.specs.Types.{Act, Best, Book, BoxState, Kept, Kind, Out, Phase}
use Rattle.rules.specs.Types.{Refusal, Setting, State, Turn, Verdict}

-- "Elect c: .. c alone is leader; every box becomes Recovering (Active if exactly one is present),
-- phase Election, waiting offer and record being agreed 0"
unfoldable pub elected : BoxState → Setting → ℕ → BoxState
elected b s c =
    with_leads (eqb s.me c)
    (with_state (pick (eqb (ones s.present) 1) State.Active State.Recovering)
    (with_phase Phase.Election
    (with_waiting 0
    (with_agreeing 0 b))))

-- "Recover c: leader, Election, Recovering, more than one present."
unfoldable pub can_recover : BoxState → Setting → Bool
can_recover b s =
    even s.epoch && b.leads && in_phase b.phase Phase.Election
    && in_state b.state State.Recovering && ltb 1 (ones s.present)

-- "Promised pn becomes new(promised pn); phase SendCollect." Refusal 6 where it would be too large.
unfoldable pub recover : BoxState → Setting → Turn
recover b s =
    settled b
    (unless (can_recover b s) Refusal.Condition
    (unless (leb (new_pn b.kept.pn s.me) most_pn) Refusal.NewPn
    Verdict.Go))
    (done
    (with_kept (promised (new_pn b.kept.pn s.me) b.kept)
    (with_phase Phase.SendCollect b))
    Book.Keep Out.Nothing)

-- "Collect c: leader, Recovering, SendCollect."
unfoldable pub can_collect : BoxState → Setting → Bool
can_collect b s =
    even s.epoch && b.leads && in_state b.state State.Recovering
    && in_phase b.phase Phase.SendCollect

-- "If last+1 is held it becomes the best unagreed, its pn the stored pn if the stored number is
-- last+1, else 0; if not held, cleared."
unfoldable pub best_held : Kept → Option ℕ → Best
best_held k (Some r) = record { pn = under_of k; number = k.last + 1; value = r }
best_held k None = none

-- "Peers unknown", of those that answered "the leader included" (Q-1). "Collect(pn, last) to
-- others. Phase Collect."
unfoldable pub collect : BoxState → Setting → Option ℕ → Turn
collect b s mine =
    settled b (unless (can_collect b s) Refusal.Condition Verdict.Go)
    (done
    (with_peers all_unknown
    (with_answered (bit s.me)
    (with_best (best_held b.kept mine)
    (with_phase Phase.Collect b))))
    Book.Keep
    (Out.To (others s) (mail_of Kind.Collect b.kept.pn b.kept.last 0)))

-- "Start r: last+1 holds r; stored number last+1, stored pn = promised pn; record being agreed r;
-- accept set only c; phase Begin; Begin(pn, last, r) to others." It carries "the sender's first"
-- (Q-4).
unfoldable pub started : BoxState → Setting → ℕ → Turn
started b s r =
    done
    (with_kept (storing b.kept.pn (b.kept.last + 1) b.kept)
    (with_agreeing r
    (with_accepts (bit s.me)
    (with_phase Phase.Begin b))))
    (Book.Put 0 (span b.kept.first b.kept.last) r)
    (Out.To (others s) (mail_from b.kept.first Kind.Begin b.kept.pn b.kept.last 0))

-- "Active, Lease(last) to others, phase Lease"; the senders of LeaseAcks are noted "in a set that
-- starts as itself" (Q-12)
unfoldable pub leased : BoxState → Setting → Turn
leased b s =
    done
    (with_state State.Active
    (with_heard (bit s.me)
    (with_phase Phase.Lease b)))
    Book.Keep
    (Out.To (others s) (mail_of Kind.Lease 0 b.kept.last 0))

-- "Ready c: leader, Collect", and the set of those that answered "equals the present set" (Q-1)
unfoldable pub can_ready : BoxState → Setting → Bool
can_ready b s =
    even s.epoch && b.leads && in_phase b.phase Phase.Collect
    && eqb b.answered s.present

-- "the best unagreed number is last+1 and its record not 0"
unfoldable pub has_previous : BoxState → Bool
has_previous b = eqb b.best.number (b.kept.last + 1) && not (eqb b.best.value 0)

-- "Peers unknown. If [so]: UpdatingPrevious and start that record. Else Active, Lease(last) to
-- others, phase Lease." Refusal 7 only where it starts a record (Q-4).
unfoldable pub ready : BoxState → Setting → Turn
ready b s =
    settled b
    (unless (can_ready b s) Refusal.Condition
    (unless (not (has_previous b) || room_next s.j b.kept.first b.kept.last) Refusal.Book
    Verdict.Go))
    (pick (has_previous b)
    (started (with_state State.UpdatingPrevious (with_peers all_unknown b)) s b.best.value)
    (leased (with_peers all_unknown b) s))

-- "Offer c r: leader, Active, no waiting offer."
unfoldable pub can_offer : BoxState → Setting → Bool
can_offer b s = even s.epoch && b.leads && in_state b.state State.Active && eqb b.waiting 0

-- "r waits." Refusal 10 comes before the condition.
unfoldable pub offer : BoxState → Setting → ℕ → ℕ → Turn
offer b s left right =
    settled b
    (unless (ltb 0 left && ltb 0 right) Refusal.Frame
    (unless (can_offer b s) Refusal.Condition
    Verdict.Go))
    (done (with_waiting (record_of left right) b) Book.Keep Out.Nothing)

-- "Propose c: leader, Active, phase Lease or Election, an offer waits"; "allowed in LeaseDone too"
-- (Q-12)
unfoldable pub can_propose : BoxState → Setting → Bool
can_propose b s =
    even s.epoch && b.leads && in_state b.state State.Active
    && (in_phase b.phase Phase.Lease || in_phase b.phase Phase.LeaseDone
    || in_phase b.phase Phase.Election)
    && not (eqb b.waiting 0)

-- "The offer is taken out; Updating; start it." Refusal 7, as Q-4 has it.
unfoldable pub propose : BoxState → Setting → Turn
propose b s =
    settled b
    (unless (can_propose b s) Refusal.Condition
    (unless (room_next s.j b.kept.first b.kept.last) Refusal.Book
    Verdict.Go))
    (started (with_state State.Updating (with_waiting 0 b)) s b.waiting)

-- "Agree c: leader, phase Begin, Updating or UpdatingPrevious, accept set includes all present,
-- last+1 held."
unfoldable pub can_agree : BoxState → Setting → Option ℕ → Bool
can_agree b s mine =
    even s.epoch && b.leads && in_phase b.phase Phase.Begin
    && (in_state b.state State.Updating || in_state b.state State.UpdatingPrevious)
    && includes b.accepts s.present && is_some mine

-- "last + 1; record being agreed 0; Commit(pn, last, records 1..last) to others; Refresh, phase
-- Commit." Its records are those "from [first] on" (Q-4).
unfoldable pub agree : BoxState → Setting → Option ℕ → Turn
agree b s mine =
    settled b (unless (can_agree b s mine) Refusal.Condition Verdict.Go)
    (done
    (with_kept (lasting (b.kept.last + 1) b.kept)
    (with_agreeing 0
    (with_state State.Refresh
    (with_phase Phase.Commit b))))
    Book.Keep
    (Out.To (others s)
    (mail_from b.kept.first Kind.Commit b.kept.pn (b.kept.last + 1) 0)))

-- "Finish c: leader, Refresh, Commit."
unfoldable pub can_finish : BoxState → Setting → Bool
can_finish b s =
    even s.epoch && b.leads && in_state b.state State.Refresh
    && in_phase b.phase Phase.Commit

-- "Active, Lease to others, phase Lease."
unfoldable pub finish : BoxState → Setting → Turn
finish b s = settled b (unless (can_finish b s) Refusal.Condition Verdict.Go) (leased b s)

-- "The step `heard c` is allowed in phase Lease when the set includes all present" (Q-12) ..
unfoldable pub can_heard : BoxState → Setting → Bool
can_heard b s =
    even s.epoch && b.leads && in_phase b.phase Phase.Lease
    && includes b.heard s.present

-- .. "and changes the phase to LeaseDone"
unfoldable pub lease_heard : BoxState → Setting → Turn
lease_heard b s =
    settled b (unless (can_heard b s) Refusal.Condition Verdict.Go)
    (done (with_phase Phase.LeaseDone b) Book.Keep Out.Nothing)

-- "The step `trim c k` at a present box in an even epoch, with first < k and k ≤ last" (Q-4) ..
unfoldable pub can_trim : BoxState → Setting → ℕ → Bool
can_trim b s k =
    even s.epoch && has s.present s.me && ltb b.kept.first k && leb k b.kept.last

-- .. "sets first to k"
unfoldable pub trim : BoxState → Setting → ℕ → Turn
trim b s k =
    settled b (unless (can_trim b s k) Refusal.Condition Verdict.Go)
    (done (with_kept (keeping k b.kept) b) (Book.Drop (dropped k b.kept)) Out.Nothing)

-- each step of a box has its rule; `mine` is what the box holds at its last+1
unfoldable pub acted : Act → BoxState → Setting → Option ℕ → Turn
acted Act.Recover b s mine = recover b s
acted Act.Collect b s mine = collect b s mine
acted Act.Ready b s mine = ready b s
acted (Act.Offer left right) b s mine = offer b s left right
acted Act.Propose b s mine = propose b s
acted Act.Agree b s mine = agree b s mine
acted Act.Finish b s mine = finish b s
acted Act.Heard b s mine = lease_heard b s
acted (Act.Trim k) b s mine = trim b s k
