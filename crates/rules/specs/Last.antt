-- "Mail", the kind Last: what a leader that collects does with a peer's answer.
use Rattle.std.specs.Prelude.{ℕ, ◌+◌, ◌-◌, Bool, false, not, ◌&&◌, ◌||◌, List, leb, ltb, eqb, set}
use Rattle.std.specs.Prelude.{Option, Some, None}
use Rattle.std.specs.Prelude.{get_or}
use Rattle.std.specs.Int.Bits.{bit_and, bit_or}
use Rattle.rules.specs.Pick.{pick}
use Rattle.rules.specs.Sizes.{most_boxes, most_pn, unknown}
use Rattle.rules.specs.Sets.{joined}
use Rattle.rules.specs.Numbers.{in_phase}
use Rattle.rules.specs.NewPn.{new_pn}
use Rattle.rules.specs.Fields.{with_phase, with_kept, with_best, with_answered, with_peers}
use Rattle.rules.specs.Fields.{promised}
use Rattle.rules.specs.Parts.{others, took_kept, took_book, cleared}
use Rattle.rules.specs.Turns.{first_cause, unless, settled, taken, mail_from}
use Rattle.rules.specs.Types.{Best, BoxState, Kind, Mail, Out, Phase, Refusal, Setting}
use Rattle.rules.specs.Types.{Turn, Verdict}

-- "Note the peer's last."
unfoldable pub noted : List ℕ → ℕ → ℕ → List ℕ
noted peers sender l = pick (ltb 0 sender && leb sender most_boxes) (set peers (sender - 1) l) peers

-- the box with the peer's last noted and its records taken
unfoldable pub told : BoxState → ℕ → Mail → BoxState
told b sender m =
    with_peers (noted b.peers sender m.last)
    (with_kept (took_kept m.first m.last b.kept) b)

-- the value v of a peer "whose last is known and below own last", and else 0
unfoldable pub behind : ℕ → ℕ → ℕ → ℕ
behind peer last v = pick (not (eqb peer unknown) && ltb peer last) v 0

-- "each of the others (the sender only if present) whose last is known and below own last, as it is
-- now"
unfoldable pub lagging : List ℕ → ℕ → Setting → ℕ
lagging peers last s =
    bit_and (others s)
    (bit_or (behind (get_or peers 0 0) last 1)
    (bit_or (behind (get_or peers 1 0) last 2)
    (bit_or (behind (get_or peers 2 0) last 4)
    (bit_or (behind (get_or peers 3 0) last 8)
    (behind (get_or peers 4 0) last 16)))))

-- "its last is at least own, its last+1 at least the best unagreed number, and its unagreed pn at
-- least the best"
unfoldable pub improves : ℕ → Best → Mail → Bool
improves last best m =
    leb last m.last && leb best.number (m.last + 1) && leb best.pn m.unagreed

-- "if the mail holds last+1, [and improves on the best], it becomes the best. Wherever it did not,
-- the best is cleared if its number is not above last."
unfoldable pub bettered : ℕ → Best → Mail → Option ℕ → Best
bettered last best m (Some r) =
    pick (improves last best m)
    (record { pn = m.unagreed; number = m.last + 1; value = r })
    (cleared last best)
bettered last best m None = cleared last best

-- "mail pn above promised: promised becomes new(mail pn), phase SendCollect"
unfoldable pub raised : BoxState → ℕ → Mail → BoxState
raised b me m =
    with_kept (promised (new_pn m.pn me) b.kept)
    (with_phase Phase.SendCollect
    (with_best (cleared b.kept.last b.best) b))

-- "Equal": the sender joins "the set of boxes that answered" (Q-1), and the best
unfoldable pub counted : BoxState → ℕ → Mail → Option ℕ → BoxState
counted b sender m next =
    with_answered (joined b.answered sender)
    (with_best (bettered b.kept.last b.best m next) b)

-- a mail pn below promised counts for nothing
unfoldable pub uncounted : BoxState → BoxState
uncounted b = with_best (cleared b.kept.last b.best) b

unfoldable pub replied : BoxState → ℕ → ℕ → Mail → Option ℕ → BoxState
replied b me sender m next =
    pick (ltb b.kept.pn m.pn) (raised b me m)
    (pick (eqb m.pn b.kept.pn) (counted b sender m next)
    (uncounted b))

-- "(role: not leader; phase: not Collect ..", and no more: "the phase cause of a discarded Last is
-- then only 'not Collect'" (Q-1); refusal 6
unfoldable pub last_verdict : BoxState → Setting → Mail → Verdict
last_verdict b s m =
    first_cause (not b.leads)
    (not (in_phase b.phase Phase.Collect))
    false false
    (unless (leb m.pn b.kept.pn || leb (new_pn m.pn s.me) most_pn) Refusal.NewPn
    Verdict.Go)

-- the Commits to lagging boxes carry own last and first as they are now, and the promised pn as it
-- was before the raise
unfoldable pub on_last : BoxState → Setting → ℕ → Mail → Option ℕ → Turn
on_last b s sender m next =
    settled b (last_verdict b s m)
    (taken (replied (told b sender m) s.me sender m next)
    (took_book m.first m.last b.kept)
    (Out.To
    (lagging (noted b.peers sender m.last) (took_kept m.first m.last b.kept).last s)
    (mail_from (took_kept m.first m.last b.kept).first Kind.Commit b.kept.pn
    (took_kept m.first m.last b.kept).last 0)))
