-- A verdict: the first refusal or cause that applies. A turn: the answer, the next box, what is
-- written and sent.
use Rattle.std.specs.Prelude.{ℕ, Bool}
use Rattle.rules.specs.Pick.{pick}
use Rattle.rules.specs.Types.{Answer, Book, BoxState, Cause, Kind, Mail, Out, Refusal, Turn}
use Rattle.rules.specs.Types.{Verdict}

-- "the first that applies: role, phase, number, place"; where none does, what v says
unfoldable pub first_cause : Bool → Bool → Bool → Bool → Verdict → Verdict
first_cause role phase number place v =
    pick role (Verdict.Discard Cause.Role)
    (pick phase (Verdict.Discard Cause.Phase)
    (pick number (Verdict.Discard Cause.Number)
    (pick place (Verdict.Discard Cause.Place)
    v)))

-- a refusal unless t holds; where it does, what v says
unfoldable pub unless : Bool → Refusal → Verdict → Verdict
unless t why v = pick t v (Verdict.Refuse why)

-- nothing changes, nothing is sent
abbrev pub still : BoxState → Answer → Turn
still b a = record { answer = a; next = b; book = Book.Keep; out = Out.Nothing }

-- the turn t where the verdict is Go; "A discard changes nothing more", and neither does a refusal
unfoldable pub settled : BoxState → Verdict → Turn → Turn
settled b Verdict.Go t = t
settled b (Verdict.Discard why) t = still b (Answer.Discarded why)
settled b (Verdict.Refuse why) t = still b (Answer.Refused why)

abbrev pub taken : BoxState → Book → Out → Turn
taken b k o = record { answer = Answer.Taken; next = b; book = k; out = o }

abbrev pub done : BoxState → Book → Out → Turn
done b k o = record { answer = Answer.Done; next = b; book = k; out = o }

-- a mail of the kinds that carry the sender's first: "Last, Commit and Begin" (Q-4)
abbrev pub mail_from : ℕ → Kind → ℕ → ℕ → ℕ → Mail
mail_from first k pn last unagreed = record {
  kind = k;
  pn = pn;
  last = last;
  first = first;
  unagreed = unagreed;
}

-- .. and of the others
abbrev pub mail_of : Kind → ℕ → ℕ → ℕ → Mail
mail_of = mail_from 0
