-- A call on a site: its answer and the site after it. A box takes its turn by its own rules; the
-- site adds form, the box numbers, the links, and refusals 4, 5 and 8.
use Rattle.std.specs.Prelude.{ℕ, ◌+◌, Bool, not, ◌&&◌, cond, List, [], ◌∷◌, leb, ltb, eqb, length}
use Rattle.std.specs.Int.Count.{ones}
use Rattle.rules.specs.Sizes.{majority_of, most_epoch, even, left_of, right_of}
use Rattle.rules.specs.Sets.{has, joined, without}
use Rattle.rules.specs.Steps.{elected}
use Rattle.rules.specs.Box.{Box, Letter, own, mail, turn_of, record_at}
use Rattle.rules.specs.Site.{Site, Outcome, is_box, is_link, setting, room, played, popped}
use Rattle.rules.specs.Site.{doubled}
use Rattle.rules.specs.Form.{form}
use Rattle.rules.specs.Needs.{Need, need, ruled}
use Rattle.rules.specs.Types.{Act, Answer, Call, Refusal, Setting, Turn}

-- "A refusal returns its number and nothing else; site, links and lent buffers stay."
abbrev pub refused : Site → Refusal → Outcome
refused s why = record { answer = Answer.Refused why; next = s }

abbrev pub did : Site → Outcome
did s = record { answer = Answer.Done; next = s }

-- box c's turn t is played on the site, where its mails have room; base is the site without the
-- mail that came
unfoldable pub by_answer : Answer → Site → Site → ℕ → Turn → List ℕ → Outcome
by_answer (Answer.Refused why) s base c t ms = refused s why
by_answer (Answer.Discarded why) s base c t ms =
    record { answer = Answer.Discarded why; next = base }
by_answer Answer.Done s base c t ms =
    ruled (refused s) (need Refusal.Link (room base c t.out) ∷ [])
    (record { answer = Answer.Done; next = played base c t ms })
by_answer Answer.Taken s base c t ms =
    ruled (refused s) (need Refusal.Link (room base c t.out) ∷ [])
    (record { answer = Answer.Taken; next = played base c t ms })

abbrev pub by_turn : Site → Site → ℕ → Turn → List ℕ → Outcome
by_turn s base c t ms = by_answer t.answer s base c t ms

-- what every call of one box needs first, and every call of one link
abbrev pub at_box : Site → ℕ → List Need → List Need
at_box s c more = need Refusal.Form (form s) ∷ need Refusal.Box (is_box s.n c) ∷ more

abbrev pub at_link : Site → ℕ → ℕ → List Need → List Need
at_link s a b more = need Refusal.Form (form s) ∷ need Refusal.Box (is_link s.n a b) ∷ more

-- a step of box c by itself
abbrev pub acting : Site → ℕ → Act → Outcome
acting s c a =
    ruled (refused s) (at_box s c [])
    (by_turn s s c (turn_of (setting s c) (s.box c) (own a)) [])

-- "The head leaves the link." "In Deliver, a refused mail stays at the head."
unfoldable pub delivered : Site → ℕ → ℕ → List Letter → Outcome
delivered s a b [] = refused s Refusal.Condition
delivered s a b (y ∷ ys) =
    by_turn s (popped s a b) b (turn_of (setting s b) (s.box b) (mail a y)) y.records

-- "c alone is leader; every box ..; links empty; epoch + 1"
unfoldable pub elect : Site → ℕ → Site
elect s c = record {
  n = s.n;
  J = s.J;
  L = s.L;
  epoch = s.epoch + 1;
  present = s.present;
  box = λ b. record {
    head = cond (is_box s.n b) (elected (s.box b).head (setting s b) c) (s.box b).head;
    records = (s.box b).records;
  };
  link = λ a b. [];
}

-- "an even epoch rises by 1, an odd one stays"
abbrev pub risen : ℕ → ℕ
risen e = cond (even e) (e + 1) e

-- "presence changes" to the set w. "Nothing stored is lost."
unfoldable pub presented : Site → ℕ → Site
presented s w = record {
  n = s.n;
  J = s.J;
  L = s.L;
  epoch = risen s.epoch;
  present = w;
  box = s.box;
  link = s.link;
}

-- what the calls need beside form and a box or a link, in the table's order; s is what box c knows
abbrev pub elect_needs : Setting → List Need
elect_needs s =
    need Refusal.Condition (not (even s.epoch))
    ∷ need Refusal.Condition (has s.present s.me)
    ∷ need Refusal.Majority (leb (majority_of s.n) (ones s.present))
    ∷ []

abbrev pub stop_needs : Setting → List Need
stop_needs s =
    need Refusal.Condition (has s.present s.me)
    ∷ need Refusal.Epoch (ltb s.epoch most_epoch)
    ∷ []

abbrev pub return_needs : Setting → List Need
return_needs s =
    need Refusal.Condition (not (has s.present s.me))
    ∷ need Refusal.Epoch (ltb s.epoch most_epoch)
    ∷ []

abbrev pub timeout_needs : Setting → List Need
timeout_needs s =
    need Refusal.Condition (has s.present s.me)
    ∷ need Refusal.Condition (even s.epoch)
    ∷ need Refusal.Epoch (ltb s.epoch most_epoch)
    ∷ []

abbrev pub lose_needs : List Letter → List Need
lose_needs link = need Refusal.Condition (not (eqb (length link) 0)) ∷ []

abbrev pub repeat_needs : ℕ → List Letter → List Need
repeat_needs L link =
    need Refusal.Condition (not (eqb (length link) 0))
    ∷ need Refusal.Link (ltb (length link) L)
    ∷ []

-- the sixteen calls
unfoldable pub step : Site → Call → Outcome
step s (Call.Elect c) =
    ruled (refused s) (at_box s c (elect_needs (setting s c))) (did (elect s c))
step s (Call.Recover c) = acting s c Act.Recover
step s (Call.Collect c) = acting s c Act.Collect
step s (Call.Ready c) = acting s c Act.Ready
step s (Call.Offer c left right) = acting s c (Act.Offer left right)
step s (Call.Propose c) = acting s c Act.Propose
step s (Call.Agree c) = acting s c Act.Agree
step s (Call.Finish c) = acting s c Act.Finish
step s (Call.Heard c) = acting s c Act.Heard
step s (Call.Trim c k) = acting s c (Act.Trim k)
step s (Call.Stop c) =
    ruled (refused s) (at_box s c (stop_needs (setting s c)))
    (did (presented s (without s.present c)))
step s (Call.Return c) =
    ruled (refused s) (at_box s c (return_needs (setting s c)))
    (did (presented s (joined s.present c)))
step s (Call.Timeout c) =
    ruled (refused s) (at_box s c (timeout_needs (setting s c)))
    (did (presented s s.present))
step s (Call.Lose a b) =
    ruled (refused s) (at_link s a b (lose_needs (s.link a b))) (did (popped s a b))
-- "doubles the head of a link in place, in either parity" (Q-1)
step s (Call.Repeat a b) =
    ruled (refused s) (at_link s a b (repeat_needs s.L (s.link a b))) (did (doubled s a b))
step s (Call.Deliver a b) =
    ruled (refused s) (at_link s a b []) (delivered s a b (s.link a b))

-- a run of calls, the latest first; a refused call leaves the site
unfoldable pub run : Site → List Call → Site
run s [] = s
run s (c ∷ cs) = (step (run s cs) c).next

-- "true when k is agreed at c with that record, so untrue for k 0 or above last, or a frame 0"; and
-- "below first" (Q-4)
unfoldable pub agreed_as : Box → ℕ → ℕ → ℕ → Bool
agreed_as x k left right =
    leb x.head.kept.first k && leb k x.head.kept.last
    && eqb (left_of (record_at x.head.kept.first x.records k)) left
    && eqb (right_of (record_at x.head.kept.first x.records k)) right

-- a holds line: 1, 2, then 14 where it is untrue
unfoldable pub holds : Site → ℕ → ℕ → ℕ → ℕ → Answer
holds s c k left right =
    ruled Answer.Refused
    (at_box s c
    (need Refusal.Untrue (agreed_as (s.box c) k left right)
    ∷ []))
    Answer.Done
