-- A box by itself: "its fields, the site's sizes, epoch and present set, and one event or mail in;
-- its fields and at most one mail to each peer out". The site's step plays the same turn (Box) and
-- adds the links, 4, 5 and 8.
use Rattle.std.specs.Prelude.{ℕ, Bool, true, ◌&&◌, List, [], ◌∷◌, eqb, leb}
use Rattle.std.specs.Int.Count.{ones}
use Rattle.rules.specs.Pick.{pick}
use Rattle.rules.specs.Every.{all}
use Rattle.rules.specs.Sizes.{most_epoch, majority_of, even, within, sizes_form}
use Rattle.rules.specs.Sets.{has, set_form}
use Rattle.rules.specs.Steps.{elected}
use Rattle.rules.specs.Box.{Box, Letter, Event, own, mail, letter_of, turn_of, turned, brought}
use Rattle.rules.specs.Site.{fresh_box, is_box, is_link}
use Rattle.rules.specs.Form.{form_box, form_letter}
use Rattle.rules.specs.Needs.{Need, need, ruled}
use Rattle.rules.specs.Step.{agreed_as}
use Rattle.rules.specs.Types.{Act, Answer, Out, Refusal, Setting, Turn}

-- the answer, the box after it, and the letters to each box of a set: one, or none where the set is
-- empty
pub record OwnOutcome : Type 0 where
  pub answer : Answer
  pub next : Box
  pub to : ℕ
  pub letters : List Letter

-- nothing changes, nothing is sent
abbrev pub unmoved : Box → Answer → OwnOutcome
unmoved x a = record { answer = a; next = x; to = 0; letters = [] }

-- the boxes that a turn writes to
abbrev pub receivers : Out → ℕ
receivers Out.Nothing = 0
receivers (Out.To set m) = set

-- the letter that goes to them, with its records of rs
abbrev pub letters_of : Out → List ℕ → List Letter
letters_of Out.Nothing rs = []
letters_of (Out.To set m) rs = pick (eqb set 0) [] (letter_of m rs ∷ [])

-- what comes of the box's turn t
unfoldable pub own_turn : Answer → Box → Turn → List ℕ → OwnOutcome
own_turn (Answer.Refused why) x t ms = unmoved x (Answer.Refused why)
own_turn (Answer.Discarded why) x t ms = unmoved x (Answer.Discarded why)
own_turn Answer.Done x t ms = record {
  answer = Answer.Done;
  next = turned x t ms;
  to = receivers t.out;
  letters = letters_of t.out (turned x t ms).records;
}
own_turn Answer.Taken x t ms = record {
  answer = Answer.Taken;
  next = turned x t ms;
  to = receivers t.out;
  letters = letters_of t.out (turned x t ms).records;
}

abbrev pub form_event : Setting → Event → Bool
form_event s (own a) = true
form_event s (mail sender y) = form_letter s.j y

abbrev pub right_numbers : Setting → Event → Bool
right_numbers s (own a) = is_box s.n s.me
right_numbers s (mail sender y) = is_link s.n sender s.me

-- by form, of what concerns one box alone
unfoldable pub form_own : Setting → Box → Event → Bool
form_own s x e =
    all (within 1 most_epoch s.epoch
    ∷ set_form s.n s.present
    ∷ form_box s.n s.j s.me x
    ∷ form_event s e
    ∷ [])

-- what everything asked of a box alone needs first, and then more: 13, 1, and 2 of the numbers
abbrev pub own_needs : Setting → Box → Event → Bool → List Need → List Need
own_needs s x e numbers more =
    need Refusal.Sizes (sizes_form s.n s.j s.l)
    ∷ need Refusal.Form (form_own s x e)
    ∷ need Refusal.Box numbers
    ∷ more

-- where no letter comes; every act asks the same form
abbrev pub quiet_needs : Setting → Box → Bool → List Need → List Need
quiet_needs s x numbers more = own_needs s x (own Act.Recover) numbers more

-- 13, 1, 2, and then what the turn says
unfoldable pub own_step : Setting → Box → Event → OwnOutcome
own_step s x e =
    ruled (λ why. unmoved x (Answer.Refused why)) (own_needs s x e (right_numbers s e) [])
    (own_turn (turn_of s x e).answer x (turn_of s x e) (brought e))

-- ---- a box alone is started, told of an election, and asked

-- a fresh box: 13, as of a fresh site
unfoldable pub own_fresh : ℕ → ℕ → ℕ → Box → OwnOutcome
own_fresh n J L x =
    ruled (λ why. unmoved x (Answer.Refused why)) (need Refusal.Sizes (sizes_form n J L) ∷ [])
    (unmoved fresh_box Answer.Done)

-- the box x of s when c is elected
abbrev pub elected_box : Setting → ℕ → Box → Box
elected_box s c x = record { head = elected x.head s c; records = x.records }

-- s is what there is to know after an election of c, so its epoch is even; "Elect c: .. c present"
-- (3), and 4 of the present set that the box is told
abbrev pub told_needs : Setting → ℕ → List Need
told_needs s c =
    need Refusal.Condition (even s.epoch)
    ∷ need Refusal.Condition (has s.present c)
    ∷ need Refusal.Majority (leb (majority_of s.n) (ones s.present))
    ∷ []

-- what the election makes of the box
unfoldable pub own_elected : Setting → Box → ℕ → OwnOutcome
own_elected s x c =
    ruled (λ why. unmoved x (Answer.Refused why))
    (quiet_needs s x (is_box s.n s.me && is_box s.n c) (told_needs s c))
    (unmoved (elected_box s c x) Answer.Done)

-- a holds line: 14 where it is untrue
unfoldable pub own_holds : Setting → Box → ℕ → ℕ → ℕ → Answer
own_holds s x k left right =
    ruled Answer.Refused
    (quiet_needs s x (is_box s.n s.me)
    (need Refusal.Untrue (agreed_as x k left right)
    ∷ []))
    Answer.Done
