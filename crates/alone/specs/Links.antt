-- "The site step adds the links": what becomes of the outcome of a box's own step where links are
-- added to it.
use Rattle.std.specs.Prelude.{ℕ, Bool, not, ◌&&◌, ◌||◌, cond, List, ◌++◌, ltb, eqb, length}
use Rattle.rules.specs.Every.{every}
use Rattle.rules.specs.Sets.{has}
use Rattle.rules.specs.Answers.{is_accepted}
use Rattle.rules.specs.Box.{Letter}
use Rattle.rules.specs.Own.{OwnOutcome}
use Rattle.rules.specs.Site.{Site, Outcome, upd}
use Rattle.rules.specs.declared.model.Act.{Act}
use Rattle.rules.specs.declared.model.Answer.{Answer}
use Rattle.rules.specs.declared.model.Call.{Call}
use Rattle.rules.specs.declared.model.Refusal.{Refusal}

-- the letters under way from each box to each other, whatever a letter is
abbrev pub LinksOf : Type 0 → Type 0
LinksOf M = ℕ → ℕ → List M

-- letters of box c to each box of a set go onto its links, behind those that are there
abbrev pub sent_to : {M : Type 0} → LinksOf M → ℕ → ℕ → List M → LinksOf M
sent_to link c to ms a b = cond (eqb a c && has to b) (link a b ++ ms) (link a b)

-- no letter to the set would go onto a full link
abbrev pub room_to : {M : Type 0} → ℕ → ℕ → LinksOf M → ℕ → ℕ → Bool
room_to n L link c to = every n (λ b. not (has to b) || ltb (length (link c b)) L)

-- .. the letters of the outcome o
abbrev pub Links : Type 0
Links = LinksOf Letter

abbrev pub sent : Links → ℕ → OwnOutcome → Links
sent link c o = sent_to link c o.to o.letters

abbrev pub room_for : ℕ → ℕ → Links → ℕ → OwnOutcome → Bool
room_for n L link c o = room_to n L link c o.to

-- "a full link holds the call back" (8)
abbrev pub held_back : Bool → Answer → Answer
held_back room a = cond (is_accepted a && not room) (Answer.Refused Refusal.Link) a

-- what stands after an answer: all as it was, what came is gone, or what was done
unfoldable pub after {ℓ} : {A : Type ℓ} → Answer → A → A → A → A
after (Answer.Refused why) was gone new = was
after (Answer.Discarded why) was gone new = gone
after Answer.Done was gone new = new
after Answer.Taken was gone new = new

-- the site with box c's outcome o
abbrev pub joined_by : Site → ℕ → OwnOutcome → Site
joined_by s c o = record {
  n = s.n;
  J = s.J;
  L = s.L;
  epoch = s.epoch;
  present = s.present;
  box = upd s.box c o.next;
  link = sent s.link c o;
}

abbrev pub site_answer : Site → ℕ → OwnOutcome → Answer
site_answer base c o = held_back (room_for base.n base.L base.link c o) o.answer

-- what the site makes of box c's outcome o; base is the site without the letter that came
abbrev pub linked : Site → Site → ℕ → OwnOutcome → Outcome
linked s base c o = record {
  answer = site_answer base c o;
  next = after (site_answer base c o) s base (joined_by base c o);
}

-- the call of box c's own step
abbrev pub call_of : ℕ → Act → Call
call_of c Act.Recover = Call.Recover c
call_of c Act.Collect = Call.Collect c
call_of c Act.Ready = Call.Ready c
call_of c (Act.Offer left right) = Call.Offer c left right
call_of c Act.Propose = Call.Propose c
call_of c Act.Agree = Call.Agree c
call_of c Act.Finish = Call.Finish c
call_of c Act.Heard = Call.Heard c
call_of c (Act.Trim k) = Call.Trim c k
