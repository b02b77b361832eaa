-- How a fact comes through a call: a refusal leaves the site, and what is done has passed its
-- needs and its verdict.
use Prim.Native.Nat.{ℕ, ◌<◌}
use mathlib.Core.Path.{◌≡◌, refl, ◌∙◌}
use mathlib.Core.Bool.{Bool, true, false, not}
use mathlib.Core.List.{List, [], ◌∷◌}
use lib.Count.{ones}
use lib.Dec.{leb, ltb}
use lib.ListN.{length}
use borrow.Author.Tests.{ltb-true}
use Rattle.rules.specs.Sizes.{majority_of, most_epoch, even}
use Rattle.rules.specs.Sets.{has, set_form, joined, without}
use Rattle.rules.specs.Answers.{is_accepted, is_refusal}
use Rattle.rules.specs.Turns.{still, settled}
use Rattle.rules.specs.Box.{Box, Letter, Event, own, mail, turn_of, brought}
use Rattle.rules.specs.Site.{Site, Outcome, setting, room, played, popped, doubled}
use Rattle.rules.specs.Form.{form}
use Rattle.rules.specs.Needs.{Need, ruled}
use Rattle.rules.specs.Step.{refused, by_answer, by_turn, at_box, acting, delivered, elect}
use Rattle.rules.specs.Step.{presented}
use Rattle.rules.specs.Step.{step, run}
use Rattle.laws.proofs.Types.{Act, Answer, BoxState, Call, Cause, Refusal, Turn, Verdict}
use Rattle.laws.proofs.Logic.{In, Passed, both-no, cond_elim}
use Rattle.laws.proofs.SetLaws.{set-joined, set-without}
use Rattle.laws.proofs.FormLaws.{Formed, form-says, is-box, is-link}
use Rattle.laws.proofs.View.{Links}

-- an accepted answer is no refusal
pub accepted-kept : (a : Answer) → is_accepted a ≡ true → is_refusal a ≡ false
accepted-kept Answer.Done h = refl
accepted-kept Answer.Taken h = refl
accepted-kept (Answer.Discarded why) h = refl
accepted-kept (Answer.Refused why) h = absurd (both-no h refl)

-- ---- needs

abbrev pub mets : List Need → List Bool
mets [] = []
mets (k ∷ ks) = k.met ∷ mets ks

-- a refusal, or what is done with every need met
pub by_needs {ℓ κ} : {A : Type ℓ} (P : A → Type κ) (refuse : Refusal → A) (ks : List Need) (a : A)
    → ((why : Refusal) → P (refuse why)) → (Passed (mets ks) → P a) → P (ruled refuse ks a)
unfolding ruled
by_needs P refuse [] a old new = new tt
by_needs P refuse (k ∷ ks) a old new =
    cond_elim P k.met (λ e. by_needs P refuse ks a old (λ p. new (e, p))) (λ e. old k.why)

-- ---- turns

-- nothing happens, or the verdict says Go
pub by-verdict {κ} : (P : Turn → Type κ) (b : BoxState) (v : Verdict) (t : Turn)
    → ((a : Answer) → P (still b a)) → (v ≡ Verdict.Go → P t) → P (settled b v t)
unfolding settled
by-verdict P b Verdict.Go t old new = new refl
by-verdict P b (Verdict.Discard why) t old new = old (Answer.Discarded why)
by-verdict P b (Verdict.Refuse why) t old new = old (Answer.Refused why)

-- the site is left by a discard: base, without the mail
abbrev pub discarded : Site → Cause → Outcome
discarded base why = record { answer = Answer.Discarded why; next = base }

abbrev pub played_out : Answer → Site → ℕ → Turn → List ℕ → Outcome
played_out a base c t ms = record { answer = a; next = played base c t ms }

-- the answer in hand
module _ {κ} (Q : Outcome → Type κ) (s base : Site) (c : ℕ) (ms : List ℕ)
    (old : (why : Refusal) → Q (refused s why))
    (less : (why : Cause) → Q (discarded base why)) where
  by-answer : (a : Answer) (t : Turn)
      → (room base c t.out ≡ true → Q (played_out a base c t ms)) → Q (by_answer a s base c t ms)
  unfolding by_answer
  by-answer Answer.Done t new = by_needs Q (refused s) _ _ old (λ p. new p.0)
  by-answer Answer.Taken t new = by_needs Q (refused s) _ _ old (λ p. new p.0)
  by-answer (Answer.Discarded why) t new = less why
  by-answer (Answer.Refused why) t new = old why

  pub answer-turn : (t : Turn)
      → (room base c t.out ≡ true → Q (played_out t.answer base c t ms))
      → Q (by_turn s base c t ms)
  answer-turn t = by-answer t.answer t

  -- a turn within a turn
  pub answer-inner : (b : BoxState) (v : Verdict) (t : Turn)
      → (v ≡ Verdict.Go → Q (by_turn s base c t ms)) → Q (by_turn s base c (settled b v t) ms)
  unfolding settled by_answer
  answer-inner b Verdict.Go t new = new refl
  answer-inner b (Verdict.Discard why) t new = less why
  answer-inner b (Verdict.Refuse why) t new = old why

  pub answer-settled : (b : BoxState) (v : Verdict) (t : Turn)
      → (v ≡ Verdict.Go → room base c t.out ≡ true → Q (played_out t.answer base c t ms))
      → Q (by_turn s base c (settled b v t) ms)
  answer-settled b v t new = answer-inner b v t (λ go. answer-turn t (new go))

pub answer-acting {κ} : (Q : Outcome → Type κ) (s : Site) (c : ℕ) (b : BoxState) (v : Verdict)
    (t : Turn)
    → ((why : Refusal) → Q (refused s why)) → ((why : Cause) → Q (discarded s why))
    → (form s ≡ true → In c s.n → v ≡ Verdict.Go → Q (played_out t.answer s c t []))
    → Q (ruled (refused s) (at_box s c []) (by_turn s s c (settled b v t) []))
answer-acting Q s c b v t old less new =
    by_needs Q (refused s) _ _ old
    (λ p. answer-settled Q s s c [] old less b v t (λ go r. new p.0 (is-box p.1.0) go))

-- ---- the same of the site alone

pub by-ruled {κ} : (P : Site → Type κ) (s : Site) (ks : List Need) (o : Outcome)
    → P s → (Passed (mets ks) → P o.next) → P (ruled (refused s) ks o).next
by-ruled P s ks o old new =
    by_needs (λ (r : Outcome). P r.next) (refused s) ks o (λ why. old) new

module _ {κ} (P : Site → Type κ) (s base : Site) (c : ℕ) where
  pub by-turn : (t : Turn) (ms : List ℕ)
      → P s → P base → (room base c t.out ≡ true → P (played base c t ms))
      → P (by_turn s base c t ms).next
  by-turn t ms old less =
      answer-turn (λ (r : Outcome). P r.next) s base c ms (λ why. old) (λ why. less) t

  pub by-inner : (b : BoxState) (v : Verdict) (t : Turn) (ms : List ℕ)
      → P s → P base → (v ≡ Verdict.Go → P (by_turn s base c t ms).next)
      → P (by_turn s base c (settled b v t) ms).next
  by-inner b v t ms old less =
      answer-inner (λ (r : Outcome). P r.next) s base c ms (λ why. old) (λ why. less) b v t

  pub by-settled : (b : BoxState) (v : Verdict) (t : Turn) (ms : List ℕ)
      → P s → P base → (v ≡ Verdict.Go → P (played base c t ms))
      → P (by_turn s base c (settled b v t) ms).next
  by-settled b v t ms old less new =
      by-inner b v t ms old less (λ go. by-turn t ms old less (λ r. new go))

pub by-acting {κ} : (P : Site → Type κ) (s : Site) (c : ℕ) (b : BoxState) (v : Verdict) (t : Turn)
    → P s → (form s ≡ true → In c s.n → v ≡ Verdict.Go → P (played s c t []))
    → P (ruled (refused s) (at_box s c []) (by_turn s s c (settled b v t) [])).next
by-acting P s c b v t old =
    answer-acting (λ (r : Outcome). P r.next) s c b v t (λ why. old) (λ why. old)

-- ---- every call at once

-- the site with other boxes and links
abbrev pub changed : Site → (ℕ → Box) → Links → Site
changed s box link = record {
  n = s.n;
  J = s.J;
  L = s.L;
  epoch = s.epoch;
  present = s.present;
  box = box;
  link = link;
}

-- the call plays the event at box c; the links are those without the mail that came
pub data Plays (s : Site) (c : ℕ) : Call → Event → Links → Type 0 where
  recovers : Plays s c (Call.Recover c) (own Act.Recover) s.link
  collects : Plays s c (Call.Collect c) (own Act.Collect) s.link
  readies : Plays s c (Call.Ready c) (own Act.Ready) s.link
  offers : (left right : ℕ)
      → Plays s c (Call.Offer c left right) (own (Act.Offer left right)) s.link
  proposes : Plays s c (Call.Propose c) (own Act.Propose) s.link
  agrees : Plays s c (Call.Agree c) (own Act.Agree) s.link
  finishes : Plays s c (Call.Finish c) (own Act.Finish) s.link
  hears : Plays s c (Call.Heard c) (own Act.Heard) s.link
  trims : (k : ℕ) → Plays s c (Call.Trim c k) (own (Act.Trim k)) s.link
  delivers : {a : ℕ} {y : Letter} {ys : List Letter} → In a s.n → (a ≡ c → ⊥)
      → s.link a c ≡ y ∷ ys
      → Plays s c (Call.Deliver a c) (mail a y) (popped s a c).link

-- an election that is not refused
pub record Elects (s : Site) (c : ℕ) : Type 0 where
  pub box : In c s.n
  pub due : not (even s.epoch) ≡ true
  pub here : has s.present c ≡ true
  pub majority : leb (majority_of s.n) (ones s.present) ≡ true

module _ {κ} (P : Site → Type κ) (s : Site) (old : P s)
    (elects : (c : ℕ) → Formed s → Elects s c → P (elect s c))
    (presents : (w : ℕ) → Formed s → set_form s.n w ≡ true → ltb s.epoch most_epoch ≡ true
    → P (presented s w))
    (pops : (a b : ℕ) → Formed s → P (popped s a b))
    (doubles : (a b : ℕ) → Formed s → length (s.link a b) < s.L → P (doubled s a b)) where
  -- what a call that is played needs and does
  abbrev pub Playing : Call → Type κ
  Playing d =
      (c : ℕ) (e : Event) (link : Links) → Plays s c d e link → Formed s → In c s.n
      → room (changed s s.box link) c (turn_of (setting s c) (s.box c) e).out ≡ true
      → P (played (changed s s.box link) c (turn_of (setting s c) (s.box c) e) (brought e))

  by-act : {c : ℕ} {a : Act} {d : Call} → Plays s c d (own a) s.link → Playing d
      → P (acting s c a).next
  by-act {c} {a} w plays =
      by-ruled P s _ _ old
      (λ p. by-turn P s s c _ _ old old
      (λ r. plays c (own a) s.link w (form-says p.0) (is-box p.1.0) r))

  by-delivered : (a b : ℕ) → Playing (Call.Deliver a b) → Formed s → In a s.n → In b s.n
      → (a ≡ b → ⊥)
      → (ys : List Letter) → s.link a b ≡ ys → P (delivered s a b ys).next
  unfolding delivered
  by-delivered a b plays f ha hb ab [] e = old
  by-delivered a b plays f ha hb ab (y ∷ ys) e =
      by-turn P s (popped s a b) b _ _ old (pops a b f)
      (λ r. plays b (mail a y) (popped s a b).link (delivers ha ab e) f hb r)

  pub by-step : (d : Call) → Playing d → P (step s d).next
  unfolding step
  by-step (Call.Elect c) plays =
      by-ruled P s _ _ old
      (λ p. elects c (form-says p.0) (record {
        box = is-box p.1.0;
        due = p.1.1.0;
        here = p.1.1.1.0;
        majority = p.1.1.1.1.0;
      }))
  by-step (Call.Recover c) plays = by-act recovers plays
  by-step (Call.Collect c) plays = by-act collects plays
  by-step (Call.Ready c) plays = by-act readies plays
  by-step (Call.Offer c l r) plays = by-act (offers l r) plays
  by-step (Call.Propose c) plays = by-act proposes plays
  by-step (Call.Agree c) plays = by-act agrees plays
  by-step (Call.Finish c) plays = by-act finishes plays
  by-step (Call.Heard c) plays = by-act hears plays
  by-step (Call.Trim c k) plays = by-act (trims k) plays
  by-step (Call.Stop c) plays =
      by-ruled P s _ _ old
      (λ p. let f = form-says p.0 in
      presents (without s.present c) f (set-without s.n s.present c f.present)
      p.1.1.1.0)
  by-step (Call.Return c) plays =
      by-ruled P s _ _ old
      (λ p. let f = form-says p.0 in
      presents (joined s.present c) f
      (set-joined s.n s.present c f.sizes.few-boxes f.present (is-box p.1.0))
      p.1.1.1.0)
  by-step (Call.Timeout c) plays =
      by-ruled P s _ _ old
      (λ p. let f = form-says p.0 in presents s.present f f.present p.1.1.1.1.0)
  by-step (Call.Lose a b) plays = by-ruled P s _ _ old (λ p. pops a b (form-says p.0))
  by-step (Call.Repeat a b) plays =
      by-ruled P s _ _ old
      (λ p. doubles a b (form-says p.0) (ltb-true (length (s.link a b)) s.L p.1.1.1.0))
  by-step (Call.Deliver a b) plays =
      by-ruled P s _ _ old
      (λ p. let l = is-link p.1.0 in
      by-delivered a b plays (form-says p.0) l.0 l.1 l.2 (s.link a b) refl)

-- ---- the sizes stay

pub record SameSizes (s t : Site) : Type 0 where
  pub n : t.n ≡ s.n
  pub J : t.J ≡ s.J
  pub L : t.L ≡ s.L

pub sizes_step : (s : Site) (d : Call) → SameSizes s (step s d).next
unfolding elect presented
sizes_step s d =
    by-step (SameSizes s) s (same s refl refl refl)
    (λ c f e. same _ refl refl refl)
    (λ w f g h. same _ refl refl refl)
    (λ a b f. same _ refl refl refl)
    (λ a b f h. same _ refl refl refl) d
    (λ c e link w f h r. same _ refl refl refl)
  where
    same : (t : Site) → t.n ≡ s.n → t.J ≡ s.J → t.L ≡ s.L → SameSizes s t
    same t n J L = record { n = n; J = J; L = L }

pub sizes_run : (s : Site) (cs : List Call) → SameSizes s (run s cs)
unfolding run
sizes_run s [] = record { n = refl; J = refl; L = refl }
sizes_run s (c ∷ cs) =
    let f = sizes_run s cs in
    let g = sizes_step (run s cs) c in
    record { n = g.n ∙ f.n; J = g.J ∙ f.J; L = g.L ∙ f.L }
