-- Two sites in an odd epoch whose boxes keep the same: every call gets the same of both, but one
-- that looks at the links, and leaves two such sites, or after an election two that go on alike.
use Prim.Native.Nat.{ℕ, zero, suc, ◌<◌}
use mathlib.Core.Path.{◌≡◌, refl, sym, ◌∙◌, subst}
use mathlib.Core.Bool.{Bool, true, false, ◌&&◌}
use mathlib.Core.List.{List, [], ◌∷◌}
use native.Mathlib.Omega.{arith}
use lib.Dec.{ltb}
use lib.ListN.{length, drop}
use Rattle.std.specs.Prelude.{Option}
use Rattle.rules.specs.Pick.{pick}
use Rattle.rules.specs.Sizes.{even, record_of}
use Rattle.rules.specs.Fields.{with_waiting}
use Rattle.rules.specs.Turns.{still, unless, settled, done}
use Rattle.rules.specs.Mails.{on_mail}
use Rattle.rules.specs.Steps.{can_recover, recover, can_collect, collect, can_ready, ready}
use Rattle.rules.specs.Steps.{can_offer}
use Rattle.rules.specs.Steps.{offer, can_propose, propose, can_agree, agree, can_finish, finish}
use Rattle.rules.specs.Steps.{can_heard, lease_heard, can_trim, trim, acted}
use Rattle.rules.specs.Box.{Box, Letter, mine}
use Rattle.rules.specs.Site.{Site, Outcome, setting, popped, doubled}
use Rattle.rules.specs.Form.{form}
use Rattle.rules.specs.Needs.{Need, need, ruled}
use Rattle.rules.specs.Step.{refused, did, by_answer, at_box, acting, delivered, elect}
use Rattle.rules.specs.Step.{presented, step}
use Rattle.laws.proofs.Types.{Act, Answer, Book, BoxState, Call, Out, Refusal, Setting}
use Rattle.laws.proofs.Types.{Verdict}
use Rattle.laws.proofs.Logic.{Or, left, right, both-no, In, Passed}
use Rattle.laws.proofs.FormLaws.{box-is}
use Rattle.laws.proofs.StepLaws.{mets, changed, by-ruled}
use Rattle.laws.proofs.View.{Links}
use Rattle.rest.specs.Rests.{sees_links, SameCall}
use Rattle.rest.proofs.Aside.{elected-two}
use Rattle.rest.proofs.Going.{Going, ruled-two, met}

pub record Resting (x y : Site) : Type 0 where
  pub same : y ≡ changed x y.box y.link
  pub odd : even x.epoch ≡ false
  pub kept : (b : ℕ) → In b x.n → (x.box b).head.kept ≡ (y.box b).head.kept
  pub records : (b : ℕ) → In b x.n → (x.box b).records ≡ (y.box b).records

-- ---- in an odd epoch a box does nothing

-- "Offer 0 7: 10" comes before the condition
oddly : Act → Refusal
oddly Act.Recover = Refusal.Condition
oddly Act.Collect = Refusal.Condition
oddly Act.Ready = Refusal.Condition
oddly (Act.Offer l r) = pick (ltb 0 l && ltb 0 r) Refusal.Condition Refusal.Frame
oddly Act.Propose = Refusal.Condition
oddly Act.Agree = Refusal.Condition
oddly Act.Finish = Refusal.Condition
oddly Act.Heard = Refusal.Condition
oddly (Act.Trim k) = Refusal.Condition

module _ (b : BoxState) (s : Setting) (odd : even s.epoch ≡ false) (m : Option ℕ) where
  no-offer : (l r : ℕ) → offer b s l r ≡ still b (Answer.Refused (oddly (Act.Offer l r)))
  unfolding offer can_offer unless oddly pick settled
  no-offer l r = rw odd (go (ltb 0 l && ltb 0 r))
    where
      go : (t : Bool)
          → settled b (pick t (Verdict.Refuse Refusal.Condition) (Verdict.Refuse Refusal.Frame))
          (done (with_waiting (record_of l r) b) Book.Keep Out.Nothing)
          ≡ still b (Answer.Refused (pick t Refusal.Condition Refusal.Frame))
      go true = refl
      go false = refl

  no-act : (a : Act) → acted a b s m ≡ still b (Answer.Refused (oddly a))
  unfolding acted recover can_recover collect can_collect ready can_ready propose can_propose
      agree can_agree finish can_finish lease_heard can_heard trim can_trim unless
      oddly pick settled
  no-act Act.Recover = rw odd refl
  no-act Act.Collect = rw odd refl
  no-act Act.Ready = rw odd refl
  no-act (Act.Offer l r) = no-offer l r
  no-act Act.Propose = rw odd refl
  no-act Act.Agree = rw odd refl
  no-act Act.Finish = rw odd refl
  no-act Act.Heard = rw odd refl
  no-act (Act.Trim k) = rw odd refl

module _ (s : Site) (odd : even s.epoch ≡ false) where
  odd-acting : (c : ℕ) (a : Act)
      → acting s c a ≡ ruled (refused s) (at_box s c []) (refused s (oddly a))
  unfolding by_answer
  odd-acting c a = rw (no-act (s.box c).head (setting s c) odd (mine (s.box c)) a) refl

  odd-delivered : (a b : ℕ) (ys : List Letter) → delivered s a b ys ≡ refused s Refusal.Condition
  unfolding delivered by_answer on_mail unless pick settled
  odd-delivered a b [] = refl
  odd-delivered a b (m ∷ behind) = rw odd refl

-- ---- two sites

-- what a call leaves of both, and whether there was an election; e is the epoch before it
abbrev pub Onward : ℕ → Site → Site → Type 0
Onward e x y = Or (Resting x y × (x.epoch ≡ e)) (Going x y × (e < x.epoch))

-- no mail is put on the links
abbrev Quiet : Site → Site → Type 0
Quiet x x' = (a b : ℕ) → drop (length (x.link a b)) (x'.link a b) ≡ []

record Alike (x y : Site) (o p : Outcome) : Type 0 where
  answer : o.answer ≡ p.answer
  onward : Onward x.epoch o.next p.next
  quiet-x : Quiet x o.next
  quiet-y : Quiet y p.next

drop_all {ℓ} : {A : Type ℓ} (l : List A) → drop (length l) l ≡ []
drop_all [] = refl
drop_all (x ∷ l) = drop_all l

drop-none {ℓ} : {A : Type ℓ} (k : ℕ) → ◌≡◌ {A = List A} (drop k []) []
drop-none zero = refl
drop-none (suc k) = refl

module _ (x : Site) (box : ℕ → Box) (link : Links) (odd : even x.epoch ≡ false)
    (kept : (b : ℕ) → In b x.n → (x.box b).head.kept ≡ (box b).head.kept)
    (records : (b : ℕ) → In b x.n → (x.box b).records ≡ (box b).records)
    (fx : form x ≡ true) (fy : form (changed x box link) ≡ true) where
  abbrev y : Site
  y = changed x box link

  -- whatever is on the links
  resting : (k l : Links) → Resting (changed x x.box k) (changed x box l)
  resting k l = record { same = refl; odd = odd; kept = kept; records = records }

  stays : (why : Refusal) → Alike x y (refused x why) (refused y why)
  stays why = record {
    answer = refl;
    onward = left (resting x.link link, refl);
    quiet-x = λ a b. drop_all (x.link a b);
    quiet-y = λ a b. drop_all (link a b);
  }

  past-form : (ks : List Need) (o p : Outcome) → (Passed (mets ks) → Alike x y o p)
      → Alike x y (ruled (refused x) (need Refusal.Form (form x) ∷ ks) o)
      (ruled (refused y) (need Refusal.Form (form y) ∷ ks) p)
  past-form ks o p new =
      rw (
        met (refused x) Refusal.Form (form x) ks o fx,
        met (refused y) Refusal.Form (form y) ks p fy,
      )
      (ruled-two (Alike x y) (refused x) (refused y) ks o p stays new)

  act-two : (c : ℕ) (a : Act) → Alike x y (acting x c a) (acting y c a)
  act-two c a =
      rw (odd-acting x odd c a, odd-acting y odd c a) (past-form _ _ _ (λ p. stays (oddly a)))

  elect-two : (c : ℕ) → Alike x y (did (elect x c)) (did (elect y c))
  unfolding elect
  elect-two c = record {
    answer = refl;
    onward = right (
      record {
        same = refl;
        boxes = λ b h.
            let f = elected-two (x.box b).head (box b).head (setting x b) c (kept b h) in
            rw (box-is h)
            (record { same = rw (sym (records b h), f.same) refl; unread = f.unread });
      },
      omega arith,
    );
    quiet-x = λ a b. drop-none (length (x.link a b));
    quiet-y = λ a b. drop-none (length (link a b));
  }

  present-two : (w : ℕ) → Alike x y (did (presented x w)) (did (presented y w))
  unfolding presented
  present-two w = rw odd (record {
    answer = refl;
    onward = left (record { same = refl; odd = odd; kept = kept; records = records }, refl);
    quiet-x = λ a b. drop_all (x.link a b);
    quiet-y = λ a b. drop_all (link a b);
  })

  call-two : (d : Call) → sees_links d ≡ false → Alike x y (step x d) (step y d)
  unfolding step
  call-two (Call.Elect c) e = past-form _ _ _ (λ p. elect-two c)
  call-two (Call.Recover c) e = act-two c Act.Recover
  call-two (Call.Collect c) e = act-two c Act.Collect
  call-two (Call.Ready c) e = act-two c Act.Ready
  call-two (Call.Offer c l r) e = act-two c (Act.Offer l r)
  call-two (Call.Propose c) e = act-two c Act.Propose
  call-two (Call.Agree c) e = act-two c Act.Agree
  call-two (Call.Finish c) e = act-two c Act.Finish
  call-two (Call.Heard c) e = act-two c Act.Heard
  call-two (Call.Trim c k) e = act-two c (Act.Trim k)
  call-two (Call.Stop c) e = past-form _ _ _ (λ p. present-two _)
  call-two (Call.Return c) e = past-form _ _ _ (λ p. present-two _)
  call-two (Call.Timeout c) e = past-form _ _ _ (λ p. absurd (both-no p.1.1.0 odd))
  call-two (Call.Lose a b) e = absurd (both-no refl e)
  call-two (Call.Repeat a b) e = absurd (both-no refl e)
  call-two (Call.Deliver a b) e =
      past-form _ _ _ (λ p. rw (
        odd-delivered x odd a b (x.link a b),
        odd-delivered y odd a b (link a b),
      ) (stays Refusal.Condition))

  -- each of a Lose and a Repeat is done or refused, by itself
  abbrev Beside : Site → Site → Type 0
  Beside u v = Resting u v × (u.epoch ≡ x.epoch)

  lose_two : (a b : ℕ) → Beside (step x (Call.Lose a b)).next (step y (Call.Lose a b)).next
  unfolding step
  lose_two a b =
      by-ruled (λ u. Beside u (step y (Call.Lose a b)).next) x _ _
      (by-ruled (Beside x) y _ _ (resting _ _, refl) (λ p. (resting _ _, refl)))
      (λ q. by-ruled (Beside (popped x a b)) y _ _ (resting _ _, refl) (λ p. (resting _ _, refl)))

  repeat_two : (a b : ℕ) → Beside (step x (Call.Repeat a b)).next (step y (Call.Repeat a b)).next
  unfolding step
  repeat_two a b =
      by-ruled (λ u. Beside u (step y (Call.Repeat a b)).next) x _ _
      (by-ruled (Beside x) y _ _ (resting _ _, refl) (λ p. (resting _ _, refl)))
      (λ q. by-ruled (Beside (doubled x a b)) y _ _ (resting _ _, refl) (λ p. (resting _ _, refl)))

  onward-two : (d : Call) → Onward x.epoch (step x d).next (step y d).next
  onward-two (Call.Elect c) = (call-two (Call.Elect c) refl).onward
  onward-two (Call.Recover c) = (call-two (Call.Recover c) refl).onward
  onward-two (Call.Collect c) = (call-two (Call.Collect c) refl).onward
  onward-two (Call.Ready c) = (call-two (Call.Ready c) refl).onward
  onward-two (Call.Offer c l r) = (call-two (Call.Offer c l r) refl).onward
  onward-two (Call.Propose c) = (call-two (Call.Propose c) refl).onward
  onward-two (Call.Agree c) = (call-two (Call.Agree c) refl).onward
  onward-two (Call.Finish c) = (call-two (Call.Finish c) refl).onward
  onward-two (Call.Heard c) = (call-two (Call.Heard c) refl).onward
  onward-two (Call.Trim c k) = (call-two (Call.Trim c k) refl).onward
  onward-two (Call.Stop c) = (call-two (Call.Stop c) refl).onward
  onward-two (Call.Return c) = (call-two (Call.Return c) refl).onward
  onward-two (Call.Timeout c) = (call-two (Call.Timeout c) refl).onward
  onward-two (Call.Lose a b) = left (lose_two a b)
  onward-two (Call.Repeat a b) = left (repeat_two a b)
  onward-two (Call.Deliver a b) = (call-two (Call.Deliver a b) refl).onward

-- ---- any two such sites

module _ {x y : Site} (r : Resting x y) (fx : form x ≡ true) (fy : form y ≡ true) (d : Call) where
  as_changed : (P : Site → Type 0)
      → (form (changed x y.box y.link) ≡ true → P (changed x y.box y.link)) → P y
  as_changed P f =
      subst P (sym r.same) (f (subst (λ (z : Site). form z ≡ true) r.same fy))

  pub resting-onward : Onward x.epoch (step x d).next (step y d).next
  resting-onward =
      as_changed (λ z. Onward x.epoch (step x d).next (step z d).next)
      (λ f. onward-two x y.box y.link r.odd r.kept r.records fx f d)

  pub resting-call : sees_links d ≡ false → SameCall d x y
  resting-call e =
      as_changed (SameCall d x)
      (λ f. let a = call-two x y.box y.link r.odd r.kept r.records fx f d e in
      record { answer = a.answer; mail = λ b c. a.quiet-x b c ∙ sym (a.quiet-y b c) })
