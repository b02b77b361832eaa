-- Two sites whose boxes are alike and whose links are the same: every call gets the same of both,
-- and leaves two such sites.
use Prim.Native.Nat.{ℕ}
use mathlib.Core.Path.{◌≡◌, refl, sym, ap, subst}
use mathlib.Core.Bool.{Bool, true, false, cond}
use mathlib.Core.List.{List, [], ◌∷◌}
use lib.Dec.{eqb}
use Rattle.rules.specs.Box.{Box, Letter, Event, own, mail, turned, turn_of, brought}
use Rattle.rules.specs.Site.{Site, Outcome, setting, upd, room, played, popped}
use Rattle.rules.specs.Site.{doubled}
use Rattle.rules.specs.Form.{form}
use Rattle.rules.specs.Needs.{Need, need, ruled}
use Rattle.rules.specs.Step.{refused, by_answer, by_turn, acting, delivered, elect, presented, step}
use Rattle.laws.proofs.Types.{Act, Answer, Call, Out, Refusal, Turn}
use Rattle.laws.proofs.Logic.{In, Passed, eqb_yes}
use Rattle.laws.proofs.FormLaws.{is-box, is-link, box-is}
use Rattle.laws.proofs.StepLaws.{mets, changed}
use Rattle.laws.proofs.View.{Links}
use Rattle.rest.proofs.Aside.{Aside, aside_of, Unread, aside_turn}
use Rattle.rest.proofs.Aside.{BoxAlike, elected-two}
use Rattle.rest.proofs.Turns.{turn_two}

pub record Going (x y : Site) : Type 0 where
  pub same : y ≡ changed x y.box x.link
  pub boxes : (b : ℕ) → In b x.n → BoxAlike (x.box b) (y.box b)

pub record Same (o p : Outcome) : Type 0 where
  pub answer : o.answer ≡ p.answer
  pub going : Going o.next p.next

-- ---- needs

-- two outcomes by the same needs
pub ruled-two {ℓ κ} : {A : Type ℓ} (R : A → A → Type κ) (f g : Refusal → A) (ks : List Need)
    (a b : A)
    → ((why : Refusal) → R (f why) (g why)) → (Passed (mets ks) → R a b)
    → R (ruled f ks a) (ruled g ks b)
unfolding ruled
ruled-two R f g [] a b old new = new tt
ruled-two R f g (k ∷ ks) a b old new =
    go k.met (λ e. ruled-two R f g ks a b old (λ p. new (e, p)))
  where
    go : (t : Bool) → (t ≡ true → R (ruled f ks a) (ruled g ks b))
        → R (cond t (ruled f ks a) (f k.why)) (cond t (ruled g ks b) (g k.why))
    go true more = more refl
    go false more = old k.why

-- a need that is met
pub met {ℓ} : {A : Type ℓ} (f : Refusal → A) (why : Refusal) (t : Bool) (ks : List Need) (a : A)
    → t ≡ true → ruled f (need why t ∷ ks) a ≡ ruled f ks a
unfolding ruled
met f why t ks a e = rw e refl

-- two functions changed at one place
upd-both : {A B : Type 0} (P : ℕ → A → B → Type 0) (f : ℕ → A) (g : ℕ → B) (c : ℕ) {v : A} {w : B}
    → P c v w → ((b : ℕ) → P b (f b) (g b)) → (b : ℕ) → P b (upd f c v b) (upd g c w b)
upd-both P f g c {v} {w} new old b = go (eqb b c) (eqb_yes b c)
  where
    go : (t : Bool) → (t ≡ true → b ≡ c) → P b (cond t v (f b)) (cond t w (g b))
    go true e = subst (λ (k : ℕ). P k v w) (sym (e refl)) new
    go false e = old b

-- ---- one box's turn

-- the room asks nothing of the boxes
room-two : (x : Site) (box : ℕ → Box) (link : Links) (c : ℕ) (out : Out)
    → room (changed x x.box link) c out ≡ room (changed x box link) c out
unfolding room
room-two x box link c Out.Nothing = refl
room-two x box link c (Out.To set m) = refl

module _ (x : Site) (box : ℕ → Box) (like : (b : ℕ) → In b x.n → BoxAlike (x.box b) (box b))
  where
    abbrev y : Site
    y = changed x box x.link

    going : (link : Links) → Going (changed x x.box link) (changed x box link)
    going link = record { same = refl; boxes = like }

    module _ (c : ℕ) (c_in : In c x.n) (link : Links) (t : Turn) (o : Aside)
        (u : Unread t.next.phase (aside_of t.next) o) (ms : List ℕ) where
      abbrev base : Site
      base = changed x x.box link

      records : (box c).records ≡ (x.box c).records
      records = ap (λ (z : Box). z.records) (like c c_in).same

      turned_two : BoxAlike (turned (x.box c) t ms) (turned (box c) (aside_turn t o) ms)
      turned_two = record { same = rw records refl; unread = u }

      played-two : Going (played base c t ms)
          (played (changed x box link) c (aside_turn t o) ms)
      played-two = record {
        same = rw records refl;
        boxes =
            upd-both (λ b v w. In b x.n → BoxAlike v w) x.box box c (λ h. turned_two) like;
      }

      answered-two : (a : Answer)
          → Same (by_answer a x base c t ms)
          (by_answer a y (changed x box link) c (aside_turn t o) ms)
      unfolding by_answer
      answered-two (Answer.Refused why) = record { answer = refl; going = going x.link }
      answered-two (Answer.Discarded why) = record { answer = refl; going = going link }
      answered-two Answer.Done =
          rw (sym (room-two x box link c t.out))
          (ruled-two Same _ _ _ _ _ (λ why. record { answer = refl; going = going x.link })
          (λ p. record { answer = refl; going = played-two }))
      answered-two Answer.Taken =
          rw (sym (room-two x box link c t.out))
          (ruled-two Same _ _ _ _ _ (λ why. record { answer = refl; going = going x.link })
          (λ p. record { answer = refl; going = played-two }))

    -- an event at box c, the links without the mail that came
    abbrev mine : ℕ → Links → Event → Outcome
    mine c link e =
        by_turn x (changed x x.box link) c (turn_of (setting x c) (x.box c) e) (brought e)

    abbrev theirs : ℕ → Links → Event → Turn → Outcome
    theirs c link e u = by_turn y (changed x box link) c u (brought e)

    event_two : (c : ℕ) → In c x.n → (link : Links) (e : Event)
        → Same (mine c link e) (theirs c link e (turn_of (setting x c) (box c) e))
    event_two c h link e =
        let l = like c h in
        let t = turn_two (setting x c) (x.box c) (aside_of (box c).head) l.unread e in
        subst (λ (z : Box). Same (mine c link e) (theirs c link e (turn_of (setting x c) z e)))
        (sym l.same)
        (subst (λ (u : Turn). Same (mine c link e) (theirs c link e u)) (sym t.same)
        (answered-two c h link (turn_of (setting x c) (x.box c) e) _ t.unread (brought e) _))

    -- ---- every call

    module _ (fx : form x ≡ true) (fy : form y ≡ true) where
      still : (why : Refusal) → Same (refused x why) (refused y why)
      still why = record { answer = refl; going = going x.link }

      -- past form, which both have
      past-form : (ks : List Need) (o p : Outcome) → (Passed (mets ks) → Same o p)
          → Same (ruled (refused x) (need Refusal.Form (form x) ∷ ks) o)
          (ruled (refused y) (need Refusal.Form (form y) ∷ ks) p)
      past-form ks o p new =
          rw (
            met (refused x) Refusal.Form (form x) ks o fx,
            met (refused y) Refusal.Form (form y) ks p fy,
          )
          (ruled-two Same (refused x) (refused y) ks o p still new)

      act-two : (c : ℕ) (a : Act) → Same (acting x c a) (acting y c a)
      act-two c a = past-form _ _ _ (λ p. event_two c (is-box p.0) x.link (own a))

      elect-two : (c : ℕ) → Going (elect x c) (elect y c)
      unfolding elect
      elect-two c = record {
        same = refl;
        boxes = λ b h.
            let e = ap (λ (z : Box). z.head.kept) (like b h).same in
            let f = elected-two (x.box b).head (box b).head (setting x b) c (sym e) in
            let r = ap (λ (z : Box). z.records) (like b h).same in
            rw (box-is h) (record { same = rw (r, f.same) refl; unread = f.unread });
      }

      present-two : (w : ℕ) → Going (presented x w) (presented y w)
      unfolding presented
      present-two w = record { same = refl; boxes = like }

      deliver-two : (a b : ℕ) → In b x.n → (ys : List Letter)
          → Same (delivered x a b ys) (delivered y a b ys)
      unfolding delivered
      deliver-two a b h [] = still Refusal.Condition
      deliver-two a b h (z ∷ zs) = event_two b h (popped x a b).link (mail a z)

      pub step-two : (d : Call) → Same (step x d) (step y d)
      unfolding step
      step-two (Call.Elect c) =
          past-form _ _ _ (λ p. record { answer = refl; going = elect-two c })
      step-two (Call.Recover c) = act-two c Act.Recover
      step-two (Call.Collect c) = act-two c Act.Collect
      step-two (Call.Ready c) = act-two c Act.Ready
      step-two (Call.Offer c l r) = act-two c (Act.Offer l r)
      step-two (Call.Propose c) = act-two c Act.Propose
      step-two (Call.Agree c) = act-two c Act.Agree
      step-two (Call.Finish c) = act-two c Act.Finish
      step-two (Call.Heard c) = act-two c Act.Heard
      step-two (Call.Trim c k) = act-two c (Act.Trim k)
      step-two (Call.Stop c) =
          past-form _ _ _ (λ p. record { answer = refl; going = present-two _ })
      step-two (Call.Return c) =
          past-form _ _ _ (λ p. record { answer = refl; going = present-two _ })
      step-two (Call.Timeout c) =
          past-form _ _ _ (λ p. record { answer = refl; going = present-two _ })
      step-two (Call.Lose a b) =
          past-form _ _ _ (λ p. record { answer = refl; going = going (popped x a b).link })
      step-two (Call.Repeat a b) =
          past-form _ _ _ (λ p. record { answer = refl; going = going (doubled x a b).link })
      step-two (Call.Deliver a b) =
          past-form _ _ _ (λ p. deliver-two a b (is-link {a = a} p.0).1 (x.link a b))

-- any two such sites
pub going_step : {x y : Site} → Going x y → form x ≡ true → form y ≡ true → (d : Call)
    → Same (step x d) (step y d)
going_step {x} {y} g fx fy d =
    subst (λ (z : Site). form z ≡ true → Same (step x d) (step z d)) (sym g.same)
    (λ f. step-two x y.box g.boxes fx f d) fy
