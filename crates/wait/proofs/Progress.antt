-- A run that is under way goes on: its next step is not refused, leaves a site where it goes on,
-- and leaves less to do; or it is over, and the scale is usable.
use Prim.Native.Nat.{ℕ, ◌<◌}
use mathlib.Core.Path.{◌≡◌, refl, sym, ap, ◌∙◌, subst}
use mathlib.Core.Bool.{Bool, true, false}
use mathlib.Core.List.{List, [], ◌∷◌}
use Rattle.rules.specs.Answers.{is_refusal}
use Rattle.rules.specs.Sets.{has}
use Rattle.rules.specs.Box.{Box, Letter, own, mail, turn_of, turned}
use Rattle.rules.specs.Site.{Site, Outcome, setting, popped}
use Rattle.rules.specs.Step.{step}
use Rattle.laws.specs.Frames.{CallFits}
use Rattle.laws.proofs.Types.{Act, Call, Phase, State}
use Rattle.laws.proofs.Logic.{Or, left, right, In, same?, decide, both-no, true≠false}
use Rattle.laws.proofs.Logic.{All-head}
use Rattle.laws.proofs.FormLaws.{Formed, FormedBox, FormedLetter, is-box, is-link}
use Rattle.laws.proofs.FormKept.{formed-step}
use Rattle.wait.specs.Run.{next_turn, leader_turn}
use Rattle.wait.specs.Wait.{Usable}
use Rattle.std.specs.Prelude.{Some}
use Rattle.wait.proofs.Stages.{Other, Between, Leading, Follows, Heeds, StepOf}
use Rattle.wait.proofs.Stages.{Turns, last, phase, state}
use Rattle.wait.proofs.Going.{Going, left_to_do, Ahead, Firsts, Goes_on}
use Rattle.wait.proofs.Plumb.{between-at}
use Rattle.wait.proofs.Played.{turn-done, turn-taken, turn-discarded, delivers-is, steps-is}
use Rattle.wait.proofs.Follower.{follow-room, followed, follow-less}
use Rattle.wait.proofs.Leader.{heed_room, heeded, heeded-less, dropped, dropped-less}
use Rattle.wait.proofs.Leader.{act-room, acted, acted-less}

-- ---- the end

is-done : Phase → Bool
is-done Phase.Election = false
is-done Phase.SendCollect = false
is-done Phase.Collect = false
is-done Phase.Lease = false
is-done Phase.Begin = false
is-done Phase.Commit = false
is-done Phase.LeaseDone = true

not_done : {p q : Phase} → is-done q ≡ false → p ≡ Phase.LeaseDone → p ≡ q → ⊥
unfolding is-done
not_done n e f = both-no (ap is-done e) (ap is-done f ∙ n)

-- an other box where the leader's lease is done
done-between : {s : Site} {X : Box} {b : ℕ} {x : Box} {down up : List Letter}
    → phase X ≡ Phase.LeaseDone → Between s X b x down up
    → (state x ≡ State.Active) × (last x ≡ last X)
unfolding is-done
done-between e (Between.idle p) = absurd (not_done refl e p)
done-between e (Between.old-collect y p q r) = absurd (not_done refl e p)
done-between e (Between.old-last y p q) = absurd (not_done refl e p)
done-between e (Between.old-commits ys p q) = absurd (not_done refl e p)
done-between e (Between.collect y p q r t u) = absurd (not_done refl e p)
done-between e (Between.answer y p q r t u v w) = absurd (not_done refl e p)
done-between e (Between.answered ys p q r t u v w) = absurd (not_done refl e p)
done-between e (Between.begin y p q r t u v w) = absurd (not_done refl e p)
done-between e (Between.accept y p q r t u) = absurd (not_done refl e p)
done-between e (Between.accepted p q r) = absurd (not_done refl e p)
done-between e (Between.commit y p q r t) = absurd (not_done refl e p)
done-between e (Between.committed p q) = absurd (not_done refl e p)
done-between e (Between.lease y p q r t) = absurd (not_done refl e p)
done-between e (Between.lease-ack y p q r t) = absurd (not_done refl e p)
done-between e (Between.heard p q r t) = absurd (not_done refl e p)
done-between e (Between.usable p q r) = (q, r)

some-mail : {y : Letter} {ys l : List Letter} → l ≡ y ∷ ys → l ≡ [] → ⊥
some-mail e f = true≠false (sym (ap is-mail e) ∙ ap is-mail f)
  where
    is-mail : List Letter → Bool
    is-mail [] = false
    is-mail (y ∷ ys) = true

module _ (turns : Turns) (firsts : Firsts) (c : ℕ) (s : Site) (g : Going c s) where
  abbrev On : Type 0
  On = Goes_on (Going c) (left_to_do c) (Usable c) s

  leader-formed : FormedBox s.n s.J c (s.box c)
  leader-formed = g.formed.boxes c g.time.box

  other-formed : (b : ℕ) → Other s c b → FormedBox s.n s.J b (s.box b)
  other-formed b o = g.formed.boxes b o.box

  letter-formed : (a b : ℕ) {y : Letter} {ys : List Letter} → In a s.n → In b s.n
      → (a ≡ b → ⊥) → s.link a b ≡ y ∷ ys → FormedLetter s.J y
  letter-formed a b ha hb ab e = All-head (rw e at (g.formed.links a b ha hb ab).letters)

  other-follows : (b : ℕ) → Other s c b → (s.box b).head.leads ≡ false
  other-follows b o = go (decide (s.box b).head.leads)
    where
      go : Or ((s.box b).head.leads ≡ true) ((s.box b).head.leads ≡ false)
          → (s.box b).head.leads ≡ false
      go (left e) =
          absurd (o.apart (g.formed.one-leader b c o.box g.time.box e g.leads))
      go (right e) = e

  -- ---- a step that comes to an outcome

  abbrev Moves : Outcome → Type 0
  Moves r =
      (is_refusal r.answer ≡ false) × (Formed r.next → Going c r.next)
      × (left_to_do c r.next < left_to_do c s)

  moved : (d : Call) → CallFits d → next_turn s ≡ Some d → (r : Outcome) → step s d ≡ r
      → Moves r → On
  moved d fits n r e m =
      let p = subst Moves (sym e) m in
      Goes_on.on d n p.0 (p.1 (formed-step s d fits g.formed)) p.2

  -- ---- another box takes the leader's mail

  mail-down : (b : ℕ) → Other s c b → (y : Letter) (ys : List Letter) → s.link c b ≡ y ∷ ys
      → next_turn s ≡ Some (Call.Deliver c b) → On
  mail-down b o y ys e n =
      go (turns.follows s c b (s.box c) (s.box b) y ys (s.link b c) g.time o
      (other-follows b o) leader-formed (other-formed b o)
      (letter-formed c b g.time.box o.box apart e)
      (between-at refl refl (sym e) refl (g.between b o)))
    where
      apart : c ≡ b → ⊥
      apart d = o.apart (sym d)

      go : Follows s c b (s.box c) (s.box b) ys (s.link b c) y
          (turn_of (setting s b) (s.box b) (mail c y)) → On
      go f =
          let t = turn_of (setting s b) (s.box b) (mail c y) in
          let x' = turned (s.box b) t y.records in
          moved (Call.Deliver c b) tt n _
          (delivers-is s g.formed c b y ys g.time.box o.box apart e
          ∙ turn-taken s (popped s c b) b t y.records f.taken
          (follow-room s c g b o y ys e x' t.out f.reply f.promise)) (
            refl,
            followed s c g b o y ys e x' t.out f.reply f.promise,
            follow-less s c g b o y ys e x' t.out f.reply f.promise,
          )

  -- ---- the leader is handed a mail

  mail-up : (b : ℕ) → Other s c b → (y : Letter) (ys : List Letter) → s.link b c ≡ y ∷ ys
      → next_turn s ≡ Some (Call.Deliver b c) → On
  mail-up b o y ys e n =
      let h = turns.heeds s c b (s.box c) (s.box b) y (s.link c b) ys g.time o g.leads
      g.top (g.promises b o) leader-formed (other-formed b o)
      (letter-formed b c o.box g.time.box o.apart e) g.leading
      (between-at refl refl refl (sym e) (g.between b o)) in
      go h.0 (e ∙ ap (λ (l : List Letter). y ∷ l) h.1) h.2
    where
      go : s.link c b ≡ [] → s.link b c ≡ y ∷ []
          → Heeds s c b (s.box c) (s.box b) y (turn_of (setting s c) (s.box c) (mail b y)) → On
      go down up (Heeds.discards why a at) =
          moved (Call.Deliver b c) tt n _
          (delivers-is s g.formed b c y ys o.box g.time.box o.apart e
          ∙ turn-discarded s (popped s b c) c _ y.records why a)
          (refl, dropped s c g b o y down up at, dropped-less s c g b o y down up at)
      go down up (Heeds.takes a goes pays at rest) =
          moved (Call.Deliver b c) tt n _
          (delivers-is s g.formed b c y ys o.box g.time.box o.apart e
          ∙ turn-taken s (popped s b c) c _ y.records a
          (heed_room s c g b o y down up _ _ goes pays at rest)) (
            refl,
            heeded s c g b o y down up _ _ goes pays at rest,
            heeded-less s c g b o y down up _ _ goes pays at rest,
          )

  -- ---- no mail is under way

  module _ (none : (a b : ℕ) → In a s.n → In b s.n → (a ≡ b → ⊥) → s.link a b ≡ [])
      (next : next_turn s ≡ leader_turn s) where
    idle-between : (b : ℕ) → Other s c b → Between s (s.box c) b (s.box b) [] []
    idle-between b o =
        between-at refl refl
        (sym (none c b g.time.box o.box (λ d. o.apart (sym d))))
        (sym (none b c o.box g.time.box o.apart)) (g.between b o)

    leader-acts : (a : Act) (d : Call) → CallFits d → StepOf c (phase (s.box c)) a d → On
    leader-acts a d fits w =
        let t = turn_of (setting s c) (s.box c) (own a) in
        let h = turns.acts s c (s.box c) s.box a d g.time g.leads g.top
        leader-formed other-formed g.leading idle-between w in
        let X' = turned (s.box c) t [] in
        let is = steps-is s g.formed c _ a d g.time.box w
        ∙ turn-done s s c t [] h.done
        (act-room s c g none X' t.out h.goes h.between h.pays) in
        moved d fits
        (next ∙ firsts.leader s c a d g.formed g.time.box g.leads w
        (ap (λ (r : Outcome). r.answer) is))
        _ is (
          refl,
          acted s c g none X' t.out h.goes h.between h.pays,
          acted-less s c g none X' t.out h.goes h.between h.pays,
        )

    usable : phase (s.box c) ≡ Phase.LeaseDone → state (s.box c) ≡ State.Active → Usable c s
    usable e active = record {
      leads = g.leads;
      leader = active;
      active = λ b h p. (both b (is-box h) p (same? b c)).0;
      last = λ b h p. (both b (is-box h) p (same? b c)).1;
      empty = λ a b h. let p = is-link h in none a b p.0 p.1 p.2;
    }
      where
        both : (b : ℕ) → In b s.n → has s.present b ≡ true → Or (b ≡ c) (b ≡ c → ⊥)
            → (state (s.box b) ≡ State.Active) × (last (s.box b) ≡ last (s.box c))
        both b h p (left d) =
            (ap (λ (i : ℕ). state (s.box i)) d ∙ active, ap (λ (i : ℕ). last (s.box i)) d)
        both b h p (right d) =
            done-between e (g.between b (record { box = h; apart = d; here = p }))

    step-at : (p : Phase) (a : Act) (d : Call) → CallFits d → phase (s.box c) ≡ p
        → StepOf c p a d → On
    step-at p a d fits e w =
        leader-acts a d fits (subst (λ (q : Phase). StepOf c q a d) (sym e) w)

    quiet : Leading s c (s.box c) → On
    quiet (Leading.elected p q r) = step-at _ _ _ tt p StepOf.recover
    quiet (Leading.recovers p q) = step-at _ _ _ tt p StepOf.collect
    quiet (Leading.collects p q r t u v) = step-at _ _ _ tt p StepOf.ready
    quiet (Leading.begins p q r t) = step-at _ _ _ tt p StepOf.agree
    quiet (Leading.commits p q) = step-at _ _ _ tt p StepOf.finish
    quiet (Leading.leases p q r) = step-at _ _ _ tt p StepOf.hear
    quiet (Leading.leads p q) =
        Goes_on.over
        (next ∙ firsts.none s c g.formed g.time.box g.leads (left p))
        (usable p q)

  -- ---- any step

  -- mail is only between the leader and another box that is present
  any-mail : (a b : ℕ) (y : Letter) (ys : List Letter) → In a s.n → In b s.n → (a ≡ b → ⊥)
      → s.link a b ≡ y ∷ ys → next_turn s ≡ Some (Call.Deliver a b) → On
  any-mail a b y ys ha hb ab e n = go (same? a c) (same? b c)
    where
      nowhere : (a ≡ c → Other s c b → ⊥) → (b ≡ c → Other s c a → ⊥) → On
      nowhere p q = absurd (some-mail e (g.elsewhere a b ha hb ab p q))

      down : a ≡ c → Or (has s.present b ≡ true) (has s.present b ≡ false) → On
      down p (left h) =
          mail-down b (record { box = hb; apart = λ d. ab (p ∙ sym d); here = h }) y ys
          (rw p at e) (rw p at n)
      down p (right h) =
          nowhere (λ d o. both-no o.here h) (λ d o. ab (p ∙ sym d))

      up : b ≡ c → (a ≡ c → ⊥) → Or (has s.present a ≡ true) (has s.present a ≡ false) → On
      up p ne (left h) =
          mail-up a (record { box = ha; apart = ne; here = h }) y ys (rw p at e) (rw p at n)
      up p ne (right h) = nowhere (λ d. absurd (ne d)) (λ d o. both-no o.here h)

      go : Or (a ≡ c) (a ≡ c → ⊥) → Or (b ≡ c) (b ≡ c → ⊥) → On
      go (left p) q = down p (decide (has s.present b))
      go (right p) (left q) = up q p (decide (has s.present a))
      go (right p) (right q) = nowhere (λ d. absurd (p d)) (λ d. absurd (q d))

  look : Ahead s → On
  look (Ahead.mail a b y ys ha hb ab e n) = any-mail a b y ys ha hb ab e n
  look (Ahead.quiet none n) = quiet none n g.leading

  pub progress : Goes_on (Going c) (left_to_do c) (Usable c) s
  progress = look (firsts.look s)
