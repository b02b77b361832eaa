-- An other box takes each mail that the leader has sent it, and replies.
use Prim.Native.Nat.{ℕ, ◌≤◌, ◌<◌, max}
use mathlib.Core.Path.{◌≡◌, refl, sym, ◌∙◌, subst}
use mathlib.Core.Bool.{true, false}
use mathlib.Core.List.{List, [], ◌∷◌}
use native.Mathlib.Omega.{arith}
use lib.Count.{ones}
use lib.ListN.{length}
use Rattle.rules.specs.Sets.{has}
use Rattle.rules.specs.Parts.{higher, took_kept, room_next}
use Rattle.rules.specs.Box.{Box, Letter, mail, mine, letter_of, turn_of}
use Rattle.rules.specs.Site.{Site, setting}
use Rattle.laws.proofs.Types.{Kind, Mail, Phase, Turn}
use Rattle.laws.proofs.Logic.{Or, left, right, All, All-head, All-tail, below?}
use Rattle.laws.proofs.Conditions.{room-next}
use Rattle.laws.proofs.View.{higher-max}
use Rattle.laws.proofs.FormLaws.{FormedBox, FormedLetter}
use Rattle.wait.proofs.Stages.{Time, Other, Between, Replies, Follows, IsCommit, ahead}
use Rattle.wait.proofs.Stages.{pn, last, first, phase, peer}
use Rattle.wait.proofs.Verdicts.{room-made, collect-turn, commit-turn}
use Rattle.wait.proofs.Verdicts.{begin-turn, lease-turn}

module _ (s : Site) (c b : ℕ) (X x : Box) (time : Time s c) (leads : x.head.leads ≡ false) where
  abbrev Takes : List Letter → List Letter → Letter → Turn → Type 0
  Takes down up y t = Follows s c b X x down up y t

  abbrev turn : Letter → Turn
  turn y = turn_of (setting s b) x (mail c y)

  -- a promise is raised to the leader's, or stands
  raised : (q : ℕ) → q ≤ pn X → Or (max (pn x) q ≤ pn X) (max (pn x) q ≡ pn x)
  raised q h = go (below? (pn X) (pn x))
    where
      go : Or (pn X < pn x) (pn x ≤ pn X) → Or (max (pn x) q ≤ pn X) (max (pn x) q ≡ pn x)
      go (left l) = right (omega arith)
      go (right l) = left (omega arith)

  -- ---- Collect

  collects : (y : Letter) → y.head.kind ≡ Kind.Collect → y.head.pn ≤ pn X
      → ((m : Mail) (z : Box) → m.kind ≡ Kind.Last → pn z ≡ max (pn x) y.head.pn
      → last z ≡ last x → m.pn ≡ pn z → m.last ≡ last z
      → Between s X b z [] (letter_of m z.records ∷ []))
      → Takes [] [] y (turn y)
  collects y k h between =
      subst (Takes [] [] y)
      (sym (collect-turn x.head (setting s b) c y.head _ _ (mine x) time.even k leads))
      (record {
        taken = refl;
        reply = Replies.replies _ refl (λ n. rw k (omega arith))
            (between _ _ refl refl refl refl refl);
        promise = raised y.head.pn h;
      })

  -- ---- Commit

  commits : (y : Letter) (down : List Letter) → IsCommit y
      → ((z : Box) → pn z ≡ pn x → last z ≡ higher (last x) y.head.last
      → Between s X b z down [])
      → Takes down [] y (turn y)
  unfolding took_kept
  commits y down k between =
      subst (Takes down [] y)
      (sym (commit-turn x.head (setting s b) c y.head _ _ (mine x) time.even k leads))
      (record {
        taken = refl;
        reply = Replies.silent (between _ refl refl);
        promise = right refl;
      })

  -- ---- Begin: there is room where first is raised

  room-raised : (y : Letter) → last x ≡ last X
      → room_next s.J y.head.first (last X) ≡ true
      → room_next s.J (higher (first x) y.head.first) (last x) ≡ true
  room-raised y e h =
      let r = room-next s.J y.head.first (last X) h in
      let is = higher-max (first x) y.head.first in
      room-made _ _ _ (omega (arith, r.records, is, e)) (omega (arith, r.number, e))

  begins : (y : Letter) → phase X ≡ Phase.Begin → y.head.kind ≡ Kind.Begin
      → y.head.pn ≡ pn X → pn x ≡ pn X → y.head.last ≡ last X → last x ≡ last X
      → room_next s.J y.head.first (last X) ≡ true
      → Takes [] [] y (turn y)
  begins y p k q h l e r =
      subst (Takes [] [] y)
      (sym (begin-turn x.head (setting s b) c y.head _ _ (mine x) time.even k leads
      (h ∙ sym q) (e ∙ sym l) (room-raised y e r)))
      (record {
        taken = refl;
        reply = Replies.replies _ refl (λ n. rw k (omega arith))
            (Between.accept _ p refl q e e);
        promise = right refl;
      })

  -- ---- Lease

  leases : (y : Letter) → phase X ≡ Phase.Lease → y.head.kind ≡ Kind.Lease
      → y.head.last ≡ last X → last x ≡ last X
      → Takes [] [] y (turn y)
  leases y p k l e =
      subst (Takes [] [] y)
      (sym (lease-turn x.head (setting s b) c y.head _ _ (mine x) time.even k leads
      (e ∙ sym l)))
      (record {
        taken = refl;
        reply = Replies.replies _ refl (λ n. rw k (omega arith))
            (Between.lease-ack _ p refl refl e);
        promise = right refl;
      })

  -- ---- each mail

  answered : (y : Letter) (down : List Letter) → phase X ≡ Phase.Collect → All IsCommit (y ∷ down)
      → length (y ∷ down) < ones X.head.answered → ahead (last x) (y ∷ down) ≡ last X
      → has X.head.answered b ≡ true → peer X b ≤ last X → pn x ≡ pn X
      → Takes down [] y (turn y)
  unfolding ahead
  answered y down p k few e h known q =
      commits y down (All-head k)
      (λ z f g. Between.answered down p (All-tail k) (omega (arith, few))
      (rw g e) h known (f ∙ q))

  each : (y : Letter) (down up : List Letter) → Between s X b x (y ∷ down) up
      → Takes down up y (turn y)
  each y down up (Between.old-collect z p k q) =
      collects y k q (λ m z h f g i j. Between.old-last _ p h)
  each y down up (Between.old-commits ys p k) =
      commits y down (All-head k) (λ z f g. Between.old-commits down p (All-tail k))
  each y down up (Between.collect z p k q h n) =
      collects y k (omega (arith, q))
      (λ m z i f g d e. Between.answer _ p i d (omega (arith, f, q)) e h n)
  each y down up (Between.answered ys p k few e h known q) =
      answered y down p k few e h known q
  each y down up (Between.begin z p k q h l e r) = begins y p k q h l e r
  each y down up (Between.commit z p k l e) =
      commits y [] k
      (λ z f g. Between.committed p (omega (arith, g, higher-max (last x) y.head.last, l, e)))
  each y down up (Between.lease z p k l e) = leases y p k l e

pub follows : (s : Site) (c b : ℕ) (X x : Box) (y : Letter) (down up : List Letter)
    → Time s c → Other s c b → x.head.leads ≡ false
    → FormedBox s.n s.J c X → FormedBox s.n s.J b x → FormedLetter s.J y
    → Between s X b x (y ∷ down) up
    → Follows s c b X x down up y (turn_of (setting s b) x (mail c y))
follows s c b X x y down up time other leads F f g between =
    each s c b X x time leads y down up between
