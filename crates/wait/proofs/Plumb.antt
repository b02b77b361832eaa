-- The site after a turn: what is said of the boxes and the links alone carries over; and where the
-- links change.
use Prim.Native.Nat.{ℕ, ◌+◌, ◌≤◌, ◌<◌}
use mathlib.Core.Path.{◌≡◌, refl, sym, ap, ◌∙◌, subst}
use mathlib.Core.Bool.{Bool, true, false, not, ◌||◌, cond}
use mathlib.Core.List.{List, [], ◌∷◌, ◌++◌, tail, append-nil}
use native.Mathlib.Omega.{arith}
use lib.Dec.{ltb}
use lib.ListN.{length}
use borrow.Author.Tests.{lt-ltb}
use Rattle.rules.specs.Sets.{has}
use Rattle.rules.specs.Box.{Box, Letter, letter_of}
use Rattle.rules.specs.Site.{Site, posted, popped, room}
use Rattle.laws.proofs.Types.{Kind, Out}
use Rattle.laws.proofs.Logic.{Or, left, right, In, same?, decide, eqb_same, cond_elim, or_left}
use Rattle.laws.proofs.Logic.{or_right, every_made}
use Rattle.laws.proofs.FormLaws.{Formed}
use Rattle.laws.proofs.LeftAlone.{posted-other, relinked-other}
use Rattle.laws.proofs.StepLaws.{changed}
use Rattle.laws.proofs.View.{Links}
use Rattle.wait.proofs.Stages.{Time, Other, Between, Leading, pn, load}
use Rattle.wait.proofs.Stages.{sent_to, ToOthers, weight}
use Rattle.wait.proofs.Going.{Going}

-- the same boxes and links
pub between-at : {s : Site} {b : ℕ} {X X' x x' : Box} {down down' up up' : List Letter}
    → X' ≡ X → x' ≡ x → down' ≡ down → up' ≡ up
    → Between s X b x down up → Between s X' b x' down' up'
between-at p q r t h = rw (p, q, r, t) h

-- ---- the same of another site

module _ (s : Site) (box : ℕ → Box) (link : Links) where
  abbrev pub other-on : {c b : ℕ} → Other s c b → Other (changed s box link) c b
  other-on o = record { box = o.box; apart = o.apart; here = o.here }

  abbrev pub other-off : {c b : ℕ} → Other (changed s box link) c b → Other s c b
  other-off o = record { box = o.box; apart = o.apart; here = o.here }

  pub time-on : {c : ℕ} → Time s c → Time (changed s box link) c
  time-on t = record {
    sizes = t.sizes;
    present = t.present;
    even = t.even;
    box = t.box;
    here = t.here;
    several = t.several;
    room = t.room;
  }

  pub between-on : {X : Box} {b : ℕ} {x : Box} {down up : List Letter} → Between s X b x down up
      → Between (changed s box link) X b x down up
  between-on (Between.idle p) = Between.idle p
  between-on (Between.old-collect y p q r) = Between.old-collect y p q r
  between-on (Between.old-last y p q) = Between.old-last y p q
  between-on (Between.old-commits ys p q) = Between.old-commits ys p q
  between-on (Between.collect y p q r t u) = Between.collect y p q r t u
  between-on (Between.answer y p q r t u v w) = Between.answer y p q r t u v w
  between-on (Between.answered ys p q r t u v w) = Between.answered ys p q r t u v w
  between-on (Between.begin y p q r t u v w) = Between.begin y p q r t u v w
  between-on (Between.accept y p q r t u) = Between.accept y p q r t u
  between-on (Between.accepted p q r) = Between.accepted p q r
  between-on (Between.commit y p q r t) = Between.commit y p q r t
  between-on (Between.committed p q) = Between.committed p q
  between-on (Between.lease y p q r t) = Between.lease y p q r t
  between-on (Between.lease-ack y p q r t) = Between.lease-ack y p q r t
  between-on (Between.heard p q r t) = Between.heard p q r t
  between-on (Between.usable p q r) = Between.usable p q r

  pub leading-on : {c : ℕ} {X : Box} → Leading s c X → Leading (changed s box link) c X
  leading-on (Leading.elected p q r) = Leading.elected p q r
  leading-on (Leading.recovers p q) = Leading.recovers p q
  leading-on (Leading.collects p q r t u v) = Leading.collects p q r t u v
  leading-on (Leading.begins p q r t) = Leading.begins p q r t
  leading-on (Leading.commits p q) = Leading.commits p q
  leading-on (Leading.leases p q r) = Leading.leases p q r
  leading-on (Leading.leads p q) = Leading.leads p q

  pub going-made : (c : ℕ) → Formed (changed s box link) → Time s c → (box c).head.leads ≡ true
      → Leading s c (box c) → pn (box c) ≤ 999999900
      → ((b : ℕ) → Other s c b → Or (pn (box b) ≤ pn (box c)) (pn (box b) ≤ 999999800))
      → ((b : ℕ) → Other s c b → Between s (box c) b (box b) (link c b) (link b c))
      → ((a b : ℕ) → In a s.n → In b s.n → (a ≡ b → ⊥) → (a ≡ c → Other s c b → ⊥)
      → (b ≡ c → Other s c a → ⊥) → link a b ≡ [])
      → Going c (changed s box link)
  going-made c f t leads leading top promises between elsewhere = record {
    formed = f;
    time = time-on t;
    leads = leads;
    leading = leading-on leading;
    top = top;
    promises = λ b o. promises b (other-off o);
    between = λ b o. between-on (between b (other-off o));
    elsewhere = λ a b ha hb ab p q.
        elsewhere a b ha hb ab (λ e o. p e (other-on o)) (λ e o. q e (other-on o));
  }

-- ---- what is sent

-- box d is sent to
abbrev pub Sends : Out → ℕ → Type 0
Sends Out.Nothing d = ⊥
Sends (Out.To set m) d = has set d ≡ true

pub not-sent : (out : Out) (rs : List ℕ) (d : ℕ) → (Sends out d → ⊥) → sent_to out rs d ≡ []
unfolding sent_to
not-sent Out.Nothing rs d h = refl
not-sent (Out.To set m) rs d h =
    cond_elim (λ (l : List Letter). l ≡ []) (has set d) (λ e. absurd (h e)) (λ e. refl)

pub others-sent : (s : Site) (c : ℕ) (out : Out) → ToOthers s c out
    → (d : ℕ) → In d s.n → Sends out d → Other s c d
others-sent s c Out.Nothing h d i e = absurd e
others-sent s c (Out.To set m) h d i e = h d i e

-- onto the links of box c ..
pub posted-own : (link : Links) (c : ℕ) (out : Out) (rs : List ℕ) (d : ℕ)
    → posted link c out rs c d ≡ link c d ++ sent_to out rs d
unfolding posted sent_to
posted-own link c Out.Nothing rs d = sym (append-nil (link c d))
posted-own link c (Out.To set m) rs d = rw (eqb_same c) (go (has set d))
  where
    go : (t : Bool)
        → cond t (link c d ++ (letter_of m rs ∷ [])) (link c d)
        ≡ link c d ++ cond t (letter_of m rs ∷ []) []
    go true = refl
    go false = sym (append-nil (link c d))

-- .. and where nothing is sent to d
pub posted-none : (link : Links) (c : ℕ) (out : Out) (rs : List ℕ) (a d : ℕ)
    → (a ≡ c → Sends out d → ⊥) → posted link c out rs a d ≡ link a d
posted-none link c out rs a d h = go (same? a c)
  where
    go : Or (a ≡ c) (a ≡ c → ⊥) → posted link c out rs a d ≡ link a d
    go (left e) =
        subst (λ (i : ℕ). posted link c out rs i d ≡ link i d) (sym e)
        (posted-own link c out rs d
        ∙ ap (λ (l : List Letter). link c d ++ l) (not-sent out rs d (h e))
        ∙ append-nil (link c d))
    go (right e) = posted-other link c out rs a d e

pub popped-here : (s : Site) (a b : ℕ) → (popped s a b).link a b ≡ tail (s.link a b)
popped-here s a b = rw (eqb_same a, eqb_same b) refl

pub popped-there : (s : Site) (a b x y : ℕ) → (x ≡ a → y ≡ b → ⊥)
    → (popped s a b).link x y ≡ s.link x y
popped-there s a b x y ne = relinked-other s x y tail a b ne

pub room-made : (s : Site) (c : ℕ) (out : Out)
    → ((d : ℕ) → In d s.n → Sends out d → length (s.link c d) < s.L)
    → room s c out ≡ true
unfolding room
room-made s c Out.Nothing h = refl
room-made s c (Out.To set m) h = every_made s.n _ (λ d i. go d i (decide (has set d)))
  where
    go : (d : ℕ) → In d s.n → Or (has set d ≡ true) (has set d ≡ false)
        → (not (has set d) || ltb (length (s.link c d)) s.L) ≡ true
    go d i (left e) = or_right (not (has set d)) (lt-ltb _ _ (h d i e))
    go d i (right e) = or_left _ (ap not e)

-- ---- what is left to do

pub load_append : (k : ℕ) (l m : List Letter) → load k (l ++ m) ≡ load k l + load k m
unfolding load
load_append k [] m = omega arith
load_append k (y ∷ l) m = omega (arith, load_append k l m)

pub load-none : (k : ℕ) → load k [] ≡ 0
unfolding load
load-none k = refl

pub load_cons : (k : ℕ) (l : List Letter) {y : Letter} {ys : List Letter} → l ≡ y ∷ ys
    → load k l ≡ weight k y.head.kind + load k ys
unfolding load
load_cons k l e = rw e refl

pub weight-some : (k : ℕ) (i : Kind) → 0 < weight k i
weight-some k Kind.Collect = omega arith
weight-some k Kind.Last = omega arith
weight-some k Kind.Begin = omega arith
weight-some k Kind.Accept = omega arith
weight-some k Kind.Commit = omega arith
weight-some k Kind.Lease = omega arith
weight-some k Kind.LeaseAck = omega arith
