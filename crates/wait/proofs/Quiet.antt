-- Where no mail is under way: what the leader has in hand and how each other box stands, phase by
-- phase; and to whom the leader's mail goes.
use Prim.Native.Nat.{ℕ, zero, suc, ◌-◌, ◌≤◌}
use mathlib.Core.Path.{◌≡◌, refl, sym, ap, ◌∙◌, subst}
use mathlib.Core.Bool.{Bool, true, false, not, cond}
use mathlib.Core.List.{List, [], ◌∷◌}
use native.Mathlib.Omega.{arith}
use lib.ListN.{get_or}
use borrow.Author.Tests.{ne_eqb}
use Rattle.std.specs.Prelude.{is_some}
use Rattle.rules.specs.Sizes.{unknown, most_boxes}
use Rattle.rules.specs.Sets.{has, set_form, bit, includes, without}
use Rattle.rules.specs.Parts.{others, all_unknown, room_next}
use Rattle.rules.specs.Steps.{has_previous}
use Rattle.rules.specs.Box.{Box, Letter, mine, letter_of}
use Rattle.rules.specs.Site.{Site, setting}
use Rattle.laws.proofs.Types.{Mail, Out, Phase, State}
use Rattle.laws.proofs.Logic.{In, Or, left, right, same?, both-no, eqb_same, and_both}
use Rattle.laws.proofs.SetLaws.{has-bit, has-without, without_in, set_ext, includes-made}
use Rattle.wait.proofs.Stages.{Time, Other, Between, Leading, sent_to, ahead}
use Rattle.wait.proofs.Stages.{pn, last, first, phase, state}

-- ---- the leader in hand

pub record Asked (s : Site) (c : ℕ) (X : Box) : Type 0 where
  pub state : state X ≡ State.Recovering
  pub self : has X.head.answered c ≡ true
  pub here : (b : ℕ) → In b s.n → has X.head.answered b ≡ true → has s.present b ≡ true
  pub room : has_previous X.head ≡ true → room_next s.J (first X) (last X) ≡ true

pub record Begun (c : ℕ) (X : Box) : Type 0 where
  pub state : Or (state X ≡ State.Updating) (state X ≡ State.UpdatingPrevious)
  pub self : has X.head.accepts c ≡ true
  pub held : is_some (mine X) ≡ true

abbrev pub Led : Site → ℕ → Box → Phase → Type 0
Led s c X Phase.Election = (state X ≡ State.Recovering) × (pn X ≤ 999999800)
Led s c X Phase.SendCollect = state X ≡ State.Recovering
Led s c X Phase.Collect = Asked s c X
Led s c X Phase.Begin = Begun c X
Led s c X Phase.Commit = state X ≡ State.Refresh
Led s c X Phase.Lease = (state X ≡ State.Active) × (has X.head.heard c ≡ true)
Led s c X Phase.LeaseDone = state X ≡ State.Active

pub led : {s : Site} {c : ℕ} {X : Box} → Leading s c X → Led s c X (phase X)
led {s} {c} {X} (Leading.elected p q h) = subst (Led s c X) (sym p) (q, h)
led {s} {c} {X} (Leading.recovers p q) = subst (Led s c X) (sym p) q
led {s} {c} {X} (Leading.collects p q h f g r) =
    subst (Led s c X) (sym p) (record { state = q; self = h; here = f; room = r })
led {s} {c} {X} (Leading.begins p q h r) =
    subst (Led s c X) (sym p) (record { state = q; self = h; held = r })
led {s} {c} {X} (Leading.commits p q) = subst (Led s c X) (sym p) q
led {s} {c} {X} (Leading.leases p q h) = subst (Led s c X) (sym p) (q, h)
led {s} {c} {X} (Leading.leads p q) = subst (Led s c X) (sym p) q

-- ---- another box

abbrev pub Quiet : Box → ℕ → Box → Phase → Type 0
Quiet X b x Phase.Election = Unit {0}
Quiet X b x Phase.SendCollect = Unit {0}
Quiet X b x Phase.Collect =
    (last x ≡ last X) × (has X.head.answered b ≡ true) × (pn x ≡ pn X)
Quiet X b x Phase.Begin = (last x ≡ last X) × (has X.head.accepts b ≡ true)
Quiet X b x Phase.Commit = last x ≡ last X
Quiet X b x Phase.Lease =
    (last x ≡ last X) × (has X.head.heard b ≡ true) × (state x ≡ State.Active)
Quiet X b x Phase.LeaseDone = (last x ≡ last X) × (state x ≡ State.Active)

pub quiet : {s : Site} {X : Box} {b : ℕ} {x : Box} → Between s X b x [] []
    → Quiet X b x (phase X)
unfolding ahead
quiet {X = X} {b} {x} (Between.idle p) = subst (Quiet X b x) (sym p) tt
quiet {X = X} {b} {x} (Between.old-commits ys p k) = subst (Quiet X b x) (sym p) tt
quiet {X = X} {b} {x} (Between.answered ys p k few e h known q) =
    subst (Quiet X b x) (sym p) (e, h, q)
quiet {X = X} {b} {x} (Between.accepted p h e) = subst (Quiet X b x) (sym p) (e, h)
quiet {X = X} {b} {x} (Between.committed p e) = subst (Quiet X b x) (sym p) e
quiet {X = X} {b} {x} (Between.heard p h a e) = subst (Quiet X b x) (sym p) (e, h, a)
quiet {X = X} {b} {x} (Between.usable p a e) = subst (Quiet X b x) (sym p) (e, a)

-- .. so each other box stands, in phase p
abbrev pub Stand : Site → ℕ → Box → (ℕ → Box) → Phase → Type 0
Stand s c X box p = (b : ℕ) → Other s c b → Quiet X b (box b) p

-- ---- sets

pub has-self : (c : ℕ) → In c most_boxes → has (bit c) c ≡ true
has-self c h = has-bit c c h ∙ eqb_same c

pub has-not : (c b : ℕ) → In c most_boxes → (b ≡ c → ⊥) → has (bit c) b ≡ false
has-not c b h apart = has-bit c b h ∙ ne_eqb b c apart

pub peer-unknown : (b : ℕ) → In b most_boxes → get_or all_unknown (b - 1) 0 ≡ unknown
peer-unknown zero h = absurd (omega arith)
peer-unknown (suc zero) h = refl
peer-unknown (suc (suc zero)) h = refl
peer-unknown (suc (suc (suc zero))) h = refl
peer-unknown (suc (suc (suc (suc zero)))) h = refl
peer-unknown (suc (suc (suc (suc (suc zero))))) h = refl
peer-unknown (suc (suc (suc (suc (suc (suc b)))))) h = absurd (omega arith)

-- two tests that imply one another
same_test : (a b : Bool) → (a ≡ true → b ≡ true) → (b ≡ true → a ≡ true) → a ≡ b
same_test true true f g = refl
same_test true false f g = absurd (both-no (f refl) refl)
same_test false true f g = absurd (both-no (g refl) refl)
same_test false false f g = refl

module _ (s : Site) (c : ℕ) (time : Time s c) where
  pub few : {b : ℕ} → In b s.n → In b most_boxes
  few h = (h.0, omega (arith, h.1, time.sizes.few-boxes))

  -- the leader is in a set, and every other
  all_in : (w : ℕ) → has w c ≡ true → ((b : ℕ) → Other s c b → has w b ≡ true)
      → (b : ℕ) → In b s.n → has s.present b ≡ true → has w b ≡ true
  all_in w self others b h here = go (same? b c)
    where
      go : Or (b ≡ c) (b ≡ c → ⊥) → has w b ≡ true
      go (left e) = subst (λ (k : ℕ). has w k ≡ true) (sym e) self
      go (right e) = others b (record { box = h; apart = e; here = here })

  pub all_included : (w : ℕ) → has w c ≡ true → ((b : ℕ) → Other s c b → has w b ≡ true)
      → includes w s.present ≡ true
  all_included w self others =
      includes-made s.n w s.present time.present (all_in w self others)

  pub all-present : (w : ℕ) → set_form s.n w ≡ true → has w c ≡ true
      → ((b : ℕ) → Other s c b → has w b ≡ true)
      → ((b : ℕ) → In b s.n → has w b ≡ true → has s.present b ≡ true)
      → w ≡ s.present
  all-present w form self others here =
      set_ext s.n w s.present form time.present
      (λ b h. same_test (has w b) (has s.present b) (here b h) (all_in w self others b h))

  -- ---- mail to others

  pub to-others : (b : ℕ) → In b s.n → has (others (setting s c)) b ≡ true → Other s c b
  unfolding others
  to-others b h e = let p = without_in s.present c b (few time.box) e in
      record { box = h; apart = p.1; here = p.0 }

  sent : (m : Mail) (rs : List ℕ) (b : ℕ) → Other s c b
      → sent_to (Out.To (others (setting s c)) m) rs b ≡ letter_of m rs ∷ []
  unfolding sent_to others
  sent m rs b o = ap (λ (t : Bool). cond t (letter_of m rs ∷ []) []) in_others
    where
      in_others : has (without s.present c) b ≡ true
      in_others =
          has-without s.present c b (few time.box) (few o.box)
          ∙ and_both o.here (ap not (ne_eqb b c o.apart))

  pub sends : {X x : Box} {b : ℕ} (m : Mail) → Other s c b
      → Between s X b x (letter_of m X.records ∷ []) []
      → Between s X b x (sent_to (Out.To (others (setting s c)) m) X.records b) []
  sends {X} {x} {b} m o h =
      subst (λ (ys : List Letter). Between s X b x ys []) (sym (sent m X.records b o)) h
