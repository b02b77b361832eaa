-- Laws of what the leader does with mail: a box joins a set, a link is short, a mail follows
-- others, who lags.
use Prim.Native.Nat.{ℕ, zero, suc, ◌+◌, ◌-◌, ◌≤◌, ◌<◌, max}
use mathlib.Core.Path.{◌≡◌, refl, sym, ap, ◌∙◌, subst}
use mathlib.Core.Bool.{Bool, true, false, not, ◌&&◌, ◌||◌}
use mathlib.Core.List.{List, [], ◌∷◌, ◌++◌, append-nil}
use native.Mathlib.Omega.{arith}
use lib.Bits.{bit_or}
use lib.Count.{ones}
use lib.Dec.{eqb, ltb}
use lib.ListN.{length, get_or}
use borrow.Author.Tests.{ne_eqb, ltb-false}
use Rattle.rules.specs.Sizes.{even, most_boxes, most_number, unknown}
use Rattle.rules.specs.Every.{tally}
use Rattle.rules.specs.Numbers.{phase_number, in_phase}
use Rattle.rules.specs.Sets.{digit, has, joined, set_form, bit}
use Rattle.rules.specs.Pick.{pick}
use Rattle.rules.specs.Turns.{first_cause, unless, settled}
use Rattle.rules.specs.Parts.{others, higher}
use Rattle.rules.specs.Last.{behind, lagging}
use Rattle.rules.specs.Mails.{of_kind, on_mail}
use Rattle.rules.specs.Box.{Box, Letter, letter_of, mail, mine, next_of, turn_of}
use Rattle.rules.specs.Site.{Site}
use Rattle.laws.proofs.Types.{Answer, BoxState, Cause, Kind, Mail, Out, Phase, Setting, Turn}
use Rattle.laws.proofs.Types.{Verdict}
use Rattle.laws.proofs.Logic.{In, Or, left, right, below?, same?, or_left, or_right, eqb_same}
use Rattle.laws.proofs.Logic.{pick_elim, All, nil, cons, cond_elim, both-no, decide, and_both}
use Rattle.laws.proofs.Logic.{eqb_no}
use Rattle.laws.proofs.SetLaws.{has_or, has-and, has-zero, has-bit, ones-tally, set-joined}
use Rattle.laws.proofs.Counts.{one, tally-le, tally_ext, in_down, one-says}
use Rattle.laws.proofs.FormLaws.{FormedBox}
use Rattle.laws.proofs.View.{higher-max}
use Rattle.wait.proofs.Stages.{Between, idle, old-collect, old-last, old-commits, collect}
use Rattle.wait.proofs.Stages.{answer, answered, begin, accept, accepted, commit, committed}
use Rattle.wait.proofs.Stages.{lease, lease-ack, heard, usable, ahead, phase, IsCommit}
use Rattle.wait.proofs.Stages.{sent_to}

-- no phase is two
pub two_phases {ℓ} : {A : Type ℓ} {p q r : Phase} → p ≡ q → p ≡ r
    → eqb (phase_number q) (phase_number r) ≡ false → A
two_phases {q = q} {r = r} e f n =
    absurd (eqb_no (phase_number q) (phase_number r) n (ap phase_number (sym e ∙ f)))

-- ---- a box joins a set

module _ (w b : ℕ) (box : In b most_boxes) where
  pub has-joined : (d : ℕ) → has (joined w b) d ≡ (has w d || eqb d b)
  unfolding joined
  has-joined d = has_or w (bit b) d ∙ ap (λ (t : Bool). has w d || t) (has-bit b d box)

  pub joined-new : has (joined w b) b ≡ true
  joined-new = has-joined b ∙ or_right (has w b) (eqb_same b)

  pub joined-old : (d : ℕ) → has w d ≡ true → has (joined w b) d ≡ true
  joined-old d h = has-joined d ∙ or_left (eqb d b) h

  pub joined-other : (d : ℕ) → (d ≡ b → ⊥) → has (joined w b) d ≡ has w d
  joined-other d ne = has-joined d ∙ off (has w d) (ne_eqb d b ne)
    where
      off : (a : Bool) {t : Bool} → t ≡ false → (a || t) ≡ a
      off true e = refl
      off false e = e

-- one more of 1 to n
tally-more : (n : ℕ) (f g : ℕ → Bool) (i : ℕ) → In i n → f i ≡ false → g i ≡ true
    → ((k : ℕ) → (k ≡ i → ⊥) → g k ≡ f k) → tally n g ≡ tally n f + 1
unfolding tally
tally-more zero f g i h p q e = absurd (omega arith)
tally-more (suc n) f g i h p q e = go (λ l. tally-more n f g i l p q e) (same? i (suc n))
  where
    go : (In i n → tally n g ≡ tally n f + 1) → Or (i ≡ suc n) (i ≡ suc n → ⊥)
        → one (g (suc n)) + tally n g ≡ one (f (suc n)) + tally n f + 1
    go ih (left d) =
        let a : f (suc n) ≡ false = subst (λ (k : ℕ). f k ≡ false) d p in
        let b : g (suc n) ≡ true = subst (λ (k : ℕ). g k ≡ true) d q in
        let rest : tally n g ≡ tally n f
        = tally_ext n g f (λ k l. e k (λ z. omega (arith, l.1, z, d))) in
        omega (arith, ap one a, ap one b, rest)
    go ih (right d) =
        omega (arith, ih (in_down h d), ap one (e (suc n) (λ z. d (sym z))))

module _ (n w b : ℕ) (few : n ≤ most_boxes) (form : set_form n w ≡ true) (box : In b n) where
  box-few : In b most_boxes
  box-few = (box.0, omega (arith, box.1))

  joined-tally : ones (joined w b) ≡ tally n (has (joined w b))
  joined-tally = ones-tally n (joined w b) (set-joined n w b few form box)

  pub ones-joined : has w b ≡ false → ones (joined w b) ≡ ones w + 1
  ones-joined off =
      joined-tally
      ∙ tally-more n (has w) (has (joined w b)) b box off (joined-new w b box-few)
      (joined-other w b box-few)
      ∙ ap (λ (t : ℕ). t + 1) (sym (ones-tally n w form))

  -- where another is in it
  pub ones-two : (c : ℕ) → In c n → (b ≡ c → ⊥) → has w c ≡ true → 1 < ones (joined w b)
  ones-two c other ne h = go (below? 1 (tally n (has (joined w b))))
    where
      go : Or (1 < tally n (has (joined w b))) (tally n (has (joined w b)) ≤ 1)
          → 1 < ones (joined w b)
      go (left l) = omega (arith, l, joined-tally)
      go (right l) =
          absurd (ne (one-says n (has (joined w b)) l b c box other (joined-new w b box-few)
          (joined-old w b box-few c h)))

-- ---- a link is short, but in SendCollect

ones-few : (n w : ℕ) → n ≤ most_boxes → set_form n w ≡ true → ones w ≤ most_boxes
ones-few n w few e = omega (arith, ones-tally n w e, tally-le n (has w))

pub few-down : {s : Site} {c d : ℕ} {X z : Box} {down up : List Letter} → s.n ≤ most_boxes
    → FormedBox s.n s.J c X → (phase X ≡ Phase.SendCollect → ⊥)
    → Between s X d z down up → length down < 8
few-down few f not_so (idle p) = omega arith
few-down few f not_so (old-collect y p k q) = omega arith
few-down few f not_so (old-last y p k) = omega arith
few-down few f not_so (old-commits ys p k) = absurd (not_so p)
few-down few f not_so (collect y p k q a u) = omega arith
few-down few f not_so (answer y p k q r l a u) = omega arith
few-down {s} {X = X} few f not_so (answered ys p k h l a u q) =
    omega (arith, h, ones-few s.n X.head.answered few f.answered)
few-down few f not_so (begin y p k q r l m o) = omega arith
few-down few f not_so (accept y p k q l m) = omega arith
few-down few f not_so (accepted p a l) = omega arith
few-down few f not_so (commit y p k l m) = omega arith
few-down few f not_so (committed p l) = omega arith
few-down few f not_so (lease y p k l m) = omega arith
few-down few f not_so (lease-ack y p k a l) = omega arith
few-down few f not_so (heard p h a l) = omega arith
few-down few f not_so (usable p a l) = omega arith

-- ---- a mail is handed over in an even epoch, and taken or discarded

pub mail-turn : (s : Setting) (X : Box) (b : ℕ) (y : Letter) (k : Kind) → even s.epoch ≡ true
    → y.head.kind ≡ k
    → turn_of s X (mail b y)
    ≡ of_kind k X.head s b y.head (get_or y.records 0 0) (next_of y) (mine X)
unfolding on_mail unless pick settled
mail-turn s X b y k e f = rw (e, f) refl

pub goes : {role phase number place : Bool} (v : Verdict) → role ≡ false → phase ≡ false
    → number ≡ false → place ≡ false → first_cause role phase number place v ≡ v
unfolding first_cause pick
goes v p q r t = rw (p, q, r, t) refl

pub phase-is : {p q : Phase} → p ≡ q → in_phase p q ≡ true
unfolding in_phase
phase-is {q = q} e = rw e (eqb_same (phase_number q))

pub phase-not : {p q : Phase} (r : Phase) → p ≡ q → eqb (phase_number q) (phase_number r) ≡ false
    → in_phase p r ≡ false
unfolding in_phase
phase-not r e n = rw e n

-- the verdict of a turn is in hand
pub settled-go : (b : BoxState) {v : Verdict} (t : Turn) → v ≡ Verdict.Go → settled b v t ≡ t
unfolding settled
settled-go b t e = rw e refl

pub settled_discard : (b : BoxState) {v : Verdict} {why : Cause} (t : Turn)
    → v ≡ Verdict.Discard why → (settled b v t).answer ≡ Answer.Discarded why
unfolding settled
settled_discard b t e = rw e refl

-- ---- Commits that are under way, and one more

-- the last p of a peer is known, and below l
abbrev pub late : ℕ → ℕ → Bool
late p l = not (eqb p unknown) && ltb p l

pub late-not : (p l : ℕ) → p ≤ most_number → late p l ≡ false → l ≤ p
late-not p l known e = go (decide (ltb p l))
  where
    go : Or (ltb p l ≡ true) (ltb p l ≡ false) → l ≤ p
    go (left h) =
        absurd (both-no (and_both (ap not (ne_eqb p unknown (λ z. omega (arith, z)))) h) e)
    go (right h) = ltb-false p l h

and-on : (t : Bool) → (t && true) ≡ t
and-on true = refl
and-on false = refl

and-off : (t : Bool) → (t && false) ≡ false
and-off true = refl
and-off false = refl

or_off : (t : Bool) → (t || false) ≡ t
or_off true = refl
or_off false = refl

module _ (peers : List ℕ) (l : ℕ) (s : Setting) where
  has-behind : (p v d : ℕ) → has (behind p l v) d ≡ (late p l && has v d)
  unfolding behind
  has-behind p v d =
      pick_elim (λ (w : ℕ). has w d ≡ (late p l && has v d)) (late p l)
      (λ e. rw e refl) (λ e. rw e (has-zero d))

  behind-all : ℕ
  behind-all =
      bit_or (behind (get_or peers 0 0) l 1)
      (bit_or (behind (get_or peers 1 0) l 2)
      (bit_or (behind (get_or peers 2 0) l 4)
      (bit_or (behind (get_or peers 3 0) l 8)
      (behind (get_or peers 4 0) l 16))))

  any_behind : (d : ℕ)
      → has behind-all d
      ≡ (late (get_or peers 0 0) l && has 1 d || (late (get_or peers 1 0) l && has 2 d
      || (late (get_or peers 2 0) l && has 4 d || (late (get_or peers 3 0) l && has 8 d
      || late (get_or peers 4 0) l && has 16 d))))
  unfolding behind-all
  any_behind d = simp (has_or, has-behind)

  all-behind : (d : ℕ) → In d most_boxes → has behind-all d ≡ late (get_or peers (d - 1) 0) l
  unfolding has digit
  all-behind zero h = absurd (omega arith)
  all-behind (suc zero) h = any_behind 1 ∙ simp (and-on, and-off, or_off)
  all-behind (suc (suc zero)) h = any_behind 2 ∙ simp (and-on, and-off, or_off)
  all-behind (suc (suc (suc zero))) h = any_behind 3 ∙ simp (and-on, and-off, or_off)
  all-behind (suc (suc (suc (suc zero)))) h = any_behind 4 ∙ simp (and-on, and-off, or_off)
  all-behind (suc (suc (suc (suc (suc zero))))) h = any_behind 5 ∙ simp (and-on, and-off)
  all-behind (suc (suc (suc (suc (suc (suc d)))))) h = absurd (omega arith)

  pub has-lagging : (d : ℕ) → In d most_boxes
      → has (lagging peers l s) d ≡ (has (others s) d && late (get_or peers (d - 1) 0) l)
  unfolding lagging behind-all
  has-lagging d h =
      has-and (others s) behind-all d
      ∙ ap (λ (t : Bool). has (others s) d && t) (all-behind d h)

pub ahead_more : (l : ℕ) (ys : List Letter) (y : Letter)
    → ahead l (ys ++ (y ∷ [])) ≡ max (ahead l ys) y.head.last
unfolding ahead
ahead_more l [] y = higher-max l y.head.last
ahead_more l (x ∷ ys) y = ahead_more (higher l x.head.last) ys y

module _ (set : ℕ) (m : Mail) (rs : List ℕ) (d : ℕ) where
  pub sent-none : has set d ≡ false → sent_to (Out.To set m) rs d ≡ []
  unfolding sent_to
  sent-none e = rw e refl

  pub sent-few : length (sent_to (Out.To set m) rs d) ≤ 1
  unfolding sent_to
  sent-few =
      cond_elim (λ (ys : List Letter). length ys ≤ 1) (has set d) (λ e. omega arith)
      (λ e. omega arith)

  pub sent-commits : m.kind ≡ Kind.Commit → All IsCommit (sent_to (Out.To set m) rs d)
  unfolding sent_to
  sent-commits k = cond_elim (All IsCommit) (has set d) (λ e. cons k nil) (λ e. nil)

  -- whoever is not sent the last has it already
  pub sent-ahead : (l : ℕ) (down : List Letter) → ahead l down ≤ m.last
      → (has set d ≡ false → ahead l down ≡ m.last)
      → ahead l (down ++ sent_to (Out.To set m) rs d) ≡ m.last
  unfolding sent_to
  sent-ahead l down below there =
      cond_elim (λ (ys : List Letter). ahead l (down ++ ys) ≡ m.last) (has set d)
      (λ e. omega (arith, ahead_more l down (letter_of m rs), below))
      (λ e. rw append-nil (there e))
