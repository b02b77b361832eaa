-- What a box has set aside: the five fields that no rule reads before it has written them in the
-- phase that reads them. Two boxes that differ in these alone are alike.
use Prim.Native.Nat.{ℕ}
use mathlib.Core.Path.{◌≡◌, refl}
use mathlib.Core.Bool.{Bool, true, false, ◌||◌}
use mathlib.Core.List.{List}
use Rattle.rules.specs.Pick.{pick}
use Rattle.rules.specs.Numbers.{in_phase}
use Rattle.rules.specs.Steps.{elected}
use Rattle.rules.specs.Turns.{settled}
use Rattle.rules.specs.Box.{Box}
use Rattle.laws.proofs.Types.{Best, BoxState, Phase, Setting, Turn, Verdict}
use Rattle.laws.proofs.Logic.{both-no}

pub record Aside : Type 0 where
  pub best : Best
  pub answered : ℕ
  pub accepts : ℕ
  pub heard : ℕ
  pub peers : List ℕ

abbrev pub aside_of : BoxState → Aside
aside_of b = record {
  best = b.best;
  answered = b.answered;
  accepts = b.accepts;
  heard = b.heard;
  peers = b.peers;
}

-- the box with o set aside in place of its own
abbrev pub aside : BoxState → Aside → BoxState
aside b o = record {
  leads = b.leads;
  state = b.state;
  phase = b.phase;
  kept = b.kept;
  best = o.best;
  answered = o.answered;
  accepts = o.accepts;
  heard = o.heard;
  waiting = b.waiting;
  agreeing = b.agreeing;
  peers = o.peers;
}

-- the lease is out
abbrev pub leasing : Phase → Bool
leasing p = in_phase p Phase.Lease || in_phase p Phase.LeaseDone

-- what the phase p reads of o and q is the same
pub record Unread (p : Phase) (o q : Aside) : Type 0 where
  pub best : in_phase p Phase.Collect ≡ true → o.best ≡ q.best
  pub answered : in_phase p Phase.Collect ≡ true → o.answered ≡ q.answered
  pub peers : in_phase p Phase.Collect ≡ true → o.peers ≡ q.peers
  pub accepts : in_phase p Phase.Begin ≡ true → o.accepts ≡ q.accepts
  pub heard : leasing p ≡ true → o.heard ≡ q.heard

module _ {p : Phase} {o q : Aside} where
  pub idle : in_phase p Phase.Collect ≡ false → in_phase p Phase.Begin ≡ false → leasing p ≡ false
      → Unread p o q
  idle c b l = record {
    best = λ e. absurd (both-no e c);
    answered = λ e. absurd (both-no e c);
    peers = λ e. absurd (both-no e c);
    accepts = λ e. absurd (both-no e b);
    heard = λ e. absurd (both-no e l);
  }

  pub beginning : in_phase p Phase.Collect ≡ false → leasing p ≡ false → o.accepts ≡ q.accepts
      → Unread p o q
  beginning c l h = record {
    best = λ e. absurd (both-no e c);
    answered = λ e. absurd (both-no e c);
    peers = λ e. absurd (both-no e c);
    accepts = λ e. h;
    heard = λ e. absurd (both-no e l);
  }

  pub lease-out : in_phase p Phase.Collect ≡ false → in_phase p Phase.Begin ≡ false
      → o.heard ≡ q.heard → Unread p o q
  lease-out c b h = record {
    best = λ e. absurd (both-no e c);
    answered = λ e. absurd (both-no e c);
    peers = λ e. absurd (both-no e c);
    accepts = λ e. absurd (both-no e b);
    heard = λ e. h;
  }

  pub collecting : in_phase p Phase.Begin ≡ false → leasing p ≡ false → o.best ≡ q.best
      → o.answered ≡ q.answered → o.peers ≡ q.peers → Unread p o q
  collecting b l best answered peers = record {
    best = λ e. best;
    answered = λ e. answered;
    peers = λ e. peers;
    accepts = λ e. absurd (both-no e b);
    heard = λ e. absurd (both-no e l);
  }

-- ---- boxes and turns

pub record HeadAlike (b d : BoxState) : Type 0 where
  pub same : d ≡ aside b (aside_of d)
  pub unread : Unread b.phase (aside_of b) (aside_of d)

abbrev pub aside_turn : Turn → Aside → Turn
aside_turn t o = record {
  answer = t.answer;
  next = aside t.next o;
  book = t.book;
  out = t.out;
}

-- they answer, write and send the same
pub record TurnAlike (t u : Turn) : Type 0 where
  pub same : u ≡ aside_turn t (aside_of u.next)
  pub unread : Unread t.next.phase (aside_of t.next) (aside_of u.next)

abbrev pub aside_box : Box → Aside → Box
aside_box x o = record { head = aside x.head o; records = x.records }

pub record BoxAlike (x z : Box) : Type 0 where
  pub same : z ≡ aside_box x (aside_of z.head)
  pub unread : Unread x.head.phase (aside_of x.head) (aside_of z.head)

-- two settled turns with one verdict
pub settled-two : (b : BoxState) (o : Aside) (v : Verdict) (t u : Turn)
    → Unread b.phase (aside_of b) o
    → (v ≡ Verdict.Go → TurnAlike t u) → TurnAlike (settled b v t) (settled (aside b o) v u)
unfolding settled
settled-two b o Verdict.Go t u h go = go refl
settled-two b o (Verdict.Discard why) t u h go = record { same = refl; unread = h }
settled-two b o (Verdict.Refuse why) t u h go = record { same = refl; unread = h }

-- two choices by one test
pub pick_two {ℓ κ} : {A B : Type ℓ} (R : A → B → Type κ) (t : Bool) {a a' : A} {b b' : B}
    → R a b → R a' b' → R (pick t a a') (pick t b b')
unfolding pick
pick_two R true f g = f
pick_two R false f g = g

-- an election makes boxes alike that have kept the same
pub elected-two : (b d : BoxState) (s : Setting) (c : ℕ) → b.kept ≡ d.kept
    → HeadAlike (elected b s c) (elected d s c)
unfolding elected in_phase
elected-two b d s c e = record { same = rw e refl; unread = idle refl refl refl }
