-- The invariant holds after every run from a fresh site; what follows from it at once.
use Prim.Native.Nat.{ℕ, ◌<◌}
use mathlib.Core.Path.{◌≡◌, refl, ◌∙◌}
use mathlib.Core.List.{List, [], ◌∷◌, ◌++◌}
use native.Mathlib.Omega.{arith}
use lib.ListN.{length, get_or}
use Rattle.rules.specs.Sizes.{most_boxes}
use Rattle.rules.specs.Sets.{joined, without}
use Rattle.rules.specs.Mails.{of_kind, on_mail}
use Rattle.rules.specs.Box.{Letter, next_of, mine}
use Rattle.rules.specs.Site.{Site, setting, popped, fresh, fresh_head}
use Rattle.rules.specs.Step.{by_turn, delivered, step, run}
use Rattle.laws.proofs.Types.{Call, Kind}
use Rattle.laws.proofs.Logic.{In, both-no}
use Rattle.laws.proofs.Counts.{everyone, major-everyone}
use Rattle.laws.proofs.FormLaws.{Formed, form-says, is-box, is-link}
use Rattle.laws.proofs.Conditions.{go-unless}
use Rattle.laws.proofs.View.{store}
use Rattle.laws.proofs.StepLaws.{by-ruled, by-inner, sizes_run}
use Rattle.safety.specs.Demand3.{start}
use Rattle.safety.proofs.Inv.{BoxOk, Inv}
use Rattle.safety.proofs.After.{Longer, After, after_same}
use Rattle.safety.proofs.Arrival.{Arrives}
use Rattle.safety.proofs.Quiet.{inv-presented, inv-popped, inv-doubled}
use Rattle.safety.proofs.Elect.{inv-elect}
use Rattle.safety.proofs.Recover.{inv-recover}
use Rattle.safety.proofs.Collect.{inv-collect}
use Rattle.safety.proofs.Ready.{inv-ready}
use Rattle.safety.proofs.Offer.{inv-offer}
use Rattle.safety.proofs.Propose.{inv-propose}
use Rattle.safety.proofs.Agree.{inv-agree}
use Rattle.safety.proofs.Finish.{inv-finish}
use Rattle.safety.proofs.Heard.{inv-heard}
use Rattle.safety.proofs.Trim.{inv-trim}
use Rattle.safety.proofs.MailCollect.{inv-collect-mail}
use Rattle.safety.proofs.MailLast.{inv-last}
use Rattle.safety.proofs.MailBegin.{inv-begin}
use Rattle.safety.proofs.MailAccept.{inv-accept}
use Rattle.safety.proofs.MailCommit.{inv-commit}
use Rattle.safety.proofs.MailLease.{inv-lease, inv-lease-ack}

-- ---- every call

inv-kind : (s : Site) (i : Inv s) (a b : ℕ) (y : Letter) (ys : List Letter) (k : Kind)
    → Arrives s a b y ys k
    → After s i (by_turn s (popped s a b) b
    (of_kind k (s.box b).head (setting s b) a y.head (get_or y.records 0 0)
    (next_of y) (mine (s.box b))) y.records).next
unfolding of_kind
inv-kind s i a b y ys Kind.Collect r = inv-collect-mail s i a b y ys r
inv-kind s i a b y ys Kind.Last r = inv-last s i a b y ys r
inv-kind s i a b y ys Kind.Begin r = inv-begin s i a b y ys r
inv-kind s i a b y ys Kind.Accept r = inv-accept s i a b y ys r
inv-kind s i a b y ys Kind.Commit r = inv-commit s i a b y ys r
inv-kind s i a b y ys Kind.Lease r = inv-lease s i a b y ys r
inv-kind s i a b y ys Kind.LeaseAck r = inv-lease-ack s i a b y ys r

inv-delivered : (s : Site) (i : Inv s) (a b : ℕ)
    → Formed s → In a s.n → In b s.n → (a ≡ b → ⊥)
    → (ys : List Letter) → s.link a b ≡ ys → After s i (delivered s a b ys).next
unfolding delivered on_mail
inv-delivered s i a b f ha hb ab [] e = after_same i
inv-delivered s i a b f ha hb ab (y ∷ ys) e =
    by-inner (After s i) s (popped s a b) b _ _ _ _ (after_same i) (inv-popped s a b i)
    (λ go. inv-kind s i a b y ys y.head.kind (record {
      form = f;
      even = (go-unless _ _ _ go).0;
      from = ha;
      to = hb;
      apart = ab;
      head = e;
      kind = refl;
    }))

pub inv-step : (s : Site) (c : Call) (i : Inv s) → After s i (step s c).next
unfolding step
inv-step s (Call.Elect c) i =
    by-ruled (After s i) s _ _ (after_same i)
    (λ p. inv-elect s c i (form-says p.0) (record {
      box = is-box p.1.0;
      due = p.1.1.0;
      here = p.1.1.1.0;
      majority = p.1.1.1.1.0;
    }))
inv-step s (Call.Recover c) i = inv-recover s i c
inv-step s (Call.Collect c) i = inv-collect s i c
inv-step s (Call.Ready c) i = inv-ready s i c
inv-step s (Call.Offer c l r) i = inv-offer s i c l r
inv-step s (Call.Propose c) i = inv-propose s i c
inv-step s (Call.Agree c) i = inv-agree s i c
inv-step s (Call.Finish c) i = inv-finish s i c
inv-step s (Call.Heard c) i = inv-heard s i c
inv-step s (Call.Trim c k) i = inv-trim s i c k
inv-step s (Call.Stop c) i =
    by-ruled (After s i) s _ _ (after_same i) (λ p. inv-presented s (without s.present c) i)
inv-step s (Call.Return c) i =
    by-ruled (After s i) s _ _ (after_same i) (λ p. inv-presented s (joined s.present c) i)
inv-step s (Call.Timeout c) i =
    by-ruled (After s i) s _ _ (after_same i) (λ p. inv-presented s s.present i)
inv-step s (Call.Lose a b) i =
    by-ruled (After s i) s _ _ (after_same i) (λ p. inv-popped s a b i)
inv-step s (Call.Repeat a b) i =
    by-ruled (After s i) s _ _ (after_same i) (λ p. inv-doubled s a b i)
inv-step s (Call.Deliver a b) i =
    by-ruled (After s i) s _ _ (after_same i)
    (λ p. let l = is-link p.1.0 in
    inv-delivered s i a b (form-says p.0) l.0 l.1 l.2 (s.link a b) refl)

-- ---- from a fresh site

pub inv-start : (n J L : ℕ) → In n most_boxes → Inv (start n J L)
unfolding fresh fresh_head
inv-start n J L h = record {
  agreed = record { records = []; pn = 0; by = everyone };
  core = record {
    boxes = λ b i. record {
      low = omega arith;
      agreed = λ k i j. absurd (omega (arith, j));
      shaped = record {
        some = omega arith;
        top = omega arith;
        all = omega arith;
        next = omega arith;
      };
      kept = omega arith;
      number = λ e. absurd (omega arith);
      promise = λ e. omega arith;
      vote = λ e f. absurd (omega arith);
      same = λ e. absurd (omega arith);
      old = λ e. absurd (omega arith);
    };
    major = major-everyone n h.0;
    top = 1;
    top_in = (omega arith, h.0);
    topped = omega arith;
    N = λ x. everyone;
    N-major = λ x i. major-everyone n h.0;
    N-pn = λ x b i j e. omega arith;
  };
  ranks = record {
    few = h.1;
    pns = λ x b i j e. omega arith;
    stored_pns = λ x b i j e. omega arith;
  };
  live = λ e. absurd (both-no e refl);
}

module _ (n J L : ℕ) (size : In n most_boxes) where
  pub inv-run : (cs : List Call) → Inv (run (start n J L) cs)
  unfolding run
  inv-run [] = inv-start n J L size
  inv-run (c ∷ cs) = (inv-step (run (start n J L) cs) c (inv-run cs)).inv

  -- what is agreed after the calls, from number 1 on
  abbrev pub agreed-list : List Call → List ℕ
  agreed-list cs = (inv-run cs).agreed.records

  pub none-yet : agreed-list [] ≡ []
  unfolding inv-run inv-start
  none-yet = refl

  pub longer-step : (c : Call) (cs : List Call)
      → Longer (run (start n J L) cs) (agreed-list cs) (agreed-list (c ∷ cs))
  unfolding inv-run run
  longer-step c cs = (inv-step (run (start n J L) cs) c (inv-run cs)).longer

  -- it is a beginning of what is agreed after further calls
  pub longer-run : (ds cs : List Call) (k : ℕ) → k < length (agreed-list cs)
      → (k < length (agreed-list (ds ++ cs)))
      × (get_or (agreed-list (ds ++ cs)) k 0 ≡ get_or (agreed-list cs) k 0)
  longer-run [] cs k h = (h, refl)
  longer-run (d ∷ ds) cs k h =
      let before = longer-run ds cs k h in
      let one = longer-step d (ds ++ cs) in
      (omega (arith, before.0, one.up), one.begins k before.0 ∙ before.1)

  module _ (cs : List Call) where
    abbrev end : Site
    end = run (start n J L) cs

    pub same-n : end.n ≡ n
    unfolding fresh
    same-n = (sizes_run (start n J L) cs).n

    pub box-ok : (b : ℕ) → In b n
        → BoxOk (inv-run cs).agreed ((inv-run cs).agreed.by b) (store (end.box b))
    box-ok b h = (inv-run cs).core.boxes b (rw same-n h)
