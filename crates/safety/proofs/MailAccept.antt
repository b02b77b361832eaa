-- An Accept is taken: its sender has the leader's record, and joins the accept set.
use Prim.Native.Nat.{ℕ}
use mathlib.Core.Path.{◌≡◌, refl, sym, subst}
use mathlib.Core.Bool.{true}
use mathlib.Core.List.{List}
use native.Mathlib.Omega.{arith}
use Rattle.rules.specs.Sizes.{most_boxes}
use Rattle.rules.specs.Sets.{has, joined}
use Rattle.rules.specs.Fields.{with_accepts}
use Rattle.rules.specs.Mails.{on_accept}
use Rattle.rules.specs.Box.{Box, Letter, written}
use Rattle.rules.specs.Site.{Site, popped, posted, upd}
use Rattle.rules.specs.Step.{by_turn}
use Rattle.laws.proofs.Types.{Kind}
use Rattle.laws.proofs.Logic.{Or, left, right, In}
use Rattle.laws.proofs.SetLaws.{joined_in}
use Rattle.laws.proofs.Conditions.{AcceptTaken, go-accept}
use Rattle.laws.proofs.FrameLaws.{all_pop}
use Rattle.laws.proofs.View.{Store, store, Reading}
use Rattle.laws.proofs.StepLaws.{changed, by-settled}
use Rattle.safety.proofs.Inv.{VotedFor, MailOk, AcceptOk, Settled, Inv}
use Rattle.safety.proofs.After.{After, after, after_same}
use Rattle.safety.proofs.Base.{core-kept, ranks-kept}
use Rattle.safety.proofs.Leader.{Led, led, led-mail, PostLed, lead-mails, lead-live}
use Rattle.safety.proofs.Leader.{onward-same, same_next, mail-kept, settled-kept}
use Rattle.safety.proofs.Quiet.{inv-popped}
use Rattle.safety.proofs.Arrival.{Arrives}

module _ (s : Site) (i : Inv s) (a c : ℕ) (y : Letter) (ys : List Letter)
    (r : Arrives s a c y ys Kind.Accept)
    (t : AcceptTaken (s.box c).head y.head) where
  abbrev x : Box
  x = record {
    head = with_accepts (joined (s.box c).head.accepts a) (s.box c).head;
    records = (s.box c).records;
  }

  L : Led s.n s.present s.box s.link i.agreed c (s.box c)
  L = led (i.live r.even) c r.to t.leads

  ok : AcceptOk s.present i.agreed c (s.box c) a (store (s.box a)) c y.head.pn
      y.head.last
  ok = led-mail L a c y ys r.head r.apart Kind.Accept r.kind

  k : Settled s.n s.present s.box i.agreed c (s.box c)
  k = L.settled ok.recovered

  five : In a most_boxes
  five = (r.from.0, omega (arith, r.from.1, i.ranks.few))

  voted : (b : ℕ) → In b s.n → Or (has (s.box c).head.accepts b ≡ true) (b ≡ a)
      → VotedFor (s.box c) (store (s.box b))
  voted b bn (left j) = k.accepted t.phase b bn j
  voted b bn (right j) =
      subst (λ (b : ℕ). VotedFor (s.box c) (store (s.box b))) (sym j) (ok.voted (sym t.place))

  accepted : (b : ℕ) → In b s.n → has x.head.accepts b ≡ true
      → VotedFor (s.box c) (store (s.box b))
  accepted b bn h = voted b bn (joined_in (s.box c).head.accepts a b five h)

  stays : (j : ℕ) (sj : Store) (b : ℕ) (sb : Store) (m : Reading)
      → MailOk s.present i.agreed c (s.box c) j sj b sb m
      → MailOk s.present i.agreed c x j sj b sb m
  stays =
      mail-kept s.present i.agreed c (s.box c) x (onward-same refl refl) _ _
      (same_next (store (s.box c)))

  joins : After s i (changed s (upd s.box c x) (popped s a c).link)
  joins = after (record {
    core = core-kept i.core c x r.to (i.core.boxes c r.to)
        (omega arith) (omega arith) refl;
    ranks = ranks-kept i.ranks c x r.to refl refl;
    live = λ z.
        lead-live c L x t.leads (popped s a c).link i.agreed
        (λ f. absurd (omega (arith, t.phase, f)))
        (λ f. absurd (omega (arith, t.phase, f)))
        (λ f. absurd (omega (arith, t.phase, f)))
        (λ f. settled-kept c x k k.done k.own (λ g. accepted))
        (all_pop (PostLed c L x t.leads i.agreed) s.link
        (lead-mails c L x t.leads i.agreed (λ a b m. stays a _ b _ m)) a c);
  })

pub inv-accept : (s : Site) (i : Inv s) (a c : ℕ) (y : Letter) (ys : List Letter)
    → Arrives s a c y ys Kind.Accept
    → After s i (by_turn s (popped s a c) c (on_accept (s.box c).head a y.head) y.records
    ).next
unfolding on_accept posted written
inv-accept s i a c y ys r =
    by-settled (After s i) s (popped s a c) c _ _ _ _ (after_same i) (inv-popped s a c i)
    (λ go. joins s i a c y ys r (go-accept go))
