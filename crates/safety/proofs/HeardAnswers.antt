-- What a box that does not lead sends to the leader c: by itself nothing, and answers to c's mails.
use Prim.Native.Nat.{ℕ}
use mathlib.Core.Path.{◌≡◌, refl, sym, ap, ◌∙◌}
use mathlib.Core.Bool.{true}
use mathlib.Core.List.{List}
use native.Mathlib.Omega.{arith}
use lib.ListN.{get_or}
use Rattle.rules.specs.Sizes.{most_boxes}
use Rattle.rules.specs.Sets.{bit, has}
use Rattle.rules.specs.Last.{on_last}
use Rattle.rules.specs.Mails.{on_collect, on_begin, on_accept, on_commit, on_lease, on_lease_ack}
use Rattle.rules.specs.Mails.{of_kind}
use Rattle.rules.specs.Mails.{on_mail}
use Rattle.rules.specs.Steps.{recover, collect, ready, offer, propose, agree, finish, lease_heard}
use Rattle.rules.specs.Steps.{trim, acted}
use Rattle.rules.specs.Box.{Box, Letter, next_of, mine}
use Rattle.laws.proofs.Types.{Act, Answer, Kind, Setting, Turn}
use Rattle.laws.proofs.Logic.{In, All, nil}
use Rattle.laws.proofs.SetLaws.{bit_is}
use Rattle.laws.proofs.Conditions.{go-unless, go-last, go-begin, go-accept, go-lease-ack}
use Rattle.laws.proofs.Conditions.{can-recover, can-collect, can-ready, can-propose, can-agree}
use Rattle.laws.proofs.Conditions.{can-finish}
use Rattle.laws.proofs.StepLaws.{by-verdict}
use Rattle.safety.proofs.HeardWay.{part, part_of, Other, Asks, sends, all-sends}

-- z, to c, answers the mail y of box a; `said` is the turn's answer
pub record Answers (c a : ℕ) (y : Letter) (said : Answer) (z : Letter) : Type 0 where
  -- it goes back, and stands in for y
  pub to : c ≡ a
  pub asks : (l : ℕ) → Asks l z → Asks l y
  pub other : Other y → Other z
  -- it is no Lease, and it is a LeaseAck only where y is a Lease that was taken
  pub lease : part_of z ≡ 2 → ⊥
  pub ack : part_of z ≡ 3 → (y.head.kind ≡ Kind.Lease) × (said ≡ Answer.Taken)

module _ (s : Setting) (c : ℕ) (x : Box) (follows : x.head.leads ≡ true → ⊥) where
  abbrev Sends : (Answer → Letter → Type 0) → Turn → Type 0
  Sends P t = (rs : List ℕ) → All (P t.answer) (sends c t.out rs)

  abbrev Silent : Turn → Type 0
  Silent = Sends (λ a z. ⊥)

  -- by itself it sends nothing
  pub follow-act : (a : Act) → Silent (acted a x.head s (mine x))
  unfolding acted recover collect ready offer propose agree finish lease_heard trim sends
  follow-act Act.Recover =
      by-verdict Silent _ _ _ (λ a rs. nil)
      (λ go. absurd (follows (can-recover (go-unless _ _ _ go).0).0.leads))
  follow-act Act.Collect =
      by-verdict Silent _ _ _ (λ a rs. nil)
      (λ go. absurd (follows (can-collect (go-unless _ _ _ go).0).leads))
  follow-act Act.Ready =
      by-verdict Silent _ _ _ (λ a rs. nil)
      (λ go. absurd (follows (can-ready (go-unless _ _ _ go).0).0.leads))
  follow-act (Act.Offer l r) = by-verdict Silent _ _ _ (λ a rs. nil) (λ go rs. nil)
  follow-act Act.Propose =
      by-verdict Silent _ _ _ (λ a rs. nil)
      (λ go. absurd (follows (can-propose (go-unless _ _ _ go).0).0.leads))
  follow-act Act.Agree =
      by-verdict Silent _ _ _ (λ a rs. nil)
      (λ go. absurd (follows (can-agree (go-unless _ _ _ go).0).leading.leads))
  follow-act Act.Finish =
      by-verdict Silent _ _ _ (λ a rs. nil)
      (λ go. absurd (follows (can-finish (go-unless _ _ _ go).0).leads))
  follow-act Act.Heard = by-verdict Silent _ _ _ (λ a rs. nil) (λ go rs. nil)
  follow-act (Act.Trim k) = by-verdict Silent _ _ _ (λ a rs. nil) (λ go rs. nil)

  -- a mail y from a
  module _ (a : ℕ) (y : Letter) (from : In a most_boxes) where
    abbrev Replies : Turn → Type 0
    Replies = Sends (Answers c a y)

    to-sender : has (bit a) c ≡ true → c ≡ a
    to-sender = bit_is a c from

    follow-kind : (k : Kind) → y.head.kind ≡ k
        → Replies (of_kind k x.head s a y.head (get_or y.records 0 0) (next_of y) (mine x))
    unfolding of_kind on_collect on_last on_begin on_accept on_commit on_lease on_lease_ack sends
    follow-kind Kind.Collect e =
        by-verdict Replies _ _ _ (λ a rs. nil)
        (λ go rs. all-sends c _ _ rs (λ i. record {
          to = to-sender i;
          asks = λ l j. absurd (omega (arith, j.0));
          other = λ j. omega arith;
          lease = λ j. omega (arith, j);
          ack = λ j. absurd (omega (arith, j));
        }))
    follow-kind Kind.Last e =
        by-verdict Replies _ _ _ (λ a rs. nil) (λ go. absurd (follows (go-last go).leads))
    follow-kind Kind.Begin e =
        by-verdict Replies _ _ _ (λ a rs. nil)
        (λ go rs. all-sends c _ _ rs (λ i. record {
          to = to-sender i;
          asks = λ l j. (ap part e, sym (go-begin go).place ∙ j.1);
          other = λ j. omega arith;
          lease = λ j. omega (arith, j);
          ack = λ j. absurd (omega (arith, j));
        }))
    follow-kind Kind.Accept e =
        by-verdict Replies _ _ _ (λ a rs. nil) (λ go. absurd (follows (go-accept go).leads))
    follow-kind Kind.Commit e = by-verdict Replies _ _ _ (λ a rs. nil) (λ go rs. nil)
    follow-kind Kind.Lease e =
        by-verdict Replies _ _ _ (λ a rs. nil)
        (λ go rs. all-sends c _ _ rs (λ i. record {
          to = to-sender i;
          asks = λ l j. absurd (omega (arith, j.0));
          other = λ j. absurd (omega (arith, j, ap part e));
          lease = λ j. omega (arith, j);
          ack = λ j. (e, refl);
        }))
    follow-kind Kind.LeaseAck e =
        by-verdict Replies _ _ _ (λ a rs. nil) (λ go. absurd (follows (go-lease-ack go).leads))

    pub follow-mail :
        Replies (on_mail x.head s a y.head (get_or y.records 0 0) (next_of y) (mine x))
    unfolding on_mail sends
    follow-mail = by-verdict Replies _ _ _ (λ a rs. nil) (λ go. follow-kind y.head.kind refl)
