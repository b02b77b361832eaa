-- A box never sends to itself.
use Prim.Native.Nat.{ℕ}
use mathlib.Core.Path.{◌≡◌, refl, sym, ap, ◌∙◌}
use mathlib.Core.Bool.{Bool, true, false, not, ◌&&◌}
use mathlib.Core.List.{List}
use lib.ListN.{get_or}
use borrow.Author.Tests.{ne_eqb}
use Rattle.rules.specs.Sizes.{most_boxes}
use Rattle.rules.specs.Sets.{has, bit}
use Rattle.rules.specs.Turns.{settled}
use Rattle.rules.specs.Parts.{others}
use Rattle.rules.specs.Last.{lagging, on_last}
use Rattle.rules.specs.Mails.{on_collect, on_begin, on_accept, on_commit, on_lease, on_lease_ack}
use Rattle.rules.specs.Mails.{of_kind}
use Rattle.rules.specs.Mails.{on_mail}
use Rattle.rules.specs.Steps.{recover, collect, started, leased, has_previous, ready, offer}
use Rattle.rules.specs.Steps.{propose}
use Rattle.rules.specs.Steps.{agree, finish, lease_heard, trim, acted}
use Rattle.rules.specs.Box.{Box, Letter, Event, own, mail, mine, next_of, turn_of}
use Rattle.laws.proofs.Types.{Act, Kind, Setting, Turn, Verdict}
use Rattle.laws.proofs.Logic.{In, eqb_same, pick_elim}
use Rattle.laws.proofs.SetLaws.{has-and, has-bit, has-without}
use Rattle.laws.specs.Receivers.{NotTo}
use Rattle.laws.proofs.StepLaws.{by-verdict}

and-off : (a : Bool) → (a && false) ≡ false
and-off true = refl
and-off false = refl

off-and : {a : Bool} (b : Bool) → a ≡ false → (a && b) ≡ false
off-and b e = rw e refl

module _ (s : Setting) (x : Box) (me : In s.me most_boxes) where
  abbrev Apart : Turn → Type 0
  Apart t = NotTo s.me t.out

  settled-apart : (v : Verdict) (t : Turn) → Apart t → Apart (settled x.head v t)
  settled-apart v t h = by-verdict Apart x.head v t (λ a. tt) (λ go. h)

  not-others : has (others s) s.me ≡ false
  unfolding others
  not-others =
      has-without s.present s.me s.me me me
      ∙ ap (λ (b : Bool). has s.present s.me && not b) (eqb_same s.me)
      ∙ and-off (has s.present s.me)

  act-apart : (a : Act) → Apart (acted a x.head s (mine x))
  unfolding acted recover collect ready offer propose agree finish lease_heard trim started leased
  act-apart Act.Recover = settled-apart _ _ tt
  act-apart Act.Collect = settled-apart _ _ not-others
  act-apart Act.Ready =
      settled-apart _ _
      (pick_elim Apart (has_previous x.head) (λ e. not-others) (λ e. not-others))
  act-apart (Act.Offer l r) = settled-apart _ _ tt
  act-apart Act.Propose = settled-apart _ _ not-others
  act-apart Act.Agree = settled-apart _ _ not-others
  act-apart Act.Finish = settled-apart _ _ not-others
  act-apart Act.Heard = settled-apart _ _ tt
  act-apart (Act.Trim k) = settled-apart _ _ tt

  module _ (a : ℕ) (from : In a most_boxes) (other : a ≡ s.me → ⊥) (y : Letter) where
    not-sender : has (bit a) s.me ≡ false
    not-sender = has-bit a s.me from ∙ ne_eqb s.me a (λ e. other (sym e))

    not-lagging : (peers : List ℕ) (last : ℕ) → has (lagging peers last s) s.me ≡ false
    unfolding lagging
    not-lagging peers last = has-and (others s) _ s.me ∙ off-and _ not-others

    kind-apart : (k : Kind)
        → Apart (of_kind k x.head s a y.head (get_or y.records 0 0) (next_of y) (mine x))
    unfolding of_kind on_collect on_last on_begin on_accept on_commit on_lease on_lease_ack
    kind-apart Kind.Collect = settled-apart _ _ not-sender
    kind-apart Kind.Last = settled-apart _ _ (not-lagging _ _)
    kind-apart Kind.Begin = settled-apart _ _ not-sender
    kind-apart Kind.Accept = settled-apart _ _ tt
    kind-apart Kind.Commit = settled-apart _ _ tt
    kind-apart Kind.Lease = settled-apart _ _ not-sender
    kind-apart Kind.LeaseAck = settled-apart _ _ tt

    mail-apart : Apart (turn_of s x (mail a y))
    unfolding on_mail
    mail-apart = settled-apart _ _ (kind-apart y.head.kind)

-- a mail is another box's
abbrev pub Foreign : Setting → Event → Type 0
Foreign s (own a) = Unit {0}
Foreign s (mail a y) = In a most_boxes × (a ≡ s.me → ⊥)

pub turn-apart : (s : Setting) (x : Box) (e : Event) → In s.me most_boxes → Foreign s e
    → NotTo s.me (turn_of s x e).out
turn-apart s x (own a) me h = act-apart s x me a
turn-apart s x (mail a y) me h = mail-apart s x me a h.0 h.1 y
