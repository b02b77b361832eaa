-- Who answered is never made up: no call changes the set but a Collect and a Last, whatever the
-- site.
use Prim.Native.Nat.{ℕ}
use mathlib.Core.Path.{◌≡◌, refl}
use mathlib.Core.List.{List, ◌∷◌}
use lib.ListN.{get_or}
use Rattle.rules.specs.Parts.{took_kept}
use Rattle.rules.specs.Last.{told, raised, counted, uncounted, replied, on_last}
use Rattle.rules.specs.Mails.{on_collect, on_begin, on_accept, on_commit, on_lease, on_lease_ack}
use Rattle.rules.specs.Mails.{of_kind}
use Rattle.rules.specs.Mails.{on_mail}
use Rattle.rules.specs.Steps.{elected, recover, collect, started, leased, ready, offer, propose}
use Rattle.rules.specs.Steps.{agree, finish, lease_heard, trim, acted}
use Rattle.rules.specs.Box.{Box, Letter, Event, own, mail, mine, next_of, turn_of}
use Rattle.rules.specs.Site.{Site, setting, is_box}
use Rattle.rules.specs.Step.{elect, presented, step}
use Rattle.laws.proofs.Types.{Act, BoxState, Call, Kind, Turn}
use Rattle.laws.proofs.Logic.{cond_elim, pick_elim, eqb_yes}
use Rattle.laws.proofs.FrameLaws.{upd-all}
use Rattle.laws.proofs.View.{Links}
use Rattle.laws.proofs.StepLaws.{
  Plays,
  recovers,
  collects,
  readies,
  offers,
  proposes,
  agrees,
  finishes,
  hears,
  trims,
  delivers,
  by-verdict,
  by-step,
}
use Rattle.shut_out.specs.Engines.{Answered, before, itself, sender}

module _ (s : Site) where
  module _ (d : Call) (c : ℕ) where
    abbrev After : Turn → Type 0
    After t = Answered s c d t.next.answered

  -- a turn of the box itself
  by-own : {c : ℕ} {d : Call} {a : Act} {link : Links} → Plays s c d (own a) link
      → After d c (turn_of (setting s c) (s.box c) (own a))
  unfolding acted recover collect ready started leased offer propose agree finish lease_heard trim
  by-own recovers = by-verdict (After _ _) _ _ _ (λ a. before) (λ go. before)
  by-own collects = by-verdict (After _ _) _ _ _ (λ a. before) (λ go. itself)
  by-own readies =
      by-verdict (After _ _) _ _ _ (λ a. before)
      (λ go. pick_elim (After _ _) _ (λ e. before) (λ e. before))
  by-own (offers l r) = by-verdict (After _ _) _ _ _ (λ a. before) (λ go. before)
  by-own proposes = by-verdict (After _ _) _ _ _ (λ a. before) (λ go. before)
  by-own agrees = by-verdict (After _ _) _ _ _ (λ a. before) (λ go. before)
  by-own finishes = by-verdict (After _ _) _ _ _ (λ a. before) (λ go. before)
  by-own hears = by-verdict (After _ _) _ _ _ (λ a. before) (λ go. before)
  by-own (trims k) = by-verdict (After _ _) _ _ _ (λ a. before) (λ go. before)

  -- a mail
  module _ {a c : ℕ} {y : Letter} {ys : List Letter} (head : s.link a c ≡ y ∷ ys) where
    abbrev Mailed : Turn → Type 0
    Mailed = After (Call.Deliver a c) c

    by_kind : (k : Kind) → y.head.kind ≡ k
        → Mailed (of_kind k (s.box c).head (setting s c) a y.head (get_or y.records 0 0)
        (next_of y) (mine (s.box c)))
    unfolding of_kind on_collect on_last on_begin on_accept on_commit on_lease
        on_lease_ack told took_kept
        replied raised counted uncounted
    by_kind Kind.Collect is = by-verdict Mailed _ _ _ (λ a. before) (λ go. before)
    by_kind Kind.Last is =
        by-verdict Mailed _ _ _ (λ a. before)
        (λ go.
        pick_elim (λ (h : BoxState). Answered s c (Call.Deliver a c) h.answered) _ (λ e. before)
        (λ e.
        pick_elim (λ (h : BoxState). Answered s c (Call.Deliver a c) h.answered) _
        (λ f. sender head is (eqb_yes _ _ f)) (λ f. before)))
    by_kind Kind.Begin is = by-verdict Mailed _ _ _ (λ a. before) (λ go. before)
    by_kind Kind.Accept is = by-verdict Mailed _ _ _ (λ a. before) (λ go. before)
    by_kind Kind.Commit is = by-verdict Mailed _ _ _ (λ a. before) (λ go. before)
    by_kind Kind.Lease is = by-verdict Mailed _ _ _ (λ a. before) (λ go. before)
    by_kind Kind.LeaseAck is = by-verdict Mailed _ _ _ (λ a. before) (λ go. before)

    by-mail : Mailed (turn_of (setting s c) (s.box c) (mail a y))
    unfolding on_mail
    by-mail = by-verdict Mailed _ _ _ (λ a. before) (λ go. by_kind y.head.kind refl)

  by_event : {c : ℕ} {d : Call} (e : Event) {link : Links} → Plays s c d e link
      → After d c (turn_of (setting s c) (s.box c) e)
  by_event (own a) plays = by-own plays
  by_event (mail a y) (delivers sent other head) = by-mail head

  pub replies : (d : Call) (b : ℕ) → Answered s b d ((step s d).next.box b).head.answered
  unfolding elect elected presented
  replies d =
      by-step (λ (t : Site). (b : ℕ) → Answered s b d (t.box b).head.answered) s (λ b. before)
      (λ c f e b. cond_elim (λ (h : BoxState). Answered s b d h.answered) (is_box s.n b)
      (λ i. before) (λ i. before))
      (λ w f g h b. before)
      (λ a c f b. before)
      (λ a c f h b. before) d
      (λ c e link w f i r.
      upd-all (λ b (x : Box). Answered s b d x.head.answered) s.box c (by_event e w)
      (λ b. before))
