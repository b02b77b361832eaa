-- What the set of a leader says of one other box b, and why, in an even epoch; a turn of the leader
-- keeps it.
use Prim.Native.Nat.{ℕ}
use mathlib.Core.Path.{◌≡◌, refl, sym, ap, ◌∙◌}
use mathlib.Core.Bool.{true, false, ◌||◌, cond}
use mathlib.Core.List.{List, ◌∷◌, ◌++◌, append-nil}
use native.Mathlib.Omega.{arith}
use lib.Dec.{eqb}
use lib.ListN.{get_or}
use Rattle.std.specs.Prelude.{Option}
use Rattle.rules.specs.Sizes.{most_boxes}
use Rattle.rules.specs.Sets.{bit, includes, has}
use Rattle.rules.specs.Numbers.{phase_number}
use Rattle.rules.specs.Parts.{others}
use Rattle.rules.specs.Turns.{still}
use Rattle.rules.specs.Last.{told, raised, counted, uncounted, replied, on_last}
use Rattle.rules.specs.Mails.{on_collect, on_begin, on_accept, on_commit, on_lease, on_lease_ack}
use Rattle.rules.specs.Mails.{of_kind}
use Rattle.rules.specs.Mails.{on_mail}
use Rattle.rules.specs.Steps.{recover, collect, started, leased, has_previous, ready, offer}
use Rattle.rules.specs.Steps.{propose}
use Rattle.rules.specs.Steps.{agree, finish, lease_heard, trim, acted}
use Rattle.rules.specs.Box.{Box, Letter, next_of, mine}
use Rattle.laws.proofs.Types.{Act, Answer, BoxState, Kind, Out, Setting, Turn}
use Rattle.laws.proofs.Logic.{Or, left, right, In, decide, both-no, pick_elim, All, nil, All-head}
use Rattle.laws.proofs.Logic.{All-append, All-map}
use Rattle.laws.proofs.SetLaws.{bit_is, joined_in, without_in, includes_in}
use Rattle.laws.proofs.Conditions.{go-unless, go_cause, go-last, go-begin, go-accept, can-recover}
use Rattle.laws.proofs.Conditions.{can-collect, can-ready, can-propose, can-agree, can-finish}
use Rattle.laws.proofs.Conditions.{can-heard}
use Rattle.laws.proofs.StepLaws.{by-verdict}
use Rattle.safety.proofs.HeardWay.{part, part_of, Other, Asks, Ordered, ordered-other}
use Rattle.safety.proofs.HeardWay.{ordered_end, InPlace, all-place, ordered-place, sends}
use Rattle.safety.proofs.HeardWay.{all-sends}

-- what a phase is to a lease: Begin 1, Lease and LeaseDone 2
abbrev pub stage : ℕ → ℕ
stage p = cond (eqb p 4) 1 (cond (eqb p 3 || eqb p 6) 2 0)

abbrev pub stage_of : BoxState → ℕ
stage_of h = stage (phase_number h.phase)

-- G says that b took a Lease, and that the lease has been out since. A letter on the way while a
-- lease is out, l the leader's last:
abbrev pub Comes : Type 0 → ℕ → Letter → Type 0
Comes G l y = (part_of y ≡ 2 → y.head.last ≡ l) × (part_of y ≡ 3 → G)

-- w is the present set
module _ (w b : ℕ) (G : Type 0) where
  -- the leader's box h, and the way to b and back
  pub record Hears (h : BoxState) (way : List Letter) : Type 0 where
    -- no Lease goes to a box that is not present
    pub absent : has w b ≡ false → All Other way
    -- where a lease begins, no Lease of an earlier one is left, and no LeaseAck: ..
    pub clear : stage_of h ≡ 0 → All Other way
    -- .. b's Accept came behind all of them, ..
    pub accepted : stage_of h ≡ 1 → has h.accepts b ≡ true → All Other way
    -- .. since the Begin that it answers went behind them
    pub ordered : stage_of h ≡ 1 → Ordered h.kept.last way
    -- so each LeaseAck that comes while a lease is out is of that lease, and the set is true
    pub noted : stage_of h ≡ 2 → has h.heard b ≡ true → G
    pub coming : stage_of h ≡ 2 → All (Comes G h.kept.last) way

  module _ (h : BoxState) (y : Letter) (new back : List Letter)
      (p : InPlace h.kept.last y new)
      (c : Comes G h.kept.last y → All (Comes G h.kept.last) new) where
    pub hears-place : (front : List Letter) → Hears h (front ++ (y ∷ back))
        → Hears h (front ++ (new ++ back))
    hears-place front o = record {
      absent = λ e. all-place y new back Other front p.other (o.absent e);
      clear = λ e. all-place y new back Other front p.other (o.clear e);
      accepted = λ e a. all-place y new back Other front p.other (o.accepted e a);
      ordered = λ e. ordered-place y new back h.kept.last front p (o.ordered e);
      noted = o.noted;
      coming = λ e. all-place y new back (Comes G h.kept.last) front c (o.coming e);
    }

-- G need only be true while a lease is out
pub hears-map : {w b : ℕ} {G H : Type 0} {h : BoxState} {way : List Letter}
    → (stage_of h ≡ 2 → G → H) → Hears w b G h way → Hears w b H h way
hears-map f o = record {
  absent = o.absent;
  clear = o.clear;
  accepted = o.accepted;
  ordered = o.ordered;
  noted = λ e i. f e (o.noted e i);
  coming = λ e. All-map (λ y c. (c.0, λ i. f e (c.1 i))) (o.coming e);
}

-- the leader's turn; `way` is without the mail that came
module _ (s : Setting) (b : ℕ) (G : Type 0) (x : Box) (way : List Letter)
    (me : In s.me most_boxes) (ne : b ≡ s.me → ⊥)
    (old : x.head.leads ≡ true → Hears s.present b G x.head way) where
  abbrev pub Goes : Turn → Type 0
  Goes t = t.next.leads ≡ true → (rs : List ℕ)
      → Hears s.present b G t.next (way ++ sends b t.out rs)

  -- nothing is sent
  silent : (h : BoxState) → Hears s.present b G h way → (rs : List ℕ)
      → Hears s.present b G h (way ++ sends b Out.Nothing rs)
  unfolding sends
  silent h o rs = rw (append-nil way) o

  same : (a : Answer) → Goes (still x.head a)
  same a l rs = silent x.head (old l) rs

  alone : has (bit s.me) b ≡ true → ⊥
  alone e = ne (bit_is s.me b me e)

  -- a Lease is sent, and the set is the leader alone
  goes-leased : (h : BoxState) → All Other way → Goes (leased h s)
  unfolding leased others
  goes-leased h f l rs = record {
    absent = λ a.
        All-append f (all-sends b _ _ rs (λ i. absurd (both-no (without_in _ _ b me i).0 a)));
    clear = λ e. absurd (omega (arith, e));
    accepted = λ e. absurd (omega (arith, e));
    ordered = λ e. absurd (omega (arith, e));
    noted = λ e i. absurd (alone i);
    coming = λ e.
        All-append
        (All-map (λ y o. (λ i. absurd (omega (arith, o, i)), λ i. absurd (omega (arith, o, i)))) f)
        (all-sends b _ _ rs (λ i. (λ j. refl, λ j. absurd (omega (arith, j)))));
  }

  -- a record is started: a Begin is sent, and the accept set is the leader alone
  goes-started : (h : BoxState) (r : ℕ) → x.head.leads ≡ true
      → ((zs : List Letter) → All Other zs → Ordered h.kept.last (way ++ zs))
      → Goes (started h s r)
  unfolding started
  goes-started h r led o l rs = record {
    absent = λ a. All-append ((old led).absent a) begin;
    clear = λ e. absurd (omega (arith, e));
    accepted = λ e i. absurd (alone i);
    ordered = λ e. o _ begin;
    noted = λ e. absurd (omega (arith, e));
    coming = λ e. absurd (omega (arith, e));
  }
    where
      begin : All Other (sends b (started h s r).out rs)
      begin = all-sends b _ _ rs (λ i. omega arith)

  -- no lease is out and no record is being agreed: and so it stays
  goes-clear : (h : BoxState) (out : Out) → stage_of h ≡ 0 → All Other way
      → ((rs : List ℕ) → All Other (sends b out rs)) → (rs : List ℕ)
      → Hears s.present b G h (way ++ sends b out rs)
  goes-clear h out z f g rs = record {
    absent = λ a. All-append f (g rs);
    clear = λ e. All-append f (g rs);
    accepted = λ e. absurd (omega (arith, z, e));
    ordered = λ e. absurd (omega (arith, z, e));
    noted = λ e. absurd (omega (arith, z, e));
    coming = λ e. absurd (omega (arith, z, e));
  }

  none : (rs : List ℕ) → All Other (sends b Out.Nothing rs)
  unfolding sends
  none rs = nil

  -- the stage stays, and the last; `accepted` and `noted` are shown anew
  goes_on : (h : BoxState) → stage_of h ≡ stage_of x.head → h.kept.last ≡ x.head.kept.last
      → x.head.leads ≡ true
      → (stage_of x.head ≡ 1 → has h.accepts b ≡ true → All Other way)
      → (stage_of x.head ≡ 2 → has h.heard b ≡ true → G) → (rs : List ℕ)
      → Hears s.present b G h (way ++ sends b Out.Nothing rs)
  goes_on h p k l accepted noted = let o = old l in
      silent h (record {
        absent = o.absent;
        clear = λ e. o.clear (sym p ∙ e);
        accepted = λ e. accepted (sym p ∙ e);
        ordered = λ e. rw k (o.ordered (sym p ∙ e));
        noted = λ e. noted (sym p ∙ e);
        coming = λ e. rw k (o.coming (sym p ∙ e));
      })

  -- .. and both sets stay
  goes_same : (h : BoxState) → stage_of h ≡ stage_of x.head
      → h.kept.last ≡ x.head.kept.last → h.accepts ≡ x.head.accepts
      → h.heard ≡ x.head.heard → x.head.leads ≡ true → (rs : List ℕ)
      → Hears s.present b G h (way ++ sends b Out.Nothing rs)
  goes_same h p k a n l =
      goes_on h p k l (λ e. rw a ((old l).accepted e)) (λ e. rw n ((old l).noted e))

  -- a step: where no record is being agreed, no Begin of last+1 is on its way, and no Accept
  module _ (asked : x.head.leads ≡ true → (phase_number x.head.phase ≡ 4 → ⊥)
      → All (λ y. Asks x.head.kept.last y → ⊥) way) where
    pub lead-act : (a : Act) → Goes (acted a x.head s (mine x))
    unfolding acted recover collect ready offer propose agree finish lease_heard trim
    lead-act Act.Recover =
        by-verdict Goes _ _ _ same
        (λ go. let o = (can-recover (go-unless _ _ _ go).0).0 in
        λ l. goes-clear _ _ refl ((old l).clear (ap stage o.phase)) none)
    lead-act Act.Collect =
        by-verdict Goes _ _ _ same
        (λ go. let o = can-collect (go-unless _ _ _ go).0 in
        λ l. goes-clear _ _ refl ((old l).clear (ap stage o.phase))
        (λ rs. all-sends b _ _ rs (λ i. omega arith)))
    lead-act Act.Ready =
        by-verdict Goes _ _ _ same
        (λ go. let o = (can-ready (go-unless _ _ _ go).0).0 in
        let f = (old o.leads).clear (ap stage o.phase) in
        pick_elim Goes (has_previous x.head)
        (λ e. goes-started _ _ o.leads (λ zs g. ordered-other _ _ (All-append f g)))
        (λ e. goes-leased _ f))
    lead-act (Act.Offer l r) =
        by-verdict Goes _ _ _ same (λ go. goes_same _ refl refl refl refl)
    lead-act Act.Propose =
        by-verdict Goes _ _ _ same
        (λ go. let o = (can-propose (go-unless _ _ _ go).0).0 in
        goes-started _ _ o.leads (λ zs. ordered_end _ way zs (asked o.leads o.phase)))
    lead-act Act.Agree =
        by-verdict Goes _ _ _ same
        (λ go. let o = can-agree (go-unless _ _ _ go).0 in
        λ l. goes-clear _ _ refl
        (all (old l) (ap stage o.leading.phase) o.accepted (decide (has s.present b)))
        (λ rs. all-sends b _ _ rs (λ i. omega arith)))
      where
        -- who is present has accepted
        all : Hears s.present b G x.head way → stage_of x.head ≡ 1
            → includes x.head.accepts s.present ≡ true
            → Or (has s.present b ≡ true) (has s.present b ≡ false) → All Other way
        all o e i (left p) = o.accepted e (includes_in _ _ b i p)
        all o e i (right p) = o.absent p
    lead-act Act.Finish =
        by-verdict Goes _ _ _ same
        (λ go. let o = can-finish (go-unless _ _ _ go).0 in
        goes-leased _ ((old o.leads).clear (ap stage o.phase)))
    lead-act Act.Heard =
        by-verdict Goes _ _ _ same
        (λ go. let o = (can-heard (go-unless _ _ _ go).0).0 in
        goes_same _ (sym (ap stage o.phase)) refl refl refl)
    lead-act (Act.Trim k) =
        by-verdict Goes _ _ _ same (λ go. goes_same _ refl refl refl refl)

  -- a mail y from box a: if a is b, it stood at the head of the way
  module _ (a : ℕ) (y : Letter) (from : In a most_boxes)
      (head : b ≡ a → x.head.leads ≡ true → Hears s.present b G x.head (y ∷ way)) where
    lead-replied : (h : BoxState) → stage_of h ≡ 0 → (q : Option ℕ)
        → stage_of (replied h s.me a y.head q) ≡ 0
    unfolding replied raised counted uncounted
    lead-replied h e q =
        pick_elim (λ (z : BoxState). stage_of z ≡ 0) _ (λ i. refl)
        (λ i. pick_elim (λ (z : BoxState). stage_of z ≡ 0) _ (λ j. e) (λ j. e))

    lead-kind : (k : Kind) → y.head.kind ≡ k
        → Goes (of_kind k x.head s a y.head (get_or y.records 0 0) (next_of y) (mine x))
    unfolding of_kind on_collect on_last on_begin on_accept on_commit on_lease on_lease_ack told
    lead-kind Kind.Collect e =
        by-verdict Goes _ _ _ same
        (λ go l. absurd (both-no l (go_cause _ _ _ _ _ go).no_role))
    lead-kind Kind.Last e =
        by-verdict Goes _ _ _ same
        (λ go l. let o = go-last go in let z = ap stage o.phase in
        goes-clear _ _ (lead-replied _ z _) ((old o.leads).clear z)
        (λ rs. all-sends b _ _ rs (λ i. omega arith)))
    lead-kind Kind.Begin e =
        by-verdict Goes _ _ _ same (λ go l. absurd (both-no l (go-begin go).follows))
    lead-kind Kind.Accept e =
        by-verdict Goes _ _ _ same
        (λ go l. goes_on _ refl refl l
        (λ z i. joins l z (sym (go-accept go).place) (joined_in _ a b from i)) (old l).noted)
      where
        joins : x.head.leads ≡ true → stage_of x.head ≡ 1
            → y.head.last ≡ x.head.kept.last
            → Or (has x.head.accepts b ≡ true) (b ≡ a) → All Other way
        joins l z p (left i) = (old l).accepted z i
        joins l z p (right i) = ((head i l).ordered z).0 (ap part e, p)
    lead-kind Kind.Commit e =
        by-verdict Goes _ _ _ same
        (λ go l. absurd (both-no l (go_cause _ _ _ _ _ go).no_role))
    lead-kind Kind.Lease e =
        by-verdict Goes _ _ _ same
        (λ go l. absurd (both-no l (go_cause _ _ _ _ _ go).no_role))
    lead-kind Kind.LeaseAck e =
        by-verdict Goes _ _ _ same
        (λ go l. goes_on _ refl refl l (old l).accepted
        (λ z i. joins l z (joined_in _ a b from i)))
      where
        joins : x.head.leads ≡ true → stage_of x.head ≡ 2
            → Or (has x.head.heard b ≡ true) (b ≡ a) → G
        joins l z (left i) = (old l).noted z i
        joins l z (right i) = (All-head ((head i l).coming z)).1 (ap part e)

    pub lead-mail :
        Goes (on_mail x.head s a y.head (get_or y.records 0 0) (next_of y) (mine x))
    unfolding on_mail
    lead-mail = by-verdict Goes _ _ _ same (λ go. lead-kind y.head.kind refl)
