-- The leader is handed a Last. While it collects, the sender has answered, or has promised more and
-- a round begins anew; a Last of an earlier round is discarded.
use Prim.Native.Nat.{ℕ, ◌-◌, ◌≤◌, ◌<◌, max}
use mathlib.Core.Path.{◌≡◌, refl, sym, ap, ◌∙◌, subst}
use mathlib.Core.Bool.{Bool, true, false, not, ◌&&◌, ◌||◌}
use mathlib.Core.List.{List, [], ◌∷◌, ◌++◌}
use native.Mathlib.Omega.{arith}
use lib.Count.{ones}
use lib.Dec.{leb}
use lib.ListN.{length, get_or, set, length-append}
use lib.Seq.{get_or-set_same, get_or-set_other}
use borrow.Author.Tests.{eq-eqb, ne_eqb, le-leb, lt-ltb, le-ltb}
use Rattle.rules.specs.Pick.{pick_true, pick-false}
use Rattle.rules.specs.Sizes.{most_boxes, most_number, most_pn, unknown}
use Rattle.rules.specs.Sets.{has, joined, without}
use Rattle.rules.specs.NewPn.{new_pn}
use Rattle.rules.specs.Fields.{with_phase, with_kept, with_best, with_answered, with_peers}
use Rattle.rules.specs.Fields.{promised}
use Rattle.rules.specs.Fields.{lasting, keeping}
use Rattle.rules.specs.Parts.{others, higher, took_kept, took_book, cleared}
use Rattle.rules.specs.Turns.{first_cause, unless, taken, mail_from}
use Rattle.rules.specs.Last.{noted, told, lagging, bettered, raised, counted, replied, last_verdict}
use Rattle.rules.specs.Last.{on_last}
use Rattle.rules.specs.Mails.{of_kind}
use Rattle.rules.specs.Steps.{has_previous}
use Rattle.rules.specs.Box.{Box, Letter, mail, next_of, written, turn_of}
use Rattle.rules.specs.Site.{Site, setting}
use Rattle.laws.proofs.Types.{Book, BoxState, Cause, Kind, Mail, Out, Phase, State, Turn, Setting}
use Rattle.laws.proofs.Types.{Verdict}
use Rattle.laws.proofs.Logic.{In, Or, left, right, All, nil, All-append, below?, and_both, and_yes}
use Rattle.laws.proofs.Logic.{or_left, or_right}
use Rattle.laws.proofs.SetLaws.{has-and, has-without, without_in, joined_in}
use Rattle.laws.proofs.NewPnLaws.{new_pn-above, new_pn-near}
use Rattle.laws.proofs.FormLaws.{FormedBox, FormedLetter, FormedLast}
use Rattle.laws.proofs.View.{higher-max}
use Rattle.wait.proofs.Stages.{Time, Other, Between, idle, old-collect, old-last}
use Rattle.wait.proofs.Stages.{old-commits, collect, answer, answered, begin, accept}
use Rattle.wait.proofs.Stages.{accepted, commit, committed, lease, lease-ack, heard, usable}
use Rattle.wait.proofs.Stages.{Leading, elected, recovers, collects, begins, commits, leases}
use Rattle.wait.proofs.Stages.{leads, same, again, Heeds, discards, takes, sent_to, cost}
use Rattle.wait.proofs.Stages.{weight, pn, last, first, phase, state, peer, ahead, IsCommit}
use Rattle.wait.proofs.HeedsLaws.{joined-new, joined-old, joined-other, ones-joined}
use Rattle.wait.proofs.HeedsLaws.{ones-two, few-down, goes, mail-turn, phase-is, settled-go}
use Rattle.wait.proofs.HeedsLaws.{late, has-lagging, sent-none, sent-few, sent-commits}
use Rattle.wait.proofs.HeedsLaws.{sent-ahead, late-not, phase-not, settled_discard}
use Rattle.wait.proofs.HeedsLaws.{two_phases}
use Rattle.wait.proofs.HeedsBest.{BestFits, bettered-fits}

-- ---- while it collects

-- asked, answering, or answered
pub collect-cases : {s : Site} {X : Box} {d : ℕ} {z : Box} {down up : List Letter}
    (P : List Letter → List Letter → Type 0) → phase X ≡ Phase.Collect
    → ((y : Letter) → y.head.kind ≡ Kind.Collect → y.head.pn ≡ pn X
    → has X.head.answered d ≡ false → peer X d ≡ unknown → P (y ∷ []) [])
    → ((y : Letter) → y.head.kind ≡ Kind.Last → y.head.pn ≡ pn z → pn X ≤ pn z
    → y.head.last ≡ last z → has X.head.answered d ≡ false → peer X d ≡ unknown
    → P [] (y ∷ []))
    → ((ys : List Letter) → All IsCommit ys → length ys < ones X.head.answered
    → ahead (last z) ys ≡ last X → has X.head.answered d ≡ true → peer X d ≤ last X
    → pn z ≡ pn X → P ys [])
    → Between s X d z down up → P down up
collect-cases P c f g h (idle p) = two_phases c p refl
collect-cases P c f g h (old-collect y p k q) = two_phases c p refl
collect-cases P c f g h (old-last y p k) = two_phases c p refl
collect-cases P c f g h (old-commits ys p k) = two_phases c p refl
collect-cases P c f g h (collect y p k q a u) = f y k q a u
collect-cases P c f g h (answer y p k q r l a u) = g y k q r l a u
collect-cases P c f g h (answered ys p k m l a u q) = h ys k m l a u q
collect-cases P c f g h (begin y p k q r l m o) = two_phases c p refl
collect-cases P c f g h (accept y p k q l m) = two_phases c p refl
collect-cases P c f g h (accepted p a l) = two_phases c p refl
collect-cases P c f g h (commit y p k l m) = two_phases c p refl
collect-cases P c f g h (committed p l) = two_phases c p refl
collect-cases P c f g h (lease y p k l m) = two_phases c p refl
collect-cases P c f g h (lease-ack y p k a l) = two_phases c p refl
collect-cases P c f g h (heard p i a l) = two_phases c p refl
collect-cases P c f g h (usable p a l) = two_phases c p refl

record Collects (s : Site) (c : ℕ) (X : Box) : Type 0 where
  recovering : state X ≡ State.Recovering
  own : has X.head.answered c ≡ true
  here : (b : ℕ) → In b s.n → has X.head.answered b ≡ true → has s.present b ≡ true
  best : BestFits s.J (first X) (last X) X.head.best

collecting : {s : Site} {c : ℕ} {X : Box} → phase X ≡ Phase.Collect → Leading s c X
    → Collects s c X
unfolding has_previous
collecting e (elected p a q) = two_phases e p refl
collecting e (recovers p a) = two_phases e p refl
collecting e (collects p a o h b r) = record {
  recovering = a;
  own = o;
  here = h;
  best = record { number = b; room = r };
}
collecting e (begins p a o h) = two_phases e p refl
collecting e (commits p a) = two_phases e p refl
collecting e (leases p a h) = two_phases e p refl
collecting e (leads p a) = two_phases e p refl

-- ---- a last is noted

module _ (peers : List ℕ) (b l : ℕ) (box : In b most_boxes) where
  noted-is : noted peers b l ≡ set peers (b - 1) l
  unfolding noted
  noted-is = pick_true _ _ _ (and_both (lt-ltb 0 b (omega arith)) (le-leb b most_boxes box.1))

  peer-new : length peers ≡ most_boxes → get_or (noted peers b l) (b - 1) 0 ≡ l
  peer-new e = rw noted-is (get_or-set_same peers (b - 1) l 0 (omega arith))

  peer-other : (d : ℕ) → In d most_boxes → (d ≡ b → ⊥)
      → get_or (noted peers b l) (d - 1) 0 ≡ get_or peers (d - 1) 0
  peer-other d h ne =
      rw noted-is (get_or-set_other peers (b - 1) (d - 1) l 0 (λ e. ne (omega (arith, e, box.0))))

-- ---- a Last of an earlier round

last-discarded : (X : Box) (s : Setting) (y : Letter) → X.head.leads ≡ true
    → phase X ≡ Phase.SendCollect
    → last_verdict X.head s y.head ≡ Verdict.Discard Cause.Phase
unfolding last_verdict first_cause
last-discarded X s y leader p =
    pick-false _ _ _ (ap not leader)
    ∙ pick_true _ _ _ (ap not (phase-not Phase.Collect p refl))

pub old-last-heeded : (s : Site) (c b : ℕ) (X x : Box) (y : Letter) → Time s c
    → X.head.leads ≡ true → phase X ≡ Phase.SendCollect → y.head.kind ≡ Kind.Last
    → Heeds s c b X x y (turn_of (setting s c) X (mail b y))
unfolding of_kind on_last
old-last-heeded s c b X x y time leader p k =
    discards Cause.Phase
    (ap (λ (t : Turn). t.answer) (mail-turn (setting s c) X b y Kind.Last time.even k)
    ∙ settled_discard X.head _ (last-discarded X (setting s c) y leader p))
    (old-commits [] p nil)

-- ---- a Last of this round

module _ (s : Site) (c b : ℕ) (X x : Box) (y : Letter) (time : Time s c) (other : Other s c b)
    (leader : X.head.leads ≡ true) (top : pn X ≤ 999999900)
    (promise : Or (pn x ≤ pn X) (pn x ≤ 999999800))
    (f : FormedBox s.n s.J c X) (g : FormedLetter s.J y) (lead : Leading s c X)
    (p : phase X ≡ Phase.Collect) (k : y.head.kind ≡ Kind.Last) (q : y.head.pn ≡ pn x)
    (r : pn X ≤ pn x) (l : y.head.last ≡ last x) (off : has X.head.answered b ≡ false) where
  few : s.n ≤ most_boxes
  few = time.sizes.few-boxes

  five : {d : ℕ} → In d s.n → In d most_boxes
  five h = (h.0, omega (arith, h.1, few))

  on : Collects s c X
  on = collecting p lead

  form : FormedLast s.J y.head.last y.head.first y.head.unagreed
      (length y.records)
  form = rw k at g.kind

  -- the leader's last and first then, and what it has noted
  abbrev now : ℕ
  now = higher (last X) y.head.last

  abbrev low : ℕ
  low = higher (first X) y.head.first

  abbrev peers : List ℕ
  peers = noted X.head.peers b y.head.last

  now-max : now ≡ max (last X) y.head.last
  now-max = higher-max (last X) y.head.last

  low-max : low ≡ max (first X) y.head.first
  low-max = higher-max (first X) y.head.first

  now-few : now ≤ most_number
  now-few = omega (arith, now-max, f.last, g.last)

  -- ---- Commits to those that lag

  lag : ℕ
  lag = lagging peers now (setting s c)

  abbrev commit-mail : Mail
  commit-mail = mail_from low Kind.Commit (pn X) now 0

  abbrev out : Out
  out = Out.To lag commit-mail

  abbrev book : Book
  book = took_book y.head.first y.head.last X.head.kept

  abbrev rs : List ℕ
  rs = written book X.records y.records

  lag-to : (d : ℕ) → In d s.n → has lag d ≡ true → Other s c d
  unfolding lag lagging others
  lag-to d h e =
      let w = without s.present c in
      let in-w = without_in s.present c d (five time.box)
      (and_yes (has w d) _ (sym (has-and w _ d) ∙ e)).0 in
      record { box = h; apart = in-w.1; here = in-w.0 }

  lag-at : {d : ℕ} → Other s c d → has lag d ≡ late (get_or peers (d - 1) 0) now
  unfolding lag others
  lag-at {d} o =
      has-lagging peers now (setting s c) d (five o.box)
      ∙ ap (λ (t : Bool). t && late (get_or peers (d - 1) 0) now)
      (has-without s.present c d (five time.box) (five o.box)
      ∙ and_both o.here (ap not (ne_eqb d c o.apart)))

  -- nothing goes to a box of which nothing is known
  sent-unknown : {d : ℕ} → Other s c d → (d ≡ b → ⊥) → peer X d ≡ unknown → sent_to out rs d ≡ []
  sent-unknown {d} o ne u =
      sent-none lag commit-mail rs d
      (lag-at o ∙ (rw (peer-other X.head.peers b y.head.last (five other.box) d
      (five o.box) ne ∙ u) refl))

  -- with what is sent, a box gets to the leader's last
  sent-now : {d : ℕ} (v : ℕ) (down : List Letter) → Other s c d → get_or peers (d - 1) 0 ≤ now
      → ahead v down ≤ now → (now ≤ get_or peers (d - 1) 0 → ahead v down ≡ now)
      → ahead v (down ++ sent_to out rs d) ≡ now
  sent-now {d} v down o known below there =
      sent-ahead lag commit-mail rs d v down below
      (λ e. there (late-not (get_or peers (d - 1) 0) now (omega (arith, known, now-few))
      (sym (lag-at o) ∙ e)))

  cheap : (n : ℕ) → cost n out < weight n y.head.kind
  unfolding cost
  cheap n = rw k (omega arith)

  -- ---- the answer counts

  abbrev told-box : BoxState
  told-box =
      with_peers peers (with_kept (keeping low (lasting now X.head.kept)) X.head)

  abbrev counts : Box
  counts = record {
    head =
        with_answered (joined X.head.answered b)
        (with_best (bettered now X.head.best y.head (next_of y)) told-box);
    records = rs;
  }

  counts-leading : Leading s c counts
  unfolding has_previous
  counts-leading =
      collects p on.recovering
      (joined-old X.head.answered b (five other.box) c on.own)
      (λ d h e. go d h (joined_in X.head.answered b d (five other.box) e))
      best.number best.room
    where
      go : (d : ℕ) → In d s.n → Or (has X.head.answered d ≡ true) (d ≡ b)
          → has s.present d ≡ true
      go d h (left e) = on.here d h e
      go d h (right e) = rw e other.here

      best : BestFits s.J low now (bettered now X.head.best y.head (next_of y))
      best =
          bettered-fits s.J (first X) low (last X) now X.head.best
          (omega (arith, low-max)) (omega (arith, now-max)) on.best y.head y.records form
          (omega (arith, low-max)) (omega (arith, now-max))

  counts-sender : pn x ≡ pn X → Between s counts b x (sent_to out rs b) []
  unfolding ahead
  counts-sender e =
      answered (sent_to out rs b) p (sent-commits lag commit-mail rs b refl)
      (omega (
        arith,
        sent-few lag commit-mail rs b,
        ones-two s.n X.head.answered b few f.answered other.box c time.box
            other.apart on.own,
      ))
      (sent-now (last x) [] other (omega (arith, mine, now-max)) (omega (arith, l, now-max))
      (λ h. omega (arith, h, l, mine, now-max)))
      (joined-new X.head.answered b (five other.box))
      (omega (arith, mine, now-max)) e
    where
      mine : get_or peers (b - 1) 0 ≡ y.head.last
      mine = peer-new X.head.peers b y.head.last (five other.box) f.places

  counts-other : (d : ℕ) (z : Box) (down up : List Letter) → Other s c d → (d ≡ b → ⊥)
      → Between s X d z down up → Between s counts d z (down ++ sent_to out rs d) up
  counts-other d z down up o ne =
      collect-cases (λ down up. Between s counts d z (down ++ sent_to out rs d) up) p
      (λ y k q a u. let no_more : sent_to out rs d ≡ [] = sent-unknown o ne u in
      rw no_more (collect y p k q (still ∙ a) (peer-same ∙ u)))
      (λ y k q r l a u. let no_more : sent_to out rs d ≡ [] = sent-unknown o ne u in
      rw no_more (answer y p k q r l (still ∙ a) (peer-same ∙ u)))
      (λ ys a m h w u e.
      answered (ys ++ sent_to out rs d) p
      (All-append a (sent-commits lag commit-mail rs d refl))
      (one-more ys m)
      (sent-now (last z) ys o (omega (arith, u, peer-same, now-max)) (omega (arith, h, now-max))
      (λ i. omega (arith, i, h, u, peer-same, now-max)))
      (still ∙ w) (omega (arith, u, peer-same, now-max)) e)
    where
      still : has (joined X.head.answered b) d ≡ has X.head.answered d
      still = joined-other X.head.answered b (five other.box) d ne

      one-more : (ys : List Letter) → length ys < ones X.head.answered
          → length (ys ++ sent_to out rs d) < ones (joined X.head.answered b)
      one-more ys m =
          rw length-append (omega (
            arith,
            m,
            sent-few lag commit-mail rs d,
            ones-joined s.n X.head.answered b few f.answered other.box off,
          ))

      peer-same : get_or peers (d - 1) 0 ≡ peer X d
      peer-same = peer-other X.head.peers b y.head.last (five other.box) d
          (five o.box) ne

  -- ---- a higher pn: a round begins anew

  abbrev new : ℕ
  new = new_pn y.head.pn c

  abbrev raises : Box
  raises = record {
    head =
        with_kept (promised new told-box.kept)
        (with_phase Phase.SendCollect
        (with_best (cleared now X.head.best) told-box));
    records = rs;
  }

  above : pn x < new
  above = omega (arith, new_pn-above y.head.pn c, q)

  new-few : pn X < pn x → new ≤ 999999900
  new-few h = go promise
    where
      go : Or (pn x ≤ pn X) (pn x ≤ 999999800) → new ≤ 999999900
      go (left e) = absurd (omega (arith, e, h))
      go (right e) =
          omega (arith, new_pn-near y.head.pn c (omega (arith, (five time.box).1)), e, q)

  raises-other : (d : ℕ) (z : Box) (down up : List Letter) → Other s c d → (d ≡ b → ⊥)
      → Between s X d z down up → Between s raises d z (down ++ sent_to out rs d) up
  raises-other d z down up o ne =
      collect-cases (λ down up. Between s raises d z (down ++ sent_to out rs d) up) p
      (λ y k q a u. let no_more : sent_to out rs d ≡ [] = sent-unknown o ne u in
      rw no_more (old-collect y refl k (omega (arith, q, r, above))))
      (λ y k q r l a u. let no_more : sent_to out rs d ≡ [] = sent-unknown o ne u in
      rw no_more (old-last y refl k))
      (λ ys a m h w u e.
      old-commits (ys ++ sent_to out rs d) refl
      (All-append a (sent-commits lag commit-mail rs d refl)))

  -- ---- the verdict

  not-refused : (leb y.head.pn (pn X) || leb new most_pn) ≡ true
  not-refused = go (below? (pn X) (pn x))
    where
      go : Or (pn X < pn x) (pn x ≤ pn X)
          → (leb y.head.pn (pn X) || leb new most_pn) ≡ true
      go (left h) =
          or_right (leb y.head.pn (pn X)) (le-leb new most_pn (omega (arith, new-few h)))
      go (right h) = or_left _ (le-leb y.head.pn (pn X) (omega (arith, h, q)))

  verdict : last_verdict X.head (setting s c) y.head ≡ Verdict.Go
  unfolding last_verdict unless
  verdict =
      goes _ (ap not leader) (ap not (phase-is p)) refl refl ∙ pick_true _ _ _ not-refused

  turn : turn_of (setting s c) X (mail b y)
      ≡ taken (replied (told X.head b y.head) c b y.head (next_of y)) book out
  unfolding of_kind on_last took_kept lag
  turn =
      mail-turn (setting s c) X b y Kind.Last time.even k ∙ settled-go X.head _ verdict

  counts-turn : pn x ≡ pn X → turn_of (setting s c) X (mail b y) ≡ taken counts.head book out
  unfolding replied counted told took_kept
  counts-turn e =
      turn
      ∙ ap (λ (h : BoxState). taken h book out)
      (pick-false _ _ _ (le-ltb (pn X) y.head.pn (omega (arith, e, q)))
      ∙ pick_true _ _ _ (eq-eqb y.head.pn (pn X) (q ∙ e)))

  raises-turn : pn X < pn x → turn_of (setting s c) X (mail b y) ≡ taken raises.head book out
  unfolding replied raised told took_kept
  raises-turn h =
      turn
      ∙ ap (λ (h : BoxState). taken h book out)
      (pick_true _ _ _ (lt-ltb (pn X) y.head.pn (omega (arith, h, q))))

  pub last-heeded : Heeds s c b X x y (turn_of (setting s c) X (mail b y))
  last-heeded = go (below? (pn X) (pn x))
    where
      few-under-way : {d : ℕ} {z : Box} {down up : List Letter} → Between s X d z down up
          → length down < 8
      few-under-way =
          few-down few f (λ e. two_phases p e refl)

      go : Or (pn X < pn x) (pn x ≤ pn X) → Heeds s c b X x y (turn_of (setting s c) X (mail b y))
      go (left h) =
          subst (Heeds s c b X x y) (sym (raises-turn h))
          (takes refl
          (record {
            leading = recovers refl on.recovering;
            leads = refl;
            top = new-few h;
            rises = omega (arith, above, h);
            to-others = lag-to;
          })
          (again p refl h above cheap)
          (old-commits (sent_to out rs b) refl (sent-commits lag commit-mail rs b refl))
          (λ d z down up o ne w. (few-under-way w, raises-other d z down up o ne w)))
      go (right h) =
          let e : pn x ≡ pn X = omega (arith, h, r) in
          subst (Heeds s c b X x y) (sym (counts-turn e))
          (takes refl
          (record {
            leading = counts-leading;
            leads = refl;
            top = top;
            rises = omega arith;
            to-others = lag-to;
          })
          (same refl refl cheap)
          (counts-sender e)
          (λ d z down up o ne w. (few-under-way w, counts-other d z down up o ne w)))
