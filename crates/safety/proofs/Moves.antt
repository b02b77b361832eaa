-- Records move only with their number: what holds of every record that stands anywhere, with its
-- number, goes on to hold, whatever comes; only an offer that is proposed is new.
use Prim.Native.Nat.{ℕ, ◌+◌, ◌-◌, ◌≤◌, ◌<◌, max}
use mathlib.Core.Path.{◌≡◌, refl, sym, subst}
use mathlib.Core.List.{List, [], tail}
use native.Mathlib.Omega.{arith}
use lib.Dec.{eqb, leb, ltb}
use lib.ListN.{length, get_or, take, length-take, length-drop}
use lib.Seq.{get_or-take}
use Rattle.std.specs.Prelude.{Option}
use Rattle.rules.specs.Parts.{span, none, took_kept, cleared}
use Rattle.rules.specs.Last.{improves, bettered, told, raised, counted, uncounted, replied}
use Rattle.rules.specs.Last.{on_last}
use Rattle.rules.specs.Mails.{on_collect, on_begin, on_accept, on_commit, on_lease, on_lease_ack}
use Rattle.rules.specs.Mails.{of_kind}
use Rattle.rules.specs.Mails.{on_mail}
use Rattle.rules.specs.Steps.{elected, recover, best_held, collect, started, leased, has_previous}
use Rattle.rules.specs.Steps.{ready, offer, propose, agree, finish, lease_heard, trim, acted}
use Rattle.rules.specs.Box.{Box, Letter, Event, own, mail, record_at, next_of, mine, written}
use Rattle.rules.specs.Box.{enclosed, letter_of, turn_of, turned, brought}
use Rattle.rules.specs.Site.{Site, setting, is_box, relinked, popped, twice, doubled, played}
use Rattle.rules.specs.Step.{elect}
use Rattle.rules.specs.Turns.{still}
use Rattle.laws.proofs.Types.{Act, Answer, Best, BoxState, Call, Kind, Mail, Out, Setting}
use Rattle.laws.proofs.Types.{Turn}
use Rattle.laws.proofs.Logic.{Or, left, right, In, below?, cond_elim, pick_elim, All, nil}
use Rattle.laws.proofs.Logic.{All-head, All-tail, All-twice, All-map}
use Rattle.laws.proofs.FormLaws.{FormedKind, Formed}
use Rattle.laws.proofs.Conditions.{go-unless, go-begin, can-propose, can-trim, has-previous}
use Rattle.laws.proofs.FrameLaws.{upd-all, all-relinked, all-posted}
use Rattle.laws.proofs.View.{Links, Store, store, at, Spans, Shaped, shaped, last-spans}
use Rattle.laws.proofs.View.{commit-spans}
use Rattle.laws.proofs.View.{held_elim, Reading, Collect, Last, Begin, Accept, Commit, Inert, read}
use Rattle.laws.proofs.View.{read_as, trimmed, stored, took, Raises, raises-none, raises-to}
use Rattle.laws.proofs.View.{raises-trim, trimmed-at, stored_at, stored_next, stored-length}
use Rattle.laws.proofs.View.{took-first, took-last, took-each, took-shaped, took-same, took-held}
use Rattle.laws.proofs.StepLaws.{changed, by-verdict, Plays, recovers, collects, readies, offers}
use Rattle.laws.proofs.StepLaws.{proposes, agrees, finishes, hears, trims, delivers}
use Rattle.safety.proofs.Played.{Fit, plays-fit, plays-links}

-- G k r: the record r may stand at number k
module _ (G : ℕ → ℕ → Type 0) where
  -- of the records from number F on
  abbrev pub Listed : ℕ → List ℕ → Type 0
  Listed F rs = (k : ℕ) → F ≤ k → k - F < length rs → G k (record_at F rs k)

  abbrev pub BestG : Best → Type 0
  BestG t = (t.value ≡ 0 → ⊥) → G t.number t.value

  pub record BoxG (x : Box) : Type 0 where
    pub records : Listed x.head.kept.first x.records
    pub best : BestG x.head.best

  abbrev pub MailG : Reading → Type 0
  MailG (Collect q l) = Unit {0}
  MailG (Last q l F u rs) = Listed F rs
  MailG (Begin q l F r) = G (l + 1) r
  MailG (Accept q l) = Unit {0}
  MailG (Commit q l F rs) = Listed F rs
  MailG Inert = Unit {0}

  abbrev LetterG : ℕ → ℕ → Letter → Type 0
  LetterG a b y = MailG (read y)

  pub record Sound (s : Site) : Type 0 where
    pub boxes : (b : ℕ) → BoxG (s.box b)
    pub mails : (a b : ℕ) → All (λ y. MailG (read y)) (s.link a b)

  -- ---- lists

  listed-take : (j F : ℕ) (rs : List ℕ) → Listed F rs → Listed F (take j rs)
  listed-take j F rs h k f l = let e = length-take j rs in
      rw (get_or-take j rs (k - F) 0 (omega (arith, e, l))) (h k f (omega (arith, e, l)))

  module _ (a : Store) (shape : Shaped a) (h : Listed a.first a.records) where
    listed-trimmed : {d f : ℕ} (up : Raises a d f) → Listed f (trimmed d f a).records
    listed-trimmed {d} up k i l =
        subst (G k) (sym (trimmed-at a shape up k i))
        (h k (omega (arith, up.by, i)) (omega (arith, up.by, i, l, length-drop d a.records)))

    listed-stored : {d f : ℕ} (up : Raises a d f) (q r : ℕ) → G (a.last + 1) r
        → Listed f (stored d f q r a).records
    listed-stored {d} {f} up q r g k i l = go (below? a.last k)
      where
        go : Or (a.last < k) (k ≤ a.last) → G k (at (stored d f q r a) k)
        go (left e) =
            let len = stored-length a shape up q r in
            let next : k ≡ a.last + 1 = omega (arith, e, l, i, len) in
            subst (λ (j : ℕ). G j (at (stored d f q r a) j)) (sym next)
            (subst (G (a.last + 1)) (sym (stored_next a shape up q r)) g)
        go (right e) =
            subst (G k) (sym (stored_at a shape up q r k i e))
            (h k (omega (arith, up.by, i)) (omega (arith, e, shape.all, up.by, i)))

    listed-took : (F L : ℕ) (ms : List ℕ) → Spans F L ms → Listed F ms
        → Listed (took F L ms a).first (took F L ms a).records
    listed-took F L ms sent g k i l = go (below? (took F L ms a).last k)
      where
        first : (took F L ms a).first ≡ max a.first F
        first = took-first F L ms a shape

        go : Or ((took F L ms a).last < k) (k ≤ (took F L ms a).last) → G k (at (took F L ms a) k)
        go (right e) =
            took-each F L ms a shape sent G
            (λ j f t. h j f (omega (arith, f, t, shape.all)))
            (λ j f t. g j f (omega (arith, f, t, sent.all))) k i e
        go (left e) =
            let last = took-last F L ms a shape in
            let fits = (took-shaped F L ms a shape sent).next in
            let next : k ≡ (took F L ms a).last + 1 = omega (arith, e, i, l, fits) in
            let held = took-held F L ms a shape sent (omega (arith, next, l)) in
            subst (G k) (sym (took-same F L ms a shape sent held.0 k i))
            (h k (omega (arith, first, i))
            (omega (arith, next, last, held.0, held.1, first, i)))

  -- ---- the best

  best_none : BestG none
  best_none f = absurd (f refl)

  best-clear : (l : ℕ) (t : Best) → BestG t → BestG (cleared l t)
  unfolding cleared
  best-clear l t h = pick_elim BestG (leb t.number l) (λ e. best_none) (λ e. h)

  best-replied : (x : BoxState) (c a : ℕ) (y : Letter) → BestG x.best
      → Spans y.head.first y.head.last y.records
      → Listed y.head.first y.records
      → BestG (replied x c a y.head (next_of y)).best
  unfolding replied raised counted uncounted bettered
  best-replied x c a y h sent g =
      pick_elim (λ (z : BoxState). BestG z.best) (ltb x.kept.pn y.head.pn) (λ e. clear)
      (λ e. pick_elim (λ (z : BoxState). BestG z.best) (eqb y.head.pn x.kept.pn)
      (λ f. held_elim (λ (q : Option ℕ). BestG (bettered x.kept.last x.best y.head q))
      y.records (span y.head.first y.head.last)
      (λ n. pick_elim BestG (improves x.kept.last x.best y.head)
      (λ i m. g (y.head.last + 1) sent.top n)
      (λ i. clear))
      (λ n. clear))
      (λ f. clear))
    where
      clear : BestG (cleared x.kept.last x.best)
      clear = best-clear x.kept.last x.best h

  first-replied : (x : BoxState) (c a : ℕ) (m : Mail) (q : Option ℕ)
      → (replied x c a m q).kept.first ≡ x.kept.first
  unfolding replied raised counted uncounted
  first-replied x c a m q =
      pick_elim (λ (z : BoxState). z.kept.first ≡ x.kept.first) (ltb x.kept.pn m.pn)
      (λ e. refl)
      (λ e. pick_elim (λ (z : BoxState). z.kept.first ≡ x.kept.first)
      (eqb m.pn x.kept.pn) (λ f. refl) (λ f. refl))

  -- ---- a turn

  -- what comes with an event: a mail's records, and the offer that is proposed
  abbrev pub Comes : Box → Event → Type 0
  Comes x (own Act.Propose) =
      (x.head.waiting ≡ 0 → ⊥) → G (x.head.kept.last + 1) x.head.waiting
  Comes x (own Act.Recover) = Unit {0}
  Comes x (own Act.Collect) = Unit {0}
  Comes x (own Act.Ready) = Unit {0}
  Comes x (own (Act.Offer l r)) = Unit {0}
  Comes x (own Act.Agree) = Unit {0}
  Comes x (own Act.Finish) = Unit {0}
  Comes x (own Act.Heard) = Unit {0}
  Comes x (own (Act.Trim k)) = Unit {0}
  Comes x (mail a y) = MailG (read y)

  abbrev pub OutG : Out → List ℕ → Type 0
  OutG Out.Nothing rs = Unit {0}
  OutG (Out.To set m) rs = MailG (read (letter_of m rs))

  pub record TurnG (x : Box) (ms : List ℕ) (t : Turn) : Type 0 where
    pub box : BoxG (turned x t ms)
    pub sent : OutG t.out (turned x t ms).records

  module _ (s : Setting) (x : Box) (h : BoxG x) (shape : Shaped (store x)) where
    pub turn-started : (b : BoxState) (r : ℕ) → b.kept ≡ x.head.kept → BestG b.best
        → G (x.head.kept.last + 1) r → TurnG x [] (started b s r)
    unfolding started written enclosed
    turn-started b r e best g = record {
      box = record {
        records = rw e (listed-stored (store x) shape h.records none-leaves pn r g);
        best = best;
      };
      sent =
          rw e
          (subst (G (x.head.kept.last + 1))
          (sym (stored_next (store x) shape none-leaves pn r)) g);
    }
      where
        pn : ℕ
        pn = x.head.kept.pn

        none-leaves : Raises (store x) 0 x.head.kept.first
        none-leaves = raises-none (store x) shape

    -- nothing happens
    same : (ms : List ℕ) (a : Answer) → TurnG x ms (still x.head a)
    unfolding written
    same ms a = record { box = record { records = h.records; best = h.best }; sent = tt }

    turn-act : (a : Act) → Comes x (own a) → TurnG x [] (acted a x.head s (mine x))
    unfolding acted recover collect ready offer propose agree finish lease_heard trim
        leased best_held
        written enclosed
    turn-act Act.Recover g =
        by-verdict (TurnG x []) _ _ _ (same [])
        (λ go. record { box = record { records = h.records; best = h.best }; sent = tt })
    turn-act Act.Collect g =
        by-verdict (TurnG x []) _ _ _ (same [])
        (λ go. record {
          box = record {
            records = h.records;
            best =
                held_elim (λ (q : Option ℕ). BestG (best_held x.head.kept q)) x.records
                (span x.head.kept.first x.head.kept.last)
                (λ n m. h.records (x.head.kept.last + 1) shape.top n)
                (λ n. best_none);
          };
          sent = tt;
        })
    turn-act Act.Ready g =
        by-verdict (TurnG x []) _ _ _ (same [])
        (λ go. pick_elim (TurnG x []) (has_previous x.head)
        (λ e. let q = has-previous x.head e in
        turn-started _ x.head.best.value refl h.best
        (subst (λ (k : ℕ). G k x.head.best.value) q.0 (h.best q.1)))
        (λ e. record { box = record { records = h.records; best = h.best }; sent = tt }))
    turn-act (Act.Offer l r) g =
        by-verdict (TurnG x []) _ _ _ (same [])
        (λ go. record { box = record { records = h.records; best = h.best }; sent = tt })
    turn-act Act.Propose g =
        by-verdict (TurnG x []) _ _ _ (same [])
        (λ go. turn-started _ x.head.waiting refl h.best
        (g (can-propose (go-unless _ _ _ go).0).1))
    turn-act Act.Agree g =
        by-verdict (TurnG x []) _ _ _ (same [])
        (λ go. record {
          box = record { records = h.records; best = h.best };
          sent =
              listed-take (span x.head.kept.first (x.head.kept.last + 1))
              x.head.kept.first x.records h.records;
        })
    turn-act Act.Finish g =
        by-verdict (TurnG x []) _ _ _ (same [])
        (λ go. record { box = record { records = h.records; best = h.best }; sent = tt })
    turn-act Act.Heard g =
        by-verdict (TurnG x []) _ _ _ (same [])
        (λ go. record { box = record { records = h.records; best = h.best }; sent = tt })
    turn-act (Act.Trim k) g =
        by-verdict (TurnG x []) _ _ _ (same [])
        (λ go. let o = can-trim (go-unless _ _ _ go).0 in record {
          box = record {
            records =
                listed-trimmed (store x) shape h.records
                (raises-trim (store x) shape k o.above o.agreed);
            best = h.best;
          };
          sent = tt;
        })

    module _ (a : ℕ) (y : Letter) where
      abbrev ms : List ℕ
      ms = y.records

      abbrev F : ℕ
      F = y.head.first

      abbrev l : ℕ
      l = y.head.last

      abbrev t : Store
      t = took F l ms (store x)

      took-g : Spans F l ms → Listed F ms → Listed t.first t.records
      took-g = listed-took (store x) shape h.records F l ms

      turn-kind : (k : Kind) → MailG (read_as k y)
          → FormedKind k s.j y.head.pn l F y.head.unagreed (length ms)
          → TurnG x ms (of_kind k x.head s a y.head (get_or ms 0 0) (next_of y) (mine x))
      unfolding of_kind on_collect on_last on_begin on_accept on_commit on_lease
          on_lease_ack told took_kept
          written enclosed
      turn-kind Kind.Collect g f =
          by-verdict (TurnG x ms) _ _ _ (same ms)
          (λ go. record {
            box = record { records = h.records; best = h.best };
            sent = h.records;
          })
      turn-kind Kind.Last g f =
          by-verdict (TurnG x ms) _ _ _ (same ms)
          (λ go. record {
            box = record {
              records =
                  subst (λ (k : ℕ). Listed k t.records)
                  (sym (first-replied (told x.head a y.head) s.me a y.head (next_of y)))
                  (took-g (last-spans f) g);
              best =
                  best-replied (told x.head a y.head) s.me a y h.best (last-spans f) g;
            };
            sent =
                listed-take (span t.first t.last) t.first t.records
                (took-g (last-spans f) g);
          })
      turn-kind Kind.Begin g f =
          by-verdict (TurnG x ms) _ _ _ (same ms)
          (λ go. let place = (go-begin go).place in record {
            box = record {
              records =
                  listed-stored (store x) shape h.records
                  (raises-to (store x) shape F (omega (arith, f.first.top, place)))
                  y.head.pn (get_or ms 0 0)
                  (subst (λ (j : ℕ). G (j + 1) (get_or ms 0 0)) (sym place) g);
              best = h.best;
            };
            sent = tt;
          })
      turn-kind Kind.Accept g f =
          by-verdict (TurnG x ms) _ _ _ (same ms)
          (λ go. record { box = record { records = h.records; best = h.best }; sent = tt })
      turn-kind Kind.Commit g f =
          by-verdict (TurnG x ms) _ _ _ (same ms)
          (λ go. record {
            box = record {
              records = took-g (commit-spans f) g;
              best = best-clear _ x.head.best h.best;
            };
            sent = tt;
          })
      turn-kind Kind.Lease g f =
          by-verdict (TurnG x ms) _ _ _ (same ms)
          (λ go. record { box = record { records = h.records; best = h.best }; sent = tt })
      turn-kind Kind.LeaseAck g f =
          by-verdict (TurnG x ms) _ _ _ (same ms)
          (λ go. record { box = record { records = h.records; best = h.best }; sent = tt })

    pub turn-sound : (e : Event) → Comes x e → Fit s.j e → TurnG x (brought e) (turn_of s x e)
    unfolding on_mail
    turn-sound (own a) g f = turn-act a g
    turn-sound (mail a y) g f =
        by-verdict (TurnG x y.records) _ _ _ (same y.records)
        (λ go. turn-kind a y y.head.kind g f.kind)

  -- ---- a site

  sound-relinked : (s : Site) (f : List Letter → List Letter)
      → ((P : Letter → Type 0) (l : List Letter) → All P l → All P (f l))
      → (a b : ℕ) → Sound s → Sound (relinked f s a b)
  sound-relinked s f kept a b h = record {
    boxes = h.boxes;
    mails = all-relinked LetterG s.link h.mails f kept a b;
  }

  pub sound-popped : (s : Site) (a b : ℕ) → Sound s → Sound (popped s a b)
  sound-popped s = sound-relinked s tail (λ P l. All-tail)

  pub sound-doubled : (s : Site) (a b : ℕ) → Sound s → Sound (doubled s a b)
  sound-doubled s = sound-relinked s twice (λ P l. All-twice)

  -- what comes with the event that a call plays
  pub played-comes : (s : Site) (c : ℕ) {d : Call} {e : Event} {link : Links} → Plays s c d e link
      → Sound s → (d ≡ Call.Propose c → Comes (s.box c) (own Act.Propose)) → Comes (s.box c) e
  played-comes s c recovers h g = tt
  played-comes s c collects h g = tt
  played-comes s c readies h g = tt
  played-comes s c (offers l r) h g = tt
  played-comes s c proposes h g = g refl
  played-comes s c agrees h g = tt
  played-comes s c finishes h g = tt
  played-comes s c hears h g = tt
  played-comes s c (trims k) h g = tt
  played-comes s c (delivers {a = a} ha ac e) h g =
      All-head (subst (All (LetterG a c)) e (h.mails a c))

  pub sound-played : (s : Site) (c : ℕ) (t : Turn) (ms : List ℕ) → Sound s → TurnG (s.box c) ms t
      → Sound (played s c t ms)
  sound-played s c t ms h g = record {
    boxes = upd-all (λ b y. BoxG y) s.box c g.box h.boxes;
    mails = all-posted LetterG s.link h.mails c t.out (turned (s.box c) t ms).records
        (λ set m e y i. subst (λ (o : Out). OutG o (turned (s.box c) t ms).records) e g.sent);
  }

  -- all of a call that plays the event e at box c
  pub sound-call : (s : Site) (c : ℕ) {d : Call} {e : Event} {link : Links} → Plays s c d e link
      → Formed s → In c s.n → Sound s
      → (d ≡ Call.Propose c → Comes (s.box c) (own Act.Propose))
      → Sound (played (changed s s.box link) c (turn_of (setting s c) (s.box c) e) (brought e))
  sound-call s c {e = e} {link = link} w f i h g =
      sound-played (changed s s.box link) c _ (brought e)
      (record { boxes = h.boxes; mails = plays-links w LetterG h.mails })
      (turn-sound (setting s c) (s.box c) (h.boxes c) (shaped (f.boxes c i)) e
      (played-comes s c w h g) (plays-fit w f i))

  pub sound-elect : (s : Site) (c : ℕ) → Sound s → Sound (elect s c)
  unfolding elect elected
  sound-elect s c h = record {
    boxes = λ b. let k : BoxG (s.box b) = h.boxes b in
        cond_elim (λ (x : BoxState). BoxG (record { head = x; records = (s.box b).records }))
        (is_box s.n b)
        (λ e. record { records = k.records; best = k.best })
        (λ e. record { records = k.records; best = k.best });
    mails = λ a b. nil;
  }

-- ---- what holds may be weakened

mail-map : {G H : ℕ → ℕ → Type 0} → ((k r : ℕ) → G k r → H k r) → (m : Reading) → MailG G m
    → MailG H m
mail-map f (Collect q l) g = tt
mail-map f (Last q l F u rs) g = λ k i h. f k _ (g k i h)
mail-map f (Begin q l F r) g = f (l + 1) r g
mail-map f (Accept q l) g = tt
mail-map f (Commit q l F rs) g = λ k i h. f k _ (g k i h)
mail-map f Inert g = tt

pub sound-map : {G H : ℕ → ℕ → Type 0} (s : Site) → ((k r : ℕ) → G k r → H k r) → Sound G s
    → Sound H s
sound-map s f h = record {
  boxes = λ b. record {
    records = λ k i l. f k _ ((h.boxes b).records k i l);
    best = λ z. f _ _ ((h.boxes b).best z);
  };
  mails = λ a b. All-map (λ y. mail-map f (read y)) (h.mails a b);
}
