-- Room along a run (Q-4): whoever collects has room for the best at last+1, and a Begin tells a
-- first and a last that leave room for it.
use Prim.Native.Nat.{ℕ, ◌+◌, ◌≤◌, ◌<◌}
use mathlib.Core.Path.{◌≡◌, subst}
use mathlib.Core.Bool.{true, ◌&&◌}
use mathlib.Core.List.{List, [], ◌∷◌, tail}
use native.Mathlib.Omega.{arith}
use lib.Dec.{eqb, leb, ltb}
use lib.ListN.{length, get_or}
use borrow.Author.Tests.{leb-true, leb-false}
use Rattle.std.specs.Prelude.{Option}
use Rattle.rules.specs.Numbers.{phase_number}
use Rattle.rules.specs.Parts.{span, took_kept, cleared}
use Rattle.rules.specs.Turns.{still}
use Rattle.rules.specs.Last.{improves, bettered, told, raised, counted, uncounted, replied}
use Rattle.rules.specs.Last.{on_last}
use Rattle.rules.specs.Mails.{on_collect, on_begin, on_accept, on_commit, on_lease, on_lease_ack}
use Rattle.rules.specs.Mails.{of_kind}
use Rattle.rules.specs.Mails.{on_mail}
use Rattle.rules.specs.Steps.{elected, recover, best_held, collect, started, leased, has_previous}
use Rattle.rules.specs.Steps.{ready, offer, propose, agree, finish, lease_heard, trim, acted}
use Rattle.rules.specs.Box.{Box, Letter, Event, own, mail, held_at, next_of, mine, letter_of}
use Rattle.rules.specs.Box.{turn_of}
use Rattle.rules.specs.Box.{turned, brought}
use Rattle.rules.specs.Site.{Site, setting, is_box, relinked, twice, fresh, fresh_head, played}
use Rattle.rules.specs.Step.{elect, presented, step, run}
use Rattle.laws.proofs.Types.{Act, Answer, Best, BoxState, Call, Kind, Mail, Out, Setting}
use Rattle.laws.proofs.Types.{Turn}
use Rattle.laws.proofs.Logic.{and_yes, cond_elim, pick_elim, All, nil, All-tail, All-twice}
use Rattle.laws.proofs.FormLaws.{HeldCount, FormedKind}
use Rattle.laws.proofs.Conditions.{Room, room-next, room_where, go-unless, can-trim}
use Rattle.laws.proofs.FrameLaws.{upd-all, all-relinked, all-posted}
use Rattle.laws.proofs.View.{held_elim, higher-max, Reading, Collect, Last, Begin, Accept}
use Rattle.laws.proofs.View.{Commit, Inert, read}
use Rattle.laws.proofs.StepLaws.{changed, by-verdict, by-step}
use Rattle.safety.specs.Demand3.{start}
use Rattle.safety.proofs.Played.{Fit, plays-fit, plays-links}

module _ (J : ℕ) where
  -- ---- the best t of a box that keeps from `first` to `last`

  pub record BestRoom (first last : ℕ) (t : Best) : Type 0 where
    pub limit : t.number ≤ last + 1
    pub next : t.number ≡ last + 1 → Room J first last

  -- where last+1 is held there is room for it
  held-room : {first last count : ℕ} → HeldCount J first last count → span first last < count
      → Room J first last
  held-room h l = record {
    records = omega (arith, h.all, h.next, h.room, l);
    number = omega (arith, h.all, h.next, h.most, l);
  }

  module _ {f l f' l' : ℕ} (t : Best) (h : BestRoom f l t) (first : f ≤ f') (last : l ≤ l') where
    room-cleared : BestRoom f' l' (cleared l' t)
    unfolding cleared
    room-cleared =
        pick_elim (BestRoom f' l') (leb t.number l')
        (λ e. record { limit = omega arith; next = λ k. absurd (omega (arith, k)) })
        (λ e. let above = leb-false t.number l' e in record {
          limit = omega (arith, h.limit, last);
          next = λ k. let r = h.next (omega (arith, h.limit, above, last)) in record {
            records = omega (arith, r.records, k, h.limit, last, first);
            number = omega (arith, r.number, k, h.limit);
          };
        })

    room-bettered : (m : Mail) (rs : List ℕ) → HeldCount J m.first m.last (length rs)
        → m.first ≤ f' → m.last ≤ l'
        → BestRoom f' l' (bettered l' t m (held_at rs (span m.first m.last)))
    unfolding bettered improves
    room-bettered m rs held from to =
        held_elim (λ (q : Option ℕ). BestRoom f' l' (bettered l' t m q)) rs
        (span m.first m.last)
        (λ n. pick_elim (BestRoom f' l') (improves l' t m)
        (λ e. better n (and_yes (leb l' m.last && leb t.number (m.last + 1)) _ e).0)
        (λ e. room-cleared))
        (λ n. room-cleared)
      where
        better : {q r : ℕ} → span m.first m.last < length rs
            → (leb l' m.last && leb t.number (m.last + 1)) ≡ true
            → BestRoom f' l' (record { pn = q; number = m.last + 1; value = r })
        better n e =
            let le = leb-true l' m.last (and_yes (leb l' m.last) _ e).0 in
            let r = held-room held n in
            record {
              limit = omega (arith, to, le);
              next = λ k. record {
                records = omega (arith, r.records, k, from);
                number = omega (arith, r.number, k);
              };
            }

  -- ---- a box and a mail

  abbrev pub BoxRoom : BoxState → Type 0
  BoxRoom b = phase_number b.phase ≡ 2 → BestRoom b.kept.first b.kept.last b.best

  abbrev pub MailRoom : Reading → Type 0
  MailRoom (Collect q l) = Unit {0}
  MailRoom (Last q l F u rs) = Unit {0}
  MailRoom (Begin q l F r) = Room J F l
  MailRoom (Accept q l) = Unit {0}
  MailRoom (Commit q l F rs) = Unit {0}
  MailRoom Inert = Unit {0}

  abbrev OutRoom : Out → List ℕ → Type 0
  OutRoom Out.Nothing rs = Unit {0}
  OutRoom (Out.To set m) rs = MailRoom (read (letter_of m rs))

  pub record TurnRoom (x : Box) (ms : List ℕ) (t : Turn) : Type 0 where
    pub box : BoxRoom t.next
    pub sent : OutRoom t.out (turned x t ms).records

-- ---- a turn

module _ (s : Setting) (x : Box) (h : BoxRoom s.j x.head)
    (form : HeldCount s.j x.head.kept.first x.head.kept.last (length x.records))
  where
    abbrev After : List ℕ → Turn → Type 0
    After ms t = TurnRoom s.j x ms t

    -- first is raised, or nothing of it changes
    stays : {first : ℕ} → x.head.kept.first ≤ first
        → phase_number x.head.phase ≡ 2
        → BestRoom s.j first x.head.kept.last x.head.best
    stays le e = let b = h e in record {
      limit = b.limit;
      next = λ k. let r = b.next k in
          record { records = omega (arith, r.records, le); number = r.number };
    }

    same : (ms : List ℕ) (a : Answer) → After ms (still x.head a)
    same ms a = record { box = h; sent = tt }

    room-act : (a : Act) → After [] (acted a x.head s (mine x))
    unfolding acted recover collect ready offer propose agree finish lease_heard trim leased started
        best_held
    room-act Act.Recover =
        by-verdict (After []) _ _ _ (same [])
        (λ go. record { box = λ e. absurd (omega (arith, e)); sent = tt })
    room-act Act.Collect =
        by-verdict (After []) _ _ _ (same [])
        (λ go. record {
          box = λ e.
              held_elim
              (λ (q : Option ℕ).
              BestRoom s.j x.head.kept.first x.head.kept.last
              (best_held x.head.kept q))
              x.records (span x.head.kept.first x.head.kept.last)
              (λ n. record { limit = omega arith; next = λ k. held-room s.j form n })
              (λ n. record { limit = omega arith; next = λ k. absurd (omega (arith, k)) });
          sent = tt;
        })
    room-act Act.Ready =
        by-verdict (After []) _ _ _ (same [])
        (λ go. pick_elim (After []) (has_previous x.head)
        (λ e. record {
          box = λ k. absurd (omega (arith, k));
          sent = room_where s.j _ _ e (go-unless _ _ _ (go-unless _ _ _ go).1).0;
        })
        (λ e. record { box = λ k. absurd (omega (arith, k)); sent = tt }))
    room-act (Act.Offer l r) =
        by-verdict (After []) _ _ _ (same []) (λ go. record { box = h; sent = tt })
    room-act Act.Propose =
        by-verdict (After []) _ _ _ (same [])
        (λ go. record {
          box = λ k. absurd (omega (arith, k));
          sent = room-next s.j _ _ (go-unless _ _ _ (go-unless _ _ _ go).1).0;
        })
    room-act Act.Agree =
        by-verdict (After []) _ _ _ (same [])
        (λ go. record { box = λ k. absurd (omega (arith, k)); sent = tt })
    room-act Act.Finish =
        by-verdict (After []) _ _ _ (same [])
        (λ go. record { box = λ k. absurd (omega (arith, k)); sent = tt })
    room-act Act.Heard =
        by-verdict (After []) _ _ _ (same [])
        (λ go. record { box = λ k. absurd (omega (arith, k)); sent = tt })
    room-act (Act.Trim k) =
        by-verdict (After []) _ _ _ (same [])
        (λ go. let o = can-trim {b = x.head} (go-unless _ _ _ go).0 in
        record { box = stays (omega (arith, o.above)); sent = tt })

    module _ (a : ℕ) (y : Letter) where
      abbrev ms : List ℕ
      ms = y.records

      abbrev took : BoxState
      took = told x.head a y.head

      room-replied : HeldCount s.j y.head.first y.head.last (length ms)
          → BoxRoom s.j (replied took s.me a y.head (next_of y))
      unfolding replied raised counted uncounted told took_kept
      room-replied held =
          pick_elim (BoxRoom s.j) (ltb took.kept.pn y.head.pn)
          (λ e k. absurd (omega (arith, k)))
          (λ e. pick_elim (BoxRoom s.j) (eqb y.head.pn took.kept.pn)
          (λ d k. room-bettered s.j x.head.best (h k) up.0 up.1 y.head ms held
          up.2 up.3)
          (λ d k. room-cleared s.j x.head.best (h k) up.0 up.1))
        where
          up : (x.head.kept.first ≤ took.kept.first) × (x.head.kept.last ≤ took.kept.last)
              × (y.head.first ≤ took.kept.first) × (y.head.last ≤ took.kept.last)
          up =
              let first = higher-max x.head.kept.first y.head.first in
              let last = higher-max x.head.kept.last y.head.last in
              (omega (arith, first), omega (arith, last), omega (arith, first), omega (arith, last))

      room-kind : (k : Kind)
          → FormedKind k s.j y.head.pn y.head.last y.head.first y.head.unagreed
          (length ms)
          → After ms (of_kind k x.head s a y.head (get_or ms 0 0) (next_of y) (mine x))
      unfolding of_kind on_collect on_last on_begin on_accept on_commit on_lease
          on_lease_ack took_kept
      room-kind Kind.Collect f =
          by-verdict (After ms) _ _ _ (same ms)
          (λ go. record { box = stays (omega arith); sent = tt })
      room-kind Kind.Last f =
          by-verdict (After ms) _ _ _ (same ms)
          (λ go. record { box = room-replied f.held; sent = tt })
      room-kind Kind.Begin f =
          by-verdict (After ms) _ _ _ (same ms)
          (λ go. record {
            box = stays (omega (arith, higher-max x.head.kept.first y.head.first));
            sent = tt;
          })
      room-kind Kind.Accept f =
          by-verdict (After ms) _ _ _ (same ms) (λ go. record { box = h; sent = tt })
      room-kind Kind.Commit f =
          by-verdict (After ms) _ _ _ (same ms)
          (λ go. record {
            box = λ e.
                room-cleared s.j x.head.best (h e)
                (omega (arith, higher-max x.head.kept.first y.head.first))
                (omega (arith, higher-max x.head.kept.last y.head.last));
            sent = tt;
          })
      room-kind Kind.Lease f =
          by-verdict (After ms) _ _ _ (same ms) (λ go. record { box = h; sent = tt })
      room-kind Kind.LeaseAck f =
          by-verdict (After ms) _ _ _ (same ms) (λ go. record { box = h; sent = tt })

    room-turn : (e : Event) → Fit s.j e → After (brought e) (turn_of s x e)
    unfolding on_mail
    room-turn (own a) f = room-act a
    room-turn (mail a y) f =
        by-verdict (After y.records) _ _ _ (same y.records)
        (λ go. room-kind a y y.head.kind f.kind)

-- ---- a site

pub record Roomy (s : Site) : Type 0 where
  pub boxes : (b : ℕ) → BoxRoom s.J (s.box b).head
  pub mails : (a b : ℕ) → All (λ y. MailRoom s.J (read y)) (s.link a b)

abbrev LetterRoom : ℕ → ℕ → ℕ → Letter → Type 0
LetterRoom J a b y = MailRoom J (read y)

roomy-relinked : (s : Site) (f : List Letter → List Letter)
    → ((P : Letter → Type 0) (l : List Letter) → All P l → All P (f l))
    → (a b : ℕ) → Roomy s → Roomy (relinked f s a b)
roomy-relinked s f kept a b h = record {
  boxes = h.boxes;
  mails = all-relinked (LetterRoom s.J) s.link h.mails f kept a b;
}

roomy-played : (s : Site) (c : ℕ) (t : Turn) (ms : List ℕ) → Roomy s
    → TurnRoom s.J (s.box c) ms t → Roomy (played s c t ms)
roomy-played s c t ms h g = record {
  boxes = upd-all (λ b y. BoxRoom s.J y.head) s.box c g.box h.boxes;
  mails = all-posted (LetterRoom s.J) s.link h.mails c t.out rs
      (λ set m e y i. subst (λ (o : Out). OutRoom s.J o rs) e g.sent);
}
  where
    rs : List ℕ
    rs = (turned (s.box c) t ms).records

roomy-step : (s : Site) (d : Call) → Roomy s → Roomy (step s d).next
unfolding elect elected presented
roomy-step s d h =
    by-step Roomy s h
    (λ c f e. record {
      boxes = λ b.
          cond_elim (BoxRoom s.J) (is_box s.n b) (λ e k. absurd (omega (arith, k)))
          (λ e. h.boxes b);
      mails = λ a b. nil;
    })
    (λ w f g e. record { boxes = h.boxes; mails = h.mails })
    (λ a b f. roomy-relinked s tail (λ P l. All-tail) a b h)
    (λ a b f g. roomy-relinked s twice (λ P l. All-twice) a b h) d
    (λ c e link w f i r.
    roomy-played (changed s s.box link) c _ (brought e)
    (record { boxes = h.boxes; mails = plays-links w (LetterRoom s.J) h.mails })
    (room-turn (setting s c) (s.box c) (h.boxes c) (f.boxes c i).held e (plays-fit w f i)))

pub roomy-run : (n J L : ℕ) (cs : List Call) → Roomy (run (start n J L) cs)
unfolding run fresh fresh_head
roomy-run n J L [] = record { boxes = λ b e. absurd (omega (arith, e)); mails = λ a b. nil }
roomy-run n J L (c ∷ cs) = roomy-step (run (start n J L) cs) c (roomy-run n J L cs)
