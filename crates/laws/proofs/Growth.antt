-- What is agreed only grows: at any box of any site, and at a box by itself, neither first nor last
-- ever falls, and an agreed number that is still kept has the same record, whatever comes.
use Prim.Native.Nat.{ℕ, ◌+◌, ◌≤◌}
use mathlib.Core.Path.{◌≡◌, refl, ◌∙◌}
use mathlib.Core.List.{List, [], ◌∷◌}
use native.Mathlib.Omega.{arith}
use lib.Dec.{eqb, ltb}
use lib.ListN.{get_or}
use Rattle.std.specs.Prelude.{Option}
use Rattle.rules.specs.Parts.{higher, dropped, took_kept}
use Rattle.rules.specs.Last.{told, raised, counted, uncounted, replied, on_last}
use Rattle.rules.specs.Mails.{on_collect, on_begin, on_accept, on_commit, on_lease, on_lease_ack}
use Rattle.rules.specs.Mails.{of_kind}
use Rattle.rules.specs.Mails.{on_mail}
use Rattle.rules.specs.Steps.{elected, recover, collect, started, leased, ready, offer, propose}
use Rattle.rules.specs.Steps.{agree, finish, lease_heard, trim, acted}
use Rattle.rules.specs.Box.{Box, Letter, Event, own, mail, mine, next_of, written, turn_of, turned}
use Rattle.rules.specs.Box.{brought}
use Rattle.rules.specs.Site.{Site, setting, is_box, upd}
use Rattle.rules.specs.Step.{elect, presented, step, run}
use Rattle.laws.proofs.Types.{Act, BoxState, Call, Kind, Setting, Turn}
use Rattle.laws.proofs.Logic.{cond_elim, pick_elim}
use Rattle.laws.proofs.FrameLaws.{upd-all}
use Rattle.laws.proofs.View.{Store, store, at, Shaped, shaped, higher-max, promised, agreed}
use Rattle.laws.proofs.View.{trimmed, stored, took, Raises, trimmed-at, stored_at, took-old}
use Rattle.laws.proofs.Conditions.{go-unless, can-trim}
use Rattle.laws.proofs.StepLaws.{by-verdict, by-step}

-- ---- stores

pub record Grows (a b : Store) : Type 0 where
  pub up : a.last ≤ b.last
  pub first : a.first ≤ b.first
  pub same : (k : ℕ) → b.first ≤ k → k ≤ a.last → at b k ≡ at a k

pub grows-refl : (a : Store) → Grows a a
grows-refl a = record { up = omega arith; first = omega arith; same = λ k h t. refl }

pub grows_trans : {a b c : Store} → Grows a b → Grows b c → Grows a c
grows_trans {a} {b} {c} g h = record {
  up = omega (arith, g.up, h.up);
  first = omega (arith, g.first, h.first);
  same = λ k f t.
      h.same k f (omega (arith, t, g.up)) ∙ g.same k (omega (arith, f, h.first)) t;
}

pub grows-promised : (a : Store) (q : ℕ) → Grows a (promised q a)
grows-promised a q = record { up = omega arith; first = omega arith; same = λ k h t. refl }

pub grows-agreed : (a : Store) → Grows a (agreed a)
grows-agreed a = record { up = omega arith; first = omega arith; same = λ k h t. refl }

module _ (a : Store) (shape : Shaped a) where
  -- first becomes g
  module _ (d g : ℕ) (by : a.first + d ≡ g) where
    raises : (k : ℕ) → g ≤ k → k ≤ a.last → Raises a d g
    raises k h t = record { by = by; top = omega arith }

    pub grows-trimmed : Grows a (trimmed d g a)
    grows-trimmed = record {
      up = omega arith;
      first = omega (arith, by);
      same = λ k h t. trimmed-at a shape (raises k h t) k h;
    }

    pub grows-stored : (q r : ℕ) → Grows a (stored d g q r a)
    grows-stored q r = record {
      up = omega arith;
      first = omega (arith, by);
      same = λ k h t. stored_at a shape (raises k h t) q r k h t;
    }

  pub grows-took : (F L : ℕ) (ms : List ℕ) → Grows a (took F L ms a)
  grows-took F L ms = record {
    up = omega (arith, higher-max a.last L);
    first = omega (arith, higher-max a.first F);
    same = took-old F L ms a shape;
  }

-- ---- a box by itself

abbrev Turning : Box → List ℕ → Turn → Type 0
Turning x ms t = Grows (store x) (store (turned x t ms))

module _ (s : Setting) (x : Box) (shape : Shaped (store x)) where
  stays : Grows (store x) (store x)
  stays = grows-refl (store x)

  grow_started : (b : BoxState) (r : ℕ) → b.kept ≡ x.head.kept → Turning x [] (started b s r)
  unfolding started written
  grow_started b r e =
      let first = x.head.kept.first in
      let g = grows-stored (store x) shape 0 first (omega arith) x.head.kept.pn r in
      rw e (record { up = omega arith; first = omega arith; same = g.same })

  grow_act : (a : Act) → Turning x [] (acted a x.head s (mine x))
  unfolding acted recover collect ready offer propose agree finish lease_heard trim leased written
  grow_act Act.Recover =
      by-verdict (Turning x []) _ _ _ (λ a. stays) (λ go. grows-promised (store x) _)
  grow_act Act.Collect = by-verdict (Turning x []) _ _ _ (λ a. stays) (λ go. stays)
  grow_act Act.Ready =
      by-verdict (Turning x []) _ _ _ (λ a. stays)
      (λ go.
      pick_elim (Turning x []) _ (λ e. grow_started _ x.head.best.value refl) (λ e. stays))
  grow_act (Act.Offer l r) = by-verdict (Turning x []) _ _ _ (λ a. stays) (λ go. stays)
  grow_act Act.Propose =
      by-verdict (Turning x []) _ _ _ (λ a. stays) (λ go. grow_started _ x.head.waiting refl)
  grow_act Act.Agree =
      by-verdict (Turning x []) _ _ _ (λ a. stays) (λ go. grows-agreed (store x))
  grow_act Act.Finish = by-verdict (Turning x []) _ _ _ (λ a. stays) (λ go. stays)
  grow_act Act.Heard = by-verdict (Turning x []) _ _ _ (λ a. stays) (λ go. stays)
  grow_act (Act.Trim k) =
      by-verdict (Turning x []) _ _ _ (λ a. stays)
      (λ go. let can = can-trim {b = x.head} (go-unless _ _ _ go).0 in
      grows-trimmed (store x) shape (dropped k x.head.kept) k
      (omega (arith, higher-max x.head.kept.first k, can.above)))

  module _ (a : ℕ) (y : Letter) where
    -- what a Last does beyond taking its records leaves last and the records
    abbrev Grows? : List ℕ → BoxState → Type 0
    Grows? rs b = Grows (store x) (store (record { head = b; records = rs }))

    grow_replied : (b : BoxState) (rs : List ℕ) (next : Option ℕ)
        → Grows? rs b → Grows? rs (replied b s.me a y.head next)
    unfolding replied raised counted uncounted
    grow_replied b rs next h =
        pick_elim (Grows? rs) (ltb b.kept.pn y.head.pn)
        (λ e. record { up = h.up; first = h.first; same = h.same })
        (λ e. pick_elim (Grows? rs) (eqb y.head.pn b.kept.pn) (λ f. h) (λ f. h))

    abbrev Mailed : Turn → Type 0
    Mailed = Turning x y.records

    took-records : Grows (store x) (took y.head.first y.head.last y.records (store x))
    took-records = grows-took (store x) shape y.head.first y.head.last y.records

    grow_kind : (k : Kind)
        → Mailed (of_kind k x.head s a y.head (get_or y.records 0 0) (next_of y) (mine x))
    unfolding of_kind on_collect on_last on_begin on_accept on_commit on_lease
        on_lease_ack told took_kept
        written
    grow_kind Kind.Collect =
        by-verdict Mailed _ _ _ (λ a. stays) (λ go. grows-promised (store x) _)
    grow_kind Kind.Last =
        by-verdict Mailed _ _ _ (λ a. stays) (λ go. grow_replied _ _ _ took-records)
    grow_kind Kind.Begin =
        by-verdict Mailed _ _ _ (λ a. stays)
        (λ go. grows-stored (store x) shape (dropped y.head.first x.head.kept)
        (higher x.head.kept.first y.head.first)
        (omega (arith, higher-max x.head.kept.first y.head.first))
        y.head.pn (get_or y.records 0 0))
    grow_kind Kind.Accept = by-verdict Mailed _ _ _ (λ a. stays) (λ go. stays)
    grow_kind Kind.Commit = by-verdict Mailed _ _ _ (λ a. stays) (λ go. took-records)
    grow_kind Kind.Lease = by-verdict Mailed _ _ _ (λ a. stays) (λ go. stays)
    grow_kind Kind.LeaseAck = by-verdict Mailed _ _ _ (λ a. stays) (λ go. stays)

  pub grow_turn : (e : Event) → Turning x (brought e) (turn_of s x e)
  unfolding on_mail written
  grow_turn (own a) = grow_act a
  grow_turn (mail a y) =
      by-verdict (Turning x y.records) _ _ _ (λ a. stays) (λ go. grow_kind a y y.head.kind)

-- ---- a site

abbrev pub Grown : Site → Site → Type 0
Grown s t = (b : ℕ) → Grows (store (s.box b)) (store (t.box b))

pub grow_step : (s : Site) (d : Call) → Grown s (step s d).next
unfolding elect elected presented
grow_step s d =
    by-step (Grown s) s same
    (λ c f e b. cond_elim (With b) (is_box s.n b) (λ e. same b) (λ e. same b))
    (λ w f g h b. record { up = omega arith; first = omega arith; same = λ k i t. refl })
    (λ a b f. same)
    (λ a b f h. same) d
    (λ c e link w f c_in r.
    one-box c _ (grow_turn (setting s c) (s.box c) (shaped (f.boxes c c_in)) e))
  where
    same : Grown s s
    same b = grows-refl (store (s.box b))

    With : ℕ → BoxState → Type 0
    With b h = Grows (store (s.box b)) (store (record { head = h; records = (s.box b).records }))

    one-box : (c : ℕ) (x : Box) → Grows (store (s.box c)) (store x)
        → (b : ℕ) → Grows (store (s.box b)) (store (upd s.box c x b))
    one-box c x new = upd-all (λ b y. Grows (store (s.box b)) (store y)) s.box c new same

pub grow_run : (s : Site) (cs : List Call) → Grown s (run s cs)
unfolding run
grow_run s [] = λ b. grows-refl (store (s.box b))
grow_run s (c ∷ cs) = λ b. grows_trans (grow_run s cs b) (grow_step (run s cs) c b)

-- number k is agreed at b, and still kept after any calls: it is agreed then, with the same record
pub kept-agreed : (s : Site) (cs : List Call) (b k : ℕ)
    → ((run s cs).box b).head.kept.first ≤ k → k ≤ (s.box b).head.kept.last
    → (k ≤ ((run s cs).box b).head.kept.last)
    × (at (store ((run s cs).box b)) k ≡ at (store (s.box b)) k)
kept-agreed s cs b k h t = let g = grow_run s cs b in (omega (arith, g.up, t), g.same k h t)
