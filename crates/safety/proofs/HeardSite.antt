-- What the set of a leader says of another box comes through every call.
use Prim.Native.Nat.{ℕ}
use mathlib.Core.Path.{◌≡◌, refl, sym, ap, ◌∙◌, subst}
use mathlib.Core.Bool.{true, ◌&&◌}
use mathlib.Core.List.{List, [], ◌∷◌, ◌++◌, tail, append_assoc}
use native.Mathlib.Omega.{arith}
use lib.Dec.{eqb}
use borrow.Author.Tests.{eq-eqb, ne_eqb}
use Rattle.rules.specs.Sizes.{most_boxes, even}
use Rattle.rules.specs.Steps.{elected}
use Rattle.rules.specs.Box.{Box, Letter, Event, own, mail, turn_of, turned, brought}
use Rattle.rules.specs.Site.{Site, setting, relinked, popped, twice, doubled, posted, room, played}
use Rattle.rules.specs.Needs.{ruled}
use Rattle.rules.specs.Step.{by_answer, delivered, elect, presented, step}
use Rattle.laws.proofs.Types.{Act, Answer, Call, Kind, Out, Turn}
use Rattle.laws.proofs.Logic.{Or, left, right, In, both-no, eqb_same, same?}
use Rattle.laws.proofs.Logic.{cond_elim, All, nil, cons, All-append, All-map}
use Rattle.laws.proofs.FormLaws.{Formed, form-made, box-is}
use Rattle.laws.proofs.FrameLaws.{upd_same, upd_other}
use Rattle.laws.proofs.View.{Links, store, phase_of, read_as}
use Rattle.laws.proofs.StepLaws.{changed, Plays, recovers, collects, readies, offers, proposes}
use Rattle.laws.proofs.LeftAlone.{posted-other, relinked-other}
use Rattle.laws.proofs.StepLaws.{agrees, finishes, hears, trims, delivers, by-step}
use Rattle.safety.specs.Heard.{TakesLease}
use Rattle.safety.proofs.Inv.{MailOk, Inv}
use Rattle.safety.proofs.Leader.{Led, led}
use Rattle.safety.proofs.Quiet.{odd-risen}
use Rattle.safety.proofs.HeardWay.{part, Other, Asks, Ordered, sends, ordered-sends}
use Rattle.safety.proofs.HeardWay.{posted-own}
use Rattle.safety.proofs.HeardAnswers.{Answers, follow-act, follow-mail}
use Rattle.safety.proofs.HeardTurn.{Comes, Hears, hears-place, lead-act, lead-mail}

-- an event of a box's own, or the mail at the head of a link
plays_elim : {s : Site} {x : ℕ} {d : Call} {e : Event} {link : Links} → Plays s x d e link
    → (P : Event → Links → Type 0) → ((a : Act) → P (own a) s.link)
    → ((a : ℕ) (y : Letter) (ys : List Letter) → In a s.n → (a ≡ x → ⊥)
    → s.link a x ≡ y ∷ ys → d ≡ Call.Deliver a x → P (mail a y) (popped s a x).link)
    → P e link
plays_elim recovers P f g = f Act.Recover
plays_elim collects P f g = f Act.Collect
plays_elim readies P f g = f Act.Ready
plays_elim (offers l r) P f g = f (Act.Offer l r)
plays_elim proposes P f g = f Act.Propose
plays_elim agrees P f g = f Act.Agree
plays_elim finishes P f g = f Act.Finish
plays_elim hears P f g = f Act.Heard
plays_elim (trims k) P f g = f (Act.Trim k)
plays_elim (delivers {a = a} {y = y} {ys = ys} ha ax e) P f g = g a y ys ha ax e refl

-- ---- one link

module _ (s : Site) (a x : ℕ) where
  popped-at : (p : ℕ) → p ≡ a → (popped s a x).link p x ≡ tail (s.link p x)
  popped-at p e = rw (eq-eqb p a e, eqb_same x) refl

-- ---- a mail that is taken

taken-turn : (s base : Site) (c : ℕ) (t : Turn) (ms : List ℕ) (a : Answer) → a ≡ Answer.Taken
    → room base c t.out ≡ true → (by_answer a s base c t ms).answer ≡ Answer.Taken
unfolding by_answer ruled
taken-turn s base c t ms a e r = rw e (rw r refl)

taken-mail : (s : Site) (a b : ℕ) → Formed s → In a s.n → In b s.n → (a ≡ b → ⊥)
    → (y : Letter) (ys : List Letter) → s.link a b ≡ y ∷ ys
    → room (popped s a b) b (turn_of (setting s b) (s.box b) (mail a y)).out ≡ true
    → (turn_of (setting s b) (s.box b) (mail a y)).answer ≡ Answer.Taken
    → (step s (Call.Deliver a b)).answer ≡ Answer.Taken
unfolding step ruled delivered
taken-mail s a b form ha hb ab y ys here r e =
    rw (form-made form, box-is ha, box-is hb, ne_eqb a b ab)
    (subst (λ l. (delivered s a b l).answer ≡ Answer.Taken) (sym here)
    (taken-turn s (popped s a b) b _ y.records _ e r))

-- ---- a site

module _ (c b : ℕ) (ne : b ≡ c → ⊥) (G : Type 0) where
  -- what comes back to c from b, and what goes out to b
  abbrev way : Links → List Letter
  way link = link b c ++ link c b

  abbrev Now : Site → List Letter → Type 0
  Now s = Hears s.present b G (s.box c).head

  abbrev pub At : Site → Type 0
  At s = even s.epoch ≡ true → (s.box c).head.leads ≡ true → Now s (way s.link)

  -- ---- the head of a link leaves it, or stands twice

  module _ (s : Site) (f : List Letter → List Letter) (new : Letter → List Letter)
      (none : f [] ≡ []) (some : (y : Letter) (ys : List Letter) → f (y ∷ ys) ≡ new y ++ ys)
      (each : (P : Letter → Type 0) (y : Letter) → P y → All P (new y))
      (ordered : (l : ℕ) (y : Letter) → Ordered l (new y)) where
    place : (y : Letter) (front back : List Letter) → Now s (front ++ (y ∷ back))
        → Now s (front ++ (new y ++ back))
    place y front back =
        hears-place s.present b G (s.box c).head y (new y) back
        (record {
          asks = each (λ z. Asks _ z → Asks _ y) y (λ i. i);
          other = each Other y;
          ordered = ordered _ y;
        })
        (each (Comes G _) y) front

    on-first : (l back : List Letter) → Now s (l ++ back) → Now s (f l ++ back)
    on-first [] back o = rw none o
    on-first (y ∷ ys) back o =
        rw (some y ys, append_assoc (new y) ys back) (place y [] (ys ++ back) o)

    on-second : (front l : List Letter) → Now s (front ++ l) → Now s (front ++ f l)
    on-second front [] o = rw none o
    on-second front (y ∷ ys) o = rw (some y ys) (place y front ys o)

    at-relinked : (a x : ℕ) → At s → At (relinked f s a x)
    at-relinked a x h e l =
        cond_elim (λ m. Now s ((relinked f s a x).link b c ++ m)) (eqb c a && eqb b x)
        (λ i. on-second ((relinked f s a x).link b c) (s.link c b) first) (λ i. first)
      where
        first : Now s ((relinked f s a x).link b c ++ s.link c b)
        first =
            cond_elim (λ m. Now s (m ++ s.link c b)) (eqb b a && eqb c x)
            (λ i. on-first (s.link b c) _ (h e l)) (λ i. h e l)

  at-popped : (s : Site) (a x : ℕ) → At s → At (popped s a x)
  at-popped s = at-relinked s tail (λ y. []) refl (λ y ys. refl) (λ P y p. nil) (λ l y. tt)

  at-doubled : (s : Site) (a x : ℕ) → At s → At (doubled s a x)
  unfolding twice
  at-doubled s =
      at-relinked s twice (λ y. y ∷ y ∷ []) refl (λ y ys. refl) (λ P y p. cons p (cons p nil))
      (λ l y. (λ i. cons (omega (arith, i.0)) nil, (λ i. nil, tt)))

  module _ (s : Site) (i : Inv s) (c_in : In c s.n) (b-in : In b s.n) (old : At s) where
    number : (k : ℕ) → In k s.n → In k most_boxes
    number k h = (h.0, omega (arith, h.1, i.ranks.few))

    L : even s.epoch ≡ true → (s.box c).head.leads ≡ true
        → Led s.n s.present s.box s.link i.agreed c (s.box c)
    L e l = led (i.live e) c c_in l

    abbrev turn_at : ℕ → Event → Turn
    turn_at x = turn_of (setting s x) (s.box x)

    -- box x plays e; `link` is without the mail that came
    abbrev Played : ℕ → Event → Links → Type 0
    Played x e link =
        room (changed s s.box link) x (turn_at x e).out ≡ true
        → At (played (changed s s.box link) x (turn_at x e) (brought e))

    -- ---- a turn of the leader

    -- a Begin or an Accept of its last+1 is on its way only while it waits for it
    asked : even s.epoch ≡ true → (s.box c).head.leads ≡ true
        → (phase_of (s.box c) ≡ 4 → ⊥)
        → All (λ y. Asks (s.box c).head.kept.last y → ⊥) (way s.link)
    asked e l idle = All-append (on b c ne) (on c b (λ h. ne (sym h)))
      where
        kinds : (k : Kind) (y : Letter) (a d : ℕ)
            → MailOk s.present i.agreed c (s.box c) a (store (s.box a)) d (store (s.box d))
            (read_as k y)
            → part k ≡ 1 → y.head.last ≡ (s.box c).head.kept.last → phase_of (s.box c) ≡ 4
        kinds Kind.Collect y a d ok p q = absurd (omega (arith, p))
        kinds Kind.Last y a d ok p q = absurd (omega (arith, p))
        kinds Kind.Begin y a d ok p q = ok.now q
        kinds Kind.Accept y a d ok p q = ok.now q
        kinds Kind.Commit y a d ok p q = absurd (omega (arith, p))
        kinds Kind.Lease y a d ok p q = absurd (omega (arith, p))
        kinds Kind.LeaseAck y a d ok p q = absurd (omega (arith, p))

        on : (a d : ℕ) → (a ≡ d → ⊥)
            → All (λ y. Asks (s.box c).head.kept.last y → ⊥) (s.link a d)
        on a d ad =
            All-map (λ y ok j. idle (kinds y.head.kind y a d (ok ad) j.0 j.1))
            ((L e l).mails a d)

    at-lead : (t : Turn) (ms : List ℕ) (link : Links)
        → (even s.epoch ≡ true → t.next.leads ≡ true → (rs : List ℕ)
        → Hears s.present b G t.next (way link ++ sends b t.out rs))
        → At (played (changed s s.box link) c t ms)
    at-lead t ms link h e =
        subst (λ (z : Box). z.head.leads ≡ true → Hears s.present b G z.head (way sent))
        (sym (upd_same s.box c x))
        (λ l. subst (Hears s.present b G t.next) (sym same) (h e l x.records))
      where
        x : Box
        x = turned (s.box c) t ms

        sent : Links
        sent = posted link c t.out x.records

        same : way sent ≡ way link ++ sends b t.out x.records
        same =
            rw (
              posted-other link c t.out x.records b c ne,
              posted-own b link c t.out x.records,
            )
            (sym (append_assoc (link b c) (link c b) _))

    lead-plays : {d : Call} {e : Event} {link : Links} → Plays s c d e link → Played c e link
    lead-plays w =
        plays_elim w (Played c)
        (λ a r. at-lead (turn_at c (own a)) [] s.link
        (λ e. lead-act (setting s c) b G (s.box c) (way s.link) (number c c_in) ne (old e)
        (asked e) a))
        (λ a y ys ha ac here d r.
        at-lead (turn_at c (mail a y)) y.records (popped s a c).link
        (λ e. lead-mail (setting s c) b G (s.box c) (way (popped s a c).link) (number c c_in) ne
        (at-popped s a c old e) a y (number a ha)
        (λ ba l. subst (Now s) (stood a y ys ba here) (old e l))))
      where
        -- a mail from b was the first to come
        stood : (a : ℕ) (y : Letter) (ys : List Letter) → b ≡ a → s.link a c ≡ y ∷ ys
            → way s.link ≡ y ∷ way (popped s a c).link
        stood a y ys ba here =
            let first : s.link b c ≡ y ∷ ys = ap (λ k. s.link k c) ba ∙ here in
            rw (popped-at s a c b ba, relinked-other s c b tail a c (λ p q. ne q), first) refl

    -- ---- a turn of another box: what matters is the way

    at-away : (x : ℕ) → (x ≡ c → ⊥) → (t : Turn) (ms : List ℕ) (link : Links)
        → (even s.epoch ≡ true → (s.box c).head.leads ≡ true
        → Now s (way (posted link x t.out (turned (s.box x) t ms).records)))
        → At (played (changed s s.box link) x t ms)
    at-away x xc t ms link h e =
        subst
        (λ (z : Box). z.head.leads ≡ true → Hears s.present b G z.head (way sent))
        (sym (upd_other s.box x (turned (s.box x) t ms) c (λ p. xc (sym p)))) (h e)
      where
        sent : Links
        sent = posted link x t.out (turned (s.box x) t ms).records

    -- a third box
    away-plays : (x : ℕ) → (x ≡ c → ⊥) → (x ≡ b → ⊥) → {d : Call} {e : Event} {link : Links}
        → Plays s x d e link → Played x e link
    away-plays x xc xb w =
        plays_elim w (Played x)
        (λ a r. at-away x xc (turn_at x (own a)) [] s.link
        (λ e l. rw (aside s.link _ _) (old e l)))
        (λ a y ys ha ax here d r.
        at-away x xc (turn_at x (mail a y)) y.records (popped s a x).link
        (λ e l. rw (aside (popped s a x).link _ _) (at-popped s a x old e l)))
      where
        aside : (link : Links) (out : Out) (rs : List ℕ) → way (posted link x out rs) ≡ way link
        aside link out rs =
            rw (
              posted-other link x out rs b c (λ p. xb (sym p)),
              posted-other link x out rs c b (λ p. xc (sym p)),
            ) refl

    follows : even s.epoch ≡ true → (s.box c).head.leads ≡ true
        → (s.box b).head.leads ≡ true → ⊥
    follows e l k = ne ((L e l).only b b-in k)

    -- what b sends stands behind what comes back, and before what goes out
    sent-way : (out : Out) (rs : List ℕ) (link : Links)
        → way (posted link b out rs) ≡ link b c ++ (sends c out rs ++ link c b)
    sent-way out rs link =
        rw (posted-own c link b out rs, posted-other link b out rs c b (λ p. ne (sym p)))
        (append_assoc (link b c) (sends c out rs) (link c b))

    silent-way : (out : Out) (rs : List ℕ) (link : Links) → All (λ z. ⊥) (sends c out rs)
        → way link ≡ way (posted link b out rs)
    silent-way out rs link h =
        sym (sent-way out rs link
        ∙ ap (λ (l : List Letter). link b c ++ (l ++ link c b)) (none (sends c out rs) h))
      where
        none : (l : List Letter) → All (λ z. ⊥) l → l ≡ []
        none [] q = refl
        none (z ∷ l) (cons q qs) = absurd q

    module _ (form : Formed s) where
      -- b takes a mail of the leader: its answer stands in its place
      module _ (y : Letter) (ys : List Letter) (here : s.link c b ≡ y ∷ ys)
          (takes : TakesLease s c b → G)
          (r : room (popped s c b) b (turn_at b (mail c y)).out ≡ true) where
        abbrev out : Out
        out = (turn_at b (mail c y)).out

        replies : even s.epoch ≡ true → (s.box c).head.leads ≡ true → (rs : List ℕ)
            → Now s (s.link b c ++ (sends c out rs ++ ys))
        replies e l rs =
            hears-place s.present b G (s.box c).head y (sends c out rs) ys
            (record {
              asks = All-map (λ z a. a.asks _) all;
              other = λ o. All-map (λ z a. a.other o) all;
              ordered = ordered-sends c _ out rs;
            })
            (λ k. All-map
            (λ z a. (
              λ p. absurd (a.lease p),
              λ p. takes (record {
                lease = y;
                behind = ys;
                stands = here;
                kind = (a.ack p).0;
                last = k.0 (ap part (a.ack p).0);
                taken =
                    taken-mail s c b form c_in b-in (λ q. ne (sym q)) y ys here r (a.ack p).1;
              }),
            ))
            all)
            (s.link b c) (subst (λ m. Now s (s.link b c ++ m)) here (old e l))
          where
            all : All (Answers c c y (turn_at b (mail c y)).answer) (sends c out rs)
            all = follow-mail (setting s b) c (s.box b) (follows e l) c y (number c c_in) rs

        from-lead : At (played (popped s c b) b (turn_at b (mail c y)) y.records)
        from-lead =
            at-away b ne (turn_at b (mail c y)) y.records (popped s c b).link
            (λ e l. rw (
              sent-way out _ (popped s c b).link,
              relinked-other s b c tail c b (λ p q. ne p),
              popped-at s c b c refl,
              here,
            )
            (replies e l _))

      -- .. or one of a third box, whom alone it answers
      from-other : (a : ℕ) (y : Letter) → In a s.n → (c ≡ a → ⊥)
          → Played b (mail a y) (popped s a b).link
      from-other a y ha ca r =
          at-away b ne (turn_at b (mail a y)) y.records (popped s a b).link
          (λ e l. subst (Now s)
          (silent-way _ _ (popped s a b).link
          (All-map (λ z q. ca q.to)
          (follow-mail (setting s b) c (s.box b) (follows e l) a y (number a ha) _)))
          (at-popped s a b old e l))

      follow-plays : {d : Call} {e : Event} {link : Links} → Plays s b d e link
          → (TakesLease s c b → d ≡ Call.Deliver c b → G) → Played b e link
      follow-plays {d = d} w takes =
          plays_elim w (Played b)
          (λ a r. at-away b ne (turn_at b (own a)) [] s.link
          (λ e l. subst (Now s)
          (silent-way _ _ s.link (follow-act (setting s b) c (s.box b) (follows e l) a _))
          (old e l)))
          (λ a y ys ha ab here is. from a y ys ha here is (same? c a))
        where
          from : (a : ℕ) (y : Letter) (ys : List Letter) → In a s.n → s.link a b ≡ y ∷ ys
              → d ≡ Call.Deliver a b → Or (c ≡ a) (c ≡ a → ⊥)
              → Played b (mail a y) (popped s a b).link
          from a y ys ha here is (left p) =
              subst (λ (k : ℕ). s.link k b ≡ y ∷ ys → d ≡ Call.Deliver k b
              → Played b (mail k y) (popped s k b).link) p
              (λ h q. from-lead y ys h (λ z. takes z q)) here is
          from a y ys ha here is (right p) = from-other a y ha p

    -- ---- every call

    at-elect : (x : ℕ) → At (elect s x)
    unfolding elect elected
    at-elect x e l = record {
      absent = λ z. nil;
      clear = λ z. nil;
      accepted = λ z k. nil;
      ordered = λ z. tt;
      noted = λ z. absurd (omega (arith, rw (box-is c_in) at z));
      coming = λ z. nil;
    }

    pub at-step : (d : Call) → (TakesLease s c b → d ≡ Call.Deliver c b → G) → At (step s d).next
    unfolding presented
    at-step d takes =
        by-step At s old (λ x f e. at-elect x)
        (λ w f g h e. absurd (both-no e (odd-risen s.epoch)))
        (λ a x f. at-popped s a x old) (λ a x f h. at-doubled s a x old) d
        (λ x e link w f h. who x w f (same? x c) (same? x b))
      where
        who : (x : ℕ) {e : Event} {link : Links} → Plays s x d e link → Formed s
            → Or (x ≡ c) (x ≡ c → ⊥) → Or (x ≡ b) (x ≡ b → ⊥) → Played x e link
        who x {e} {link} w f (left p) q =
            subst (λ (k : ℕ). Plays s k d e link → Played k e link) (sym p) lead-plays w
        who x {e} {link} w f (right p) (left q) =
            subst (λ (k : ℕ). Plays s k d e link → Played k e link) (sym q)
            (λ v. follow-plays f v takes) w
        who x w f (right p) (right q) = away-plays x p q w
