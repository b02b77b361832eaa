-- "Form is kept": a call on a site by form leaves a site by form.
use Prim.Native.Nat.{ℕ, ◌%◌, ◌≤◌, ◌<◌}
use mathlib.Core.Path.{◌≡◌, refl, sym, ◌∙◌}
use mathlib.Core.Bool.{true, ◌&&◌, cond}
use mathlib.Core.List.{List, [], ◌∷◌, tail}
use native.Mathlib.Omega.{arith}
use lib.Dec.{eqb, ltb}
use lib.ListN.{length}
use borrow.Author.Tests.{ltb-true, not-true, eqb-false}
use Rattle.rules.specs.Sizes.{most_epoch, even, sizes_form}
use Rattle.rules.specs.Sets.{has, set_form}
use Rattle.rules.specs.Steps.{elected}
use Rattle.rules.specs.Box.{Letter, Event, turned}
use Rattle.rules.specs.Site.{Site, setting, fresh, fresh_head, is_box, upd, posted, room, played}
use Rattle.rules.specs.Site.{relinked, popped, twice, doubled}
use Rattle.rules.specs.Form.{form}
use Rattle.rules.specs.Step.{elect, presented, step, run}
use Rattle.laws.proofs.Types.{Call, Out, Turn}
use Rattle.laws.proofs.Logic.{left, In, All, nil, cons, All-append, All-tail, All-twice}
use Rattle.laws.proofs.Logic.{All-head, both-no, eqb_yes, and_yes, cond_elim}
use Rattle.laws.proofs.SetLaws.{set_full, set-zero}
use Rattle.laws.proofs.FormLaws.{FormedBox, FormedLetter, Formed, form-says, form-made}
use Rattle.laws.proofs.FormLaws.{sizes-says, box-is}
use Rattle.laws.proofs.StepLaws.{by-step, changed, Plays, Elects, recovers, collects}
use Rattle.laws.proofs.StepLaws.{readies, offers, proposes, agrees, finishes, hears}
use Rattle.laws.proofs.StepLaws.{trims, delivers}
use Rattle.laws.proofs.FrameLaws.{upd-all, posted-room}
use Rattle.laws.proofs.StoreForm.{box-of, kept-part, best-part, peers-part, none-form}
use Rattle.laws.proofs.StoreForm.{unknown-form}
use Rattle.laws.specs.Frames.{CallFits}
use Rattle.laws.proofs.TurnForm.{Fits, OutFits, EventFits, turn-fits}

-- ---- the mail's head gone, or twice

-- one link is changed by f
relinked-form : (g : List Letter → List Letter) (s : Site) (a b : ℕ)
    → (length (s.link a b) ≤ s.L → length (g (s.link a b)) ≤ s.L)
    → ((l : List Letter) → All (FormedLetter s.J) l → All (FormedLetter s.J) (g l))
    → Formed s → Formed (relinked g s a b)
relinked-form g s a b short kept f = record {
  sizes = f.sizes;
  some-epoch = f.some-epoch;
  few_epochs = f.few_epochs;
  present = f.present;
  boxes = f.boxes;
  one-leader = f.one-leader;
  links = λ x y hx hy xy. let l = f.links x y hx hy xy in record {
    room = cond_elim (λ (k : List Letter). length k ≤ s.L) (eqb x a && eqb y b)
        (λ e. here x y (and_yes (eqb x a) (eqb y b) e) l.room)
        (λ e. l.room);
    letters = cond_elim (All (FormedLetter s.J)) (eqb x a && eqb y b)
        (λ e. kept (s.link x y) l.letters)
        (λ e. l.letters);
  };
}
  where
    here : (x y : ℕ) → (eqb x a ≡ true) × (eqb y b ≡ true) → length (s.link x y) ≤ s.L
        → length (g (s.link x y)) ≤ s.L
    here x y p = rw (eqb_yes x a p.0, eqb_yes y b p.1) short

tail-le : (l : List Letter) (L : ℕ) → length l ≤ L → length (tail l) ≤ L
tail-le [] L h = h
tail-le (y ∷ ys) L h = omega arith

pub popped-form : (s : Site) (a b : ℕ) → Formed s → Formed (popped s a b)
popped-form s a b =
    relinked-form tail s a b (tail-le (s.link a b) s.L) (λ l h. All-tail h)

twice-le : (l : List Letter) (L : ℕ) → length l < L → length (twice l) ≤ L
unfolding twice
twice-le [] L h = omega arith
twice-le (y ∷ ys) L h = omega arith

doubled-form : (s : Site) (a b : ℕ) → Formed s → length (s.link a b) < s.L
    → Formed (doubled s a b)
doubled-form s a b f h =
    relinked-form twice s a b (λ g. twice-le (s.link a b) s.L h) (λ l. All-twice) f

-- ---- a turn played

posted-letters : (n J : ℕ) (link : ℕ → ℕ → List Letter) (c : ℕ) (out : Out) (rs : List ℕ) (a b : ℕ)
    → OutFits n J rs out → All (FormedLetter J) (link a b)
    → All (FormedLetter J) (posted link c out rs a b)
unfolding posted
posted-letters n J link c Out.Nothing rs a b h old = old
posted-letters n J link c (Out.To set m) rs a b h old =
    cond_elim (All (FormedLetter J)) (eqb a c && has set b)
    (λ e. All-append old (cons h.1 nil))
    (λ e. old)

pub played-form : (s : Site) (c : ℕ) (t : Turn) (ms : List ℕ) → Formed s
    → Fits s.n s.J c (s.box c) ms t → room s c t.out ≡ true → Formed (played s c t ms)
played-form s c t ms f h r = record {
  sizes = f.sizes;
  some-epoch = f.some-epoch;
  few_epochs = f.few_epochs;
  present = f.present;
  boxes =
      upd-all (λ b x. In b s.n → FormedBox s.n s.J b x) s.box c (λ i. h.box)
      (λ b i. f.boxes b i);
  one-leader = λ i j hi hj p q. f.one-leader i j hi hj (sym (leads i) ∙ p) (sym (leads j) ∙ q);
  links = λ a b ha hb ab. record {
    room = posted-room s c t.out _ r a b hb (f.links a b ha hb ab).room;
    letters =
        posted-letters s.n s.J s.link c t.out _ a b h.out
        (f.links a b ha hb ab).letters;
  };
}
  where
    leads : (b : ℕ) → (upd s.box c (turned (s.box c) t ms) b).head.leads ≡ (s.box b).head.leads
    leads = upd-all (λ b x. x.head.leads ≡ (s.box b).head.leads) s.box c h.leads
        (λ b. refl)

-- ---- elections, stops, returns, timeouts

elected-form : (s : Site) (c : ℕ) → Formed s → Elects s c → Formed (elect s c)
unfolding elect elected
elected-form s c f e = record {
  sizes = f.sizes;
  some-epoch = omega arith;
  few_epochs = omega (arith, f.few_epochs, eqb-false (s.epoch % 2) 0 (not-true _ e.due));
  present = f.present;
  boxes = λ b h. rw (box-is h) (let x = f.boxes b h in
      box-of (kept-part x) (best-part x) x.answered x.accepts x.heard (left refl)
      (left refl) (peers-part x));
  one-leader = λ i j hi hj p q. leader i hi p ∙ sym (leader j hj q);
  links = λ a b ha hb ab. record { room = omega arith; letters = nil };
}
  where
    leader : (b : ℕ) → In b s.n
        → (cond (is_box s.n b) (elected (s.box b).head (setting s b) c) (s.box b).head).leads
        ≡ true → b ≡ c
    leader b h p = eqb_yes b c (rw (box-is h) at p)

presented-form : (s : Site) (w : ℕ) → Formed s → set_form s.n w ≡ true
    → ltb s.epoch most_epoch ≡ true
    → Formed (presented s w)
unfolding presented
presented-form s w f set e = record {
  sizes = f.sizes;
  some-epoch = cond_elim (1 ≤◌) (even s.epoch) (λ d. omega arith) (λ d. f.some-epoch);
  few_epochs = cond_elim (◌≤ most_epoch) (even s.epoch) (λ d. omega (arith, below))
      (λ d. f.few_epochs);
  present = set;
  boxes = f.boxes;
  one-leader = f.one-leader;
  links = λ a b ha hb ab. let l = f.links a b ha hb ab
      in record { room = l.room; letters = l.letters };
}
  where
    below : s.epoch < most_epoch
    below = ltb-true s.epoch most_epoch e

-- ---- any call

head-of : {J : ℕ} {y : Letter} {ys l : List Letter} → l ≡ y ∷ ys → All (FormedLetter J) l
    → FormedLetter J y
head-of e h = All-head (rw e at h)

module _ (s : Site) where
  event_fits : {d : Call} {c : ℕ} {e : Event} {link : ℕ → ℕ → List Letter} → CallFits d → Formed s
      → In c s.n
      → Plays s c d e link → EventFits (setting s c) e
  event_fits h f hc recovers = tt
  event_fits h f hc collects = tt
  event_fits h f hc readies = tt
  event_fits h f hc (offers l r) = h
  event_fits h f hc proposes = tt
  event_fits h f hc agrees = tt
  event_fits h f hc finishes = tt
  event_fits h f hc hears = tt
  event_fits h f hc (trims k) = tt
  event_fits h f hc (delivers ha ac e) = (ha, ac, head-of e (f.links _ _ ha hc ac).letters)

  -- the site that the turn is played on
  base-form : {d : Call} {c : ℕ} {e : Event} {link : ℕ → ℕ → List Letter} → Formed s
      → Plays s c d e link
      → Formed (changed s s.box link)
  base-form f recovers = f
  base-form f collects = f
  base-form f readies = f
  base-form f (offers l r) = f
  base-form f proposes = f
  base-form f agrees = f
  base-form f finishes = f
  base-form f hears = f
  base-form f (trims k) = f
  base-form {c = c} f (delivers {a = a} ha ac e) = popped-form s a c f

  pub formed-step : (d : Call) → CallFits d → Formed s → Formed (step s d).next
  formed-step d h f =
      by-step Formed s f (elected-form s) (presented-form s) (popped-form s) (doubled-form s) d
      (λ c e link w g hc r. played-form (changed s s.box link) c _ _ (base-form g w)
      (turn-fits (setting s c) (s.box c) e (g.boxes c hc) g.sizes.few-boxes hc g.present
      (event_fits h g hc w))
      r)

-- form is kept by a call, and by a run of calls
pub step-keeps-form : (s : Site) (d : Call) → CallFits d → form s ≡ true
    → form (step s d).next ≡ true
step-keeps-form s d h e = form-made (formed-step s d h (form-says e))

pub run-keeps-form : (s : Site) (ds : List Call) → All CallFits ds → form s ≡ true
    → form (run s ds) ≡ true
unfolding run
run-keeps-form s [] h e = e
run-keeps-form s (d ∷ ds) (cons h hs) e = step-keeps-form (run s ds) d h (run-keeps-form s ds hs e)

-- a fresh site of sizes in range is by form
pub fresh-form : (n J L : ℕ) → sizes_form n J L ≡ true → form (fresh n J L) ≡ true
unfolding fresh fresh_head
fresh-form n J L e = form-made (record {
  sizes = sizes-says e;
  some-epoch = omega arith;
  few_epochs = omega arith;
  present = set_full n;
  boxes = λ b h. box-of
      (record {
        last = omega arith;
        first = record { some = omega arith; top = omega arith };
        held = record {
          all = omega arith;
          next = omega arith;
          most = omega arith;
          room = omega arith;
        };
        records = nil;
        pn = omega arith;
        stored-pn = omega arith;
        stored-number = omega arith;
      })
      none-form (set-zero n) (set-zero n) (set-zero n) (left refl) (left refl) (unknown-form n b);
  one-leader = λ i j hi hj p q. absurd (both-no p refl);
  links = λ a b ha hb ab. record { room = omega arith; letters = nil };
})
