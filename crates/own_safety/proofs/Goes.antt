-- Whatever happens to boards in words happens to the model's yard that they stand for, with the
-- same answer; and their words can be read again.
use Prim.Native.Nat.{ℕ, ◌<◌}
use mathlib.Core.Path.{◌≡◌, refl, sym, ap, ◌∙◌, subst}
use mathlib.Core.Bool.{true, ◌&&◌}
use mathlib.Core.List.{List, tail}
use lib.Dec.{eqb}
use lib.ListN.{length-map}
use Rattle.rules.specs.Sizes.{even}
use Rattle.rules.specs.Sets.{has}
use Rattle.rules.specs.Box.{Box, Letter, Event, own, mail}
use Rattle.rules.specs.Own.{OwnOutcome, own_step, own_elected}
use Rattle.rules.specs.Site.{twice}
use Rattle.laws.specs.Frames.{ActFits, CallFits}
use Rattle.laws.proofs.Types.{Act, Answer, Call}
use Rattle.laws.proofs.Logic.{In, both-no, cond_elim, and_yes, and_both, All, nil, cons, All-head}
use Rattle.laws.proofs.Logic.{All-append, All-tail, All-twice}
use Rattle.laws.proofs.SetLaws.{has-zero}
use Rattle.laws.proofs.FrameLaws.{upd-all}
use Rattle.letter.specs.Place.{letter_at}
use Rattle.own.specs.Entry.{place_of, row_reads, place_reads, elected_on}
use Rattle.alone.specs.Links.{after, call_of}
use Rattle.alone.specs.Links as links
use Rattle.alone.specs.Yard.{Alone, Yard, ran}
use Rattle.alone.specs.Yard as yard
use Rattle.alone.specs.Apart.{known, now, knowing, with_links, with_alone, relinked_by, told_with}
use Rattle.alone.specs.Apart.{waiting, Told, Head, Counted, Waits, switched_on, over, loses}
use Rattle.alone.specs.Apart.{repeats, stops, returns, times_out, elects}
use Rattle.own_safety.specs.Boards.{Boards, Turn, Gave, answered, carried, Tells, Happens}
use Rattle.own_safety.specs.Boards.{acts, hands, brings}
use Rattle.own_safety.specs.Worked.{box_in, letters_in}
use Rattle.own_safety.proofs.EntryLaws.{own-on, elected-on}
use Rattle.own_safety.proofs.Read.{Links, sent, stored, alone_in, yard_of, box-at, with_board}
use Rattle.own_safety.proofs.Read.{Says, relinked-same, tail-same, twice_same, answered-same}
use Rattle.own_safety.proofs.Read.{carried_same}

-- every row and every letter can be read
abbrev Legible : ℕ → Links → Type 0
Legible J link = (a b : ℕ) → All (λ p. place_reads J p ≡ true) (link a b)

pub record Readable (y : Boards) : Type 0 where
  pub rows : (b : ℕ) → In b y.n → row_reads y.J (y.box b).row ≡ true
  pub letters : Legible y.J y.link

relinked_legible : (J : ℕ) (f : List (List ℕ) → List (List ℕ))
    → ((l : List (List ℕ)) → All (λ p. place_reads J p ≡ true) l
    → All (λ p. place_reads J p ≡ true) (f l))
    → {link : Links} → Legible J link → (a b : ℕ) → Legible J (relinked_by f link a b)
relinked_legible J f kept {link} old a b i j =
    cond_elim (All (λ p. place_reads J p ≡ true)) (eqb i a && eqb j b)
    (λ e. kept (link i j) (old i j))
    (λ e. old i j)

act-fits : (c : ℕ) (a : Act) → ActFits a → CallFits (call_of c a)
act-fits c Act.Recover h = tt
act-fits c Act.Collect h = tt
act-fits c Act.Ready h = tt
act-fits c (Act.Offer l r) h = h
act-fits c Act.Propose h = tt
act-fits c Act.Agree h = tt
act-fits c Act.Finish h = tt
act-fits c Act.Heard h = tt
act-fits c (Act.Trim k) h = tt

pub record Goes (y : Boards) (d : Call) (a : Answer) (z : Boards) : Type 0 where
  pub happens : yard.Happens (yard_of y) d a (yard_of z)
  pub readable : Readable z
  pub fits : CallFits d

module _ (y : Boards) (can : Readable y) where
  -- ---- a turn of box c on the event e

  module _ (c : ℕ) (i : In c y.n) (e : Event) (f : List ℕ → OwnOutcome) (t : Turn)
      (gave : Gave y c f t) (is : f gave.place ≡ own_step (known y c) (box_in y c) e) where
    ran-is : ran (yard_of y) c e ≡ f gave.place
    ran-is =
        ap (λ (x : Alone). own_step (knowing (yard_of y) x.epoch x.present c) x.row e)
        (box-at y c i)
        ∙ sym is

    pub says : Says y t (ran (yard_of y) c e)
    says = subst (Says y t) (sym ran-is) (let o = gave.owned in record {
      answer = o.answer;
      box = o.box;
      receivers = o.receivers;
      letter = o.letter;
    })

    sent_legible : (link : Links) → Legible y.J link → Legible y.J (sent link c t)
    sent_legible link old a b =
        cond_elim (All (λ p. place_reads y.J p ≡ true)) (eqb a c && has t.to b)
        (λ h. All-append (old a b)
        (cons (gave.reads.letter
        (λ z. both-no (rw (← z) (and_yes (eqb a c) (has t.to b) h).1) (has-zero b))) nil))
        (λ h. old a b)

    -- base is the boards without the letter that came
    module _ (link : Links) (legible : Legible y.J link) where
      kept : Readable (stored (with_links y link) c t)
      kept = record {
        rows = upd-all (λ b x. In b y.n → row_reads y.J x.row ≡ true) y.box c
            (λ h. gave.reads.row (can.rows c h)) can.rows;
        letters = sent_legible link legible;
      }

      by-answer : (a : Answer)
          → Readable (after a y (with_links y link) (stored (with_links y link) c t))
      unfolding after
      by-answer (Answer.Refused why) = can
      by-answer (Answer.Discarded why) = record { rows = can.rows; letters = legible }
      by-answer Answer.Done = kept
      by-answer Answer.Taken = kept

      turn-goes : {d : Call} {base : Yard} → yard_of (with_links y link) ≡ base → CallFits d
          → yard.Happens (yard_of y) d (yard.answered base c (ran (yard_of y) c e))
          (yard.carried (yard_of y) base c (ran (yard_of y) c e))
          → Goes y d (answered (with_links y link) c t) (carried y (with_links y link) c t)
      turn-goes {d} {base} same fits h = record {
        happens =
            subst (λ (a : Answer).
            yard.Happens (yard_of y) d a (yard_of (carried y (with_links y link) c t)))
            (sym (answered-same y c i t _ says link))
            (subst (yard.Happens (yard_of y) d
            (yard.answered (yard_of (with_links y link)) c (ran (yard_of y) c e)))
            (sym (carried_same y c i t _ says link))
            (subst (λ (b : Yard).
            yard.Happens (yard_of y) d (yard.answered b c (ran (yard_of y) c e))
            (yard.carried (yard_of y) b c (ran (yard_of y) c e))) (sym same) h));
        readable = by-answer (answered (with_links y link) c t);
        fits = fits;
      }

  -- ---- whatever happens

  told_as : {c : ℕ} → Told y c → Told (yard_of y) c
  told_as {c} t = record {
    box = t.box;
    even = t.even;
    told = ap (λ (x : Alone). x.epoch) (box-at y c t.box) ∙ t.told;
  }

  head_as : {a b : ℕ} {p : List ℕ} → Head y a b p
      → Head (yard_of y) a b (letter_at (place_of y.J p))
  head_as h = record {
    link = h.link;
    behind = letters_in y.J h.behind;
    stands = ap (letters_in y.J) h.stands;
  }

  counted_as : {c : ℕ} → Counted y c → Counted (yard_of y) c
  counted_as h = record { box = h.box; epoch = h.epoch }

  -- one link changed by f, of whose letters g makes the same
  module _ (f : List (List ℕ) → List (List ℕ)) (g : List Letter → List Letter) (a b : ℕ)
      (same : (ps : List (List ℕ)) → letters_in y.J (f ps) ≡ g (letters_in y.J ps))
      (keeps : (l : List (List ℕ)) → All (λ p. place_reads y.J p ≡ true) l
      → All (λ p. place_reads y.J p ≡ true) (f l)) where
    abbrev changed : Boards
    changed = with_links y (relinked_by f y.link a b)

    still : Legible y.J (relinked_by f y.link a b)
    still = relinked_legible y.J f keeps can.letters a b

    pub relinked : yard_of changed
        ≡ with_links (yard_of y) (relinked_by g (yard_of y).link a b)
    relinked =
        ap (λ (link : links.Links). with_links (yard_of y) link)
        (relinked-same y.J f g same y.link a b)

    link-goes : {d : Call} → CallFits d
        → yard.Happens (yard_of y) d Answer.Done
        (with_links (yard_of y) (relinked_by g (yard_of y).link a b))
        → Goes y d Answer.Done changed
    link-goes {d} fits h = record {
      happens = subst (yard.Happens (yard_of y) d Answer.Done) (sym relinked) h;
      readable = record { rows = can.rows; letters = still };
      fits = fits;
    }

  pub goes : {d : Call} {a : Answer} {z : Boards} → Happens y d a z → Goes y d a z
  goes (acts c a t told fits gave) =
      turn-goes c told.box (own a) _ t gave
      (own-on (known y c) (box_in y c) _ (own a) gave.place (can.rows c told.box)
      gave.words)
      y.link can.letters refl (act-fits c a fits) (yard.acts c a (told_as told) fits)
  goes (hands a b p t told h gave) =
      turn-goes b told.box (mail a (letter_at (place_of y.J p))) _ t gave
      (own-on (known y b) (box_in y b) _ (mail a (letter_at (place_of y.J p))) gave.place
      (and_both (can.rows b told.box)
      (All-head (subst (All (λ q. place_reads y.J q ≡ true)) h.stands (can.letters a b))))
      gave.words)
      (relinked_by tail y.link a b)
      (still tail tail a b (tail-same y.J) (λ l. All-tail))
      (relinked tail tail a b (tail-same y.J) (λ l. All-tail))
      tt (yard.hands a b _ (told_as told) (head_as h))
  goes (brings (loses a b p h)) =
      link-goes tail tail a b (tail-same y.J) (λ l. All-tail) tt
      (yard.brings (loses a b _ (head_as h)))
  goes (brings (repeats a b p h room)) =
      link-goes twice twice a b (twice_same y.J) (λ l. All-twice) tt
      (yard.brings (repeats a b _ (head_as h)
      (subst (λ (k : ℕ). k < y.L) (sym (length-map (y.link a b) _)) room)))
  goes (brings (stops c h here)) = record {
    happens = yard.brings (stops c (counted_as h) here);
    readable = record { rows = can.rows; letters = can.letters };
    fits = tt;
  }
  goes (brings (returns c h gone)) = record {
    happens = yard.brings (returns c (counted_as h) gone);
    readable = record { rows = can.rows; letters = can.letters };
    fits = tt;
  }
  goes (brings (times_out c h here ev)) = record {
    happens = yard.brings (times_out c (counted_as h) here ev);
    readable = record { rows = can.rows; letters = can.letters };
    fits = tt;
  }
  goes (brings (elects c h)) = record {
    happens = yard.brings (elects c (record {
      box = h.box;
      due = h.due;
      here = h.here;
      majority = h.majority;
    }));
    readable = record { rows = can.rows; letters = λ a b. nil };
    fits = tt;
  }

  -- ---- box b is told of an election

  module _ (b : ℕ) (r : List ℕ) (t : Tells y b r) where
    hears-is : elected_on (now y b) (y.box b).row y.leader ≡ yard.hears (yard_of y) b
    hears-is =
        elected-on (now y b) (y.box b).row (can.rows b t.untold.box) y.leader
        ∙ ap (λ (x : Alone). own_elected (now y b) x.row y.leader)
        (sym (box-at y b t.untold.box))

    pub tells_as : yard.Tells (yard_of y) b
    tells_as = record {
      untold = record {
        box = t.untold.box;
        once = λ e.
            t.untold.once (ap (λ (x : Alone). x.epoch) (sym (box-at y b t.untold.box)) ∙ e);
      };
      heard = ap (λ (o : OwnOutcome). o.answer) (sym hears-is) ∙ sym t.heard.answer;
    }

    pub told_same : yard_of (with_alone y b (told_with y r))
        ≡ with_alone (yard_of y) b (yard.told_of (yard_of y) b)
    told_same =
        with_board y b t.untold.box (told_with y r) (yard.told_of (yard_of y) b)
        (ap (λ (x : Box). record { row = x; epoch = y.epoch; present = y.present })
        (t.heard.box ∙ ap (λ (o : OwnOutcome). o.next) hears-is))

    pub told-readable : Readable (with_alone y b (told_with y r))
    told-readable = record {
      rows = upd-all (λ c x. In c y.n → row_reads y.J x.row ≡ true) y.box b
          (λ h. t.heard.reads refl) can.rows;
      letters = can.letters;
    }

  -- ---- box b waits to be told of one

  module _ (b : ℕ) (i : In b y.n) where
    abbrev is-alone : (yard_of y).box b ≡ alone_in y.n y.J (y.box b)
    is-alone = box-at y b i

    pub waits_as : {e w : ℕ} → Waits y b e w → Waits (yard_of y) b e w
    waits_as (switched_on idle) =
        switched_on (λ ev e. idle ev (ap (λ (x : Alone). x.epoch) (sym is-alone) ∙ e))
    waits_as (over e odd later past) =
        subst (Waits (yard_of y) b e) (ap (λ (x : Alone). x.present) is-alone)
        (over e odd (subst (λ (x : Alone). x.epoch < e) (sym is-alone) later) past)

    module _ (e w : ℕ) where
      pub waits-same : yard_of (with_alone y b (waiting y b e w))
          ≡ with_alone (yard_of y) b (waiting (yard_of y) b e w)
      waits-same =
          with_board y b i (waiting y b e w) (waiting (yard_of y) b e w)
          (ap (λ (x : Alone). record { row = x.row; epoch = e; present = w }) (sym is-alone))

      pub waits-readable : Readable (with_alone y b (waiting y b e w))
      waits-readable = record {
        rows = upd-all (λ c x. In c y.n → row_reads y.J x.row ≡ true) y.box b
            (can.rows b) can.rows;
        letters = can.letters;
      }
