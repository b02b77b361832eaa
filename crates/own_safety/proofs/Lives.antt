-- Whatever boxes by themselves live in the model, boards in words can do: the contracts can be met.
use Prim.Native.Nat.{ℕ, ◌+◌, ◌≤◌, ◌<◌}
use mathlib.Core.Path.{◌≡◌, refl, sym, ap, ◌∙◌, subst}
use mathlib.Core.Bool.{true}
use mathlib.Core.List.{List, [], ◌∷◌, tail}
use native.Mathlib.Omega.{arith}
use lib.ListN.{length, length-map, replicate, length-replicate}
use Rattle.rules.specs.Sizes.{even, sizes_form}
use Rattle.rules.specs.Box.{Letter, Event, own, mail}
use Rattle.rules.specs.Own.{OwnOutcome, own_step, own_elected}
use Rattle.rules.specs.Site.{twice}
use Rattle.laws.proofs.Types.{Answer, Call}
use Rattle.laws.proofs.Logic.{In, All, All-head, All-tail, All-twice, and_both}
use Rattle.laws.proofs.FormLaws.{sizes-says}
use Rattle.letter.specs.Place.{letter_at, head_words as letter_head}
use Rattle.row.specs.Row.{row_width}
use Rattle.own.specs.Entry.{place_of, place_reads, act_on, mail_on, fresh_on, elected_on}
use Rattle.own.specs.Entry as entry
use Rattle.own.proofs.Answered.{Given, act-given, mail-given, fresh-given, elected-given}
use Rattle.said.specs.Said.{Talk, called, calls}
use Rattle.alone.specs.Yard.{Alone, Yard, Lived, ran}
use Rattle.alone.specs.Yard as yard
use Rattle.alone.proofs.Mirror.{same-n}
use Rattle.alone.specs.Apart.{told_with, known, now, with_links, with_alone, relinked_by, waiting}
use Rattle.alone.specs.Apart.{without-head, Told, Head, Counted, Waits, switched_on, over, loses}
use Rattle.alone.specs.Apart.{repeats, stops, returns, times_out, elects}
use Rattle.own_safety.specs.Boards.{Boards, Turn, Gave, answered, carried, Tells, Happens}
use Rattle.own_safety.specs.Boards.{acts, hands, brings}
use Rattle.own_safety.specs.Worked.{Worked, began, did, told, waits, box_in, letters_in}
use Rattle.own_safety.proofs.EntryLaws.{own-on, elected-on}
use Rattle.own_safety.proofs.Read.{Links, yard_of, box-at, answered-same, carried_same}
use Rattle.own_safety.proofs.Read.{tail-same, twice_same}
use Rattle.own_safety.proofs.Goes.{Readable, says, relinked, told_same, waits-same}
use Rattle.own_safety.proofs.Stand.{begun-same}
use Rattle.own_safety.proofs.Stand as Stand

abbrev first-of : Letter → List Letter → Letter
first-of x [] = x
first-of x (y ∷ ys) = y

module _ (y : Boards) (can : Readable y) where
  record Found (d : Call) (a : Answer) (v : Yard) : Type 0 where
    boards : Boards
    happens : Happens y d a boards
    same : yard_of boards ≡ v

  -- ---- a turn of box c

  abbrev place : List ℕ
  place = replicate (letter_head + y.J) 0

  long : letter_head + y.J ≤ length place
  long = omega (arith, length-replicate {A = ℕ} (letter_head + y.J) 0)

  record Turned (c : ℕ) (f : List ℕ → OwnOutcome) : Type 0 where
    turn : Turn
    gave : Gave y c f turn

  turns : (c : ℕ) (f : List ℕ → OwnOutcome) → Given (known y c) (f place) (y.box c).row place
      → Turned c f
  turns c f g = record {
    turn = record { row = g.row; letter = g.place; answer = g.answer; to = g.to };
    gave = record { place = place; words = long; owned = g.owned; reads = g.reads };
  }

  module _ (c : ℕ) (i : In c y.n) (e : Event) (f : List ℕ → OwnOutcome) (t : Turn)
      (gave : Gave y c f t) (is : f gave.place ≡ own_step (known y c) (box_in y c) e) where
    turn-found : (link : Links) {base : Yard} {d : Call} → yard_of (with_links y link) ≡ base
        → Happens y d (answered (with_links y link) c t) (carried y (with_links y link) c t)
        → Found d (yard.answered base c (ran (yard_of y) c e))
        (yard.carried (yard_of y) base c (ran (yard_of y) c e))
    turn-found link {base} {d} same h =
        let k = says y can c i e f t gave is in
        subst (λ (b : Yard). Found d (yard.answered b c (ran (yard_of y) c e))
        (yard.carried (yard_of y) b c (ran (yard_of y) c e))) same
        (record {
          boards = carried y (with_links y link) c t;
          happens = subst (λ (a : Answer). Happens y d a (carried y (with_links y link) c t))
              (answered-same y c i t _ k link) h;
          same = carried_same y c i t _ k link;
        })

  -- ---- the duties, in words

  told_so : {c : ℕ} → Told (yard_of y) c → Told y c
  told_so {c} t = record {
    box = t.box;
    even = t.even;
    told = ap (λ (x : Alone). x.epoch) (sym (box-at y c t.box)) ∙ t.told;
  }

  counted_so : {c : ℕ} → Counted (yard_of y) c → Counted y c
  counted_so h = record { box = h.box; epoch = h.epoch }

  record Heads (a b : ℕ) (m : Letter) : Type 0 where
    words : List ℕ
    head : Head y a b words
    is : letter_at (place_of y.J words) ≡ m

  head_so : {a b : ℕ} {m : Letter} → Head (yard_of y) a b m → Heads a b m
  head_so {a} {b} {m} h = go (y.link a b) refl h.stands
    where
      go : (ps : List (List ℕ)) → y.link a b ≡ ps → letters_in y.J ps ≡ m ∷ h.behind
          → Heads a b m
      go [] e g = absurd (omega (arith, ap length g))
      go (p ∷ ps) e g = record {
        words = p;
        head = record { link = h.link; behind = ps; stands = e };
        is = ap (first-of m) g;
      }

  -- ---- whatever happens

  found : {d : Call} {a : Answer} {v : Yard} → yard.Happens (yard_of y) d a v → Found d a v
  found (yard.acts c a t fits) =
      let k = told_so t in
      let g = turns c (act_on (known y c) (y.box c).row a)
      (act-given (known y c) (y.box c).row place a fits) in
      turn-found c t.box (own a) _ g.turn g.gave
      (own-on (known y c) (box_in y c) _ (own a) g.gave.place (can.rows c t.box)
      g.gave.words)
      y.link refl (acts c a g.turn k fits g.gave)
  found (yard.hands a b m t h) =
      let k = told_so t in
      let w = head_so h in
      let p = w.words in
      let g = turns b (mail_on (known y b) (y.box b).row a p)
      (mail-given (known y b) (y.box b).row place a p) in
      subst (λ (x : Letter). Found (Call.Deliver a b)
      (yard.answered (without-head (yard_of y) a b) b (ran (yard_of y) b (mail a x)))
      (yard.carried (yard_of y) (without-head (yard_of y) a b) b (ran (yard_of y) b (mail a x))))
      w.is
      (turn-found b t.box (mail a (letter_at (place_of y.J p))) _ g.turn g.gave
      (own-on (known y b) (box_in y b) _ (mail a (letter_at (place_of y.J p))) g.gave.place
      (and_both (can.rows b t.box)
      (All-head (subst (All (λ q. place_reads y.J q ≡ true)) w.head.stands
      (can.letters a b))))
      g.gave.words)
      (relinked_by tail y.link a b)
      (relinked y can tail tail a b (tail-same y.J) (λ l. All-tail))
      (hands a b p g.turn k w.head g.gave))
  found (yard.brings (loses a b m h)) = record {
    boards = _;
    happens = brings (loses a b _ (head_so h).head);
    same = relinked y can tail tail a b (tail-same y.J) (λ l. All-tail);
  }
  found (yard.brings (repeats a b m h room)) = record {
    boards = _;
    happens = brings (repeats a b _ (head_so h).head
        (subst (λ (k : ℕ). k < y.L) (length-map (y.link a b) _) room));
    same = relinked y can twice twice a b (twice_same y.J) (λ l. All-twice);
  }
  found (yard.brings (stops c h here)) = record {
    boards = _;
    happens = brings (stops c (counted_so h) here);
    same = refl;
  }
  found (yard.brings (returns c h gone)) = record {
    boards = _;
    happens = brings (returns c (counted_so h) gone);
    same = refl;
  }
  found (yard.brings (times_out c h here ev)) = record {
    boards = _;
    happens = brings (times_out c (counted_so h) here ev);
    same = refl;
  }
  found (yard.brings (elects c h)) = record {
    boards = _;
    happens = brings (elects c
        (record { box = h.box; due = h.due; here = h.here; majority = h.majority }));
    same = refl;
  }

  -- ---- a box is told of an election, or waits for one

  record Heard (b : ℕ) : Type 0 where
    row : List ℕ
    tells : Tells y b row

  heard_so : {b : ℕ} → yard.Tells (yard_of y) b → Heard b
  heard_so {b} t =
      let g = elected-given (now y b) (y.box b).row y.leader in
      let is = elected-on (now y b) (y.box b).row (can.rows b t.untold.box) y.leader
      ∙ ap (λ (x : Alone). own_elected (now y b) x.row y.leader)
      (sym (box-at y b t.untold.box)) in
      record {
        row = g.0;
        tells = record {
          untold = record {
            box = t.untold.box;
            once = λ e.
                t.untold.once (ap (λ (x : Alone). x.epoch) (box-at y b t.untold.box) ∙ e);
          };
          heard = subst (entry.Told y.n y.J
              (elected_on (now y b) (y.box b).row y.leader) (y.box b).row g.0)
              (g.2.answer ∙ ap (λ (o : OwnOutcome). o.answer) is ∙ t.heard) g.2;
        };
      }

  waits_so : {b e w : ℕ} → In b y.n → Waits (yard_of y) b e w → Waits y b e w
  waits_so {b} i (switched_on idle) =
      switched_on (λ ev e. idle ev (ap (λ (x : Alone). x.epoch) (box-at y b i) ∙ e))
  waits_so {b} i (over e odd later past) =
      subst (Waits y b e) (ap (λ (x : Alone). x.present) (sym (box-at y b i)))
      (over e odd (subst (λ (x : Alone). x.epoch < e) (box-at y b i) later) past)

-- ---- from the beginning

pub record Alive (n J L : ℕ) (ds : List Call) (v : Yard) : Type 0 where
  pub talk : Talk
  pub boards : Boards
  pub worked : Worked n J L talk boards
  pub is : calls talk ≡ ds
  pub same : yard_of boards ≡ v

module _ (n J L : ℕ) (sizes : sizes_form n J L ≡ true) where
  abbrev blank : List ℕ
  blank = replicate (row_width J) 0

  made : (q : List ℕ) × entry.Told n J (fresh_on n J L blank) blank q Answer.Done
  made = fresh-given n J L blank sizes
      (omega (arith, length-replicate {A = ℕ} (row_width J) 0))

  pub alive : {ds : List Call} {v : Yard} → Lived n J L ds v → Alive n J L ds v
  alive yard.began = record {
    talk = [];
    boards = _;
    worked = began (λ b. blank) (λ b. made.0) (sizes-says sizes).some-boxes (λ b i. made.1);
    is = refl;
    same = begun-same n J L (λ b. blank) (λ b. made.0) (λ b i. made.1);
  }
  alive (yard.did {z = z} {d = d} {a = a} l h) =
      let k = alive l in
      let f = found k.boards (Stand.worked k.worked).readable
      (subst (λ (v : Yard). yard.Happens v d a z) (sym k.same) h) in
      record {
        talk = called d a ∷ k.talk;
        boards = f.boards;
        worked = did k.worked f.happens;
        is = ap (λ (ds : List Call). d ∷ ds) k.is;
        same = f.same;
      }
  alive (yard.told {calls = ds} b l t) =
      let k = alive l in
      subst (λ (v : Yard). yard.Tells v b → Alive n J L ds (with_alone v b (yard.told_of v b)))
      k.same
      (λ t.
      let can = (Stand.worked k.worked).readable in
      let g = heard_so k.boards can t in
      record {
        talk = k.talk;
        boards = with_alone k.boards b (told_with k.boards g.row);
        worked = told b g.row k.worked g.tells;
        is = k.is;
        same = told_same k.boards can b g.row g.tells;
      })
      t
  alive (yard.waits {calls = ds} b e w l i t) =
      let k = alive l in
      subst (λ (v : Yard). In b v.n → Waits v b e w
      → Alive n J L ds (with_alone v b (waiting v b e w)))
      k.same
      (λ i t.
      let j : In b n = subst (In b) (same-n n J L sizes (Stand.worked k.worked).lived) i in
      let can = (Stand.worked k.worked).readable in
      record {
        talk = k.talk;
        boards = with_alone k.boards b (waiting k.boards b e w);
        worked = waits b e w j k.worked (waits_so k.boards can i t);
        is = k.is;
        same = waits-same k.boards can b i e w;
      })
      i t
