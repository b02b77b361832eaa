-- Whatever a site does, boxes by themselves can do: their carrier tells all of them of an election
-- at once.
use Prim.Native.Nat.{ℕ, zero, suc, ◌+◌, ◌%◌, ◌≤◌, ◌<◌}
use mathlib.Core.Path.{◌≡◌, refl, sym, ap, ◌∙◌, subst}
use mathlib.Core.Bool.{true, false, not}
use mathlib.Core.List.{List, [], ◌∷◌, tail}
use native.Mathlib.Omega.{arith}
use lib.Count.{ones}
use lib.Dec.{leb, ltb, eqb}
use lib.ListN.{length}
use borrow.Author.Tests.{eqb-false, eq-eqb, leb-true, ltb-true, not-true}
use Rattle.rules.specs.Sizes.{majority_of, most_epoch, even, sizes_form}
use Rattle.rules.specs.Sets.{has}
use Rattle.rules.specs.Form.{form}
use Rattle.rules.specs.Needs.{Need, ruled}
use Rattle.rules.specs.Box.{Letter, own, mail}
use Rattle.rules.specs.Own.{OwnOutcome, form_own, own_elected}
use Rattle.rules.specs.Site.{Site, Outcome, fresh, is_box, is_link, upd}
use Rattle.rules.specs.Step.{refused, delivered, risen, step, run}
use Rattle.laws.specs.Frames.{ActFits, CallFits}
use Rattle.laws.proofs.Types.{Act, Answer, Call}
use Rattle.laws.proofs.Logic.{Or, left, right, In, decide, same?, below?, both-no, and_both, Passed}
use Rattle.laws.proofs.Logic.{passed, made, none, ◌&◌}
use Rattle.laws.proofs.Counts.{in_down}
use Rattle.laws.proofs.FormLaws.{is-box, box-is, is-link}
use Rattle.laws.proofs.FrameLaws.{upd_same, upd_other, upd-all}
use Rattle.laws.proofs.StepLaws.{mets, by-ruled}
use Rattle.alone.specs.Links.{Links, after, call_of}
use Rattle.alone.specs.Apart.{with_links, with_alone, with_epoch, relinked_by, Told, Head}
use Rattle.alone.specs.Apart.{Counted, loses, repeats, stops, returns, times_out, elects}
use Rattle.alone.specs.Yard.{Alone, Yard, begun, told_of, stored, answered, carried, ran}
use Rattle.alone.specs.Yard.{Tells, acts, hands, brings, Lived, began, did, told}
use Rattle.alone.specs.Alone.{AllFit, Lives}
use Rattle.alone.proofs.OwnStep.{ruled-met, is-acting}
use Rattle.alone.proofs.Mirror.{Mirror, Mirrored, site_as, odd-risen, lived, same-n}
use Rattle.alone.proofs.Odd.{no-act, no-letter}

-- all needs are met, or the site is left
met? : (s : Site) (ks : List Need) (o : Outcome)
    → Or (Passed (mets ks)) ((ruled (refused s) ks o).next ≡ s)
unfolding ruled
met? s [] o = left tt
met? s (k ∷ ks) o = go (decide k.met) (met? s ks o)
  where
    go : Or (k.met ≡ true) (k.met ≡ false)
        → Or (Passed (mets ks)) ((ruled (refused s) ks o).next ≡ s)
        → Or (Passed (mets (k ∷ ks))) ((ruled (refused s) (k ∷ ks) o).next ≡ s)
    go (left e) (left p) = left (e, p)
    go (left e) (right q) = right (rw e q)
    go (right e) rest = right (rw e refl)

abbrev Everyone : Yard → Type 0
Everyone y = even y.epoch ≡ true → (b : ℕ) → In b y.n → (y.box b).epoch ≡ y.epoch

module _ (n J L : ℕ) (sizes : sizes_form n J L ≡ true) where
  abbrev end : List Call → Site
  end calls = run (fresh n J L) calls

  -- ---- all are told

  -- who was elected is still present
  record Led (y : Yard) : Type 0 where
    even : even y.epoch ≡ true
    box : is_box y.n y.leader ≡ true
    here : has y.present y.leader ≡ true
    majority : leb (majority_of y.n) (ones y.present) ≡ true

  record Telling (calls : List Call) (k : ℕ) : Type 0 where
    yard : Yard
    lived : Lived n J L calls yard
    led : Led yard
    upto : (b : ℕ) → In b k → In b yard.n → (yard.box b).epoch ≡ yard.epoch

  tells : {calls : List Call} {y : Yard} → Lived n J L calls y → Led y → (b : ℕ) → In b y.n
      → ((y.box b).epoch ≡ y.epoch → ⊥) → Tells y b
  unfolding own_elected form_own form
  tells {y = y} l h b i once =
      let m = (lived n J L sizes l).mirror in
      let p = passed _ m.form in
      record {
        untold = record { box = i; once = once };
        heard = ap (λ (o : OwnOutcome). o.answer)
            (ruled-met _ _ _ (
              p.0,
              (
                made (p.1.0 & p.1.1.0 & (m.boxes b i).right.2 & refl & none),
                (and_both (box-is i) h.box, (h.even, (h.here, (h.majority, tt)))),
              ),
            ));
      }

  -- box k+1, where it is a box and was not told
  tell-next : {calls : List Call} {k : ℕ} (t : Telling calls k)
      → Or (t.yard.n < suc k) (suc k ≤ t.yard.n)
      → Or ((t.yard.box (suc k)).epoch ≡ t.yard.epoch)
      ((t.yard.box (suc k)).epoch ≡ t.yard.epoch → ⊥)
      → Telling calls (suc k)
  tell-next t (left few) o = record {
    yard = t.yard;
    lived = t.lived;
    led = t.led;
    upto = λ b i j. t.upto b (i.0, omega (arith, few, j.1)) j;
  }
  tell-next {k = k} t (right some) (left e) = record {
    yard = t.yard;
    lived = t.lived;
    led = t.led;
    upto = λ b i j. go b i j (same? b (suc k));
  }
    where
      go : (b : ℕ) → In b (suc k) → In b t.yard.n → Or (b ≡ suc k) (b ≡ suc k → ⊥)
          → (t.yard.box b).epoch ≡ t.yard.epoch
      go b i j (left same) = rw same e
      go b i j (right other) = t.upto b (in_down i other) j
  tell-next {k = k} t (right some) (right ne) =
      let h = t.led in
      record {
        yard = with_alone t.yard (suc k) (told_of t.yard (suc k));
        lived = told (suc k) t.lived (tells t.lived h (suc k) (omega arith, some) ne);
        led = record { even = h.even; box = h.box; here = h.here; majority = h.majority };
        upto = λ b i j. go b i j (same? b (suc k));
      }
    where
      go : (b : ℕ) → In b (suc k) → In b t.yard.n → Or (b ≡ suc k) (b ≡ suc k → ⊥)
          → (upd t.yard.box (suc k) (told_of t.yard (suc k)) b).epoch ≡ t.yard.epoch
      go b i j (left same) =
          rw same (ap (λ (x : Alone). x.epoch) (upd_same t.yard.box (suc k) _))
      go b i j (right other) =
          ap (λ (x : Alone). x.epoch) (upd_other t.yard.box (suc k) _ b other)
          ∙ t.upto b (in_down i other) j

  tell : {calls : List Call} {y : Yard} → Lived n J L calls y → Led y → (k : ℕ) → Telling calls k
  tell {y = y} l h zero = record {
    yard = y;
    lived = l;
    led = h;
    upto = λ b i. absurd (omega (arith, i.0, i.1));
  }
  tell l h (suc k) = let t = tell l h k in tell-next t (below? _ _) (same? _ _)

  -- ---- the next call

  module _ {calls : List Call} {y : Yard} (l : Lived n J L calls y) (all : Everyone y) where
    abbrev r : Mirrored y (end calls)
    r = lived n J L sizes l

    abbrev m : Mirror y r.box r.link
    m = r.mirror

    abbrev s : Site
    s = site_as y r.box r.link

    abbrev Next : Call → Type 0
    Next d = Lives n J L (step (end calls) d).next

    every : {cs : List Call} {z : Yard} → Lived n J L cs z → Everyone z
        → even z.epoch ≡ true → (b : ℕ) → In b n → Told z b
    every {z = z} k h e b i =
        let j : In b z.n = subst (In b) (sym (same-n n J L sizes k)) i in
        record { box = j; even = e; told = h e b j }

    stays : (d : Call) → (step s d).next ≡ s → Next d
    stays d e = record {
      calls = calls;
      yard = y;
      lived = l;
      same = r.same ∙ sym e ∙ ap (λ (t : Site). (step t d).next) (sym r.same);
      everyone = every l all;
    }

    grows : {d : Call} {z : Yard} → Lived n J L (d ∷ calls) z → Everyone z → Next d
    unfolding run
    grows {d} {z} k h = record {
      calls = d ∷ calls;
      yard = z;
      lived = k;
      same = refl;
      everyone = every k h;
    }

    box-told : (c : ℕ) → In c y.n → even y.epoch ≡ true → Told y c
    box-told c i e = record { box = i; even = e; told = all e c i }

    -- a box does not forget what it was told
    still-told : (a : Answer) (base : Links) (c : ℕ) (o : OwnOutcome)
        → Everyone (after a y (with_links y base) (stored (with_links y base) c o))
    unfolding after
    still-told (Answer.Refused why) base c o = all
    still-told (Answer.Discarded why) base c o = all
    still-told Answer.Done base c o = λ e.
        upd-all (λ b x. In b y.n → x.epoch ≡ y.epoch) y.box c (all e c) (all e)
    still-told Answer.Taken base c o = λ e.
        upd-all (λ b x. In b y.n → x.epoch ≡ y.epoch) y.box c (all e c) (all e)

    run-told : (base : Links) (c : ℕ) (o : OwnOutcome)
        → Everyone (carried y (with_links y base) c o)
    run-told base c o = still-told (answered (with_links y base) c o) base c o

    none-there : (a b : ℕ) → (delivered s a b []).next ≡ s
    unfolding delivered
    none-there a b = refl

    -- the head of a link, as the yard has it
    head : (a b : ℕ) (x : Letter) (xs : List Letter) → is_link y.n a b ≡ true
        → r.link a b ≡ x ∷ xs → Head y a b x
    head a b x xs i h = record {
      link = i;
      behind = xs;
      stands = ap (λ (k : Links). k a b) m.links ∙ h;
    }

    act : (c : ℕ) (a : Act) → ActFits a → Next (call_of c a)
    act c a fits = go (decide (is_box y.n c)) (decide (even y.epoch))
      where
        go : Or (is_box y.n c ≡ true) (is_box y.n c ≡ false)
            → Or (even y.epoch ≡ true) (even y.epoch ≡ false) → Next (call_of c a)
        go (left i) (left e) =
            grows (did l (acts c a (box-told c (is-box i) e) fits))
            (run-told y.link c (ran y c (own a)))
        go (right i) e =
            stays (call_of c a)
            (ap (λ (o : Outcome). o.next) (is-acting s c a)
            ∙ by-ruled (λ t. t ≡ s) s _ _ refl (λ p. absurd (both-no p.1.0 i)))
        go (left i) (right e) =
            stays (call_of c a)
            (ap (λ (o : Outcome). o.next) (is-acting s c a) ∙ no-act s e c a)

    deliver : (a b : ℕ) → Next (Call.Deliver a b)
    unfolding step
    deliver a b = go (decide (is_link y.n a b)) (decide (even y.epoch)) (r.link a b) refl
      where
        left_alone : (ys : List Letter) → r.link a b ≡ ys → (delivered s a b ys).next ≡ s
            → Next (Call.Deliver a b)
        left_alone ys e h =
            stays (Call.Deliver a b)
            (by-ruled (λ t. t ≡ s) s _ _ refl
            (λ p. ap (λ (zs : List Letter). (delivered s a b zs).next) e ∙ h))

        go : Or (is_link y.n a b ≡ true) (is_link y.n a b ≡ false)
            → Or (even y.epoch ≡ true) (even y.epoch ≡ false)
            → (ys : List Letter) → r.link a b ≡ ys → Next (Call.Deliver a b)
        go (right i) e ys h =
            stays (Call.Deliver a b)
            (by-ruled (λ t. t ≡ s) s _ _ refl (λ p. absurd (both-no p.1.0 i)))
        go (left i) e [] h = left_alone [] h (none-there a b)
        go (left i) (right odd) (x ∷ xs) h = left_alone (x ∷ xs) h (no-letter s odd a b x xs)
        go (left i) (left e) (x ∷ xs) h =
            grows (did l (hands a b x (box-told b (is-link {a = a} i).1 e) (head a b x xs i h)))
            (run-told (relinked_by tail y.link a b) b (ran y b (mail a x)))

    -- a link that is not empty has a head
    some-head : (a b : ℕ) → is_link y.n a b ≡ true
        → (ys : List Letter) → r.link a b ≡ ys → not (eqb (length ys) 0) ≡ true
        → (x : Letter) × Head y a b x
    some-head a b i [] h e = absurd (both-no e refl)
    some-head a b i (x ∷ xs) h e = (x, head a b x xs i h)

    risen-told : Everyone (with_epoch y (risen y.epoch) y.present y.leader)
    risen-told e = absurd (both-no e (odd-risen y.epoch))

    change : (d : Call) (ks : List Need) (o : Outcome) → step s d ≡ ruled (refused s) ks o
        → (Passed (mets ks) → Next d) → Next d
    change d ks o is does = go (met? s ks o)
      where
        go : Or (Passed (mets ks)) ((ruled (refused s) ks o).next ≡ s) → Next d
        go (left p) = does p
        go (right e) = stays d (ap (λ (r : Outcome). r.next) is ∙ e)

    counted : {c : ℕ} → is_box y.n c ≡ true → ltb y.epoch most_epoch ≡ true → Counted y c
    counted i e = record { box = is-box i; epoch = ltb-true _ _ e }

    elected : (c : ℕ) → In c y.n → not (even y.epoch) ≡ true → has y.present c ≡ true
        → leb (majority_of y.n) (ones y.present) ≡ true → Next (Call.Elect c)
    elected c i odd here major =
        let due : even y.epoch ≡ false = not-true _ odd in
        let t =
        tell (did l (brings (elects c (record {
          box = i;
          due = due;
          here = here;
          majority = leb-true _ _ major;
        })))) (record {
          even = eq-eqb ((y.epoch + 1) % 2) 0 (omega (arith, eqb-false (y.epoch % 2) 0 due));
          box = box-is i;
          here = here;
          majority = major;
        }) n
        in grows t.lived (λ e b j. t.upto b (subst (In b) (same-n n J L sizes t.lived) j) j)

    next : (d : Call) → CallFits d → Next d
    unfolding step
    next (Call.Elect c) fits =
        change (Call.Elect c) _ _ refl
        (λ p. elected c (is-box p.1.0) p.1.1.0 p.1.1.1.0 p.1.1.1.1.0)
    next (Call.Recover c) fits = act c Act.Recover tt
    next (Call.Collect c) fits = act c Act.Collect tt
    next (Call.Ready c) fits = act c Act.Ready tt
    next (Call.Offer c f g) fits = act c (Act.Offer f g) fits
    next (Call.Propose c) fits = act c Act.Propose tt
    next (Call.Agree c) fits = act c Act.Agree tt
    next (Call.Finish c) fits = act c Act.Finish tt
    next (Call.Heard c) fits = act c Act.Heard tt
    next (Call.Trim c k) fits = act c (Act.Trim k) tt
    next (Call.Stop c) fits =
        change (Call.Stop c) _ _ refl
        (λ p. grows (did l (brings (stops c (counted p.1.0 p.1.1.1.0) p.1.1.0)))
        risen-told)
    next (Call.Return c) fits =
        change (Call.Return c) _ _ refl
        (λ p. grows
        (did l (brings (returns c (counted p.1.0 p.1.1.1.0) (not-true _ p.1.1.0))))
        risen-told)
    next (Call.Timeout c) fits =
        change (Call.Timeout c) _ _ refl
        (λ p. grows
        (did l (brings
        (times_out c (counted p.1.0 p.1.1.1.1.0) p.1.1.0 p.1.1.1.0)))
        risen-told)
    next (Call.Lose a b) fits =
        change (Call.Lose a b) _ _ refl
        (λ p. let x = some-head a b p.1.0 (r.link a b) refl p.1.1.0 in
        grows (did l (brings (loses a b x.0 x.1))) all)
    next (Call.Repeat a b) fits =
        change (Call.Repeat a b) _ _ refl
        (λ p. let x = some-head a b p.1.0 (r.link a b) refl p.1.1.0 in
        grows (did l (brings (repeats a b x.0 x.1
        (subst (λ (k : Links). length (k a b) < y.L) (sym m.links) (ltb-true _ _
        p.1.1.1.0))))) all)
    next (Call.Deliver a b) fits = deliver a b

  pub lives : (calls : List Call) → AllFit calls → Lives n J L (end calls)
  unfolding run begun
  lives [] fits = record {
    calls = [];
    yard = begun n J L;
    lived = began;
    same = refl;
    everyone = λ e. absurd (both-no e refl);
  }
  lives (d ∷ ds) fits =
      let k = lives ds fits.1 in
      subst (λ (t : Site). Lives n J L (step t d).next) k.same
      (next k.lived
      (λ e b i. (k.everyone e b (subst (In b) (same-n n J L sizes k.lived) i)).told)
      d fits.0)
