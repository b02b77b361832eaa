-- Boxes by themselves mirror a site: what they and their carrier do is a run of its calls.
use Prim.Native.Nat.{ℕ, ◌+◌, ◌%◌, ◌≤◌}
use mathlib.Core.Path.{◌≡◌, refl, sym, ap, ◌∙◌, subst}
use mathlib.Core.Bool.{Bool, true, false, not, cond}
use mathlib.Core.List.{List, [], ◌∷◌, tail}
use native.Mathlib.Omega.{arith}
use lib.Dec.{eqb, ltb}
use lib.ListN.{length}
use borrow.Author.Tests.{ne_eqb, le-leb, lt-ltb}
use Rattle.rules.specs.Sizes.{most_epoch, even, within, sizes_form}
use Rattle.rules.specs.Sets.{joined, without, set_form}
use Rattle.rules.specs.Fields.{with_leads, with_state, with_phase, with_waiting, with_agreeing}
use Rattle.rules.specs.Steps.{elected}
use Rattle.rules.specs.Form.{form_box, form}
use Rattle.rules.specs.Box.{Box, Letter, Event, own, mail}
use Rattle.rules.specs.Own.{OwnOutcome, own_step, elected_box}
use Rattle.rules.specs.Site.{Site, Outcome, fresh, fresh_box, setting, upd, relinked, popped, twice}
use Rattle.rules.specs.Site.{doubled}
use Rattle.rules.specs.Step.{did, elect, risen, presented, step, run}
use Rattle.laws.specs.Frames.{ActFits, CallFits}
use Rattle.laws.proofs.Types.{Act, Answer, Call, Phase, Setting, State}
use Rattle.laws.proofs.Logic.{In, both-no, eqb_yes, and_both, cond_elim, passed, every-at}
use Rattle.laws.proofs.SetLaws.{set_full}
use Rattle.laws.proofs.FormLaws.{box-is, form-says}
use Rattle.laws.proofs.FrameLaws.{upd_same, upd-all}
use Rattle.laws.proofs.StepLaws.{sizes_run}
use Rattle.laws.proofs.FormKept.{step-keeps-form, fresh-form}
use Rattle.alone.specs.Links.{Links, sent, after, joined_by, linked, call_of}
use Rattle.alone.specs.Apart.{now, with_links, with_alone, with_epoch, waiting, relinked_by}
use Rattle.alone.specs.Apart.{Told, Head, Counted, Waits, switched_on, over}
use Rattle.alone.specs.Apart.{loses, repeats, stops, returns, times_out, elects}
use Rattle.alone.specs.Yard.{Alone, Yard, begun, ran, stored, answered, carried, told_of}
use Rattle.alone.specs.Yard.{Tells, Happens, acts, hands, brings, Lived, began, did as then}
use Rattle.alone.specs.Yard.{told, waits}
use Rattle.alone.proofs.OwnStep as OwnStep
use Rattle.alone.proofs.OwnStep.{ruled-met, epoch-form, told-done}

-- a box without what an election overwrites
abbrev rest : Box → Box
rest x = record {
  head = with_leads false
      (with_state State.Recovering
      (with_phase Phase.Election
      (with_waiting 0
      (with_agreeing 0 x.head))));
  records = x.records;
}

-- the box x by itself and the site's box z; s is what there is to know, c was elected last
pub record Follows (s : Setting) (c : ℕ) (x : Alone) (z : Box) : Type 0 where
  -- by form, of what concerns it alone
  pub right : (within 1 most_epoch x.epoch ≡ true) × (set_form s.n x.present ≡ true)
      × (form_box s.n s.j s.me x.row ≡ true)
  pub old : x.epoch ≤ s.epoch
  pub rests : rest x.row ≡ rest z
  pub told : even s.epoch ≡ true → x.epoch ≡ s.epoch
      → (x.present ≡ s.present) × (x.row ≡ z)
  pub due : even s.epoch ≡ true → (x.epoch ≡ s.epoch → ⊥) → elected_box s c x.row ≡ z

box-form : (s : Site) → form s ≡ true → (b : ℕ) → In b s.n
    → form_box s.n s.J b (s.box b) ≡ true
unfolding form
box-form s f b h = every-at s.n _ (passed _ f).1.1.1.0 b h

abbrev pub site_as : Yard → (ℕ → Box) → Links → Site
site_as y box link = record {
  n = y.n;
  J = y.J;
  L = y.L;
  epoch = y.epoch;
  present = y.present;
  box = box;
  link = link;
}

pub record Mirror (y : Yard) (box : ℕ → Box) (link : Links) : Type 0 where
  pub form : form (site_as y box link) ≡ true
  pub boxes : (b : ℕ) → In b y.n → Follows (now y b) y.leader (y.box b) (box b)
  pub links : y.link ≡ link

pub record Mirrored (y : Yard) (s : Site) : Type 0 where
  pub box : ℕ → Box
  pub link : Links
  pub same : s ≡ site_as y box link
  pub mirror : Mirror y box link

-- two functions changed at one place
upd-both : {A B : Type 0} (P : ℕ → A → B → Type 0) (f : ℕ → A) (g : ℕ → B) (c : ℕ) {v : A} {w : B}
    → P c v w → ((b : ℕ) → P b (f b) (g b)) → (b : ℕ) → P b (upd f c v b) (upd g c w b)
upd-both P f g c {v} {w} new old b = go (eqb b c) (eqb_yes b c)
  where
    go : (t : Bool) → (t ≡ true → b ≡ c) → P b (cond t v (f b)) (cond t w (g b))
    go true e = subst (λ (k : ℕ). P k v w) (sym (e refl)) new
    go false e = old b

pub odd-risen : (e : ℕ) → even (risen e) ≡ false
odd-risen e =
    cond_elim (λ (t : ℕ). even t ≡ false) (even e)
    (λ t. let h : e % 2 ≡ 0 = eqb_yes (e % 2) 0 t in ne_eqb ((e + 1) % 2) 0 (λ g. omega (arith, g)))
    (λ t. t)

risen-le : (e : ℕ) → e ≤ risen e
risen-le e = cond_elim (e ≤◌) (even e) (λ t. omega arith) (λ t. omega arith)

module _ (y : Yard) (box : ℕ → Box) (link : Links) (m : Mirror y box link) where
  abbrev s : Site
  s = site_as y box link

  abbrev Goes : Call → Answer → Yard → Type 0
  Goes d a z = ((step s d).answer ≡ a) × Mirrored z (step s d).next

  kept-form : (d : Call) → CallFits d → form (step s d).next ≡ true
  kept-form d fits = step-keeps-form s d fits m.form

  -- ---- a box does something

  module _ (c : ℕ) (t : Told y c) (e : Event) (g : Links → Links) where
    abbrev o : OwnOutcome
    o = own_step (setting s c) (box c) e

    abbrev less : Links → Yard
    less l = with_links y (g l)

    abbrev base : Site
    base = site_as y box (g link)

    ran-is : ran y c e ≡ o
    ran-is =
        let h = (m.boxes c t.box).told t.even t.told in
        λ i. own_step (record {
          n = y.n;
          j = y.J;
          l = y.L;
          epoch = t.told i;
          present = h.0 i;
          me = c;
        }) (h.1 i) e

    accepted : form (joined_by base c o) ≡ true
        → Mirrored (stored (less link) c o) (joined_by base c o)
    accepted f = record {
      box = upd box c o.next;
      link = sent (g link) c o;
      same = refl;
      mirror = record {
        form = f;
        boxes =
            upd-both (λ b x z. In b y.n → Follows (now y b) y.leader x z) y.box box c
            (λ h. record {
              right = let k = (m.boxes c h).right in (
                k.0,
                k.1,
                subst (λ (x : Box). form_box y.n y.J c x ≡ true) (upd_same box c o.next)
                    (box-form (joined_by base c o) f c h),
              );
              old = (m.boxes c h).old;
              rests = refl;
              told = λ ev e. (((m.boxes c h).told ev e).0, refl);
              due = λ ev ne. absurd (ne t.told);
            })
            m.boxes;
        links = refl;
      };
    }

    by-answer : (a : Answer) → form (after a s base (joined_by base c o)) ≡ true
        → Mirrored (after a y (less link) (stored (less link) c o))
        (after a s base (joined_by base c o))
    unfolding after
    by-answer (Answer.Refused why) f = record { box = box; link = link; same = refl; mirror = m }
    by-answer (Answer.Discarded why) f = record {
      box = box;
      link = g link;
      same = refl;
      mirror = record { form = f; boxes = m.boxes; links = refl };
    }
    by-answer Answer.Done f = accepted f
    by-answer Answer.Taken f = accepted f

    box-goes : (d : Call) → CallFits d → step s d ≡ linked s base c o
        → Goes d (answered (less y.link) c (ran y c e))
        (carried y (less y.link) c (ran y c e))
    box-goes d fits is =
        subst (λ (l : Links). Goes d (answered (less l) c (ran y c e))
        (carried y (less l) c (ran y c e))) (sym m.links)
        (subst (λ (r : OwnOutcome). Goes d (answered (less link) c r) (carried y (less link) c r))
        (sym ran-is) (
          ap (λ (r : Outcome). r.answer) is,
          subst (λ (r : Outcome). Mirrored (carried y (less link) c o) r.next) (sym is)
              (by-answer (answered (less link) c o)
              (subst (λ (r : Outcome). form r.next ≡ true) is (kept-form d fits))),
        ))

  -- ---- the carrier does something

  -- a call that is done and leaves the site z
  done : (d : Call) (z : Site) → step s d ≡ did z → {w : Yard} → (form z ≡ true → Mirrored w z)
      → CallFits d → Goes d Answer.Done w
  done d z is {w} made fits = (
    ap (λ (r : Outcome). r.answer) is,
    subst (λ (r : Outcome). Mirrored w r.next) (sym is)
        (made (subst (λ (r : Outcome). form r.next ≡ true) is (kept-form d fits))),
  )

  -- one link is changed by g
  relinked-goes : (g : List Letter → List Letter) (a b : ℕ) → form (relinked g s a b) ≡ true
      → Mirrored (with_links y (relinked_by g y.link a b)) (relinked g s a b)
  relinked-goes g a b f = record {
    box = box;
    link = relinked_by g link a b;
    same = refl;
    mirror = record {
      form = f;
      boxes = m.boxes;
      links = ap (λ (l : Links). relinked_by g l a b) m.links;
    };
  }

  presented-goes : (w : ℕ) → form (presented s w) ≡ true
      → Mirrored (with_epoch y (risen y.epoch) w y.leader) (presented s w)
  unfolding presented
  presented-goes w f = record {
    box = box;
    link = link;
    same = refl;
    mirror = record {
      form = f;
      boxes = λ b h. record {
        right = (m.boxes b h).right;
        old = omega (arith, (m.boxes b h).old, risen-le y.epoch);
        rests = (m.boxes b h).rests;
        told = λ ev. absurd (both-no ev (odd-risen y.epoch));
        due = λ ev. absurd (both-no ev (odd-risen y.epoch));
      };
      links = m.links;
    };
  }

  elected-goes : (c : ℕ) → form (elect s c) ≡ true
      → Mirrored (with_links (with_epoch y (y.epoch + 1) y.present c) (λ a b. [])) (elect s c)
  unfolding elect elected
  elected-goes c f = record {
    box = (elect s c).box;
    link = λ a b. [];
    same = refl;
    mirror = record {
      form = f;
      boxes = λ b h. record {
        right = (m.boxes b h).right;
        old = omega (arith, (m.boxes b h).old);
        rests = rw (box-is h) (m.boxes b h).rests;
        told = λ ev e. absurd (omega (arith, (m.boxes b h).old, e));
        due = λ ev ne. rw (box-is h)
            (ap (elected_box (now y b) c) (m.boxes b h).rests);
      };
      links = refl;
    };
  }

  -- the head of a link, as the site has it
  stands : {a b : ℕ} {x : Letter} (h : Head y a b x) → link a b ≡ x ∷ h.behind
  stands {a} {b} h = ap (λ (l : Links). l a b) (sym m.links) ∙ h.stands

  some : {a b : ℕ} {x : Letter} → Head y a b x → not (eqb (length (link a b)) 0) ≡ true
  some {x = x} h =
      rw (stands h) (ap not (ne_eqb (length (x ∷ h.behind)) 0 (λ e. omega (arith, e))))

  counted : {c : ℕ} → Counted y c → ltb y.epoch most_epoch ≡ true
  counted h = lt-ltb _ _ h.epoch

  -- ---- whatever happens

  act-fits : (c : ℕ) (a : Act) → ActFits a → CallFits (call_of c a)
  act-fits c Act.Recover h = tt
  act-fits c Act.Collect h = tt
  act-fits c Act.Ready h = tt
  act-fits c (Act.Offer l r) h = h
  act-fits c Act.Propose h = tt
  act-fits c Act.Agree h = tt
  act-fits c Act.Finish h = tt
  act-fits c Act.Heard h = tt
  act-fits c (Act.Trim k) h = tt

  pub goes : {d : Call} {a : Answer} {z : Yard} → Happens y d a z → Goes d a z
  unfolding step
  goes (acts c a t fits) =
      box-goes c t (own a) (λ l. l) (call_of c a) (act-fits c a fits)
      (OwnStep.acts s m.form c a t.box)
  goes (hands a b x t h) =
      box-goes b t (mail a x) (λ l. relinked_by tail l a b) (Call.Deliver a b) tt
      (OwnStep.delivers s m.form a b x h.behind h.link (stands h))
  goes (brings (loses a b x h)) =
      done (Call.Lose a b) (popped s a b)
      (ruled-met _ _ _ (m.form, (h.link, (some h, tt)))) (relinked-goes tail a b) tt
  goes (brings (repeats a b x h room)) =
      done (Call.Repeat a b) (doubled s a b)
      (ruled-met _ _ _ (
        m.form,
        (
          h.link,
          (
            some h,
            (
              subst (λ (l : Links). ltb (length (l a b)) y.L ≡ true) m.links
                  (lt-ltb _ _ room),
              tt,
            ),
          ),
        ),
      ))
      (relinked-goes twice a b) tt
  goes (brings (stops c h here)) =
      done (Call.Stop c) (presented s (without y.present c))
      (ruled-met _ _ _ (m.form, (box-is h.box, (here, (counted h, tt)))))
      (presented-goes _) tt
  goes (brings (returns c h gone)) =
      done (Call.Return c) (presented s (joined y.present c))
      (ruled-met _ _ _ (m.form, (box-is h.box, (rw gone refl, (counted h, tt)))))
      (presented-goes _) tt
  goes (brings (times_out c h here ev)) =
      done (Call.Timeout c) (presented s y.present)
      (ruled-met _ _ _ (m.form, (box-is h.box, (here, (ev, (counted h, tt))))))
      (presented-goes _) tt
  goes (brings (elects c h)) =
      done (Call.Elect c) (elect s c)
      (ruled-met _ _ _
      (m.form, (box-is h.box, (rw h.due refl, (h.here, (le-leb _ _ h.majority, tt))))))
      (elected-goes c) tt

  pub told-goes : (b : ℕ) → Tells y b → Mirrored (with_alone y b (told_of y b)) s
  unfolding elected
  told-goes b t =
      let h = told-done (now y b) (y.box b).row y.leader t.heard in
      record {
        box = box;
        link = link;
        same = refl;
        mirror = record {
          form = m.form;
          boxes =
              upd-all (λ i x. In i y.n → Follows (now y i) y.leader x (box i)) y.box b
              (λ i. let same = h.1 ∙ (m.boxes b i).due h.0 t.untold.once in record {
                right = (
                  epoch-form s m.form,
                  (form-says m.form).present,
                  subst (λ (x : Box). form_box y.n y.J b x ≡ true) (sym same)
                      (box-form s m.form b i),
                );
                old = omega arith;
                rests = ap rest h.1 ∙ (m.boxes b i).rests;
                told = λ e f. (refl, same);
                due = λ e f. absurd (f refl);
              })
              m.boxes;
          links = m.links;
        };
      }

  -- what is right of a box that waits
  abbrev Waiting : ℕ → ℕ → ℕ → Type 0
  Waiting b e w =
      (within 1 most_epoch e ≡ true) × (set_form y.n w ≡ true) × (e ≤ y.epoch)
      × (even y.epoch ≡ true → e ≡ y.epoch → ⊥)
      × (even y.epoch ≡ true → (y.box b).epoch ≡ y.epoch → ⊥)

  right-waiting : {b e w : ℕ} → In b y.n → Waits y b e w → Waiting b e w
  right-waiting i (switched_on idle) = (
    refl,
    set_full y.n,
    (form-says m.form).some-epoch,
    λ ev same. both-no (subst (λ (k : ℕ). even k ≡ true) (sym same) ev) refl,
    idle,
  )
  right-waiting {b} i (over e odd later past) = (
    and_both (le-leb 1 e (omega (arith, later)))
        (le-leb e most_epoch (omega (arith, past, (form-says m.form).few_epochs))),
    (m.boxes b i).right.1,
    past,
    λ ev same. both-no (subst (λ (k : ℕ). even k ≡ true) (sym same) ev) odd,
    λ ev same. omega (arith, later, past, same),
  )

  pub waits-goes : (b e w : ℕ) → In b y.n → Waits y b e w
      → Mirrored (with_alone y b (waiting y b e w)) s
  waits-goes b e w i t =
      let k = right-waiting i t in
      record {
        box = box;
        link = link;
        same = refl;
        mirror = record {
          form = m.form;
          boxes =
              upd-all (λ i x. In i y.n → Follows (now y i) y.leader x (box i)) y.box b
              (λ i. let h = m.boxes b i in record {
                right = (k.0, k.1, h.right.2);
                old = k.2;
                rests = h.rests;
                told = λ ev same. absurd (k.3 ev same);
                due = λ ev ne. h.due ev (k.4 ev);
              })
              m.boxes;
          links = m.links;
        };
      }

-- ---- from the beginning

module _ (n J L : ℕ) (sizes : sizes_form n J L ≡ true) where
  pub lived : {calls : List Call} {y : Yard} → Lived n J L calls y
      → Mirrored y (run (fresh n J L) calls)
  unfolding run begun fresh
  lived began = record {
    box = λ b. fresh_box;
    link = λ a b. [];
    same = refl;
    mirror = record {
      form = fresh-form n J L sizes;
      boxes = λ b h. record {
        right = let f = fresh-form n J L sizes in
            (refl, (form-says f).present, box-form (fresh n J L) f b h);
        old = omega arith;
        rests = refl;
        told = λ ev. absurd (both-no ev refl);
        due = λ ev. absurd (both-no ev refl);
      };
      links = refl;
    };
  }
  lived (then {y = y} {z = z} {d = d} l h) =
      let r = lived l in
      subst (λ (s : Site). Mirrored z (step s d).next) (sym r.same)
      (goes y r.box r.link r.mirror h).1
  lived (told {y = y} b l t) =
      let r = lived l in
      subst (Mirrored (with_alone y b (told_of y b))) (sym r.same)
      (told-goes y r.box r.link r.mirror b t)
  lived (waits {y = y} b e w l i t) =
      let r = lived l in
      subst (Mirrored (with_alone y b (waiting y b e w))) (sym r.same)
      (waits-goes y r.box r.link r.mirror b e w i t)

  pub same_answer : {calls : List Call} {y z : Yard} {d : Call} {a : Answer} → Lived n J L calls y
      → Happens y d a z → (step (run (fresh n J L) calls) d).answer ≡ a
  same_answer {y = y} {d = d} l h =
      let r = lived l in
      ap (λ (s : Site). (step s d).answer) r.same ∙ (goes y r.box r.link r.mirror h).0

  pub same-n : {calls : List Call} {y : Yard} → Lived n J L calls y → y.n ≡ n
  unfolding fresh
  same-n {calls} l =
      ap (λ (s : Site). s.n) (sym (lived l).same) ∙ (sizes_run (fresh n J L) calls).n
