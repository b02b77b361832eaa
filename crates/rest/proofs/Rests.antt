-- The step `rest` is not seen by what comes after it.
use Prim.Native.Nat.{ℕ, ◌≤◌}
use mathlib.Core.Path.{◌≡◌, refl, sym, ap, ap₂, ◌∙◌, subst}
use mathlib.Core.Bool.{true, false}
use mathlib.Core.List.{List, [], ◌∷◌}
use native.Mathlib.Omega.{arith}
use lib.ListN.{length, drop}
use Rattle.rules.specs.Sizes.{even}
use Rattle.rules.specs.Box.{Box}
use Rattle.rules.specs.Site.{Site, fresh_head, fresh, setting}
use Rattle.rules.specs.Form.{form}
use Rattle.rules.specs.Needs.{ruled}
use Rattle.rules.specs.Step.{refused, did, elect, presented, step, run}
use Rattle.rules.specs.Unheard.{unheard_by}
use Rattle.laws.proofs.Types.{Call, Refusal}
use Rattle.laws.proofs.Logic.{left, right, In, nil, both-no, cond_elim}
use Rattle.laws.proofs.SetLaws.{set-zero}
use Rattle.laws.proofs.FormLaws.{FormedBox, Formed, form-says, form-made, is-box}
use Rattle.laws.proofs.View.{Links}
use Rattle.laws.proofs.StepLaws.{by-step}
use Rattle.laws.proofs.StoreForm.{box-of, kept-part, none-form, unknown-form}
use Rattle.laws.proofs.FormKept.{step-keeps-form}
use Rattle.rest.specs.Rest.{rested_box, AtRest, rested, rest}
use Rattle.rest.specs.Rests.{AllFit, SameCall, SameAsked, SameStore, Unseen, Rests}
use Rattle.rest.proofs.Aside.{aside_of}
use Rattle.rest.proofs.Going.{Going, going_step}
use Rattle.rest.proofs.Asked.{holds-two, unheard-two, odd-unheard, aside-unheard}
use Rattle.rest.proofs.Resting.{Resting, Onward, resting-onward, resting-call}
use Rattle.rest.proofs.Seen.{seen}

-- ---- a site put at rest

pub rested-box : {n J b : ℕ} {x : Box} → FormedBox n J b x → FormedBox n J b (rested_box x)
unfolding fresh_head
rested-box {n} {J} {b} f =
    box-of (kept-part f) none-form (set-zero n) (set-zero n) (set-zero n) (left refl) (left refl)
    (unknown-form n b)

rested-formed : (s : Site) → Formed s → Formed (rested s)
unfolding rested fresh_head
rested-formed s f = record {
  sizes = f.sizes;
  some-epoch = f.some-epoch;
  few_epochs = f.few_epochs;
  present = f.present;
  boxes = λ b h. rested-box (f.boxes b h);
  one-leader = λ i j hi hj p q. absurd (both-no p refl);
  links = λ a b ha hb ab. record { room = omega arith; letters = nil };
}

pub rested-form : (s : Site) → form s ≡ true → form (rested s) ≡ true
rested-form s f = form-made (rested-formed s (form-says f))

pub rested-resting : (s : Site) → even s.epoch ≡ false → Resting s (rested s)
unfolding rested
rested-resting s odd = record {
  same = refl;
  odd = odd;
  kept = λ b h. refl;
  records = λ b h. refl;
}

at_rest : (s : Site) → even s.epoch ≡ false → AtRest (rested s)
unfolding rested
at_rest s odd = record { odd = odd; boxes = λ b h. refl; links = λ a b h. refl }

fresh-rests : (n J L : ℕ) → AtRest (fresh n J L)
unfolding fresh fresh_head
fresh-rests n J L = record { odd = refl; boxes = λ b h. refl; links = λ a b h. refl }

rest-done : (s : Site) → form s ≡ true → even s.epoch ≡ false → rest s ≡ did (rested s)
unfolding rest ruled
rest-done s f odd = rw (f, odd) refl

unformed : (s : Site) → form s ≡ false → rest s ≡ refused s Refusal.Form
unfolding rest ruled
unformed s f = rw f refl

not-due : (s : Site) → form s ≡ true → even s.epoch ≡ true
    → rest s ≡ refused s Refusal.Condition
unfolding rest ruled
not-due s f e = rw (f, e) refl

twice : (s : Site) → rested (rested s) ≡ rested s
unfolding rested
twice s = refl

-- ---- what two sites have in common

going-links : (x y : Site) → Going x y → x.link ≡ y.link
going-links x y g = sym (ap (λ (z : Site). z.link) g.same)

pub going-kept : {x y : Site} → Going x y → (b : ℕ) → In b x.n
    → (x.box b).head.kept ≡ (y.box b).head.kept
going-kept g b h = sym (ap (λ (z : Box). z.head.kept) (g.boxes b h).same)

pub going-records : {x y : Site} → Going x y → (b : ℕ) → In b x.n
    → (x.box b).records ≡ (y.box b).records
going-records g b h = sym (ap (λ (z : Box). z.records) (g.boxes b h).same)

same-form : {y z : Site} → y ≡ z → form y ≡ true → form z ≡ true
same-form e = subst (λ (z : Site). form z ≡ true) e

module _ {x y : Site} (fx : form x ≡ true) (fy : form y ≡ true) where
  module _ (r : Resting x y) where
    pub resting-store : SameStore x y
    resting-store = record {
      epoch = sym (ap (λ (z : Site). z.epoch) r.same);
      present = sym (ap (λ (z : Site). z.present) r.same);
      kept = λ b h. r.kept b (is-box h);
      records = λ b h. r.records b (is-box h);
    }

    pub resting-asked : SameAsked x y
    resting-asked = subst (SameAsked x) (sym r.same) (record {
      holds =
          holds-two x y.box y.link fx (same-form r.same fy) r.kept
          r.records;
      unheard =
          unheard-two x y.box y.link fx (same-form r.same fy)
          (λ b h. odd-unheard (x.box b).head (y.box b).head (setting x b) r.odd);
    })

  module _ (g : Going x y) where
    pub going-store : SameStore x y
    going-store = record {
      epoch = sym (ap (λ (z : Site). z.epoch) g.same);
      present = sym (ap (λ (z : Site). z.present) g.same);
      kept = λ b h. going-kept g b (is-box h);
      records = λ b h. going-records g b (is-box h);
    }

    pub going-asked : SameAsked x y
    going-asked = subst (SameAsked x) (sym g.same) (record {
      holds =
          holds-two x y.box x.link fx (same-form g.same fy) (going-kept g)
          (going-records g);
      unheard =
          unheard-two x y.box x.link fx (same-form g.same fy)
          (λ b h. let l = g.boxes b h in
          aside-unheard (x.box b).head (aside_of (y.box b).head) (setting x b) l.unread
          ∙ ap (λ (z : Box). unheard_by z.head (setting x b)) (sym l.same));
    })

    pub going-call : (d : Call) → SameCall d x y
    going-call d = let s = going_step g fx fy d in record {
      answer = s.answer;
      mail = λ a b.
          ap₂ (λ (k l : Links). drop (length (k a b)) (l a b)) (going-links x y g)
          (going-links (step x d).next (step y d).next s.going);
    }

-- ---- a run from each

-- "odd means an election is due": an epoch never falls
epoch-rises : (s : Site) (d : Call) → s.epoch ≤ (step s d).next.epoch
unfolding elect presented
epoch-rises s d =
    by-step (λ t. s.epoch ≤ t.epoch) s (omega arith)
    (λ c f e. omega arith)
    (λ w f g h. cond_elim (s.epoch ≤◌) (even s.epoch) (λ t. omega arith) (λ t. omega arith))
    (λ a b f. omega arith)
    (λ a b f h. omega arith) d
    (λ c e link w f h r. omega arith)

module _ (s : Site) (f : form s ≡ true) (odd : even s.epoch ≡ false) where
  abbrev left-run : List Call → Site
  left-run calls = run s calls

  abbrev rested-run : List Call → Site
  rested-run calls = run (rested s) calls

  record Pair (calls : List Call) : Type 0 where
    fx : form (left-run calls) ≡ true
    fy : form (rested-run calls) ≡ true
    onward : Onward s.epoch (left-run calls) (rested-run calls)

  step-onward : {x y : Site} (fx : form x ≡ true) (fy : form y ≡ true) (d : Call)
      → Onward s.epoch x y → Onward s.epoch (step x d).next (step y d).next
  step-onward {x} {y} fx fy d (left r) =
      subst (λ (e : ℕ). Onward e (step x d).next (step y d).next) r.1
      (resting-onward r.0 fx fy d)
  step-onward {x} {y} fx fy d (right g) =
      right ((going_step g.0 fx fy d).going, omega (arith, g.1, epoch-rises x d))

  pairs : (calls : List Call) → AllFit calls → Pair calls
  unfolding run
  pairs [] h = record {
    fx = f;
    fy = rested-form s f;
    onward = left (rested-resting s odd, refl);
  }
  pairs (d ∷ ds) h = let p = pairs ds h.1 in record {
    fx = step-keeps-form _ d h.0 p.fx;
    fy = step-keeps-form _ d h.0 p.fy;
    onward = step-onward p.fx p.fy d p.onward;
  }

  unseen : (calls : List Call) → AllFit calls → Unseen s calls
  unseen calls h = let p = pairs calls h in go p.fx p.fy p.onward
    where
      go : form (left-run calls) ≡ true → form (rested-run calls) ≡ true
          → Onward s.epoch (left-run calls) (rested-run calls) → Unseen s calls
      go fx fy (left r) = record {
        store = resting-store fx fy r.0;
        asked = resting-asked fx fy r.0;
        call = λ d fits e. resting-call r.0 fx fy d (e r.1);
        links = λ e. absurd (e r.1);
      }
      go fx fy (right g) = record {
        store = going-store fx fy g.0;
        asked = going-asked fx fy g.0;
        call = λ d fits e. going-call fx fy g.0 d;
        links = λ e. going-links (left-run calls) (rested-run calls) g.0;
      }

pub rests : Rests
rests = record {
  done = λ s f odd. (rest-done s f odd, at_rest s odd, rested-form s f);
  unformed = unformed;
  not-due = not-due;
  twice = twice;
  fresh-rests = fresh-rests;
  unseen = unseen;
  seen = seen;
}
