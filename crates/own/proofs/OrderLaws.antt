-- What comes before the turn, in the order of the refusals: 13, 1 and 2.
use mathlib.Core.Path.{◌≡◌, refl, sym, ap}
use mathlib.Core.Bool.{Bool, true, false, not, ◌&&◌, ◌||◌, cond}
use mathlib.Core.List.{List, [], ◌∷◌}
use Prim.Native.Nat.{ℕ}
use Rattle.rules.specs.Sizes.{most_epoch, within, sizes_form}
use Rattle.rules.specs.Sets.{set_form}
use Rattle.rules.specs.Needs.{Need, ruled}
use Rattle.rules.specs.Box.{Box, Event, own, turn_of, brought}
use Rattle.rules.specs.Site.{is_box}
use Rattle.rules.specs.Own.{unmoved, own_turn, form_own, right_numbers, own_step, quiet_needs}
use Rattle.rules.specs.Unheard.{unheard_by, own_unheard}
use Rattle.laws.proofs.Types.{Act, Answer, Refusal, Setting}
use Rattle.laws.proofs.Logic.{Passed, true≠false, and4}
use Rattle.laws.proofs.StepLaws.{mets, by_needs}
use Rattle.std.specs.Prelude.{⊤, Result, Ok, Err}
use Rattle.own.specs.Entry.{own_box, row_reads, if_read, own_on, unheard_on, buffered}
use Rattle.own.specs.Lent.{row_test, place_test, in_order, judged, passed}
use Rattle.own.proofs.FormLaws.{Asks, act-asks}

-- what comes of it: a refusal, or a
abbrev pub by {ℓ} : {A : Type ℓ} → (Refusal → A) → A → Result ⊤ Refusal → A
by refuse a (Ok tt) = a
by refuse a (Err why) = refuse why

-- Every need is met where none refuses.
all-met : (ks : List Need) → ruled Err ks passed ≡ passed
    → Passed (mets ks)
all-met ks =
    by_needs (λ v. v ≡ passed → Passed (mets ks)) Err ks passed
    (λ why e. absurd (true≠false (sym (ap (by (λ w. false) true) e))))
    (λ p e. p)

-- What refuses is what is judged.
one-more {ℓ} : {A : Type ℓ} (refuse : Refusal → A) (a more : A) (rest : Result ⊤ Refusal)
    (why : Refusal)
    (met : Bool) → more ≡ by refuse a rest
    → cond met more (refuse why) ≡ by refuse a (cond met rest (Err why))
one-more refuse a more rest why true e = e
one-more refuse a more rest why false e = refl

pub judged-by {ℓ} : {A : Type ℓ} (refuse : Refusal → A) (a : A) (ks : List Need)
    → ruled refuse ks a ≡ by refuse a (ruled Err ks passed)
unfolding ruled
judged-by refuse a [] = refl
judged-by refuse a (k ∷ ks) =
    one-more refuse a (ruled refuse ks a) (ruled Err ks passed) k.why k.met
    (judged-by refuse a ks)

-- Words that cannot be read are not by form; sizes come first.
module _ {ℓ κ} {A : Type ℓ} {B : Type κ} (f : A → B) (refuse : Refusal → A) (a : A) where
  first_found : (sizes reads form numbers : Bool)
      → cond (reads || not sizes) (f (ruled refuse (in_order sizes form numbers) a))
      (f (refuse Refusal.Form))
      ≡ by (λ why. f (refuse why)) (f a)
      (ruled Err (in_order sizes (reads && form) numbers) passed)
  unfolding ruled
  first_found false true form numbers = refl
  first_found false false form numbers = refl
  first_found true false form numbers = refl
  first_found true true false numbers = refl
  first_found true true true false = refl
  first_found true true true true = refl

-- nothing is found before the event e: the turn is next
pub record Clear (s : Setting) (r p : List ℕ) (mailed : Bool) (e : Event) (reads : Bool) : Type 0
  where
    pub sizes : sizes_form s.n s.j s.l ≡ true
    pub present : set_form s.n s.present ≡ true
    pub row : row_test s r ≡ true
    pub letter : (not mailed || place_test s p) ≡ true
    pub numbers : right_numbers s e ≡ true
    pub next : (out : List ℕ) → own_on s (own_box s r) reads e out
        ≡ buffered s (own_box s r) out (own_turn (turn_of s (own_box s r) e).answer (own_box s r)
        (turn_of s (own_box s r) e) (brought e))

module _ {s : Setting} {r p : List ℕ} {mailed : Bool} {e : Event} {reads : Bool}
    (asks : Asks s r p mailed e reads) where
  abbrev x : Box
  x = own_box s r

  abbrev pub found : Result ⊤ Refusal
  found = judged s r p mailed (right_numbers s e)

  pub own-found : {v : Result ⊤ Refusal} → found ≡ v → (out : List ℕ) → own_on s x reads e out
      ≡ by (λ why. unmoved x (Answer.Refused why))
      (buffered s x out (own_turn (turn_of s x e).answer x (turn_of s x e) (brought e)))
      v
  unfolding judged own_on buffered own_step
  own-found h out =
      rw (← h, asks.form)
      (first_found (buffered s x out) (λ why. unmoved x (Answer.Refused why)) _
      (sizes_form s.n s.j s.l) reads (form_own s x e) (right_numbers s e))

  pub clear : found ≡ passed → Clear s r p mailed e reads
  unfolding judged
  clear h =
      let t = all-met _ h in
      let f = and4 (within 1 most_epoch s.epoch) _ (row_test s r) _ t.1.0 in
      record {
        sizes = t.0;
        present = f.1;
        row = f.2;
        letter = f.3;
        numbers = t.1.1.0;
        next = own-found h;
      }

-- None of these is found before what sends nothing.
pub asked : (s : Setting) (r p : List ℕ) (numbers : Bool)
    → judged s r p false numbers ≡ passed
    → (sizes_form s.n s.j s.l ≡ true) × (row_test s r ≡ true) × (numbers ≡ true)
unfolding judged
asked s r p numbers h =
    let t = all-met _ h in
    (t.0, (and4 (within 1 most_epoch s.epoch) _ (row_test s r) _ t.1.0).2, t.1.1.0)

-- What a box is told or asked that sends nothing, after the same; `more` is needed then.
module _ {ℓ} {A : Type ℓ} (refuse : Refusal → A) (s : Setting) (r p : List ℕ) (numbers : Bool)
    (more : List Need) (a : A) where
  pub told-found : {v : Result ⊤ Refusal} → judged s r p false numbers ≡ v
      → by refuse (ruled refuse more a) v
      ≡ if_read s (row_reads s.j r) (ruled refuse (quiet_needs s (own_box s r) numbers more) a)
      (refuse Refusal.Form)
  unfolding judged ruled
  told-found h =
      rw (← h, (act-asks s r p Act.Recover).form)
      (sym (first_found (λ u. u) refuse (ruled refuse more a)
      (sizes_form s.n s.j s.l) (row_reads s.j r)
      (form_own s (own_box s r) (own Act.Recover)) numbers))

-- Which present boxes have not answered its lease.
pub unheard-found : (s : Setting) (r p : List ℕ) {v : Result ⊤ Refusal}
    → judged s r p false (is_box s.n s.me) ≡ v
    → by Err (unheard_by (own_box s r).head s) v ≡ unheard_on s r
unfolding unheard_on own_unheard ruled
unheard-found s r p h =
    told-found Err s r p (is_box s.n s.me) [] (unheard_by (own_box s r).head s) h
