-- Two boxes of one site never differ: demand 3 says so of each number that both keep.
use Prim.Native.Nat.{ℕ, ◌<◌}
use mathlib.Core.Path.{◌≡◌, refl, sym, ap, ◌∙◌, subst}
use mathlib.Core.Bool.{true}
use mathlib.Core.List.{List, [], ◌∷◌, ◌++◌}
use native.Mathlib.Omega.{arith}
use lib.ListN.{length, get_or}
use Rattle.rules.specs.Sizes.{most_boxes}
use Rattle.rules.specs.Pick.{pick_true}
use Rattle.rules.specs.Site.{Site, is_box}
use Rattle.rules.specs.Step.{run}
use Rattle.rules.specs.declared.model.Call.{Call}
use Rattle.laws.proofs.FormLaws.{box-is}
use Rattle.memory.specs.Memory.{n_at, site_of, memory_form}
use Rattle.safety.specs.Demand3.{In, start}
use Rattle.safety.specs.Demand3 as model
use Rattle.safety.proofs.Demand.{demand_3}
use Rattle.safety.proofs.Safe.{same-n}
use Rattle.said.specs.Said.{Talk, called, held, calls}
use Rattle.said.proofs.Past.{in-range, run_is}
use Rattle.engine_safety.specs.Served.{Served, firsts_in}
use Rattle.engine_safety.proofs.Filed.{Holds, holds-run}
use Rattle.longer.specs.Longer.{longer_of}
use Rattle.longer.specs.declared.Which.{Which}
use Rattle.agreed.specs.Agreed.{agreed_records, box_at, agreed_in, agreed_on, records_on}
use Rattle.std.specs.Prelude.{Ok}
use Rattle.agreed.proofs.PlaceLaws.{records-on}
use Rattle.longer_safety.specs.NeverDiffers as specs
use Rattle.longer_safety.specs.NeverDiffers.{longer_from, longer_of_boxes, longer_of_words}
use Rattle.longer_safety.proofs.Lists.{never, whole_lists, some_record}

-- ---- the model

module _ (n J L : ℕ) (size : In n most_boxes) (calls : List Call) (b d : ℕ) (b-in : In b n)
    (d-in : In d n) where
  later : (further : List Call)
      → longer_of_boxes ((run (start n J L) calls).box b)
      ((run (start n J L) (further ++ calls)).box d)
      ≡ Which.Differs → ⊥
  later further =
      never ((run (start n J L) calls).box b) ((run (start n J L) (further ++ calls)).box d)
      (λ k p q. sym (demand_3.over-time n J L size calls further b d k b-in d-in p q))

  same : ((run (start n J L) calls).box b).head.kept.first
      ≡ ((run (start n J L) calls).box d).head.kept.first
      → longer_of (agreed_records ((run (start n J L) calls).box b))
      (agreed_records ((run (start n J L) calls).box d))
      ≡ Which.Differs → ⊥
  same e differs =
      later []
      (whole_lists ((run (start n J L) calls).box b) ((run (start n J L) calls).box d) e ∙ differs)

-- ---- words

-- the words hold the boxes of a run, and what is handed out of them is theirs
record Stands (n J L : ℕ) (xs ls : List ℕ) (calls : List Call) : Type 0 where
  size : In n most_boxes
  boxes : (b : ℕ) → box_at xs ls b ≡ (run (start n J L) calls).box b
  handed : (b : ℕ) → In b n → records_on xs ls b ≡ agreed_records ((run (start n J L) calls).box b)
  form : memory_form xs ls ≡ true
  is-box : (b : ℕ) → In b n → is_box (get_or xs n_at 0) b ≡ true

stands : {n J L : ℕ} {h : Talk} {xs ls : List ℕ} → Holds n J L h xs ls
    → Stands n J L xs ls (calls h)
unfolding site_of
stands {n} {J} {L} {h} {xs} {ls} w =
    let size = in-range w.said in
    let at = run_is w.said in
    let n-is : get_or xs n_at 0 ≡ n = ap (λ (s : Site). s.n) at ∙ same-n n J L size (calls h) in
    let boxes : (b : ℕ) → box_at xs ls b ≡ (run (start n J L) (calls h)).box b =
    λ b. ap (λ (s : Site). s.box b) at in
    let a-box : (b : ℕ) → In b n → is_box (get_or xs n_at 0) b ≡ true =
    λ b i. subst (λ m. is_box m b ≡ true) (sym n-is) (box-is i) in
    record {
      size = size;
      boxes = boxes;
      handed = λ b i. records-on xs ls b w.form (a-box b i) ∙ ap agreed_records (boxes b);
      form = w.form;
      is-box = a-box;
    }

calls-more : (g h : Talk) → calls (g ++ h) ≡ calls g ++ calls h
calls-more [] h = refl
calls-more (called d a ∷ g) h = ap (λ (ds : List Call). d ∷ ds) (calls-more g h)
calls-more (held b k l r a ∷ g) h = calls-more g h

-- the words xs and ls after some calls, and xs' and ls' after those and further ones
module _ {n J L : ℕ} {xs ls xs' ls' : List ℕ} {earlier : List Call} (further : List Call)
    (p : Stands n J L xs ls earlier) (q : Stands n J L xs' ls' (further ++ earlier)) (b d : ℕ)
    (b-in : In b n) (d-in : In d n) where
  as_boxes : longer_of_words xs ls b xs' ls' d
      ≡ longer_of_boxes ((run (start n J L) earlier).box b)
      ((run (start n J L) (further ++ earlier)).box d)
  as_boxes i =
      longer_from
      (p.boxes b i).head.kept.first (q.boxes d i).head.kept.first
      (p.handed b b-in i) (q.handed d d-in i)

  words-never : longer_of_words xs ls b xs' ls' d ≡ Which.Differs → ⊥
  words-never e = later n J L p.size earlier b d b-in d-in further (sym as_boxes ∙ e)

at-two : {n J L : ℕ} (g : Talk) {h : Talk} {xs ls xs' ls' : List ℕ}
    → Served n J L h xs ls → Served n J L (g ++ h) xs' ls' → (b d : ℕ) → In b n → In d n
    → longer_of_words xs ls b xs' ls' d ≡ Which.Differs → ⊥
at-two {n} {J} {L} g {h} {xs' = xs'} {ls' = ls'} p q =
    words-never (calls g) (stands (holds-run p))
    (subst (Stands n J L xs' ls') (calls-more g h) (stands (holds-run q)))

named-first : {n J L : ℕ} {xs ls : List ℕ} {calls : List Call} → Stands n J L xs ls calls → (b : ℕ)
    → In b n → (at : ℕ) × (count : ℕ)
    × (agreed_on xs ls b ≡ Ok (record { first = firsts_in xs ls b; place = at; count = count }))
unfolding agreed_on agreed_in
named-first {xs} {ls} p b i =
    (_, _, pick_true _ _ _ p.form ∙ pick_true _ _ _ (p.is-box b i))

-- ---- not empty

two : In 2 most_boxes
two = (omega arith, omega arith)

some : (calls : List Call) (b : ℕ) → In b 2 → model.Agreed ((run (start 2 16 8) calls).box b) 1
    → 0 < length (agreed_records ((run (start 2 16 8) calls).box b))
some calls b i a =
    let after = demand_3.after_run 2 16 8 two calls in
    let kept = after.kept-range b i in
    some_record ((run (start 2 16 8) calls).box b) a (omega arith) (after.no_hole b 1 i a).0

pub never-differs : specs.NeverDiffers
never-differs = record {
  after_run = λ n J L size calls b d i j. later n J L size calls b d i j [];
  same_first = same;
  over-time = λ n J L size calls further b d i j. later n J L size calls b d i j further;
  of_words = λ served b d i j. at-two [] served served b d i j;
  words-over-time = at-two;
  named = λ served b i. named-first (stands (holds-run served)) b i;
  not-empty = let e = demand_3.not-empty in (
    e.0,
    some e.0 1 (omega arith, omega arith) e.1,
    some e.0 2 (omega arith, omega arith) e.2,
  );
}
