-- What the form of a box's words says, and of a row: the words first, then the records.
use mathlib.Core.Path.{◌≡◌, refl, sym, ap, ◌∙◌}
use mathlib.Core.Bool.{Bool, true, false, ◌&&◌, ◌||◌}
use mathlib.Core.List.{List, [], ◌∷◌}
use Prim.Native.Nat.{ℕ, ◌+◌, ◌≤◌}
use native.Mathlib.Omega.{arith}
use borrow.Author.Tests.{leb-true, eqb-true, le-leb}
use lib.Dec.{eqb, ltb}
use lib.ListN.{length, get_or}
use Rattle.words.proofs.PartLaws.{length_part}
use Rattle.rules.specs.Every.{all, each, every}
use Rattle.rules.specs.Sizes.{most_boxes, most_number, most_pn, proper, record_form}
use Rattle.rules.specs.Sets.{set_form}
use Rattle.rules.specs.Form.{first_form, count_form, peer_form, form_box}
use Rattle.index.specs.Index.{index_form}
use Rattle.index.specs.Lent.{Indexed}
use Rattle.index.proofs.FormLaws.{form-indexed, indexed-form}
use Rattle.values.specs.Counts.{held_count}
use Rattle.values.specs.Faults.{is_whole}
use Rattle.std.specs.Prelude.{None}
use Rattle.values.proofs.AllLaws.{all-at}
use Rattle.values.proofs.FaultLaws.{then-passed, passed_then}
use Rattle.rules.proofs.BoundLaws.{first-of}
use Rattle.values.proofs.CountLaws.{first_says, held-room, held-form, either-of}
use Rattle.values.proofs.SetLaws.{set-fits}
use Rattle.row.specs.Row.{head_of, box_of, row_fits, row_form, head_words, most_state, most_phase}
use Rattle.row.specs.Row.{flag_at, state_at, phase_at, pn_at, last_at, first_at, stored_pn_at}
use Rattle.row.specs.Row.{stored_number_at, best_pn_at, best_number_at, answered_at, accepts_at}
use Rattle.row.specs.Row.{heard_at, best_at, waiting_at, agreeing_at, count_at}
use Rattle.row.specs.Row.{agreed_of, index_of}
use Rattle.row.specs.Lent.{RowSized, RowReadable, RowBooked, Numbered, records_of}
use Rattle.row.specs.Faults.{number_tests, value_tests, peer_tests, count_test, head_fault}
use Rattle.row.proofs.PeerLaws.{every-says, every-five, peer-fits}

-- A first, a last and a count by form.
pub numbered : (J first last count : ℕ) → first_form first last ≡ true → last ≤ most_number
    → count_form J first last count ≡ true → Numbered first last count
unfolding count_form
numbered J first last count f l c =
    let says = first_says first last f in
    let sum = first-of (eqb (first + count) (last + 1)
    || (eqb (first + count) (last + 2) && ltb last most_number)) _ c in
    record {
      one = says.0;
      order = says.1;
      most = l;
      held = either-of (eqb (first + count) (last + 1)) _ sum
          (λ t. omega (arith, eqb-true (first + count) (last + 1) t))
          (λ t. omega (
            arith,
            eqb-true (first + count) (last + 2) (first-of (eqb (first + count) (last + 2)) _ t),
          ));
    }

-- every peer of the words of box b is by form
abbrev pub peers_fit : ℕ → ℕ → List ℕ → Bool
peers_fit n b w = every most_boxes (peer_form n b (head_of n w).peers)

-- what the words say where no field is amiss
pub record HeadSays (n J b : ℕ) (w : List ℕ) : Type 0 where
  pub flag : get_or w flag_at 0 ≤ 1
  pub state : get_or w state_at 0 ≤ most_state
  pub phase : get_or w phase_at 0 ≤ most_phase
  pub pn : get_or w pn_at 0 ≤ most_pn
  pub last : get_or w last_at 0 ≤ most_number
  pub first : first_form (get_or w first_at 0) (get_or w last_at 0) ≡ true
  pub stored-pn : get_or w stored_pn_at 0 ≤ most_pn
  pub stored-number : get_or w stored_number_at 0 ≤ most_number
  pub best-pn : get_or w best_pn_at 0 ≤ most_pn
  pub best-number : get_or w best_number_at 0 ≤ most_number
  pub answered : set_form n (get_or w answered_at 0) ≡ true
  pub accepts : set_form n (get_or w accepts_at 0) ≡ true
  pub heard : set_form n (get_or w heard_at 0) ≡ true
  pub best : record_form (get_or w best_at 0) ≡ true
  pub waiting : record_form (get_or w waiting_at 0) ≡ true
  pub agreeing : record_form (get_or w agreeing_at 0) ≡ true
  pub peers : peers_fit n b w ≡ true
  pub counted : count_form J (get_or w first_at 0) (get_or w last_at 0) (get_or w count_at 0) ≡ true
  pub count : get_or w count_at 0 ≤ J

-- what is held is what the paper says, of words in their ranges
module _ (w : List ℕ) (J : ℕ) (first : first_form (get_or w first_at 0) (get_or w last_at 0) ≡ true)
    (last : get_or w last_at 0 ≤ most_number) where
  held-is : held_count J (get_or w first_at 0) (get_or w last_at 0) (get_or w count_at 0)
      ≡ count_form J (get_or w first_at 0) (get_or w last_at 0) (get_or w count_at 0)
  held-is =
      held-form J (get_or w first_at 0) (get_or w last_at 0) (get_or w count_at 0) last
      (first_says (get_or w first_at 0) (get_or w last_at 0) first).1

module _ (n J b : ℕ) (w : List ℕ) where
  pub head-says : head_fault n J b w ≡ None → HeadSays n J b w
  unfolding head_fault
  head-says e =
      let one = then-passed (number_tests w) _ e in
      let two = then-passed (value_tests n w) _ one.1 in
      let three = then-passed (peer_tests n b w) _ two.1 in
      let four = then-passed (count_test J w) _ three.1 in
      let counted = all-at 0 _ four.0 in
      let last = leb-true _ _ (all-at 4 _ one.0) in
      let first = all-at 5 _ one.0 in
      record {
        flag = leb-true _ _ (all-at 0 _ one.0);
        state = leb-true _ _ (all-at 1 _ one.0);
        phase = leb-true _ _ (all-at 2 _ one.0);
        pn = leb-true _ _ (all-at 3 _ one.0);
        last = last;
        first = first;
        stored-pn = leb-true _ _ (all-at 6 _ one.0);
        stored-number = leb-true _ _ (all-at 7 _ one.0);
        best-pn = leb-true _ _ (all-at 8 _ one.0);
        best-number = leb-true _ _ (all-at 9 _ one.0);
        answered = all-at 0 _ two.0;
        accepts = all-at 1 _ two.0;
        heard = all-at 2 _ two.0;
        best = all-at 3 _ two.0;
        waiting = all-at 4 _ two.0;
        agreeing = all-at 5 _ two.0;
        peers = sym (every-five (peer_form n b (head_of n w).peers)) ∙ five three.0;
        counted = sym (held-is w J first last) ∙ counted;
        count = held-room J (get_or w first_at 0) (get_or w last_at 0)
            (get_or w count_at 0) counted;
      }
    where
      five : all (peer_form n b (head_of n w).peers 1
          ∷ peer_form n b (head_of n w).peers 2
          ∷ peer_form n b (head_of n w).peers 3
          ∷ peer_form n b (head_of n w).peers 4
          ∷ peer_form n b (head_of n w).peers 5
          ∷ []) ≡ true
          → (peer_form n b (head_of n w).peers 5 && peer_form n b (head_of n w).peers 4
          && peer_form n b (head_of n w).peers 3 && peer_form n b (head_of n w).peers 2
          && peer_form n b (head_of n w).peers 1) ≡ true
      five t = rw (all-at 0 _ t, all-at 1 _ t, all-at 2 _ t, all-at 3 _ t, all-at 4 _ t)

  pub head-whole : HeadSays n J b w → head_fault n J b w ≡ None
  unfolding head_fault all
  head-whole h =
      passed_then (number_tests w)
      (rw (
        le-leb _ _ h.flag,
        le-leb _ _ h.state,
        le-leb _ _ h.phase,
        le-leb _ _ h.pn,
        le-leb _ _ h.last,
        h.first,
        le-leb _ _ h.stored-pn,
        le-leb _ _ h.stored-number,
        le-leb _ _ h.best-pn,
        le-leb _ _ h.best-number,
      ))
      (passed_then (value_tests n w)
      (rw (h.answered, h.accepts, h.heard, h.best, h.waiting, h.agreeing))
      (passed_then (peer_tests n b w)
      (rw (
        peer 1 (omega arith) (omega arith),
        peer 2 (omega arith) (omega arith),
        peer 3 (omega arith) (omega arith),
        peer 4 (omega arith) (omega arith),
        peer 5 (omega arith) (omega arith),
      ))
      (passed_then (count_test J w) (rw (held-is w J h.first h.last, h.counted)) refl)))
    where
      peer : (k : ℕ) → 1 ≤ k → k ≤ most_boxes → peer_form n b (head_of n w).peers k ≡ true
      peer k low top = every-says most_boxes _ k h.peers low top

-- ---- a row

-- What a row shows where it fits.
pub fits-says : (J : ℕ) (r : List ℕ) → row_fits J r ≡ true
    → (get_or r flag_at 0 ≤ 1) × (get_or r state_at 0 ≤ most_state)
    × (get_or r phase_at 0 ≤ most_phase) × (get_or r count_at 0 ≤ J)
    × Indexed 0 (get_or r first_at 0) (agreed_of r) (index_of J r)
unfolding row_fits
fits-says J r e = (
  leb-true _ _ (all-at 0 _ e),
  leb-true _ _ (all-at 1 _ e),
  leb-true _ _ (all-at 2 _ e),
  leb-true _ _ (all-at 3 _ e),
  form-indexed _ _ _ (all-at 4 _ e),
)

-- .. and where it fits.
pub says-fits : (J : ℕ) (r : List ℕ) → get_or r flag_at 0 ≤ 1 → get_or r state_at 0 ≤ most_state
    → get_or r phase_at 0 ≤ most_phase → get_or r count_at 0 ≤ J
    → Indexed 0 (get_or r first_at 0) (agreed_of r) (index_of J r) → row_fits J r ≡ true
unfolding row_fits all
says-fits J r f s p c h =
    rw (le-leb _ _ f, le-leb _ _ s, le-leb _ _ p, le-leb _ _ c, indexed-form _ _ _ h)

-- How many records a row holds whose count has room.
pub count_held : (n J : ℕ) (r : List ℕ) → RowSized n J r → get_or r count_at 0 ≤ J
    → length (records_of r) ≡ get_or r count_at 0
count_held n J r z h = length_part head_words (get_or r count_at 0) r (omega (arith, z.words))

-- A row whose words say so can be read.
pub readable : (n J b : ℕ) (r : List ℕ) → RowSized n J r → HeadSays n J b r → RowReadable n r
readable n J b r z g = record {
  room = omega (arith, z.words, g.count);
  pn = omega (arith, g.pn);
  last = omega (arith, g.last);
  first = omega (arith, g.last, (first_says (get_or r first_at 0) (get_or r last_at 0) g.first).1);
  stored-pn = omega (arith, g.stored-pn);
  stored-number = omega (arith, g.stored-number);
  best-pn = omega (arith, g.best-pn);
  best-number = omega (arith, g.best-number);
  answered = set-fits n (get_or r answered_at 0) z.boxes g.answered;
  accepts = set-fits n (get_or r accepts_at 0) z.boxes g.accepts;
  heard = set-fits n (get_or r heard_at 0) z.boxes g.heard;
  peers = λ k a i.
      let m : k ≤ most_boxes = omega (arith, z.boxes) in
      peer-fits n b r k a m i (every-says most_boxes _ k g.peers a m);
}

-- .. as a book with its index.
pub booked : (n J b : ℕ) (r : List ℕ) → RowSized n J r → HeadSays n J b r → RowBooked J r
booked n J b r z g = record {
  words = z.words;
  loads = z.loads;
  count = g.count;
  numbers = numbered J (get_or r first_at 0) (get_or r last_at 0)
      (get_or r count_at 0) g.first g.last
      g.counted;
}

-- What the form of a row says.
pub record RowFormed (n J b : ℕ) (r : List ℕ) : Type 0 where
  pub fits : row_fits J r ≡ true
  pub box : form_box n J b (box_of n r) ≡ true
  pub proper : each proper (records_of r) ≡ true
  pub whole : head_fault n J b r ≡ None
  pub says : HeadSays n J b r
  pub readable : RowReadable n r
  pub booked : RowBooked J r
  pub indexed : Indexed 0 (get_or r first_at 0) (agreed_of r) (index_of J r)

module _ (n J b : ℕ) (r : List ℕ) (z : RowSized n J r) where
  pub formed : row_form n J b r ≡ true → RowFormed n J b r
  unfolding row_form row_fits form_box
  formed e =
      let fits = all-at 0 _ e in
      let box = all-at 1 _ e in
      let count = leb-true (get_or r count_at 0) J (all-at 3 _ fits) in
      let counted = rw (count_held n J r z count) at (all-at 2 _ box) in
      let says : HeadSays n J b r = record {
        flag = leb-true _ _ (all-at 0 _ fits);
        state = leb-true _ _ (all-at 1 _ fits);
        phase = leb-true _ _ (all-at 2 _ fits);
        pn = leb-true _ _ (all-at 4 _ box);
        last = leb-true _ _ (all-at 0 _ box);
        first = all-at 1 _ box;
        stored-pn = leb-true _ _ (all-at 5 _ box);
        stored-number = leb-true _ _ (all-at 6 _ box);
        best-pn = leb-true _ _ (all-at 7 _ box);
        best-number = leb-true _ _ (all-at 8 _ box);
        answered = all-at 10 _ box;
        accepts = all-at 11 _ box;
        heard = all-at 12 _ box;
        best = all-at 9 _ box;
        waiting = all-at 13 _ box;
        agreeing = all-at 14 _ box;
        peers = all-at 16 _ box;
        counted = counted;
        count = count;
      } in
      record {
        fits = fits;
        box = box;
        proper = all-at 3 _ box;
        whole = head-whole n J b r says;
        says = says;
        readable = readable n J b r z says;
        booked = booked n J b r z says;
        indexed = form-indexed _ _ _ (all-at 4 _ fits);
      }

  -- What the code of `is_by_form` has: no word is amiss ..
  pub form-go : head_fault n J b r ≡ None
      → (each proper (records_of r) && index_form (get_or r first_at 0) (agreed_of r)
      (index_of J r))
      ≡ row_form n J b r
  unfolding row_form row_fits form_box all
  form-go e =
      let h = head-says n J b r e in
      let counted = rw (← count_held n J r z h.count) at h.counted in
      rw (
        le-leb _ _ h.flag,
        le-leb _ _ h.state,
        le-leb _ _ h.phase,
        le-leb _ _ h.count,
        le-leb _ _ h.last,
        h.first,
        counted,
        le-leb _ _ h.pn,
        le-leb _ _ h.stored-pn,
        le-leb _ _ h.stored-number,
        le-leb _ _ h.best-pn,
        le-leb _ _ h.best-number,
        h.answered,
        h.accepts,
        h.heard,
        h.best,
        h.waiting,
        h.agreeing,
        h.peers,
      )
      (both (each proper (records_of r))
      (index_form (get_or r first_at 0) (agreed_of r) (index_of J r)))
    where
      both : (x y : Bool) → (x && y) ≡ (y && true && (true && (x && true && true)))
      both true true = refl
      both true false = refl
      both false true = refl
      both false false = refl

  -- .. or one is.
  pub form-stop : is_whole (head_fault n J b r) ≡ false → false ≡ row_form n J b r
  form-stop e = go (row_form n J b r) refl
    where
      go : (t : Bool) → row_form n J b r ≡ t → false ≡ row_form n J b r
      go true f = sym e ∙ ap is_whole (formed f).whole ∙ sym f
      go false f = sym f
