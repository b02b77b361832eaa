-- What can be told of a box from its bytes.
use mathlib.Core.Path.{◌≡◌, refl, sym, ap, ◌∙◌, subst}
use mathlib.Core.Bool.{Bool, true, false, cond}
use Prim.Native.Nat.{ℕ, ◌+◌, ◌-◌, ◌^◌, ◌≤◌, ◌<◌}
use native.Mathlib.Omega.{arith}
use mathlib.Core.List.{List, [], ◌∷◌, ◌++◌}
use lib.Dec.{leb}
use lib.ListN.{length, take, drop, get_or, get_or-append}
use lib.Seq.{take-append-le, get_or-drop}
use borrow.Author.Tests.{leb-true, leb-false}
use Rattle.words.specs.Rows.{part}
use Rattle.words.proofs.PartLaws.{gets-all}
use Rattle.rules.specs.Sizes.{most_boxes, most_loads, unknown}
use Rattle.rules.specs.Box.{Box}
use Rattle.laws.proofs.Logic.{left, right, In}
use Rattle.laws.proofs.FormLaws.{FormedBox, Peer, box-says}
use Rattle.values.proofs.SetLaws.{set-fits}
use Rattle.rules.specs.Numbers.{flag_number, state_number, phase_number}
use Rattle.row.specs.Row.{head_of, best_at, peers_at, count_at, head_words, most_state, most_phase}
use Rattle.row.proofs.NumberLaws.{flag-back, state-back, phase-back, flag_in, state_in, phase_in}
use Rattle.cells.specs.Cells.{cells, Each, All, Below}
use Rattle.cells.specs.Groups.{groups_bytes, Outside}
use Rattle.cells.proofs.ChainLaws.{each-one, each_take, each-made}
use Rattle.cells.proofs.CodeLaws.{Code}
use Rattle.image.specs.Image.{box_groups, box_words, box_body}
use Rattle.image.specs.Parts.{GoodRecord, GoodBox, SomeBox, HeadWords}
use Rattle.image.proofs.RecordLaws.{all_of, record_below}
use Rattle.image.proofs.CutLaws.{box-cut}
use Rattle.image.proofs.HeadedLaws.{Headed, headed_code}

module _ (n J b : ℕ) (boxes : n ≤ most_boxes) (x : Box) (f : FormedBox n J b x) where
  abbrev peers_of : List ℕ
  peers_of = x.head.peers

  -- Behind the three records come the five peers and the count.
  peers-words : drop peers_at (box_words x) ≡ peers_of ++ (length x.records ∷ [])
  peers-words =
      ap (λ (l : List ℕ). l ++ (length x.records ∷ [])) (gets-all 0 peers_of 5 f.places)

  peers-part : part (box_words x) peers_at n ≡ take n peers_of
  peers-part =
      let l = f.places in
      ap (take n) peers-words ∙ take-append-le n peers_of (length x.records ∷ []) (omega arith)

  -- A peer above n is unknown.
  pub peer-none : (k : ℕ) → In k most_boxes → n < k → get_or peers_of (k - 1) 0 ≡ unknown
  peer-none k h above = go (f.peers k h)
    where
      go : Peer n b k (get_or peers_of (k - 1) 0) → get_or peers_of (k - 1) 0 ≡ unknown
      go (left e) = e
      go (right e) = absurd (let m = e.0 in omega arith)

  -- So the peers are what their words say.
  peer-back : (k : ℕ) → In k most_boxes
      → cond (leb k n) (get_or peers_of (k - 1) 0) unknown ≡ get_or peers_of (k - 1) 0
  peer-back k h = go (leb k n) refl
    where
      go : (t : Bool) → leb k n ≡ t
          → cond t (get_or peers_of (k - 1) 0) unknown ≡ get_or peers_of (k - 1) 0
      go true e = refl
      go false e = sym (peer-none k h (leb-false k n e))

  peers-back : (head_of n (box_words x)).peers ≡ peers_of
  peers-back =
      (λ i. peer-back 1 (omega arith, omega arith) i
      ∷ peer-back 2 (omega arith, omega arith) i
      ∷ peer-back 3 (omega arith, omega arith) i
      ∷ peer-back 4 (omega arith, omega arith) i
      ∷ peer-back 5 (omega arith, omega arith) i
      ∷ [])
      ∙ gets-all 0 peers_of 5 f.places

  -- A box's fields are what its words say.
  pub head-back : head_of n (box_words x) ≡ x.head
  head-back =
      λ i. record {
        leads = flag-back x.head.leads i;
        state = state-back x.head.state i;
        phase = phase-back x.head.phase i;
        kept = x.head.kept;
        best = x.head.best;
        answered = x.head.answered;
        accepts = x.head.accepts;
        heard = x.head.heard;
        waiting = x.head.waiting;
        agreeing = x.head.agreeing;
        peers = peers-back i;
      }

  -- A word in no group is that of a peer above n.
  rest-unknown : (k : ℕ) → k < head_words → Outside (box_groups n) k
      → get_or (box_words x) k 0 ≡ unknown
  unfolding Each
  rest-unknown k h o = go (leb (peers_at + n) k) refl (leb count_at k) refl
    where
      go : (s : Bool) → leb (peers_at + n) k ≡ s → (t : Bool) → leb count_at k ≡ t
          → get_or (box_words x) k 0 ≡ unknown
      go false a t b =
          let low = leb-false (peers_at + n) k a in
          absurd (below low (leb peers_at k) refl (leb best_at k) refl)
        where
          below : k < peers_at + n → (u : Bool) → leb peers_at k ≡ u → (v : Bool)
              → leb best_at k ≡ v → ⊥
          below low true c v d =
              let e = leb-true peers_at k c in o.1.1.0 (omega arith) (omega arith)
          below low false c true d =
              let e = leb-false peers_at k c in let f' = leb-true best_at k d in
              o.1.0 (omega arith) (omega arith)
          below low false c false d =
              let e = leb-false best_at k d in o.0 (omega arith) (omega arith)
      go true a true b =
          let high = leb-true count_at k b in
          absurd (o.1.1.1.0 (omega arith) (omega arith))
      go true a false b =
          let low = leb-true (peers_at + n) k a in
          let high = leb-false count_at k b in
          let i = k - peers_at in
          let l = f.places in
          let at : peers_at + i ≡ k = omega arith in
          let inside : i < length peers_of = omega arith in
          let back : i ≡ i + 1 - 1 = omega arith in
          ap (λ (j : ℕ). get_or (box_words x) j 0) (sym at)
          ∙ sym (get_or-drop peers_at (box_words x) i 0)
          ∙ ap (λ (w : List ℕ). get_or w i 0) peers-words
          ∙ get_or-append peers_of (length x.records ∷ []) 0 i inside
          ∙ ap (λ (j : ℕ). get_or peers_of j 0) back
          ∙ peer-none (i + 1) (omega arith, omega arith) (omega arith)

  module _ (loads : J ≤ most_loads) where
    peer-below : (i : ℕ) → i < length peers_of → get_or peers_of i 0 < 256 ^ 4
    peer-below i h =
        let l = f.places in
        let same : i + 1 - 1 ≡ i = omega arith in
        subst (λ (j : ℕ). get_or peers_of j 0 < 256 ^ 4) same
        (go (f.peers (i + 1) (omega arith, omega arith)))
      where
        go : {last : ℕ} → Peer n b (i + 1) last → last < 256 ^ 4
        go (left e) = omega arith
        go (right e) = let m = e.2 in omega arith

    -- The words of a box by form are such as bytes hold.
    pub head-words : HeadWords n (box_words x)
    unfolding Each
    head-words =
        let flag : flag_number x.head.leads ≤ 1 = leb-true _ _ (flag_in x.head.leads) in
        let state : state_number x.head.state ≤ most_state =
        leb-true _ _ (state_in x.head.state) in
        let phase : phase_number x.head.phase ≤ most_phase =
        leb-true _ _ (phase_in x.head.phase) in
        let pn = f.pn in
        let stored-pn = f.stored-pn in
        let stored-number = f.stored-number in
        let best-pn = f.best-pn in
        let best-number = f.best-number in
        let answered = set-fits n x.head.answered boxes f.answered in
        let accepts = set-fits n x.head.accepts boxes f.accepts in
        let heard = set-fits n x.head.heard boxes f.heard in
        let last = f.last in
        let first = f.first.top in
        let room = f.held.room in
        record {
          width = refl;
          below = (
            (
              omega arith,
              (
                omega arith,
                (
                  omega arith,
                  (
                    omega arith,
                    (
                      omega arith,
                      (
                        omega arith,
                        (
                          omega arith,
                          (
                            omega arith,
                            (
                              omega arith,
                              (omega arith, (omega arith, (omega arith, (omega arith, tt)))),
                            ),
                          ),
                        ),
                      ),
                    ),
                  ),
                ),
              ),
            ),
            (
              (
                record_below f.best,
                (record_below f.waiting, (record_below f.agreeing, tt)),
              ),
              (
                subst (Below (256 ^ 4)) (sym peers-part)
                    (each_take (λ i y. y < 256 ^ 4) n peers_of
                    (each-made (λ i y. y < 256 ^ 4) peers_of 0 peer-below)),
                (each-one (λ i y. y < 256 ^ 4) (length x.records) (omega arith), tt),
              ),
            ),
          );
          none = rest-unknown;
        }

-- ---- a box: its head, and its records

pub box-split : (n : ℕ) (x : Box)
    → box_body n x ≡ groups_bytes (box_groups n) (box_words x) ++ cells 8 x.records
unfolding box_body
box-split n x = refl

pub box-records : (n J b : ℕ) (x : Box) → GoodBox n J b x → All GoodRecord x.records
box-records n J b x g = all_of (box-says g).records

module _ (n J : ℕ) (boxes : n ≤ most_boxes) (loads : J ≤ most_loads) where
  abbrev pub box_headed : Headed (box_body n) (SomeBox n J)
  box_headed = record {
    groups = box_groups n;
    width = head_words;
    rest = unknown;
    count-at = count_at;
    cut = box-cut n boxes;
    words = box_words;
    records = λ x. x.records;
    split = λ x g. box-split n x;
    range = λ x g. head-words n J g.0 boxes x (box-says g.1) loads;
    count = λ x. refl;
    proper = λ x g. box-records n J g.0 x g.1;
    back = λ x y g h e r.
        let m : x.head ≡ y.head =
        sym (head-back n J g.0 boxes x (box-says g.1)) ∙ ap (head_of n) e
        ∙ head-back n J h.0 boxes y (box-says h.1) in
        λ i. record { head = m i; records = r i };
  }

  pub box-code : Code (box_body n) (SomeBox n J)
  box-code = headed_code box_headed
