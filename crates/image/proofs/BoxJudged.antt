-- A box in bytes: by form of its words, and of the box that they say.
use mathlib.Core.Path.{◌≡◌, refl, sym, ap, ◌∙◌}
use mathlib.Core.Bool.{Bool, true, false, cond}
use Prim.Native.Nat.{ℕ, ◌+◌, ◌≤◌, ◌<◌}
use native.Mathlib.Omega.{arith}
use mathlib.Core.List.{List, [], ◌∷◌}
use lib.Dec.{leb}
use lib.ListN.{length, get_or}
use borrow.Author.Tests.{leb-true, leb-false, le-leb}
use Rattle.words.proofs.PartLaws.{gets-all}
use Rattle.rules.specs.Every.{all, every}
use Rattle.rules.specs.Sizes.{most_boxes, most_loads, unknown, proper}
use Rattle.rules.specs.Box.{Box}
use Rattle.rules.specs.Form.{peer_form, form_box}
use Rattle.rules.specs.declared.model.BoxState.{BoxState}
use Rattle.laws.proofs.Logic.{all-each}
use Rattle.laws.proofs.FormLaws.{box-says}
use Rattle.values.specs.Faults.{is_whole}
use Rattle.values.proofs.FaultLaws.{whole-none}
use Rattle.values.proofs.AllLaws.{all-at}
use Rattle.row.specs.Row.{peer_of, head_of, head_words, count_at, before_peers}
use Rattle.row.specs.Faults.{head_fault}
use Rattle.row.proofs.NumberLaws.{flag-number-back, state-number-back, phase-number-back}
use Rattle.row.proofs.NumberLaws.{flag_in, state_in, phase_in}
use Rattle.row.proofs.FormLaws.{HeadSays, head-says, head-whole}
use Rattle.cells.specs.Cells.{Each, All}
use Rattle.image.specs.Image.{box_words}
use Rattle.image.specs.Parts.{GoodRecord, GoodBox, HeadWords}
use Rattle.image.proofs.RecordLaws.{all-to}
use Rattle.image.proofs.HeadedLaws.{Judged}
use Rattle.image.proofs.BoxLaws.{box_headed, head-back}

module _ (n J b : ℕ) (few : n ≤ most_boxes) where
  -- A box by form has words by form.
  pub box-passes : (x : Box) → GoodBox n J b x → is_whole (head_fault n J b (box_words x)) ≡ true
  unfolding form_box
  box-passes x e =
      let f = box-says e in
      let same = head-back n J b few x f in
      ap is_whole (head-whole n J b (box_words x) (record {
        flag = leb-true _ _ (flag_in x.head.leads);
        state = leb-true _ _ (state_in x.head.state);
        phase = leb-true _ _ (phase_in x.head.phase);
        pn = f.pn;
        last = f.last;
        first = all-at 1 _ e;
        stored-pn = f.stored-pn;
        stored-number = f.stored-number;
        best-pn = f.best-pn;
        best-number = f.best-number;
        answered = f.answered;
        accepts = f.accepts;
        heard = f.heard;
        best = all-at 9 _ e;
        waiting = all-at 13 _ e;
        agreeing = all-at 14 _ e;
        peers = ap (λ (h : BoxState). every most_boxes (peer_form n b h.peers)) same
            ∙ all-at 16 _ e;
        counted = all-at 2 _ e;
        count = f.held.room;
      }))

  abbrev pub read-box : List ℕ → List ℕ → Box
  read-box w rs = record { head = head_of n w; records = rs }

  module _ (w rs : List ℕ) (g : HeadWords n w) (t : is_whole (head_fault n J b w) ≡ true)
      (count : length rs ≡ get_or w count_at 0) where
    says : HeadSays n J b w
    says = head-says n J b w (whole-none (head_fault n J b w) t)

    -- A peer's word is what it says.
    peer-word : (k : ℕ) → 1 ≤ k → k ≤ most_boxes → peer_of n w k ≡ get_or w (before_peers + k) 0
    unfolding Each
    peer-word k low top = go (leb k n) refl
      where
        go : (t : Bool) → leb k n ≡ t
            → cond t (get_or w (before_peers + k) 0) unknown ≡ get_or w (before_peers + k) 0
        go true e = refl
        go false e =
            let above : n < k = leb-false k n e in
            sym (g.none (before_peers + k) (omega arith) (
              (λ a z. omega arith),
              ((λ a z. omega arith), ((λ a z. omega arith), ((λ a z. omega arith), tt))),
            ))

    -- Words by form are those of the box that they say, with its records ..
    pub words_are : w ≡ box_words (read-box w rs)
    words_are =
        let h = says in
        let flag = flag-number-back (get_or w 0 0) h.flag in
        let state = state-number-back (get_or w 1 0) h.state in
        let phase = phase-number-back (get_or w 2 0) h.phase in
        let p1 = peer-word 1 (omega arith) (omega arith) in
        let p2 = peer-word 2 (omega arith) (omega arith) in
        let p3 = peer-word 3 (omega arith) (omega arith) in
        let p4 = peer-word 4 (omega arith) (omega arith) in
        let p5 = peer-word 5 (omega arith) (omega arith) in
        sym (gets-all 0 w head_words g.width)
        ∙ sym (λ i. flag i ∷ state i ∷ phase i
        ∷ get_or w 3 0 ∷ get_or w 4 0 ∷ get_or w 5 0 ∷ get_or w 6 0
        ∷ get_or w 7 0 ∷ get_or w 8 0 ∷ get_or w 9 0 ∷ get_or w 10 0
        ∷ get_or w 11 0 ∷ get_or w 12 0 ∷ get_or w 13 0 ∷ get_or w 14 0 ∷ get_or w 15 0
        ∷ p1 i ∷ p2 i ∷ p3 i ∷ p4 i ∷ p5 i ∷ count i ∷ [])

    -- .. and that box is by form.
    pub form_of : All GoodRecord rs → GoodBox n J b (read-box w rs)
    unfolding form_box all
    form_of records =
        let h = says in
        rw (
          le-leb _ _ h.last,
          h.first,
          rw (← count) at h.counted,
          all-each proper rs (all-to GoodRecord rs records),
          le-leb _ _ h.pn,
          le-leb _ _ h.stored-pn,
          le-leb _ _ h.stored-number,
          le-leb _ _ h.best-pn,
          le-leb _ _ h.best-number,
          h.best,
          h.answered,
          h.accepts,
          h.heard,
          h.waiting,
          h.agreeing,
          h.peers,
        )

  module _ (loads : J ≤ most_loads) where
    abbrev pub box-judged : Judged (box_headed n J few loads) (GoodBox n J b)
    box-judged = record {
      test = λ w. is_whole (head_fault n J b w);
      fits = λ x g. (b, g);
      passes = box-passes;
      made = read-box;
      good = λ w rs g t c h. form_of w rs g t c h;
      words = words_are;
      records = λ w rs. refl;
    }
