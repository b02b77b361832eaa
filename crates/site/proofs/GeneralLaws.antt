-- The epoch and the present set in the words: nothing else of the site changes with them.
use Prim.Native.Nat.{ℕ, ◌+◌, ◌*◌, ◌-◌, ◌≤◌, ◌<◌}
use mathlib.Core.Path.{◌≡◌, refl, ap, ◌∙◌}
use mathlib.Core.Bool.{true, cond}
use mathlib.Core.List.{List}
use native.Mathlib.Omega.{arith}
use lib.ListN.{length, set, take, drop, get_or, length-set}
use lib.Seq.{get_or-set_same, get_or-set_other, drop-set-lt}
use Rattle.rules.specs.Site.{is_box, fresh_box}
use Rattle.rules.specs.Step.{risen}
use Rattle.rules.specs.declared.model.Answer.{Answer}
use Rattle.rules.specs.declared.model.Setting.{Setting}
use Rattle.rules.specs.declared.model.Verdict.{Verdict}
use Rattle.row.specs.Row.{box_of}
use Rattle.memory.specs.Memory.{row_at, box_in, link_in, site_of, readable, general_words}
use Rattle.row.specs.Row.{row_width}
use Rattle.memory.specs.After.{setting_at}
use Rattle.memory.proofs.LentLaws.{readable-rows, readable-links, readable-made}
use Rattle.site.specs.General.{general_put, setting_put, with_general, Presented}

module _ (xs : List ℕ) (epoch present : ℕ) where
  pub general-length : length (general_put epoch present xs) ≡ length xs
  general-length = length-set (set xs 3 epoch) 4 present ∙ length-set xs 3 epoch

  -- what follows them stays
  pub general-past : (m : ℕ) → drop (5 + m) (general_put epoch present xs) ≡ drop (5 + m) xs
  general-past m =
      drop-set-lt (5 + m) (set xs 3 epoch) 4 present (omega arith)
      ∙ drop-set-lt (5 + m) xs 3 epoch (omega arith)

  sizes : (i : ℕ) → i < 3 → get_or (general_put epoch present xs) i 0 ≡ get_or xs i 0
  sizes i h =
      get_or-set_other (set xs 3 epoch) 4 i present 0 (omega arith)
      ∙ get_or-set_other xs 3 i epoch 0 (omega arith)

  is-epoch : general_words ≤ length xs → get_or (general_put epoch present xs) 3 0 ≡ epoch
  is-epoch l =
      get_or-set_other (set xs 3 epoch) 4 3 present 0 (omega arith)
      ∙ get_or-set_same xs 3 epoch 0 (omega arith)

  is-present : general_words ≤ length xs → get_or (general_put epoch present xs) 4 0 ≡ present
  is-present l = get_or-set_same (set xs 3 epoch) 4 present 0 (simp length-set (omega arith))

  -- the rows stand behind the general words
  same_row : (J b : ℕ) → row_at J (general_put epoch present xs) b ≡ row_at J xs b
  same_row J b =
      ap (take (row_width J)) (general-past ((b - 1) * row_width J))

  abbrev n-same : get_or (general_put epoch present xs) 0 0 ≡ get_or xs 0 0
  n-same = sizes 0 (omega arith)

  abbrev J-same : get_or (general_put epoch present xs) 1 0 ≡ get_or xs 1 0
  J-same = sizes 1 (omega arith)

  abbrev L-same : get_or (general_put epoch present xs) 2 0 ≡ get_or xs 2 0
  L-same = sizes 2 (omega arith)

  boxes : box_in (get_or (general_put epoch present xs) 0 0)
      (get_or (general_put epoch present xs) 1 0)
      (general_put epoch present xs)
      ≡ box_in (get_or xs 0 0) (get_or xs 1 0) xs
  boxes =
      (λ t. box_in (n-same t) (J-same t) (general_put epoch present xs))
      ∙ (λ t b. cond (is_box (get_or xs 0 0) b)
      (box_of (get_or xs 0 0) (same_row (get_or xs 1 0) b t))
      fresh_box)

  pub general-put : (ls : List ℕ) → general_words ≤ length xs
      → site_of (general_put epoch present xs) ls ≡ with_general epoch present (site_of xs ls)
  unfolding site_of
  general-put ls l = λ t. record {
    n = n-same t;
    J = J-same t;
    L = L-same t;
    epoch = is-epoch l t;
    present = is-present l t;
    box = boxes t;
    link = link_in (n-same t) (J-same t) (L-same t) ls;
  }

  pub general-readable : (ls : List ℕ) → readable xs ls ≡ true
      → readable (general_put epoch present xs) ls ≡ true
  general-readable ls r =
      let rows = readable-rows xs ls 0 r in
      let links = readable-links xs ls 0 r in
      readable-made (general_put epoch present xs) ls 0
      (rw (n-same, J-same, L-same) (record {
        sizes = rows.sizes;
        words = omega (arith, rows.words, general-length);
        fits = λ b h. rw (same_row (get_or xs 1 0) b) (rows.fits b h);
      }))
      (rw (n-same, J-same, L-same) (record {
        sizes = links.sizes;
        words = links.words;
        fits = links.fits;
      }))

-- ---- a verdict carried out

pub presented-go : (v : Verdict) (epoch e w : ℕ) (xs xs' : List ℕ) → v ≡ Verdict.Go
    → e ≡ risen epoch
    → xs' ≡ general_put e w xs → Presented v epoch w xs xs' Answer.Done
presented-go v epoch e w xs xs' p q r = rw p (r ∙ ap (λ (k : ℕ). general_put k w xs) q, refl)

-- the five general words written are the ones read
module _ (s : Setting) (xs : List ℕ) where
  abbrev sized : List ℕ
  sized = set (set (set xs 0 s.n) 1 s.j) 2 s.l

  sized-length : length sized ≡ length xs
  sized-length = simp length-set

  pub setting-length : length (setting_put s xs) ≡ length xs
  setting-length = general-length sized s.epoch s.present ∙ sized-length

  pub setting-past : (m : ℕ) → drop (5 + m) (setting_put s xs) ≡ drop (5 + m) xs
  setting-past m =
      general-past sized s.epoch s.present m
      ∙ drop-set-lt (5 + m) (set (set xs 0 s.n) 1 s.j) 2 s.l (omega arith)
      ∙ drop-set-lt (5 + m) (set xs 0 s.n) 1 s.j (omega arith)
      ∙ drop-set-lt (5 + m) xs 0 s.n (omega arith)

  pub setting-put : general_words ≤ length xs → setting_at (setting_put s xs) s.me ≡ s
  setting-put h =
      let l : 5 ≤ length sized = omega (arith, sized-length) in
      let ones = set xs 0 s.n in
      let twos = set ones 1 s.j in
      let one : length ones ≡ length xs = length-set xs 0 s.n in
      let two : length twos ≡ length ones = length-set ones 1 s.j in
      λ t. record {
        n =
            (sizes sized s.epoch s.present 0 (omega arith)
            ∙ get_or-set_other twos 2 0 s.l 0 (omega arith)
            ∙ get_or-set_other ones 1 0 s.j 0 (omega arith)
            ∙ get_or-set_same xs 0 s.n 0 (omega arith)) t;
        j =
            (sizes sized s.epoch s.present 1 (omega arith)
            ∙ get_or-set_other twos 2 1 s.l 0 (omega arith)
            ∙ get_or-set_same ones 1 s.j 0 (omega (arith, one))) t;
        l =
            (sizes sized s.epoch s.present 2 (omega arith)
            ∙ get_or-set_same twos 2 s.l 0 (omega (arith, one, two))) t;
        epoch = is-epoch sized s.epoch s.present l t;
        present = is-present sized s.epoch s.present l t;
        me = s.me;
      }
