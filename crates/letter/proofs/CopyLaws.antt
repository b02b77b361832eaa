-- A place that begins with the words that another holds, holds the same letter.
use mathlib.Core.Path.{◌≡◌, sym, ap, ◌∙◌}
use mathlib.Core.List.{List}
use Prim.Native.Nat.{ℕ, ◌+◌, ◌<◌}
use native.Mathlib.Omega.{arith}
use lib.ListN.{take, get_or}
use lib.Seq.{get_or-take}
use Rattle.words.specs.Rows.{part}
use Rattle.words.proofs.PartLaws.{part-part}
use Rattle.letter.specs.Place.{letter_at, place_fits, head_words, count_at}

-- n words of p are held, its fields and its records, and q begins with them
module _ (p q : List ℕ) (n : ℕ) (held : n ≡ head_words + get_or p count_at 0)
    (same : take n q ≡ take n p) where
  same_word : (i : ℕ) → i < head_words → get_or q i 0 ≡ get_or p i 0
  same_word i h =
      let b : i < n = omega arith in
      rw (← get_or-take n q i 0 b, same, get_or-take n p i 0 b)

  same-records : part q head_words (get_or p count_at 0) ≡ part p head_words (get_or p count_at 0)
  same-records =
      let c = get_or p count_at 0 in
      sym (part-part 0 n head_words c q (omega arith))
      ∙ ap (λ (l : List ℕ). part l head_words c) same
      ∙ part-part 0 n head_words c p (omega arith)

  pub copied_letter : letter_at q ≡ letter_at p
  copied_letter =
      rw (
        same_word 0 (omega arith),
        same_word 1 (omega arith),
        same_word 2 (omega arith),
        same_word 3 (omega arith),
        same_word 4 (omega arith),
        same_word 5 (omega arith),
        same-records,
      )

  pub copied_fits : (J : ℕ) → place_fits J q ≡ place_fits J p
  unfolding place_fits
  copied_fits J = rw (same_word 0 (omega arith), same_word count_at (omega arith))
