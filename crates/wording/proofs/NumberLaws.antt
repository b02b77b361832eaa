-- The number that is read back is the one that was printed.
use Prim.Native.Nat.{ℕ, ◌+◌, ◌-◌, ◌*◌, ◌/◌, ◌%◌, ◌<◌, ◌≤◌}
use mathlib.Core.Path.{◌≡◌, refl, ap, sym, ◌∙◌}
use mathlib.Core.Bool.{true}
use mathlib.Core.List.{List, [], ◌∷◌, ◌++◌, append_assoc}
use mathlib.Core.Logic.{⊎_elim}
use native.Mathlib.Omega.{arith}
use native.Mathlib.Nat.{div-add-mod', div-lt_iff_lt-mul}
use lib.Dec.{ltb}
use lib.ListN.{length, get_or, length-append}
use lib.Seq.{get_or-append-add}
use borrow.Author.Tests.{lt-ltb, le-ltb, ne_eqb}
use Rattle.rules.specs.Pick.{pick_true, pick-false}
use Rattle.print.specs.Bytes.{bytes}
use Rattle.print.specs.Decimal.{decimal}
use Rattle.print.specs.Text.{refused_text}
use Rattle.print.proofs.DecimalLaws.{one_or_more, one-digit, more-digits}
use Rattle.wording.specs.Number.{from_end, code_of}

-- what stands near the end does not depend on what is in front
near-end : (x t : List ℕ) (k : ℕ) → 0 < k → k ≤ length t
    → from_end (x ++ t) k ≡ get_or t (length t - k) 0
unfolding from_end
near-end x t k p h =
    let long : length (x ++ t) ≡ length x + length t = length-append x t in
    let at : length (x ++ t) - k ≡ length x + (length t - k) = omega arith in
    pick-false _ _ _ (le-ltb (length (x ++ t)) k (omega arith))
    ∙ (pick-false _ _ _ (ne_eqb k 0 (λ e. omega arith))
    ∙ (ap (λ (i : ℕ). get_or (x ++ t) i 0) at ∙ get_or-append-add x t (length t - k) 0))

-- a text that ends in one digit after a space, or in two, and a newline
one : (x : List ℕ) (c : ℕ) → code_of (x ++ (32 ∷ (48 + c) ∷ 10 ∷ [])) ≡ c
unfolding code_of
one x c =
    let t : List ℕ = 32 ∷ (48 + c) ∷ 10 ∷ [] in
    let a : from_end (x ++ t) 3 ≡ 32 = near-end x t 3 (omega arith) (omega arith) in
    let b : from_end (x ++ t) 2 ≡ 48 + c = near-end x t 2 (omega arith) (omega arith) in
    rw (a, b) (pick-false _ _ _ refl ∙ omega arith)

two : (x : List ℕ) (d e : ℕ) → d < 10 → code_of (x ++ ((48 + d) ∷ (48 + e) ∷ 10 ∷ [])) ≡ d * 10 + e
unfolding code_of
two x d e h =
    let t : List ℕ = (48 + d) ∷ (48 + e) ∷ 10 ∷ [] in
    let a : from_end (x ++ t) 3 ≡ 48 + d = near-end x t 3 (omega arith) (omega arith) in
    let b : from_end (x ++ t) 2 ≡ 48 + e = near-end x t 2 (omega arith) (omega arith) in
    let low : ltb 47 (48 + d) ≡ true = lt-ltb 47 (48 + d) (omega arith) in
    let high : ltb (48 + d) 58 ≡ true = lt-ltb (48 + d) 58 (omega arith) in
    rw (a, b) (pick_true _ _ _ (rw (low, high)) ∙ omega arith)

-- a number of at most two digits, after a space and before the newline
pub read_back : (x : List ℕ) (c : ℕ) → c < 100 → code_of (x ++ (32 ∷ (decimal c ++ (10 ∷ [])))) ≡ c
read_back x c h = ⊎_elim small large (one_or_more c)
  where
    text : List ℕ → List ℕ
    text d = x ++ (32 ∷ (d ++ (10 ∷ [])))

    small : c < 10 → code_of (text (decimal c)) ≡ c
    small l = ap (λ (d : List ℕ). code_of (text d)) (one-digit 19 c l) ∙ one x c

    large : 10 ≤ c → code_of (text (decimal c)) ≡ c
    large l =
        let p : 0 < 10 = omega arith in
        let q : c / 10 < 10 = (div-lt_iff_lt-mul {k = 10} {x = c} {y = 10} p).1 (omega arith) in
        let ones : List ℕ = (48 + c % 10) ∷ [] in
        let digits : decimal c ≡ (48 + c / 10) ∷ ones =
        more-digits 18 c l ∙ ap (λ (d : List ℕ). d ++ ones) (one-digit 18 (c / 10) q) in
        ap (λ (d : List ℕ). code_of (text d)) digits
        ∙ (ap code_of (sym (append_assoc x (32 ∷ []) ((48 + c / 10) ∷ (48 + c % 10) ∷ 10 ∷ [])))
        ∙ (two (x ++ (32 ∷ [])) (c / 10) (c % 10) q ∙ div-add-mod' c 10))

-- so of the answer to a refused line, whatever stands in front of it
pub refused-back : (x : List ℕ) (k c : ℕ) → c < 100 → code_of (x ++ refused_text k c) ≡ c
unfolding refused_text
refused-back x k c h =
    let w = bytes " refused" in
    ap code_of (sym (parted x (decimal k) w (32 ∷ (decimal c ++ (10 ∷ [])))))
    ∙ read_back (x ++ (decimal k ++ w)) c h
  where
    parted : (x y w t : List ℕ) → (x ++ (y ++ w)) ++ t ≡ x ++ (y ++ (w ++ t))
    parted x y w t = simp append_assoc
