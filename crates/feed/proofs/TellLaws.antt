-- Laws of the lasts in the site's words.
use Prim.Native.Nat.{ℕ, zero, suc, ◌+◌, ◌-◌, ◌*◌, ◌≤◌}
use mathlib.Core.Path.{◌≡◌, refl, ap, sym, ◌∙◌, subst}
use mathlib.Core.Bool.{cond}
use mathlib.Core.List.{List, [], ◌∷◌, ◌++◌, map}
use native.Mathlib.Omega.{arith}
use native.Mathlib.Numerals.{add-one}
use lib.ListN.{length, drop, get_or}
use lib.Seq.{get_or-take, get_or-drop}
use Rattle.rules.specs.Site.{fresh_box}
use Rattle.laws.proofs.Logic.{In}
use Rattle.laws.proofs.FormLaws.{box-is}
use Rattle.row.specs.Row.{box_of, last_at, row_width}
use Rattle.memory.specs.Memory.{general_words, row_start, row_at, box_in, site_of}
use Rattle.print.specs.Decimal.{decimal, spaced}
use Rattle.print.specs.Text.{Wrote, done_text}
use Rattle.print.proofs.DecimalLaws.{spaced_append, spaced-one}
use Rattle.print.proofs.WriteLaws.{then, spelled, at_most}
use Rattle.trace.specs.Replay.{up_to, lasts}
use Rattle.feed.specs.Rows.{first_last, lasts_at}
use Rattle.feed.specs.Says.{Rowed, answer_most}

map-append : (f : ℕ → ℕ) (xs ys : List ℕ) → map f (xs ++ ys) ≡ map f xs ++ map f ys
map-append f [] ys = refl
map-append f (x ∷ xs) ys = ap (λ (t : List ℕ). f x ∷ t) (map-append f xs ys)

-- ---- the loop over the boxes

pub lasts-none : (a xs : List ℕ) (w i : ℕ) → Wrote (21 * 0) a a i i (spaced (lasts_at xs w 0))
unfolding spaced up_to
lasts-none a xs w i = record { bytes = refl; end = omega arith; few = omega arith; room = refl }

last_more : (xs : List ℕ) (w i : ℕ)
    → lasts_at xs w (suc i) ≡ lasts_at xs w i ++ (get_or xs (i * w + first_last) 0 ∷ [])
unfolding up_to
last_more xs w i =
    let e : suc i - 1 ≡ i = omega arith in
    map-append (λ b. get_or xs ((b - 1) * w + first_last) 0) (up_to i) (suc i ∷ [])
    ∙ ap (λ (j : ℕ). lasts_at xs w i ++ (get_or xs (j * w + first_last) 0 ∷ [])) e

pub lasts-more : (xs : List ℕ) (w i : ℕ) {a b c : List ℕ} {at p q : ℕ} (r : ℕ) → r ≡ i * w
    → Wrote (21 * i) a b at p (spaced (lasts_at xs w i))
    → Wrote 21 b c p q (32 ∷ decimal (get_or xs (r + first_last) 0))
    → Wrote (21 * (i + 1)) a c at q (spaced (lasts_at xs w (i + 1)))
lasts-more xs w i r e u v =
    let x = get_or xs (i * w + first_last) 0 in
    spelled (ap (λ (j : ℕ). spaced (lasts_at xs w i)
    ++ (32 ∷ decimal (get_or xs (j + first_last) 0))) e
    ∙ (ap (λ (t : List ℕ). spaced (lasts_at xs w i) ++ t) (sym (spaced-one x))
    ∙ (sym (spaced_append (lasts_at xs w i) (x ∷ [])) ∙ (ap spaced (sym (last_more xs w i))
    ∙ ap (λ (j : ℕ). spaced (lasts_at xs w j)) (sym (add-one i))))))
    (at_most (omega arith) (then u v))

-- ---- they are the lasts of the boxes

map_same : (n : ℕ) (f g : ℕ → ℕ) → ((b : ℕ) → In b n → f b ≡ g b)
    → map f (up_to n) ≡ map g (up_to n)
unfolding up_to
map_same zero f g same = refl
map_same (suc n) f g same =
    map-append f (up_to n) (suc n ∷ []) ∙ (ap (λ (t : List ℕ). t ++ (f (suc n) ∷ []))
    (map_same n f g (λ b h. same b (h.0, omega (arith, h.1))))
    ∙ (ap (λ (x : ℕ). map g (up_to n) ++ (x ∷ [])) (same (suc n) (omega arith, omega arith))
    ∙ sym (map-append g (up_to n) (suc n ∷ []))))

last-is : (n J b : ℕ) (xs : List ℕ) → In b n
    → (box_in n J xs b).head.kept.last ≡ get_or xs ((b - 1) * (row_width J) + first_last) 0
last-is n J b xs h =
    let e : general_words + (b - 1) * (row_width J) + last_at
    ≡ (b - 1) * (row_width J) + first_last = omega arith in
    ap (λ t. (cond t (box_of n (row_at J xs b)) fresh_box).head.kept.last) (box-is h)
    ∙ (get_or-take (row_width J) (drop (row_start J b) xs) 4 0 (omega arith)
    ∙ (get_or-drop (row_start J b) xs 4 0 ∙ ap (λ (i : ℕ). get_or xs i 0) e))

pub lasts_are : (xs : List ℕ)
    → lasts_at xs (row_width (get_or xs 1 0)) (get_or xs 0 0) ≡ lasts (site_of xs [])
unfolding site_of
lasts_are xs =
    map_same (get_or xs 0 0) (λ b. get_or xs ((b - 1) * (row_width (get_or xs 1 0)) + first_last) 0)
    (λ b. (box_in (get_or xs 0 0) (get_or xs 1 0) xs b).head.kept.last)
    (λ b h. sym (last-is (get_or xs 0 0) (get_or xs 1 0) b xs h))

pub lasts-done : (xs : List ℕ) (w n i : ℕ) {a b : List ℕ} {at p : ℕ} → n ≤ i → i ≤ n
    → Wrote (21 * i) a b at p (spaced (lasts_at xs w i))
    → Wrote (21 * n) a b at p (spaced (lasts_at xs w n))
lasts-done xs w n i {a} {b} {at} {p} lo hi v =
    let e : i ≡ n = omega arith in
    subst (λ (j : ℕ). Wrote (21 * j) a b at p (spaced (lasts_at xs w j))) e v

-- ---- the whole answer

pub rows_fit : (xs : List ℕ) (n j : ℕ) → n ≡ get_or xs 0 0 → j ≡ get_or xs 1 0 → Rowed xs
    → 5 + n * (row_width j) ≤ length xs
rows_fit xs n j e f w =
    subst (λ (x : ℕ). 5 + x * (row_width j) ≤ length xs) (sym e)
    (subst (λ (x : ℕ). 5 + get_or xs 0 0 * (row_width x) ≤ length xs) (sym f) w.rows)

pub done-is : (xs : List ℕ) (k n j : ℕ) {a b : List ℕ} {at p : ℕ} → n ≡ get_or xs 0 0
    → j ≡ get_or xs 1 0 → n ≤ 5 → Wrote (20 + (21 + (21 * n + 1))) a b at p
    (decimal k ++ ((32 ∷ decimal
    (get_or xs 3 0)) ++ (spaced (lasts_at xs (row_width j) n) ++ (10 ∷ []))))
    → Wrote answer_most a b at p (done_text k (site_of xs []).epoch (lasts (site_of xs [])))
unfolding done_text site_of
done-is xs k n j e f h v =
    let front : List ℕ = 32 ∷ decimal (get_or xs 3 0) in
    let same : lasts_at xs (row_width j) n ≡ lasts (site_of xs []) =
    ap (λ (x : ℕ). lasts_at xs (row_width j) x) e
    ∙ (ap (λ (x : ℕ). lasts_at xs (row_width x) (get_or xs 0 0)) f ∙ lasts_are xs) in
    at_most (omega arith)
    (spelled (ap (λ (t : List ℕ). decimal k ++ (front ++ (spaced t ++ (10 ∷ [])))) same) v)
