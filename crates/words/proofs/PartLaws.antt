-- The laws of parts and splices, over any element.
use mathlib.Core.Path.{◌≡◌, refl, sym, ap, ◌∙◌}
use Prim.Native.Nat.{ℕ, zero, suc, ◌+◌, ◌-◌, ◌≤◌, ◌<◌}
use native.Mathlib.Nat.{zero-add, suc-add, add-sub_cancel_left}
use native.Mathlib.Omega.{arith}
use mathlib.Core.List.{List, [], ◌∷◌, ◌++◌, append_assoc}
use lib.ListN.{length, take, drop, get_or, set}
use lib.ListN.{length-append, length-take, length-drop, take-append-drop, get_or-append}
use lib.Seq.{length-take-le, take-nil, take_all, take_at, drop_at, set_at, take-take, drop-drop}
use lib.Seq.{drop-cons, get_or-take, get_or-drop, take-add, take-append-le, take-append-add}
use lib.Seq.{drop-append-le, drop-append-add}
use Rattle.words.specs.Rows.{part, splice}

-- ---- parts

module _ {ℓ} {A : Type ℓ} where
  -- A part of k elements has the length k, where it lies within the list.
  pub length_part : (a k : ℕ) (xs : List A) → a + k ≤ length xs → length (part xs a k) ≡ k
  length_part a k xs h = simp (length-take, length-drop) (omega arith)

  -- Element j of a part is element a + j of the list.
  pub get_or_part : (a k j : ℕ) (d : A) (xs : List A) → j < k
      → get_or (part xs a k) j d ≡ get_or xs (a + j) d
  get_or_part a k j d xs h = rw (get_or-take, get_or-drop)

  -- The first b + m elements without the first b are the first m of what follows these.
  drop-take : (b m : ℕ) (xs : List A) → drop b (take (b + m) xs) ≡ take m (drop b xs)
  drop-take zero m xs = rw zero-add
  drop-take (suc b) m [] = rw suc-add (sym (take-nil m))
  drop-take (suc b) m (x ∷ xs) = rw suc-add (drop-take b m xs)

  -- A part of a part is a part of the list.
  pub part-part : (a w b k : ℕ) (xs : List A) → b + k ≤ w
      → part (part xs a w) b k ≡ part xs (a + b) k
  part-part a w b k xs h =
      let e : w ≡ b + (w - b) = omega arith in
      let m : k ≤ w - b = omega arith in
      ap (λ (v : ℕ). take k (drop b (take v (drop a xs)))) e
      ∙ rw (drop-take, take-take, drop-drop)

  -- A part of what follows the first h elements is a part of the list.
  pub part-drop : (h a k : ℕ) (xs : List A) → part (drop h xs) a k ≡ part xs (h + a) k
  part-drop h a k xs = rw drop-drop

  -- The k elements from i on, read one by one; d is read past the end.
  abbrev pub gets : A → List A → ℕ → ℕ → List A
  gets d xs i zero = []
  gets d xs i (suc k) = get_or xs i d ∷ gets d xs (suc i) k

  -- Read one by one, the elements of a part are the part.
  pub gets-part : (d : A) (xs : List A) (i k : ℕ) → i + k ≤ length xs
      → gets d xs i k ≡ part xs i k
  gets-part d xs i zero h = refl
  gets-part d xs i (suc k) h =
      let b : i < length xs = omega arith in
      rw (drop-cons xs i d, gets-part d xs (suc i) k (omega arith))

  -- Read one by one, the elements of a list are the list.
  pub gets-all : (d : A) (xs : List A) (k : ℕ) → length xs ≡ k → gets d xs 0 k ≡ xs
  gets-all d xs k e = gets-part d xs 0 k (omega arith) ∙ take_all k xs (omega arith)

-- ---- splices

module _ {ℓ} {A : Type ℓ} where
  -- A part that is put back as it was leaves the list as it was.
  pub splice-same : (a k : ℕ) (xs : List A) → splice xs a k (part xs a k) ≡ xs
  splice-same a k xs = rw (take-append-drop k (drop a xs), take-append-drop a xs)

  -- What comes before the part stays.
  pub take-splice : (w b k : ℕ) (xs ys : List A) → w + b ≤ length xs
      → take w (splice xs (w + b) k ys) ≡ take w xs
  take-splice w b k xs ys h =
      let l : w ≤ length (take (w + b) xs) = omega (arith, length-take-le (w + b) xs h) in
      rw (take-append-le w (take (w + b) xs), take-take w (w + b) xs (omega arith))

  -- What follows the first w elements is what followed them, with the part replaced.
  pub drop-splice : (w b k : ℕ) (xs ys : List A) → w + b ≤ length xs
      → drop w (splice xs (w + b) k ys) ≡ splice (drop w xs) b k ys
  drop-splice w b k xs ys h =
      let e : length (take w xs) ≡ w = length-take-le w xs (omega arith) in
      rw (take-add, append_assoc, drop_at (take w xs), drop-drop b w)

  -- An element before the part stays.
  pub get_or-splice : (a k i : ℕ) (d : A) (xs ys : List A) → i < a → a ≤ length xs
      → get_or (splice xs a k ys) i d ≡ get_or xs i d
  get_or-splice a k i d xs ys h l =
      let b : i < length (take a xs) = omega (arith, length-take-le a xs l) in
      rw (get_or-append (take a xs), get_or-take)

  -- A splice of as many elements keeps the length.
  pub length-splice : (a k : ℕ) (xs ys : List A) → a + k ≤ length xs → length ys ≡ k
      → length (splice xs a k ys) ≡ length xs
  length-splice a k xs ys h e = simp (length-append, length-take, length-drop) (omega arith)

  -- The part that was put there is there.
  pub part-splice : (a k : ℕ) (xs ys : List A) → a + k ≤ length xs → length ys ≡ k
      → part (splice xs a k ys) a k ≡ ys
  part-splice a k xs ys h e =
      let b : length (take a xs) ≡ a = length-take-le a xs (omega arith) in
      rw (drop_at (take a xs), take_at ys)

  -- What follows the part stays.
  pub drop_past : (a k b : ℕ) (xs ys : List A) → a + k ≤ b → a + k ≤ length xs → length ys ≡ k
      → drop b (splice xs a k ys) ≡ drop b xs
  drop_past a k b xs ys h l e =
      let f = take a xs ++ ys in
      let n : length f ≡ a + k = simp (length-append, length-take) (omega arith) in
      let behind : drop (a + k) (splice xs a k ys) ≡ drop (a + k) xs =
      rw (← append_assoc (take a xs) ys, drop_at f, drop-drop) in
      let m = b - (a + k) in
      let s : b ≡ a + k + m = omega arith in
      rw (s, ← drop-drop m (a + k), behind, drop-drop m (a + k) xs)

  -- A part that lies before it stays ..
  pub part-below : (a k b m : ℕ) (xs ys : List A) → b + m ≤ a → a ≤ length xs
      → part (splice xs a k ys) b m ≡ part xs b m
  part-below a k b m xs ys h l =
      let rest = ys ++ drop k (drop a xs) in
      let front = take a xs in
      let n : length front ≡ a = length-take-le a xs l in
      let m' : m ≤ length (drop b front) = omega (arith, length-drop b front) in
      ap (take m) (drop-append-le b front rest (omega arith))
      ∙ take-append-le m (drop b front) rest m'
      ∙ part-part 0 a b m xs h ∙ ap (λ (i : ℕ). part xs i m) (zero-add b)

  -- .. and so does one that lies behind it.
  pub part-above : (a k b m : ℕ) (xs ys : List A) → a + k ≤ b → a + k ≤ length xs
      → length ys ≡ k → part (splice xs a k ys) b m ≡ part xs b m
  part-above a k b m xs ys h l e = ap (take m) (drop_past a k b xs ys h l e)

  -- An element behind the part stays.
  pub get_or_past : (a k i : ℕ) (d : A) (xs ys : List A) → a + k ≤ i → a + k ≤ length xs
      → length ys ≡ k → get_or (splice xs a k ys) i d ≡ get_or xs i d
  get_or_past a k i d xs ys h l e =
      let s : i ≡ a + k + (i - (a + k)) = omega arith in
      let n = i - (a + k) in
      let same = drop_past a k (a + k) xs ys (omega arith) l e in
      rw (s, ← get_or-drop (a + k) (splice xs a k ys) n d, same, get_or-drop (a + k) xs n d)

  -- One element more is put behind the part.
  pub set-splice : (a k : ℕ) (x : A) (xs ys : List A) → a + k < length xs → length ys ≡ k
      → set (splice xs a k ys) (a + k) x ≡ splice xs a (k + 1) (ys ++ (x ∷ []))
  set-splice a k x xs ys h e =
      let f = take a xs ++ ys in
      let n : length f ≡ a + k = simp (length-append, length-take) (omega arith) in
      let s : a + (k + 1) ≡ suc (a + k) = omega arith in
      rw (
        ← append_assoc (take a xs) ys,
        drop-drop k a,
        drop-cons xs (a + k) x h,
        set_at f (get_or xs (a + k) x),
        drop-drop (k + 1) a,
        s,
        append_assoc ys,
        append_assoc (take a xs),
      )

  -- The front up to the part's end is the front before it, and the part.
  pub take-splice-end : (a k : ℕ) (xs ys : List A) → a ≤ length xs → length ys ≡ k
      → take (a + k) (splice xs a k ys) ≡ take a xs ++ ys
  take-splice-end a k xs ys h e =
      let f = take a xs ++ ys in
      let l : length f ≡ a + k = simp (length-append, length-take) (omega arith) in
      rw (← append_assoc (take a xs) ys, take_at f)

  -- A part that lies behind a known front ws is replaced behind it.
  pub splice_front : (ws xs : List A) (a k : ℕ) (ys : List A)
      → splice (ws ++ xs) (length ws + a) k ys ≡ ws ++ splice xs a k ys
  splice_front ws xs a k ys = rw (take-append-add, drop-append-add, append_assoc)

-- ---- the first k of w elements from a on go to the w from b on

module _ {ℓ} {A : Type ℓ} (a b k w : ℕ) (xs : List A) (h : k ≤ w) (l : b + w ≤ length xs) where
  -- the w elements from b on, when they are there
  abbrev pub begun : List A
  begun = part xs a k ++ drop k (part xs b w)

  pub splice-begun : splice xs b k (part xs a k) ≡ splice xs b w begun
  splice-begun =
      let n : k ≤ length (part xs b w) = omega (arith, length_part b w xs l) in
      let rest = drop-append-le k (part xs b w) (drop w (drop b xs)) n in
      rw (append_assoc (part xs a k), ← rest, take-append-drop w (drop b xs))

  module _ (m : a + w ≤ length xs) where
    pub length-begun : length begun ≡ w
    length-begun =
        let n = length_part a k xs (omega arith) in
        let v = length_part b w xs l in
        simp (length-append, length-drop, n, v) (omega arith)

    pub take-begun : take k begun ≡ take k (part xs a w)
    take-begun =
        let n = length_part a k xs (omega arith) in
        take_at (part xs a k) (drop k (part xs b w)) k n ∙ sym (take-take k w (drop a xs) h)

-- ---- parts as the code computes them, from a to a + k

module _ {ℓ} {A : Type ℓ} where
  -- The part that `&xs[a..a + k]` is, where a is b and k is w.
  pub cut_at : {a b k w : ℕ} (xs : List A) → a ≡ b → k ≡ w
      → take (a + k - a) (drop a xs) ≡ part xs b w
  cut_at xs p q = rw (add-sub_cancel_left, p, q)

  -- The list when that part is back.
  pub put-at : {a b k w : ℕ} (xs ys : List A) → a ≡ b → k ≡ w
      → splice xs a (a + k - a) ys ≡ splice xs b w ys
  put-at xs ys p q = rw (add-sub_cancel_left, p, q)

  -- That part's length.
  pub length_cut : (a k : ℕ) (xs : List A) → a + k ≤ length xs
      → length (take (a + k - a) (drop a xs)) ≡ k
  length_cut a k xs h = rw add-sub_cancel_left (length_part a k xs h)

  -- The list's length when that part is back.
  pub length-put : (a k : ℕ) (xs ys : List A) → a + k ≤ length xs → length ys ≡ k
      → length (splice xs a (a + k - a) ys) ≡ length xs
  length-put a k xs ys h e = rw add-sub_cancel_left (length-splice a k xs ys h e)
