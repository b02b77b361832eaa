-- Laws of the line that has begun: its end in a piece, and the bytes that are kept of it.
use Prim.Native.Nat.{ℕ, suc, ◌+◌, ◌-◌, ◌<◌, ◌≤◌, min}
use mathlib.Core.Path.{◌≡◌, refl, ap, sym, ◌∙◌}
use mathlib.Core.Bool.{Bool, true, false, not}
use mathlib.Core.List.{List, [], ◌∷◌, ◌++◌}
use native.Mathlib.Omega.{arith}
use lib.Dec.{ltb, eqb}
use lib.ListN.{length, take, drop, get_or, length-take, length-drop}
use lib.Seq.{take_all, take-suc, take-take, take-append-add, length-take-le, get_or-drop}
use lib.Seq.{paste, take-paste}
use borrow.Author.Tests.{ltb-true, ltb-false, eqb-true}
use borrow.Rule.Slice.PartMut.{put_mid}
use Rattle.std.proofs.lemmas.List.{get_or-take}
use Rattle.std.proofs.lemmas.Slice.{put_mid-paste}
use Rattle.words.specs.Rows.{part}
use Rattle.rules.specs.Every.{each}
use Rattle.laws.proofs.Logic.{and_both}
use Rattle.scan.specs.Bytes.{slice, index_after, index_of}
use Rattle.scan.proofs.ScanLaws.{same-part}
use Rattle.trace.specs.Feeding.{hold, plain}
use Rattle.feed.specs.Says.{LineEnd}

-- ---- the end of a line

pub part-more : (xs : List ℕ) (i e : ℕ) → i ≤ e → e < length xs
    → part xs i (e + 1 - i) ≡ part xs i (e - i) ++ (get_or xs e 0 ∷ [])
part-more xs i e h k =
    let one : e + 1 - i ≡ suc (e - i) = omega arith in
    let at : i + (e - i) ≡ e = omega arith in
    let room : e - i < length (drop i xs) = rw length-drop (omega arith) in
    ap (λ (j : ℕ). part xs i j) one ∙ (take-suc (drop i xs) (e - i) 0 room
    ∙ ap (λ (x : ℕ). part xs i (e - i) ++ (x ∷ []))
    (get_or-drop i xs (e - i) 0 ∙ ap (λ (j : ℕ). get_or xs j 0) at))

-- what stands before the first newline, and the newline
before-first : (s : List ℕ) → plain (take (index_of 10 s) s) ≡ true
unfolding plain each index_of index_after
before-first [] = refl
before-first (b ∷ s) = go (eqb b 10) refl (before-first s)
  where
    go : (t : Bool) → eqb b 10 ≡ t → plain (take (index_of 10 s) s) ≡ true
        → plain (take (index_after t (index_of 10 s)) (b ∷ s)) ≡ true
    go true e r = refl
    go false e r = and_both (ap not e) r

first-newline : (s : List ℕ) → index_of 10 s < length s → get_or s (index_of 10 s) 0 ≡ 10
unfolding index_of index_after
first-newline [] h = absurd (omega arith)
first-newline (b ∷ s) h = go (eqb b 10) refl h (first-newline s)
  where
    go : (t : Bool) → eqb b 10 ≡ t → index_after t (index_of 10 s) < length (b ∷ s)
        → (index_of 10 s < length s → get_or s (index_of 10 s) 0 ≡ 10)
        → get_or (b ∷ s) (index_after t (index_of 10 s)) 0 ≡ 10
    go true e k r = eqb-true b 10 e
    go false e k r = r (omega arith)

pub line-end : (xs : List ℕ) (i n : ℕ) {e : ℕ} → i ≤ n → n ≤ length xs
    → e ≡ i + index_of 10 (slice i n xs) → e ≤ n → LineEnd xs i n e
line-end xs i n {e} order room found below =
    let s = slice i n xs in
    let cut = same-part i n xs order in
    let k : e - i ≡ index_of 10 s = omega arith in
    let inner : e - i ≤ n - i = omega arith in
    let same : part xs i (e - i) ≡ take (index_of 10 s) s =
    sym (take-take (e - i) (n - i) (drop i xs) inner)
    ∙ (ap (take (e - i)) (sym cut) ∙ ap (λ m. take m s) k) in
    let long : length s ≡ n - i =
    ap length cut ∙ length-take-le (n - i) (drop i xs) (omega (arith, length-drop i xs)) in
    record {
      from = omega arith;
      to = below;
      plain = ap plain same ∙ before-first s;
      newline = λ h.
          let at : i + (e - i) ≡ e = omega arith in
          ap (λ m. get_or xs m 0) (sym at)
          ∙ (sym (get_or-drop i xs (e - i) 0)
          ∙ (sym (get_or-take (n - i) (drop i xs) (e - i) 0 (omega arith))
          ∙ (ap (λ l. get_or l (e - i) 0) (sym cut)
          ∙ (ap (λ m. get_or s m 0) k ∙ first-newline s (omega arith)))));
    }

-- ---- what is kept

-- a count cut to a length
cut_by : (xs : List ℕ) (n k m : ℕ) (t : Bool) → ltb n k ≡ t → length xs ≤ k → m ≡ min n k
    → take m xs ≡ take n xs
cut_by xs n k m true d e h =
    let l : n < k = ltb-true n k d in
    let q : m ≡ n = omega arith in ap (λ (i : ℕ). take i xs) q
cut_by xs n k m false d e h =
    let l : k ≤ n = ltb-false n k d in
    take_all m xs (omega arith) ∙ sym (take_all n xs (omega arith))

pub cut-take : (xs : List ℕ) (n k m : ℕ) → length xs ≤ k → m ≡ min n k → take m xs ≡ take n xs
cut-take xs n k m e h = cut_by xs n k m (ltb n k) refl e h

take-min-by : (xs : List ℕ) (a b m : ℕ) (t : Bool) → ltb b a ≡ t → m ≡ min b a
    → take a (take b xs) ≡ take m xs
take-min-by xs a b m true d h =
    let l : b < a = ltb-true b a d in
    let q : m ≡ b = omega arith in
    take_all a (take b xs) (rw length-take (omega arith)) ∙ ap (λ (i : ℕ). take i xs) (sym q)
take-min-by xs a b m false d h =
    let l : a ≤ b = ltb-false b a d in
    let q : m ≡ a = omega arith in
    take-take a b xs l ∙ ap (λ (i : ℕ). take i xs) (sym q)

-- the line after a copy of m bytes is the line gone on with all of them
pub held-is : (line xs next : List ℕ) (len n i e m : ℕ) → length line ≡ 65 → n ≡ min len 65
    → m ≡ min (e - i) (65 - n) → i ≤ e → e ≤ length xs → next ≡ paste line n (drop i xs) m
    → take (n + m) next ≡ hold (take len line) (part xs i (e - i))
unfolding hold
held-is line xs next len n i e m full en em h k p =
    let d = drop i xs in
    let room : m ≤ length d = rw length-drop (omega arith) in
    let front : length (take n line) ≡ n = length-take-le n line (omega arith) in
    let all : n + (65 - n) ≡ 65 = omega arith in
    ap (λ (l : List ℕ). take (n + m) l) p ∙ (take-paste line n d m (omega arith) room
    ∙ (ap (λ (l : List ℕ). take n line ++ l)
    (sym (take-min-by d (65 - n) (e - i) m (ltb (e - i) (65 - n)) refl em))
    ∙ (sym (take-append-add (take n line) (take (e - i) d) (65 - n))
    ∙ (ap (λ (j : ℕ). take (j + (65 - n)) (take n line ++ take (e - i) d)) front
    ∙ (ap (λ (j : ℕ). take j (take n line ++ take (e - i) d)) all
    ∙ ap (λ (l : List ℕ). take 65 (l ++ take (e - i) d))
    (cut-take line len 65 n (omega arith) en))))))

-- the copy at once: part is what the code has cut out of the piece
pub held-copied : (line xs part₁ : List ℕ) (len n i e m : ℕ) → length line ≡ 65 → n ≡ min len 65
    → m ≡ min (e - i) (65 - n) → i ≤ e → e ≤ length xs → part₁ ≡ take (i + m - i) (drop i xs)
    → take (n + m) (put_mid n (n + m - n) line part₁) ≡ hold (take len line) (part xs i (e - i))
held-copied line xs part₁ len n i e m full en em h k q =
    let d = drop i xs in
    let width : i + m - i ≡ m = omega arith in
    let gap : m ≡ n + m - n = omega arith in
    let room : m ≤ length d = rw length-drop (omega arith) in
    let long : m ≡ length (take m d) = sym (length-take-le m d room) in
    let same = q ∙ ap (λ j. take j d) width in
    held-is line xs _ len n i e m full en em h k
    (put_mid-paste n (n + m - n) line part₁ (take m d) m same gap long
    ∙ ap (λ l. take n line ++ l ++ drop (n + m) line) (take_all m (take m d) (omega arith)))

pub cut-length : (xs : List ℕ) (n k m : ℕ) → length xs ≡ k → m ≡ min n k → m ≡ length (take m xs)
cut-length xs n k m e h = sym (length-take-le m xs (omega arith))
