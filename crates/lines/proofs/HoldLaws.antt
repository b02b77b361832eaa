-- What is kept of a line that comes in pieces.
use Prim.Native.Nat.{ℕ, ◌+◌, ◌-◌, ◌<◌, ◌≤◌, min}
use mathlib.Core.Path.{◌≡◌, refl, ap, sym, ◌∙◌}
use mathlib.Core.Bool.{Bool, true, false}
use mathlib.Core.List.{List, ◌++◌}
use native.Mathlib.Omega.{arith}
use native.Mathlib.Numerals.{add-one}
use lib.Dec.{ltb}
use lib.ListN.{length, take, drop, get_or, set, length-append}
use lib.Seq.{take_all, take-append-add, length-take-le}
use lib.Seq.{paste, paste-suc}
use borrow.Author.Tests.{ltb-true, ltb-false}
use Rattle.lines.specs.Hold.{kept, KeepIs}

-- as many as there are, or k
front-least : (xs : List ℕ) (k m : ℕ) → m ≡ min (length xs) k → take k xs ≡ take m xs
front-least xs k m e = go (ltb k (length xs)) refl
  where
    go : (t : Bool) → ltb k (length xs) ≡ t → take k xs ≡ take m xs
    go true d =
        let l = ltb-true k (length xs) d in
        let q : k ≡ m = omega arith in
        ap (λ (i : ℕ). take i xs) q
    go false d = let l = ltb-false k (length xs) d in
        take_all k xs (omega arith) ∙ sym (take_all m xs (omega arith))

-- one byte of the copy
pub copied_more : (o piece p : List ℕ) (n j : ℕ) → n + j < length o → j < length piece
    → p ≡ paste o n piece j → set p (n + j) (get_or piece j 0) ≡ paste o n piece (j + 1)
copied_more o piece p n j h k e =
    ap (λ (l : List ℕ). set l (n + j) (get_or piece j 0)) e ∙ paste-suc o n piece j 0 h k
    ∙ ap (λ (i : ℕ). paste o n piece i) (sym (add-one j))

pub kept-is : (o piece p : List ℕ) (len n m j : ℕ) → n ≡ min len (length o)
    → m ≡ min (length piece) (length o - n) → m ≤ j → j ≤ m → p ≡ paste o n piece j
    → KeepIs o len piece p (n + m)
kept-is o piece p len n m j en em lo hi e =
    record {
      count = sym (ap length all ∙ size);
      bytes =
          e ∙ ap (λ (i : ℕ). paste o n piece i) q
          ∙ ap (λ (l : List ℕ). l ++ drop (n + m) o) (sym all);
    }
  where
    q : j ≡ m
    q = omega arith

    front : length (take n o) ≡ n
    front = length-take-le n o (omega arith)

    room : n + (length o - n) ≡ length o
    room = omega arith

    same : take len o ≡ take n o
    same = front-least o len n (omega arith)

    all : kept o len piece ≡ take n o ++ take m piece
    all =
        ap (λ (l : List ℕ). take (length o) (l ++ piece)) same
        ∙ ap (λ (i : ℕ). take i (take n o ++ piece)) (sym room)
        ∙ ap (λ (i : ℕ). take (i + (length o - n)) (take n o ++ piece)) (sym front)
        ∙ take-append-add (take n o) piece (length o - n)
        ∙ ap (λ (l : List ℕ). take n o ++ l) (front-least piece (length o - n) m em)

    size : length (take n o ++ take m piece) ≡ n + m
    size =
        length-append (take n o) (take m piece)
        ∙ omega (arith, front, length-take-le m piece (omega arith))
