-- The loops of the reading: a word compared byte by byte, and numbers read byte by byte; and a word
-- with one number.
use Prim.Native.Nat.{ℕ, ◌+◌, ◌<◌, ◌≤◌}
use mathlib.Core.Path.{◌≡◌, sym, ap, ◌∙◌}
use mathlib.Core.Bool.{Bool, true, false, not, ◌||◌}
use mathlib.Core.List.{List}
use native.Mathlib.Numerals.{add-one}
use lib.Dec.{ltb}
use lib.ListN.{length, drop, get_or, drop_of_length-le}
use lib.Seq.{drop-cons}
use borrow.Author.Tests.{eq-eqb, ne_eqb}
use Rattle.std.proofs.Common.{Option, None}
use Rattle.rules.specs.Pick.{pick_true, pick-false}
use Rattle.lines.specs.Table.{starts}
use Rattle.lines.specs.Read.{byte_read, bytes_read, numbers_of, one_of, read_one}
use Rattle.lines.specs.declared.Numbers.{Numbers}

pub starts-on : (w s : List ℕ) (i : ℕ) → i < length w → i < length s → get_or w i 0 ≡ get_or s i 0
    → starts (drop i w) (drop i s) ≡ starts (drop (i + 1) w) (drop (i + 1) s)
unfolding starts
starts-on w s i hw hs e =
    rw (add-one, drop-cons w i 0 hw, drop-cons s i 0 hs) (pick_true _ _ _ (eq-eqb _ _ e))

pub starts-short : (w s : List ℕ) (i : ℕ) → i < length w → length s ≤ i
    → starts (drop i w) (drop i s) ≡ false
unfolding starts
starts-short w s i hw hs = rw (drop-cons w i 0 hw, drop_of_length-le s hs)

pub starts-differ : (w s : List ℕ) (i : ℕ) → i < length w → i < length s
    → (get_or w i 0 ≡ get_or s i 0 → ⊥) → starts (drop i w) (drop i s) ≡ false
unfolding starts
starts-differ w s i hw hs e =
    rw (drop-cons w i 0 hw, drop-cons s i 0 hs) (pick-false _ _ _ (ne_eqb _ _ e))

pub starts-end : (w s : List ℕ) (i : ℕ) → length w ≤ i → starts (drop i w) (drop i s) ≡ true
unfolding starts
starts-end w s i h = rw (drop_of_length-le w h)

pub read-on : (n : Numbers) (s : List ℕ) (i : ℕ) → i < length s
    → bytes_read n (drop i s) ≡ bytes_read (byte_read n (get_or s i 0)) (drop (i + 1) s)
unfolding bytes_read
read-on n s i h = rw (add-one, drop-cons s i 0 h)

pub read-end : (n : Numbers) (s : List ℕ) (i : ℕ) → length s ≤ i → bytes_read n (drop i s) ≡ n
unfolding bytes_read
read-end n s i h = rw (drop_of_length-le s h)

-- t tells whether the word stands there
pub one-not : (w s : List ℕ) {t : Bool} → t ≡ starts w s → (ltb 64 (length s) || not t) ≡ true
    → None ≡ read_one w s
unfolding read_one
one-not w s e h =
    sym (pick_true _ _ _ (ap (λ u. ltb 64 (length s) || not u) (sym e) ∙ h))

pub one-is : (w s : List ℕ) {t : Bool} {n : Numbers} {r : Option ℕ} → t ≡ starts w s
    → (ltb 64 (length s) || not t) ≡ false → n ≡ numbers_of (drop (length w) s) → r ≡ one_of n
    → r ≡ read_one w s
unfolding read_one
one-is w s e h f g =
    g ∙ ap one_of f ∙ sym (pick-false _ _ _ (ap (λ u. ltb 64 (length s) || not u) (sym e) ∙ h))
