-- A line that is not kept whole asks nothing of an image that there is room for.
use Prim.Native.Nat.{ℕ, ◌+◌, ◌*◌, ◌<◌, ◌≤◌}
use mathlib.Core.Path.{◌≡◌, refl, ap, sym, ◌∙◌}
use mathlib.Core.Bool.{Bool, true, false}
use mathlib.Core.List.{List, [], ◌∷◌}
use native.Mathlib.Omega.{arith}
use lib.Dec.{ltb}
use lib.ListN.{length, length-append}
use borrow.Author.Tests.{ltb-true, ltb-false, lt-ltb}
use Rattle.std.proofs.Common.{Option, None}
use Rattle.rules.specs.Pick.{pick_true}
use Rattle.laws.proofs.Logic.{both-no, or_left, or_right}
use Rattle.hexed.specs.Hex.{hex_of}
use Rattle.hexed.proofs.HexLaws.{digits-length, smalls-length}
use Rattle.lines.specs.Read.{read_line}
use Rattle.lines.specs.declared.Line.{Line}
use Rattle.lines.specs.Read.{read_one}
use Rattle.print.specs.Bytes.{bytes}
use Rattle.answer.specs.declared.reply.Ask.{Ask}
use Rattle.answer.specs.Replies.{served}
use Rattle.answer.specs.Asks.{Asks, run_read, find_read, ask_read, ask_of}
use Rattle.answer.specs.Hold.{held_for}

hex-most : (m : ℕ) (im : List ℕ) → 1 ≤ m → length im ≤ m → length (hex_of im) ≤ 2 * m
hex-most m [] k h = omega arith
hex-most m (b ∷ im) k h = omega (arith, digits-length (b ∷ im))

long-line : (s : List ℕ) → 64 < length s → read_line s ≡ Line.Unreadable
unfolding read_line
long-line s h = pick_true _ _ _ (lt-ltb 64 (length s) h)

long-one : (w s : List ℕ) → 64 < length s → read_one w s ≡ None
unfolding read_one
long-one w s h = pick_true _ _ _ (or_left _ (lt-ltb 64 (length s) h))

long-find : (s : List ℕ) → 64 < length s → find_read s ≡ Ask.Line Line.Unreadable
unfolding find_read
long-find s h = pick_true _ _ _ (or_right (ltb (length s) 5) (lt-ltb 64 (length s) h))

long-call : (s : List ℕ) → 64 < length s → ask_of s ≡ Ask.Line Line.Unreadable
long-call s h =
    ap (λ (k : Line). ask_read k s) (long-line s h)
    ∙ ap (λ (o : Option ℕ). run_read o (find_read s)) (long-one (bytes "run ") s h) ∙ long-find s h

-- a line that asks of an image of at most m bytes has fewer bytes than are kept
pub asks-short : (m : ℕ) {line im : List ℕ} {l : Ask} → 1 ≤ m → Asks line im l → length im ≤ m
    → length line < held_for m
asks-short m {line} {im} k a h = go (ltb 64 (length a.call)) refl
  where
    sum : length line ≡ length a.hex + length (32 ∷ a.call)
    sum = ap length a.text ∙ length-append a.hex (32 ∷ a.call)

    hex : length (hex_of im) ≡ length a.hex
    hex = ap length a.spells ∙ smalls-length a.hex

    go : (t : Bool) → ltb 64 (length a.call) ≡ t → length line < held_for m
    go true e =
        absurd (both-no a.served
        (ap served (sym a.says ∙ long-call a.call (ltb-true 64 (length a.call) e))))
    go false e =
        let c = ltb-false 64 (length a.call) e in
        omega (arith, sum, hex, hex-most m im k h)

-- so a line that fills what is kept, or is longer, asks nothing or of an image of more than m bytes
pub kept-asks-more : (m : ℕ) {line im : List ℕ} {l : Ask} → 1 ≤ m → held_for m ≤ length line
    → Asks line im l → m < length im
kept-asks-more m {im = im} k h a = go (ltb m (length im)) refl
  where
    go : (t : Bool) → ltb m (length im) ≡ t → m < length im
    go true e = ltb-true m (length im) e
    go false e =
        absurd (let s = asks-short m k a (ltb-false m (length im) e) in omega arith)
