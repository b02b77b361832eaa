-- A line is parted at its first space: that is where the image's hex ends.
use Prim.Native.Nat.{ℕ, suc, ◌+◌, ◌≤◌, ◌<◌}
use mathlib.Core.Path.{◌≡◌, refl, ap, sym, ◌∙◌, subst}
use mathlib.Core.Bool.{Bool, true, false, ◌||◌}
use mathlib.Core.List.{List, [], ◌∷◌, ◌++◌}
use native.Mathlib.Omega.{arith}
use lib.Dec.{eqb, ltb}
use lib.ListN.{length, take, drop, get_or, length-append, length-drop}
use lib.Seq.{take-length, take_all, take-append_seam, drop-append-add, split_at}
use borrow.Author.Tests.{eqb-true, eq-eqb, ne_eqb, ltb-false}
use Rattle.std.proofs.Common.{Option, Result}
use Rattle.scan.specs.Bytes.{slice, index_after, index_of}
use Rattle.rules.specs.Pick.{pick_true, pick-false}
use Rattle.laws.proofs.Logic.{both-no}
use Rattle.hexed.specs.Hex.{hex_of, smalls, Bytes, HexIs, read, long, bad}
use Rattle.hexed.specs.declared.HexError.{HexError}
use Rattle.hexed.proofs.Once.{no_space}
use Rattle.lines.specs.Printed.{readable}
use Rattle.lines.specs.Read.{read_line, read_one}
use Rattle.lines.specs.declared.Line.{Line}
use Rattle.print.specs.Bytes.{bytes}
use Rattle.answer.specs.declared.ask.Asked.{Asked}
use Rattle.answer.specs.declared.reply.Ask.{Ask}
use Rattle.answer.specs.Replies.{served}
use Rattle.answer.specs.Asks.{run_read, find_of, second_space, find_read, ask_read, ask_of}
use Rattle.answer.specs.Asks.{Asks, asked_of}
use Rattle.answer.specs.Asks.{AskIs, asks, asks-long, asks_nothing}

-- ---- the first place of a byte

index-found : (b : ℕ) (s : List ℕ) → index_of b s < length s → get_or s (index_of b s) 0 ≡ b
unfolding index_of index_after
index-found b [] h = absurd (omega arith)
index-found b (x ∷ s) h = go (eqb x b) refl h (index-found b s)
  where
    go : (t : Bool) → eqb x b ≡ t → index_after t (index_of b s) < suc (length s)
        → (index_of b s < length s → get_or s (index_of b s) 0 ≡ b)
        → get_or (x ∷ s) (index_after t (index_of b s)) 0 ≡ b
    go true e k rest = eqb-true x b e
    go false e k rest = rest (omega arith)

index_at : (b : ℕ) (h t : List ℕ) → ((k : ℕ) → k < length h → get_or h k 0 ≡ b → ⊥)
    → index_of b (h ++ (b ∷ t)) ≡ length h
unfolding index_of index_after
index_at b [] t n = ap (λ (u : Bool). index_after u (index_of b t)) (eq-eqb b b refl)
index_at b (x ∷ h) t n =
    ap (λ (u : Bool). index_after u (index_of b (h ++ (b ∷ t))))
    (ne_eqb x b (λ e. n 0 (omega arith) e))
    ∙ ap suc (index_at b h t (λ k l e. n (suc k) (omega arith) e))

pub found-is : (line : List ℕ) (e : ℕ) → e ≡ 0 + index_of 32 (slice 0 (length line) line)
    → e ≡ index_of 32 line
unfolding slice
found-is line e h =
    let z : 0 + index_of 32 (drop 0 (take (length line) line))
    ≡ index_of 32 (drop 0 (take (length line) line)) = omega arith in
    h ∙ z ∙ ap (λ (l : List ℕ). index_of 32 l) (take-length line)

-- ---- a line that asks is parted there

-- where its image's hex ends
pub record Parted (line hex rest : List ℕ) (e : ℕ) : Type 0 where
  pub place : e ≡ length hex
  pub below : e < length line
  pub image : take e line ≡ hex
  pub call : drop (e + 1) line ≡ rest

pub parted : (line : List ℕ) (e : ℕ) {im : List ℕ} {l : Ask} → e ≡ index_of 32 line
    → (a : Asks line im l) → Parted line a.hex a.call e
parted line e {im} h a =
    let p : e ≡ length a.hex = h ∙ ap (index_of 32) a.text
    ∙ index_at 32 a.hex a.call (no_space im a.hex a.bytes a.spells) in
    record {
      place = p;
      below = omega (arith, ap length a.text, length-append a.hex (32 ∷ a.call));
      image =
          ap (take e) a.text ∙ ap (λ (k : ℕ). take k (a.hex ++ (32 ∷ a.call))) p
          ∙ take-append_seam a.hex (32 ∷ a.call);
      call =
          ap (drop (e + 1)) a.text ∙ ap (λ (k : ℕ). drop (k + 1) (a.hex ++ (32 ∷ a.call))) p
          ∙ drop-append-add a.hex (32 ∷ a.call) 1;
    }

pub no_space_asks_nothing : (line o : List ℕ) (e : ℕ) → e ≡ index_of 32 line → e ≡ length line
    → AskIs line o Asked.Unreadable o
no_space_asks_nothing line o e h n =
    asks_nothing (λ im l a. let p = (parted line e h a).below in omega arith)

pub not-served-asks-nothing : (line o rest : List ℕ) (e : ℕ) (l : Ask) → e ≡ index_of 32 line
    → rest ≡ drop (e + 1) line → l ≡ ask_of rest → served l ≡ false
    → AskIs line o Asked.Unreadable o
not-served-asks-nothing line o rest e l h r s f =
    asks_nothing (λ im k a. both-no a.served
    (ap served (sym a.says ∙ ap ask_of (sym (parted line e h a).call ∙ sym r) ∙ sym s) ∙ f))

-- ---- what is found

pub rest_all : (line : List ℕ) (e m : ℕ) → length line ≤ m + (e + 1)
    → take m (drop (e + 1) line) ≡ drop (e + 1) line
rest_all line e m h = take_all m (drop (e + 1) line) (omega (arith, length-drop (e + 1) line))

module _ (line part rest : List ℕ) (e : ℕ) (l : Ask) (at : e ≡ index_of 32 line)
    (inside : e < length line) (hx : part ≡ take e line) (r : rest ≡ drop (e + 1) line)
    (s : l ≡ ask_of rest) (f : served l ≡ true) where
  cut : line ≡ part ++ (32 ∷ rest)
  cut =
      let one : suc e ≡ e + 1 = omega arith in
      let space : get_or line e 0 ≡ 32 = ap (λ (k : ℕ). get_or line k 0) at
      ∙ index-found 32 line (subst (λ (k : ℕ). k < length line) at inside) in
      split_at line e 0 inside
      ∙ ap (λ (a : List ℕ). a ++ (get_or line e 0 ∷ drop (suc e) line)) (sym hx)
      ∙ ap (λ (x : ℕ). part ++ (x ∷ drop (suc e) line)) space
      ∙ ap (λ (k : ℕ). part ++ (32 ∷ drop k line)) one
      ∙ ap (λ (c : List ℕ). part ++ (32 ∷ c)) (sym r)

  asked : (bs : List ℕ) → Bytes bs → hex_of bs ≡ smalls part → Asks line bs l
  asked bs w t = record {
    bytes = w;
    hex = part;
    call = rest;
    text = cut;
    spells = t;
    says = sym s;
    served = f;
  }

  asked_is : {o p : List ℕ} {h : Result ℕ HexError} → HexIs part o h p
      → AskIs line o (asked_of h l) p
  asked_is (read bs w fits t) = asks (asked bs w t) fits
  asked_is (long bs w over t) = asks-long (asked bs w t) over
  asked_is (bad n) =
      asks_nothing (λ im k a.
      n im a.bytes (a.spells ∙ ap smalls (sym (parted line e at a).image ∙ sym hx)))

-- the same, of the answer as it is computed; a part of the line comes as its own bytes
pub asked_so : (line : List ℕ) (e k m : ℕ) {o p : List ℕ} {l : Ask}
    {h : Result ℕ HexError} {r : Asked}
    → e ≡ index_of 32 line → e < length line → k ≡ e → length line ≤ m + (e + 1)
    → l ≡ ask_of (take m (drop (e + 1) line)) → served l ≡ true
    → HexIs (take k line) o h p → r ≡ asked_of h l → AskIs line o r p
asked_so line e k m {o} {p} {l} at inside ke all s f w q =
    subst (λ (x : Asked). AskIs line o x p) (sym q)
    (asked_is line (take k line) (take m (drop (e + 1) line)) e l at inside
    (ap (λ (n : ℕ). take n line) ke) (rest_all line e m all) s f w)

-- ---- what a text asks

pub line-asked : (t : List ℕ) {l : Line} (k : Line) → readable k ≡ true → l ≡ read_line t → l ≡ k
    → Ask.Line l ≡ ask_of t
line-asked t {l} k r e f =
    ap Ask.Line f ∙ same k r ∙ ap (λ (j : Line). ask_read j t) (sym f ∙ e)
  where
    same : (j : Line) → readable j ≡ true → Ask.Line j ≡ ask_read j t
    same (Line.Site n J L) g = refl
    same (Line.Call d) g = refl
    same (Line.Holds c m left right) g = refl
    same Line.Unreadable g = absurd (both-no g refl)

pub run-asked : (t : List ℕ) {l : Line} {o : Option ℕ} {other r : Ask} → l ≡ read_line t
    → l ≡ Line.Unreadable → o ≡ read_one (bytes "run ") t → other ≡ find_read t
    → r ≡ run_read o other → r ≡ ask_of t
run-asked t e f g h q =
    q ∙ (λ i. run_read (g i) (h i)) ∙ ap (λ (j : Line). ask_read j t) (sym f ∙ e)

-- ---- the word `find` and two numbers

pub find-not : (t : List ℕ) → (ltb (length t) 5 || ltb 64 (length t)) ≡ true
    → Ask.Line Line.Unreadable ≡ find_read t
unfolding find_read
find-not t e = sym (pick_true _ _ _ e)

-- what is not too short has the word's bytes
pub word-within : (t : List ℕ) → (ltb (length t) 5 || ltb 64 (length t)) ≡ false → 5 ≤ length t
word-within t n = go (ltb (length t) 5) refl n
  where
    go : (b : Bool) → ltb (length t) 5 ≡ b → (b || ltb 64 (length t)) ≡ false → 5 ≤ length t
    go true e h = absurd (both-no refl h)
    go false e h = ltb-false (length t) 5 e

-- the parts of the text come as their own bytes
pub find-asked : (t : List ℕ) (e k m : ℕ) {c left : Option ℕ} {r : Ask}
    → (ltb (length t) 5 || ltb 64 (length t)) ≡ false
    → e ≡ 5 + index_of 32 (slice 5 (length t) t) → k ≡ e → length t ≤ m + e
    → c ≡ read_one (bytes "find ") (take k t) → left ≡ read_one (bytes " ") (take m (drop e t))
    → r ≡ find_of c left → r ≡ find_read t
unfolding find_read slice
find-asked t e k m n at ke all p q s =
    let place : e ≡ second_space t =
    at ∙ ap (λ (l : List ℕ). 5 + index_of 32 (drop 5 l)) (take-length t) in
    let first = p ∙ ap (λ (i : ℕ). read_one (bytes "find ") (take i t)) (ke ∙ place) in
    let second = q ∙ ap (read_one (bytes " "))
    (take_all m (drop e t) (omega (arith, length-drop e t)) ∙ ap (λ (i : ℕ). drop i t) place) in
    s ∙ (λ i. find_of (first i) (second i)) ∙ sym (pick-false _ _ _ n)
