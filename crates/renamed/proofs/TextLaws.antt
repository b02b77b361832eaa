-- The loops over lines that can be read: how much room they take, and their text written.
use Prim.Native.Nat.{ℕ, ◌+◌, ◌-◌, ◌<◌, ◌≤◌}
use mathlib.Core.Path.{◌≡◌, refl, ap, sym, ◌∙◌}
use mathlib.Core.Bool.{true, false}
use mathlib.Core.List.{List, [], ◌∷◌, ◌++◌, append_assoc, append-nil}
use native.Mathlib.Omega.{arith}
use lib.Dec.{leb}
use lib.ListN.{length, take, drop, length-append, length-drop}
use borrow.Author.Tests.{le-leb, lt-leb}
use Rattle.rules.specs.Every.{each}
use Rattle.scan.specs.Bytes.{index_of, slice}
use Rattle.laws.proofs.Logic.{Or, left, right, below?, and_yes, both-no}
use Rattle.lines.specs.Printed.{line_numbers, parted, readable}
use Rattle.lines.specs.declared.Line.{Line}
use Rattle.lines.specs.declared.Word.{Word}
use Rattle.print.specs.Text.{Wrote}
use Rattle.print.proofs.WriteLaws.{then, nothing, spelled, at_most}
use Rattle.renamed.specs.Names.{name_bytes, word_in}
use Rattle.renamed.specs.Read.{read_in, printed_in, found_by}
use Rattle.renamed.specs.Trace.{lines_in, text_in}
use Rattle.renamed.specs.declared.names.Found.{Found}
use Rattle.renamed.specs.declared.names.Names.{Names}
use Rattle.renamed.proofs.NameLaws.{name-short, word-short}
use Rattle.renamed.proofs.LineLaws.{behind, too_long, printed, cut-rest}
use Rattle.renamed.proofs.TraceLaws.{lines_end, line-cut, ends-inside}

-- ---- one line

module _ (from to : Names) (s : List ℕ) (e : readable (read_in from s) ≡ true) where
  -- under the other names it is the other name and what stands behind its own
  pub printed-to : name_bytes to (word_in from s) ++ behind from s ≡ printed_in to (read_in from s)
  unfolding printed_in
  printed-to =
      let p = printed from s e in
      ap (λ (t : List ℕ). name_bytes to (word_in from s) ++ t) p.rest
      ∙ ap (λ (w : Word). name_bytes to w ++ parted (line_numbers (read_in from s))) (sym p.word)

  pub few_bytes : length s ≤ 64
  few_bytes = by (below? 64 (length s))
    where
      by : Or (64 < length s) (length s ≤ 64) → length s ≤ 64
      by (left h) = absurd (both-no e (ap readable (sym (too_long from s h))))
      by (right h) = h

  pub few-new : length (name_bytes to (word_in from s)) ≤ 20
  few-new = omega (arith, name-short to (word_in from s), word-short (word_in from s))

  pub cut_inside : {f : Found} → f ≡ found_by from to (word_in from s) → f.cut ≤ length s
  cut_inside q = omega (arith, (printed from s e).cut, ap (λ (x : Found). x.cut) q)

  pub length-is : {f : Found} → f ≡ found_by from to (word_in from s)
      → length s - f.cut + f.put + 1 ≡ length (printed_in to (read_in from s)) + 1
  length-is {f} q =
      let c = ap (λ (x : Found). x.cut) q in
      let p = ap (λ (x : Found). x.put) q in
      let inside = (printed from s e).cut in
      let d = length-drop (length (name_bytes from (word_in from s))) s in
      omega (
        arith,
        ap length printed-to,
        length-append (name_bytes to (word_in from s)) (behind from s),
      )

  -- the code's three parts of it
  pub line-is : {f : Found} {o p q r : List ℕ} {m n at i j k : ℕ}
      → f ≡ found_by from to (word_in from s)
      → Wrote m o p at i (name_bytes to f.word)
      → Wrote n p q i j (take (length s - f.cut) (drop f.cut s))
      → Wrote 1 q r j k (10 ∷ [])
      → Wrote (length (printed_in to (read_in from s)) + 1) o r at k
      (printed_in to (read_in from s) ++ (10 ∷ []))
  line-is {f} {k = k} q a b c =
      let name : name_bytes to f.word ++ take (length s - f.cut) (drop f.cut s)
      ≡ printed_in to (read_in from s) =
      ap (λ (t : List ℕ). name_bytes to f.word ++ t) (cut-rest s f.cut)
      ∙ ap (λ (x : Found). name_bytes to x.word ++ drop x.cut s) q ∙ printed-to in
      let all = spelled (ap (λ (t : List ℕ). t ++ (10 ∷ [])) name) (then (then a b) c) in
      record {
        bytes = all.bytes;
        end = all.end;
        few =
            omega (
              arith,
              all.end,
              length-append (printed_in to (read_in from s)) (10 ∷ []),
            );
        room = all.room;
      }

  -- .. for which there is room
  pub name-room : {f : Found} (at m : ℕ) → f ≡ found_by from to (word_in from s)
      → at + (length (printed_in to (read_in from s)) + 1) ≤ m
      → at + length (name_bytes to f.word) ≤ m
  name-room at m q h =
      omega (
        arith,
        ap (λ (x : Found). length (name_bytes to x.word)) q,
        ap length printed-to,
        length-append (name_bytes to (word_in from s)) (behind from s),
      )

  pub rest-room : {f : Found} {at i m n : ℕ} {o p : List ℕ} → f ≡ found_by from to (word_in from s)
      → at + (length (printed_in to (read_in from s)) + 1) ≤ m → m ≡ length o
      → Wrote n o p at i (name_bytes to f.word)
      → (i + length (take (length s - f.cut) (drop f.cut s)) + 1 ≤ length p)
  rest-room {f} q h z a =
      omega (
        arith,
        a.end,
        a.room,
        ap (λ (x : Found). length (name_bytes to x.word)) q,
        ap length printed-to,
        length-append (name_bytes to (word_in from s)) (behind from s),
        ap length (cut-rest s f.cut),
        ap (λ (x : Found). length (drop x.cut s)) q,
      )

-- ---- the room that lines take

text-length : (to : Names) (l : Line) (ls : List Line)
    → length (text_in to (l ∷ ls)) ≡ length (printed_in to l) + 1 + length (text_in to ls)
unfolding text_in
text-length to l ls = omega (arith, length-append (printed_in to l) (10 ∷ text_in to ls))

-- so many bytes are left of the room before the lines from i on
pub record Room (from to : Names) (s : List ℕ) (room i rest : ℕ) : Type 0 where
  pub inside : i ≤ length s
  pub good : each readable (lines_in from (drop i s)) ≡ true
  pub takes :
      rest + length (text_in to (lines_in from s))
      ≡ room + length (text_in to (lines_in from (drop i s)))

pub room-start : (from to : Names) (s : List ℕ) (room : ℕ) → each readable (lines_in from s) ≡ true
    → Room from to s room 0 room
room-start from to s room e = record { inside = omega arith; good = e; takes = refl }

-- the line that ends at e
module _ (from to : Names) (s : List ℕ) (i : ℕ) {e : ℕ}
    (found : e ≡ i + index_of 10 (slice i (length s) s)) (h : i < length s) (g : e ≤ length s)
    (good : each readable (lines_in from (drop i s)) ≡ true) where
  abbrev here : Line
  here = read_in from (take (e - i) (drop i s))

  pub ended : e < length s
  ended = ends-inside from s i found h g good

  both : (readable here ≡ true) × (each readable (lines_in from (drop (e + 1) s)) ≡ true)
  unfolding each
  both =
      and_yes (readable here) (each readable (lines_in from (drop (e + 1) s)))
      (sym (ap (each readable) (line-cut from s i found ended)) ∙ good)

  pub here-good : readable here ≡ true
  here-good = both.0

  pub rest-good : each readable (lines_in from (drop (e + 1) s)) ≡ true
  rest-good = both.1

  pub text-cut :
      text_in to (lines_in from (drop i s))
      ≡ printed_in to here ++ (10 ∷ text_in to (lines_in from (drop (e + 1) s)))
  unfolding text_in
  text-cut = ap (text_in to) (line-cut from s i found ended)

  pub text-cut-length :
      length (text_in to (lines_in from (drop i s)))
      ≡ length (printed_in to here) + 1 + length (text_in to (lines_in from (drop (e + 1) s)))
  text-cut-length =
      ap (λ (ls : List Line). length (text_in to ls)) (line-cut from s i found ended)
      ∙ text-length to here (lines_in from (drop (e + 1) s))

  pub room-on : {room rest k : ℕ} → Room from to s room i rest
      → k ≡ length (printed_in to here) + 1 → k ≤ rest → Room from to s room (e + 1) (rest - k)
  room-on r q m =
      let t = r.takes in
      let x = text-cut-length in
      let y = ended in
      record { inside = omega arith; good = rest-good; takes = omega arith }

  pub room-none : {room rest k : ℕ} → Room from to s room i rest
      → k ≡ length (printed_in to here) + 1 → rest < k
      → false ≡ leb (length (text_in to (lines_in from s))) room
  room-none {room} r q m =
      let t = r.takes in
      let x = text-cut-length in
      sym (lt-leb (length (text_in to (lines_in from s))) room (omega arith))

pub room-end : (from to : Names) (s : List ℕ) {room i rest : ℕ} → Room from to s room i rest
    → length s ≤ i → true ≡ leb (length (text_in to (lines_in from s))) room
unfolding text_in
room-end from to s {room} {i} r h =
    let t = r.takes in
    let z = ap (λ (ls : List Line). length (text_in to ls)) (lines_end from s i h) in
    sym (le-leb (length (text_in to (lines_in from s))) room (omega arith))

-- ---- the lines written

-- the text of the lines before i stands in front of the buffer
pub record Writing (from to : Names) (s o o' : List ℕ) (i p : ℕ) : Type 0 where
  pub inside : i ≤ length s
  pub good : each readable (lines_in from (drop i s)) ≡ true
  pub text : List ℕ
  pub wrote : Wrote (length text) o o' 0 p text
  pub whole : text ++ text_in to (lines_in from (drop i s)) ≡ text_in to (lines_in from s)

pub writing_start : (from to : Names) (s o : List ℕ) → each readable (lines_in from s) ≡ true
    → Writing from to s o o 0 0
writing_start from to s o e =
    record { inside = omega arith; good = e; text = []; wrote = nothing; whole = refl }

module _ (from to : Names) {s o o' : List ℕ} {i p e : ℕ} (w : Writing from to s o o' i p)
    (found : e ≡ i + index_of 10 (slice i (length s) s)) (h : i < length s) (g : e ≤ length s)
  where
    abbrev now : Line
    now = read_in from (take (e - i) (drop i s))

    pub now-good : readable now ≡ true
    now-good = here-good from to s i found h g w.good

    -- there is room for the next line
    pub next-room : length (text_in to (lines_in from s)) ≤ length o
        → p + (length (printed_in to now) + 1) ≤ length o'
    next-room m =
        let c = text-cut-length from to s i found h g w.good in
        omega (
          arith,
          ap length w.whole,
          length-append w.text (text_in to (lines_in from (drop i s))),
          w.wrote.end,
          w.wrote.room,
        )

    pub writing_on : {o'' : List ℕ} {q : ℕ}
        → Wrote (length (printed_in to now) + 1) o' o'' p q (printed_in to now ++ (10 ∷ []))
        → Writing from to s o o'' (e + 1) q
    writing_on t =
        let line = printed_in to now ++ (10 ∷ []) in
        let rest = text_in to (lines_in from (drop (e + 1) s)) in
        let y = ended from to s i found h g w.good in
        let k = length-append w.text line in
        let m = length-append (printed_in to now) (10 ∷ []) in
        record {
          inside = omega arith;
          good = rest-good from to s i found h g w.good;
          text = w.text ++ line;
          wrote = at_most (omega arith) (then w.wrote t);
          whole =
              append_assoc w.text line rest
              ∙ ap (λ (u : List ℕ). w.text ++ u)
              (append_assoc (printed_in to now) (10 ∷ []) rest
              ∙ sym (text-cut from to s i found h g w.good))
              ∙ w.whole;
        }

pub writing_end : (from to : Names) {s o o' : List ℕ} {i p : ℕ} → Writing from to s o o' i p
    → length s ≤ i
    → Wrote (length (text_in to (lines_in from s))) o o' 0 p (text_in to (lines_in from s))
unfolding text_in
writing_end from to {s} {i = i} w h =
    let all =
    sym (append-nil w.text)
    ∙ ap (λ (ls : List Line). w.text ++ text_in to ls) (sym (lines_end from s i h)) ∙ w.whole in
    at_most (omega (arith, ap length all)) (spelled all w.wrote)
