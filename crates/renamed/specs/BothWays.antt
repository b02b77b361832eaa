-- What is proved of translations, in statements alone: "Both ways together give back the same
-- bytes"; and in pieces.
use Rattle.std.specs.Prelude.{ℕ, ◌+◌, ◌<◌, ◌≤◌, ◌≡◌, true, List, [], ◌∷◌, ◌++◌, length, take}
use Rattle.std.specs.Prelude.{Result, Ok, Err}
use Rattle.rules.specs.Every.{each}
use Rattle.trace.specs.Lines.{lines_of}
use Rattle.renamed.specs.Read.{has_name}
use Rattle.renamed.specs.Trace.{lines_in, is_trace, text_in}
use Rattle.renamed.specs.Translate.{answer_of, Translated}
use Rattle.renamed.specs.declared.names.Names.{Names}
use Rattle.renamed.specs.declared.text.Refused.{Refused}

-- the lines of s, behind k others, are not refused, and under the other names they are t
pub record Gives (from to : Names) (k : ℕ) (s t : List ℕ) : Type 0 where
  pub trace : is_trace k (lines_in from s) ≡ true
  pub named : each (has_name to) (lines_in from s) ≡ true
  pub text : t ≡ text_in to (lines_in from s)

-- bytes whose last line a newline has ended, or none
pub data Ended : List ℕ → Type 0 where
  none : Ended []
  lines : (s : List ℕ) → Ended (s ++ (10 ∷ []))

pub record BothWays : Type 0 where
  -- There and back it is the same bytes, whichever names come first, ..
  pub back : (from to : Names) (k : ℕ) (s t : List ℕ) → Gives from to k s t → Gives to from k t s
  -- .. and so in lent buffers: what was written, translated back into a buffer that is long enough,
  -- is the same bytes again, and 12 is all that can be answered else.
  pub lent : (from to : Names) (k m : ℕ) (s o o' p p' : List ℕ) (r : Result ℕ Refused)
      → Translated from to k s o o' (Ok m) → Translated to from k (take m o') p p' r
      → length s ≤ length p → (r ≡ Ok (length s)) × (take (length s) p' ≡ s)
  pub short : (from to : Names) (k m : ℕ) (s o o' p p' : List ℕ) (r : Result ℕ Refused)
      → Translated from to k s o o' (Ok m) → Translated to from k (take m o') p p' r
      → length p < length s → r ≡ Err Refused.Short
  -- What was answered so was given.
  pub gives : (from to : Names) (k m : ℕ) (s o o' : List ℕ)
      → Translated from to k s o o' (Ok m) → Gives from to k s (take m o')
  -- Every name of a published trace has ours: 18 never comes on the way back.
  pub never_unnamed : (k room : ℕ) (s : List ℕ)
      → answer_of Names.Ours k room (lines_in Names.Published s) ≡ Err Refused.Unnamed → ⊥
  -- Our lines are the lines that a replay reads.
  pub as_replayed : (s : List ℕ) → lines_in Names.Ours s ≡ lines_of s
  -- In pieces of whole lines: a trace is given where its pieces are, the later behind the lines of
  -- the earlier, and their texts are its text.
  pub pieces : (from to : Names) (k : ℕ) (p q t u : List ℕ) → Ended p → Gives from to k p t
      → Gives from to (k + length (lines_in from p)) q u → Gives from to k (p ++ q) (t ++ u)
  -- Nothing else could satisfy it: one answer and one buffer.
  pub once : (from to : Names) (k : ℕ) (s o p q : List ℕ) (a b : Result ℕ Refused)
      → Translated from to k s o p a → Translated from to k s o q b → (a ≡ b) × (p ≡ q)
