-- An input fed in pieces, for any kind of run: between two bytes stand the run and at most 65 bytes
-- of the line that has begun. 65 bytes are already too many, so what a longer line goes on with
-- does not matter.
use Rattle.std.specs.Prelude.{ℕ, Bool, not, List, [], ◌∷◌, ◌++◌, eqb, length, take}
use Rattle.rules.specs.Every.{each}
use Rattle.rules.specs.Pick.{pick}
use Rattle.lines.specs.Read.{read_line}
use Rattle.lines.specs.declared.Line.{Line}

pub record Feeding (R : Type 0) : Type 0 where
  pub run : R
  pub held : List ℕ

-- the line goes on with p
unfoldable pub hold : List ℕ → List ℕ → List ℕ
hold l p = take 65 (l ++ p)

abbrev pub holding : {R : Type 0} → Feeding R → List ℕ → Feeding R
holding s p = record { run = s.run; held = hold s.held p }

-- no newline among them
unfoldable pub plain : List ℕ → Bool
plain p = each (λ b. not (eqb b 10)) p

-- a newline ends the line
abbrev pub answered : {R : Type 0} → (R → Line → R) → Feeding R → Feeding R
answered next s = record { run = next s.run (read_line s.held); held = [] }

unfoldable pub byte_next : {R : Type 0} → (R → Line → R) → Feeding R → ℕ → Feeding R
byte_next next s b = pick (eqb b 10) (answered next s) (holding s (b ∷ []))

unfoldable pub byte_text : {R : Type 0} → (R → Line → List ℕ) → Feeding R → ℕ → List ℕ
byte_text text s b = pick (eqb b 10) (text s.run (read_line s.held)) []

unfoldable pub feed_next : {R : Type 0} → (R → Line → R) → Feeding R → List ℕ → Feeding R
feed_next next s [] = s
feed_next next s (b ∷ p) = feed_next next (byte_next next s b) p

unfoldable pub feed_text : {R : Type 0} → (R → Line → R) → (R → Line → List ℕ) → Feeding R → List ℕ
    → List ℕ
feed_text next text s [] = []
feed_text next text s (b ∷ p) = byte_text text s b ++ feed_text next text (byte_next next s b) p

-- the end of the input: a line that has begun and that no newline ended
unfoldable pub end_text : {R : Type 0} → (R → Line → List ℕ) → Feeding R → List ℕ
end_text text s = pick (eqb (length s.held) 0) [] (text s.run Line.Unreadable)

-- pieces one after another, and the end
unfoldable pub feed_all : {R : Type 0} → (R → Line → R) → (R → Line → List ℕ) → Feeding R
    → List (List ℕ) → List ℕ
feed_all next text s [] = end_text text s
feed_all next text s (p ∷ ps) =
    feed_text next text s p ++ feed_all next text (feed_next next s p) ps

unfoldable pub joined : List (List ℕ) → List ℕ
joined [] = []
joined (p ∷ ps) = p ++ joined ps
