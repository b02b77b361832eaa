-- Bytes as text: two digits for each, the higher one first, and `-` for no bytes; written in small
-- letters, read in either case.
use Rattle.std.specs.Prelude.{ℕ, ◌+◌, ◌-◌, ◌/◌, ◌%◌, ◌≤◌, ◌<◌, ◌≡◌, Bool, true, false, cond, List}
use Rattle.std.specs.Prelude.{Result, Ok, Err, [], ◌∷◌, ◌++◌, map, ltb, length, get_or, drop}
use Rattle.hexed.specs.declared.HexError.{HexError}

-- 0 to 9, then a to f
unfoldable pub digit : ℕ → ℕ
digit d = cond (ltb d 10) (48 + d) (87 + d)

unfoldable pub digits_of : List ℕ → List ℕ
digits_of [] = []
digits_of (b ∷ bs) = digit (b / 16) ∷ digit (b % 16) ∷ digits_of bs

abbrev pub hex_of : List ℕ → List ℕ
hex_of [] = 45 ∷ []
hex_of (b ∷ bs) = digits_of (b ∷ bs)

-- a capital A to F as its small letter, any other byte as it is
unfoldable pub small : ℕ → ℕ
small b = cond (ltb b 65) b (cond (ltb b 71) (b + 32) b)

abbrev pub smalls : List ℕ → List ℕ
smalls text = map small text

-- every number is one that a byte holds
pub record Bytes (bs : List ℕ) : Type 0 where
  pub below : (k : ℕ) → get_or bs k 0 < 256

-- what `read_hex` answers for a text, and what the buffer o becomes: the bytes whose hex the text
-- is, and the rest of the buffer as it was; or o has no room for them; or the text is no hex at all
pub data HexIs (text o : List ℕ) : Result ℕ HexError → List ℕ → Type 0 where
  read : (bs : List ℕ) → Bytes bs → length bs ≤ length o → hex_of bs ≡ smalls text
      → HexIs text o (Ok (length bs)) (bs ++ drop (length bs) o)
  long : (bs : List ℕ) → Bytes bs → length o < length bs → hex_of bs ≡ smalls text
      → HexIs text o (Err HexError.Long) o
  bad : ((bs : List ℕ) → Bytes bs → hex_of bs ≡ smalls text → ⊥) → HexIs text o (Err HexError.Bad) o

-- ---- the parts of reading

-- what the small digit b stands for, or 16 where it is none
unfoldable pub value_of : ℕ → ℕ
value_of b =
    cond (ltb b 48) 16
    (cond (ltb b 58) (b - 48)
    (cond (ltb b 97) 16
    (cond (ltb b 103) (b - 87)
    16)))

-- a test's answer: true where P holds, false where it does not
abbrev pub Tells : Bool → Type 0 → Type 0
Tells true P = P
Tells false P = P → ⊥

pub record Digits (text : List ℕ) : Type 0 where
  pub each : (k : ℕ) → k < length text → value_of (get_or text k 0) < 16

-- digits for one byte or more
pub record Paired (text : List ℕ) : Type 0 where
  pub some : 0 < length text
  pub even : length text % 2 ≡ 0
  pub digits : Digits text

pub record NoBytes (text : List ℕ) : Type 0 where
  pub dash : text ≡ 45 ∷ []
