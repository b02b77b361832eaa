-- A ring of L places, of which c are taken, in order from place s on.
use Rattle.std.specs.Prelude.{ℕ, zero, suc, ◌+◌, ◌-◌, cond, List, [], ◌∷◌, ltb, get_or}

-- The place i places on from s, round a ring of L: s + i, less L where that is not below L.
unfoldable pub slot : ℕ → ℕ → ℕ → ℕ
slot L s i = cond (ltb (s + i) L) (s + i) (s + i - L)

-- The place after s.
abbrev pub next : ℕ → ℕ → ℕ
next L s = slot L s 1

-- The place before s.
abbrev pub previous : ℕ → ℕ → ℕ
previous L s = slot L s (L - 1)

-- What the c places from s on hold, in order. rs is what each place holds; past its end stands d.
unfoldable pub ring {ℓ} : {A : Type ℓ} → A → ℕ → ℕ → ℕ → List A → List A
ring d L s zero rs = []
ring d L s (suc c) rs = get_or rs s d ∷ ring d L (next L s) c rs
