-- Things one after another: their bytes in parts, and what holds of each of them.
use mathlib.Core.Path.{◌≡◌, refl, sym, ap, ◌∙◌, subst}
use Prim.Native.Nat.{ℕ, zero, suc, ◌+◌, ◌*◌, ◌≤◌, ◌<◌}
use native.Mathlib.Nat.{suc-mul, zero-mul, zero-add, add_comm}
use native.Mathlib.Numerals.{add-one}
use native.Mathlib.Omega.{arith}
use mathlib.Core.List.{List, [], ◌∷◌, ◌++◌, append_assoc, append-nil, map}
use lib.ListN.{length, take, drop, get_or, length-append, take-append-drop, get_or-append}
use lib.Seq.{take-suc, take_all, get_or-append-add}
use Rattle.le.specs.Le.{le}
use Rattle.le.proofs.LeLaws.{length-le}
use Rattle.cells.specs.Cells.{chain, cells, Each}

-- ---- one after another

module _ {ℓ κ} {A : Type ℓ} {B : Type κ} (enc : A → List B) where
  pub chain_append : (a b : List A) → chain enc (a ++ b) ≡ chain enc a ++ chain enc b
  unfolding chain
  chain_append [] b = refl
  chain_append (x ∷ a) b =
      rw (chain_append a b) (sym (append_assoc (enc x) (chain enc a) (chain enc b)))

  pub chain-cons : (x : A) (l : List A) → chain enc (x ∷ l) ≡ enc x ++ chain enc l
  unfolding chain
  chain-cons x l = refl

  pub chain-one : (x : A) → chain enc (x ∷ []) ≡ enc x
  unfolding chain
  chain-one x = append-nil (enc x)

  -- One thing more.
  pub chain_snoc : (l : List A) (x : A) → chain enc (l ++ (x ∷ [])) ≡ chain enc l ++ enc x
  chain_snoc l x = rw (chain_append l (x ∷ []), chain-one x)

  -- The next thing comes behind the first i.
  pub chain-step : (l : List A) (i : ℕ) (d : A) → i < length l
      → chain enc (take (i + 1) l) ≡ chain enc (take i l) ++ enc (get_or l i d)
  chain-step l i d h =
      rw (add-one i, take-suc l i d h, chain_append (take i l), chain-one (get_or l i d))

  pub chain-split : (l : List A) (i : ℕ)
      → chain enc l ≡ chain enc (take i l) ++ chain enc (drop i l)
  chain-split l i = ap (chain enc) (sym (take-append-drop i l)) ∙ chain_append (take i l)
      (drop i l)

  pub chain-all : (l : List A) (i : ℕ) → length l ≤ i → chain enc (take i l) ≡ chain enc l
  chain-all l i h = ap (chain enc) (take_all i l h)

  -- The first i things and the next take no more room than all.
  pub chain-room : (l : List A) (i : ℕ) (d : A) → i < length l
      → length (chain enc (take i l)) + length (enc (get_or l i d)) ≤ length (chain enc l)
  chain-room l i d h =
      let step = ap length (chain-step l i d h) in
      let rest = ap length (chain-split l (i + 1)) in
      omega (arith, simp length-append at step, simp length-append at rest)

  -- A length that is summed up thing by thing.
  pub length_none : (l : List A) → 0 ≡ length (chain enc (take 0 l))
  unfolding chain
  length_none l = refl

  pub length-next : (l : List A) (i : ℕ) (d : A) (t k : ℕ) → i < length l
      → t ≡ length (chain enc (take i l)) → k ≡ length (enc (get_or l i d))
      → t + k ≡ length (chain enc (take (i + 1) l))
  length-next l i d t k h e f =
      rw (chain-step l i d h, length-append (chain enc (take i l)) (enc (get_or l i d)))
      (omega arith)

  pub length-room : (l : List A) (i : ℕ) (d : A) {t k : ℕ} → i < length l
      → t ≡ length (chain enc (take i l)) → k ≡ length (enc (get_or l i d))
      → t + k ≤ length (chain enc l)
  length-room l i d h e f = omega (arith, chain-room l i d h)

  pub length-all : (l : List A) (i t : ℕ) → length l ≤ i → t ≡ length (chain enc (take i l))
      → t ≡ length (chain enc l)
  length-all l i t h e = e ∙ ap length (chain-all l i h)

  -- Of things that are computed.
  pub chain-map {ι} : {C : Type ι} (f : C → A) (l : List C)
      → chain enc (map f l) ≡ chain (λ c. enc (f c)) l
  unfolding chain
  chain-map f [] = refl
  chain-map f (x ∷ l) = rw (chain-map f l)

  -- Of things that are themselves one after another.
  pub chain-chain {ι} : {C : Type ι} (f : C → List A) (l : List C)
      → chain enc (chain f l) ≡ chain (λ c. chain enc (f c)) l
  unfolding chain
  chain-chain f [] = refl
  chain-chain f (x ∷ l) = rw (chain_append (f x) (chain f l), chain-chain f l)

  -- Of m each, the j-th of the i-th thing stands at i * m + j.
  pub chain-at : (m i j : ℕ) (d : B) (c : A) (l : List A)
      → ((k : ℕ) → k < length l → length (enc (get_or l k c)) ≡ m) → i < length l → j < m
      → get_or (chain enc l) (i * m + j) d ≡ get_or (enc (get_or l i c)) j d
  unfolding chain
  chain-at m i j d c [] w h g = absurd (omega arith)
  chain-at m zero j d c (x ∷ l) w h g =
      rw (zero-mul, zero-add) (get_or-append (enc x) (chain enc l) d j (omega (arith, w 0 h)))
  chain-at m (suc i) j d c (x ∷ l) w h g =
      let s : suc i * m + j ≡ length (enc x) + (i * m + j) =
      rw suc-mul (omega (arith, w 0 (omega arith))) in
      rw (s, get_or-append-add (enc x) (chain enc l) (i * m + j) d)
      (chain-at m i j d c l (λ k b. w (suc k) (omega arith)) (omega arith) g)

-- Things whose bytes are the same, one by one.
pub chain_same {ℓ} : {A : Type ℓ} (f g : A → List ℕ) (l : List A)
    → Each (λ i x. f x ≡ g x) l → chain f l ≡ chain g l
unfolding chain Each
chain_same f g [] h = refl
chain_same f g (x ∷ l) h = λ i. h.0 i ++ chain_same f g l h.1 i

pub length-cells : (k : ℕ) (l : List ℕ) → length (cells k l) ≡ length l * k
unfolding chain
length-cells k [] = sym (zero-mul k)
length-cells k (x ∷ l) =
    rw (length-append (le k x) (cells k l), length-le k x, length-cells k l, suc-mul)
    (add_comm k (length l * k))

-- ---- what holds of each

module _ {ℓ} {A : Type ℓ} where
  pub each_snoc : (P : ℕ → A → Type 0) (l : List A) (x : A) → Each P l → P (length l) x
      → Each P (l ++ (x ∷ []))
  unfolding Each
  each_snoc P [] x h k = (k, tt)
  each_snoc P (y ∷ l) x h k = (h.0, each_snoc (λ i. P (suc i)) l x h.1 k)

  pub each-one : (P : ℕ → A → Type 0) (x : A) → P 0 x → Each P (x ∷ [])
  unfolding Each
  each-one P x h = (h, tt)

  pub each_take : (P : ℕ → A → Type 0) (n : ℕ) (l : List A) → Each P l → Each P (take n l)
  unfolding Each
  each_take P zero l h = tt
  each_take P (suc n) [] h = tt
  each_take P (suc n) (x ∷ l) h = (h.0, each_take (λ i. P (suc i)) n l h.1)

  pub each_at : (P : ℕ → A → Type 0) (l : List A) (i : ℕ) (d : A) → i < length l → Each P l
      → P i (get_or l i d)
  unfolding Each
  each_at P [] i d h k = absurd (omega arith)
  each_at P (x ∷ l) zero d h k = k.0
  each_at P (x ∷ l) (suc i) d h k = each_at (λ i. P (suc i)) l i d (omega arith) k.1

  pub each-made : (P : ℕ → A → Type 0) (l : List A) (d : A)
      → ((i : ℕ) → i < length l → P i (get_or l i d)) → Each P l
  unfolding Each
  each-made P [] d f = tt
  each-made P (x ∷ l) d f =
      (f 0 (omega arith), each-made (λ i. P (suc i)) l d (λ i h. f (suc i) (omega arith)))

  pub each_map : (P Q : ℕ → A → Type 0) → ((i : ℕ) (a : A) → P i a → Q i a) → (l : List A)
      → Each P l → Each Q l
  unfolding Each
  each_map P Q f [] h = tt
  each_map P Q f (x ∷ l) h =
      (f 0 x h.0, each_map (λ i. P (suc i)) (λ i. Q (suc i)) (λ i. f (suc i)) l h.1)

  -- The thing that begins what follows the first i.
  pub each_next : (P : ℕ → A → Type 0) (l : List A) (i : ℕ) {x : A} {m : List A}
      → drop i l ≡ x ∷ m → Each P l → P i x
  unfolding Each
  each_next P [] zero e h = absurd (let n = ap length e in omega arith)
  each_next P [] (suc i) e h = absurd (let n = ap length e in omega arith)
  each_next P (y ∷ l) zero {x} e h = let s : y ≡ x = cc in subst (P 0) s h.0
  each_next P (y ∷ l) (suc i) e h = each_next (λ i. P (suc i)) l i e h.1
