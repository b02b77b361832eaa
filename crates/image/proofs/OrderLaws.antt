-- The order of boxes and links: which box and which link stands at an index.
use mathlib.Core.Path.{◌≡◌, refl, sym, ap, ◌∙◌}
use mathlib.Core.Bool.{Bool, true, false, cond}
use Prim.Native.Nat.{ℕ, zero, suc, ◌+◌, ◌-◌, ◌*◌, ◌≤◌, ◌<◌}
use native.Mathlib.Nat.{add-zero, add-suc, add_comm, zero-add, suc-add, suc-mul, zero-mul}
use native.Mathlib.Omega.{arith}
use mathlib.Core.List.{List, [], ◌∷◌, ◌++◌, map}
use lib.Dec.{ltb}
use lib.ListN.{length, get_or, length-append, length-map, get_or-append}
use lib.Seq.{get_or-append-add, ext_get_or}
use borrow.Author.Tests.{ltb-true, ltb-false, lt-ltb, le-ltb}
use Rattle.words.proofs.RowLaws.{row-end}
use Rattle.rules.specs.Box.{Box, Letter}
use Rattle.rules.specs.Site.{Site}
use Rattle.laws.proofs.Logic.{In}
use Rattle.memory.specs.Memory.{link_index}
use Rattle.cells.specs.Cells.{chain, Each, All}
use Rattle.cells.proofs.ChainLaws.{chain-at, each-made}
use Rattle.image.specs.Image.{numbers_from, boxes_of, others, by_sender, links_of}

-- ---- lists

-- What is computed of the i-th thing.
pub map_at {ℓ κ} : {A : Type ℓ} {B : Type κ} (f : A → B) (l : List A) (i : ℕ) (d : B) (e : A)
    → i < length l → get_or (map f l) i d ≡ f (get_or l i e)
map_at f [] i d e h = absurd (omega arith)
map_at f (x ∷ l) zero d e h = refl
map_at f (x ∷ l) (suc i) d e h = map_at f l i d e (omega arith)

-- So many things of m each.
pub length-chain {ℓ κ} : {A : Type ℓ} {B : Type κ} (f : A → List B) (m : ℕ) (d : A) (l : List A)
    → ((i : ℕ) → i < length l → length (f (get_or l i d)) ≡ m) → length (chain f l) ≡ length l * m
unfolding chain
length-chain f m d [] w = sym (zero-mul m)
length-chain f m d (x ∷ l) w =
    let rest = length-chain f m d l (λ i h. w (suc i) (omega arith)) in
    length-append (f x) (chain f l) ∙ rw suc-mul (omega (arith, w 0 (omega arith)))

all_append {ℓ} : {A : Type ℓ} (P : A → Type 0) (a b : List A) → All P a → All P b → All P (a ++ b)
unfolding Each
all_append P [] b h k = k
all_append P (x ∷ a) b h k = (h.0, all_append P a b h.1 k)

-- What holds of all that each is made of.
all-chain {ℓ κ} : {A : Type ℓ} {B : Type κ} (P : B → Type 0) (f : A → List B) (d : A) (l : List A)
    → ((i : ℕ) → i < length l → All P (f (get_or l i d))) → All P (chain f l)
unfolding chain Each
all-chain P f d [] h = tt
all-chain P f d (x ∷ l) h =
    all_append P (f x) (chain f l) (h 0 (omega arith))
    (all-chain P f d l (λ i k. h (suc i) (omega arith)))

-- ---- numbers

pub length_from : (a k : ℕ) → length (numbers_from a k) ≡ k
unfolding numbers_from
length_from a zero = refl
length_from a (suc k) = ap suc (length_from (suc a) k)

pub from-at : (a k i d : ℕ) → i < k → get_or (numbers_from a k) i d ≡ a + i
unfolding numbers_from
from-at a zero i d h = absurd (omega arith)
from-at a (suc k) zero d h = sym (add-zero a)
from-at a (suc k) (suc i) d h = from-at (suc a) k i d (omega arith) ∙ omega arith

-- One number more.
pub from_snoc : (a k : ℕ) → numbers_from a (suc k) ≡ numbers_from a k ++ ((a + k) ∷ [])
unfolding numbers_from
from_snoc a zero = rw add-zero
from_snoc a (suc k) = ap (λ (l : List ℕ). a ∷ l) (from_snoc (suc a) k ∙ rw (suc-add, add-suc))

pub from_append : (a j k : ℕ)
    → numbers_from a (j + k) ≡ numbers_from a j ++ numbers_from (a + j) k
unfolding numbers_from
from_append a zero k = rw (zero-add, add-zero)
from_append a (suc j) k =
    rw (suc-add, from_append (suc a) j k, suc-add, add-suc)

pub map-append {ℓ κ} : {A : Type ℓ} {B : Type κ} (f : A → B) (a b : List A)
    → map f (a ++ b) ≡ map f a ++ map f b
map-append f [] b = refl
map-append f (x ∷ a) b = rw (map-append f a b)

-- Groups of m that go on from each other.
chain-from {ℓ} : {B : Type ℓ} (f : ℕ → List B) (g : ℕ → B) (m a i k : ℕ)
    → ((j : ℕ) → j < k → f (a + j) ≡ map g (numbers_from ((i + j) * m) m))
    → chain f (numbers_from a k) ≡ map g (numbers_from (i * m) (k * m))
unfolding chain numbers_from
chain-from f g m a i zero h = rw zero-mul
chain-from f g m a i (suc k) h =
    let first : f a ≡ map g (numbers_from (i * m) m) =
    ap f (sym (add-zero a)) ∙ h 0 (omega arith)
    ∙ ap (λ (x : ℕ). map g (numbers_from (x * m) m)) (add-zero i) in
    let rest = chain-from f g m (suc a) (suc i) k next in
    let size : suc k * m ≡ m + k * m = rw suc-mul (add_comm (k * m) m) in
    let start : suc i * m ≡ i * m + m = suc-mul i m in
    (λ t. first t ++ rest t)
    ∙ ap (λ (x : ℕ). map g (numbers_from (i * m) m) ++ map g (numbers_from x (k * m))) start
    ∙ sym
    (ap (λ (x : ℕ). map g (numbers_from (i * m) x)) size
    ∙ ap (map g) (from_append (i * m) m (k * m))
    ∙ map-append g (numbers_from (i * m) m) (numbers_from (i * m + m) (k * m)))
  where
    next : (j : ℕ) → j < k → f (suc a + j) ≡ map g (numbers_from ((suc i + j) * m) m)
    next j l = rw (suc-add, suc-add, ← add-suc a j, ← add-suc i j) (h (suc j) (omega arith))

-- ---- boxes

pub length-boxes : (s : Site) → length (boxes_of s) ≡ s.n
unfolding boxes_of
length-boxes s = length-map (numbers_from 1 s.n) s.box ∙ length_from 1 s.n

-- Box i + 1 stands at the index i.
pub boxes-at : (s : Site) (i : ℕ) (d : Box) → i < s.n → get_or (boxes_of s) i d ≡ s.box (i + 1)
unfolding boxes_of
boxes-at s i d h =
    map_at s.box (numbers_from 1 s.n) i d 0 (omega (arith, length_from 1 s.n))
    ∙ ap s.box (from-at 1 s.n i 0 h ∙ omega arith)

-- ---- links

module _ (n a : ℕ) (ha : In a n) where
  pub length-others : length (others n a) ≡ n - 1
  length-others =
      let low = ha.0 in
      let high = ha.1 in
      length-append (numbers_from 1 (a - 1)) (numbers_from (a + 1) (n - a))
      ∙ omega (arith, length_from 1 (a - 1), length_from (a + 1) (n - a))

  -- The receivers in order: those below a, then those above.
  pub others_below : (i : ℕ) → i < a - 1 → get_or (others n a) i 0 ≡ i + 1
  others_below i h =
      get_or-append (numbers_from 1 (a - 1)) (numbers_from (a + 1) (n - a)) 0 i
      (omega (arith, length_from 1 (a - 1)))
      ∙ from-at 1 (a - 1) i 0 h ∙ omega arith

  pub others-above : (i : ℕ) → a - 1 ≤ i → i < n - 1 → get_or (others n a) i 0 ≡ i + 2
  others-above i h k =
      let low = ha.0 in
      let first = numbers_from 1 (a - 1) in
      let last = numbers_from (a + 1) (n - a) in
      let j = i - (a - 1) in
      let e : i ≡ length first + j = omega (arith, length_from 1 (a - 1)) in
      ap (λ (x : ℕ). get_or (others n a) x 0) e ∙ get_or-append-add first last j 0
      ∙ from-at (a + 1) (n - a) j 0 (omega arith) ∙ omega arith

-- The index of a receiver among those of its sender.
abbrev pub receiver_index : ℕ → ℕ → ℕ
receiver_index a b = cond (ltb b a) (b - 1) (b - 2)

module _ (n a b : ℕ) (ha : In a n) (hb : In b n) (ab : a ≡ b → ⊥) where
  -- It is below n − 1, and the receiver stands there.
  pub receiver_at : (receiver_index a b < n - 1) × (get_or (others n a) (receiver_index a b) 0 ≡ b)
  receiver_at = go (ltb b a) refl
    where
      low : 1 ≤ b
      low = hb.0

      go : (t : Bool) → ltb b a ≡ t
          → (cond t (b - 1) (b - 2) < n - 1) × (get_or (others n a) (cond t (b - 1) (b - 2)) 0 ≡ b)
      go true e =
          let h = ltb-true b a e in
          let top = ha.1 in
          (omega arith, others_below n a ha (b - 1) (omega arith) ∙ omega arith)
      go false e =
          let h = ltb-false b a e in
          let top = hb.1 in
          let k : b - 2 < n - 1 = omega arith in
          (k, others-above n a ha (b - 2) (omega arith) k ∙ omega arith)

-- The index of a link is below the number of links.
pub link-index : (n a b : ℕ) → In a n → In b n → (a ≡ b → ⊥) → link_index n a b < n * (n - 1)
link-index n a b ha hb ab =
    let low = ha.0 in
    let top = ha.1 in
    let r = (receiver_at n a b ha hb ab).0 in
    omega (arith, row-end (n - 1) {n = n} {i = a - 1} (omega arith))

-- A receiver is another box.
pub receiver-in : (n a i : ℕ) → In a n → i < n - 1
    → (In (get_or (others n a) i 0) n) × (a ≡ get_or (others n a) i 0 → ⊥)
receiver-in n a i ha h = go (ltb i (a - 1)) refl
  where
    low : 1 ≤ a
    low = ha.0

    top : a ≤ n
    top = ha.1

    go : (t : Bool) → ltb i (a - 1) ≡ t
        → (In (get_or (others n a) i 0) n) × (a ≡ get_or (others n a) i 0 → ⊥)
    go true e =
        let k = ltb-true i (a - 1) e in
        let r = others_below n a ha i k in
        ((omega arith, omega arith), λ z. omega arith)
    go false e =
        let k = ltb-false i (a - 1) e in
        let r = others-above n a ha i k h in
        ((omega arith, omega arith), λ z. omega arith)

-- The receiver at an index has that index.
pub receiver-index : (n a i : ℕ) → In a n → i < n - 1
    → receiver_index a (get_or (others n a) i 0) ≡ i
receiver-index n a i ha h = go (ltb i (a - 1)) refl
  where
    low : 1 ≤ a
    low = ha.0

    go : (t : Bool) → ltb i (a - 1) ≡ t → receiver_index a (get_or (others n a) i 0) ≡ i
    go true e =
        let k = ltb-true i (a - 1) e in
        let b : i + 1 < a = omega arith in
        rw (others_below n a ha i k, lt-ltb (i + 1) a b) (omega arith)
    go false e =
        let k = ltb-false i (a - 1) e in
        let b : a ≤ i + 2 = omega arith in
        rw (others-above n a ha i k h, le-ltb (i + 2) a b) (omega arith)

module _ {B : Type 0} (n : ℕ) (f : ℕ → ℕ → B) where
  abbrev senders : List ℕ
  senders = numbers_from 1 n

  abbrev sent : ℕ → List B
  sent a = map (f a) (others n a)

  sender-in : (i : ℕ) → i < length senders → In (get_or senders i 0) n
  sender-in i h =
      let k : i < n = omega (arith, length_from 1 n) in
      let e = from-at 1 n i 0 k in
      (omega arith, omega arith)

  length-sent : (a : ℕ) → In a n → length (sent a) ≡ n - 1
  length-sent a h = length-map (others n a) (f a) ∙ length-others n a h

  sent-at : (a i : ℕ) (d : B) → In a n → i < n - 1 → get_or (sent a) i d ≡ f a
      (get_or (others n a) i 0)
  sent-at a i d h k = map_at (f a) (others n a) i d 0 (omega (arith, length-others n a h))

  pub length_pairs : length (by_sender n f) ≡ n * (n - 1)
  unfolding by_sender
  length_pairs =
      length-chain sent (n - 1) 0 senders (λ i h. length-sent (get_or senders i 0) (sender-in i h))
      ∙ ap (λ (k : ℕ). k * (n - 1)) (length_from 1 n)

  -- What belongs to the pair a, b stands at its index.
  pub pairs-at : (a b : ℕ) (d : B) → In a n → In b n → (a ≡ b → ⊥)
      → get_or (by_sender n f) (link_index n a b) d ≡ f a b
  unfolding by_sender
  pairs-at a b d ha hb ab =
      let low = ha.0 in
      let top = ha.1 in
      let j = receiver_index a b in
      let r = receiver_at n a b ha hb ab in
      let i : a - 1 < length senders = omega (arith, length_from 1 n) in
      let e : get_or senders (a - 1) 0 ≡ a = from-at 1 n (a - 1) 0 (omega arith) ∙ omega arith in
      chain-at sent (n - 1) (a - 1) j d 0 senders
      (λ i h. length-sent (get_or senders i 0) (sender-in i h)) i r.0
      ∙ ap (λ (x : ℕ). get_or (sent x) j d) e ∙ sent-at a j d ha r.0 ∙ ap (f a) r.1

  -- What holds for every pair holds of all that is listed.
  pub all-pairs : (P : B → Type 0) (d : B)
      → ((a b : ℕ) → In a n → In b n → (a ≡ b → ⊥) → P (f a b)) → All P (by_sender n f)
  unfolding by_sender
  all-pairs P d h = all-chain P sent 0 senders (λ i k. of (get_or senders i 0) (sender-in i k))
    where
      of : (a : ℕ) → In a n → All P (sent a)
      of a ha =
          each-made (λ i. P) (sent a) d
          (λ i k.
          let j : i < n - 1 = omega (arith, length-sent a ha) in
          let r = receiver-in n a i ha j in
          rw (sent-at a i d ha j) (h a (get_or (others n a) i 0) ha r.0 r.1))

  -- What is told by a pair's index is listed by the indices.
  pub pairs_flat : (g : ℕ → B) (d : B)
      → ((a b : ℕ) → In a n → In b n → (a ≡ b → ⊥) → f a b ≡ g (link_index n a b))
      → by_sender n f ≡ map g (numbers_from 0 (n * (n - 1)))
  unfolding by_sender
  pairs_flat g d h =
      chain-from sent g (n - 1) 1 0 n of ∙ ap (λ (k : ℕ). map g (numbers_from k (n * (n - 1))))
      (zero-mul (n - 1))
    where
      of : (i : ℕ) → i < n → sent (1 + i) ≡ map g (numbers_from ((0 + i) * (n - 1)) (n - 1))
      of i k =
          let a = 1 + i in
          let ha : In a n = (omega arith, omega arith) in
          let row = numbers_from ((0 + i) * (n - 1)) (n - 1) in
          let count : length (map g row) ≡ n - 1 =
          length-map row g ∙ length_from ((0 + i) * (n - 1)) (n - 1) in
          ext_get_or d (sent a) (map g row) (length-sent a ha ∙ sym count)
          (λ j m.
          let b : j < n - 1 = omega (arith, length-sent a ha) in
          let r = receiver-in n a j ha b in
          let e : 0 + i ≡ a - 1 = omega arith in
          sent-at a j d ha b ∙ h a (get_or (others n a) j 0) ha r.0 r.1
          ∙ ap (λ (x : ℕ). g ((a - 1) * (n - 1) + x)) (receiver-index n a j ha b)
          ∙ sym
          (map_at g row j d 0 (omega (arith, length_from ((0 + i) * (n - 1)) (n - 1)))
          ∙ ap g (from-at ((0 + i) * (n - 1)) (n - 1) j 0 b
          ∙ ap (λ (x : ℕ). x * (n - 1) + j) e)))

-- Where every pair has the same, the same is listed.
pub pairs-same : {B : Type 0} (n : ℕ) (f g : ℕ → ℕ → B) (d : B)
    → ((a b : ℕ) → In a n → In b n → (a ≡ b → ⊥) → f a b ≡ g a b) → by_sender n f ≡ by_sender n g
pairs-same {B} n f g d h =
    let at : ℕ → B = λ k. get_or (by_sender n g) k d in
    pairs_flat n f at d (λ a b ha hb ab. h a b ha hb ab ∙ sym (pairs-at n g a b d ha hb ab))
    ∙ sym (pairs_flat n g at d (λ a b ha hb ab. sym (pairs-at n g a b d ha hb ab)))

pub length-links : (s : Site) → length (links_of s) ≡ s.n * (s.n - 1)
unfolding links_of
length-links s = length_pairs s.n s.link

pub links-at : (s : Site) (a b : ℕ) (d : List Letter) → In a s.n → In b s.n → (a ≡ b → ⊥)
    → get_or (links_of s) (link_index s.n a b) d ≡ s.link a b
unfolding links_of
links-at s = pairs-at s.n s.link

pub all-links : (s : Site) (P : List Letter → Type 0)
    → ((a b : ℕ) → In a s.n → In b s.n → (a ≡ b → ⊥) → P (s.link a b)) → All P (links_of s)
unfolding links_of
all-links s P h = all-pairs s.n s.link P [] h
