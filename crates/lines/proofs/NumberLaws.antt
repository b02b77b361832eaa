-- Numbers parted by one space, and what the reader makes of them, both ways.
use Prim.Native.Nat.{ℕ, zero, suc, ◌+◌, ◌-◌, ◌*◌, ◌/◌, ◌%◌, ◌^◌, ◌<◌, ◌≤◌}
use mathlib.Core.Path.{◌≡◌, refl, ap, sym, ◌∙◌, subst}
use mathlib.Core.Bool.{Bool, true, false, not, ◌&&◌, ◌||◌}
use mathlib.Core.List.{List, [], ◌∷◌, ◌++◌, append-nil, append_assoc}
use mathlib.Core.Logic.{⊎_elim}
use native.Mathlib.Omega.{arith}
use native.Mathlib.Nat.{mod-lt, div-add-mod'}
use lib.Dec.{ltb, eqb}
use lib.ListN.{length, drop, length-append}
use borrow.Author.Tests.{lt-ltb, le-ltb, ltb-true, ltb-false, eq-eqb, ne_eqb, eqb-true, eqb-false}
use borrow.Author.Tests.{not-false}
use Rattle.std.proofs.Common.{Option, Some, None}
use Rattle.rules.specs.Pick.{pick, pick_true, pick-false}
use Rattle.rules.specs.Every.{each}
use Rattle.laws.proofs.Logic.{pick_elim, and_yes, and_both, or_no, both-no}
use Rattle.print.specs.Decimal.{decimal_of, decimal, spaced}
use Rattle.print.proofs.DecimalLaws.{one_or_more, one-digit, more-digits, tenth_below, grows}
use Rattle.print.proofs.DecimalLaws.{few-digits}
use Rattle.lines.specs.Read.{no_numbers, grown, with_grown, finished, byte_read, bytes_read}
use Rattle.lines.specs.Read.{numbers_of}
use Rattle.lines.specs.Printed.{parted}
use Rattle.lines.specs.declared.Numbers.{Numbers}

-- below 2^32
abbrev pub small : ℕ → Bool
small x = ltb x 4294967296

-- ---- what is shown by the numbers read so far

-- the last k of a, b, c and d
abbrev pub last_of : ℕ → Numbers → List ℕ
last_of k n = drop (4 - k) (n.a ∷ n.b ∷ n.c ∷ n.d ∷ [])

last_more : (k : ℕ) (n : Numbers) → k < 4
    → last_of (k + 1) (finished n) ≡ last_of k n ++ (n.value ∷ [])
unfolding finished
last_more zero n h = refl
last_more (suc zero) n h = refl
last_more (suc (suc zero)) n h = refl
last_more (suc (suc (suc zero))) n h = refl
last_more (suc (suc (suc (suc k)))) n h = absurd (omega arith)

-- each number with the space that ended it
ended : List ℕ → List ℕ
ended [] = []
ended (x ∷ xs) = decimal x ++ (32 ∷ ended xs)

ended_append : (xs ys : List ℕ) → ended (xs ++ ys) ≡ ended xs ++ ended ys
unfolding ended
ended_append [] ys = refl
ended_append (x ∷ xs) ys =
    ap (λ (t : List ℕ). decimal x ++ (32 ∷ t)) (ended_append xs ys)
    ∙ sym (append_assoc (decimal x) (32 ∷ ended xs) (ended ys))

-- the number that has begun
begun_text : Bool → ℕ → List ℕ
begun_text true v = decimal v
begun_text false v = []

shown : Numbers → List ℕ
shown n = ended (last_of n.count n) ++ begun_text n.begun n.value

-- the last of several numbers has no space behind it
spaced-is : (x : ℕ) (xs : List ℕ) → spaced (x ∷ xs) ≡ 32 ∷ parted (x ∷ xs)
unfolding spaced
spaced-is x xs = refl

parted-last : (xs : List ℕ) (v : ℕ) → ended xs ++ decimal v ≡ parted (xs ++ (v ∷ []))
unfolding ended spaced
parted-last [] v = sym (append-nil (decimal v))
parted-last (x ∷ []) v =
    append_assoc (decimal x) (32 ∷ []) (decimal v)
    ∙ ap (λ (t : List ℕ). decimal x ++ (32 ∷ t)) (sym (append-nil (decimal v)))
parted-last (x ∷ y ∷ ys) v =
    append_assoc (decimal x) (32 ∷ ended (y ∷ ys)) (decimal v)
    ∙ ap (λ (t : List ℕ). decimal x ++ (32 ∷ t)) (parted-last (y ∷ ys) v)

-- ---- what was read is what is shown, as long as nothing was bad

record Sound (n : Numbers) (s : List ℕ) : Type 0 where
  good : n.bad ≡ false
  few : n.count ≤ 4
  value : n.value < 4294967296
  none : n.begun ≡ false → n.value ≡ 0
  a : n.a < 4294967296
  b : n.b < 4294967296
  c : n.c < 4294967296
  d : n.d < 4294967296
  bytes : s ≡ shown n

sound_none : Sound no_numbers []
unfolding shown ended begun_text
sound_none = record {
  good = refl;
  few = omega arith;
  value = omega arith;
  none = λ e. refl;
  a = omega arith;
  b = omega arith;
  c = omega arith;
  d = omega arith;
  bytes = refl;
}

-- a number can be finished: it has begun, and it is at most the fourth
can-finish : (n : Numbers) → (finished n).bad ≡ false → (n.begun ≡ true) × (n.count < 4)
unfolding finished
can-finish n e =
    let o = or_no n.bad (not (n.begun && ltb n.count 4)) e in
    let p = and_yes n.begun (ltb n.count 4) (not-false _ o.1) in
    (p.0, ltb-true n.count 4 p.1)

count-more : (n : Numbers) → n.count < 4 → (finished n).count ≡ n.count + 1
unfolding finished
count-more n h = pick_true _ _ _ (lt-ltb n.count 4 h)

begun-shown : (n : Numbers) (s : List ℕ) → n.begun ≡ true → s ≡ shown n
    → s ≡ ended (last_of n.count n) ++ decimal n.value
unfolding shown begun_text
begun-shown n s t e =
    e ∙ ap (λ (u : Bool). ended (last_of n.count n) ++ begun_text u n.value) t

finished-shown : (n : Numbers) → n.count < 4
    → last_of (finished n).count (finished n) ≡ last_of n.count n ++ (n.value ∷ [])
finished-shown n h =
    ap (λ (k : ℕ). last_of k (finished n)) (count-more n h) ∙ last_more n.count n h

sound_space : (n : Numbers) (s : List ℕ) → Sound n s → (finished n).bad ≡ false
    → Sound (finished n) (s ++ (32 ∷ []))
unfolding finished shown begun_text ended
sound_space n s w e =
    let p = can-finish n e in
    record {
      good = e;
      few = omega (arith, count-more n p.1, p.1);
      value = omega arith;
      none = λ e. refl;
      a = w.b;
      b = w.c;
      c = w.d;
      d = w.value;
      bytes =
          ap (λ (t : List ℕ). t ++ (32 ∷ [])) (begun-shown n s p.0 w.bytes)
          ∙ (append_assoc (ended (last_of n.count n)) (decimal n.value) (32 ∷ [])
          ∙ (sym (ended_append (last_of n.count n) (n.value ∷ []))
          ∙ (ap ended (sym (finished-shown n p.1))
          ∙ sym (append-nil (ended (last_of (finished n).count (finished n)))))));
    }

-- a byte that goes on with a decimal
record Digit (begun : Bool) (v b u : ℕ) : Type 0 where
  least : 48 ≤ b
  most : b ≤ 57
  front : (begun && eqb v 0) ≡ false
  fits : u < 4294967296
  is : u ≡ v * 10 + (b - 48)

not-bad : (t : Bool) (g : Option ℕ) (u : ℕ) → pick t None g ≡ Some u
    → (t ≡ false) × (g ≡ Some u)
unfolding pick
not-bad true g u e = absurd (let z : ◌≡◌ {A = ℕ} 0 1 = cc in omega arith)
not-bad false g u e = (refl, e)

digit-is : (begun : Bool) (v b u : ℕ) → grown begun v b ≡ Some u → Digit begun v b u
unfolding grown
digit-is begun v b u e =
    let p = not-bad (ltb b 48) _ u e in
    let q = not-bad (ltb 57 b) _ u p.1 in
    let r = not-bad (begun && eqb v 0) _ u q.1 in
    let s = not-bad (ltb 4294967295 (v * 10 + (b - 48))) _ u r.1 in
    let is : u ≡ v * 10 + (b - 48) = cc s.1 in
    record {
      least = ltb-false b 48 p.0;
      most = ltb-false 57 b q.0;
      front = r.0;
      fits = omega (arith, ltb-false 4294967295 (v * 10 + (b - 48)) s.0);
      is = is;
    }

-- the decimal grows by the byte; a first byte is the decimal
digit-shown : (t : Bool) (v b u : ℕ) → Digit t v b u → v < 4294967296 → (t ≡ false → v ≡ 0)
    → begun_text t v ++ (b ∷ []) ≡ decimal u
unfolding begun_text
digit-shown true v b u w h z =
    let p : 0 < v = omega (arith, eqb-false v 0 w.front) in
    let d : b - 48 < 10 = omega (arith, w.least, w.most) in
    let e : 48 + (b - 48) ≡ b = omega (arith, w.least) in
    let big : v < 10 ^ 19 = omega arith in
    sym
    (ap decimal w.is
    ∙ (grows v (b - 48) p big d ∙ ap (λ (x : ℕ). decimal v ++ (x ∷ [])) e))
digit-shown false v b u w h z =
    let e : u ≡ b - 48 = omega (arith, w.is, z refl) in
    let d : u < 10 = omega (arith, w.least, w.most) in
    let f : b ≡ 48 + u = omega (arith, w.least) in
    ap (λ (x : ℕ). x ∷ []) f ∙ sym (one-digit 19 u d)

sound-digit : (n : Numbers) (s : List ℕ) (b u : ℕ) → Sound n s
    → grown n.begun n.value b ≡ Some u
    → Sound (with_grown n (Some u)) (s ++ (b ∷ []))
unfolding shown begun_text
sound-digit n s b u w e =
    let g = digit-is n.begun n.value b u e in
    let front = ended (last_of n.count n) in
    record {
      good = w.good;
      few = w.few;
      value = g.fits;
      none = λ t. absurd (both-no refl t);
      a = w.a;
      b = w.b;
      c = w.c;
      d = w.d;
      bytes =
          ap (λ (t : List ℕ). t ++ (b ∷ [])) w.bytes
          ∙ (append_assoc front (begun_text n.begun n.value) (b ∷ [])
          ∙ ap (λ (t : List ℕ). front ++ t)
          (digit-shown n.begun n.value b u g w.value w.none));
    }

sound_byte : (n : Numbers) (s : List ℕ) (b : ℕ) → Sound n s → (byte_read n b).bad ≡ false
    → Sound (byte_read n b) (s ++ (b ∷ []))
unfolding byte_read pick
sound_byte n s b w = by (eqb b 32) refl
  where
    grown-sound : (g : Option ℕ) → grown n.begun n.value b ≡ g → (with_grown n g).bad ≡ false
        → Sound (with_grown n g) (s ++ (b ∷ []))
    grown-sound (Some u) d e = sound-digit n s b u w d
    grown-sound None d e = absurd (both-no refl e)

    by : (t : Bool) → eqb b 32 ≡ t
        → (pick t (finished n) (with_grown n (grown n.begun n.value b))).bad ≡ false
        → Sound (pick t (finished n) (with_grown n (grown n.begun n.value b))) (s ++ (b ∷ []))
    by true d e =
        let f = eqb-true b 32 d in
        subst (λ (x : ℕ). Sound (finished n) (s ++ (x ∷ []))) (sym f) (sound_space n s w e)
    by false d e = grown-sound (grown n.begun n.value b) refl e

-- what is bad stays bad
bad_byte : (n : Numbers) (b : ℕ) → n.bad ≡ true → (byte_read n b).bad ≡ true
unfolding byte_read finished
bad_byte n b e =
    pick_elim (λ (m : Numbers). m.bad ≡ true) (eqb b 32) (λ t. rw e refl)
    (λ t. of (grown n.begun n.value b))
  where
    of : (g : Option ℕ) → (with_grown n g).bad ≡ true
    of (Some u) = e
    of None = refl

bad-stays : (s : List ℕ) (n : Numbers) → n.bad ≡ true → (bytes_read n s).bad ≡ true
unfolding bytes_read
bad-stays [] n e = e
bad-stays (b ∷ s) n e = bad-stays s (byte_read n b) (bad_byte n b e)

good-before : (s : List ℕ) (n : Numbers) (t : Bool) → n.bad ≡ t → (bytes_read n s).bad ≡ false
    → n.bad ≡ false
good-before s n true d e = absurd (both-no (bad-stays s n d) e)
good-before s n false d e = d

sound-all : (s : List ℕ) (n : Numbers) (p : List ℕ) → Sound n p → (bytes_read n s).bad ≡ false
    → Sound (bytes_read n s) (p ++ s)
unfolding bytes_read
sound-all [] n p w e = subst (λ (t : List ℕ). Sound n t) (sym (append-nil p)) w
sound-all (b ∷ s) n p w e =
    let g = good-before s (byte_read n b) (byte_read n b).bad refl e in
    subst (λ (t : List ℕ). Sound (bytes_read (byte_read n b) s) t) (append_assoc p (b ∷ []) s)
    (sound-all s (byte_read n b) (p ++ (b ∷ [])) (sound_byte n p b w g) e)

good-last : (n : Numbers) → (finished n).bad ≡ false → n.bad ≡ false
unfolding finished
good-last n e = (or_no n.bad _ e).0

-- numbers that are not bad are the text, parted by one space, and each is below 2^32
pub record Parted (n : Numbers) (s : List ℕ) : Type 0 where
  pub bytes : s ≡ parted (last_of n.count n)
  pub range : each small (last_of n.count n) ≡ true

each-drop : (i : ℕ) (xs : List ℕ) → each small xs ≡ true → each small (drop i xs) ≡ true
unfolding each
each-drop zero xs e = e
each-drop (suc i) [] e = e
each-drop (suc i) (x ∷ xs) e = each-drop i xs (and_yes (small x) (each small xs) e).1

range-of : (k : ℕ) (n : Numbers) → n.a < 4294967296 → n.b < 4294967296 → n.c < 4294967296
    → n.d < 4294967296 → each small (last_of k n) ≡ true
unfolding each
range-of k n p q r s =
    each-drop (4 - k) (n.a ∷ n.b ∷ n.c ∷ n.d ∷ [])
    (and_both (lt-ltb _ _ p)
    (and_both (lt-ltb _ _ q) (and_both (lt-ltb _ _ r) (and_both (lt-ltb _ _ s) refl))))

pub read-parted : (s : List ℕ) → (numbers_of s).bad ≡ false → Parted (numbers_of s) s
unfolding finished
read-parted s e =
    let m = bytes_read no_numbers s in
    let g = good-last m e in
    let p = can-finish m e in
    let w = sound-all s no_numbers [] sound_none g in
    record {
      bytes =
          begun-shown m s p.0 w.bytes
          ∙ (parted-last (last_of m.count m) m.value
          ∙ ap parted (sym (finished-shown m p.1)));
      range = range-of (finished m).count (finished m) w.b w.c w.d w.value;
    }

-- ---- the other way: a text of such numbers is read

pub read_append : (n : Numbers) (s t : List ℕ)
    → bytes_read n (s ++ t) ≡ bytes_read (bytes_read n s) t
unfolding bytes_read
read_append n [] t = refl
read_append n (b ∷ s) t = read_append (byte_read n b) s t

-- one digit more; a zero in front has nothing behind it
digit-read : (n : Numbers) (v d : ℕ) → n.value ≡ v → d < 10 → (n.begun && eqb v 0) ≡ false
    → v * 10 + d < 4294967296 → byte_read n (48 + d) ≡ with_grown n (Some (v * 10 + d))
unfolding byte_read grown
digit-read n v d e h f r =
    let minus : 48 + d - 48 ≡ d = omega arith in
    let space : 48 + d ≡ 32 → ⊥ = λ q. omega arith in
    pick-false _ _ _ (ne_eqb (48 + d) 32 space)
    ∙ ap (with_grown n)
    (ap (λ (x : ℕ). grown n.begun x (48 + d)) e
    ∙ (pick-false _ _ _ (le-ltb (48 + d) 48 (omega arith))
    ∙ (pick-false _ _ _ (le-ltb 57 (48 + d) (omega arith))
    ∙ (pick-false _ _ _ f
    ∙ (ap (λ (x : ℕ). pick (ltb 4294967295 (v * 10 + x)) None (Some (v * 10 + x))) minus
    ∙ pick-false _ _ _ (le-ltb 4294967295 (v * 10 + d) (omega arith)))))))

no_front : (t : Bool) (v : ℕ) → 0 < v → (t && eqb v 0) ≡ false
no_front true v h = ne_eqb v 0 (λ e. omega arith)
no_front false v h = refl

one-read : (f v : ℕ) (n : Numbers) → v < 10 → n.begun ≡ false → n.value ≡ 0
    → bytes_read n (decimal_of f v) ≡ with_grown n (Some v)
unfolding bytes_read
one-read f v n h e z =
    let zero-first : (n.begun && eqb 0 0) ≡ false = rw e refl in
    let same : 0 * 10 + v ≡ v = omega arith in
    ap (bytes_read n) (one-digit f v h)
    ∙ (digit-read n 0 v z h zero-first (omega arith)
    ∙ ap (λ (x : ℕ). with_grown n (Some x)) same)

decimal-read : (f v : ℕ) (n : Numbers) → v < 10 ^ suc f → v < 4294967296 → n.begun ≡ false
    → n.value ≡ 0 → bytes_read n (decimal_of f v) ≡ with_grown n (Some v)
unfolding bytes_read
decimal-read zero v n h r e z = one-read 0 v n h e z
decimal-read (suc f) v n h r e z =
    ⊎_elim
    (λ l. one-read (suc f) v n l e z)
    (λ l.
    let ten : 0 < 10 = omega arith in
    let q : v / 10 * 10 + v % 10 ≡ v = div-add-mod' v 10 in
    let d : v % 10 < 10 = mod-lt v ten in
    let m = with_grown n (Some (v / 10)) in
    ap (bytes_read n) (more-digits f v l)
    ∙ (read_append n (decimal_of f (v / 10)) ((48 + v % 10) ∷ [])
    ∙ (ap (λ (k : Numbers). byte_read k (48 + v % 10))
    (decimal-read f (v / 10) n (tenth_below (suc f) v h) (omega arith) e z)
    ∙ (digit-read m (v / 10) (v % 10) refl d (ne_eqb (v / 10) 0 (λ e. omega arith)) (omega arith)
    ∙ ap (λ (x : ℕ). with_grown n (Some x)) q))))
    (one_or_more v)

-- a number put behind the others, with nothing begun
abbrev pub pushed : Numbers → ℕ → Numbers
pushed n x = record {
  bad = n.bad;
  begun = false;
  value = 0;
  count = n.count + 1;
  a = n.b;
  b = n.c;
  c = n.d;
  d = x;
}

abbrev pub pushed_all : Numbers → List ℕ → Numbers
pushed_all n [] = n
pushed_all n (x ∷ xs) = pushed_all (pushed n x) xs

finish-one : (n : Numbers) (x : ℕ) → n.bad ≡ false → n.count < 4
    → finished (with_grown n (Some x)) ≡ pushed n x
unfolding finished
finish-one n x g h =
    let t = lt-ltb n.count 4 h in
    let one : (n.bad || not (true && ltb n.count 4)) ≡ n.bad = rw (t, g) refl in
    ap (λ (b : Bool). record {
      bad = b;
      begun = false;
      value = 0;
      count = pick (ltb n.count 4) (n.count + 1) n.count;
      a = n.b;
      b = n.c;
      c = n.d;
      d = x;
    }) one
    ∙ ap (λ (k : ℕ). record {
      bad = n.bad;
      begun = false;
      value = 0;
      count = k;
      a = n.b;
      b = n.c;
      c = n.d;
      d = x;
    }) (pick_true _ _ _ t)

pub numbers-read : (x : ℕ) (xs : List ℕ) (n : Numbers) → n.bad ≡ false → n.begun ≡ false
    → n.value ≡ 0 → n.count + length (x ∷ xs) ≤ 4 → each small (x ∷ xs) ≡ true
    → finished (bytes_read n (parted (x ∷ xs))) ≡ pushed_all n (x ∷ xs)
unfolding bytes_read byte_read spaced each
numbers-read x [] n g e z h r =
    let s = ltb-true x 4294967296 (and_yes (small x) true r).0 in
    let big : x < 10 ^ 20 = omega arith in
    ap (λ (t : List ℕ). finished (bytes_read n t)) (append-nil (decimal x))
    ∙ (ap finished (decimal-read 19 x n big s e z) ∙ finish-one n x g (omega arith))
numbers-read x (y ∷ ys) n g e z h r =
    let p = and_yes (small x) (each small (y ∷ ys)) r in
    let s = ltb-true x 4294967296 p.0 in
    let big : x < 10 ^ 20 = omega arith in
    ap finished
    (read_append n (decimal x) (32 ∷ parted (y ∷ ys))
    ∙ (ap (λ (m : Numbers). bytes_read (byte_read m 32) (parted (y ∷ ys)))
    (decimal-read 19 x n big s e z)
    ∙ ap (λ (m : Numbers). bytes_read m (parted (y ∷ ys)))
    (pick_true _ _ _ (eq-eqb 32 32 refl) ∙ finish-one n x g (omega arith))))
    ∙ numbers-read y ys (pushed n x) g refl refl (omega arith) p.1

-- each number has at most ten digits and a space
pub spaced-short : (xs : List ℕ) → each small xs ≡ true → length (spaced xs) ≤ 11 * length xs
unfolding spaced each
spaced-short [] r = omega arith
spaced-short (x ∷ xs) r =
    let p = and_yes (small x) (each small xs) r in
    let s = ltb-true x 4294967296 p.0 in
    let big : x < 10 ^ suc 9 = omega arith in
    omega (
      arith,
      few-digits 19 9 x big,
      spaced-short xs p.1,
      length-append (decimal x) (spaced xs),
    )

pub parted-short : (xs : List ℕ) → each small xs ≡ true → length (parted xs) ≤ 11 * length xs
unfolding spaced each
parted-short [] r = omega arith
parted-short (x ∷ xs) r = omega (arith, spaced-short (x ∷ xs) r)
