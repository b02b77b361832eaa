-- The way from a leader to another box and back, as one list: the letters that come back, then
-- those that go out. An answer takes the place of the mail that it answers.
use Prim.Native.Nat.{ℕ, ◌<◌}
use mathlib.Core.Path.{◌≡◌, refl, sym}
use mathlib.Core.Bool.{Bool, true, false, cond}
use mathlib.Core.List.{List, [], ◌∷◌, ◌++◌, append-nil}
use Rattle.rules.specs.Sets.{has}
use Rattle.rules.specs.Box.{Letter, letter_of}
use Rattle.rules.specs.Site.{posted}
use Rattle.laws.proofs.Types.{Kind, Mail, Out}
use Rattle.laws.proofs.Logic.{eqb_same, cond_elim, All, nil, cons, All-append}
use Rattle.laws.proofs.View.{Links}

-- ---- what stands on it

-- what a mail is to a lease: a Begin and an Accept 1, a Lease 2, a LeaseAck 3
abbrev pub part : Kind → ℕ
part Kind.Collect = 0
part Kind.Last = 0
part Kind.Begin = 1
part Kind.Accept = 1
part Kind.Commit = 0
part Kind.Lease = 2
part Kind.LeaseAck = 3

abbrev pub part_of : Letter → ℕ
part_of y = part y.head.kind

-- neither a Lease nor a LeaseAck
abbrev pub Other : Letter → Type 0
Other y = part_of y < 2

-- a Begin or an Accept of number l+1
abbrev pub Asks : ℕ → Letter → Type 0
Asks l y = (part_of y ≡ 1) × (y.head.last ≡ l)

-- behind such a one there is neither a Lease nor a LeaseAck
abbrev pub Ordered : ℕ → List Letter → Type 0
Ordered l [] = Unit {0}
Ordered l (y ∷ ys) = (Asks l y → All Other ys) × Ordered l ys

module _ (l : ℕ) where
  pub ordered-other : (ys : List Letter) → All Other ys → Ordered l ys
  ordered-other [] h = tt
  ordered-other (y ∷ ys) (cons p ps) = (λ a. ps, ordered-other ys ps)

  -- where none stood, one goes to the end
  pub ordered_end : (ys zs : List Letter) → All (λ y. Asks l y → ⊥) ys → All Other zs
      → Ordered l (ys ++ zs)
  ordered_end [] zs n h = ordered-other zs h
  ordered_end (y ∷ ys) zs (cons p ps) h = (λ a. absurd (p a), ordered_end ys zs ps h)

-- ---- others in the place of one letter

-- what the letters of `new` must be to stand in the place of y
pub record InPlace (l : ℕ) (y : Letter) (new : List Letter) : Type 0 where
  pub asks : All (λ z. Asks l z → Asks l y) new
  pub other : Other y → All Other new
  pub ordered : Ordered l new

module _ (y : Letter) (new back : List Letter) where
  pub all-place : (P : Letter → Type 0) (front : List Letter) → (P y → All P new)
      → All P (front ++ (y ∷ back)) → All P (front ++ (new ++ back))
  all-place P [] f (cons p ps) = All-append (f p) ps
  all-place P (x ∷ front) f (cons p ps) = cons p (all-place P front f ps)

  pub ordered-place : (l : ℕ) (front : List Letter) → InPlace l y new
      → Ordered l (front ++ (y ∷ back)) → Ordered l (front ++ (new ++ back))
  ordered-place l [] p o = go new p.asks p.ordered
    where
      go : (zs : List Letter) → All (λ z. Asks l z → Asks l y) zs → Ordered l zs
          → Ordered l (zs ++ back)
      go [] n q = o.1
      go (z ∷ zs) (cons m ms) q = (λ a. All-append (q.0 a) (o.0 (m a)), go zs ms q.1)
  ordered-place l (x ∷ front) p o =
      (λ a. all-place Other front p.other (o.0 a), ordered-place l front p o.1)

-- ---- what is sent

-- what of it goes to box b
unfoldable pub sends : ℕ → Out → List ℕ → List Letter
sends b Out.Nothing rs = []
sends b (Out.To set m) rs = cond (has set b) (letter_of m rs ∷ []) []

module _ (b : ℕ) where
  pub all-sends : {P : Letter → Type 0} (set : ℕ) (m : Mail) (rs : List ℕ)
      → (has set b ≡ true → P (letter_of m rs)) → All P (sends b (Out.To set m) rs)
  unfolding sends
  all-sends {P} set m rs h = cond_elim (All P) (has set b) (λ e. cons (h e) nil) (λ e. nil)

  pub ordered-sends : (l : ℕ) (out : Out) (rs : List ℕ) → Ordered l (sends b out rs)
  unfolding sends
  ordered-sends l Out.Nothing rs = tt
  ordered-sends l (Out.To set m) rs =
      cond_elim (Ordered l) (has set b) (λ e. (λ a. nil, tt)) (λ e. tt)

  -- the sender's link to b
  pub posted-own : (link : Links) (c : ℕ) (out : Out) (rs : List ℕ)
      → posted link c out rs c b ≡ link c b ++ sends b out rs
  unfolding posted sends
  posted-own link c Out.Nothing rs = sym (append-nil (link c b))
  posted-own link c (Out.To set m) rs = rw (eqb_same c) (go (has set b))
    where
      go : (t : Bool)
          → cond t (link c b ++ (letter_of m rs ∷ [])) (link c b)
          ≡ link c b ++ cond t (letter_of m rs ∷ []) []
      go true = refl
      go false = sym (append-nil (link c b))
