-- `Core` and `Ranks` after one box changes; and all clauses on stores where none changes.
use Prim.Native.Nat.{ℕ, ◌%◌, ◌≤◌}
use mathlib.Core.Path.{◌≡◌, sym, ap, ◌∙◌}
use mathlib.Core.Bool.{Bool, true, false}
use native.Mathlib.Omega.{arith}
use lib.Dec.{eqb}
use Rattle.rules.specs.Box.{Box}
use Rattle.rules.specs.Site.{upd}
use Rattle.laws.proofs.Logic.{Or, left, right, In, decide, eqb_no}
use Rattle.laws.proofs.Counts.{Major}
use Rattle.laws.proofs.FrameLaws.{upd-all}
use Rattle.laws.proofs.View.{Store, store}
use Rattle.safety.proofs.Inv.{Agreement, BoxOk, Core, Ranks, Ripe}

-- ---- the box d becomes v, and keeps or raises its pn and its last

module _ {n : ℕ} {box : ℕ → Box} {g : Agreement} (k : Core n box g) (d : ℕ) (v : Box)
    (d-in : In d n)
    (ok : BoxOk g (g.by d) (store v))
    (pn-up : (store (box d)).pn ≤ (store v).pn)
    (last_up : (store (box d)).last ≤ (store v).last) where
  pns-up : (b : ℕ) → (store (box b)).pn ≤ (store (upd box d v b)).pn
  pns-up = upd-all (λ b y. (store (box b)).pn ≤ (store y).pn) box d pn-up (λ b. omega arith)

  lasts-up : (b : ℕ) → (store (box b)).last ≤ (store (upd box d v b)).last
  lasts-up = upd-all (λ b y. (store (box b)).last ≤ (store y).last) box d last_up (λ b. omega arith)

  -- the majority N' promised its stored pn
  pub core-put : (N' : ℕ → Bool) → Major n N'
      → ((b : ℕ) → In b n → N' b ≡ true → (store v).stored_pn ≤ (store (box b)).pn)
      → Core n (upd box d v) g
  core-put N' N-maj N-le = record {
    boxes = upd-all (λ b y. In b n → BoxOk g (g.by b) (store y)) box d (λ l. ok) k.boxes;
    major = k.major;
    top = k.top;
    top_in = k.top_in;
    topped = omega (arith, k.topped, lasts-up k.top);
    N = upd k.N d N';
    N-major = upd-all (λ x f. In x n → Major n f) k.N d (λ l. N-maj) k.N-major;
    N-pn = λ x b hx hb. at x b hx hb (decide (eqb x d));
  }
    where
      at : (x b : ℕ) → In x n → In b n → Or (eqb x d ≡ true) (eqb x d ≡ false)
          → upd k.N d N' x b ≡ true
          → (store (upd box d v x)).stored_pn ≤ (store (upd box d v b)).pn
      at x b hx hb (left e) = rw e (λ t. omega (arith, N-le b hb t, pns-up b))
      at x b hx hb (right e) = rw e (λ t. omega (arith, k.N-pn x b hx hb t, pns-up b))

  -- the stored pn stays
  pub core-kept : (store v).stored_pn ≡ (store (box d)).stored_pn → Core n (upd box d v) g
  core-kept e =
      core-put (k.N d) (k.N-major d d-in) (λ b h t. omega (arith, e, k.N-pn d b d-in h t))

module _ {n : ℕ} {box : ℕ → Box} (u : Ranks n box) (d : ℕ) (v : Box) where
  pub ranks-put : (store (box d)).pn ≤ (store v).pn
      → ((x : ℕ) → In x n → (x ≡ d → ⊥) → (store v).pn % 100 ≡ x
      → (store v).pn ≤ (store (box x)).pn)
      → ((x : ℕ) → In x n → (store v).stored_pn % 100 ≡ x
      → (store v).stored_pn ≤ (store (box x)).pn)
      → Ranks n (upd box d v)
  ranks-put pn-up pn-ok stored_ok = record {
    few = u.few;
    pns = λ x.
        upd-all (λ b y. In x n → In b n → (store y).pn % 100 ≡ x → (store y).pn ≤ Now x) box d
        (mine x)
        (λ b hx hb r. omega (arith, u.pns x b hx hb r, ups x));
    stored_pns = λ x.
        upd-all (λ b y. In x n → In b n → (store y).stored_pn % 100 ≡ x
        → (store y).stored_pn ≤ Now x)
        box d
        (λ hx hb r. omega (arith, stored_ok x hx r, ups x))
        (λ b hx hb r. omega (arith, u.stored_pns x b hx hb r, ups x));
  }
    where
      Now : ℕ → ℕ
      Now x = (store (upd box d v x)).pn

      ups : (b : ℕ) → (store (box b)).pn ≤ (store (upd box d v b)).pn
      ups = upd-all (λ b y. (store (box b)).pn ≤ (store y).pn) box d pn-up (λ b. omega arith)

      mine : (x : ℕ) → In x n → In d n → (store v).pn % 100 ≡ x
          → (store v).pn ≤ (store (upd box d v x)).pn
      mine x hx hd r = go (decide (eqb x d))
        where
          go : Or (eqb x d ≡ true) (eqb x d ≡ false) → (store v).pn ≤ (store (upd box d v x)).pn
          go (left e) = rw e (omega arith)
          go (right e) = omega (arith, pn-ok x hx (eqb_no x d e) r, ups x)

  -- its pn and its stored pn stay
  pub ranks-kept : In d n → (store v).pn ≡ (store (box d)).pn
      → (store v).stored_pn ≡ (store (box d)).stored_pn
      → Ranks n (upd box d v)
  ranks-kept d-in e f =
      ranks-put (omega arith)
      (λ x hx ne r. rw e (u.pns x d hx d-in (rw e at r)))
      (λ x hx r. rw f (u.stored_pns x d hx d-in (rw f at r)))

-- ---- all boxes keep their stores

module _ (box box' : ℕ → Box) (e : (b : ℕ) → store (box' b) ≡ store (box b)) where
  pn : (b : ℕ) → (store (box' b)).pn ≡ (store (box b)).pn
  pn b = ap (λ (t : Store). t.pn) (e b)

  stored_pn : (b : ℕ) → (store (box' b)).stored_pn ≡ (store (box b)).stored_pn
  stored_pn b = ap (λ (t : Store). t.stored_pn) (e b)

  pub core-same : {n : ℕ} {g : Agreement} → Core n box g → Core n box' g
  core-same k = record {
    boxes = λ b h. rw (e b) (k.boxes b h);
    major = k.major;
    top = k.top;
    top_in = k.top_in;
    topped = omega (arith, k.topped, ap (λ (t : Store). t.last) (e k.top));
    N = k.N;
    N-major = k.N-major;
    N-pn = λ x b h j t. omega (arith, k.N-pn x b h j t, stored_pn x, pn b);
  }

  pub ripe-same : {n w P l : ℕ} {g : Agreement} → Ripe n w box g P l → Ripe n w box' g P l
  ripe-same k = record {
    pns = λ b h t. pn b ∙ k.pns b h t;
    stored_pns = λ b h. omega (arith, k.stored_pns b h, stored_pn b);
    mine = λ b h t. k.mine b h (sym (stored_pn b) ∙ t);
    top = k.top;
    under = k.under;
    lasts = λ b h t. omega (arith, k.lasts b h t, ap (λ (t : Store). t.last) (e b));
  }

  pub ranks-same : {n : ℕ} → Ranks n box → Ranks n box'
  ranks-same u = record {
    few = u.few;
    pns = λ x b h j r. omega (arith, pn x, pn b, u.pns x b h j (ranked (pn b) r));
    stored_pns = λ x b h j r.
        omega (arith, pn x, stored_pn b, u.stored_pns x b h j (ranked (stored_pn b) r));
  }
    where
      ranked : {a b x : ℕ} → a ≡ b → a % 100 ≡ x → b % 100 ≡ x
      ranked k r = ap (λ (t : ℕ). t % 100) (sym k) ∙ r
