-- The list of an undamaged image: no number differs, and every count is true.
use mathlib.Core.Path.{◌≡◌, refl, sym, ap, ◌∙◌}
use mathlib.Core.Bool.{true, false}
use Prim.Native.Nat.{ℕ, zero, suc, ◌+◌, ◌≤◌}
use native.Mathlib.Omega.{arith}
use mathlib.Core.List.{List, ◌∷◌, map}
use lib.Dec.{leb}
use lib.ListN.{length}
use borrow.Author.Tests.{leb-true, le-leb}
use Rattle.rules.specs.Sizes.{most_boxes}
use Rattle.rules.specs.Site.{Site}
use Rattle.rules.specs.Form.{form}
use Rattle.rules.specs.Step.{run}
use Rattle.rules.proofs.BoundLaws.{first-of, second-of}
use Rattle.laws.proofs.FormLaws.{form-says, proper-some}
use Rattle.safety.specs.Demand3.{In, Agreed, record_at, start}
use Rattle.safety.proofs.Demand.{demand_3}
use Rattle.safety.proofs.Safe.{same-n}
use Rattle.image.specs.Image.{numbers_from, box_body, image_of}
use Rattle.found.specs.Found.{is_kept}
use Rattle.salvage.specs.Table.{most_bytes, boxes_in, box_body_of}
use Rattle.salvage.specs.Loads.{kept_in, kept_by, held, record_text, load_text}
use Rattle.salvage.specs.Block.{readable}
use Rattle.salvage_safety.specs.Undamaged.{keeps_at, how_many, line_of, Listed, Undamaged}
use Rattle.salvage_safety.proofs.BoxLaws.{kept-not, kept_record}
use Rattle.salvage_safety.proofs.HeldLaws.{count-true, all_same, tally-some, line-is}
use Rattle.salvage_safety.proofs.HeldLaws.{line-none}
use Rattle.salvage_safety.proofs.SiteLaws.{table-sound, n-is, general-found, box-good}
use Rattle.salvage_safety.proofs.SiteLaws.{body_is, box-found}

module _ (s : Site) (f : form s ≡ true) where
  abbrev im : List ℕ
  im = image_of s

  few : s.n ≤ most_boxes
  few = (form-says f).sizes.few-boxes

  module _ (k : ℕ) where
    -- what box b keeps, by the site
    abbrev keeps : ℕ → ℕ
    keeps b = kept_in true s.n (box_body s.n (s.box b)) k

    keeps-no : (b : ℕ) → 1 ≤ b → b ≤ s.n → keeps_at s k b ≡ false → keeps b ≡ 0
    keeps-no b l h e =
        kept-not s.n s.J b few (form-says f).sizes.few-loads (s.box b)
        (box-good s f b (l, h)) k e

    keeps_record : (b : ℕ) → 1 ≤ b → b ≤ s.n → keeps_at s k b ≡ true
        → keeps b ≡ record_at (s.box b) k
    keeps_record b l h e =
        kept_record s.n s.J b few (form-says f).sizes.few-loads (s.box b)
        (box-good s f b (l, h)) k e

    same-list : (a m : ℕ) → 1 ≤ a → a + m ≤ s.n + 1
        → map (λ b. kept_in (readable im b) (boxes_in im) (box_body_of im b) k) (numbers_from a m)
        ≡ map keeps (numbers_from a m)
    unfolding numbers_from
    same-list a zero l h = refl
    same-list a (suc m) l h =
        let in-n : In a s.n = (l, let r : a ≤ s.n = omega arith in r) in
        let kept = ap is_kept (box-found s f a in-n) in
        let body = body_is s f a in-n in
        let n = n-is s f in
        let rest = same-list (suc a) m (omega arith) (omega arith) in
        λ i. kept_in (kept i) (n i) (body i) k ∷ rest i

    list-is : kept_by (readable im) im (boxes_in im) k ≡ map keeps (numbers_from 1 s.n)
    list-is =
        ap (λ (m : ℕ). map (λ b. kept_in (readable im b) (boxes_in im) (box_body_of im b) k)
        (numbers_from 1 m)) (n-is s f)
        ∙ same-list 1 s.n (omega arith) (omega arith)

    line-of : line_of im k ≡ load_text k (held (map keeps (numbers_from 1 s.n)))
    line-of = ap (λ (l : List ℕ). load_text k (held l)) list-is

  -- .. where each record is proper, and boxes that both keep a number have one record for it
  module _ (hole : (b k : ℕ) → In b s.n → Agreed (s.box b) k → record_at (s.box b) k ≡ 0 → ⊥)
      (agree : (b d k : ℕ) → In b s.n → In d s.n → Agreed (s.box b) k
      → Agreed (s.box d) k → record_at (s.box b) k ≡ record_at (s.box d) k) where
    agreed : (b k : ℕ) → keeps_at s k b ≡ true → Agreed (s.box b) k
    agreed b k e =
        let first = (s.box b).head.kept.first in (
          leb-true first k (first-of (leb first k) _ e),
          leb-true k (s.box b).head.kept.last (second-of (leb first k) _ e),
        )

    some : (k b : ℕ) → 1 ≤ b → b ≤ s.n → keeps_at s k b ≡ true → keeps k b ≡ 0 → ⊥
    some k b l h e z =
        hole b k (l, h) (agreed b k e) (sym (keeps_record k b l h e) ∙ z)

    counted : (k : ℕ) → length (held (map (keeps k) (numbers_from 1 s.n))) ≡ how_many s k
    counted k =
        count-true (keeps_at s k) (keeps k) s.n (keeps-no k) (some k) s.n (omega arith)

    line-true : (b k : ℕ) → In b s.n → (a : Agreed (s.box b) k)
        → load_text k (held (map (keeps k) (numbers_from 1 s.n)))
        ≡ record_text k (record_at (s.box b) k) (how_many s k)
    line-true b k in-n a =
        let r = record_at (s.box b) k in
        let p : keeps_at s k b ≡ true =
        rw (
          le-leb (s.box b).head.kept.first k a.0,
          le-leb k (s.box b).head.kept.last a.1,
        ) in
        line-is k r (how_many s k) (held (map (keeps k) (numbers_from 1 s.n)))
        (all_same (keeps_at s k) (keeps k) s.n (keeps-no k) (some k) r
        (λ d l h e. agree b d k in-n (l, h) a (agreed d k e) ∙ sym (keeps_record k d l h e))
        s.n (omega arith))
        (counted k) (tally-some s.n (keeps_at s k) b in-n.0 in-n.1 p)

    pub listed : length im ≤ most_bytes → Listed s
    listed short = record {
      table = table-sound s f short;
      general = general-found s f;
      box = box-found s f;
      line = λ b k in-n a. line-of k ∙ line-true b k in-n a;
      none = λ k e. line-of k
          ∙ line-none k (held (map (keeps k) (numbers_from 1 s.n))) (counted k ∙ e);
    }

pub undamaged : Undamaged
undamaged n J L size calls f short =
    let s = run (start n J L) calls in
    let after = demand_3.after_run n J L size calls in
    let n-same = same-n n J L size calls in
    let inside : (b : ℕ) → In b s.n → In b n =
    λ b i. (i.0, let h = i.1 in let r : b ≤ n = omega arith in r) in
    listed s f
    (λ b k i a. proper-some (after.no_hole b k (inside b i) a).1)
    (λ b d k i j. after.agreement b d k (inside b i) (inside d j))
    short
