-- A record and a link in bytes: found, or none there.
use mathlib.Core.Path.{◌≡◌, sym, ap, ◌∙◌}
use mathlib.Core.Bool.{true, false, false≢true}
use Prim.Native.Nat.{ℕ, ◌+◌, ◌^◌, ◌≤◌, ◌<◌}
use native.Mathlib.Omega.{arith}
use mathlib.Core.List.{List, [], ◌∷◌}
use lib.ListN.{length}
use Rattle.words.specs.Rows.{part}
use Rattle.words.proofs.PartLaws.{gets-all}
use Rattle.le.specs.Le.{le, Number}
use Rattle.rules.specs.Sizes.{most_loads, most_mails, proper}
use Rattle.std.specs.Prelude.{Option, Some, None}
use Rattle.cells.specs.Cells.{chain, cells, Found, NoneAt, WalkIs, Many}
use Rattle.cells.proofs.StandLaws.{stands-le, stands_seq, stands_as}
use Rattle.cells.proofs.CodeLaws.{le-code, same-thing}
use Rattle.image.specs.Image.{letter_bytes, link_bytes}
use Rattle.image.specs.Parts.{GoodRecord, GoodLetter, GoodLink}
use Rattle.image.proofs.RecordLaws.{proper-below}
use Rattle.image.proofs.LetterLaws.{count_word, link-split, CountRead, link-told}

-- ---- a record

module _ (src : List ℕ) (at x : ℕ) (h : at + 8 ≤ length src)
    (e : Number 8 (part src at 8) x) where
  pub record_found : proper x ≡ true → Found (le 8) GoodRecord src at (at + 8)
  record_found t = record { thing = x; good = t; stands = stands-le 8 src at x h e }

  pub record_none : proper x ≡ false → NoneAt (le 8) GoodRecord src at
  record_none f a q g w =
      let same : x ≡ a =
      same-thing (le 8) (λ y. y < 256 ^ 8) (le-code 8) x a e.below (proper-below g)
      (stands-le 8 src at x h e) w in
      absurd (false≢true (sym f ∙ ap proper same ∙ g))

-- ---- a link

module _ {J L : ℕ} (loads : J ≤ most_loads) (mails : L ≤ most_mails) {src : List ℕ} {at p : ℕ}
    {w : List ℕ} {count : ℕ} (g : CountRead src at p w count) where
  pub link-none : L < count → NoneAt link_bytes (GoodLink J L) src at
  link-none over ys q h v = let room = h.room in omega (arith, (link-told loads mails g h v).0)

  pub link-then : count ≤ L → (r : Option ℕ)
      → WalkIs (chain letter_bytes) (Many (λ i. GoodLetter J) count) src p r
      → WalkIs link_bytes (GoodLink J L) src at r
  link-then few (Some q) f =
      let n = f.good.count in
      let e : w ≡ count_word f.thing =
      sym (gets-all 0 w 1 g.one) ∙ ap (λ (k : ℕ). k ∷ []) (sym (n ∙ g.said)) in
      record {
        thing = f.thing;
        good = record { room = omega arith; letters = f.good.each };
        stands = stands_as (sym (link-split f.thing))
            (stands_seq (stands_as (ap (cells 4) e) g.read.stands) f.stands);
      }
  link-then few None none = λ ys q h v.
      let t = link-told loads mails g h v in
      none ys q (record { count = t.0; each = h.letters }) t.1
