-- The parts of a block, from what the functions of each say, and the whole.
use mathlib.Core.Path.{◌≡◌, refl, sym, ap, ◌∙◌, subst}
use mathlib.Core.Bool.{Bool, true, false}
use Prim.Native.Nat.{ℕ, zero, suc, ◌+◌, ◌-◌, ◌≤◌}
use native.Mathlib.Omega.{arith}
use mathlib.Core.List.{List, ◌∷◌, ◌++◌, map}
use lib.ListN.{length, drop}
use lib.Seq.{sets-eq}
use Rattle.rules.specs.Pick.{pick_true, pick-false}
use Rattle.rules.specs.Sizes.{most_number}
use Rattle.cells.specs.Cells.{chain}
use Rattle.image.specs.Image.{numbers_from}
use Rattle.print.specs.Bytes.{bytes}
use Rattle.print.specs.Text.{Wrote}
use Rattle.print.proofs.WriteLaws.{then, spelled, at_most}
use Rattle.bodies.specs.Contents.{count_of, body_of}
use Rattle.found.specs.Found.{Found}
use Rattle.found.specs.Found.{general_found, box_found, mail_found, loads_of, mails_of}
use Rattle.salvage.specs.declared.Told.{Told}
use Rattle.salvage.specs.Table.{sound, boxes_in, general_of, box_body_of, mail_body_of}
use Rattle.salvage.specs.Loads.{kept_in, held, load_text, loads_text}
use Rattle.salvage.specs.Tally.{flagged}
use Rattle.salvage.specs.Block.{general_line, box_line, mail_line, found_general, readable}
use Rattle.salvage.specs.Block.{bodies_text}
use Rattle.salvage.specs.Block.{kept_text, block_text, refused_text, most_text, Salvaged}
use Rattle.salvage.specs.Block.Salvaged.{block, refused}
use Rattle.salvage.specs.Put.{Flags, BoxesPut, BodiesPut, LoadsFit, most_lines}
use Rattle.salvage.proofs.TableLaws.{sound-is}

-- ---- the bodies

pub mail-put : (im : List ℕ) (J L : ℕ) {count word i j : ℕ} {body a b : List ℕ} {f : Found}
    → count ≡ count_of im → body ≡ body_of im count → f ≡ mail_found (count - 2) J L body
    → word ≡ count → Wrote 160 a b i j (mail_line word f)
    → Wrote 160 a b i j (mail_line count (mail_found (count - 2) J L (mail_body_of im)))
mail-put im J L {count} e y f w put =
    spelled
    (λ q. mail_line (w q)
    ((f ∙ ap (mail_found (count - 2) J L) (y ∙ ap (body_of im) e)) q))
    put

module _ (im : List ℕ) {count n J L : ℕ} {g : List ℕ} (ec : count ≡ count_of im)
    (en : n ≡ count - 2) (eg : g ≡ general_of im) (ej : J ≡ loads_of n g) (el : L ≡ mails_of n g)
  where
    n-is : n ≡ boxes_in im
    n-is = en ∙ ap (λ (c : ℕ). c - 2) ec

    j-is : J ≡ loads_of (boxes_in im) (general_of im)
    j-is = ej ∙ (λ i. loads_of (n-is i) (eg i))

    l-is : L ≡ mails_of (boxes_in im) (general_of im)
    l-is = el ∙ (λ i. mails_of (n-is i) (eg i))

    pub bodies-put : {a b c d ks : List ℕ} {p q r : ℕ} {f : Found} → f ≡ general_found n g
        → Wrote 160 a b 0 p (general_line f) → BoxesPut im n J ks b c p q
        → Wrote 160 c d q r (mail_line count (mail_found (count - 2) J L (mail_body_of im)))
        → BodiesPut im ks a d r
    unfolding bodies_text
    bodies-put {ks = ks} {f = f} ef put boxes mail =
        let f-is : f ≡ found_general im = ef ∙ (λ i. general_found (n-is i) (eg i)) in
        let text : general_line f
        ++ (chain (λ b. box_line b (box_found n J b (box_body_of im b))) (numbers_from 1 n)
        ++ mail_line count (mail_found (count - 2) J L (mail_body_of im)))
        ≡ bodies_text im = λ i. general_line (f-is i)
        ++ (chain (λ b. box_line b (box_found (n-is i) (j-is i) b (box_body_of im b)))
        (numbers_from 1 (n-is i))
        ++ mail_line (ec i) (mail_found (ec i - 2) (j-is i) (l-is i) (mail_body_of im))) in
        record {
          wrote = spelled text (then put (then boxes.wrote mail));
          flags = subst (λ (x : ℕ). Flags im (boxes_in im) x ks) j-is
              (subst (λ (x : ℕ). Flags im x J ks) n-is boxes.flags);
        }

-- ---- the loads of boxes that are readable alike

module _ (f g : ℕ → Bool) (im : List ℕ) (n : ℕ)
    (same : (b : ℕ) → 1 ≤ b → b ≤ n → f b ≡ g b) where
  kept_same : (k a m : ℕ) → 1 ≤ a → a + m ≤ n + 1
      → map (λ b. kept_in (f b) n (box_body_of im b) k) (numbers_from a m)
      ≡ map (λ b. kept_in (g b) n (box_body_of im b) k) (numbers_from a m)
  unfolding numbers_from
  kept_same k a zero l h = refl
  kept_same k a (suc m) l h =
      let here = same a l (omega arith) in
      let rest = kept_same k (suc a) m (omega arith) (omega arith) in
      λ i. kept_in (here i) n (box_body_of im a) k ∷ rest i

  pub loads-same : (m k : ℕ) → loads_text f im n m k ≡ loads_text g im n m k
  unfolding loads_text
  loads-same zero k = refl
  loads-same (suc m) k =
      let here = kept_same k 1 n (omega arith) (omega arith) in
      let rest = loads-same m (suc k) in
      λ i. load_text k (held (here i)) ++ rest i

-- ---- the block

pub loads-fit : (im : List ℕ) {count : ℕ} {ks a b : List ℕ} {p : ℕ} → sound im ≡ true
    → count ≡ count_of im → BodiesPut im ks a b p → LoadsFit im (count - 2) ks
loads-fit im {count} {ks} sure e w =
    let s = sound-is im sure in
    let most = s.most in
    let n-is : boxes_in im ≡ count - 2 = sym (ap (λ (c : ℕ). c - 2) e) in
    record {
      table = record { table = sure; boxes = sym n-is; few = omega arith };
      loads = loads_of (boxes_in im) (general_of im);
      flags = subst (λ (x : ℕ). Flags im x (loads_of (boxes_in im) (general_of im)) ks) n-is
          w.flags;
    }

pub block-put : (im : List ℕ) {ks a b c d : List ℕ} {p q r n : ℕ} → n ≡ boxes_in im
    → BodiesPut im ks a b p
    → Wrote most_lines b c p q (loads_text (flagged ks) im n most_number 1)
    → Wrote 2 c d q r (bytes ".\n") → Wrote most_text a d 0 r (kept_text im)
unfolding kept_text
block-put im {ks} {n = n} e bodies loads dot =
    let text = ap (λ (m : ℕ). loads_text (flagged ks) im m most_number 1) e
    ∙ loads-same (flagged ks) (readable im) im (boxes_in im) bodies.flags.each most_number 1 in
    at_most (omega arith) (then bodies.wrote (then (spelled text loads) dot))

module _ (im o : List ℕ) (room : most_text ≤ length o) where
  written : {m r : ℕ} {o' : List ℕ} (t : List ℕ) → m ≤ most_text → Wrote m o o' 0 r t
      → (r ≡ length t) × (o' ≡ t ++ drop (length t) o)
  written t h w =
      let e = w.end in
      let f = w.few in
      let l : 0 + length t ≡ length t = omega arith in
      (omega arith, w.bytes ∙ sets-eq t o 0 (omega arith) ∙ ap (λ (n : ℕ). t ++ drop n o) l)

  pub salvage_block : {r : ℕ} {o' : List ℕ} → sound im ≡ true
      → Wrote most_text o o' 0 r (kept_text im) → Salvaged im o (Told.Block r) o'
  unfolding block_text
  salvage_block {r} {o'} s w =
      let is : kept_text im ≡ block_text im = sym (pick_true (sound im) _ _ s) in
      let t = written (block_text im) (omega arith) (spelled is w) in
      subst (λ (n : ℕ). Salvaged im o (Told.Block n) o') (sym t.0)
      (subst (λ (l : List ℕ). Salvaged im o (Told.Block (length (block_text im))) l) (sym t.1)
      (block room s))

  pub salvage_refused : {m r : ℕ} {o' : List ℕ} → sound im ≡ false → m ≤ most_text
      → Wrote m o o' 0 r refused_text → Salvaged im o (Told.Refused r) o'
  unfolding block_text
  salvage_refused {m} {r} {o'} s h w =
      let is : refused_text ≡ block_text im = sym (pick-false (sound im) _ _ s) in
      let t = written (block_text im) h (spelled is w) in
      subst (λ (n : ℕ). Salvaged im o (Told.Refused n) o') (sym t.0)
      (subst (λ (l : List ℕ). Salvaged im o (Told.Refused (length (block_text im))) l) (sym t.1)
      (refused room s))
