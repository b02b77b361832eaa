-- The image of a site by form: its table is sound, its general body and its boxes are kept.
use mathlib.Core.Path.{◌≡◌, refl, sym, ap, ◌∙◌, subst}
use mathlib.Core.Bool.{Bool, true, ◌&&◌}
use Prim.Native.Nat.{ℕ, zero, suc, ◌+◌, ◌*◌, ◌^◌, ◌≤◌, ◌<◌}
use native.Mathlib.Omega.{arith}
use mathlib.Core.List.{List, [], ◌∷◌}
use lib.ListN.{length, get_or}
use borrow.Author.Tests.{le-leb, eq-eqb}
use Rattle.rules.specs.Pick.{pick_true}
use Rattle.rules.specs.Sizes.{most_loads, most_mails, most_epoch}
use Rattle.rules.specs.Site.{Site}
use Rattle.rules.specs.Form.{form}
use Rattle.laws.proofs.FormLaws.{Formed, form-says, box-made}
use Rattle.safety.specs.Demand3.{In}
use Rattle.values.proofs.SetLaws.{set-fits}
use Rattle.cells.specs.Cells.{Each, Below}
use Rattle.cells.proofs.ChainLaws.{length-cells}
use Rattle.cells.proofs.StandLaws.{stands-all}
use Rattle.image.specs.Image.{general_body, box_body, image_of}
use Rattle.image.specs.Longest.{table_bytes}
use Rattle.image.specs.Parts.{GoodBox}
use Rattle.bodies.specs.Contents.{count_of, begin_of, long_of, most_bodies}
use Rattle.bodies.specs.Walked.{Walked}
use Rattle.bodies.proofs.Walked.{walked}
use Rattle.std.specs.Prelude.{Ok}
use Rattle.found.specs.Stands.{word_at, words_at}
use Rattle.found.specs.Found.{is_kept, general_found, box_found, loads_of}
use Rattle.salvage.specs.Table.{most_bytes, follow, sound_table, sound, boxes_in, general_of}
use Rattle.salvage.specs.Table.{box_body_of}
use Rattle.salvage.specs.Block.{found_general, found_box}
use Rattle.salvage.proofs.TableLaws.{follow-sum}
use Rattle.salvage_safety.proofs.ReadLaws.{words_stand, word_of}
use Rattle.salvage_safety.proofs.BoxLaws.{box-is-kept}

both : {a b : Bool} → a ≡ true → b ≡ true → (a && b) ≡ true
both e f = rw (e, f)

module _ (s : Site) (f : form s ≡ true) where
  abbrev im : List ℕ
  im = image_of s

  abbrev last : ℕ
  last = s.n + 2

  walk : Walked s
  walk = walked s f

  says : Formed s
  says = form-says f

  -- ---- the table

  follows : (m k at : ℕ) → 1 ≤ k → k + suc m ≡ last + 1 → begin_of im k ≡ at
      → follow im (suc m) k at ≡ true
  unfolding follow
  follows zero k at l e b =
      let is : k ≡ last = omega arith in
      let end = subst (λ (i : ℕ). begin_of im i + long_of im i ≡ length im) (sym is) walk.end in
      both (eq-eqb (begin_of im k) at b)
      (eq-eqb (at + long_of im k) (length im) (omega arith))
  follows (suc m) k at l e b =
      let next = walk.next k l (omega arith) in
      let one : k + 1 ≡ suc k = omega arith in
      let begin = ap (begin_of im) (sym one) in
      both (eq-eqb (begin_of im k) at b)
      (follows m (suc k) (at + long_of im k) (omega arith) (omega arith) (omega arith))

  in-order : follow im (count_of im) 1 (table_bytes (count_of im)) ≡ true
  in-order =
      let count = walk.count in
      let c : count_of im ≡ suc (s.n + 1) = omega arith in
      ap (λ (m : ℕ). follow im m 1 (table_bytes (count_of im))) c
      ∙ follows (s.n + 1) 1 (table_bytes (count_of im)) (omega arith) (omega arith)
      (walk.first ∙ ap table_bytes (sym count))

  pub table-sound : length im ≤ most_bytes → sound im ≡ true
  unfolding sound sound_table
  table-sound short =
      let count = walk.count in
      let few = says.sizes.few-boxes in
      let some = says.sizes.some-boxes in
      let sum = follow-sum im (count_of im) 1 (table_bytes (count_of im)) in-order in
      both (le-leb (length im) most_bytes short)
      (both
      (both (le-leb 3 (count_of im) (omega arith)) (le-leb (count_of im) most_bodies (omega arith)))
      (both (le-leb (table_bytes (count_of im)) (length im) (omega arith)) in-order))

  pub n-is : boxes_in im ≡ s.n
  n-is = let count = walk.count in omega arith

  -- ---- the general body

  abbrev ws : List ℕ
  ws = s.n ∷ s.J ∷ s.L ∷ s.epoch ∷ s.present ∷ []

  abbrev body : List ℕ
  body = general_body s

  below : Below (256 ^ 4) ws
  unfolding Each
  below =
      let z = says.sizes in
      let boxes = z.few-boxes in
      let loads = z.few-loads in
      let mails = z.few-mails in
      let epochs = says.few_epochs in
      let set = set-fits s.n s.present boxes says.present in
      (omega arith, (omega arith, (omega arith, (omega arith, (omega arith, tt)))))

  read : words_at 4 5 body 0 ≡ ws
  unfolding general_body
  read = words_stand 4 body ws 0 (stands-all refl) below

  word : (i : ℕ) → i < 5 → word_at 4 body (0 + i * 4) ≡ get_or ws i 0
  word i h = sym (word_of 4 body 5 0 i h) ∙ ap (λ (l : List ℕ). get_or l i 0) read

  long : length body ≡ 20
  unfolding general_body
  long = length-cells 4 ws

  general-kept : general_found s.n body ≡ Ok tt
  unfolding general_found
  general-kept =
      let z = says.sizes in
      let a = word 0 (omega arith) in
      let b = word 1 (omega arith) in
      let c = word 2 (omega arith) in
      let d = word 3 (omega arith) in
      rw (
        eq-eqb (word_at 4 body 0) s.n a,
        b,
        c,
        d,
        word 4 (omega arith),
        le-leb 1 s.J z.some-loads,
        le-leb s.J most_loads z.few-loads,
        le-leb 1 s.L z.some-mails,
        le-leb s.L most_mails z.few-mails,
        le-leb 1 s.epoch says.some-epoch,
        le-leb s.epoch most_epoch says.few_epochs,
        says.present,
        eq-eqb 20 (length body) (sym long),
      )

  J-is : loads_of s.n body ≡ s.J
  unfolding loads_of
  J-is =
      pick_true (is_kept (general_found s.n body)) _ _ (ap is_kept general-kept)
      ∙ word 1 (omega arith)

  pub general-found : found_general im ≡ Ok tt
  general-found = (λ i. general_found (n-is i) (walk.general i)) ∙ general-kept

  loads_are : loads_of (boxes_in im) (general_of im) ≡ s.J
  loads_are = (λ i. loads_of (n-is i) (walk.general i)) ∙ J-is

  -- ---- the boxes

  module _ (b : ℕ) (in-n : In b s.n) where
    pub box-good : GoodBox s.n s.J b (s.box b)
    box-good = box-made (says.boxes b in-n)

    pub body_is : box_body_of im b ≡ box_body s.n (s.box b)
    body_is = walk.box b in-n.0 in-n.1

    pub box-found : found_box im b ≡ Ok tt
    box-found =
        (λ i. box_found (n-is i) (loads_are i) b (body_is i))
        ∙ box-is-kept s.n s.J b says.sizes.few-boxes says.sizes.few-loads (s.box b)
        box-good
