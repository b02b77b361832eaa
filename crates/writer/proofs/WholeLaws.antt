-- The image of lent words by form: its bodies, its length, and what it makes of the buffer.
use mathlib.Core.Path.{◌≡◌, refl, sym, ap, ◌∙◌, subst}
use mathlib.Core.Bool.{true}
use Prim.Native.Nat.{ℕ, ◌+◌, ◌-◌, ◌*◌, ◌≤◌}
use native.Mathlib.Nat.{zero-add}
use native.Mathlib.Omega.{arith}
use mathlib.Core.List.{List, [], ◌∷◌, ◌++◌, map, append_assoc}
use lib.ListN.{length, drop, length-append}
use Rattle.words.specs.Rows.{part}
use Rattle.words.proofs.PartLaws.{length_part, gets-part}
use Rattle.le.specs.Le.{le}
use Rattle.rules.specs.Sizes.{most_boxes}
use Rattle.rules.specs.declared.model.Setting.{Setting}
use Rattle.laws.proofs.FormLaws.{sizes-says}
use Rattle.memory.specs.Memory.{site_of, memory_form, general_words}
use Rattle.memory.specs.After.{setting_at, GeneralLent, RowsLent, LinksLent}
use Rattle.memory.proofs.FormLaws.{found, general-lent}
use Rattle.memory.proofs.LentLaws.{form-readable, readable-rows, readable-links}
use Rattle.cells.specs.Cells.{chain, cells, Room, Wrote}
use Rattle.cells.proofs.ChainLaws.{chain-cons, chain_append, chain-one, chain-map, length-cells}
use Rattle.cells.proofs.WriteLaws.{room-first, room-rest, wrote_seq, wrote_as}
use Rattle.image.specs.Image.{boxes_of, links_of, box_body, link_bytes, general_body, mail_body}
use Rattle.image.specs.Image.{bodies, contents, table_of, image_of}
use Rattle.image.specs.Longest.{table_bytes, table_long, general_long, longest_of_all}
use Rattle.image.proofs.TableLaws.{length-contents}
use Rattle.image.proofs.MemoryImage.{any_memory}
use Rattle.std.specs.Prelude.{Ok}
use Rattle.writer.specs.Bodies.{boxes_in, links_in, Short, Space, Entered}
use Rattle.writer.specs.Writer.{image, Formed, WriteIs, written}
use Rattle.writer.proofs.BoxLaws.{length-bodies}
use Rattle.writer.proofs.EntryLaws.{space_first, space_rest, entered_seq}

-- ---- the bodies, of the words

abbrev general : List ℕ → List (List ℕ)
general xs = cells 4 (part xs 0 general_words) ∷ []

abbrev boxes : Setting → List ℕ → List (List ℕ)
boxes s xs = map (box_body s.n) (boxes_in s xs)

abbrev mail : Setting → List ℕ → List (List ℕ)
mail s ls = chain link_bytes (links_in s ls) ∷ []

abbrev bodies_in : Setting → List ℕ → List ℕ → List (List ℕ)
bodies_in s xs ls = general xs ++ (boxes s xs ++ mail s ls)

-- the table of contents behind its count, and the bodies
abbrev rest : Setting → List ℕ → List ℕ → List ℕ
rest s xs ls =
    cells 4 (contents (table_long s.n) (bodies_in s xs ls)) ++ chain (λ b. b) (bodies_in s xs ls)

module _ (s : Setting) (xs ls : List ℕ) where
  bodies-count : length (bodies_in s xs ls) ≡ s.n + 2
  bodies-count = omega (arith, length-append (boxes s xs) (mail s ls), length-bodies s xs)

  bodies-long : general_words ≤ length xs → length (chain (λ b. b) (bodies_in s xs ls))
      ≡ general_long + length (chain (box_body s.n) (boxes_in s xs))
      + length (chain link_bytes (links_in s ls))
  bodies-long w =
      let id : List ℕ → List ℕ = λ b. b in
      let first = cells 4 (part xs 0 general_words) in
      let last = chain link_bytes (links_in s ls) in
      ap length
      (chain-cons id first (boxes s xs ++ mail s ls)
      ∙ ap (λ (l : List ℕ). first ++ l)
      (chain_append id (boxes s xs) (mail s ls)
      ∙ (λ i. chain-map id (box_body s.n) (boxes_in s xs) i ++ chain-one id last i)))
      ∙ simp (length-append, length-cells) (omega (arith, length_part 0 5 xs w))

  rest-long : length (rest s xs ls)
      ≡ 8 * (s.n + 2) + length (chain (λ b. b) (bodies_in s xs ls))
  rest-long =
      let bs = bodies_in s xs ls in
      let table = contents (table_long s.n) bs in
      length-append (cells 4 table) (chain (λ b. b) bs)
      ∙ omega (arith, length-cells 4 table, length-contents (table_long s.n) bs, bodies-count)

-- ---- words by form

pub general-words : (xs ls : List ℕ) → memory_form xs ls ≡ true → GeneralLent xs
general-words xs ls e = general-lent (found xs ls e).general

module _ {xs ls : List ℕ} {s : Setting} (f : Formed xs ls s) where
  pub long-enough : general_words ≤ length xs
  long-enough = (general-words xs ls f.form).words

  pub rows-lent : RowsLent s xs
  rows-lent = rw f.setting (readable-rows xs ls 0 (form-readable xs ls f.form))

  pub links-lent : LinksLent s ls
  links-lent = rw f.setting (readable-links xs ls 0 (form-readable xs ls f.form))

  pub few-boxes : s.n ≤ most_boxes
  few-boxes = (sizes-says rows-lent.sizes).few-boxes

  bodies_are : bodies (site_of xs ls) ≡ bodies_in s xs ls
  unfolding bodies site_of boxes_of links_of general_body mail_body boxes_in links_in
  bodies_are =
      let w = long-enough in
      let t = setting_at xs 0 in
      rw f.setting
      (λ i. cells 4 (gets-part 0 xs 0 5 (omega arith) i) ∷ (boxes t xs ++ mail t ls))

  image-is : {x : ℕ} → x ≡ s.n + 2 → image xs ls ≡ cells 4 (x ∷ []) ++ rest s xs ls
  unfolding image_of table_of
  image-is {x} u =
      let bs = bodies_in s xs ls in
      let all = chain (λ (b : List ℕ). b) bs in
      let table = contents (table_long s.n) bs in
      ap (λ (bs : List (List ℕ)). table_of bs ++ chain (λ b. b) bs) bodies_are
      ∙ ap (λ (n : ℕ). cells 4 (n ∷ contents (table_bytes n) bs) ++ all) (bodies-count s xs ls)
      ∙ ap (λ (l : List ℕ). l ++ all) (chain_append (le 4) ((s.n + 2) ∷ []) table)
      ∙ append_assoc (cells 4 ((s.n + 2) ∷ [])) (cells 4 table) all
      ∙ ap (λ (y : ℕ). cells 4 (y ∷ []) ++ rest s xs ls) (sym u)

  -- How long it is.
  pub image-long : {t u v : ℕ} → t ≡ table_long s.n
      → u ≡ length (chain (box_body s.n) (boxes_in s xs))
      → v ≡ length (chain link_bytes (links_in s ls))
      → t + general_long + u + v ≡ length (image xs ls)
  image-long et eu ev =
      sym
      (ap length (image-is refl) ∙ length-append (cells 4 ((s.n + 2) ∷ [])) (rest s xs ls)
      ∙ omega (
        arith,
        length-cells 4 ((s.n + 2) ∷ []),
        rest-long s xs ls,
        bodies-long s xs ls long-enough,
      ))

  pub most-bytes : length (image xs ls) ≤ longest_of_all
  most-bytes = any_memory xs ls f.form

  pub boxes-short : Short (chain (box_body s.n) (boxes_in s xs))
  boxes-short = record { most = omega (arith, image-long refl refl refl, most-bytes) }

  pub mail-short : Short (chain link_bytes (links_in s ls))
  mail-short = record { most = omega (arith, image-long refl refl refl, most-bytes) }

  pub count_room : {x : ℕ} {o : List ℕ} → x ≡ s.n + 2 → Room (image xs ls) o 0
      → Room (cells 4 (x ∷ [])) o 0
  count_room {x} {o} u room =
      room-first (rest s xs ls) (subst (λ (l : List ℕ). Room l o 0) (image-is u) room)

-- ---- writing: the count, then general body, boxes and mail with their entries

-- the count was written
pub record Begun (xs ls : List ℕ) (s : Setting) (o o1 : List ℕ) (k start : ℕ) : Type 0 where
  pub formed : Formed xs ls s
  pub count : ℕ
  pub number : count ≡ s.n + 2
  pub table : start ≡ table_long s.n
  pub room : Room (image xs ls) o 0
  pub wrote : Wrote (cells 4 (count ∷ [])) o 0 o1 k

module _ {xs ls : List ℕ} {s : Setting} {o o1 : List ℕ} {k start : ℕ}
    (b : Begun xs ls s o o1 k start) where
  behind-count : k ≡ 4
  behind-count = let n = b.wrote.next in omega (arith, length-cells 4 (b.count ∷ []))

  whole : image xs ls ≡ cells 4 (b.count ∷ []) ++ rest s xs ls
  whole = image-is b.formed b.number

  space_all : Space (bodies_in s xs ls) o1 k start
  space_all =
      let r : Room (rest s xs ls) o1 k =
      room-rest (subst (λ (l : List ℕ). Room l o 0) whole b.room) b.wrote in
      let fits = r.fits in
      let t = b.table in
      record {
        entries = omega (arith, behind-count, bodies-count s xs ls);
        room = record { fits = omega (arith, behind-count, rest-long s xs ls) };
      }

  pub space_general : Space (general xs) o1 k start
  space_general = space_first (general xs) (boxes s xs ++ mail s ls) space_all

  module _ {o2 : List ℕ} {p : ℕ} (v : Entered (general xs) o1 k start o2 p) where
    behind : Space (boxes s xs ++ mail s ls) o2 (k + 8) p
    behind = space_rest (general xs) (boxes s xs ++ mail s ls) space_all v

    pub space_boxes : Space (boxes s xs) o2 (k + 8) p
    space_boxes = space_first (boxes s xs) (mail s ls) behind

    module _ {o3 : List ℕ} {q : ℕ} (w : Entered (boxes s xs) o2 (k + 8) p o3 q) where
      last : k + 8 + 8 * length (boxes s xs) ≡ start - 8
      last = let t = b.table in omega (arith, behind-count, length-bodies s xs)

      pub space_mail : Space (mail s ls) o3 (start - 8) q
      space_mail =
          subst (λ (e : ℕ). Space (mail s ls) o3 e q) last
          (space_rest (boxes s xs) (mail s ls) behind w)

      pub wrote-whole : {o4 : List ℕ} {r : ℕ} → Entered (mail s ls) o3 (start - 8) q o4 r
          → Wrote (image xs ls) o 0 o4 r
      wrote-whole {o4} {r} z =
          let bs = bodies_in s xs ls in
          let t = b.table in
          let end : k + 8 * length bs ≡ start =
          omega (arith, behind-count, bodies-count s xs ls) in
          let all = entered_seq (general xs) (boxes s xs ++ mail s ls) space_all v
          (entered_seq (boxes s xs) (mail s ls) behind w
          (subst (λ (e : ℕ). Entered (mail s ls) o3 e q o4 r) (sym last) z)) in
          wrote_as (sym whole) refl
          (wrote_seq b.wrote
          (wrote_seq (wrote_as (ap (λ (at : ℕ). cells 4 (contents at bs)) t) end all.entries)
          all.bodies))

-- What was written is the answer.
pub wrote-image : (xs ls o o' : List ℕ) (r : ℕ) → memory_form xs ls ≡ true
    → Wrote (image xs ls) o 0 o' r → WriteIs xs ls o (Ok r) o'
wrote-image xs ls o o' r e w =
    let n : r ≡ length (image xs ls) = w.next ∙ zero-add (length (image xs ls)) in
    let out : o' ≡ image xs ls ++ drop (length (image xs ls)) o =
    w.out ∙ ap (λ (k : ℕ). image xs ls ++ drop k o) n in
    let room : length (image xs ls) ≤ length o = let m = w.room in omega arith in
    subst (λ (k : ℕ). WriteIs xs ls o (Ok k) o') (sym n)
    (subst (WriteIs xs ls o (Ok (length (image xs ls)))) (sym out) (written e room))
