-- No image is longer than the longest of its site's sizes; and that grows with each of them.
use mathlib.Core.Path.{◌≡◌, ap}
use mathlib.Core.Bool.{true}
use Prim.Native.Nat.{ℕ, ◌+◌, ◌-◌, ◌*◌, ◌≤◌}
use native.Mathlib.Nat.{suc-mul, mul-add, mul_left_comm, mul-le-mul, mul-le-mul_left}
use native.Mathlib.Nat.{mul-le-mul_right}
use native.Mathlib.Omega.{arith}
use mathlib.Core.List.{List, [], ◌∷◌, ◌++◌}
use lib.ListN.{length, length-append}
use Rattle.rules.specs.Sizes.{most_boxes, most_loads, most_mails}
use Rattle.rules.specs.Box.{Box, Letter}
use Rattle.rules.specs.Site.{Site}
use Rattle.rules.specs.Form.{form}
use Rattle.laws.proofs.Types.{Kind}
use Rattle.laws.proofs.FormLaws.{FormedSizes, letter-says, box-says, sizes-says, form-says}
use Rattle.link.specs.Link.{place_width, link_width}
use Rattle.memory.specs.Memory.{site_words, links_words}
use Rattle.row.specs.Row.{row_width}
use Rattle.cells.specs.Cells.{chain, cells, Each, All}
use Rattle.cells.proofs.ChainLaws.{length-cells, each_map}
use Rattle.image.specs.Image.{box_body, letter_bytes, link_bytes, table_of, image_of}
use Rattle.image.specs.Parts.{GoodLetter, GoodLink, GoodBox, Listed, n_in, JIn, LIn, listed}
use Rattle.image.specs.Parts.{bodies_in, listed_bytes, GoodListed}
use Rattle.image.specs.Longest.{table_long, box_long, letter_long, link_long, longest}
use Rattle.image.specs.Longest.{longest_of_all, longest_of_traces}
use Rattle.image.proofs.OrderLaws.{length-boxes}
use Rattle.image.proofs.CutLaws.{first-few}
use Rattle.image.proofs.LetterLaws.{letter-few, link-split}
use Rattle.image.proofs.ListedLaws.{listed-good}
use Rattle.image.proofs.TableLaws.{length-table, bodies-count, image-in}
use Rattle.image.proofs.Lengths.{length-letter, length-box}

-- ---- an image is at most so long

module _ {A : Type 0} (enc : A → List ℕ) (k : ℕ) where
  -- Things of at most k bytes each.
  chain-most : (l : List A) → All (λ x. length (enc x) ≤ k) l
      → length (chain enc l) ≤ length l * k
  unfolding chain Each
  chain-most [] h = omega arith
  chain-most (x ∷ l) h =
      omega (
        arith,
        length-append (enc x) (chain enc l),
        suc-mul (length l) k,
        h.0,
        chain-most l h.1,
      )

  -- At most m of them.
  few-most : (m : ℕ) (l : List A) → length l ≤ m → All (λ x. length (enc x) ≤ k) l
      → length (chain enc l) ≤ m * k
  few-most m l few h = omega (arith, chain-most l h, mul-le-mul_right k few)

module _ (J : ℕ) where
  letter-most : (y : Letter) → GoodLetter J y
      → length (letter_bytes y) ≤ letter_long Kind.Commit J
  letter-most y g =
      omega (arith, length-letter y, first-few y.head.kind, letter-few (letter-says g))

  link-most : (L : ℕ) (ys : List Letter) → GoodLink J L ys → length (link_bytes ys) ≤ link_long J L
  link-most L ys g =
      omega (
        arith,
        ap length (link-split ys),
        length-append (cells 4 (length ys ∷ [])) (chain letter_bytes ys),
        length-cells 4 (length ys ∷ []),
        few-most letter_bytes (letter_long Kind.Commit J) L ys g.room
            (each_map (λ i. GoodLetter J)
            (λ i y. length (letter_bytes y) ≤ letter_long Kind.Commit J)
            (λ i. letter-most) ys g.letters),
      )

  box-most : (n b : ℕ) → n ≤ most_boxes → (x : Box) → GoodBox n J b x
      → length (box_body n x) ≤ box_long n J
  box-most n b few x g =
      let f = box-says g in
      omega (arith, length-box n x few, f.held.room)

-- All bodies, with the table of contents.
pub listed-most : (t : Listed) → GoodListed t
    → table_long (n_in t) + length (listed_bytes t) ≤ longest (n_in t) (JIn t) (LIn t)
unfolding listed_bytes longest
listed-most t g =
    let z = sizes-says g.sizes in
    let n = n_in t in
    let J = JIn t in
    let L = LIn t in
    let enc = box_body n in
    let boxes = few-most enc (box_long n J) n t.boxes (omega (arith, g.boxes.count))
    (each_map (λ i. GoodBox n J (i + 1)) (λ i x. length (enc x) ≤ box_long n J)
    (λ i. box-most J n (i + 1) z.few-boxes) t.boxes g.boxes.each) in
    let links = few-most link_bytes (link_long J L) (n * (n - 1)) t.links
    (omega (arith, g.links.count))
    (each_map (λ i. GoodLink J L) (λ i ys. length (link_bytes ys) ≤ link_long J L)
    (λ i. link-most J L) t.links g.links.each) in
    omega (
      arith,
      length-append (cells 4 t.general) (chain enc t.boxes ++ chain link_bytes t.links),
      length-append (chain enc t.boxes) (chain link_bytes t.links),
      length-cells 4 t.general,
      g.words.width,
    )

-- The image of a site by form.
pub image-most : (s : Site) → form s ≡ true → length (image_of s) ≤ longest s.n s.J s.L
unfolding listed
image-most s e =
    let bs = bodies_in (listed s) in
    omega (
      arith,
      ap length (image-in s),
      length-append (table_of bs) (listed_bytes (listed s)),
      length-table bs,
      bodies-count (listed s) (length-boxes s),
      listed-most (listed s) (listed-good s e),
    )

-- ---- larger sizes, longer images

pub longest-grows : {n m J K L M : ℕ} → n ≤ m → J ≤ K → L ≤ M → longest n J L ≤ longest m K M
unfolding longest
longest-grows {n} {m} {J} {K} {L} {M} hn hJ hL =
    let boxes : n * box_long n J ≤ m * box_long m K = mul-le-mul hn (omega arith) in
    let pairs : n * (n - 1) ≤ m * (m - 1) = mul-le-mul hn (omega arith) in
    let mails : L * letter_long Kind.Commit J ≤ M * letter_long Kind.Commit K =
    mul-le-mul hL (omega arith) in
    let links : n * (n - 1) * link_long J L ≤ m * (m - 1) * link_long K M =
    mul-le-mul pairs (omega arith) in
    omega arith

-- The words that hold such a site have as many bytes.
pub longest-words : {n J L : ℕ} → FormedSizes n J L
    → longest n J L ≤ 8 * (site_words n J + links_words n J L)
unfolding longest
longest-words {n} {J} {L} z =
    let few = z.few-boxes in
    let m = n * (n - 1) in
    let boxes : n * (8 + box_long n J) ≤ n * (8 * row_width J) = mul-le-mul_left n (omega arith) in
    let mails : L * letter_long Kind.Commit J ≤ L * (8 * place_width J) =
    mul-le-mul_left L (omega arith) in
    let links : m * link_long J L ≤ m * (8 * link_width J L) =
    mul-le-mul_left m (omega (arith, mul_left_comm L 8 (place_width J))) in
    omega (
      arith,
      mul-add n 8 (box_long n J),
      mul_left_comm n 8 (row_width J),
      mul_left_comm m 8 (link_width J L),
    )

-- The longest image of all, and that of a trace's site.
pub longest-of-all : longest most_boxes most_loads most_mails ≡ longest_of_all
unfolding longest
longest-of-all = omega arith

pub longest-of-traces : longest 5 32 8 ≡ longest_of_traces
unfolding longest
longest-of-traces = omega arith

pub sizes-most : {n J L : ℕ} → FormedSizes n J L → longest n J L ≤ longest_of_all
sizes-most z =
    omega (arith, longest-grows z.few-boxes z.few-loads z.few-mails, longest-of-all)

pub any_image : (s : Site) → form s ≡ true → length (image_of s) ≤ longest_of_all
any_image s e = omega (arith, image-most s e, sizes-most (form-says e).sizes)
