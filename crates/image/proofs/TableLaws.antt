-- The table of contents: its numbers, its length, and the bodies behind it.
use mathlib.Core.Path.{◌≡◌, refl, sym, ap, ◌∙◌}
use Prim.Native.Nat.{ℕ, ◌+◌, ◌*◌, ◌^◌, ◌≤◌, ◌<◌}
use native.Mathlib.Nat.{add-zero}
use native.Mathlib.Numerals.{add-one}
use native.Mathlib.Omega.{arith}
use mathlib.Core.List.{List, [], ◌∷◌, ◌++◌, map}
use lib.ListN.{length, take, drop, get_or, length-append, length-map}
use lib.Seq.{take-suc, take_all, drop_at, length-take-le}
use Rattle.le.specs.Le.{le}
use Rattle.rules.specs.Site.{Site}
use Rattle.cells.specs.Cells.{chain, cells}
use Rattle.cells.proofs.ChainLaws.{chain_append, chain-cons, chain-one, chain-map, length-cells}
use Rattle.cells.proofs.CodeLaws.{le-code, regroup}
use Rattle.image.specs.Image.{general_body, box_body, mail_body, bodies, contents, table_of}
use Rattle.image.specs.Image.{link_bytes, image_of}
use Rattle.image.specs.Parts.{Listed, n_in, listed, bodies_in, listed_bytes}
use Rattle.image.proofs.OrderLaws.{map-append}

-- Two numbers for each body.
pub length-contents : (at : ℕ) (bs : List (List ℕ)) → length (contents at bs) ≡ 2 * length bs
unfolding contents
length-contents at [] = refl
length-contents at (b ∷ bs) = let h = length-contents (at + length b) bs in omega arith

pub length-table : (bs : List (List ℕ)) → length (table_of bs) ≡ 4 + 8 * length bs
unfolding table_of
length-table bs =
    length-cells 4 (length bs ∷ contents (4 + 8 * length bs) bs)
    ∙ omega (arith, length-contents (4 + 8 * length bs) bs)

-- The offsets go on where the bodies before end.
pub contents_append : (at : ℕ) (a b : List (List ℕ))
    → contents at (a ++ b) ≡ contents at a ++ contents (at + length (chain (λ x. x) a)) b
unfolding contents chain
contents_append at [] b = rw add-zero
contents_append at (x ∷ a) b =
    let rest = chain (λ (y : List ℕ). y) a in
    let end : at + length x + length rest ≡ at + length (x ++ rest) =
    rw length-append (omega arith) in
    rw (contents_append (at + length x) a b, end)

-- ---- the table as it is written, entry by entry

module _ {A : Type 0} (enc : A → List ℕ) (at : ℕ) (l : List A) where
  -- The entries of the first i things of l, whose bodies begin at `at`.
  abbrev pub entries : ℕ → List ℕ
  entries i = contents at (map enc (take i l))

  pub entries_none : entries 0 ≡ []
  unfolding contents
  entries_none = refl

  pub length-entries : (i : ℕ) → i ≤ length l → length (entries i) ≡ 2 * i
  length-entries i h =
      length-contents at (map enc (take i l))
      ∙ ap (λ (k : ℕ). 2 * k) (length-map (take i l) enc ∙ length-take-le i l h)

  -- The next entry: where the bodies before end, and the length of the next.
  pub entries_next : (i : ℕ) (d : A) → i < length l
      → entries (i + 1) ≡ entries i
      ++ ((at + length (chain enc (take i l))) ∷ length (enc (get_or l i d)) ∷ [])
  unfolding contents
  entries_next i d h =
      ap (λ (k : ℕ). entries k) (add-one i)
      ∙ ap (λ (m : List A). contents at (map enc m)) (take-suc l i d h)
      ∙ ap (contents at) (map-append enc (take i l) (get_or l i d ∷ []))
      ∙ contents_append at (map enc (take i l)) (enc (get_or l i d) ∷ [])
      ∙ ap (λ (b : List ℕ). entries i ++ ((at + length b) ∷ length (enc (get_or l i d)) ∷ []))
      (chain-map (λ b. b) enc (take i l))

  pub entries-all : (i : ℕ) → length l ≤ i → entries i ≡ contents at (map enc l)
  entries-all i h = ap (λ (m : List A). contents at (map enc m)) (take_all i l h)

-- "number of bodies (n+2)"
pub bodies-count : (t : Listed) → length t.boxes ≡ n_in t → length (bodies_in t) ≡ n_in t + 2
unfolding bodies_in
bodies-count t e =
    let boxes = map (box_body (n_in t)) t.boxes in
    omega (
      arith,
      length-append boxes (chain link_bytes t.links ∷ []),
      length-map t.boxes (box_body (n_in t)),
    )

-- The bodies one after another are the bytes of what they hold.
pub bodies-bytes : (t : Listed) → chain (λ b. b) (bodies_in t) ≡ listed_bytes t
unfolding bodies_in listed_bytes
bodies-bytes t =
    let id : List ℕ → List ℕ = λ b. b in
    let general = cells 4 t.general in
    let boxes = map (box_body (n_in t)) t.boxes in
    let mail = chain link_bytes t.links in
    chain-cons id general (boxes ++ (mail ∷ []))
    ∙ ap (λ (l : List ℕ). general ++ l)
    (chain_append id boxes (mail ∷ [])
    ∙ (λ i. chain-map id (box_body (n_in t)) t.boxes i ++ chain-one id mail i))

-- A site's bodies are those of what it holds, and so is its image.
pub bodies-in : (s : Site) → bodies s ≡ bodies_in (listed s)
unfolding bodies bodies_in listed general_body mail_body
bodies-in s = refl

pub image-in : (s : Site) → image_of s ≡ table_of (bodies_in (listed s)) ++ listed_bytes (listed s)
unfolding image_of
image-in s =
    ap (λ (bs : List (List ℕ)). table_of bs ++ chain (λ b. b) bs) (bodies-in s)
    ∙ ap (λ (l : List ℕ). table_of (bodies_in (listed s)) ++ l) (bodies-bytes (listed s))

-- The entries: the general body's, the boxes', the mail's.
pub contents_in : (t : Listed) (start : ℕ) → length t.general ≡ 5
    → contents start (bodies_in t)
    ≡ start ∷ 20 ∷ (contents (start + 20) (map (box_body (n_in t)) t.boxes)
    ++ ((start + 20 + length (chain (box_body (n_in t)) t.boxes))
    ∷ length (chain link_bytes t.links) ∷ []))
unfolding bodies_in contents
contents_in t start g =
    let id : List ℕ → List ℕ = λ b. b in
    let boxes = map (box_body (n_in t)) t.boxes in
    let mail = chain link_bytes t.links in
    let general : length (cells 4 t.general) ≡ 20 =
    length-cells 4 t.general ∙ ap (λ (k : ℕ). k * 4) g in
    ap (λ (k : ℕ). start ∷ k ∷ contents (start + k) (boxes ++ (mail ∷ []))) general
    ∙ ap (λ (l : List ℕ). start ∷ 20 ∷ l)
    (contents_append (start + 20) boxes (mail ∷ [])
    ∙ ap (λ (b : List ℕ).
    contents (start + 20) boxes ++ ((start + 20 + length b) ∷ length mail ∷ []))
    (chain-map id (box_body (n_in t)) t.boxes))

-- The table in the order in which it is written: the count and the general body's entry, the
-- boxes', the mail's.
pub table-groups : (t : Listed) (count start : ℕ) → length t.general ≡ 5
    → length t.boxes ≡ n_in t → count ≡ n_in t + 2 → start ≡ 4 + 8 * count
    → table_of (bodies_in t) ≡ cells 4 (count ∷ start ∷ 20 ∷ [])
    ++ (cells 4 (contents (start + 20) (map (box_body (n_in t)) t.boxes))
    ++ cells 4 ((start + 20 + length (chain (box_body (n_in t)) t.boxes))
    ∷ length (chain link_bytes t.links) ∷ []))
unfolding table_of
table-groups t count start g b c e =
    ap (λ (k : ℕ). cells 4 (k ∷ contents (4 + 8 * k) (bodies_in t))) (bodies-count t b ∙ sym c)
    ∙ ap (λ (k : ℕ). cells 4 (count ∷ contents k (bodies_in t))) (sym e)
    ∙ ap (λ (l : List ℕ). cells 4 (count ∷ l)) (contents_in t start g)
    ∙ chain_append (le 4) (count ∷ start ∷ 20 ∷ []) (contents (start + 20) boxes ++ mail)
    ∙ ap (λ (l : List ℕ). cells 4 (count ∷ start ∷ 20 ∷ []) ++ l)
    (chain_append (le 4) (contents (start + 20) boxes) mail)
  where
    boxes : List (List ℕ)
    boxes = map (box_body (n_in t)) t.boxes

    mail : List ℕ
    mail =
        (start + 20 + length (chain (box_body (n_in t)) t.boxes))
        ∷ length (chain link_bytes t.links) ∷ []

-- Two tables with the same bytes have as many bodies ..
table-count : (a b : List (List ℕ)) (r s : List ℕ) → length a < 256 ^ 4 → length b < 256 ^ 4
    → table_of a ++ r ≡ table_of b ++ s → length a ≡ length b
unfolding table_of chain
table-count a b r s p q e =
    let x = cells 4 (contents (4 + 8 * length a) a) in
    let y = cells 4 (contents (4 + 8 * length b) b) in
    le-code 4 (length a) (length b) (x ++ r) (y ++ s) p q
    (regroup (le 4 (length a)) x r (le 4 (length b)) y s e)

-- .. and the same bytes follow them.
pub table-rest : (a b : List (List ℕ)) (r s : List ℕ) → length a < 256 ^ 4 → length b < 256 ^ 4
    → table_of a ++ r ≡ table_of b ++ s → r ≡ s
table-rest a b r s p q e =
    let n = length (table_of b) in
    let k : length (table_of a) ≡ n =
    length-table a ∙ ap (λ (x : ℕ). 4 + 8 * x) (table-count a b r s p q e) ∙ sym
    (length-table b) in
    sym (drop_at (table_of a) r n k) ∙ ap (drop n) e ∙ drop_at (table_of b) s n refl
