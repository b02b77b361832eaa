-- "The site image": the bytes of a site, in the paper's order and words. There is no parser: bytes
-- are by form where they are the image of a site by form.
use Rattle.std.specs.Prelude.{ℕ, zero, suc, ◌+◌, ◌-◌, ◌*◌, ◌≡◌, false, List, [], ◌∷◌, ◌++◌, map}
use Rattle.std.specs.Prelude.{length}
use Rattle.rules.specs.Box.{Box, Letter}
use Rattle.rules.specs.Site.{Site, fresh_box, is_box, is_link}
use Rattle.rules.specs.declared.model.Kind.{Kind}
use Rattle.letter.specs.Place.{kind_at, first_at, unagreed_at, words_of_mail}
use Rattle.row.specs.Row.{flag_at, best_at, peers_at, count_at, words_of}
use Rattle.cells.specs.Cells.{chain, cells}
use Rattle.cells.specs.declared.groups.Group.{Group}
use Rattle.cells.specs.Groups.{group, groups_bytes}

-- ---- boxes and links in their order

-- k numbers from a on
unfoldable pub numbers_from : ℕ → ℕ → List ℕ
numbers_from a zero = []
numbers_from a (suc k) = a ∷ numbers_from (suc a) k

-- boxes 1 to n
unfoldable pub boxes_of : Site → List Box
boxes_of s = map s.box (numbers_from 1 s.n)

-- boxes 1 to n but a
abbrev pub others : ℕ → ℕ → List ℕ
others n a = numbers_from 1 (a - 1) ++ numbers_from (a + 1) (n - a)

-- "by sender then receiver": one thing for each ordered pair of different boxes
unfoldable pub by_sender {ℓ} : {A : Type ℓ} → ℕ → (ℕ → ℕ → A) → List A
by_sender n f = chain (λ a. map (f a) (others n a)) (numbers_from 1 n)

unfoldable pub links_of : Site → List (List Letter)
links_of s = by_sender s.n s.link

-- ---- the bodies: "Little-endian, 32 bits, records 64."

-- "general (n, J, L, epoch, present set with box k as value 2^(k−1))"
unfoldable pub general_body : Site → List ℕ
general_body s =
    cells 4
    (s.n
    ∷ s.J
    ∷ s.L
    ∷ s.epoch
    ∷ s.present
    ∷ [])

-- "Box:" 4 bytes each for what stands before the best, "then three records ..; n peers' lasts ..;
-- count of records held, and these." "In the image first stands after last, in boxes and such mail"
-- (Q-4). The order of the fields is that of a row's words (`words_of`).
abbrev pub box_groups : ℕ → List Group
box_groups n =
    group 4 flag_at best_at
    ∷ group 8 best_at 3
    ∷ group 4 peers_at n
    ∷ group 4 count_at 1
    ∷ []

abbrev pub box_words : Box → List ℕ
box_words x = words_of x.head (length x.records)

unfoldable pub box_body : ℕ → Box → List ℕ
box_body n x = groups_bytes (box_groups n) (box_words x) ++ cells 8 x.records

-- "such mail": Last, Begin and Commit have one word of first, the others none
abbrev pub first_words : Kind → ℕ
first_words Kind.Collect = 0
first_words Kind.Last = 1
first_words Kind.Begin = 1
first_words Kind.Accept = 0
first_words Kind.Commit = 1
first_words Kind.Lease = 0
first_words Kind.LeaseAck = 0

-- "its mails: kind .., pn (0 in Lease), last, [first], unagreed pn, record count, records": as in a
-- place
abbrev pub letter_groups : Kind → List Group
letter_groups k =
    group 4 kind_at 3
    ∷ group 4 first_at (first_words k)
    ∷ group 4 unagreed_at 2
    ∷ []

abbrev pub letter_words : Letter → List ℕ
letter_words y = words_of_mail y.head (length y.records)

unfoldable pub letter_bytes : Letter → List ℕ
letter_bytes y =
    groups_bytes (letter_groups y.head.kind) (letter_words y) ++ cells 8 y.records

-- "each a count and its mails"
unfoldable pub link_bytes : List Letter → List ℕ
link_bytes ys = cells 4 (length ys ∷ []) ++ chain letter_bytes ys

-- "Mail: links by sender then receiver"
unfoldable pub mail_body : Site → List ℕ
mail_body s = chain link_bytes (links_of s)

-- ---- the image

-- "Bodies follow in order ..: general ..; each box; mail."
unfoldable pub bodies : Site → List (List ℕ)
bodies s = general_body s ∷ (map (box_body s.n) (boxes_of s) ++ (mail_body s ∷ []))

-- "byte offset from the image's start and length of each": the first begins at `at`, and each where
-- the one before it ends, "without gaps"
unfoldable pub contents : ℕ → List (List ℕ) → List ℕ
contents at [] = []
contents at (b ∷ bs) = at ∷ length b ∷ contents (at + length b) bs

-- "A table of contents first: number of bodies (n+2), then .." : one number, and two for each body
unfoldable pub table_of : List (List ℕ) → List ℕ
table_of bs = cells 4 (length bs ∷ contents (4 + 8 * length bs) bs)

unfoldable pub image_of : Site → List ℕ
image_of s = table_of (bodies s) ++ chain (λ b. b) (bodies s)

-- ---- what an image does not show

-- Outside 1 to n stand a fresh box and no mail, as in every site that words hold. The model has a
-- box for every number and a link for every pair, the image those of 1 to n alone: only with this
-- is an image one site's.
pub record Bounded (s : Site) : Type 0 where
  pub box : (b : ℕ) → is_box s.n b ≡ false → s.box b ≡ fresh_box
  pub link : (a b : ℕ) → is_link s.n a b ≡ false → s.link a b ≡ []
