-- What can be told of words, letters and links from their bytes: of a letter its kind first, which
-- says whether it has a word of first.
use mathlib.Core.Path.{◌≡◌, refl, sym, ap, ◌∙◌, subst}
use mathlib.Core.Bool.{Bool, true, false}
use Prim.Native.Nat.{ℕ, ◌+◌, ◌^◌, ◌≤◌, ◌<◌}
use native.Mathlib.Omega.{arith}
use mathlib.Core.List.{List, [], ◌∷◌, ◌++◌, append_assoc}
use lib.ListN.{length, get_or}
use lib.Dec.{leb}
use borrow.Author.Tests.{leb-true, leb-false}
use Rattle.words.specs.Rows.{part}
use Rattle.le.specs.Le.{le, Number}
use Rattle.rules.specs.Sizes.{most_loads, most_mails, most_number, most_pn}
use Rattle.rules.specs.Numbers.{kind_number}
use Rattle.rules.specs.Box.{Letter}
use Rattle.laws.proofs.Types.{Kind, Mail}
use Rattle.laws.proofs.Logic.{and_yes}
use Rattle.laws.proofs.FormLaws.{FormedFirst, FormedLetter, FormedKind, letter-says}
use Rattle.letter.specs.Place.{mail_at, kind_of, words_of_mail, kind_at, first_at, unagreed_at}
use Rattle.letter.specs.Place.{count_at}
use Rattle.letter.specs.Place.{head_words, most_kind}
use Rattle.letter.proofs.KindLaws.{kind-back, kind-in}
use Rattle.cells.specs.Cells.{chain, cells, Each, All, Stands, Read}
use Rattle.cells.specs.declared.groups.Group.{Group}
use Rattle.cells.specs.Groups.{group, groups_bytes, Outside, GroupedWords}
use Rattle.cells.proofs.ChainLaws.{each-one}
use Rattle.cells.proofs.StandLaws.{stands-le}
use Rattle.cells.proofs.CodeLaws.{Code, Parts, le-code, cells-code, chain-code, told, told-code}
use Rattle.image.specs.Image.{first_words, letter_groups, letter_words, letter_bytes, link_bytes}
use Rattle.image.specs.Parts.{GoodRecord, GoodLetter, GoodLink, Words}
use Rattle.image.proofs.RecordLaws.{all_of}
use Rattle.image.proofs.CutLaws.{letter-cut}
use Rattle.image.proofs.HeadedLaws.{Headed, headed_code, behind_first, first_word}

-- ---- words

pub words-code : (m : ℕ) → Code (cells 4) (Words m)
words-code m a b r s p q e = cells-code 4 a b r s (p.width ∙ sym q.width) p.below
    q.below e

-- ---- a letter: its words, and its records

-- A mail is what its words say.
pub mail-back : (m : Mail) (count : ℕ) → mail_at (words_of_mail m count) ≡ m
mail-back m count =
    λ i. record {
      kind = kind-back m.kind i;
      pn = m.pn;
      last = m.last;
      first = m.first;
      unagreed = m.unagreed;
    }

pub letter-split : (y : Letter)
    → letter_bytes y
    ≡ groups_bytes (letter_groups y.head.kind) (letter_words y) ++ cells 8 y.records
unfolding letter_bytes
letter-split y = refl

pub letter-records : (J : ℕ) (y : Letter) → GoodLetter J y → All GoodRecord y.records
letter-records J y g = all_of (letter-says g).records

-- A letter holds at most J records.
pub letter-few : {J : ℕ} {y : Letter} → FormedLetter J y → length y.records ≤ J
letter-few {J} {y} f = go y.head.kind f.kind
  where
    go : (k : Kind)
        → FormedKind k J y.head.pn y.head.last y.head.first y.head.unagreed
        (length y.records)
        → length y.records ≤ J
    go Kind.Collect h = omega (arith, h.no-records)
    go Kind.Last h = h.held.room
    go Kind.Begin h = h.fits
    go Kind.Accept h = omega (arith, h.no-records)
    go Kind.Commit h = h.room
    go Kind.Lease h = omega (arith, h.bare.no-records)
    go Kind.LeaseAck h = omega (arith, h.bare.no-records)

-- ---- a letter's words in their groups

-- a letter's words with c words of first
abbrev mail_groups : ℕ → List Group
mail_groups c = group 4 kind_at 3 ∷ group 4 first_at c ∷ group 4 unagreed_at 2 ∷ []

-- The only word that may be in no group is first.
beside : (c i : ℕ) → i < head_words → Outside (mail_groups c) i → i ≡ first_at
unfolding Each
beside c i h o = go (leb first_at i) refl (leb unagreed_at i) refl
  where
    go : (s : Bool) → leb first_at i ≡ s → (t : Bool) → leb unagreed_at i ≡ t → i ≡ first_at
    go false a t b = let l = leb-false first_at i a in absurd (o.0 (omega arith) (omega arith))
    go true a true b =
        let l = leb-true unagreed_at i b in absurd (o.1.1.0 (omega arith) (omega arith))
    go true a false b =
        let l = leb-true first_at i a in let m = leb-false unagreed_at i b in omega arith

abbrev mail_words : ℕ → Mail → ℕ → List ℕ
mail_words k m count = k ∷ m.pn ∷ m.last ∷ m.first ∷ m.unagreed ∷ count ∷ []

module _ (k : ℕ) (m : Mail) (count : ℕ) (kind : k ≤ most_kind) (p : m.pn ≤ most_pn)
    (l : m.last ≤ most_number) (u : m.unagreed ≤ most_pn) (n : count ≤ most_loads) where
  with_first : FormedFirst m.first m.last
      → GroupedWords (mail_groups 1) head_words 0 (mail_words k m count)
  unfolding Each
  with_first f =
      let t = f.top in
      record {
        width = refl;
        below = (
          (omega arith, (omega arith, (omega arith, tt))),
          ((omega arith, tt), ((omega arith, (omega arith, tt)), tt)),
        );
        none = λ i h o.
            let e = beside 1 i h o in
            absurd (o.1.0 (omega arith) (omega arith));
      }

  without-first : m.first ≡ 0 → GroupedWords (mail_groups 0) head_words 0 (mail_words k m count)
  unfolding Each
  without-first f = record {
    width = refl;
    below = (
      (omega arith, (omega arith, (omega arith, tt))),
      (tt, ((omega arith, (omega arith, tt)), tt)),
    );
    none = λ i h o. ap (λ (j : ℕ). get_or (mail_words k m count) j 0) (beside 0 i h o) ∙ f;
  }

pub kind-few : (k : Kind) → kind_number k ≤ most_kind
kind-few k = leb-true _ _ (and_yes (leb 1 (kind_number k)) _ (kind-in k)).1

module _ (J : ℕ) (few : J ≤ most_loads) where
  pub letter-range : (y : Letter) → GoodLetter J y
      → GroupedWords (letter_groups y.head.kind) head_words 0 (letter_words y)
  letter-range y g = go y.head.kind (letter-says g).kind
    where
      m : Mail
      m = y.head

      count : ℕ
      count = length y.records

      held : count ≤ most_loads
      held = omega (arith, letter-few (letter-says g))

      carries : (k : Kind) → FormedFirst m.first m.last
          → GroupedWords (mail_groups 1) head_words 0 (mail_words (kind_number k) m count)
      carries k f =
          let s = letter-says g in
          with_first (kind_number k) m count (kind-few k) s.pn s.last s.unagreed held f

      lacks : (k : Kind) → m.first ≡ 0
          → GroupedWords (mail_groups 0) head_words 0 (mail_words (kind_number k) m count)
      lacks k f =
          let s = letter-says g in
          without-first (kind_number k) m count (kind-few k) s.pn s.last s.unagreed held f

      go : (k : Kind) → FormedKind k J m.pn m.last m.first m.unagreed count
          → GroupedWords (letter_groups k) head_words 0 (mail_words (kind_number k) m count)
      go Kind.Collect h = lacks Kind.Collect h.no-first
      go Kind.Last h = carries Kind.Last h.first
      go Kind.Begin h = carries Kind.Begin h.first
      go Kind.Accept h = lacks Kind.Accept h.no-first
      go Kind.Commit h = carries Kind.Commit h.first
      go Kind.Lease h = lacks Kind.Lease h.bare.no-first
      go Kind.LeaseAck h = lacks Kind.LeaseAck h.bare.no-first

  -- ---- the kind first

  abbrev behind_kind : Letter → List ℕ
  behind_kind y =
      behind_first 4 2
      (group 4 first_at (first_words y.head.kind) ∷ group 4 unagreed_at 2 ∷ []) (letter_words y)
      ++ cells 8 y.records

  pub kind-split : (y : Letter) → letter_bytes y ≡ le 4 (kind_number y.head.kind) ++ behind_kind y
  kind-split y =
      letter-split y
      ∙ ap (λ (l : List ℕ). l ++ cells 8 y.records)
      (first_word 4 2 _ (letter_words y) (omega arith))
      ∙ append_assoc (le 4 (kind_number y.head.kind)) _ (cells 8 y.records)

  abbrev pub kind-parts : Parts letter_bytes (GoodLetter J) (le 4) (λ x. x < 256 ^ 4)
  kind-parts = record {
    code = le-code 4;
    first = λ y. kind_number y.head.kind;
    rest = behind_kind;
    split = λ y g. kind-split y;
    range = λ y g. omega (arith, kind-few y.head.kind);
  }

  -- a letter whose kind has the number x
  abbrev pub OfKind : ℕ → Letter → Type 0
  OfKind x y = kind_number y.head.kind ≡ x

  abbrev pub LetterOf : ℕ → Letter → Type 0
  LetterOf x y = GoodLetter J y × OfKind x y

  -- The number that was read is the kind of any letter that stands there.
  pub kind-known : {src : List ℕ} {at x : ℕ} → at + 4 ≤ length src → Number 4 (part src at 4) x
      → (y : Letter) (q : ℕ) → GoodLetter J y → Stands (letter_bytes y) src at q → OfKind x y
  kind-known {src} {at} {x} h e y q g v =
      sym (told kind-parts x e.below (stands-le 4 src at x h e) y q g v).0

  pub kind-of : (x : ℕ) (y : Letter) → OfKind x y → y.head.kind ≡ kind_of x
  kind-of x y e = sym (kind-back y.head.kind) ∙ ap kind_of e

  -- ---- letters of one kind

  abbrev pub letter_headed : (x : ℕ) → Headed letter_bytes (LetterOf x)
  letter_headed x = record {
    groups = letter_groups (kind_of x);
    width = head_words;
    rest = 0;
    count-at = count_at;
    cut = letter-cut (kind_of x);
    words = letter_words;
    records = λ y. y.records;
    split = λ y g.
        letter-split y
        ∙ ap (λ (k : Kind). groups_bytes (letter_groups k) (letter_words y) ++ cells 8 y.records)
        (kind-of x y g.1);
    range = λ y g.
        subst (λ (k : Kind). GroupedWords (letter_groups k) head_words 0 (letter_words y))
        (kind-of x y g.1) (letter-range y g.0);
    count = λ y. refl;
    proper = λ y g. letter-records J y g.0;
    back = λ y z g h e r.
        let m : y.head ≡ z.head =
        sym (mail-back y.head (length y.records)) ∙ ap mail_at e
        ∙ mail-back z.head (length z.records) in
        λ i. record { head = m i; records = r i };
  }

  pub letter-code : Code letter_bytes (GoodLetter J)
  letter-code a b r s g h e =
      let x = kind_number b.head.kind in
      headed_code (letter_headed x) a b r s (g, (told-code kind-parts a b r s g h e).0) (h, refl) e

-- ---- a link: its count, and its letters

abbrev pub count_word : List Letter → List ℕ
count_word ys = length ys ∷ []

pub link-split : (ys : List Letter) → link_bytes ys ≡ cells 4 (count_word ys)
    ++ chain letter_bytes ys
unfolding link_bytes
link-split ys = refl

module _ (J L : ℕ) (loads : J ≤ most_loads) (mails : L ≤ most_mails) where
  pub link-words : (ys : List Letter) → GoodLink J L ys → Words 1 (count_word ys)
  link-words ys g = let n = g.room in
      record { width = refl; below = each-one (λ i x. x < 256 ^ 4) (length ys) (omega arith) }

  abbrev pub link-parts : Parts link_bytes (GoodLink J L) (cells 4) (Words 1)
  link-parts = record {
    code = words-code 1;
    first = count_word;
    rest = chain letter_bytes;
    split = λ ys g. link-split ys;
    range = link-words;
  }

  pub link-code : Code link_bytes (GoodLink J L)
  link-code a b r s g h e =
      let t = told-code link-parts a b r s g h e in
      let n : length a ≡ length b = ap (λ (w : List ℕ). get_or w 0 0) t.0 in
      let code = letter-code J loads in
      chain-code letter_bytes (GoodLetter J) code a b r s n g.letters h.letters t.1

-- w holds the count that was read at `at`.
pub record CountRead (src : List ℕ) (at p : ℕ) (w : List ℕ) (count : ℕ) : Type 0 where
  pub one : length w ≡ 1
  pub read : Read 4 src at w p
  pub said : count ≡ get_or w 0 0

module _ {J L : ℕ} (loads : J ≤ most_loads) (mails : L ≤ most_mails) {src : List ℕ} {at p : ℕ}
    {w : List ℕ} {count : ℕ} (g : CountRead src at p w count) where
  -- Any link that stands there has so many letters, and they stand behind.
  pub link-told : {ys : List Letter} {q : ℕ} → GoodLink J L ys → Stands (link_bytes ys) src at q
      → (length ys ≡ count) × Stands (chain letter_bytes ys) src p q
  link-told {ys} {q} h v =
      let t = told (link-parts J L loads mails) w
      (record { width = g.one; below = g.read.below }) g.read.stands ys q h v in
      (sym (g.said ∙ ap (λ (u : List ℕ). get_or u 0 0) t.0), t.1)
