-- A mail in words: kind, pn, last, first, unagreed pn, count of records, and then room for J
-- records. "In the image first stands after last, in boxes and such mail" (Q-4).
use Rattle.std.specs.Prelude.{ℕ, zero, suc, Bool, List, [], ◌∷◌, leb, get_or}
use Rattle.words.specs.Rows.{part}
use Rattle.rules.specs.Every.{all}
use Rattle.rules.specs.Sizes.{within}
use Rattle.rules.specs.Numbers.{kind_number}
use Rattle.rules.specs.Box.{Letter}
use Rattle.rules.specs.Form.{form_letter}
use Rattle.rules.specs.declared.model.Kind.{Kind}
use Rattle.rules.specs.declared.model.Mail.{Mail}

-- ---- where each field stands

abbrev pub kind_at : ℕ
kind_at = 0

abbrev pub pn_at : ℕ
pn_at = 1

abbrev pub last_at : ℕ
last_at = 2

abbrev pub first_at : ℕ
first_at = 3

abbrev pub unagreed_at : ℕ
unagreed_at = 4

abbrev pub count_at : ℕ
count_at = 5

-- the records stand behind these
abbrev pub head_words : ℕ
head_words = 6

-- ---- what they say

-- kinds 1 to this are by form
abbrev pub most_kind : ℕ
most_kind = 7

-- the kind that has this number
abbrev pub kind_of : ℕ → Kind
kind_of zero = Kind.Collect
kind_of (suc zero) = Kind.Collect
kind_of (suc (suc zero)) = Kind.Last
kind_of (suc (suc (suc zero))) = Kind.Begin
kind_of (suc (suc (suc (suc zero)))) = Kind.Accept
kind_of (suc (suc (suc (suc (suc zero))))) = Kind.Commit
kind_of (suc (suc (suc (suc (suc (suc zero)))))) = Kind.Lease
kind_of (suc (suc (suc (suc (suc (suc (suc x))))))) = Kind.LeaseAck

abbrev pub mail_at : List ℕ → Mail
mail_at p = record {
  kind = kind_of (get_or p kind_at 0);
  pn = get_or p pn_at 0;
  last = get_or p last_at 0;
  first = get_or p first_at 0;
  unagreed = get_or p unagreed_at 0;
}

-- the letter that a place holds; what stands after its records is not read
abbrev pub letter_at : List ℕ → Letter
letter_at p = record { head = mail_at p; records = part p head_words (get_or p count_at 0) }

-- what the letter does not show of its words: the kind has its number, the records have room
unfoldable pub place_fits : ℕ → List ℕ → Bool
place_fits J p =
    all (within 1 most_kind (get_or p kind_at 0)
    ∷ leb (get_or p count_at 0) J
    ∷ [])

-- the place holds a letter by form
unfoldable pub place_form : ℕ → List ℕ → Bool
place_form J p =
    all (place_fits J p
    ∷ form_letter J (letter_at p)
    ∷ [])

-- the words of a mail that has so many records
abbrev pub words_of_mail : Mail → ℕ → List ℕ
words_of_mail m count =
    kind_number m.kind ∷ m.pn ∷ m.last ∷ m.first ∷ m.unagreed ∷ count ∷ []
