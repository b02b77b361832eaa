-- What comes of what is asked of an image, and of a fresh site's sizes; and what the
-- functions that do it in a lent buffer say.
use Rattle.std.specs.Prelude.{ℕ, ◌≤◌, ◌<◌, ◌≡◌, true, false, List, [], ◌++◌, length, take, drop}
use Rattle.rules.specs.Sizes.{sizes_form}
use Rattle.rules.specs.Site.{Site, fresh}
use Rattle.rules.specs.Form.{form}
use Rattle.rules.specs.declared.model.Answer.{Answer}
use Rattle.rules.specs.declared.model.Refusal.{Refusal}
use Rattle.memory.specs.Memory.{site_of, memory_form, enough}
use Rattle.image.specs.Image.{image_of, Bounded}
use Rattle.reader.specs.Reader.{enough_for}
use Rattle.std.specs.Prelude.{Option, Some, None}
use Rattle.answer.specs.declared.reply.Ask.{Ask}
use Rattle.answer.specs.declared.reply.Reply.{Reply}
use Rattle.answer.specs.Replies.{served, outcome_of, unchanged}

-- a line that is refused
abbrev pub refusal : Refusal → Reply
refusal why = Reply.Answer (Answer.Refused why)

-- im is the image of the site s by form, which has nothing outside boxes 1 to n
pub record Holds (im : List ℕ) (s : Site) : Type 0 where
  pub form : form s ≡ true
  pub image : image_of s ≡ im
  pub bounded : Bounded s

-- im is the image of no site by form
abbrev pub HoldsNone : List ℕ → Type 0
HoldsNone im = (s : Site) → form s ≡ true → image_of s ≡ im → ⊥

-- ---- what comes, and the image that there is afterwards

-- a was answered, with the image im after it, for which there are m bytes; where they are too few
-- the image `old` stays
pub data Fits (a : Reply) (im old : List ℕ) (m : ℕ) : Option (Reply × ℕ) → List ℕ → Type 0 where
  fits : length im ≤ m → Fits a im old m (Some (a, length im)) im
  no_room : m < length im → Fits a im old m None old

-- l is asked of the image im, with the words xs and ls and m bytes for images: 11, then 1, then
-- what the rules say; None where the words or the bytes are too few
pub data Comes (im : List ℕ) (l : Ask) (xs ls : List ℕ) (m : ℕ) : Option (Reply × ℕ)
    → List ℕ → Type 0 where
  unserved : served l ≡ false
      → Comes im l xs ls m (Some (refusal Refusal.Line, length im)) im
  none : served l ≡ true → HoldsNone im
      → Comes im l xs ls m (Some (refusal Refusal.Form, length im)) im
  few_words : served l ≡ true → (s : Site) → form s ≡ true → image_of s ≡ im
      → enough_for s xs ls ≡ false → Comes im l xs ls m None im
  some : {c : Option (Reply × ℕ)} {after : List ℕ} → served l ≡ true → (s : Site) → Holds im s
      → enough_for s xs ls ≡ true
      → Fits (outcome_of s l).answer (image_of (outcome_of s l).next) im m c after
      → Comes im l xs ls m c after

-- a fresh site of these sizes: 13, else its image
pub data FreshComes (n J L : ℕ) (xs ls : List ℕ) (m : ℕ) : Option (Reply × ℕ)
    → List ℕ → Type 0 where
  no-sizes : sizes_form n J L ≡ false
      → FreshComes n J L xs ls m (Some (refusal Refusal.Sizes, 0)) []
  no_words : sizes_form n J L ≡ true → enough n J L xs ls ≡ false
      → FreshComes n J L xs ls m None []
  made : {c : Option (Reply × ℕ)} {after : List ℕ} → sizes_form n J L ≡ true
      → enough n J L xs ls ≡ true
      → Fits (Reply.Answer Answer.Done) (image_of (fresh n J L)) [] m c after
      → FreshComes n J L xs ls m c after

-- ---- in a lent buffer

-- the image im goes to the front of the buffer o; the rest of it stays
abbrev pub front : List ℕ → List ℕ → List ℕ
front im o = im ++ drop (length im) o

-- l is asked of the image in the first n bytes of the buffer o; the image after it goes to its
-- front
pub data CallIs (l : Ask) (n : ℕ) (xs ls o : List ℕ) : Option (Reply × ℕ) → List ℕ → Type 0 where
  too_long : length o < n → CallIs l n xs ls o None o
  called : {c : Option (Reply × ℕ)} {after : List ℕ} → n ≤ length o
      → Comes (take n o) l xs ls (length o) c after → CallIs l n xs ls o c (front after o)

-- the image of a fresh site goes to the front of the buffer o
pub data FreshIs (n J L : ℕ) (xs ls o : List ℕ) : Option (Reply × ℕ) → List ℕ → Type 0 where
  comes : {c : Option (Reply × ℕ)} {after : List ℕ} → FreshComes n J L xs ls (length o) c after
      → FreshIs n J L xs ls o c (front after o)

-- ---- parts of it

-- what l asks was done on words by form, which are by form again
pub record Serves (l : Ask) (xs ls xs' ls' : List ℕ) (a : Reply) : Type 0 where
  pub answer : a ≡ (outcome_of (site_of xs ls) l).answer
  pub site : site_of xs' ls' ≡ (outcome_of (site_of xs ls) l).next
  pub kept : unchanged a ≡ true → (xs' ≡ xs) × (ls' ≡ ls)
  pub form : memory_form xs' ls' ≡ true

-- the image im after the answer a was put into the buffer o
pub data PutIs (a : Reply) (im o : List ℕ) : Option (Reply × ℕ) → List ℕ → Type 0 where
  put : length im ≤ length o → PutIs a im o (Some (a, length im)) (front im o)
  not-put : length o < length im → PutIs a im o None o

-- what came has an image after it that stands in a buffer of m bytes
abbrev pub within : ℕ → Option (Reply × ℕ) → Type 0
within m (Some (a, n)) = n ≤ m
within m None = Unit {0}

-- the bytes of it in the buffer o
abbrev pub image_in : Option (Reply × ℕ) → List ℕ → List ℕ
image_in (Some (a, n)) o = take n o
image_in None o = []
