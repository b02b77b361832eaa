-- What a line is answered, by the paper's rules alone; and what `answer` says of it.
use Rattle.std.specs.Prelude.{ℕ, ◌+◌, ◌*◌, ◌≤◌, ◌<◌, ◌≡◌, Bool, true, false, List, [], ◌++◌, leb}
use Rattle.std.specs.Prelude.{length, drop}
use Rattle.rules.specs.declared.model.Refusal.{Refusal}
use Rattle.rules.specs.Site.{Site}
use Rattle.image.specs.Image.{image_of}
use Rattle.std.specs.Prelude.{Option, Some, None}
use Rattle.answer.specs.Asks.{Asks, AsksNothing}
use Rattle.answer.specs.declared.reply.Ask.{Ask}
use Rattle.answer.specs.declared.reply.Reply.{Reply}
use Rattle.answer.specs.Replies.{outcome_of}
use Rattle.answer.specs.Calls.{refusal, Holds, HoldsNone, Comes}
use Rattle.answer.specs.Text.{reply_text}

abbrev pub outcome_text : Site → Ask → List ℕ
outcome_text s l = reply_text (outcome_of s l).answer (image_of (outcome_of s l).next)

-- the answer to a line is t: 11 where it cannot be read, then 1 where its image is no site's by
-- form, then what the rules say of the call
pub data Says (line : List ℕ) : List ℕ → Type 0 where
  unreadable : AsksNothing line → Says line (reply_text (refusal Refusal.Line) [])
  not-by-form : {im : List ℕ} {l : Ask} → Asks line im l → HoldsNone im
      → Says line (reply_text (refusal Refusal.Form) [])
  answered : {im : List ℕ} {l : Ask} {s : Site} → Asks line im l → Holds im s
      → Says line (outcome_text s l)

-- ---- what is answered, and what the buffer o for the answer becomes

-- the longest answer with an image of at most m bytes: the word, two numbers, two digits a byte, a
-- newline
abbrev pub text_room : ℕ → ℕ
text_room m = 2 * m + 52

-- k bytes for the answer are enough for m bytes for images
unfoldable pub lends : ℕ → ℕ → Bool
lends m k = leb (text_room m) k

-- what came is told: the answer's text, with the image im after it, goes to the front of o; else o
-- stays
pub data TellIs (im o : List ℕ) : Option (Reply × ℕ) → Option ℕ → List ℕ → Type 0 where
  told : {a : Reply} {n : ℕ}
      → TellIs im o (Some (a, n)) (Some (length (reply_text a im)))
      (reply_text a im ++ drop (length (reply_text a im)) o)
  short : TellIs im o None None o

-- what came of l on the image im, told
pub data CallTold (l : Ask) (im : List ℕ) (m : ℕ) (xs ls o : List ℕ)
    : Option ℕ → List ℕ → Type 0 where
  call-told : {after p : List ℕ} {c : Option (Reply × ℕ)} {r : Option ℕ}
      → Comes im l xs ls m c after
      → TellIs after o c r p → CallTold l im m xs ls o r p

-- the answer to any line, with m bytes for images and the words xs and ls
pub data AnswerIs (line : List ℕ) (m : ℕ) (xs ls o : List ℕ) : Option ℕ → List ℕ → Type 0 where
  too_short : lends m (length o) ≡ false → AnswerIs line m xs ls o None o
  asks_nothing : {p : List ℕ} {r : Option ℕ} → lends m (length o) ≡ true → AsksNothing line
      → TellIs [] o (Some (refusal Refusal.Line, 0)) r p
      → AnswerIs line m xs ls o r p
  asks-long : {im : List ℕ} {l : Ask} → lends m (length o) ≡ true → Asks line im l
      → m < length im → AnswerIs line m xs ls o None o
  asks : {im p : List ℕ} {l : Ask} {r : Option ℕ} → lends m (length o) ≡ true → Asks line im l
      → length im ≤ m → CallTold l im m xs ls o r p → AnswerIs line m xs ls o r p
