-- The entries of `writer` and `reader` with their answer as one number: 0 done, or the refusal's.
use Rattle.std.specs.Prelude.{ℕ, ◌≡◌, List}
use Rattle.rules.specs.Numbers.{answer_number}
use Rattle.rules.specs.declared.model.Answer.{Answer}
use Rattle.writer.specs.Writer.{Written}
use Rattle.writer.specs.Writer.{WriteIs, LengthIs}
use Rattle.reader.specs.Reader.{ReadIs}
use Rattle.journal.specs.Answered.{number_of, or_before}

-- `image_length` of the words xs and ls; len has become len', and r was answered; where the call is
-- refused the length is the one that was lent
pub record LengthAnswered (xs ls : List ℕ) (len len' r : ℕ) : Type 0 where
  pub answer : Written
  pub is : LengthIs xs ls answer
  pub number : r ≡ number_of answer
  pub length : len' ≡ or_before answer len

-- `write` into the buffer o, which has become o'
pub record WriteAnswered (xs ls o o' : List ℕ) (len len' r : ℕ) : Type 0 where
  pub answer : Written
  pub is : WriteIs xs ls o answer o'
  pub number : r ≡ number_of answer
  pub length : len' ≡ or_before answer len

-- `read` of the bytes into the words xs and ls, which have become ys and ks
pub record ReadAnswered (bytes xs ls ys ks : List ℕ) (r : ℕ) : Type 0 where
  pub answer : Answer
  pub is : ReadIs bytes xs ls answer ys ks
  pub number : r ≡ answer_number answer
