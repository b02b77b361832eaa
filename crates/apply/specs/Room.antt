-- What the larger set of buffers has room for: the image, the words and the line of every site.
use Rattle.std.specs.Prelude.{◌≡◌, ℕ, ◌≤◌, Bool, true, false}
use Rattle.image.specs.Longest.{longest_of_all}
use Rattle.answer.specs.Says.{text_room}
use Rattle.answer.specs.Hold.{held_for}
use Rattle.answer.specs.Ample.{Ample}
use Rattle.answer.specs.Replies.{ask_in_range}
use Rattle.apply.specs.declared.buffers.Job.{Job}
use Rattle.apply.specs.declared.raw.Done.{Done}

-- the last set has m bytes for images, x and y words and k bytes for answers: enough for every site
pub record Room (last : Bool) (m x y k : ℕ) : Type 0 where
  pub site : last ≡ true → Ample m x y
  pub text : last ≡ true → text_room m ≤ k

-- and h bytes for a line: enough for the image of every site
pub record LineRoom (last : Bool) (h : ℕ) : Type 0 where
  pub held : last ≡ true → held_for longest_of_all ≤ h

-- a line that is not held whole there has at least so many bytes
abbrev pub cut_at : Bool → ℕ
cut_at true = held_for longest_of_all
cut_at false = 0

-- a call's numbers are of 32 bits, as those of a line that was read
abbrev pub JobFits : Job → Type 0
JobFits (Job.Lines run) = Unit {0}
JobFits (Job.Call l) = ask_in_range l ≡ true
JobFits (Job.Each steps) = Unit {0}

-- where larger buffers are asked for, with n bytes of an image, P n
abbrev pub OnLarger : (ℕ → Type 0) → Done → Type 0
OnLarger P (Done.Larger n) = P n
OnLarger P (Done.Status s) = Unit {0}
