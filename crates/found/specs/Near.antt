-- How far a walk over a body of any length can come: no sum of places leaves a word.
use Rattle.std.specs.Prelude.{ℕ, ◌≤◌}
use Rattle.std.specs.Prelude.{Ok, Err}
use Rattle.found.specs.Found.{Way}

-- a mail is shorter than this, as long as its count has 32 bits
abbrev pub mail_stride : ℕ
mail_stride = 34359738400

-- a link of at most 16 mails
abbrev pub link_stride : ℕ
link_stride = 549755814404

-- the links of five boxes
abbrev pub sender_stride : ℕ
sender_stride = 2748779072020

abbrev pub farthest : ℕ
farthest = 1152921504606846976

abbrev pub Within : ℕ → Way → Type 0
Within most (Ok q) = q ≤ most
Within most (Err s) = Unit {0}
