-- What is lent is enough for every site; and a line whose image is longer than any site's.
use Rattle.std.specs.Prelude.{ℕ, ◌≤◌, ◌<◌, List, length}
use Rattle.rules.specs.Sizes.{most_boxes, most_loads, most_mails}
use Rattle.memory.specs.Memory.{site_words, links_words}
use Rattle.image.specs.Longest.{longest_of_all}
use Rattle.answer.specs.declared.reply.Ask.{Ask}
use Rattle.answer.specs.Asks.{Asks}
use Rattle.answer.specs.Calls.{HoldsNone}

-- m bytes for images, x words for the site and y for its links
pub record Ample (m x y : ℕ) : Type 0 where
  pub image : longest_of_all ≤ m
  pub site : site_words most_boxes most_loads ≤ x
  pub links : links_words most_boxes most_loads most_mails ≤ y

-- the line asks something of an image that is longer than that of any site by form
pub record TooLong (line : List ℕ) : Type 0 where
  pub image : List ℕ
  pub call : Ask
  pub asks : Asks line image call
  pub longer : longest_of_all < length image
  pub none : HoldsNone image
