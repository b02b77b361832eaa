-- `store::mail::store_link` meets its contract: the first place, the count, and then the letters.
use mathlib.Core.Path.{◌≡◌, sym, ◌∙◌}
use Prim.Native.Nat.{ℕ, ◌-◌, ◌+◌, ◌≤◌}
use native.Mathlib.Omega.{arith}
use mathlib.Core.List.{List}
use lib.ListN.{length, get_or, set, length-set}
use Rattle.words.specs.Rows.{part}
use Rattle.words.proofs.PartLaws.{length_part, length-splice}
use Rattle.image.proofs.LetterLaws.{CountRead}
use Rattle.store.proofs.MailLaws.{link-room, letters-has, letters-room, link-stored}
use Rattle.store.proofs.mail.store_link.Goals.{After-size-count}
use Rattle.store.proofs.mail.store_link.Goals as goal

-- where the count is a size
abbrev row : (c : After-size-count) → List ℕ
row c = c.args.row.now

abbrev read : (c : After-size-count) → List ℕ
read c = c.get_words-p.new.dst

counted : (c : After-size-count) → CountRead c.args.src.now c.args.at c.get_words-p.result (read c)
    c.size-count.result
counted c = record {
  one = c.get_words-p.auto.dst;
  read = c.get_words-p.ensures;
  said = c.size-count.ensures;
}

-- the row with its first two words
abbrev put : (c : After-size-count) → List ℕ
put c = set (set (row c) 0 0) 1 (get_or (read c) 0 0)

long : (c : After-size-count) → length (put c) ≡ length (row c)
long c = length-set (set (row c) 0 0) 1 (get_or (read c) 0 0) ∙ length-set (row c) 0 0

room : (c : After-size-count) → 2 + (length (row c) - 2) ≤ length (put c)
room c = omega (arith, (long c), c.requires.link_words.width)

-- the places behind them
places : (c : After-size-count) → length (part (put c) 2 (length (row c) - 2)) ≡ length (row c) - 2
places c = length_part 2 (length (row c) - 2) (put c) (room c)

pub get_words-p-requires : goal.get_words-p-requires
get_words-p-requires c =
    (omega (arith, link-room c.requires.has), omega arith)

pub bounds-row-1 : goal.bounds-row-1
bounds-row-1 c = rw length-set (omega (arith, c.requires.link_words.width))

pub store_letters-requires : goal.store_letters-requires
store_letters-requires c = record {
  j_le_most_loads = c.requires.link_words.sizes.few-loads;
  j_in_bounds = omega (
    arith,
    places (goal.at.store_letters-requires c).After-size-count,
    letters-room c.requires.link_words.sizes
        (counted (goal.at.store_letters-requires c).After-size-count) c.requires.has
        (row (goal.at.store_letters-requires c).After-size-count) c.requires.link_words.width,
  );
  has = letters-has c.requires.link_words.sizes
      (counted (goal.at.store_letters-requires c).After-size-count) c.requires.has;
}

pub shape_of-row : goal.shape_of-row
shape_of-row c =
    length-splice 2 (length (row (goal.at.shape_of-row c).After-size-count) - 2)
    (put (goal.at.shape_of-row c).After-size-count) c.store_letters.new.places
    (room (goal.at.shape_of-row c).After-size-count)
    (c.store_letters.auto.places ∙ places (goal.at.shape_of-row c).After-size-count)
    ∙ long (goal.at.shape_of-row c).After-size-count

pub returns : goal.returns
returns c =
    link-stored c.requires.link_words.sizes (counted (goal.at.returns c).After-size-count)
    (row (goal.at.returns c).After-size-count) c.store_letters.new.places
    c.requires.link_words.width
    (c.store_letters.auto.places ∙ places (goal.at.returns c).After-size-count)
    (sym c.size-count.ensures) _ c.store_letters.ensures

pub bounds-row-0 : goal.bounds-row-0
bounds-row-0 c = omega (arith, c.requires.link_words.width)
