-- `checker::mail::check_link` meets its contract: the count, and then the letters' own answer.
use native.Mathlib.Omega.{arith}
use Rattle.cells.proofs.StandLaws.{too_short}
use Rattle.image.proofs.Lengths.{length-link}
use Rattle.image.proofs.LetterLaws.{CountRead}
use Rattle.checker.proofs.MailLaws.{link-none, link-then}
use Rattle.checker.proofs.mail.check_link.Goals.{After-size-count}
use Rattle.checker.proofs.mail.check_link.Goals as goal

pub returns-then-src-at-lt4 : goal.returns-then-src-at-lt4
returns-then-src-at-lt4 c = λ ys r g w. too_short 4 c.requires.at_in_bounds c.if-src-at-lt4.true
    (omega (arith, length-link ys)) w

-- where the count is a size
counted : (c : After-size-count) → CountRead c.args.src.now c.args.at c.get_words-p.result
    c.get_words-p.new.dst c.size-count.result
counted c = record {
  one = c.get_words-p.auto.dst;
  read = c.get_words-p.ensures;
  said = c.size-count.ensures;
}

pub returns-then-l-count : goal.returns-then-l-count
returns-then-l-count c =
    link-none c.requires.j_le_most_loads.0 c.requires.j_le_most_loads.1
    (counted (goal.at.returns-then-l-count c).After-size-count) c.if-l-count.true

pub returns : goal.returns
returns c =
    link-then c.requires.j_le_most_loads.0 c.requires.j_le_most_loads.1
    (counted (goal.at.returns c).After-size-count) c.if-l-count.false c.check_letters.result
    c.check_letters.ensures
