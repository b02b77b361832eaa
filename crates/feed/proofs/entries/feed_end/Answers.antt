use Rattle.feed.proofs.EntryLaws.{end_short, end-said}
use Rattle.feed.proofs.entries.feed_end.Goals as goal

pub returns : goal.returns
returns c =
    end-said _ _ _ _ c.if-out-lt-LONGEST_ANSWER.false
    c.put_end.ensures

pub returns-then-out-lt-LONGEST_ANSWER : goal.returns-then-out-lt-LONGEST_ANSWER
returns-then-out-lt-LONGEST_ANSWER c = end_short _ _ c.if-out-lt-LONGEST_ANSWER.true
