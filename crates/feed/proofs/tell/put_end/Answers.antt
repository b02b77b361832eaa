use mathlib.Core.Path.{◌≡◌}
use lib.ListN.{length}
use borrow.Author.Rules.{rules}
use Rattle.feed.proofs.FeedLaws.{end_none, end-first, end-going, end-ended}
use Rattle.feed.proofs.tell.put_end.Goals.{Start}
use Rattle.feed.proofs.tell.put_end.Goals as goal

line-length : (c : Start) → length c.args.f.held.line ≡ 65
line-length c = search rules

pub returns-then-n-eq0 : goal.returns-then-n-eq0
returns-then-n-eq0 c = λ xs ls. end_none c.args.f xs ls _ c.if-n-eq0.true

pub returns-in-First : goal.returns-in-First
returns-in-First c =
    λ xs ls.
    end-first c.args.f xs ls c.in-First.is (line-length (goal.at.returns-in-First c).Start)
    c.if-n-eq0.false c.put_refused.ensures

pub returns-in-Going : goal.returns-in-Going
returns-in-Going c =
    λ xs ls.
    end-going c.args.f xs ls c.in-Going.is (line-length (goal.at.returns-in-Going c).Start)
    c.if-n-eq0.false c.put_refused-in-Going.ensures

pub returns-in-Ended : goal.returns-in-Ended
returns-in-Ended c =
    λ xs ls. end-ended c.args.f xs ls _ c.in-Ended.is
    (line-length (goal.at.returns-in-Ended c).Start)
    c.if-n-eq0.false
