-- The two numbers and the count of mails are tested, and then the head is dealt with, at me.
use Rattle.words.proofs.TestLaws.{passes}
use Rattle.site.specs.Carry.{HasHead}
use Rattle.site.specs.declared.mail.OnLink.{OnLink}
use Rattle.site.proofs.KnownLaws.{general-lent}
use Rattle.site.proofs.MailKnown.{not-link, AtLink, counts, is-empty, has-head, same_count}
use Rattle.site.proofs.MailKnown.{at_receiver}
use mathlib.Core.Path.{ap}
use mathlib.Core.Bool.{not}
use Rattle.site.proofs.mail.on_link.Goals.{Else-held-eq0, Else-not-is_link}
use Rattle.site.proofs.mail.on_link.Goals as goal

-- What is known where there is such a link ..
known : (c : Else-not-is_link) → AtLink c.args.site.now c.args.links.now c.args.a c.args.b
    c.setting_of-s.result
known c = record {
  form = c.requires;
  setting = c.setting_of-s.ensures;
  link = passes c.is_link.ensures (ap not c.if-not-is_link.false);
}

known-held_eq0 : (c : Else-held-eq0) → AtLink c.args.site.now c.args.links.now c.args.a c.args.b
    c.setting_of-s.result
known-held_eq0 c = record {
  form = c.requires;
  setting = c.setting_of-s.ensures;
  link = passes c.is_link.ensures (ap not c.if-not-is_link.false);
}

-- .. and where it holds a mail.
head : (c : Else-held-eq0) →
    HasHead c.setting_of-s.result c.args.a c.args.site.now c.args.links.now
head c =
    has-head (known-held_eq0 c) c.count-held.ensures c.if-held-eq0.false

pub returns-then-not-is_link : goal.returns-then-not-is_link
returns-then-not-is_link c =
    not-link c.args.what c.args.a c.args.b c.requires
    c.setting_of-s.ensures c.is_link.ensures (ap not c.if-not-is_link.true)

pub returns-then-held-eq0 : goal.returns-then-held-eq0
returns-then-held-eq0 c =
    is-empty (known (goal.at.returns-then-held-eq0 c).Else-not-is_link) c.count-held.ensures
    c.args.what c.if-held-eq0.true

pub repeat-requires : goal.repeat-requires
repeat-requires c = record {
  has_head = head (goal.at.repeat-requires c).Else-held-eq0;
  held_value = same_count (known (goal.at.repeat-requires c).Else-not-is_link) c.count-held.ensures;
}

pub returns-in-Deliver : goal.returns-in-Deliver
returns-in-Deliver c =
    rw c.in-Deliver.is
    (at_receiver (known (goal.at.returns-in-Deliver c).Else-not-is_link)
    OnLink.Deliver c.hand_over.ensures)

pub returns-in-Lose : goal.returns-in-Lose
returns-in-Lose c =
    rw c.in-Lose.is
    (at_receiver (known (goal.at.returns-in-Lose c).Else-not-is_link)
    OnLink.Lose c.lose.ensures)

pub returns-in-Repeat : goal.returns-in-Repeat
returns-in-Repeat c =
    rw c.in-Repeat.is
    (at_receiver (known (goal.at.returns-in-Repeat c).Else-not-is_link)
    OnLink.Repeat c.repeat.ensures)

pub setting_of-s-requires : goal.setting_of-s-requires
setting_of-s-requires c = general-lent _ _ c.requires

pub count-held-requires : goal.count-held-requires
count-held-requires c = let made =
    counts (known (goal.at.count-held-requires c).Else-not-is_link) in record {
      links_lent = made.0;
      b_value = made.1;
    }

pub hand_over-requires : goal.hand_over-requires
hand_over-requires c = head (goal.at.hand_over-requires c).Else-held-eq0

pub lose-requires : goal.lose-requires
lose-requires c = head (goal.at.lose-requires c).Else-held-eq0
