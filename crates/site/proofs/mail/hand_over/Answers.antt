-- The head's turn is refused, discarded, finds a link full, or is carried out.
use Rattle.words.proofs.TestLaws.{yes, no, fails, passes}
use Rattle.site.proofs.KnownLaws.{links-lent}
use Rattle.site.proofs.TurnKnown.{box-lent, me-is}
use Rattle.site.proofs.MailKnown.{head-lent}
use Rattle.site.proofs.HandOver.{me-at, over-place, over-refused, over-discarded, over-apart}
use Rattle.site.proofs.HandOver.{over-full, over-takes, over-played}
use mathlib.Core.Path.{ap}
use mathlib.Core.Bool.{not}
use Rattle.site.proofs.mail.hand_over.Goals as goal

pub mail_turn-t-requires : goal.mail_turn-t-requires
mail_turn-t-requires c =
    let w = c.requires in
    let h = c.head_start-p.ensures in record {
      box_lent = box-lent (me-at w);
      j_in_bounds = c.head_start-p.ensures.inside;
      j_value = over-place w h;
    }

pub returns-then-is_refusal : goal.returns-then-is_refusal
returns-then-is_refusal c =
    over-refused c.requires c.head_start-p.ensures
    c.mail_turn-t.ensures (yes c.is_refusal.ensures c.if-is_refusal.true)

pub pop-requires : goal.pop-requires
pop-requires c = let made = head-lent
    c.requires in record {
      links_lent = made.0;
      me_value = made.1.0;
      nonzero = made.1.1;
    }

pub returns-then-not-is_accepted : goal.returns-then-not-is_accepted
returns-then-not-is_accepted c =
    over-discarded c.requires c.head_start-p.ensures
    c.mail_turn-t.ensures (no c.is_refusal.ensures c.if-is_refusal.false)
    (fails c.is_accepted.ensures (ap not c.if-not-is_accepted.true)) c.pop.ensures

pub has_room-requires : goal.has_room-requires
has_room-requires c =
    let w = c.requires in record {
      links_lent = links-lent c.requires.know;
      me_value = me-is (me-at w);
      not_to = over-apart w c.head_start-p.ensures c.mail_turn-t.ensures;
    }

pub returns-then-not-has_room : goal.returns-then-not-has_room
returns-then-not-has_room c =
    over-full c.requires c.head_start-p.ensures
    c.mail_turn-t.ensures (passes c.is_accepted.ensures (ap not c.if-not-is_accepted.false))
    (fails c.has_room.ensures (ap not c.if-not-has_room.true))

pub carry_mail-requires : goal.carry_mail-requires
carry_mail-requires c =
    over-takes c.requires c.head_start-p.ensures
    c.mail_turn-t.ensures (passes c.has_room.ensures (ap not c.if-not-has_room.false))

pub returns : goal.returns
returns c =
    over-played c.requires c.head_start-p.ensures
    c.mail_turn-t.ensures (passes c.is_accepted.ensures (ap not c.if-not-is_accepted.false))
    (passes c.has_room.ensures (ap not c.if-not-has_room.false)) c.carry_mail.ensures

pub head_start-p-requires : goal.head_start-p-requires
head_start-p-requires c = let made = head-lent c.requires in record {
  links_lent = made.0;
  me_value = made.1.0;
  nonzero = made.1.1;
}
