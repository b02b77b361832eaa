-- The link with its head twice, or full.
use native.Mathlib.Omega.{arith}
use Rattle.site.proofs.MailKnown.{head-lent, repeated_full, repeated_known}
use Rattle.site.proofs.mail.repeat.Goals as goal

pub double-requires : goal.double-requires
double-requires c =
    let k = head-lent c.requires.has_head in record {
      links_lent = k.0;
      me_value = k.1.0;
      nonzero = k.1.1;
      me_len_bound = omega (arith, c.requires.held_value, c.if-held-s.true);
    }

pub returns-then-held-s : goal.returns-then-held-s
returns-then-held-s c =
    repeated_known c.requires.has_head c.requires.held_value c.if-held-s.true c.double.ensures

pub returns : goal.returns
returns c =
    repeated_full c.requires.has_head c.requires.held_value c.if-held-s.false
