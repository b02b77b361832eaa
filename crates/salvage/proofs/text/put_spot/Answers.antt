use mathlib.Core.Path.{refl}
use Rattle.salvage.proofs.TextLaws.{spot_put}
use Rattle.salvage.proofs.text.put_spot.Goals as goal

pub returns-in-N : goal.returns-in-N
returns-in-N c =
    spot_put c.in-N.is refl
    c.put_bytes.ensures

pub returns-in-J : goal.returns-in-J
returns-in-J c =
    spot_put c.in-J.is refl
    c.put_bytes-in-J.ensures

pub returns-in-L : goal.returns-in-L
returns-in-L c =
    spot_put c.in-L.is refl
    c.put_bytes-in-L.ensures

pub returns-in-Epoch : goal.returns-in-Epoch
returns-in-Epoch c =
    spot_put c.in-Epoch.is refl
    c.put_bytes-in-Epoch.ensures

pub returns-in-Present : goal.returns-in-Present
returns-in-Present c =
    spot_put c.in-Present.is refl
    c.put_bytes-in-Present.ensures

pub returns-in-At : goal.returns-in-At
returns-in-At c =
    spot_put c.in-At.is refl
    c.put_field.ensures

pub returns-in-Record : goal.returns-in-Record
returns-in-Record c =
    spot_put c.in-Record.is refl
    c.put_record.ensures

pub returns-in-Link : goal.returns-in-Link
returns-in-Link c =
    spot_put c.in-Link.is refl
    c.put_count.ensures

pub returns-in-Mail : goal.returns-in-Mail
returns-in-Mail c =
    spot_put c.in-Mail.is refl
    c.put_mail_field.ensures

pub returns-in-MailRecord : goal.returns-in-MailRecord
returns-in-MailRecord c =
    spot_put c.in-MailRecord.is refl
    c.put_mail_record.ensures

pub returns-in-Rest : goal.returns-in-Rest
returns-in-Rest c =
    spot_put c.in-Rest.is refl
    c.put_bytes-in-Rest.ensures
