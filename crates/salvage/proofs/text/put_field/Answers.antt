use mathlib.Core.Path.{refl}
use Rattle.salvage.proofs.TextLaws.{field_put}
use Rattle.salvage.proofs.text.put_field.Goals as goal

pub returns-in-Flag : goal.returns-in-Flag
returns-in-Flag c =
    field_put c.in-Flag.is refl
    c.put_bytes.ensures

pub returns-in-State : goal.returns-in-State
returns-in-State c =
    field_put c.in-State.is refl
    c.put_bytes-in-State.ensures

pub returns-in-Phase : goal.returns-in-Phase
returns-in-Phase c =
    field_put c.in-Phase.is refl
    c.put_bytes-in-Phase.ensures

pub returns-in-Kind : goal.returns-in-Kind
returns-in-Kind c =
    field_put c.in-Kind.is refl
    c.put_bytes-in-Kind.ensures

pub returns-in-Pn : goal.returns-in-Pn
returns-in-Pn c =
    field_put c.in-Pn.is refl
    c.put_bytes-in-Pn.ensures

pub returns-in-Last : goal.returns-in-Last
returns-in-Last c =
    field_put c.in-Last.is refl
    c.put_bytes-in-Last.ensures

pub returns-in-First : goal.returns-in-First
returns-in-First c =
    field_put c.in-First.is refl
    c.put_bytes-in-First.ensures

pub returns-in-StoredPn : goal.returns-in-StoredPn
returns-in-StoredPn c =
    field_put c.in-StoredPn.is refl
    c.put_bytes-in-StoredPn.ensures

pub returns-in-StoredNumber : goal.returns-in-StoredNumber
returns-in-StoredNumber c =
    field_put c.in-StoredNumber.is refl
    c.put_bytes-in-StoredNumber.ensures

pub returns-in-BestPn : goal.returns-in-BestPn
returns-in-BestPn c =
    field_put c.in-BestPn.is refl
    c.put_bytes-in-BestPn.ensures

pub returns-in-BestNumber : goal.returns-in-BestNumber
returns-in-BestNumber c =
    field_put c.in-BestNumber.is refl
    c.put_bytes-in-BestNumber.ensures

pub returns-in-Answered : goal.returns-in-Answered
returns-in-Answered c =
    field_put c.in-Answered.is refl
    c.put_bytes-in-Answered.ensures

pub returns-in-Accepts : goal.returns-in-Accepts
returns-in-Accepts c =
    field_put c.in-Accepts.is refl
    c.put_bytes-in-Accepts.ensures

pub returns-in-Heard : goal.returns-in-Heard
returns-in-Heard c =
    field_put c.in-Heard.is refl
    c.put_bytes-in-Heard.ensures

pub returns-in-Best : goal.returns-in-Best
returns-in-Best c =
    field_put c.in-Best.is refl
    c.put_bytes-in-Best.ensures

pub returns-in-Waiting : goal.returns-in-Waiting
returns-in-Waiting c =
    field_put c.in-Waiting.is refl
    c.put_bytes-in-Waiting.ensures

pub returns-in-Agreeing : goal.returns-in-Agreeing
returns-in-Agreeing c =
    field_put c.in-Agreeing.is refl
    c.put_bytes-in-Agreeing.ensures

pub returns-in-Peer : goal.returns-in-Peer
returns-in-Peer c =
    field_put c.in-Peer.is refl
    c.put_peer.ensures

pub returns-in-Unagreed : goal.returns-in-Unagreed
returns-in-Unagreed c =
    field_put c.in-Unagreed.is refl
    c.put_bytes-in-Unagreed.ensures

pub returns-in-Count : goal.returns-in-Count
returns-in-Count c =
    field_put c.in-Count.is refl
    c.put_bytes-in-Count.ensures
