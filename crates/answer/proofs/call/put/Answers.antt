use Rattle.answer.proofs.CallLaws.{put-done, put-short}
use Rattle.answer.proofs.call.put.Goals as goal

pub returns-in-Ok : goal.returns-in-Ok
returns-in-Ok c =
    put-done _ c.write_formed-w.ensures
    c.in-Ok.is

pub returns-in-Err : goal.returns-in-Err
returns-in-Err c =
    put-short _ c.write_formed-w.ensures c.requires c.in-Err.is
