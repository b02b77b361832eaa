use Rattle.hexed.proofs.CodeLaws.{is-dash}
use Rattle.hexed.proofs.is_no_bytes.Goals as goal

pub returns : goal.returns
returns c = is-dash c.args.text.now c.eq.ensures c.as_slice.ensures
