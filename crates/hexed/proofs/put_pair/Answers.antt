use Rattle.hexed.proofs.CodeLaws.{pair-wrote}
use Rattle.hexed.proofs.put_pair.Goals as goal

pub returns : goal.returns
returns c = pair-wrote _ _ _ c.digit.ensures c.digit-2.ensures c.put_byte-p.ensures
    c.put_byte.ensures
