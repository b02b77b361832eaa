-- What a step or a call in code has that one of the model need not: frame numbers of 32 bits.
use Rattle.std.specs.Prelude.{◌<◌}
use Rattle.rules.specs.declared.model.Act.{Act}
use Rattle.rules.specs.declared.model.Call.{Call}

abbrev pub ActFits : Act → Type 0
ActFits Act.Recover = Unit {0}
ActFits Act.Collect = Unit {0}
ActFits Act.Ready = Unit {0}
ActFits (Act.Offer l r) = (l < 4294967296) × (r < 4294967296)
ActFits Act.Propose = Unit {0}
ActFits Act.Agree = Unit {0}
ActFits Act.Finish = Unit {0}
ActFits Act.Heard = Unit {0}
ActFits (Act.Trim k) = Unit {0}

abbrev pub CallFits : Call → Type 0
CallFits (Call.Elect c) = Unit {0}
CallFits (Call.Recover c) = Unit {0}
CallFits (Call.Collect c) = Unit {0}
CallFits (Call.Ready c) = Unit {0}
CallFits (Call.Offer c l r) = (l < 4294967296) × (r < 4294967296)
CallFits (Call.Propose c) = Unit {0}
CallFits (Call.Agree c) = Unit {0}
CallFits (Call.Finish c) = Unit {0}
CallFits (Call.Heard c) = Unit {0}
CallFits (Call.Trim c k) = Unit {0}
CallFits (Call.Stop c) = Unit {0}
CallFits (Call.Return c) = Unit {0}
CallFits (Call.Timeout c) = Unit {0}
CallFits (Call.Lose a b) = Unit {0}
CallFits (Call.Repeat a b) = Unit {0}
CallFits (Call.Deliver a b) = Unit {0}
