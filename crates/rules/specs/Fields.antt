-- One field of a box changed and the others kept, once for each field: "A field not named stays".
use Rattle.std.specs.Prelude.{ℕ, Bool, List}
use Rattle.rules.specs.Types.{State, Phase, Kept, Best, BoxState}

abbrev pub with_leads : Bool → BoxState → BoxState
with_leads v b = record {
  leads = v;
  state = b.state;
  phase = b.phase;
  kept = b.kept;
  best = b.best;
  answered = b.answered;
  accepts = b.accepts;
  heard = b.heard;
  waiting = b.waiting;
  agreeing = b.agreeing;
  peers = b.peers;
}

abbrev pub with_state : State → BoxState → BoxState
with_state v b = record {
  leads = b.leads;
  state = v;
  phase = b.phase;
  kept = b.kept;
  best = b.best;
  answered = b.answered;
  accepts = b.accepts;
  heard = b.heard;
  waiting = b.waiting;
  agreeing = b.agreeing;
  peers = b.peers;
}

abbrev pub with_phase : Phase → BoxState → BoxState
with_phase v b = record {
  leads = b.leads;
  state = b.state;
  phase = v;
  kept = b.kept;
  best = b.best;
  answered = b.answered;
  accepts = b.accepts;
  heard = b.heard;
  waiting = b.waiting;
  agreeing = b.agreeing;
  peers = b.peers;
}

abbrev pub with_kept : Kept → BoxState → BoxState
with_kept v b = record {
  leads = b.leads;
  state = b.state;
  phase = b.phase;
  kept = v;
  best = b.best;
  answered = b.answered;
  accepts = b.accepts;
  heard = b.heard;
  waiting = b.waiting;
  agreeing = b.agreeing;
  peers = b.peers;
}

abbrev pub with_best : Best → BoxState → BoxState
with_best v b = record {
  leads = b.leads;
  state = b.state;
  phase = b.phase;
  kept = b.kept;
  best = v;
  answered = b.answered;
  accepts = b.accepts;
  heard = b.heard;
  waiting = b.waiting;
  agreeing = b.agreeing;
  peers = b.peers;
}

abbrev pub with_answered : ℕ → BoxState → BoxState
with_answered v b = record {
  leads = b.leads;
  state = b.state;
  phase = b.phase;
  kept = b.kept;
  best = b.best;
  answered = v;
  accepts = b.accepts;
  heard = b.heard;
  waiting = b.waiting;
  agreeing = b.agreeing;
  peers = b.peers;
}

abbrev pub with_accepts : ℕ → BoxState → BoxState
with_accepts v b = record {
  leads = b.leads;
  state = b.state;
  phase = b.phase;
  kept = b.kept;
  best = b.best;
  answered = b.answered;
  accepts = v;
  heard = b.heard;
  waiting = b.waiting;
  agreeing = b.agreeing;
  peers = b.peers;
}

abbrev pub with_heard : ℕ → BoxState → BoxState
with_heard v b = record {
  leads = b.leads;
  state = b.state;
  phase = b.phase;
  kept = b.kept;
  best = b.best;
  answered = b.answered;
  accepts = b.accepts;
  heard = v;
  waiting = b.waiting;
  agreeing = b.agreeing;
  peers = b.peers;
}

abbrev pub with_waiting : ℕ → BoxState → BoxState
with_waiting v b = record {
  leads = b.leads;
  state = b.state;
  phase = b.phase;
  kept = b.kept;
  best = b.best;
  answered = b.answered;
  accepts = b.accepts;
  heard = b.heard;
  waiting = v;
  agreeing = b.agreeing;
  peers = b.peers;
}

abbrev pub with_agreeing : ℕ → BoxState → BoxState
with_agreeing v b = record {
  leads = b.leads;
  state = b.state;
  phase = b.phase;
  kept = b.kept;
  best = b.best;
  answered = b.answered;
  accepts = b.accepts;
  heard = b.heard;
  waiting = b.waiting;
  agreeing = v;
  peers = b.peers;
}

abbrev pub with_peers : List ℕ → BoxState → BoxState
with_peers v b = record {
  leads = b.leads;
  state = b.state;
  phase = b.phase;
  kept = b.kept;
  best = b.best;
  answered = b.answered;
  accepts = b.accepts;
  heard = b.heard;
  waiting = b.waiting;
  agreeing = b.agreeing;
  peers = v;
}

-- the promised pn
abbrev pub promised : ℕ → Kept → Kept
promised q k = record { pn = q; last = k.last; first = k.first; stored = k.stored }

-- the last agreed number
abbrev pub lasting : ℕ → Kept → Kept
lasting l k = record { pn = k.pn; last = l; first = k.first; stored = k.stored }

-- the first kept number
abbrev pub keeping : ℕ → Kept → Kept
keeping f k = record { pn = k.pn; last = k.last; first = f; stored = k.stored }

-- the stored pn and the stored number
abbrev pub storing : ℕ → ℕ → Kept → Kept
storing q l k = record {
  pn = k.pn;
  last = k.last;
  first = k.first;
  stored = record { pn = q; number = l };
}
