-- `row::load` meets its contract.
use Rattle.row.proofs.load.Goals as goal

pub returns : goal.returns
returns c =
    simp (
      c.peer_of-5.ensures,
      c.peer_of-4.ensures,
      c.peer_of-3.ensures,
      c.peer_of-2.ensures,
      c.peer_of.ensures,
      c.number-7.ensures,
      c.number-6.ensures,
      c.number-5.ensures,
      c.number-4.ensures,
      c.number-3.ensures,
      c.number-2.ensures,
      c.number.ensures,
      c.phase_of-phase.ensures,
      c.state_of-state.ensures,
      c.number-heard.ensures,
      c.number-accepts.ensures,
      c.number-answered.ensures,
    )
