use Rattle.memory.proofs.places.link_start.Goals as goal

pub returns : goal.returns
returns c = rw c.link_index.ensures.0 at c.link_row.ensures
