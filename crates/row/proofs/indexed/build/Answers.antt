-- `row::indexed::build` meets its contract.
use Rattle.row.proofs.IndexLaws.{built-none, built}
use Rattle.row.proofs.indexed.build.Goals as goal

pub enter_from-requires : goal.enter_from-requires
enter_from-requires c =
    let ok = c.requires in let made = built-none c.args.j c.args.row.now ok _ c.clear.ensures in
    record {
      row_booked = made.0;
      indexed = made.1.0;
      m_in_bounds = made.1.1;
    }

pub returns : goal.returns
returns c =
    built c.args.j c.args.row.now c.requires _ c.clear.ensures _
    c.enter_from.ensures
