-- `row::store` meets its contract: the words of its fields, and behind them what was there.
use mathlib.Core.Path.{◌∙◌}
use Rattle.row.proofs.NumberLaws.{flag-from}
use Rattle.row.proofs.StoreLaws.{store_law}
use Rattle.row.proofs.store.Goals as goal

pub returns : goal.returns
returns c =
    store_law c.args.row.now c.args.h c.args.held _
    (c.copy_from_slice.ensures.after
    ∙ simp (
      c.from-21.ensures,
      c.from-20.ensures,
      c.from-19.ensures,
      c.from-18.ensures,
      c.from-17.ensures,
      c.from-16.ensures,
      c.from-15.ensures,
      c.from-14.ensures,
      c.from-13.ensures,
      c.from-12.ensures,
      c.from-11.ensures,
      c.from-10.ensures,
      c.from-9.ensures,
      c.from-8.ensures,
      c.from-7.ensures,
      c.from-6.ensures,
      c.from-5.ensures,
      c.from-4.ensures,
      c.from-3.ensures,
      c.from-2.ensures,
      c.from.ensures,
      flag-from,
    ))
