-- `store::mail::store_letters` meets its contract: at each turn the first i are stored.
use mathlib.Core.Path.{refl}
use Rattle.cells.proofs.StoreLaws.{stored-none, next-has, row-wide, stored_next, stored-all}
use Rattle.store.proofs.mail.store_letters.Goals as goal

pub store_letter-p-requires : goal.store_letter-p-requires
store_letter-p-requires c =
    let inv = c.loop-i.invariant in
    let within = c.loop-i-test.true in record {
      place_sized = record {
        words = row-wide inv within c.row_at-a.ensures.0;
        most = c.requires.j_le_most_loads;
      };
      has = next-has inv within c.requires.has;
    }

pub loop-i-preserved : goal.loop-i-preserved
loop-i-preserved c =
    stored_next c.loop-i.invariant c.loop-i-test.true c.row_at-a.ensures.0
    c.store_letter-p.new.place c.store_letter-p.auto.place c.store_letter-p.ensures

pub loop-i-init : goal.loop-i-init
loop-i-init c = stored-none c.requires.j_in_bounds

pub returns : goal.returns
returns c = stored-all refl c.loop-i.invariant c.loop-i-test.false
