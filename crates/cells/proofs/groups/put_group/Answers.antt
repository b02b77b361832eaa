-- `cells::groups::put_group` meets its contract.
use native.Mathlib.Nat.{add-sub_cancel_left}
use Rattle.cells.proofs.groups.put_group.Goals as goal

pub put_words-requires : goal.put_words-requires
put_words-requires c =
    rw add-sub_cancel_left c.requires.room

pub returns : goal.returns
returns c = rw add-sub_cancel_left at c.put_words.ensures
