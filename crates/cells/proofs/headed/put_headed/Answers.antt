-- `cells::headed::put_headed` meets its contract: the groups, and then the records.
use mathlib.Core.Path.{◌≡◌, refl, sym, subst}
use Prim.Native.Nat.{ℕ, ◌+◌, ◌-◌}
use mathlib.Core.List.{List}
use lib.ListN.{take, drop, get_or}
use Rattle.words.specs.Rows.{part}
use Rattle.words.proofs.PartLaws.{cut_at}
use Rattle.cells.specs.Cells.{cells, Room, Wrote}
use Rattle.cells.proofs.WriteLaws.{room-first, room-rest, wrote_seq}
use Rattle.cells.proofs.headed.put_headed.Goals.{After-size-held}
use Rattle.cells.proofs.headed.put_headed.Goals as goal

-- the records, as the code cuts them out
records : (c : After-size-held) →
    take (c.args.head + c.size-held.result - c.args.head) (drop c.args.head c.args.row.now)
    ≡ part c.args.row.now c.args.head (get_or c.args.row.now c.args.count 0)
records c =
    cut_at c.args.row.now refl c.size-held.ensures

pub put_groups-p-requires : goal.put_groups-p-requires
put_groups-p-requires c = record {
  cut = c.requires.cut;
  room = room-first _ c.requires.room;
}

pub put_words-requires : goal.put_words-requires
put_words-requires c =
    subst (λ (l : List ℕ). Room (cells 8 l) c.put_groups-p.new.out c.put_groups-p.result)
    (sym (records (goal.at.put_words-requires c).After-size-held))
    (room-rest c.requires.room c.put_groups-p.ensures)

pub returns : goal.returns
returns c =
    wrote_seq c.put_groups-p.ensures
    (subst (λ (l : List ℕ). Wrote (cells 8 l) c.put_groups-p.new.out c.put_groups-p.result
    c.put_words.new.out c.put_words.result) (records (goal.at.returns c).After-size-held)
    c.put_words.ensures)
