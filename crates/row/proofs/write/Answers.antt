-- `row::write` meets its contract, book by book.
use Rattle.row.proofs.BookLaws.{keep_law, drop_law, drop-room, put_law, put-room}
use Rattle.row.proofs.BookLaws.{take_law, take-room}
use Rattle.row.proofs.write.Goals as goal

pub move_down-requires : goal.move_down-requires
move_down-requires c =
    let w = rw c.in-Drop.is at c.requires.writes in
    rw c.requires.count_value (drop-room c.args.row.now c.args.place.now _ w)

pub put-requires : goal.put-requires
put-requires c =
    let w = rw c.in-Put.is at c.requires.writes in
    put-room c.args.row.now c.args.place.now _ _ _ w

pub take-requires : goal.take-requires
take-requires c =
    let w = rw c.in-Take.is at c.requires.writes in
    let z = take-room c.args.row.now c.args.place.now _ _ _ _ w in record {
      d_le_a = (z.stay, z.kept, z.some);
      b_in_bounds = z.room;
      e_in_bounds = z.there;
    }

pub returns-in-Keep : goal.returns-in-Keep
returns-in-Keep c =
    rw c.in-Keep.is (keep_law c.args.row.now c.args.place.now)

pub returns-in-Drop : goal.returns-in-Drop
returns-in-Drop c =
    let w = rw c.in-Drop.is at c.requires.writes in
    rw c.in-Drop.is
    (drop_law c.args.row.now c.args.place.now _ _ w
    (rw c.requires.count_value at c.move_down.ensures))

pub returns-in-Put : goal.returns-in-Put
returns-in-Put c =
    let w = rw c.in-Put.is at c.requires.writes in
    rw c.in-Put.is (put_law c.args.row.now c.args.place.now _ _ _ _ w c.put.ensures)

pub returns-in-Take : goal.returns-in-Take
returns-in-Take c =
    let w = rw c.in-Take.is at c.requires.writes in
    rw c.in-Take.is
    (take_law c.args.row.now c.args.place.now _ _ _ _ _ w c.take.ensures)
