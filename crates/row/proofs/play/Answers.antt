-- `row::play` meets its contract: the index of what stays, the records, the head and the count, and
-- then the index of all agreed records.
use mathlib.Core.Path.{ap, sym, ◌∙◌}
use Rattle.row.specs.Lent.{count_after}
use Rattle.row.proofs.BookLaws.{count-fits}
use Rattle.row.proofs.PlayLaws.{play_booked, play_indexed, play_writes, play_booked_again}
use Rattle.row.proofs.PlayLaws.{play_index, play_some, play_law, play_count}
use Rattle.row.proofs.play.Goals as goal

pub count_after-held-requires : goal.count_after-held-requires
count_after-held-requires c =
    rw c.number-count.ensures
    (count-fits c.args.row.now c.args.place.now c.args.t.book c.requires.writes)

pub release-indexed-requires : goal.release-indexed-requires
release-indexed-requires c = record {
  row_booked = play_booked c.args.n c.args.j c.args.row.now c.args.place.now c.args.t c.requires;
  indexed = play_indexed c.args.n c.args.j c.args.row.now c.args.place.now c.args.t c.requires;
  count_value = (c.number-count.ensures, c.requires.after.one, c.requires.after.order);
}

pub write-requires : goal.write-requires
write-requires c = record {
  writes = play_writes c.args.n c.args.j c.args.row.now c.args.place.now c.args.t c.requires _ _
      c.release-indexed.ensures;
  count_value = c.number-count.ensures
      ∙ sym (play_count c.args.n c.args.j c.args.row.now c.args.place.now c.args.t c.requires _ _
      c.release-indexed.ensures);
}

pub enter_from-requires : goal.enter_from-requires
enter_from-requires c =
    let held = c.count_after-held.ensures
    ∙ ap (count_after c.args.t.book) c.number-count.ensures in record {
      row_booked = play_booked_again c.args.n c.args.j c.args.row.now c.args.place.now
          c.args.t c.requires _ _
          c.release-indexed.ensures _ _ _ held c.write.ensures c.store.ensures;
      indexed = play_index c.args.n c.args.j c.args.row.now c.args.place.now c.args.t c.requires _ _
          c.release-indexed.ensures _ _ _ held c.write.ensures
          c.store.ensures;
      m_in_bounds = play_some c.args.n c.args.j c.args.row.now c.args.place.now
          c.args.t c.requires _ _
          c.release-indexed.ensures _ _ _ held c.write.ensures
          c.store.ensures;
    }

pub returns : goal.returns
returns c =
    let held = c.count_after-held.ensures
    ∙ ap (count_after c.args.t.book) c.number-count.ensures in
    play_law c.args.n c.args.j c.args.row.now c.args.place.now c.args.t c.requires _ _
    c.release-indexed.ensures _ _ _ held c.write.ensures c.store.ensures _
    c.enter_from.ensures
