-- The count, then three times a body and its entry.
use native.Mathlib.Omega.{arith}
use Rattle.writer.proofs.WholeLaws.{Begun, long-enough, rows-lent, links-lent, few-boxes}
use Rattle.writer.proofs.WholeLaws.{count_room, space_general, space_boxes, space_mail}
use Rattle.writer.proofs.WholeLaws.{wrote-whole}
use Rattle.writer.proofs.write_image.Goals.{After-put_words-k}
use Rattle.writer.proofs.write_image.Goals as goal

-- What is known when the count is written.
begun : (c : After-put_words-k) →
    Begun c.args.site.now c.args.links.now c.args.s c.args.out.now c.put_words-k.new.out
    c.put_words-k.result c.table_bytes-start.result
begun c =
    record {
      formed = c.requires.formed;
      count = c.word.result;
      number = c.word.ensures;
      table = c.table_bytes-start.ensures;
      room = c.requires.room;
      wrote = c.put_words-k.ensures;
    }

pub table_bytes-start-requires : goal.table_bytes-start-requires
table_bytes-start-requires c =
    let few = few-boxes c.requires.formed in
    omega arith

pub put_words-k-requires : goal.put_words-k-requires
put_words-k-requires c =
    count_room c.requires.formed c.word.ensures c.requires.room

pub write_general-a-requires : goal.write_general-a-requires
write_general-a-requires c =
    let b = begun (goal.at.write_general-a-requires c).After-put_words-k in record {
      general_words_in_bounds = long-enough b.formed;
      space = space_general b;
    }

pub write_boxes-b-requires : goal.write_boxes-b-requires
write_boxes-b-requires c =
    let b = begun (goal.at.write_boxes-b-requires c).After-put_words-k in record {
      rows_lent = rows-lent b.formed;
      space = space_boxes b c.write_general-a.ensures;
    }

pub write_mail-requires : goal.write_mail-requires
write_mail-requires c =
    let b = begun (goal.at.write_mail-requires c).After-put_words-k in record {
      links_lent = links-lent b.formed;
      space = space_mail b c.write_general-a.ensures c.write_boxes-b.ensures;
    }

pub returns : goal.returns
returns c =
    wrote-whole (begun (goal.at.returns c).After-put_words-k) c.write_general-a.ensures
    c.write_boxes-b.ensures c.write_mail.ensures
