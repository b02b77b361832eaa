use mathlib.Core.Path.{◌≡◌}
use Prim.Native.Nat.{◌+◌}
use native.Mathlib.Omega.{arith}
use lib.ListN.{length}
use Rattle.image.specs.Longest.{general_long}
use Rattle.writer.specs.Writer.{image, Formed}
use Rattle.writer.proofs.WholeLaws.{general-words, rows-lent, links-lent, few-boxes}
use Rattle.writer.proofs.WholeLaws.{image-long, most-bytes, boxes-short, mail-short}
use Rattle.writer.proofs.measure.Goals.{After-links_length-mail, After-setting_of-s}
use Rattle.writer.proofs.measure.Goals as goal

pub setting_of-s-requires : goal.setting_of-s-requires
setting_of-s-requires c =
    general-words c.args.site.now c.args.links.now c.requires

known : (c : After-setting_of-s) →
    Formed c.args.site.now c.args.links.now c.setting_of-s.result
known c = record { form = c.requires; setting = c.setting_of-s.ensures }

pub table_bytes-table-requires : goal.table_bytes-table-requires
table_bytes-table-requires c = let few =
    few-boxes (known (goal.at.table_bytes-table-requires c).After-setting_of-s) in omega arith

pub boxes_length-boxes-requires : goal.boxes_length-boxes-requires
boxes_length-boxes-requires c = let k =
    known (goal.at.boxes_length-boxes-requires c).After-setting_of-s in record {
      rows_lent = rows-lent k;
      short = boxes-short k;
    }

pub links_length-mail-requires : goal.links_length-mail-requires
links_length-mail-requires c =
    let k = known (goal.at.links_length-mail-requires c).After-setting_of-s in record {
      links_lent = links-lent k;
      short = mail-short k;
    }

known-links_length_mail : (c : After-links_length-mail) →
    Formed c.args.site.now c.args.links.now c.setting_of-s.result
known-links_length_mail c = record { form = c.requires; setting = c.setting_of-s.ensures }

-- The sum is the image's length.
total : (c : After-links_length-mail) →
    c.table_bytes-table.result + general_long + c.boxes_length-boxes.result
    + c.links_length-mail.result ≡ length (image c.args.site.now c.args.links.now)
total c =
    image-long (known-links_length_mail c) c.table_bytes-table.ensures
    c.boxes_length-boxes.ensures c.links_length-mail.ensures

pub overflow_add-result-2 : goal.overflow_add-result-2
overflow_add-result-2 c =
    omega (
      arith,
      total (goal.at.overflow_add-result-2 c).After-links_length-mail,
      most-bytes (known (goal.at.overflow_add-result-2 c).After-setting_of-s),
    )

pub overflow_add-result-3 : goal.overflow_add-result-3
overflow_add-result-3 c =
    omega (
      arith,
      total (goal.at.overflow_add-result-3 c).After-links_length-mail,
      most-bytes (known (goal.at.overflow_add-result-3 c).After-setting_of-s),
    )

pub returns : goal.returns
returns c = record {
  setting = c.setting_of-s.ensures;
  total = total (goal.at.returns c).After-links_length-mail;
}
