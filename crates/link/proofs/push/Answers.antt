use native.Mathlib.Omega.{arith}
use Rattle.link.proofs.HoldLaws.{first_below, count_most, push_done}
use Rattle.link.proofs.push.Goals as goal

pub place_at-start-requires : goal.place_at-start-requires
place_at-start-requires c =
    let ok = c.requires.readable_link in record {
      link_sizes = c.requires.readable_link.words.sizes;
      first_lt_l = omega (arith, first_below ok, count_most ok);
    }

pub overflow_add-count : goal.overflow_add-count
overflow_add-count c =
    omega (arith, count_most c.requires.readable_link)

pub returns : goal.returns
returns c =
    push_done c.args.j c.args.l c.args.link.now c.requires.readable_link c.requires.link_len_bound
    c.args.m c.args.records.now c.enclose.new.place
    c.size-first.result c.size-count.result c.place_at-start.result c.word.result
    c.size-first.ensures c.size-count.ensures c.place_at-start.ensures.0 c.word.ensures
    c.enclose.ensures
