use Rattle.found.proofs.WalkLaws.{number-near, enclosed-told}
use Rattle.found.proofs.mail.walk_enclosed.Goals as goal

pub records_way-requires : goal.records_way-requires
records_way-requires c =
    let few = number-near c.args.kind c.number_in-number.ensures
    c.number_at-first.ensures.upper_bound c.number_at-last.ensures.upper_bound in
    (c.requires.1, few, c.number_at-count.ensures.upper_bound, c.leading-m.ensures.upper_bound)

pub returns : goal.returns
returns c = record {
  value = enclosed-told c.args.a c.args.b c.args.i c.args.kind
      c.args.src.now c.args.at c.args.p
      c.number_at-last.ensures.value c.number_at-first.ensures.value
      c.number_in-number.ensures c.number_at-count.ensures.value
      c.leading-m.ensures.value c.records_way.ensures.value;
  within = c.records_way.ensures.within;
}
