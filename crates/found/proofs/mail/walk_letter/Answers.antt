use native.Mathlib.Omega.{arith}
use mathlib.Core.Path.{sym, ap, subst, ◌∙◌}
use Rattle.letter.specs.Place.{kind_of, head_words}
use Rattle.cells.specs.Groups.{Cut, groups_length}
use Rattle.image.proofs.CutLaws.{first-few, letter-cut, letter-groups-long}
use Rattle.found.proofs.HeadLaws.{same-groups, letter-whole, letter-aside}
use Rattle.found.proofs.WalkLaws.{within_more}
use Rattle.found.proofs.mail.walk_letter.Goals as goal

pub overflow_add-p : goal.overflow_add-p
overflow_add-p c =
    let few = first-few c.kind_of-kind.result in
    omega arith

pub read_groups-requires : goal.read_groups-requires
read_groups-requires c =
    let k = c.kind_of-kind.result in
    let few = first-few k in
    let e = c.letter_groups-groups.ensures.0 in record {
      cut = subst (Cut 0 head_words) (sym e) (letter-cut k);
      near = (omega arith, omega (arith, ap groups_length e, letter-groups-long k));
    }

pub walk_enclosed-requires : goal.walk_enclosed-requires
walk_enclosed-requires c =
    let few = first-few c.kind_of-kind.result in
    (omega arith, omega arith)

pub returns-in-None : goal.returns-in-None
returns-in-None c =
    let few = first-few c.kind_of-kind.result in
    let e = c.letter_head_bytes.ensures in record {
      value = letter-whole c.args.j c.args.a c.args.b c.args.i
          c.args.src.now c.args.at
          (c.kind_of-kind.ensures ∙ ap kind_of c.number_at.ensures.value)
          (same-groups _ _ _ c.read_groups.ensures c.letter_groups-groups.ensures.0)
          c.head_fault-f.ensures
          c.in-None.is e c.walk_enclosed.ensures.value;
      within = within_more c.walk_enclosed.result (omega arith) c.walk_enclosed.ensures.within;
    }

pub returns-in-Some : goal.returns-in-Some
returns-in-Some c = record {
  value = letter-aside c.args.j c.args.a c.args.b c.args.i
      c.args.src.now c.args.at
      (c.kind_of-kind.ensures ∙ ap kind_of c.number_at.ensures.value)
      (same-groups _ _ _ c.read_groups.ensures c.letter_groups-groups.ensures.0)
      c.head_fault-f.ensures
      c.in-Some.is;
  within = tt;
}
