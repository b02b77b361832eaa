use mathlib.Core.Path.{refl}
use native.Mathlib.Omega.{arith}
use Rattle.site.proofs.KnownLaws.{five-words, epoch-most, links-lent}
use Rattle.site.proofs.ElectLaws.{boxes-lent, elect-go}
use Rattle.site.proofs.elections.elect_by.Goals as goal

pub clear_links-requires : goal.clear_links-requires
clear_links-requires c =
    let k = c.requires
    in
    let l = links-lent k in record {
      l_value = l.sizes;
      l_in_bounds = l.words;
    }

pub put_general-requires : goal.put_general-requires
put_general-requires c =
    omega (arith, five-words _ _ c.requires.form, c.elect_rows.ensures.words)

pub returns-in-Go : goal.returns-in-Go
returns-in-Go c =
    elect-go _ _ _ _ _ _ _ _
    c.in-Go.is
    refl
    c.elect_rows.ensures
    c.clear_links.ensures
    c.put_general.ensures

pub overflow_add-epoch : goal.overflow_add-epoch
overflow_add-epoch c = omega (arith, epoch-most c.requires)

pub elect_rows-requires : goal.elect_rows-requires
elect_rows-requires c = boxes-lent c.requires

pub returns-in-Discard : goal.returns-in-Discard
returns-in-Discard c = rw c.in-Discard.is (refl, (refl, refl))

pub returns-in-Refuse : goal.returns-in-Refuse
returns-in-Refuse c = rw c.in-Refuse.is (refl, (refl, refl))
