-- `whole::bodies::check_mail` meets its contract: the links' own answer, and their entry.
use mathlib.Core.Path.{sym, subst}
use native.Mathlib.Omega.{arith}
use Rattle.laws.proofs.FormLaws.{sizes-says}
use Rattle.memory.proofs.SizeLaws.{pairs-most}
use Rattle.cells.specs.Cells.{chain, Found, WalkIs}
use Rattle.cells.proofs.WalkLaws.{walk-found}
use Rattle.image.specs.Image.{link_bytes}
use Rattle.image.specs.Parts.{GoodLinks}
use Rattle.whole.specs.Whole.{MailIs}
use Rattle.whole.proofs.BodiesLaws.{mail-then}
use Rattle.whole.proofs.bodies.check_mail.Goals.{In_ok-q}
use Rattle.whole.proofs.bodies.check_mail.Goals as goal

pub overflow_sub-n : goal.overflow_sub-n
overflow_sub-n c = let z = sizes-says c.requires.l_value in omega arith

pub overflow_mul-n : goal.overflow_mul-n
overflow_mul-n c = omega (arith, pairs-most (sizes-says c.requires.l_value))

pub check_links-requires : goal.check_links-requires
check_links-requires c =
    let z = sizes-says c.requires.l_value in record {
      at_in_bounds = c.requires.at_in_bounds;
      j_le_most_loads = (z.few-loads, z.few-mails);
    }

-- where the links were found
mail : (c : In_ok-q) → Found (chain link_bytes) (GoodLinks c.args.n c.args.j c.args.l)
    c.args.src.now c.args.at c.in_ok-q.q
mail c = walk-found c.in_ok-q.was c.check_links.ensures

pub enter-requires : goal.enter-requires
enter-requires c =
    let next = (mail (goal.at.enter-requires c).In_ok-q).stands.next in
    (omega (arith, c.requires.n_in_bounds), omega arith)

pub returns-in_err-q : goal.returns-in_err-q
returns-in_err-q c =
    let is = subst (WalkIs (chain link_bytes) (GoodLinks c.args.n c.args.j c.args.l)
    c.args.src.now c.args.at) c.in_err-q.was c.check_links.ensures in
    subst (MailIs c.args.n c.args.j c.args.l c.args.src.now c.args.at c.args.table.now
    c.args.table.now) (sym c.from_residual.ensures) is

pub returns : goal.returns
returns c = mail-then (mail (goal.at.returns c).In_ok-q) c.enter.ensures
