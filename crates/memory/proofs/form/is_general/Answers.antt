use native.Mathlib.Omega.{arith}
use Rattle.words.proofs.TestLaws.{fails, passes}
use Rattle.laws.proofs.FormLaws.{sizes-says}
use Rattle.memory.proofs.FormLaws.{no-five, no-sizes, general-rest}
use mathlib.Core.Path.{ap}
use mathlib.Core.Bool.{not}
use Rattle.memory.proofs.form.is_general.Goals as goal

pub returns-then-not-are_sizes : goal.returns-then-not-are_sizes
returns-then-not-are_sizes c =
    no-sizes c.args.site.now
    (fails c.are_sizes.ensures (ap not c.if-not-are_sizes.true))

pub number-requires : goal.number-requires
number-requires c =
    let z = sizes-says
    (passes c.are_sizes.ensures (ap not c.if-not-are_sizes.false)) in
    omega arith

pub returns : goal.returns
returns c =
    general-rest c.args.site.now c.if-site-lt-GENERAL.false
    (passes c.are_sizes.ensures (ap not c.if-not-are_sizes.false)) _ _ c.number.ensures
    c.is_set-present.ensures

pub returns-then-site-lt-GENERAL : goal.returns-then-site-lt-GENERAL
returns-then-site-lt-GENERAL c = no-five c.args.site.now c.if-site-lt-GENERAL.true
