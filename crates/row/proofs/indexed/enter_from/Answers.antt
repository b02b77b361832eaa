-- The agreed records before place i are in the index.
use Prim.Native.Nat.{ℕ, ◌+◌, ◌<◌}
use mathlib.Core.Path.{ap, ◌∙◌}
use lib.ListN.{length, get_or}
use native.Mathlib.Omega.{arith}
use Rattle.row.specs.Row.{first_at, agreed_of}
use Rattle.row.proofs.IndexLaws.{agreed-length, entered-some, enters}
use Rattle.row.proofs.IndexLaws.{entered-more, entered_all}
use Rattle.row.proofs.indexed.enter_from.Goals as goal

pub loop-i-init : goal.loop-i-init
loop-i-init c =
    entered-some c.args.j c.args.row.now c.requires.row_booked c.args.m
    c.requires.m_in_bounds c.requires.indexed

pub enter_one-requires : goal.enter_one-requires
enter_one-requires c =
    let ok = c.requires.row_booked in
    let n = agreed-length c.args.j c.args.row.now ok in
    let inside : c.loop-i.i < length (agreed_of c.args.row.now) =
    omega (arith, n, c.agreed_count-a.ensures) in record {
      row_len = (
        c.loop-i.invariant.so_far.words ∙ c.requires.row_booked.words,
        c.requires.row_booked.loads,
        omega (arith, n, c.requires.row_booked.numbers.held, c.requires.row_booked.count),
      );
      appends = enters c.args.j c.args.row.now ok c.loop-i.i _ c.loop-i.row
          c.loop-i.invariant inside
          (c.number.ensures ∙ ap (λ (x : ℕ). get_or c.args.row.now first_at 0 + x)
          c.word.ensures);
    }

pub loop-i-preserved : goal.loop-i-preserved
loop-i-preserved c =
    let ok = c.requires.row_booked in
    let n = agreed-length c.args.j c.args.row.now ok in
    let inside : c.loop-i.i < length (agreed_of c.args.row.now) =
    omega (arith, n, c.agreed_count-a.ensures) in
    entered-more c.args.j c.args.row.now ok c.loop-i.i _ c.loop-i.row c.loop-i.invariant inside
    (c.number.ensures ∙ ap (λ (x : ℕ). get_or c.args.row.now first_at 0 + x)
    c.word.ensures) _ c.enter_one.ensures

pub returns : goal.returns
returns c =
    let ok = c.requires.row_booked in
    entered_all c.args.j c.args.row.now ok c.loop-i.i c.loop-i.row c.loop-i.invariant
    (omega (
      arith,
      agreed-length c.args.j c.args.row.now ok,
      c.agreed_count-a.ensures,
    ))
