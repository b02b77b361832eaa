-- `row::indexed::release` meets its contract: the first leave, or all.
use mathlib.Core.Path.{sym, ◌∙◌, subst}
use Prim.Native.Nat.{ℕ, ◌+◌, ◌-◌}
use lib.ListN.{get_or, drop}
use native.Mathlib.Omega.{arith}
use Rattle.row.specs.Row.{first_at, agreed_of}
use Rattle.row.specs.Lent.{Reindexed, Released}
use Rattle.row.proofs.IndexLaws.{agreed-length, Stays, stays, release_some, release_all}
use Rattle.row.proofs.indexed.release.Goals.{Then-do_stay}
use Rattle.row.proofs.indexed.release.Goals as goal

-- what the test has said
stay-here : (c : Then-do_stay) → let a = c.args in
    Stays c.args.j c.args.row.now c.requires.row_booked c.args.b c.args.first
    c.args.last
stay-here c =
    stays c.args.j c.args.row.now c.requires.row_booked c.args.b c.args.first c.args.last
    (sym c.do_stay.ensures ∙ c.if-do_stay.true)

pub drop_first-requires : goal.drop_first-requires
drop_first-requires c =
    let t = stay-here (goal.at.drop_first-requires c).Then-do_stay in
    let n = agreed-length c.args.j c.args.row.now c.requires.row_booked in record {
      row_booked = c.requires.row_booked;
      indexed = c.requires.indexed;
      d_le_a = (
        omega (arith, t.leave, c.leaving-d.ensures, c.agreed_count-a.ensures),
        c.agreed_count-a.ensures ∙ sym n,
      );
    }

pub overflow_sub-result : goal.overflow_sub-result
overflow_sub-result c =
    let t = stay-here (goal.at.overflow_sub-result c).Then-do_stay in
    omega (arith, t.leave, c.leaving-d.ensures, c.agreed_count-a.ensures)

pub returns-then-do_stay : goal.returns-then-do_stay
returns-then-do_stay c =
    let t = stay-here (goal.at.returns-then-do_stay c).Then-do_stay in
    let some = subst (λ (d : ℕ). Reindexed c.args.j 0 (get_or c.args.row.now first_at 0 + d)
    (drop d (agreed_of c.args.row.now)) c.args.row.now c.drop_first.new.row)
    c.leaving-d.ensures c.drop_first.ensures in
    subst (λ (m : ℕ). Released c.args.j c.args.b c.args.first c.args.last c.args.row.now m
    c.drop_first.new.row)
    (λ k. sym c.agreed_count-a.ensures k - sym c.leaving-d.ensures k)
    (release_some c.args.j c.args.row.now c.requires.row_booked c.args.b c.args.first
    c.args.last t _ some)

pub returns : goal.returns
returns c =
    release_all c.args.j c.args.row.now c.requires.row_booked c.args.b c.args.first c.args.last
    c.requires.count_value.1 _ c.clear.ensures
