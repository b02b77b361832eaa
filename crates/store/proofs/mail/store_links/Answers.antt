-- `store::mail::store_links` meets its contract: at each turn the first i are stored.
use mathlib.Core.Path.{ap, ◌∙◌}
use Prim.Native.Nat.{ℕ, ◌*◌}
use native.Mathlib.Omega.{arith}
use Rattle.cells.proofs.StoreLaws.{stored-none, next-has, row-wide, stored_next, stored-all}
use Rattle.store.proofs.mail.store_links.Goals as goal

pub loop-i-init : goal.loop-i-init
loop-i-init c =
    let wide = ap (λ (w : ℕ). c.args.m * w) c.link_width-w.ensures in
    stored-none (omega (arith, c.requires.l_in_bounds))

pub store_link-p-requires : goal.store_link-p-requires
store_link-p-requires c =
    let inv = c.loop-i.invariant in
    let within = c.loop-i-test.true in record {
      link_words = record {
        sizes = c.requires.link_sizes;
        width = row-wide inv within c.row_at-a.ensures.0
            ∙ c.link_width-w.ensures;
      };
      has = next-has inv within c.requires.has;
    }

pub loop-i-preserved : goal.loop-i-preserved
loop-i-preserved c =
    stored_next c.loop-i.invariant c.loop-i-test.true c.row_at-a.ensures.0
    c.store_link-p.new.row c.store_link-p.auto.row c.store_link-p.ensures

pub returns : goal.returns
returns c = stored-all c.link_width-w.ensures c.loop-i.invariant
    c.loop-i-test.false
