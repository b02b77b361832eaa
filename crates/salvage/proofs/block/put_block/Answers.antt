use mathlib.Core.Path.{ap}
use Prim.Native.Nat.{ℕ, ◌-◌}
use native.Mathlib.Omega.{arith}
use Rattle.salvage.proofs.TableLaws.{sound-is}
use Rattle.salvage.proofs.PartsLaws.{loads-fit, block-put}
use borrow.Author.Rules.{rules}
use Rattle.salvage.proofs.block.put_block.Goals as goal

pub put_bodies-p-requires : goal.put_bodies-p-requires
put_bodies-p-requires c =
    record {
      table = c.requires.0;
      bodies = c.count_of-count.ensures;
      words = search rules;
      room = omega arith;
    }

pub overflow_sub-count : goal.overflow_sub-count
overflow_sub-count c =
    let s = sound-is c.args.image.now c.requires.0 in
    let l = s.least in
    omega arith

pub put_loads-p-requires : goal.put_loads-p-requires
put_loads-p-requires c =
    let w = c.put_bodies-p.ensures in record {
      loads_fit = loads-fit c.args.image.now c.requires.0 c.count_of-count.ensures w;
      most_lines_in_bounds = omega arith;
    }

pub put_bytes-requires : goal.put_bytes-requires
put_bytes-requires c =
    omega arith

pub returns : goal.returns
returns c =
    block-put c.args.image.now (ap (λ (x : ℕ). x - 2) c.count_of-count.ensures)
    c.put_bodies-p.ensures c.put_loads-p.ensures
    c.put_bytes.ensures
