use Rattle.std.proofs.Common.{ℕ, length, sym, subst, arith}
use Rattle.answer.specs.Ample.{Ample}
use Rattle.apply.proofs.RoomLaws.{larger_is}
use Rattle.apply.proofs.raw.call_rest.Goals as goal

pub refuse_image-requires : goal.refuse_image-requires
refuse_image-requires g c =
    let x = length c.args.site.now in
    let y = length c.args.links.now in
    let e = larger_is _ c.call_in.ensures c.in-Larger.is
    (subst (λ (i : ℕ). Ample i x y) (sym c.hold-n.auto.line) c.requires.ample) in
    omega (arith, e, c.hold-n.auto.line, c.requires.longest_of_all_in_bounds)
