use Rattle.std.proofs.Common.{ℕ, List, ◌≡◌, ◌+◌, ◌-◌, ◌++◌, ◌∙◌, length, take, drop, subst, sym, ap}
use Rattle.std.proofs.Common.{arith}
use Rattle.std.proofs.lemmas.List.{take_rest}
use Rattle.std.proofs.Math.Seq.{take-add}
use Rattle.std.proofs.KnownBytes.{Appends-trans}
use Rattle.std.specs.Io.KnownBytes.{Appends}
use Rattle.streams.proofs.send.Goals as goal

-- the first i bytes, and the first n of the rest
then : (l : List ℕ) (i n : ℕ) → take (i + n) l ≡ take i l ++ take n (take (length l - i) (drop i l))
then l i n = take-add i n l ∙ ap (λ r. take i l ++ take n r) (sym (take_rest l i))

pub loop-i-preserved : goal.loop-i-preserved
loop-i-preserved g c = (
  omega (arith, c.in_ok-n.ensures.bound),
  subst (Appends _ _) (sym (then c.args.buf.now c.loop-i.i c.in_ok-n.n))
      (Appends-trans _ _ _ _ _ c.loop-i.invariant.1 c.in_ok-n.ensures.bytes),
)
