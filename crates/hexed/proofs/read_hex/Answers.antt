use Rattle.std.proofs.Common.{refl, ◌-◌, ◌/◌, length, arith}
use Rattle.hexed.proofs.CodeLaws.{read_none, read-bad, read-long, read_all, tells-yes, tells-no}
use Rattle.hexed.proofs.read_hex.Goals as goal

pub returns-then-is_no_bytes : goal.returns-then-is_no_bytes
returns-then-is_no_bytes c = read_none _ _ (tells-yes _ c.if-is_no_bytes.true c.is_no_bytes.ensures)

pub returns-then-not-is_paired : goal.returns-then-not-is_paired
returns-then-not-is_paired c =
    read-bad _ _ (tells-no _ c.if-is_no_bytes.false c.is_no_bytes.ensures)
    (tells-no c.is_paired.result c.if-not-is_paired.true c.is_paired.ensures)

pub returns-then-out-n : goal.returns-then-out-n
returns-then-out-n c =
    read-long _ _ _
    (tells-yes c.is_paired.result c.if-not-is_paired.false
    c.is_paired.ensures) refl c.if-out-n.true

pub returns : goal.returns
returns c =
    read_all _ _ _ _ (length c.args.text.now / 2 - 0)
    (tells-yes c.is_paired.result c.if-not-is_paired.false
    c.is_paired.ensures) refl (omega arith) c.if-out-n.false c.get_digits.ensures
