use Prim.Native.Nat.{◌+◌}
use Rattle.letter.specs.Place.{place_form, head_words as letter_head}
use Rattle.own.specs.Entry.{place_reads}
use Rattle.own.proofs.FormLaws.{place-sized, long-tested, short-tested}
use Rattle.own.proofs.is_letter.Goals as goal

pub returns-then-letter-s : goal.returns-then-letter-s
unfolding place_reads
returns-then-letter-s c =
    short-tested (letter_head + c.args.s.j) c.args.letter.now _ _ c.if-letter-s.true

pub is_by_form-requires : goal.is_by_form-requires
is_by_form-requires c =
    rw c.used_place.ensures
    (place-sized c.args.s c.args.letter.now c.requires c.if-letter-s.false)

pub returns : goal.returns
unfolding place_form place_reads
returns c =
    long-tested (letter_head + c.args.s.j) c.args.letter.now _ _ c.if-letter-s.false
    (rw c.used_place.ensures at c.is_by_form.ensures)
