use mathlib.Core.Path.{ap, ◌∙◌}
use Prim.Native.Nat.{ℕ}
use native.Mathlib.Nat.{add-sub_cancel_left}
use Rattle.words.specs.Rows.{splice}
use Rattle.words.proofs.PartLaws.{length_cut}
use Rattle.found.specs.Stands.{words_at}
use Rattle.found.proofs.stands.read_group.Goals as goal

pub read_words-requires : goal.read_words-requires
read_words-requires c =
    let size = length_cut c.args.g.from c.args.g.count c.args.w.now c.requires.0 in
    (c.requires.2, rw size c.requires.1, c.requires.3)

pub returns : goal.returns
returns c =
    let size = length_cut c.args.g.from c.args.g.count c.args.w.now c.requires.0 in
    rw add-sub_cancel_left
    (ap (splice c.args.w.now c.args.g.from c.args.g.count)
    (c.read_words.ensures
    ∙ ap (λ (n : ℕ). words_at c.args.g.width n c.args.src.now c.args.at) size))
