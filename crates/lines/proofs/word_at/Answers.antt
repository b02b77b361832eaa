-- `lines::word_at` meets its contract.
use mathlib.Core.Path.{◌∙◌, ap}
use Rattle.rules.specs.Pick.{pick}
use Rattle.lines.specs.Table.{word_of}
use Rattle.lines.proofs.word_at.Goals as goal

pub returns : goal.returns
unfolding word_of
returns c =
    c.or_word.ensures ∙ ap (pick _ _) (
    c.or_word-w-17.ensures ∙ ap (pick _ _) (
    c.or_word-w-16.ensures ∙ ap (pick _ _) (
    c.or_word-w-15.ensures ∙ ap (pick _ _) (
    c.or_word-w-14.ensures ∙ ap (pick _ _) (
    c.or_word-w-13.ensures ∙ ap (pick _ _) (
    c.or_word-w-12.ensures ∙ ap (pick _ _) (
    c.or_word-w-11.ensures ∙ ap (pick _ _) (
    c.or_word-w-10.ensures ∙ ap (pick _ _) (
    c.or_word-w-9.ensures ∙ ap (pick _ _) (
    c.or_word-w-8.ensures ∙ ap (pick _ _) (
    c.or_word-w-7.ensures ∙ ap (pick _ _) (
    c.or_word-w-6.ensures ∙ ap (pick _ _) (
    c.or_word-w-5.ensures ∙ ap (pick _ _) (
    c.or_word-w-4.ensures ∙ ap (pick _ _) (
    c.or_word-w-3.ensures ∙ ap (pick _ _) (
    c.or_word-w-2.ensures ∙ ap (pick _ _) c.or_word-w.ensures))))))))))))))))
