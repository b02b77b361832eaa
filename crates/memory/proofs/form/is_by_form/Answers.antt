-- Each test in turn: the first that fails decides, and the links where none does.
use mathlib.Core.Path.{◌≡◌, ◌∙◌}
use mathlib.Core.Bool.{true}
use Rattle.words.proofs.TestLaws.{fails, passes}
use Rattle.rules.specs.Sizes.{sizes_form}
use Rattle.memory.specs.Parts.{general_form}
use Rattle.memory.proofs.FormLaws.{general-says, general-lent, sizes-read, words_say}
use Rattle.memory.proofs.FormLaws.{no-general, no_words, no_rows, links-rest}
use mathlib.Core.Path.{ap}
use mathlib.Core.Bool.{not}
use Rattle.memory.proofs.form.is_by_form.Goals.{After-setting_of-s, Else-not-is_general}
use Rattle.memory.proofs.form.is_by_form.Goals as goal

general : (c : Else-not-is_general) → general_form c.args.site.now ≡ true
general c = passes c.is_general.ensures (ap not c.if-not-is_general.false)

general-setting_of_s : (c : After-setting_of-s) → general_form c.args.site.now ≡ true
general-setting_of_s c = passes c.is_general.ensures (ap not c.if-not-is_general.false)

sized : (c : After-setting_of-s) → sizes_form c.setting_of-s.result.n c.setting_of-s.result.j
    c.setting_of-s.result.l ≡ true
sized c =
    sizes-read c.args.site.now c.args.links.now _ c.setting_of-s.ensures (general-setting_of_s c)

pub returns-then-not-is_general : goal.returns-then-not-is_general
returns-then-not-is_general c =
    no-general c.args.site.now c.args.links.now
    (fails c.is_general.ensures (ap not c.if-not-is_general.true))

pub returns-then-not-has_words : goal.returns-then-not-has_words
returns-then-not-has_words c =
    no_words c.args.site.now c.args.links.now _ c.setting_of-s.ensures
    (fails c.has_words.ensures (ap not c.if-not-has_words.true))

pub are_rows_by_form-requires : goal.are_rows_by_form-requires
are_rows_by_form-requires c = record {
  l_value = sized (goal.at.are_rows_by_form-requires c).After-setting_of-s;
  j_in_bounds = (words_say c.setting_of-s.result c.args.site.now c.args.links.now
      (passes c.has_words.ensures (ap not c.if-not-has_words.false))).0;
}

pub returns-then-not-are_rows_by_form : goal.returns-then-not-are_rows_by_form
returns-then-not-are_rows_by_form c =
    no_rows c.args.site.now c.args.links.now _ c.setting_of-s.ensures
    (fails c.are_rows_by_form.ensures (ap not c.if-not-are_rows_by_form.true))

pub are_links_by_form-requires : goal.are_links_by_form-requires
are_links_by_form-requires c = record {
  l_value = sized (goal.at.are_links_by_form-requires c).After-setting_of-s;
  l_in_bounds = (words_say c.setting_of-s.result c.args.site.now c.args.links.now
      (passes c.has_words.ensures (ap not c.if-not-has_words.false))).1;
}

pub returns : goal.returns
returns c =
    c.are_links_by_form.ensures
    ∙ links-rest c.args.site.now c.args.links.now _ c.setting_of-s.ensures
    (general (goal.at.returns c).Else-not-is_general)
    (passes c.has_words.ensures (ap not c.if-not-has_words.false))
    (passes c.are_rows_by_form.ensures (ap not c.if-not-are_rows_by_form.false))

pub setting_of-s-requires : goal.setting_of-s-requires
setting_of-s-requires c =
    general-lent (general-says (general (goal.at.setting_of-s-requires c).Else-not-is_general))

pub has_words-requires : goal.has_words-requires
has_words-requires c = sized (goal.at.has_words-requires c).After-setting_of-s
