use mathlib.Core.Path.{◌≡◌}
use mathlib.Core.Bool.{true}
use Rattle.words.proofs.TestLaws.{fails, passes}
use Rattle.rules.specs.Sizes.{sizes_form}
use Rattle.site.proofs.FreshAfter.{fresh-sizes, fresh-short, fresh-made, boxes-few}
use Rattle.site.proofs.FreshAfter.{five-room, rows-room-put, links-room}
use mathlib.Core.Path.{ap}
use mathlib.Core.Bool.{not}
use Rattle.site.proofs.start.fresh.Goals.{Else-not-are_sizes}
use Rattle.site.proofs.start.fresh.Goals as goal

sized : (c : Else-not-are_sizes) → sizes_form c.args.n c.args.j
    c.args.l ≡ true
sized c = passes c.are_sizes.ensures (ap not c.if-not-are_sizes.false)

pub full_set-requires : goal.full_set-requires
full_set-requires c =
    boxes-few c.args.site.now c.args.links.now c.args.n c.args.j c.args.l
    (sized (goal.at.full_set-requires c).Else-not-are_sizes)

pub returns-then-not-has_words : goal.returns-then-not-has_words
returns-then-not-has_words c =
    fresh-short _ _ _ _ _ (sized (goal.at.returns-then-not-has_words c).Else-not-are_sizes)
    (fails c.has_words.ensures (ap not c.if-not-has_words.true))

pub put_setting-requires : goal.put_setting-requires
put_setting-requires c =
    five-room c.args.site.now c.args.links.now c.args.n c.args.j c.args.l
    (passes c.has_words.ensures (ap not c.if-not-has_words.false))

pub fresh_rows-requires : goal.fresh_rows-requires
fresh_rows-requires c = record {
  l_value = sized (goal.at.fresh_rows-requires c).Else-not-are_sizes;
  j_in_bounds = rows-room-put c.args.site.now c.args.links.now c.args.n c.args.j c.args.l
      c.full_set.result _
      c.put_setting.ensures
      (passes c.has_words.ensures (ap not c.if-not-has_words.false));
}

pub clear_links-requires : goal.clear_links-requires
clear_links-requires c = record {
  l_value = sized (goal.at.clear_links-requires c).Else-not-are_sizes;
  l_in_bounds = links-room c.args.site.now c.args.links.now c.args.n c.args.j c.args.l
      (passes c.has_words.ensures (ap not c.if-not-has_words.false));
}

pub returns : goal.returns
returns c =
    fresh-made c.args.site.now c.args.links.now c.args.n c.args.j c.args.l _
    c.full_set.ensures _ _
    (sized (goal.at.returns c).Else-not-are_sizes)
    (passes c.has_words.ensures (ap not c.if-not-has_words.false)) _
    c.put_setting.ensures c.fresh_rows.ensures
    c.clear_links.ensures

pub returns-then-not-are_sizes : goal.returns-then-not-are_sizes
returns-then-not-are_sizes c =
    fresh-sizes _ _ _ _ _ (fails c.are_sizes.ensures (ap not c.if-not-are_sizes.true))

pub has_words-requires : goal.has_words-requires
has_words-requires c = sized (goal.at.has_words-requires c).Else-not-are_sizes
