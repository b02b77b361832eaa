use mathlib.Core.Path.{sym, ◌∙◌}
use Rattle.answer.proofs.CallLaws.{put-served, put_refused}
use Rattle.answer.proofs.call.call_formed.Goals as goal

pub returns-then-is_unchanged : goal.returns-then-is_unchanged
returns-then-is_unchanged c =
    put_refused c.args.l c.args.site.now c.args.links.now
    c.serve-a.new.site c.serve-a.new.links c.serve-a.ensures _ _
    (sym c.is_unchanged.ensures ∙ c.if-is_unchanged.true) c.requires.n_in_bounds
    c.requires.links_value_2

pub put-requires : goal.put-requires
put-requires c =
    c.serve-a.ensures.form

pub returns : goal.returns
returns c =
    put-served c.args.l c.args.site.now c.args.links.now
    c.serve-a.new.site c.serve-a.new.links c.serve-a.ensures
    c.put.ensures
