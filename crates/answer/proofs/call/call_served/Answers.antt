use mathlib.Core.Path.{sym, ◌∙◌}
use Rattle.answer.proofs.CallLaws.{read-front, read_done, call-some, call-short, call_none}
use Rattle.answer.proofs.call.call_served.Goals as goal

pub call_formed-requires : goal.call_formed-requires
call_formed-requires c =
    let h = read_done
    (read-front c.args.image.now c.args.n c.read-a.ensures)
    (sym c.answer_number-k.ensures ∙ c.if-k-eq0.true) in record {
      links_value = h.form;
      n_in_bounds = c.requires.n_in_bounds;
      links_value_2 = h.image;
    }

pub returns-then-k-eq0 : goal.returns-then-k-eq0
returns-then-k-eq0 c =
    call-some _ _ _ c.requires.n_in_bounds c.requires.l_value
    (read_done (read-front c.args.image.now c.args.n c.read-a.ensures)
    (sym c.answer_number-k.ensures ∙ c.if-k-eq0.true))
    c.call_formed.ensures

pub returns-then-k-eq12 : goal.returns-then-k-eq12
returns-then-k-eq12 c =
    call-short _ _ _ c.requires.n_in_bounds c.requires.l_value
    (read-front c.args.image.now c.args.n c.read-a.ensures)
    (sym c.answer_number-k.ensures ∙ c.if-k-eq12.true)

pub returns : goal.returns
returns c =
    call_none _ _ _ c.requires.n_in_bounds c.requires.l_value
    (read-front c.args.image.now c.args.n c.read-a.ensures)
    (λ e. c.if-k-eq0.false (c.answer_number-k.ensures ∙ e))
    (λ e. c.if-k-eq12.false (c.answer_number-k.ensures ∙ e))
