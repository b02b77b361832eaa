use Rattle.apply.proofs.RoomLaws.{on_larger, fresh-fits}
use Rattle.apply.proofs.raw.line_in.Goals as goal

pub returns-in-Site : goal.returns-in-Site
returns-in-Site g c =
    on_larger _ _ c.come.result
    (λ k p. fresh-fits c.fresh_image-c.ensures p.1) c.come.ensures
