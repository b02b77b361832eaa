use Rattle.apply.proofs.RoomLaws.{on_larger, unheard-fits}
use Rattle.apply.proofs.unheard.ask_of_input.Goals as goal

pub returns-in-Ok-Some : goal.returns-in-Ok-Some
returns-in-Ok-Some g c =
    on_larger _ _ c.come.result
    (λ k p. unheard-fits c.unheard_on_image-s.ensures p.1)
    c.come.ensures
