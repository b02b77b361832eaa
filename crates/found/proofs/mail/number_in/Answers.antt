use Rattle.found.proofs.mail.number_in.Goals as goal

pub returns-in-Begin : goal.returns-in-Begin
returns-in-Begin c =
    simp
    c.in-Begin.is
