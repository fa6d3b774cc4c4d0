use Rattle.plan_fits.proofs.tells.submitter_is_told.Goals as goal

pub returns : goal.returns
returns c = rw (← c.as_slice-lines.ensures) c.is_told.ensures
