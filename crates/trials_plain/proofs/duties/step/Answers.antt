use Rattle.trials_plain.proofs.duties.step.Goals as goal

pub returns : goal.returns
returns c = c.step-done.ensures
