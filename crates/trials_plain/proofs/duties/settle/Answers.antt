use Rattle.trials_plain.proofs.duties.settle.Goals as goal

pub returns-clause-answers : goal.returns-clause-answers
returns-clause-answers c = c.settle-answer.ensures.answers

pub returns-clause-matched : goal.returns-clause-matched
returns-clause-matched c = c.settle-answer.ensures.matched
