use Rattle.swarm_update.proofs.known_survey.Kept.look.Goals as goal

pub renew-requires-clause-counted : goal.renew-requires-clause-counted
renew-requires-clause-counted g c = λ e. c.in-Some.ensures.so.failures e c.args.run.now c.in-Some.ensures.version
