use Rattle.trials_plain.proofs.plain.call.Goals as goal

pub returns-clause-reply : goal.returns-clause-reply
returns-clause-reply c = c.call-reply.ensures.reply

pub returns-clause-halt : goal.returns-clause-halt
returns-clause-halt c = c.call-reply.ensures.halt
