use Rattle.std.proofs.Common.{arith}
use Rattle.swarm_top.proofs.Making.{made_run, summed_not_usage, unsummed}
use Rattle.swarm_top.proofs.makes.make_run.Goals as goal

pub returns-in-Ok-clause-make_run : goal.returns-in-Ok-clause-make_run
returns-in-Ok-clause-make_run g c = made_run c.args.number _ c.run_text.result _ c.in-Ok.ensures c.run_text.ensures

pub returns-in-Err-clause-make_run : goal.returns-in-Err-clause-make_run
returns-in-Err-clause-make_run g c = unsummed _ _ _ c.status.result c.status.ensures

pub returns-in-Ok-clause-words : goal.returns-in-Ok-clause-words
returns-in-Ok-clause-words g c =
    summed_not_usage _ _ c.run_text.result (made_run c.args.number _ c.run_text.result _ c.in-Ok.ensures c.run_text.ensures)

pub returns-in-Err-clause-words : goal.returns-in-Err-clause-words
returns-in-Err-clause-words g c = λ e. omega (arith, e, c.status.ensures)
