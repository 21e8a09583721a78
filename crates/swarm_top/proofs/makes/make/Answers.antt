use Rattle.std.proofs.Common.{◌∙◌, arith}
use Rattle.swarm_top.proofs.Making.{made, make_not_usage, unmade}
use Rattle.swarm_top.proofs.makes.make.Goals as goal

pub returns-in-Ok-clause-make : goal.returns-in-Ok-clause-make
returns-in-Ok-clause-make g c =
    made c.args.number _ _ _ _ c.put_text.result c.as_bytes.result.now (c.as_bytes.ensures.value ∙ c.in-Ok.ensures) c.put_text.ensures

pub returns-in-Err-clause-make : goal.returns-in-Err-clause-make
returns-in-Err-clause-make g c = unmade c.args.number _ _ c.status.result c.status.ensures

pub returns-in-Ok-clause-words : goal.returns-in-Ok-clause-words
returns-in-Ok-clause-words g c =
    make_not_usage c.args.number _ c.put_text.result
    (made c.args.number _ _ _ _ c.put_text.result c.as_bytes.result.now (c.as_bytes.ensures.value ∙ c.in-Ok.ensures) c.put_text.ensures)

pub returns-in-Err-clause-words : goal.returns-in-Err-clause-words
returns-in-Err-clause-words g c = λ e. omega (arith, e, c.status.ensures)
