use Rattle.std.proofs.Common.{◌∙◌}
use Rattle.swarm_top.proofs.Making.{none_put, same_text}
use Rattle.swarm_top.proofs.makes.put_summary.Goals as goal

pub returns-in-Ok : goal.returns-in-Ok
returns-in-Ok g c =
    same_text c.as_bytes.result.now _ _ _ c.put_text.result (c.as_bytes.ensures.value ∙ c.in-Ok.ensures) c.put_text.ensures

pub returns-in-Err : goal.returns-in-Err
returns-in-Err g c = none_put _ _ _ _ c.status.result c.status.ensures
