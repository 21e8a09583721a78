use Rattle.swarm_index.proofs.IdLemmas.{next_here, next_past}
use Rattle.swarm_index.proofs.ids.Ids.next.Goals as goal

pub returns-in-Ok : goal.returns-in-Ok
returns-in-Ok c = next_past _ _ _ c.args.after c.in-Ok.at c.as_slice.ensures.value c.self.view_is c.self.invariant _ _ _ c.as_slice-in-Ok.ensures.value c.copied.ensures c.in-Ok.ensures.position c.get.ensures.lookup

pub returns-in-Err : goal.returns-in-Err
returns-in-Err c = next_here _ _ _ c.args.after c.in-Err.at c.as_slice.ensures.value c.self.view_is c.self.invariant _ _ _ c.as_slice-in-Err.ensures.value c.copied-in-Err.ensures c.in-Err.ensures.position c.get-in-Err.ensures.lookup
