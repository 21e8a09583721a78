use Rattle.std.proofs.Common.{◌≡◌, drop}
use Rattle.std.specs.Prelude.{flat_map}
use Rattle.swarm_model.specs.Settle.{session_wait, wait_cmp}
use Rattle.swarm_objects.specs.Rows.{least_by}
use Rattle.swarm_plain.specs.Plain.{world_of}
use Rattle.swarm_duties.proofs.waits.session_waits.Given as goal

abbrev pub invariant-loop-node : goal.invariant-loop-node
invariant-loop-node l =
    least_by wait_cmp l.least (flat_map (session_wait (world_of l.plain)) (drop l.node-index l.node-items))
    ≡ least_by wait_cmp l.fn.best (flat_map (session_wait (world_of l.plain)) l.plain.nodes)
