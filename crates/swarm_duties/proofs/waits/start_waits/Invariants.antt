use Rattle.std.proofs.Common.{◌≡◌, drop}
use Rattle.std.specs.Prelude.{flat_map}
use Rattle.swarm_model.specs.Settle.{start_wait, wait_cmp}
use Rattle.swarm_objects.specs.Rows.{least_by}
use Rattle.swarm_plain.specs.Plain.{tables_of}
use Rattle.swarm_duties.proofs.waits.start_waits.Given as goal

abbrev pub invariant-loop-task : goal.invariant-loop-task
invariant-loop-task l =
    least_by wait_cmp l.least (flat_map (start_wait (tables_of l.plain)) (drop l.task-index l.task-items))
    ≡ least_by wait_cmp l.fn.best (flat_map (start_wait (tables_of l.plain)) l.plain.tasks)
