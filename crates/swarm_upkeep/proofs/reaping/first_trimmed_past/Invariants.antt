use Rattle.std.proofs.Common.{◌≡◌}
use Rattle.std.specs.Prelude.{◌&&◌}
use Rattle.swarm_objects.specs.Loops.Reaper.{is_past, is_trimmed}
use Rattle.swarm_objects.specs.Loops.Words.{duty_where}
use Rattle.swarm_objects.specs.Rows.{first_of}
use Rattle.swarm_objects.specs.declared.duties.Duty.TheVariants as duty
use Rattle.swarm_upkeep.proofs.reaping.first_trimmed_past.Given as goal

abbrev pub invariant-loop-task : goal.invariant-loop-task
invariant-loop-task g l =
    let t = g.R.Rows.tables l.rows in
    first_of (duty_where (λ x. is_past x && is_trimmed t x) (λ x. duty.Trim x.id) l.task-iterator)
    ≡ first_of (duty_where (λ x. is_past x && is_trimmed t x) (λ x. duty.Trim x.id) t.tasks)
