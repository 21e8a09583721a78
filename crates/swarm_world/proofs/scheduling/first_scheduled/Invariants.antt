use Rattle.std.specs.Option.{option_copied}
use Rattle.std.specs.Prelude.{◌≡◌, ◌-◌, [], IfSome}
use Rattle.swarm_objects.specs.Loops.Scheduler.{schedule}
use Rattle.swarm_sched.specs.Inside.KnownNodes.{KnowsNodes}
use Rattle.swarm_spans.specs.Spans.{CoversTasks}
use Rattle.swarm_world.proofs.scheduling.first_scheduled.Given as goal

abbrev pub invariant-loop-task : goal.invariant-loop-task
invariant-loop-task g l = record {
  covers : CoversTasks schedule (g.R.Rows.tables l.rows) l.span;
  knows : KnowsNodes (g.R.Rows.tables l.rows) l.known;
  idle : IfSome (option_copied l.before) (λ x. schedule (g.R.Rows.tables l.rows) x ≡ []);
}

abbrev pub decreases-loop-task : goal.decreases-loop-task
decreases-loop-task g l = l.span.high - l.span.after
