use Rattle.tests_calls.specs.Small.{AreTasks}
use Rattle.tests_calls.proofs.few_reads.many_running.Given as goal

abbrev pub invariant-loop-id : goal.invariant-loop-id
invariant-loop-id l = AreTasks l.id l.tasks
