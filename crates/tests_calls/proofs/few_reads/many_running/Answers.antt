use Rattle.std.proofs.Common.{arith}
use Rattle.tests_calls.proofs.Small.{one_more}
use Rattle.tests_calls.proofs.few_reads.many_running.Goals as goal

pub loop-id-preserved : goal.loop-id-preserved
loop-id-preserved c =
    one_more c.loop-id.id c.loop-id.tasks c.add.new.list c.in_ok-task.task c.loop-id.invariant c.in_ok-add.ensures.ok
    c.in_ok-task.ensures.id (omega arith) c.in_ok-task.ensures.near
