use Rattle.std.proofs.Common.{rules}
use Rattle.swarm_objects.specs.Changes.{wanted}
use Rattle.swarm_objects.specs.declared.tasks.Desired.TheVariants as desired
use Rattle.plain_orchestrators.proofs.Restarting.{changed_before}
use Rattle.plain_orchestrators.proofs.restart.replace_task.Goals as goal

pub returns-clause-ok : goal.returns-clause-ok
returns-clause-ok c =
    changed_before c.args.id (wanted c.args.version desired.Shutdown) c.args.tasks.now c.add.new.list _ c.args.next
    c.len-count.result c.in_ok-add.ensures.ok c.len-count.ensures (search rules)
