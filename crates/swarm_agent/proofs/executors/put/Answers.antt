use Rattle.std.proofs.Common.{refl, sym, ◌∙◌}
use Rattle.swarm_objects.proofs.Orders.{over_at}
use Rattle.swarm_agent.proofs.RowPlaces.{put_at}
use Rattle.swarm_objects.specs.Rows.{executor_task}
use Rattle.swarm_agent.proofs.executors.put.Goals as goal

pub returns-then-is_at-clause-ok : goal.returns-then-is_at-clause-ok
returns-then-is_at-clause-ok c =
    c.exchange.ensures.rows
    ∙ (over_at executor_task c.args.executor c.args.rows.now.items c.as_slice.result.now c.as_slice-2.result.now
    c.lesser-at.result c.args.executor.task c.args.executor.task c.as_slice.ensures.value c.as_slice-2.ensures.value refl
    refl c.lesser-at.ensures.count
    (sym c.is_at.ensures ∙ c.if-is_at.true)).1

pub returns-in-Ok-clause-ok : goal.returns-in-Ok-clause-ok
returns-in-Ok-clause-ok c =
    put_at c.args.executor c.lesser-at.result c.args.rows.now.items c.as_slice.result.now c.as_slice-2.result.now
    c.insert.new.self.items c.as_slice.ensures.value c.as_slice-2.ensures.value c.lesser-at.ensures.count
    (sym c.is_at.ensures ∙ c.if-is_at.false) c.in-Ok.ensures.items
