use Rattle.std.proofs.Common.{sym, ◌∙◌}
use Rattle.swarm_agent.proofs.RowPlaces.{dropped, not_dropped}
use Rattle.swarm_agent.proofs.executors.forget.Goals as goal

pub returns-then-is_at-clause-rows : goal.returns-then-is_at-clause-rows
returns-then-is_at-clause-rows c =
    c.remove-executor.ensures.by_index.2
    ∙ dropped c.args.task c.lesser-at.result c.args.rows.now.items c.as_slice.result.now c.as_slice-2.result.now
    c.requires.rising c.as_slice.ensures.value c.as_slice-2.ensures.value c.lesser-at.ensures.count
    (sym c.is_at.ensures ∙ c.if-is_at.true)

pub returns-else-is_at-clause-rows : goal.returns-else-is_at-clause-rows
returns-else-is_at-clause-rows c =
    not_dropped c.args.task c.lesser-at.result c.args.rows.now.items c.as_slice.result.now c.as_slice-2.result.now
    c.requires.rising c.as_slice.ensures.value c.as_slice-2.ensures.value c.lesser-at.ensures.count
    (sym c.is_at.ensures ∙ c.if-is_at.false)
