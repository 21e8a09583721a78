use Rattle.std.proofs.Common.{sym, ◌∙◌}
use Rattle.swarm_agent.proofs.RowPlaces.{not_set, set_at}
use Rattle.swarm_agent.proofs.executors.replace.Goals as goal

pub returns-then-is_at-clause-rows : goal.returns-then-is_at-clause-rows
returns-then-is_at-clause-rows c =
    c.exchange.ensures.rows
    ∙ (set_at c.args.executor.task c.lesser-at.result c.args.executor c.args.rows.now.items c.as_slice.result.now
    c.as_slice-2.result.now c.requires.rising c.as_slice.ensures.value c.as_slice-2.ensures.value c.lesser-at.ensures.count
    (sym c.is_at.ensures ∙ c.if-is_at.true)).1

pub returns-else-is_at-clause-rows : goal.returns-else-is_at-clause-rows
returns-else-is_at-clause-rows c =
    not_set c.args.executor.task c.lesser-at.result c.args.executor c.args.rows.now.items c.as_slice.result.now
    c.as_slice-2.result.now c.requires.rising c.as_slice.ensures.value c.as_slice-2.ensures.value c.lesser-at.ensures.count
    (sym c.is_at.ensures ∙ c.if-is_at.false)
