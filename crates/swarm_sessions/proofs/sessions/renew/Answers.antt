use Rattle.std.proofs.Common.{◌∙◌, []}
use Rattle.swarm_objects.specs.Loops.Agents.{beaten}
use Rattle.swarm_sessions.proofs.Placing.{not_renewed, renewed}
use Rattle.swarm_sessions.specs.OnRecord.{tables_with}
use Rattle.swarm_sessions.proofs.sessions.renew.Goals as goal

pub returns-in-Some-clause-items : goal.returns-in-Some-clause-items
returns-in-Some-clause-items c =
    c.replace.ensures.items
    ∙ renewed c.args.node c.lesser-at.result (beaten (tables_with [] c.args.now c.args.heartbeat 0))
    c.args.rows.now.items c.as_slice.result.now c.as_slice-2.result.now c.in-Some.row c.beaten.result c.requires.rises
    c.as_slice.ensures.value c.as_slice-2.ensures.value c.lesser-at.ensures.count c.in-Some.ensures c.beaten.ensures

pub returns-in-None-clause-items : goal.returns-in-None-clause-items
returns-in-None-clause-items c =
    not_renewed c.args.node c.lesser-at.result (beaten (tables_with [] c.args.now c.args.heartbeat 0))
    c.args.rows.now.items c.as_slice.result.now c.as_slice-2.result.now c.requires.rises c.as_slice.ensures.value
    c.as_slice-2.ensures.value c.lesser-at.ensures.count c.in-None.ensures
