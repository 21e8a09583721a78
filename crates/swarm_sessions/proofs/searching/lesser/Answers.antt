use Rattle.swarm_objects.specs.Rows.{session_node}
use Rattle.swarm_sessions.proofs.Placing.{parted_before}
use Rattle.swarm_sessions.proofs.searching.lesser.Goals as goal

pub returns-clause-count : goal.returns-clause-count
returns-clause-count c =
    parted_before session_node c.args.node c.parting.result c.args.rows.now c.parting.ensures.bound
    c.parting.ensures.parted
