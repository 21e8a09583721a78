use Rattle.swarm_sched.proofs.KnownAlike.{knows_spared}
use Rattle.swarm_sched.proofs.known_nodes.KnownNodes.forget_changed.Goals as goal

pub returns-then-are_spared-clause-goes_on : goal.returns-then-are_spared-clause-goes_on
returns-then-are_spared-clause-goes_on g c =
    knows_spared (g.R.Rows.tables c.args.rows.now) c.args.changes.now c.args.self.now c.requires.usable
    (c.are_spared.ensures c.if-are_spared.true) c.requires.knows
