use Rattle.swarm_objects.specs.Rows.{node_id}
use Rattle.swarm_model.proofs.Base.Answers.{on-ok}
use Rattle.swarm_store.proofs.Standing.{id-there, node-put}
use Rattle.swarm_store.proofs.state.State.put_node.Goals as goal
use Rattle.swarm_store.specs.Inside.State.{tables_now}

pub put-requires : goal.put-requires
put-requires c = id-there node_id c.args.node.id c.args.self.now.nodes.rows c.requires.stands.ordered.nodes c.requires.there

pub returns-clause-ok : goal.returns-clause-ok
returns-clause-ok c =
    on-ok c.put.result (node-put (tables_now c.args.self.now) c.args.node c.put.new.self.rows c.requires.stands c.requires.there)
    c.put.ensures.ok
