use Rattle.std.proofs.Common.{ap}
use Rattle.swarm_model.specs.Calls.Networks.{new_network}
use Rattle.swarm_model.proofs.Base.Updates.{passed}
use Rattle.swarm_store.proofs.Ops.{network-created}
use Rattle.swarm_store.proofs.state.State.create_network.Goals as goal
use Rattle.swarm_store.specs.Inside.State.{tables_now}

pub returns-clause-done : goal.returns-clause-done
returns-clause-done c =
    let t = tables_now c.args.self.now in
    network-created c.args.version t c.args.name.now c.args.base c.args.bits
    (new_network c.args.version t.next_id c.in_ok-name.name c.args.base c.args.bits) c.put.new.self.rows
    c.in_ok-next_id.next_id c.requires c.in_ok-next_id.ensures.id
    (ap (λ name. new_network c.args.version t.next_id name c.args.base c.args.bits) c.in_ok-name.ensures)
    (passed c.check_new_network.result c.in_ok-check_new_network.field-0 _ c.check_new_network.ensures c.in_ok-check_new_network.was)
    c.in_ok-put.ensures.ok
