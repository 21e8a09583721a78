use Rattle.std.proofs.Common.{◌∙◌, ap, sym}
use Rattle.std.specs.Option.{option_copied}
use Rattle.swarm_model.specs.Calls.Refusals.{has_name, network_name}
use Rattle.swarm_objects.specs.Rows.{network_id}
use Rattle.swarm_store.proofs.Ops.{found-above}
use Rattle.swarm_store.proofs.state.State.remove_network.Goals as goal
use Rattle.swarm_store.specs.Inside.State.{tables_now}

pub remove-requires : goal.remove-requires
remove-requires c =
    let t = tables_now c.args.self.now in
    found-above network_id (has_name network_name c.args.name.now) t.networks c.in-Some.network.now c.requires.ordered.networks
    (sym c.network_named.ensures ∙ ap option_copied c.in-Some.is)
