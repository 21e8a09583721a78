-- Histories up to an entry at which the settle test says that all is settled: they match.
use Rattle.std.specs.Prelude.{List, refl, take, ◌≡◌}
use Rattle.swarm_settle.proofs.Examples.NoNode as no_node
use Rattle.swarm_settle.proofs.Examples.PausedNode as paused_node
use Rattle.swarm_model.proofs.Examples.Journals.ClosedPlace as closed_place
use Rattle.swarm_model.proofs.Examples.Journals.DoneJob as done_job
use Rattle.swarm_model.proofs.Examples.Journals.EveryNode as every_node
use Rattle.swarm_model.proofs.Examples.Journals.FullNetwork as full_network
use Rattle.swarm_model.proofs.Examples.Journals.FullNode as full_node
use Rattle.swarm_model.proofs.Examples.Journals.GivenPort as given_port
use Rattle.swarm_model.proofs.Examples.Journals.LostLabel as lost_label
use Rattle.swarm_model.proofs.Examples.Journals.RefusedCalls as refused_calls
use Rattle.swarm_model.proofs.Examples.Journals.RemoteMessages as remote_messages
use Rattle.swarm_model.proofs.Examples.Journals.RolledBack as rolled_back
use Rattle.swarm_model.proofs.Examples.Journals.SpreadOut as spread_out
use Rattle.swarm_model.proofs.Examples.Journals.TwoReplicas as two_replicas
use Rattle.swarm_model.specs.History.{replay}
use Rattle.swarm_model.specs.Laws.Matches.{Matches}
use Rattle.swarm_model.specs.Settle.{settle_answer}
use Rattle.swarm_objects.specs.declared.calls.Entry.{Entry}
use Rattle.swarm_objects.specs.declared.duties.Settle.TheVariants as settle

record SettlesWell (h : List Entry) : Type 0 where
  settled : settle_answer (replay h) ≡ settle.Settled
  matched : Matches h

a_place_is_closed : SettlesWell (take 89 closed_place.history)
a_place_is_closed = record { settled = refl; matched = refl }

a_job_is_done : SettlesWell (take 59 done_job.history)
a_job_is_done = record { settled = refl; matched = refl }

nodes_are_ready : SettlesWell (take 8 every_node.history)
nodes_are_ready = record { settled = refl; matched = refl }

a_network_is_full : SettlesWell (take 66 full_network.history)
a_network_is_full = record { settled = refl; matched = refl }

a_node_is_full : SettlesWell (take 63 full_node.history)
a_node_is_full = record { settled = refl; matched = refl }

a_port_is_given : SettlesWell (take 2 given_port.history)
a_port_is_given = record { settled = refl; matched = refl }

a_label_is_lost : SettlesWell (take 38 lost_label.history)
a_label_is_lost = record { settled = refl; matched = refl }

a_node_is_ready : SettlesWell (take 4 refused_calls.history)
a_node_is_ready = record { settled = refl; matched = refl }

a_remote_node_was_told : SettlesWell (take 16 remote_messages.history)
a_remote_node_was_told = record { settled = refl; matched = refl }

an_update_is_rolled_back : SettlesWell (take 125 rolled_back.history)
an_update_is_rolled_back = record { settled = refl; matched = refl }

nodes_of_zones_are_ready : SettlesWell (take 16 spread_out.history)
nodes_of_zones_are_ready = record { settled = refl; matched = refl }

two_replicas_run : SettlesWell (take 30 two_replicas.history)
two_replicas_run = record { settled = refl; matched = refl }

a_paused_node_keeps_its_task : SettlesWell (take 22 paused_node.history)
a_paused_node_keeps_its_task = record { settled = refl; matched = refl }

no_node_is_there : SettlesWell (take 4 no_node.history)
no_node_is_there = record { settled = refl; matched = refl }
