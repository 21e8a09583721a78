-- For each refusal, calls that are answered it.
use Rattle.std.specs.Prelude.{List, None, Some, [], codes, false, refl, replicate, true, ℕ, ◌∷◌, ◌≡◌}
use Rattle.swarm_model.proofs.Examples.Usual.{draft, no_row, task_row}
use Rattle.swarm_model.proofs.Examples.Words.{add_network, all_events, create, draft_of, join, join_remote, leaves, on_networks, one, plain_draft, plain_node, plain_spec, plain_template, port, says, update, with_ports, with_template, world_after}
use Rattle.swarm_model.specs.Calls.{call_outcome, outcome}
use Rattle.swarm_model.specs.Calls.Networks.{new_network}
use Rattle.swarm_objects.specs.NewRows.{new_node}
use Rattle.swarm_model.specs.Calls.Services.{new_service}
use Rattle.swarm_model.specs.Calls.Watches.{polled}
use Rattle.swarm_model.specs.History.{may_follow}
use Rattle.swarm_objects.specs.Changes.{with_tables}
use Rattle.swarm_objects.specs.Defaults.{usual_update, usual_workload}
use Rattle.swarm_objects.specs.World.{World, empty_tables, empty_world}
use Rattle.swarm_objects.specs.declared.calls.Call.{Call}
use Rattle.swarm_objects.specs.declared.calls.Call.TheVariants as call
use Rattle.swarm_objects.specs.declared.calls.Op.TheVariants as op
use Rattle.swarm_objects.specs.declared.calls.Query.TheVariants as query
use Rattle.swarm_objects.specs.declared.calls.What.TheVariants as what
use Rattle.swarm_objects.specs.declared.duties.Duty.TheVariants as duty
use Rattle.swarm_objects.specs.declared.ids.Kind.TheVariants as kind
use Rattle.swarm_objects.specs.declared.nodes.Availability.TheVariants as availability
use Rattle.swarm_objects.specs.declared.nodes.NodeRole.TheVariants as node_role
use Rattle.swarm_objects.specs.declared.nodes.NodeState.TheVariants as node_state
use Rattle.swarm_objects.specs.declared.replies.Refusal.TheVariants as refusal
use Rattle.swarm_objects.specs.declared.replies.Reply.{Reply}
use Rattle.swarm_objects.specs.declared.replies.Reply.TheVariants as reply
use Rattle.swarm_objects.specs.declared.replies.Wanted.TheVariants as wanted_by
use Rattle.swarm_objects.specs.declared.rules.SpecRule.{SpecRule}
use Rattle.swarm_objects.specs.declared.rules.SpecRule.TheVariants as rule
use Rattle.swarm_objects.specs.declared.services.Mode.TheVariants as mode
use Rattle.swarm_objects.specs.declared.tasks.Place.TheVariants.{Slot}
use Rattle.swarm_objects.specs.declared.tasks.Task.{Task}
use Rattle.swarm_objects.specs.declared.tasks.TaskState.{TaskState}
use Rattle.swarm_objects.specs.declared.tasks.TaskState.TheVariants as state
use Rattle.swarm_objects.specs.declared.templates.Key.TheVariants as key
use Rattle.swarm_objects.specs.declared.watches.Event.{Event}
use Rattle.swarm_objects.specs.declared.watches.Verb.TheVariants as verb

-- Rows that aren't there.

no_node : says [] (call.NodeFail (codes "n")) ≡ no_row kind.Node (codes "n")
no_node = refl

no_service : says [] (update (codes "web") None plain_draft) ≡ no_row kind.Service (codes "web")
no_service = refl

no_network : says [] (one (op.RemoveNetwork (codes "lan"))) ≡ no_row kind.Network (codes "lan")
no_network = refl

no_task : says [] (call.View (query.InspectTask 7)) ≡ reply.Refused (refusal.NotFound kind.Task (wanted_by.Id 7))
no_task = refl

-- the first of a draft's networks that isn't there
no_network_of_draft : says (add_network (codes "lan") ∷ [])
    (create (codes "web") (on_networks (codes "lan" ∷ codes "wan" ∷ codes "man" ∷ [])))
    ≡ no_row kind.Network (codes "wan")
no_network_of_draft = refl

no_task_of_remote : says (join_remote (codes "r") ∷ call.RemoteBegin (codes "r") None None ∷ [])
    (call.RemoteStatus (codes "r") 2 9 state.Running)
    ≡ reply.Refused (refusal.NotFound kind.Task (wanted_by.Id 9))
no_task_of_remote = refl

-- Names.

node_name_taken : says (join (codes "n") ∷ []) (join (codes "n")) ≡ reply.Refused (refusal.NameTaken 1)
node_name_taken = refl

service_name_taken : says (create (codes "web") plain_draft ∷ []) (create (codes "web") plain_draft)
    ≡ reply.Refused (refusal.NameTaken 1)
service_name_taken = refl

network_name_taken : says (add_network (codes "lan") ∷ []) (add_network (codes "lan"))
    ≡ reply.Refused (refusal.NameTaken 1)
network_name_taken = refl

-- the name comes before a network that isn't there
name_before_network : says (create (codes "web") plain_draft ∷ [])
    (create (codes "web") (on_networks (codes "lan" ∷ []))) ≡ reply.Refused (refusal.NameTaken 1)
name_before_network = refl

-- Versions.

node_conflict : says (join (codes "n") ∷ [])
    (one (op.UpdateNode (codes "n") (Some 9) [] node_role.Worker availability.Pause))
    ≡ reply.Refused (refusal.SequenceConflict 1)
node_conflict = refl

-- the version comes before the rules
node_conflict_first : says (join (codes "n") ∷ [])
    (one
    (op.UpdateNode (codes "n") (Some 9) (replicate 33 (codes "k", codes "v")) node_role.Worker availability.Active))
    ≡ reply.Refused (refusal.SequenceConflict 1)
node_conflict_first = refl

service_conflict : says (create (codes "web") plain_draft ∷ []) (update (codes "web") (Some 9) plain_draft)
    ≡ reply.Refused (refusal.SequenceConflict 1)
service_conflict = refl

-- the version comes before what there is to go back to
rollback_conflict : says (create (codes "web") plain_draft ∷ []) (one (op.RollbackService (codes "web") (Some 9)))
    ≡ reply.Refused (refusal.SequenceConflict 1)
rollback_conflict = refl

-- Specifications.

abbrev breaks : SpecRule → Reply
breaks r = reply.Refused (refusal.BadSpec r)

replicas : says [] (create (codes "web") (draft_of (mode.Replicated 10001))) ≡ breaks rule.Replicas
replicas = refl

most_replicas : says [] (create (codes "web") (draft_of (mode.Replicated 10000))) ≡ reply.Txn (1 ∷ [])
most_replicas = refl

concurrent : says [] (create (codes "web") (draft_of (mode.Job 0 1))) ≡ breaks rule.Concurrent
concurrent = refl

time : says []
    (create (codes "web")
    (with_template (record plain_template { workload = record usual_workload { prepare = 0 } })))
    ≡ breaks rule.Time
time = refl

reservation : says [] (create (codes "web") (with_template (record plain_template { cpu = 1000001 })))
    ≡ breaks rule.Reservation
reservation = refl

count : says (add_network (codes "lan") ∷ []) (create (codes "web") (on_networks (codes "lan" ∷ codes "lan" ∷ [])))
    ≡ breaks rule.Count
count = refl

ports : says [] (create (codes "web") (with_ports (port 80 None ∷ port 80 (Some 9) ∷ []))) ≡ breaks rule.Ports
ports = refl

-- host ports without a number are none, so they don't clash
host_ports_without_number : says []
    (create (codes "web") (with_template (record plain_template { host_ports = port 80 None ∷ port 80 None ∷ [] })))
    ≡ reply.Txn (1 ∷ [])
host_ports_without_number = refl

host_ports_with_number : says []
    (create (codes "web")
    (with_template (record plain_template { host_ports = port 80 (Some 8) ∷ port 80 (Some 8) ∷ [] })))
    ≡ breaks rule.Ports
host_ports_with_number = refl

spread : says [] (create (codes "web") (with_template (record plain_template { spread = key.Hostname ∷ [] })))
    ≡ breaks rule.Spread
spread = refl

ratio : says []
    (create (codes "web") (draft (record (plain_spec mode.Global) { update = record usual_update { ratio = 1001 } })))
    ≡ breaks rule.Ratio
ratio = refl

resources : says [] (one (op.CreateNode (codes "n") (record plain_node { cpu = 1000001 }))) ≡ breaks rule.Resources
resources = refl

resources_of_remote : says (join_remote (codes "r") ∷ []) (call.RemoteBegin (codes "r") (Some 1000001) None)
    ≡ breaks rule.Resources
resources_of_remote = refl

labels_of_node : says (join (codes "n") ∷ [])
    (one (op.UpdateNode (codes "n") None (replicate 33 (codes "k", codes "v")) node_role.Worker availability.Active))
    ≡ breaks rule.Count
labels_of_node = refl

-- with a bit below its length
subnet : says [] (one (op.CreateNetwork (codes "lan") 167772417 29)) ≡ breaks rule.Subnet
subnet = refl

settings : says [] (one (op.SetCluster (record { heartbeat = 999; orphan = 1; history = 0 }))) ≡ breaks rule.Settings
settings = refl

-- the first rule in the stated order
first_rule : says []
    (create (codes "web") (draft (record (plain_spec (mode.Job 0 10001)) { ports = port 0 None ∷ [] })))
    ≡ breaks rule.Replicas
first_rule = refl

-- the rules come before the mode
rule_before_mode : says (create (codes "web") plain_draft ∷ []) (update (codes "web") None (draft_of (mode.Job 0 1)))
    ≡ breaks rule.Concurrent
rule_before_mode = refl

-- and before the name
rule_before_name : says (add_network (codes "lan") ∷ []) (one (op.CreateNetwork (codes "lan") 167772417 29))
    ≡ breaks rule.Subnet
rule_before_name = refl

-- Uses.

abbrev on_lan : List Call
on_lan = add_network (codes "lan") ∷ create (codes "web") (on_networks (codes "lan" ∷ [])) ∷ []

in_use : says on_lan (one (op.RemoveNetwork (codes "lan"))) ≡ reply.Refused (refusal.InUse 2)
in_use = refl

-- also by the specification that a service had before
in_use_before : says
    (add_network (codes "lan") ∷ create (codes "web") (on_networks (codes "lan" ∷ []))
    ∷ update (codes "web") None plain_draft ∷ [])
    (one (op.RemoveNetwork (codes "lan"))) ≡ reply.Refused (refusal.InUse 2)
in_use_before = refl

port_taken : says (create (codes "web") (with_ports (port 80 (Some 90) ∷ [])) ∷ [])
    (create (codes "api") (with_ports (port 81 (Some 90) ∷ [])))
    ≡ reply.Refused (refusal.PortTaken 1)
port_taken = refl

-- not by the service itself
port_kept : says (create (codes "web") (with_ports (port 80 (Some 90) ∷ [])) ∷ [])
    (update (codes "web") None (with_ports (port 81 (Some 90) ∷ [])))
    ≡ reply.Txn (1 ∷ [])
port_kept = refl

-- a network that isn't there comes before the ports
network_before_port : says
    (create (codes "web") (with_ports (port 80 (Some 90) ∷ [])) ∷ create (codes "api") plain_draft ∷ [])
    (update (codes "api") None (record (with_ports (port 81 (Some 90) ∷ [])) { networks = codes "lan" ∷ [] }))
    ≡ no_row kind.Network (codes "lan")
network_before_port = refl

-- What can't be done as things are.

node_not_down : says (join (codes "n") ∷ []) (one (op.RemoveNode (codes "n") false))
    ≡ reply.Refused (refusal.NodeNotDown node_state.Unknown)
node_not_down = refl

mode_change : says (create (codes "web") plain_draft ∷ []) (update (codes "web") None (draft_of mode.Global))
    ≡ reply.Refused refusal.ModeChange
mode_change = refl

too_many_ops : says [] (call.Txn (replicate 201 (op.RemoveService (codes "web"))))
    ≡ reply.Refused (refusal.TooManyOps 201)
too_many_ops = refl

-- so many are done one after the other
as_many_ops : says [] (call.Txn (replicate 200 (op.RemoveService (codes "web")))) ≡ no_row kind.Service (codes "web")
as_many_ops = refl

no_previous : says (create (codes "web") plain_draft ∷ []) (one (op.RollbackService (codes "web") None))
    ≡ reply.Refused refusal.NoPrevious
no_previous = refl

no_tick : says [] (call.Tick 0) ≡ reply.Refused (refusal.BadTick 0)
no_tick = refl

long_tick : says [] (call.Tick 1001) ≡ reply.Refused (refusal.BadTick 1001)
long_tick = refl

-- no text of a script has it
far_tick : says [] (call.Tick 18446744073709551615) ≡ reply.Refused (refusal.BadTick 18446744073709551615)
far_tick = refl

-- Remote nodes.

abbrev open_remote : List Call
open_remote = join_remote (codes "r") ∷ call.RemoteBegin (codes "r") None None ∷ []

no_session : says (join_remote (codes "r") ∷ []) (call.RemoteBeat (codes "r") 2)
    ≡ reply.Refused (refusal.InvalidSession None)
no_session = refl

other_session : says open_remote (call.RemotePull (codes "r") 9) ≡ reply.Refused (refusal.InvalidSession (Some 2))
other_session = refl

abbrev at_deadline : World
at_deadline = with_tables (world_after open_remote) (record (world_after open_remote).tables { clock = 15000 })

expired_session : (call_outcome at_deadline (call.RemoteBeat (codes "r") 2)).reply
    ≡ reply.Refused (refusal.SessionExpired 15000)
expired_session = refl

-- another session is that at any time
session_before_deadline : (call_outcome at_deadline (call.RemoteBeat (codes "r") 9)).reply
    ≡ reply.Refused (refusal.InvalidSession (Some 2))
session_before_deadline = refl

abbrev with_task : TaskState → List Task
with_task s = record (task_row 9 1 5 1 (Slot 1) plain_template) { node = Some 1; state = s } ∷ []

abbrev remote_with : TaskState → World
remote_with s = with_tables (world_after open_remote) (record (world_after open_remote).tables { tasks = with_task s })

-- bound to the node, and not assigned to it yet
not_its_task : (call_outcome (remote_with state.Pending) (call.RemoteStatus (codes "r") 2 9 state.Running)).reply
    ≡ reply.Refused (refusal.NotThisNode 9)
not_its_task = refl

no_report : (call_outcome (remote_with state.Assigned) (call.RemoteStatus (codes "r") 2 9 state.Assigned)).reply
    ≡ reply.Refused (refusal.BadState state.Assigned)
no_report = refl

no_report_of_orphan :
    (call_outcome (remote_with state.Assigned) (call.RemoteStatus (codes "r") 2 9 state.Orphaned)).reply
    ≡ reply.Refused (refusal.BadState state.Orphaned)
no_report_of_orphan = refl

-- whose task it is comes before the state
task_before_state :
    (call_outcome (remote_with state.Pending) (call.RemoteStatus (codes "r") 2 9 state.Orphaned)).reply
    ≡ reply.Refused (refusal.NotThisNode 9)
task_before_state = refl

remote_has_no_agent : says open_remote (call.AgentStop (codes "r")) ≡ reply.Refused (refusal.WrongKind 1)
remote_has_no_agent = refl

node_is_inside : says (join (codes "n") ∷ []) (call.RemoteBegin (codes "n") None None)
    ≡ reply.Refused (refusal.WrongKind 1)
node_is_inside = refl

-- Watchers.

no_watcher_to_poll : says [] (call.WatchPoll 9) ≡ reply.Refused (refusal.UnknownWatcher 9)
no_watcher_to_poll = refl

no_watcher_to_end : says [] (call.WatchFinish 9) ≡ reply.Refused (refusal.UnknownWatcher 9)
no_watcher_to_end = refl

abbrev some_event : Event
some_event = record { entry = 3; verb = verb.Created; kind = kind.Node; id = 1 }

-- 10,000 events are told, and one more takes the watcher away
lagged : polled 5 (record empty_world { watchers = record { id = 1; filter = all_events; cursor = 0 } ∷ [] }) 1
    (replicate 10001 some_event)
    ≡ (reply.Refused (refusal.Lagged 10001), empty_world)
lagged = refl

told : (polled 5 empty_world 1 (replicate 10000 some_event)).0 ≡ reply.Events (replicate 10000 some_event)
told = refl

-- Numbers of rows.

abbrev same_nodes : ℕ → World
same_nodes k =
    with_tables empty_world (record empty_tables { nodes = replicate k (new_node 1 1 (codes "x") plain_node) })

too_many_nodes : (call_outcome (same_nodes 1000) (join (codes "n"))).reply
    ≡ reply.Refused (refusal.TooMany kind.Node 1000)
too_many_nodes = refl

as_many_nodes : (call_outcome (same_nodes 999) (join (codes "n"))).reply ≡ reply.Txn (1 ∷ [])
as_many_nodes = refl

abbrev same_services : ℕ → World
same_services k =
    with_tables empty_world
    (record empty_tables { services = replicate k (new_service 1 empty_tables (codes "x") plain_draft) })

too_many_services : (call_outcome (same_services 1000) (create (codes "web") plain_draft)).reply
    ≡ reply.Refused (refusal.TooMany kind.Service 1000)
too_many_services = refl

too_many_networks :
    (call_outcome
    (with_tables empty_world (record empty_tables { networks = replicate 100 (new_network 1 1 (codes "x") 0 29) }))
    (add_network (codes "lan"))).reply
    ≡ reply.Refused (refusal.TooMany kind.Network 100)
too_many_networks = refl

too_many_watchers : says (replicate 100 (call.WatchBegin all_events)) (call.WatchBegin all_events)
    ≡ reply.Refused (refusal.TooMany kind.Watcher 100)
too_many_watchers = refl

-- The end.

after_halt : says (call.Halt ∷ []) call.Halt ≡ reply.Refused refusal.Halted
after_halt = refl

abbrev long_history : World
long_history = record empty_world { entries = 300000 }

full : outcome long_history (call.Tick 1) ≡ record { reply = reply.Refused (refusal.Full 300000); after = long_history }
full = refl

halted_when_full : outcome (record long_history { halted = true }) (call.Tick 1)
    ≡ record { reply = reply.Refused refusal.Halted; after = record long_history { halted = true } }
halted_when_full = refl

-- there is always room for Halt
halt_when_full : (outcome long_history call.Halt).reply ≡ reply.HaltDone
halt_when_full = refl

no_duty_when_full : may_follow (record (leaves [] (join (codes "n"))) { entries = 300000 })
    (what.Duty (duty.Register 1)) ≡ false
no_duty_when_full = refl

duty_before : may_follow (record (leaves [] (join (codes "n"))) { entries = 299999 }) (what.Duty (duty.Register 1))
    ≡ true
duty_before = refl
