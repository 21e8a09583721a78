-- What each call does, on small worlds.
use Rattle.std.specs.Prelude.{List, None, Option, Some, [], codes, false, map, refl, true, ℕ, ◌++◌, ◌∷◌, ◌≡◌}
use Rattle.swarm_model.proofs.Examples.Usual.{agent_row, assigned, executor_row, node_row, service_row, session_row, task_row, task_seen}
use Rattle.swarm_model.proofs.Examples.Words.{add_network, all_events, create, draft_of, join, join_remote, leaves, on_networks, one, plain_draft, plain_node, plain_spec, plain_template, port, remote_draft, says, update, with_template, world_after}
use Rattle.swarm_model.specs.Calls.{call_outcome}
use Rattle.swarm_objects.specs.NewRows.{new_node}
use Rattle.swarm_model.specs.Outcome.{Outcome}
use Rattle.swarm_objects.proofs.Examples.Rows.{service, task}
use Rattle.swarm_objects.specs.Changes.{with_tables}
use Rattle.swarm_objects.specs.Defaults.{usual_workload}
use Rattle.swarm_objects.specs.Rows.{first_of}
use Rattle.swarm_objects.specs.World.{World, empty_tables, empty_world}
use Rattle.swarm_objects.specs.declared.agents.AgentMode.{AgentMode}
use Rattle.swarm_objects.specs.declared.agents.AgentMode.TheVariants as agent_mode
use Rattle.swarm_objects.specs.declared.agents.Executor.{Executor}
use Rattle.swarm_objects.specs.declared.agents.NodeAgent.{NodeAgent}
use Rattle.swarm_objects.specs.declared.calls.Call.{Call}
use Rattle.swarm_objects.specs.declared.calls.Call.TheVariants as call
use Rattle.swarm_objects.specs.declared.calls.Op.TheVariants as op
use Rattle.swarm_objects.specs.declared.calls.Query.TheVariants as query
use Rattle.swarm_objects.specs.declared.duties.Settle.TheVariants as settle
use Rattle.swarm_objects.specs.declared.ids.Kind.TheVariants as kind
use Rattle.swarm_objects.specs.declared.messages.Assigned.{Assigned}
use Rattle.swarm_objects.specs.declared.nodes.Availability.TheVariants as availability
use Rattle.swarm_objects.specs.declared.nodes.Node.{Node}
use Rattle.swarm_objects.specs.declared.nodes.NodeRole.TheVariants as node_role
use Rattle.swarm_objects.specs.declared.nodes.NodeState.TheVariants as node_state
use Rattle.swarm_objects.specs.declared.replies.Refusal.TheVariants as refusal
use Rattle.swarm_objects.specs.declared.replies.Reply.{Reply}
use Rattle.swarm_objects.specs.declared.replies.Reply.TheVariants as reply
use Rattle.swarm_objects.specs.declared.replies.ViewReply.TheVariants as view
use Rattle.swarm_objects.specs.declared.services.Draft.{Draft}
use Rattle.swarm_objects.specs.declared.services.Mode.{Mode}
use Rattle.swarm_objects.specs.declared.services.Mode.TheVariants as mode
use Rattle.swarm_objects.specs.declared.services.PortNumber.{PortNumber}
use Rattle.swarm_objects.specs.declared.services.Service.{Service}
use Rattle.swarm_objects.specs.declared.tasks.Attempt.{Attempt}
use Rattle.swarm_objects.specs.declared.tasks.Closed.TheVariants as closed
use Rattle.swarm_objects.specs.declared.tasks.Desired.TheVariants as desired
use Rattle.swarm_objects.specs.declared.tasks.Note.TheVariants as note
use Rattle.swarm_objects.specs.declared.tasks.Place.TheVariants.{On, Slot}
use Rattle.swarm_objects.specs.declared.tasks.Task.{Task}
use Rattle.swarm_objects.specs.declared.tasks.TaskState.{TaskState}
use Rattle.swarm_objects.specs.declared.tasks.TaskState.TheVariants as state
use Rattle.swarm_objects.specs.declared.templates.Port.{Port}
use Rattle.swarm_objects.specs.declared.views.NoteShown.TheVariants as note_shown
use Rattle.swarm_objects.specs.declared.views.PlaceShown.TheVariants as place_shown
use Rattle.swarm_objects.specs.declared.views.Shown.TheVariants as by
use Rattle.swarm_objects.specs.declared.watches.Event.{Event}
use Rattle.swarm_objects.specs.declared.watches.Verb.{Verb}
use Rattle.swarm_objects.specs.declared.watches.Verb.TheVariants as verb

-- Transactions.

-- each operation finds what the earlier ones did
one_after_the_other : says []
    (call.Txn
    (op.CreateNetwork (codes "lan") 167772416 29 ∷ op.CreateService (codes "web") (on_networks (codes "lan" ∷ []))
    ∷ []))
    ≡ reply.Txn (1 ∷ 2 ∷ [])
one_after_the_other = refl

-- all of them, or none
none_of_them : leaves [] (call.Txn (op.CreateService (codes "web") plain_draft ∷ op.RemoveService (codes "api") ∷ []))
    ≡ record empty_world { entries = 1 }
none_of_them = refl

no_operations : says [] (call.Txn []) ≡ reply.Txn []
no_operations = refl

joined : leaves [] (join (codes "n")) ≡ record empty_world {
  entries = 1;
  tables = record empty_tables {
    next_id = 2;
    nodes = record (node_row 1 1 (codes "n") plain_node) { state = node_state.Unknown } ∷ [];
  };
  agents = agent_row 1 0 [] ∷ [];
}
joined = refl

no_agent_of_remote : (leaves [] (join_remote (codes "r"))).agents ≡ []
no_agent_of_remote = refl

abbrev first_node : World → Option Node
first_node w = first_of w.tables.nodes

-- labels, role and availability are given; the rest stays
node_written : first_node
    (leaves (join (codes "n") ∷ [])
    (one (op.UpdateNode (codes "n") (Some 1) ((codes "k", codes "v") ∷ []) node_role.Manager availability.Drain)))
    ≡ Some (record (new_node 2 1 (codes "n") plain_node) {
      labels = (codes "k", codes "v") ∷ [];
      role = node_role.Manager;
      availability = availability.Drain;
    })
node_written = refl

-- A node that is removed: its tasks up to RUNNING are orphans, placed or not.

abbrev task_on : ℕ → Option ℕ → TaskState → Task
task_on id on s = record (task_row id 1 5 1 (Slot 1) plain_template) { node = on; state = s }

abbrev with_tasks : World → List Task → World
with_tasks w tasks = with_tables w (record w.tables { tasks = tasks })

removed : (call_outcome (with_tasks (world_after (join (codes "n") ∷ [])) (
    task_on 6 (Some 1) state.Running
    ∷ task_on 7 (Some 1) state.Pending
    ∷ task_on 8 (Some 1) state.Failed
    ∷ task_on 9 (Some 2) state.Running
    ∷ task_on 10 None state.Pending
    ∷ [])) (one (op.RemoveNode (codes "n") true))).after
    ≡ record empty_world {
      entries = 2;
      tables = record empty_tables {
        next_id = 2;
        tasks =
            record (task_on 6 (Some 1) state.Orphaned) { version = 2 }
            ∷ record (task_on 7 (Some 1) state.Orphaned) { version = 2 }
            ∷ task_on 8 (Some 1) state.Failed
            ∷ task_on 9 (Some 2) state.Running
            ∷ task_on 10 None state.Pending
            ∷ [];
      };
    }
removed = refl

-- Services.

abbrev first_service : World → Option Service
first_service w = first_of w.tables.services

abbrev web : Service
web = service_row 1 1 (codes "web") (plain_spec (mode.Replicated 1))

created : leaves [] (create (codes "web") plain_draft) ≡ record empty_world {
  entries = 1;
  tables = record empty_tables { next_id = 2; services = web ∷ [] };
}
created = refl

-- ids of networks in a draft's template are overwritten
networks_are_named : first_service
    (leaves [] (create (codes "web") (with_template (record plain_template { networks = 7 ∷ 7 ∷ [] })))) ≡ Some web
networks_are_named = refl

-- the template stays the same, and so does its version
scaled : first_service
    (leaves (create (codes "web") plain_draft ∷ []) (update (codes "web") None (draft_of (mode.Replicated 3))))
    ≡ Some (record web {
      version = 2;
      spec = plain_spec (mode.Replicated 3);
      previous = Some (plain_spec (mode.Replicated 1));
    })
scaled = refl

abbrev larger : Draft
larger = with_template (record plain_template { cpu = 200 })

templated : first_service (leaves (create (codes "web") plain_draft ∷ []) (update (codes "web") None larger))
    ≡ Some (record web {
      version = 2;
      spec = larger.spec;
      previous = Some (plain_spec (mode.Replicated 1));
      template_version = 2;
    })
templated = refl

-- back to the specification before, which then is the one to come back to
rolled_back : first_service
    (leaves (create (codes "web") plain_draft ∷ update (codes "web") None larger ∷ [])
    (one (op.RollbackService (codes "web") None)))
    ≡ Some (record web { version = 3; previous = Some larger.spec; template_version = 3; rolling_back = true })
rolled_back = refl

-- each update of a job is one more iteration
next_job : first_service
    (leaves (create (codes "web") (draft_of (mode.Job 1 1)) ∷ []) (update (codes "web") None (draft_of (mode.Job 1 1))))
    ≡ Some (record web {
      version = 2;
      spec = plain_spec (mode.Job 1 1);
      previous = Some (plain_spec (mode.Job 1 1));
      iteration = 1;
    })
next_job = refl

-- a number stays while the present specification or the one before has the open port
abbrev with_number : List Port → World
with_number ports = with_tables empty_world (record empty_tables {
  services = record web {
    spec = record web.spec { ports = ports };
    numbers = record { target = 80; udp = false; number = 30000 } ∷ [];
  } ∷ [];
})

abbrev numbers_after : World → Call → List (List PortNumber)
numbers_after w c = map (λ (s : Service). s.numbers) (call_outcome w c).after.tables.services

number_kept : numbers_after (with_number (port 80 None ∷ [])) (update (codes "web") None plain_draft)
    ≡ (record { target = 80; udp = false; number = 30000 } ∷ []) ∷ []
number_kept = refl

number_gone : numbers_after (with_number []) (update (codes "web") None plain_draft) ≡ [] ∷ []
number_gone = refl

-- its attempts go with it
abbrev attempt : ℕ → Attempt
attempt service = record { service = service; place = Slot 1; version = 1; at = 0 }

attempts_gone : (call_outcome (with_tables empty_world (record empty_tables {
  services = web ∷ [];
  attempts = attempt 1 ∷ attempt 2 ∷ [];
})) (one (op.RemoveService (codes "web")))).after.tables.attempts ≡ attempt 2 ∷ []
attempts_gone = refl

service_removed : leaves (create (codes "web") plain_draft ∷ []) (one (op.RemoveService (codes "web")))
    ≡ record empty_world {
      entries = 2;
      tables = record empty_tables { next_id = 2 };
    }
service_removed = refl

-- Networks and settings.

network_added : (leaves [] (add_network (codes "lan"))).tables.networks
    ≡ record { id = 1; version = 1; name = codes "lan"; base = 167772416; length = 29 } ∷ []
network_added = refl

network_removed : (leaves (add_network (codes "lan") ∷ []) (one (op.RemoveNetwork (codes "lan")))).tables.networks ≡ []
network_removed = refl

abbrev with_lan : Task → Task
with_lan x = record x { template = record plain_template { networks = 1 ∷ [] } }

-- a task that ended doesn't use it any more
unused_network_removed :
    (call_outcome
    (with_tasks (world_after (add_network (codes "lan") ∷ [])) (with_lan (task_on 6 (Some 1) state.Failed) ∷ []))
    (one (op.RemoveNetwork (codes "lan")))).after.tables.networks ≡ []
unused_network_removed = refl

-- of those who use it the least id is told, be it a task's
used_by_least : (call_outcome (with_tables empty_world (record empty_tables {
  services = record web {
    id = 7;
    spec = record web.spec { template = record plain_template { networks = 1 ∷ [] } };
  } ∷ [];
  tasks = with_lan (task_on 6 (Some 1) state.Running) ∷ [];
  networks = record { id = 1; version = 1; name = codes "lan"; base = 167772416; length = 29 } ∷ [];
})) (one (op.RemoveNetwork (codes "lan")))).reply
    ≡ reply.Refused (refusal.InUse 6)
used_by_least = refl

set : leaves [] (one (op.SetCluster (record { heartbeat = 1000; orphan = 1; history = 0 }))) ≡ record empty_world {
  entries = 1;
  tables = record empty_tables { settings = record { heartbeat = 1000; orphan = 1; history = 0 } };
}
set = refl

-- Queries change nothing, and name what is gone by its id.

viewed : leaves [] (call.View query.Clock) ≡ record empty_world { entries = 1 }
viewed = refl

shows_id_of_gone :
    (call_outcome (with_tasks empty_world (task_on 6 (Some 1) state.Running ∷ []))
    (call.View (query.ListTasks None))).reply
    ≡ reply.View (view.Tasks (
    record (task_seen 6 [] (place_shown.Slot 1) [] state.Running) { service = by.Id 5; node = Some (by.Id 1) } ∷ []))
shows_id_of_gone = refl

abbrev counts_of : Mode → List Task → Reply
counts_of m tasks =
    (call_outcome (with_tasks (world_after (create (codes "web") (draft_of m) ∷ [])) tasks)
    (call.View query.ListServices)).reply

abbrev counted : Mode → ℕ → ℕ → Reply
counted m running wanted =
    reply.View (view.Services (record {
      id = 1;
      name = codes "web";
      mode = m;
      running = running;
      wanted = wanted;
      update = None;
    } ∷ []))

-- live tasks that run are counted, beside those that are wanted
running_counted : counts_of (mode.Replicated 4) (
    record (task_on 6 (Some 1) state.Running) { service = 1 }
    ∷ record (task_on 7 (Some 1) state.Starting) { service = 1 }
    ∷ record (task_on 8 (Some 1) state.Running) { service = 1; desired = desired.Shutdown }
    ∷ task_on 9 (Some 1) state.Running
    ∷ [])
    ≡ counted (mode.Replicated 4) 1 4
running_counted = refl

abbrev on_node : ℕ → ℕ → TaskState → Task
on_node id node s = record (task_on id (Some node) s) { service = 1; place = On node }

-- of a global service the held places are wanted, of a job its total
wanted_of_global : counts_of mode.Global (on_node 6 1 state.Running ∷ on_node 7 2 state.Starting ∷ [])
    ≡ counted mode.Global 1 2
wanted_of_global = refl

wanted_of_job : counts_of (mode.Job 1 3) [] ≡ counted (mode.Job 1 3) 0 3
wanted_of_job = refl

abbrev closed_one : Task
closed_one = record (task_on 6 None state.Pending) {
  addresses = record { network = 8; number = 1002 } ∷ [];
  note = note.NoPort true;
  closed = Some closed.Done;
}

-- why its place is closed stands before why it waits
shows_cause : (call_outcome (with_tasks empty_world (closed_one ∷ [])) (call.View (query.InspectTask 6))).reply
    ≡ reply.View (view.Task (record {
      id = 6;
      version = 1;
      service = 5;
      place = place_shown.Slot 1;
      node = None;
      state = state.Pending;
      desired = desired.Running;
      addresses = 1002 ∷ [];
      note = note_shown.Closed closed.Done;
    }))
shows_cause = refl

-- Watches.

abbrev watched : List Call
watched =
    call.WatchBegin (record { kind = Some kind.Service; id = None })
    ∷ create (codes "web") plain_draft
    ∷ join (codes "n")
    ∷ update (codes "web") None (draft_of (mode.Replicated 3))
    ∷ one (op.RemoveService (codes "web"))
    ∷ []

abbrev service_event : ℕ → Verb → Event
service_event entry v = record { entry = entry; verb = v; kind = kind.Service; id = 2 }

-- a watcher is told of what its filter admits
polled_events : says watched (call.WatchPoll 1)
    ≡ reply.Events (service_event 2 verb.Created ∷ service_event 4 verb.Updated ∷ service_event 5 verb.Deleted ∷ [])
polled_events = refl

-- once
polled_again : says (watched ++ call.WatchPoll 1 ∷ []) (call.WatchPoll 1) ≡ reply.Events []
polled_again = refl

nothing_waits : (leaves watched (call.WatchPoll 1)).events ≡ []
nothing_waits = refl

-- with its end its events go
watch_ended : leaves watched (call.WatchFinish 1)
    ≡ record (world_after watched) { entries = 6; watchers = []; events = [] }
watch_ended = refl

-- a refused transaction makes no event
no_event_of_refused :
    (leaves (call.WatchBegin all_events ∷ [])
    (call.Txn (op.CreateService (codes "web") plain_draft ∷ op.RemoveService (codes "api") ∷ []))).events ≡ []
no_event_of_refused = refl

-- by kind, in this order
events_by_kind :
    (call_outcome
    (with_tasks (world_after (join (codes "n") ∷ call.WatchBegin all_events ∷ []))
    (task_on 6 (Some 1) state.Running ∷ []))
    (call.Txn
    (op.CreateNetwork (codes "lan") 167772416 29
    ∷ op.CreateService (codes "web") plain_draft
    ∷ op.RemoveNode (codes "n") true
    ∷ []))).after.events
    ≡ record { entry = 3; verb = verb.Deleted; kind = kind.Node; id = 1 }
    ∷ record { entry = 3; verb = verb.Created; kind = kind.Service; id = 4 }
    ∷ record { entry = 3; verb = verb.Updated; kind = kind.Task; id = 6 }
    ∷ record { entry = 3; verb = verb.Created; kind = kind.Network; id = 3 }
    ∷ []
events_by_kind = refl

-- Time.

ticked_on : leaves [] (call.Tick 1000)
    ≡ record empty_world { entries = 1; tables = record empty_tables { clock = 1000 } }
ticked_on = refl

-- Faults.

abbrev executor : ℕ → TaskState → Executor
executor task s = record (executor_row task usual_workload s 0) { reported = None }

abbrev with_executors : List Executor → World
with_executors executors = record (world_after (join (codes "n") ∷ call.Tick 7 ∷ [])) {
  agents = agent_row 1 0 executors ∷ [];
}

abbrev agents_after : World → Call → List NodeAgent
agents_after w c = (call_outcome w c).after.agents

abbrev in_mode : AgentMode → List Executor → List NodeAgent
in_mode m executors = record (agent_row 1 0 executors) { mode = m } ∷ []

abbrev four_executors : List Executor
four_executors =
    executor 6 state.Ready ∷ executor 7 state.Starting ∷ executor 8 state.Running ∷ executor 9 state.Complete ∷ []

abbrev failed_at : ℕ → ℕ → Executor
failed_at time task = record (executor task state.Failed) { since = time }

-- what starts or runs fails now, and what only waits stays
node_failed : agents_after (with_executors four_executors) (call.NodeFail (codes "n"))
    ≡ in_mode agent_mode.PowerOff
    (executor 6 state.Ready ∷ failed_at 7 7 ∷ failed_at 7 8 ∷ executor 9 state.Complete ∷ [])
node_failed = refl

node_started : agents_after (leaves (join (codes "n") ∷ []) (call.NodeFail (codes "n"))) (call.NodeStart (codes "n"))
    ≡ in_mode agent_mode.On []
node_started = refl

agent_stopped : agents_after (with_executors (executor 8 state.Running ∷ [])) (call.AgentStop (codes "n"))
    ≡ in_mode agent_mode.AgentOff (executor 8 state.Running ∷ [])
agent_stopped = refl

agent_started : agents_after (leaves (join (codes "n") ∷ []) (call.AgentStop (codes "n"))) (call.AgentStart (codes "n"))
    ≡ in_mode agent_mode.On []
agent_started = refl

-- without power nothing starts or stops
no_start_without_power : agents_after (leaves (join (codes "n") ∷ []) (call.NodeFail (codes "n")))
    (call.AgentStart (codes "n")) ≡ in_mode agent_mode.PowerOff []
no_start_without_power = refl

no_stop_without_power : agents_after (leaves (join (codes "n") ∷ []) (call.NodeFail (codes "n")))
    (call.AgentStop (codes "n")) ≡ in_mode agent_mode.PowerOff []
no_stop_without_power = refl

-- Remote nodes.

abbrev remote : World
remote = world_after (join_remote (codes "r") ∷ [])

-- by rising id, what no longer fits is rejected; what comes after it may fit
remote_begun : (call_outcome (with_tasks remote (
    record (task_on 6 (Some 1) state.Running) { template = record plain_template { cpu = 300 } }
    ∷ record (task_on 7 (Some 1) state.Running) { template = record plain_template { cpu = 300 } }
    ∷ task_on 8 (Some 1) state.Running
    ∷ [])) (call.RemoteBegin (codes "r") (Some 400) None)).after
    ≡ record remote {
      entries = 2;
      tables = record remote.tables {
        next_id = 3;
        nodes = record (new_node 2 1 (codes "r") remote_draft) { state = node_state.Ready; cpu = 400 } ∷ [];
        tasks =
            record (task_on 6 (Some 1) state.Running) { template = record plain_template { cpu = 300 } }
            ∷ record (task_on 7 (Some 1) state.Rejected) { template = record plain_template { cpu = 300 }; version = 2 }
            ∷ task_on 8 (Some 1) state.Running
            ∷ [];
        sessions = session_row 1 2 15000 0 ∷ [];
      };
    }
remote_begun = refl

abbrev opened : World
opened = world_after (join_remote (codes "r") ∷ call.RemoteBegin (codes "r") None None ∷ call.Tick 1000 ∷ [])

remote_beaten : (call_outcome opened (call.RemoteBeat (codes "r") 2)).after.tables.sessions
    ≡ session_row 1 2 16000 1000 ∷ []
remote_beaten = refl

abbrev assigned_six : Assigned
assigned_six = assigned 6 desired.Running usual_workload

remote_pulled :
    (call_outcome (with_tasks opened (task_on 6 (Some 1) state.Assigned ∷ []))
    (call.RemotePull (codes "r") 2)).after.sent
    ≡ record { node = 1; count = 1; tasks = assigned_six ∷ [] } ∷ []
remote_pulled = refl

abbrev reports : TaskState → TaskState → Outcome
reports old s = call_outcome (with_tasks opened (task_on 6 (Some 1) old ∷ [])) (call.RemoteStatus (codes "r") 2 6 s)

status_raised : reports state.Assigned state.Running ≡ record {
  reply = reply.Status true state.Running;
  after =
      record (with_tasks opened
      (record (task_on 6 (Some 1) state.Running) { version = 4; since = 1000 } ∷ [])) { entries = 4 };
}
status_raised = refl

-- a state that isn't above the task's changes nothing
status_passed : reports state.Running state.Ready ≡ record {
  reply = reply.Status false state.Running;
  after = record (with_tasks opened (task_on 6 (Some 1) state.Running ∷ [])) { entries = 4 };
}
status_passed = refl

-- nor does the very state
status_again : reports state.Running state.Running ≡ record {
  reply = reply.Status false state.Running;
  after = record (with_tasks opened (task_on 6 (Some 1) state.Running ∷ [])) { entries = 4 };
}
status_again = refl

-- Settle and Halt.

asked_settle : call_outcome empty_world (call.Settle 9)
    ≡ record { reply = reply.Settle 9 settle.Settled; after = record empty_world { entries = 1 } }
asked_settle = refl

halted : leaves [] call.Halt ≡ record empty_world { entries = 1; halted = true }
halted = refl
