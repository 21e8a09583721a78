-- Duties out of order, among them reject, forget, leave, beat, raise, restart and delete.
use Rattle.std.specs.Prelude.{List, None, Some, [], codes, false, refl, true, ◌∷◌, ◌≡◌}
use Rattle.swarm_model.proofs.Examples.Audit.{IsPlayed, Told, asked, did, entries_of, played}
use Rattle.swarm_model.proofs.Examples.LawTests.{laws_hold}
use Rattle.swarm_model.proofs.Examples.Usual.{agent_row, assigned, draft, executor_row, made, no_node, no_service, node_row, service_row, session_row, task_row, ticks}
use Rattle.swarm_model.proofs.Examples.Words.{one}
use Rattle.swarm_objects.specs.Defaults.{usual_node, usual_restart, usual_spec, usual_template, usual_update, usual_workload}
use Rattle.swarm_objects.specs.World.{World, empty_tables, empty_world}
use Rattle.swarm_objects.specs.declared.calls.Call.TheVariants as call
use Rattle.swarm_objects.specs.declared.calls.Entry.{Entry}
use Rattle.swarm_objects.specs.declared.calls.Op.TheVariants as op
use Rattle.swarm_objects.specs.declared.calls.Query.TheVariants as query
use Rattle.swarm_objects.specs.declared.duties.Duty.TheVariants as duty
use Rattle.swarm_objects.specs.declared.duties.Settle.TheVariants as settle
use Rattle.swarm_objects.specs.declared.ids.Kind.TheVariants as kind
use Rattle.swarm_objects.specs.declared.nodes.Availability.TheVariants as availability
use Rattle.swarm_objects.specs.declared.nodes.NodeRole.TheVariants as node_role
use Rattle.swarm_objects.specs.declared.replies.Refusal.TheVariants as refusal
use Rattle.swarm_objects.specs.declared.replies.Reply.TheVariants as reply
use Rattle.swarm_objects.specs.declared.replies.ViewReply.TheVariants as view
use Rattle.swarm_objects.specs.declared.services.Mode.TheVariants as mode
use Rattle.swarm_objects.specs.declared.services.ServiceSpec.{ServiceSpec}
use Rattle.swarm_objects.specs.declared.tasks.Desired.TheVariants as desired
use Rattle.swarm_objects.specs.declared.tasks.Note.TheVariants as note
use Rattle.swarm_objects.specs.declared.tasks.Place.TheVariants.{Slot}
use Rattle.swarm_objects.specs.declared.tasks.TaskState.TheVariants as state
use Rattle.swarm_objects.specs.declared.templates.End.TheVariants as end
use Rattle.swarm_objects.specs.declared.templates.Key.TheVariants as key
use Rattle.swarm_objects.specs.declared.templates.Template.{Template}
use Rattle.swarm_objects.specs.declared.templates.Workload.{Workload}
use Rattle.swarm_objects.specs.declared.watches.Verb.TheVariants as verb

abbrev workload_1 : Workload
workload_1 = record usual_workload { end = end.Exit 1000 1 }

abbrev template_1 : Template
template_1 = record usual_template {
  workload = workload_1;
  constraints = record { key = key.Label (codes "zone"); equal = false; value = codes "b" } ∷ [];
  spread = key.Label (codes "zone") ∷ key.Engine (codes "disk") ∷ [];
  restart = record usual_restart { delay = 1 };
}

abbrev spec_1 : ServiceSpec
spec_1 = record usual_spec {
  mode = mode.Global;
  template = template_1;
  update = record usual_update { monitor = 100; ratio = 1000 };
}

abbrev template_2 : Template
template_2 = record usual_template {
  constraints = record { key = key.Label (codes "zone"); equal = false; value = codes "a" } ∷ [];
  spread = key.Label (codes "zone") ∷ [];
  restart = record usual_restart { delay = 0 };
}

abbrev spec_2 : ServiceSpec
spec_2 = record usual_spec { mode = mode.Job 1 4; template = template_2 }

abbrev template_3 : Template
template_3 = record usual_template {
  constraints = record { key = key.Label (codes "zone"); equal = false; value = codes "b" } ∷ [];
  spread = key.Label (codes "zone") ∷ [];
  restart = record usual_restart { delay = 0 };
}

abbrev spec_3 : ServiceSpec
spec_3 = record usual_spec {
  mode = mode.Job 1 4;
  template = template_3;
  update = record usual_update { parallelism = 0; delay = 5 };
}

abbrev workload_3 : Workload
workload_3 = record usual_workload { stop = 2 }

abbrev template_4 : Template
template_4 = record usual_template {
  workload = workload_3;
  constraints = record { key = key.Label (codes "zone"); equal = false; value = codes "a" } ∷ [];
  host_ports = record { target = 80; number = Some 8000; udp = false } ∷ [];
  restart = record usual_restart { delay = 4 };
}

abbrev spec_4 : ServiceSpec
spec_4 = record usual_spec {
  mode = mode.Global;
  template = template_4;
  update = record usual_update { parallelism = 0; ratio = 500 };
}

abbrev spec_5 : ServiceSpec
spec_5 = record usual_spec {
  mode = mode.Global;
  template = template_1;
  update = record usual_update { parallelism = 0; monitor = 100; ratio = 1000 };
}

abbrev workload_4 : Workload
workload_4 = record usual_workload { prepare = 2; end = end.Exit 1000 1 }

abbrev template_5 : Template
template_5 = record usual_template {
  workload = workload_4;
  constraints = record { key = key.Role; equal = true; value = codes "worker" } ∷ [];
  restart = record usual_restart { delay = 50 };
}

abbrev spec_6 : ServiceSpec
spec_6 = record usual_spec {
  mode = mode.Job 2 1;
  template = template_5;
  ports = record { target = 0; number = None; udp = false } ∷ [];
  update = record usual_update { monitor = 5 };
}

abbrev pub journal : List Told
journal =
    asked 0 (one (op.CreateNode (codes "n1") usual_node)) (made 1)
    ∷ asked 0 (one (op.SetCluster (record { heartbeat = 1000; orphan = 86400000; history = 2 }))) (made 0)
    ∷ asked 0 (one (op.CreateService (codes "s1") (draft spec_1))) (made 2)
    ∷ asked 0 (one (op.CreateService (codes "s2") (draft spec_2))) (made 3)
    ∷ asked 0 (call.Txn (
    op.UpdateService (codes "s4") None (draft spec_1)
    ∷ op.UpdateService (codes "s2") None (draft spec_3)
    ∷ op.RemoveNode (codes "n3") false
    ∷ op.UpdateNode (codes "n1") None ((codes "zone", codes "b") ∷ []) node_role.Worker availability.Active
    ∷ [])) (no_service (codes "s4"))
    ∷ did 0 (duty.JobCreate 3 0)
    ∷ did 0 (duty.Register 1)
    ∷ asked 0 (call.Txn (
    op.UpdateNode (codes "n2") None ((codes "zone", codes "b") ∷ []) node_role.Manager availability.Active
    ∷ op.CreateService (codes "s1") (draft spec_4)
    ∷ op.UpdateService (codes "s1") None (draft spec_5)
    ∷ op.UpdateNode (codes "n3") (Some 1) ((codes "zone", codes "a") ∷ []) node_role.Manager availability.Drain
    ∷ [])) (no_node (codes "n2"))
    ∷ did 0 (duty.Pull 1)
    ∷ did 0 (duty.Apply 1)
    ∷ ticks 1000
    ∷ asked 0 (call.AgentStop (codes "r1")) (no_node (codes "r1"))
    ∷ did 0 (duty.GlobalCreate 2 1)
    ∷ did 0 (duty.Address 4)
    ∷ did 0 (duty.Address 6)
    ∷ did 0 (duty.Place 4 1)
    ∷ did 0 (duty.Beat 1)
    ∷ asked 0 (call.RemoteBegin (codes "r2") None (Some 1000)) (no_node (codes "r2"))
    ∷ asked 0 (call.Settle 49871) (reply.Settle 49871 (settle.Busy (duty.Place 6 1)))
    ∷ asked 0 (one (op.RollbackService (codes "s2") None)) (reply.Refused refusal.NoPrevious)
    ∷ did 0 (duty.Pull 1)
    ∷ did 0 (duty.Place 6 1)
    ∷ did 0 (duty.Apply 1)
    ∷ did 0 (duty.Pull 1)
    ∷ asked 0 (one (op.UpdateService (codes "s4") None (draft spec_6))) (no_service (codes "s4"))
    ∷ did 0 (duty.Apply 1)
    ∷ did 0 (duty.Exec 1 4)
    ∷ asked 0 (call.RemoteBegin (codes "r1") None None) (no_node (codes "r1"))
    ∷ asked 0
    (one (op.UpdateNode (codes "n1") None ((codes "zone", codes "a") ∷ []) node_role.Worker availability.Drain))
    (made 1)
    ∷ did 0 (duty.Leave 2 1)
    ∷ asked 0
    (one (op.UpdateNode (codes "n1") (Some 12) ((codes "zone", codes "b") ∷ []) node_role.Manager availability.Pause))
    (reply.Refused (refusal.SequenceConflict 29))
    ∷ did 0 (duty.Pull 1)
    ∷ ticks 100
    ∷ asked 0 (call.NodeStart (codes "n2")) (no_node (codes "n2"))
    ∷ asked 0
    (one (op.UpdateNode (codes "r2") None ((codes "zone", codes "b") ∷ []) node_role.Manager availability.Pause))
    (no_node (codes "r2"))
    ∷ asked 0 (call.AgentStop (codes "n2")) (no_node (codes "n2"))
    ∷ did 0 (duty.Apply 1)
    ∷ did 0 (duty.Reject 4)
    ∷ asked 0 (call.RemoteBegin (codes "r1") None None) (no_node (codes "r1"))
    ∷ did 0 (duty.Restart 4)
    ∷ did 0 (duty.Pull 1)
    ∷ did 0 (duty.Apply 1)
    ∷ did 0 (duty.Address 7)
    ∷ did 0 (duty.Raise 7)
    ∷ ticks 100
    ∷ did 0 (duty.Exec 1 4)
    ∷ ticks 100
    ∷ did 0 (duty.Exec 1 6)
    ∷ did 0 (duty.Report 1 4)
    ∷ did 0 (duty.Explain 7)
    ∷ asked 0 (call.AgentStart (codes "n3")) (no_node (codes "n3"))
    ∷ asked 0 (call.WatchBegin (record { kind = None; id = None })) (reply.WatchBegun 8)
    ∷ did 0 (duty.Report 1 6)
    ∷ did 0 (duty.Delete 6)
    ∷ did 0 (duty.Pull 1)
    ∷ asked 0 (call.View query.ListNetworks) (reply.View (view.Networks []))
    ∷ asked 0 (call.RemoteBegin (codes "r2") None None) (no_node (codes "r2"))
    ∷ did 0 (duty.Apply 1)
    ∷ asked 0 (one (op.UpdateNode (codes "n3") None [] node_role.Worker availability.Active)) (no_node (codes "n3"))
    ∷ did 0 (duty.Forget 1 6)
    ∷ []

abbrev pub world : World
world = record empty_world {
  entries = 60;
  tables = record empty_tables {
    clock = 1300;
    next_id = 9;
    nodes =
        record (node_row 1 29 (codes "n1") usual_node) {
          labels = (codes "zone", codes "a") ∷ [];
          availability = availability.Drain;
        }
        ∷ [];
    services = service_row 2 3 (codes "s1") spec_1 ∷ service_row 3 4 (codes "s2") spec_2 ∷ [];
    tasks =
        record (task_row 4 40 3 4 (Slot 0) template_2) {
          goal = desired.Complete;
          node = Some 1;
          state = state.Rejected;
          since = 1100;
          desired = desired.Shutdown;
        }
        ∷ record (task_row 7 50 3 4 (Slot 0) template_2) {
          goal = desired.Complete;
          state = state.Pending;
          since = 1100;
          desired = desired.Complete;
          created = 1100;
          raise_at = 1100;
          note = note.Filters (1 ∷ 0 ∷ 0 ∷ 0 ∷ 0 ∷ 0 ∷ []);
        }
        ∷ [];
    attempts = record { service = 3; place = Slot 0; version = 4; at = 1100 } ∷ [];
    sessions = session_row 1 5 4000 1000 ∷ [];
    settings = record { heartbeat = 1000; orphan = 86400000; history = 2 };
  };
  sent = record { node = 1; count = 6; tasks = assigned 4 desired.Shutdown usual_workload ∷ [] } ∷ [];
  agents =
      agent_row 1 6 (record (executor_row 4 usual_workload state.Shutdown 1200) { desired = desired.Shutdown } ∷ [])
      ∷ [];
  watchers = record { id = 8; filter = record { kind = None; id = None }; cursor = 52 } ∷ [];
  events =
      record { entry = 53; verb = verb.Updated; kind = kind.Task; id = 6 }
      ∷ record { entry = 54; verb = verb.Deleted; kind = kind.Task; id = 6 }
      ∷ [];
}

abbrev pub history : List Entry
history = entries_of journal

it_goes_so : IsPlayed empty_world journal world
it_goes_so = played empty_world journal world refl

it_keeps_the_laws : laws_hold empty_world history ≡ true
it_keeps_the_laws = refl
