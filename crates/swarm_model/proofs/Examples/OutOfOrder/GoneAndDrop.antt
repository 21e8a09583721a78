-- Duties out of order, among them gone, old, drop, beat and delete.
use Rattle.std.specs.Prelude.{List, None, Some, [], codes, false, refl, true, ◌∷◌, ◌≡◌}
use Rattle.swarm_model.proofs.Examples.Audit.{IsPlayed, Told, asked, did, entries_of, played}
use Rattle.swarm_model.proofs.Examples.LawTests.{laws_hold}
use Rattle.swarm_model.proofs.Examples.Usual.{agent_row, draft, made, no_node, no_service, node_row, service_row, session_row, task_row, ticks}
use Rattle.swarm_model.proofs.Examples.Words.{one}
use Rattle.swarm_objects.specs.Defaults.{usual_node, usual_restart, usual_spec, usual_template, usual_update, usual_workload}
use Rattle.swarm_objects.specs.World.{World, empty_tables, empty_world}
use Rattle.swarm_objects.specs.declared.calls.Call.TheVariants as call
use Rattle.swarm_objects.specs.declared.calls.Entry.{Entry}
use Rattle.swarm_objects.specs.declared.calls.Op.TheVariants as op
use Rattle.swarm_objects.specs.declared.duties.Duty.TheVariants as duty
use Rattle.swarm_objects.specs.declared.nodes.Availability.TheVariants as availability
use Rattle.swarm_objects.specs.declared.nodes.NodeDraft.{NodeDraft}
use Rattle.swarm_objects.specs.declared.nodes.NodeRole.TheVariants as node_role
use Rattle.swarm_objects.specs.declared.replies.Refusal.TheVariants as refusal
use Rattle.swarm_objects.specs.declared.replies.Reply.TheVariants as reply
use Rattle.swarm_objects.specs.declared.services.Mode.TheVariants as mode
use Rattle.swarm_objects.specs.declared.services.ServiceSpec.{ServiceSpec}
use Rattle.swarm_objects.specs.declared.tasks.Note.TheVariants as note
use Rattle.swarm_objects.specs.declared.tasks.Place.TheVariants.{Slot}
use Rattle.swarm_objects.specs.declared.tasks.TaskState.TheVariants as state
use Rattle.swarm_objects.specs.declared.templates.Key.TheVariants as key
use Rattle.swarm_objects.specs.declared.templates.Template.{Template}
use Rattle.swarm_objects.specs.declared.templates.Workload.{Workload}

abbrev draft_1 : NodeDraft
draft_1 = record usual_node { labels = (codes "zone", codes "a") ∷ []; role = node_role.Manager; cpu = 2000 }

abbrev workload_1 : Workload
workload_1 = record usual_workload { prepare = 5 }

abbrev template_1 : Template
template_1 = record usual_template {
  workload = workload_1;
  constraints = record { key = key.Label (codes "zone"); equal = false; value = codes "a" } ∷ [];
  restart = record usual_restart { delay = 1 };
}

abbrev spec_1 : ServiceSpec
spec_1 = record usual_spec {
  mode = mode.Replicated 2;
  template = template_1;
  update = record usual_update { delay = 5 };
}

abbrev template_2 : Template
template_2 = record usual_template {
  constraints = record { key = key.Role; equal = true; value = codes "worker" } ∷ [];
  spread = key.Label (codes "zone") ∷ key.Engine (codes "disk") ∷ [];
  restart = record usual_restart { delay = 50; window = 3 };
}

abbrev spec_2 : ServiceSpec
spec_2 = record usual_spec { mode = mode.Job 1 3; template = template_2; update = record usual_update { monitor = 0 } }

abbrev draft_2 : NodeDraft
draft_2 = record usual_node { labels = (codes "zone", codes "A") ∷ []; role = node_role.Manager; cpu = 1000 }

abbrev template_3 : Template
template_3 = record usual_template {
  constraints = record { key = key.Label (codes "zone"); equal = false; value = codes "b" } ∷ [];
  restart = record usual_restart { delay = 50 };
}

abbrev spec_3 : ServiceSpec
spec_3 = record usual_spec {
  template = template_3;
  ports = record { target = 80; number = Some 30000; udp = false } ∷ [];
  update = record usual_update { delay = 50 };
}

abbrev draft_3 : NodeDraft
draft_3 = record usual_node { remote = true }

abbrev workload_3 : Workload
workload_3 = record usual_workload { start = 3 }

abbrev template_4 : Template
template_4 = record usual_template {
  workload = workload_3;
  constraints = record { key = key.Label (codes "zone"); equal = false; value = codes "a" } ∷ [];
  restart = record usual_restart { delay = 1; max_attempts = 2 };
}

abbrev spec_4 : ServiceSpec
spec_4 = record usual_spec { mode = mode.Replicated 2; template = template_4 }

abbrev workload_4 : Workload
workload_4 = record usual_workload { start = 2 }

abbrev template_5 : Template
template_5 = record usual_template {
  workload = workload_4;
  constraints = record { key = key.Role; equal = true; value = codes "worker" } ∷ [];
  spread = key.Label (codes "zone") ∷ key.Engine (codes "disk") ∷ [];
  restart = record usual_restart { delay = 50; window = 3 };
}

abbrev spec_5 : ServiceSpec
spec_5 = record usual_spec {
  mode = mode.Job 1 3;
  template = template_5;
  update = record usual_update { monitor = 0; ratio = 1000 };
}

abbrev template_6 : Template
template_6 = record usual_template {
  cpu = 1000;
  constraints = record { key = key.Role; equal = true; value = codes "worker" } ∷ [];
  spread = key.Label (codes "zone") ∷ key.Engine (codes "disk") ∷ [];
  restart = record usual_restart { delay = 50; window = 3 };
}

abbrev spec_6 : ServiceSpec
spec_6 = record usual_spec { mode = mode.Job 1 3; template = template_6; update = record usual_update { monitor = 0 } }

abbrev template_7 : Template
template_7 = record usual_template {
  constraints = record { key = key.Label (codes "zone"); equal = false; value = codes "b" } ∷ [];
  restart = record usual_restart { delay = 1 };
}

abbrev spec_7 : ServiceSpec
spec_7 = record usual_spec { mode = mode.Job 2 2; template = template_7 }

abbrev draft_4 : NodeDraft
draft_4 = record usual_node {
  labels = (codes "zone", codes "a") ∷ [];
  role = node_role.Manager;
  cpu = 1000;
  remote = true;
}

abbrev pub journal : List Told
journal =
    asked 0 (one (op.CreateNode (codes "n1") draft_1)) (made 1)
    ∷ asked 0 (one (op.SetCluster (record { heartbeat = 1000; orphan = 86400000; history = 2 }))) (made 0)
    ∷ asked 0 (one (op.CreateService (codes "s1") (draft spec_1))) (made 2)
    ∷ asked 0 (one (op.CreateService (codes "s2") (draft spec_2))) (made 3)
    ∷ asked 0 (one (op.CreateNode (codes "n1") draft_2)) (reply.Refused (refusal.NameTaken 1))
    ∷ did 0 (duty.ReplicatedCreate 2 1)
    ∷ did 0 (duty.ReplicatedCreate 2 2)
    ∷ did 0 (duty.Register 1)
    ∷ did 0 (duty.Pull 1)
    ∷ did 0 (duty.Address 4)
    ∷ did 0 (duty.JobCreate 3 0)
    ∷ asked 0 (call.Txn (
    op.UpdateService (codes "s4") None (draft spec_3)
    ∷ op.UpdateService (codes "s1") None (draft spec_1)
    ∷ op.UpdateNode (codes "n1") (Some 8) ((codes "zone", codes "b") ∷ []) node_role.Manager availability.Active
    ∷ op.CreateNode (codes "r1") draft_3
    ∷ [])) (no_service (codes "s4"))
    ∷ asked 0 (call.RemoteBegin (codes "r2") None None) (no_node (codes "r2"))
    ∷ did 0 (duty.Address 5)
    ∷ did 0 (duty.Explain 4)
    ∷ did 0 (duty.Apply 1)
    ∷ did 0 (duty.Address 7)
    ∷ did 0 (duty.Explain 5)
    ∷ did 0 (duty.Explain 7)
    ∷ asked 0 (call.Txn (
    op.UpdateNode (codes "n1") None ((codes "zone", codes "b") ∷ []) node_role.Worker availability.Drain
    ∷ op.UpdateNode (codes "n3") None [] node_role.Manager availability.Pause
    ∷ [])) (no_node (codes "n3"))
    ∷ asked 0 (call.Tick 0) (reply.Refused (refusal.BadTick 0))
    ∷ asked 0 (call.Txn (
    op.UpdateNode (codes "n3") (Some 8) ((codes "zone", codes "b") ∷ []) node_role.Worker availability.Pause
    ∷ op.CreateService (codes "s2") (draft spec_4)
    ∷ op.UpdateService (codes "s2") None (draft spec_5)
    ∷ op.RemoveNode (codes "r2") false
    ∷ [])) (no_node (codes "n3"))
    ∷ asked 0 (call.NodeStart (codes "n1")) (reply.AgentDone 1)
    ∷ asked 0
    (one (op.UpdateNode (codes "n1") None ((codes "zone", codes "a") ∷ []) node_role.Manager availability.Pause))
    (made 1)
    ∷ did 0 (duty.Explain 4)
    ∷ did 0 (duty.Explain 5)
    ∷ did 0 (duty.Explain 7)
    ∷ asked 0 (one (op.RollbackService (codes "s2") (Some 4))) (reply.Refused refusal.NoPrevious)
    ∷ asked 0 (call.RemoteBegin (codes "r2") None None) (no_node (codes "r2"))
    ∷ ticks 1000
    ∷ did 0 (duty.Beat 1)
    ∷ asked 0
    (one (op.UpdateNode (codes "n3") None ((codes "zone", codes "b") ∷ []) node_role.Worker availability.Active))
    (no_node (codes "n3"))
    ∷ asked 0 (one (op.CreateNode (codes "r1") draft_3)) (made 8)
    ∷ did 0 (duty.Explain 4)
    ∷ asked 0
    (one (op.UpdateNode (codes "r1") None ((codes "zone", codes "A") ∷ []) node_role.Manager availability.Active))
    (made 8)
    ∷ did 0 (duty.Explain 5)
    ∷ asked 0 (call.RemoteBegin (codes "r1") None None) (reply.SessionBegun 9 4000)
    ∷ did 0 (duty.Explain 4)
    ∷ did 0 (duty.Explain 5)
    ∷ did 0 (duty.Explain 7)
    ∷ asked 0 (one (op.UpdateService (codes "s2") None (draft spec_6))) (made 3)
    ∷ did 0 (duty.Old 7)
    ∷ did 0 (duty.JobCreate 3 0)
    ∷ did 0 (duty.Address 10)
    ∷ did 0 (duty.Drop 7)
    ∷ did 0 (duty.Explain 10)
    ∷ did 0 (duty.Delete 7)
    ∷ asked 0 (call.NodeFail (codes "r1")) (reply.Refused (refusal.WrongKind 8))
    ∷ asked 0 (one (op.UpdateService (codes "s4") None (draft spec_7))) (no_service (codes "s4"))
    ∷ asked 0 (one (op.UpdateNode (codes "n2") None [] node_role.Manager availability.Active)) (no_node (codes "n2"))
    ∷ ticks 1
    ∷ asked 0 (one (op.CreateNode (codes "r1") draft_4)) (reply.Refused (refusal.NameTaken 8))
    ∷ asked 0 (one (op.RemoveService (codes "s2"))) (made 3)
    ∷ ticks 2
    ∷ did 0 (duty.Gone 10)
    ∷ did 0 (duty.Drop 10)
    ∷ did 0 (duty.Delete 10)
    ∷ asked 0 (call.RemotePull (codes "r1") 8) (reply.Refused (refusal.InvalidSession (Some 9)))
    ∷ asked 0 (call.WatchPoll 25) (reply.Refused (refusal.UnknownWatcher 25))
    ∷ asked 0 (call.RemoteBegin (codes "r1") None None) (reply.SessionBegun 11 4003)
    ∷ []

abbrev pub world : World
world = record empty_world {
  entries = 60;
  tables = record empty_tables {
    clock = 1003;
    next_id = 12;
    nodes =
        record (node_row 1 24 (codes "n1") draft_1) { availability = availability.Pause }
        ∷ record (node_row 8 60 (codes "r1") draft_2) { cpu = 4000; remote = true }
        ∷ [];
    services = service_row 2 3 (codes "s1") spec_1 ∷ [];
    tasks =
        record (task_row 4 38 2 3 (Slot 1) template_1) {
          state = state.Pending;
          note = note.Filters (1 ∷ 0 ∷ 1 ∷ 0 ∷ 0 ∷ 0 ∷ []);
        }
        ∷ record (task_row 5 39 2 3 (Slot 2) template_1) {
          state = state.Pending;
          note = note.Filters (1 ∷ 0 ∷ 1 ∷ 0 ∷ 0 ∷ 0 ∷ []);
        }
        ∷ [];
    sessions = session_row 1 6 4000 1000 ∷ session_row 8 11 4003 1003 ∷ [];
    settings = record { heartbeat = 1000; orphan = 86400000; history = 2 };
  };
  sent = record { node = 1; count = 1; tasks = [] } ∷ [];
  agents = agent_row 1 1 [] ∷ [];
}

abbrev pub history : List Entry
history = entries_of journal

it_goes_so : IsPlayed empty_world journal world
it_goes_so = played empty_world journal world refl

it_keeps_the_laws : laws_hold empty_world history ≡ true
it_keeps_the_laws = refl
