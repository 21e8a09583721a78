-- Duties out of order, among them note, down, old, port, drop, raise, delete, start and replace.
use Rattle.std.specs.Prelude.{List, None, Some, [], codes, false, refl, true, ◌∷◌, ◌≡◌}
use Rattle.swarm_model.proofs.Examples.Audit.{IsPlayed, Told, asked, did, entries_of, played}
use Rattle.swarm_model.proofs.Examples.LawTests.{laws_hold}
use Rattle.swarm_model.proofs.Examples.Usual.{agent_row, draft, made, no_node, node_row, service_row, session_row, task_row, ticks}
use Rattle.swarm_model.proofs.Examples.Words.{one}
use Rattle.swarm_objects.specs.Defaults.{usual_node, usual_restart, usual_spec, usual_template, usual_update, usual_workload}
use Rattle.swarm_objects.specs.World.{World, empty_tables, empty_world}
use Rattle.swarm_objects.specs.declared.agents.AgentMode.TheVariants as agent_mode
use Rattle.swarm_objects.specs.declared.calls.Call.TheVariants as call
use Rattle.swarm_objects.specs.declared.calls.Entry.{Entry}
use Rattle.swarm_objects.specs.declared.calls.Op.TheVariants as op
use Rattle.swarm_objects.specs.declared.duties.Duty.TheVariants as duty
use Rattle.swarm_objects.specs.declared.nodes.Availability.TheVariants as availability
use Rattle.swarm_objects.specs.declared.nodes.NodeDraft.{NodeDraft}
use Rattle.swarm_objects.specs.declared.nodes.NodeRole.TheVariants as node_role
use Rattle.swarm_objects.specs.declared.replies.Refusal.TheVariants as refusal
use Rattle.swarm_objects.specs.declared.replies.Reply.TheVariants as reply
use Rattle.swarm_objects.specs.declared.rules.SpecRule.TheVariants as rule
use Rattle.swarm_objects.specs.declared.services.FailureAction.TheVariants as action
use Rattle.swarm_objects.specs.declared.services.Mode.TheVariants as mode
use Rattle.swarm_objects.specs.declared.services.RunStatus.TheVariants as status
use Rattle.swarm_objects.specs.declared.services.ServiceSpec.{ServiceSpec}
use Rattle.swarm_objects.specs.declared.tasks.Desired.TheVariants as desired
use Rattle.swarm_objects.specs.declared.tasks.Note.TheVariants as note
use Rattle.swarm_objects.specs.declared.tasks.Place.TheVariants.{Slot}
use Rattle.swarm_objects.specs.declared.tasks.TaskState.TheVariants as state
use Rattle.swarm_objects.specs.declared.templates.Key.TheVariants as key
use Rattle.swarm_objects.specs.declared.templates.Template.{Template}
use Rattle.swarm_objects.specs.declared.templates.Workload.{Workload}

abbrev draft_1 : NodeDraft
draft_1 = record usual_node {
  labels = (codes "zone", codes "A") ∷ [];
  role = node_role.Manager;
  availability = availability.Drain;
}

abbrev draft_2 : NodeDraft
draft_2 = record usual_node {
  labels = (codes "zone", codes "b") ∷ [];
  cpu = 1000001;
  engine = (codes "disk", codes "ssd") ∷ [];
  remote = true;
}

abbrev template_1 : Template
template_1 = record usual_template {
  spread = key.Label (codes "zone") ∷ key.Engine (codes "disk") ∷ [];
  restart = record usual_restart { delay = 4 };
}

abbrev spec_1 : ServiceSpec
spec_1 = record usual_spec {
  mode = mode.Job 1 2;
  template = template_1;
  ports = record { target = 80; number = None; udp = false } ∷ record { target = 80; number = None; udp = true } ∷ [];
  update = record usual_update { parallelism = 2; delay = 50; action = action.Rollback };
}

abbrev template_2 : Template
template_2 = record usual_template { max_replicas = 2; restart = record usual_restart { delay = 0 } }

abbrev spec_2 : ServiceSpec
spec_2 = record usual_spec {
  mode = mode.Replicated 5;
  template = template_2;
  update = record usual_update { monitor = 5; action = action.Rollback };
}

abbrev workload_2 : Workload
workload_2 = record usual_workload { stop = 2 }

abbrev template_3 : Template
template_3 = record usual_template {
  workload = workload_2;
  spread = key.Label (codes "zone") ∷ key.Engine (codes "disk") ∷ [];
  restart = record usual_restart { delay = 4 };
}

abbrev spec_3 : ServiceSpec
spec_3 = record usual_spec {
  mode = mode.Job 1 2;
  template = template_3;
  ports = record { target = 80; number = None; udp = false } ∷ record { target = 80; number = None; udp = true } ∷ [];
  update = record usual_update { parallelism = 2; delay = 50; action = action.Rollback };
}

abbrev spec_4 : ServiceSpec
spec_4 = record usual_spec {
  mode = mode.Job 1 1;
  template = template_3;
  update = record usual_update { parallelism = 2; delay = 1; action = action.Rollback };
}

abbrev workload_3 : Workload
workload_3 = record usual_workload { start = 7 }

abbrev template_4 : Template
template_4 = record usual_template {
  workload = workload_3;
  max_replicas = 2;
  restart = record usual_restart { delay = 0 };
}

abbrev spec_5 : ServiceSpec
spec_5 = record usual_spec {
  mode = mode.Replicated 4;
  template = template_4;
  update = record usual_update { monitor = 5; action = action.Rollback };
}

abbrev template_5 : Template
template_5 = record usual_template {
  workload = workload_2;
  spread = key.Label (codes "zone") ∷ key.Engine (codes "disk") ∷ [];
  networks = 2 ∷ [];
  restart = record usual_restart { delay = 4 };
}

abbrev spec_6 : ServiceSpec
spec_6 = record usual_spec {
  mode = mode.Job 1 1;
  template = template_5;
  update = record usual_update { parallelism = 2; delay = 1; action = action.Rollback };
}

abbrev spec_7 : ServiceSpec
spec_7 = record usual_spec {
  mode = mode.Job 1 2;
  template = template_5;
  ports = record { target = 80; number = None; udp = false } ∷ record { target = 80; number = None; udp = true } ∷ [];
  update = record usual_update { parallelism = 2; delay = 50; action = action.Rollback };
}

abbrev template_6 : Template
template_6 = record usual_template {
  workload = workload_3;
  max_replicas = 2;
  networks = 2 ∷ [];
  restart = record usual_restart { delay = 0 };
}

abbrev spec_8 : ServiceSpec
spec_8 = record usual_spec {
  mode = mode.Replicated 4;
  template = template_6;
  update = record usual_update { monitor = 5; action = action.Rollback };
}

abbrev template_7 : Template
template_7 = record usual_template { max_replicas = 2; networks = 2 ∷ []; restart = record usual_restart { delay = 0 } }

abbrev spec_9 : ServiceSpec
spec_9 = record usual_spec {
  mode = mode.Replicated 5;
  template = template_7;
  update = record usual_update { monitor = 5; action = action.Rollback };
}

abbrev pub journal : List Told
journal =
    asked 0 (one (op.CreateNode (codes "n1") draft_1)) (made 1)
    ∷ asked 0 (one (op.CreateNode (codes "r1") draft_2)) (reply.Refused (refusal.BadSpec rule.Resources))
    ∷ asked 0 (call.RemoteBegin (codes "r1") None None) (no_node (codes "r1"))
    ∷ asked 0 (one (op.CreateNetwork (codes "lan") 167772416 29)) (made 2)
    ∷ asked 0 (one (op.CreateNetwork (codes "wan") 167772672 28)) (made 3)
    ∷ asked 0 (one (op.SetCluster (record { heartbeat = 1000; orphan = 4000; history = 5 }))) (made 0)
    ∷ asked 0 (one (op.CreateService (codes "s1") (draft spec_1))) (made 4)
    ∷ asked 0 (one (op.CreateService (codes "s2") (record { spec = spec_2; networks = codes "lan" ∷ [] }))) (made 5)
    ∷ did 0 (duty.ReplicatedCreate 5 1)
    ∷ did 0 (duty.ReplicatedCreate 5 2)
    ∷ did 0 (duty.ReplicatedCreate 5 3)
    ∷ did 0 (duty.Address 6)
    ∷ did 0 (duty.Port 4 80 false)
    ∷ did 0 (duty.Port 4 80 true)
    ∷ ticks 1
    ∷ did 0 (duty.ReplicatedCreate 5 4)
    ∷ did 0 (duty.ReplicatedCreate 5 5)
    ∷ did 0 (duty.Address 9)
    ∷ did 0 (duty.Address 7)
    ∷ did 0 (duty.Address 8)
    ∷ did 0 (duty.Address 10)
    ∷ did 0 (duty.Register 1)
    ∷ did 0 (duty.Explain 6)
    ∷ did 0 (duty.Pull 1)
    ∷ did 0 (duty.Apply 1)
    ∷ did 0 (duty.JobCreate 4 0)
    ∷ did 0 (duty.Address 12)
    ∷ did 0 (duty.Explain 8)
    ∷ did 0 (duty.Explain 10)
    ∷ did 0 (duty.Explain 12)
    ∷ asked 0 (call.RemoteBegin (codes "r1") (Some 4000) None) (no_node (codes "r1"))
    ∷ did 0 (duty.Explain 7)
    ∷ did 0 (duty.Explain 9)
    ∷ asked 0 (call.RemoteBegin (codes "r1") None (Some 0)) (no_node (codes "r1"))
    ∷ asked 0 (one (op.UpdateService (codes "s1") None (record { spec = spec_3; networks = codes "lan" ∷ [] })))
    (made 4)
    ∷ did 0 (duty.Old 12)
    ∷ did 0 (duty.JobCreate 4 0)
    ∷ did 0 (duty.Note 13)
    ∷ did 0 (duty.Delete 12)
    ∷ asked 0 (call.AgentStop (codes "n3")) (no_node (codes "n3"))
    ∷ asked 0 (one (op.UpdateService (codes "s1") (Some 35) (record { spec = spec_4; networks = codes "lan" ∷ [] })))
    (made 4)
    ∷ did 0 (duty.Old 13)
    ∷ did 0 (duty.Delete 13)
    ∷ did 0 (duty.JobCreate 4 0)
    ∷ ticks 2
    ∷ did 0 (duty.Note 14)
    ∷ asked 0 (call.AgentStop (codes "n1")) (reply.AgentDone 1)
    ∷ asked 0 (one (op.UpdateService (codes "s2") None (record { spec = spec_5; networks = codes "lan" ∷ [] })))
    (made 5)
    ∷ did 0 (duty.Down 5 5)
    ∷ did 0 (duty.Start 5)
    ∷ did 0 (duty.Replace 5 4)
    ∷ asked 0 (one (op.CreateService (codes "s1") (draft spec_1))) (reply.Refused (refusal.NameTaken 4))
    ∷ did 0 (duty.Note 15)
    ∷ did 0 (duty.Delete 10)
    ∷ asked 0 (call.AgentStop (codes "n2")) (no_node (codes "n2"))
    ∷ did 0 (duty.Address 15)
    ∷ did 0 (duty.Raise 15)
    ∷ did 0 (duty.Drop 9)
    ∷ did 0 (duty.Address 14)
    ∷ did 0 (duty.Explain 15)
    ∷ []

abbrev pub world : World
world = record empty_world {
  entries = 60;
  tables = record empty_tables {
    clock = 3;
    next_id = 16;
    nodes = node_row 1 22 (codes "n1") draft_1 ∷ [];
    services =
        record (service_row 4 41 (codes "s1") spec_6) {
          previous = Some spec_7;
          template_version = 35;
          iteration = 2;
          numbers =
              record { target = 80; udp = false; number = 30000 }
              ∷ record { target = 80; udp = true; number = 30000 }
              ∷ [];
        }
        ∷ record (service_row 5 51 (codes "s2") spec_8) {
          previous = Some spec_9;
          template_version = 48;
          run = Some (record {
            status = status.Updating;
            version = 48;
            total = 4;
            replaced = record { place = Slot 4; task = 15; created = 3 } ∷ [];
          });
        }
        ∷ [];
    tasks =
        record (task_row 6 23 5 8 (Slot 1) template_7) {
          state = state.Pending;
          addresses = record { network = 2; number = 167772418 } ∷ [];
          note = note.Filters (1 ∷ 0 ∷ 0 ∷ 0 ∷ 0 ∷ 0 ∷ []);
        }
        ∷ record (task_row 7 32 5 8 (Slot 2) template_7) {
          state = state.Pending;
          since = 1;
          addresses = record { network = 2; number = 167772420 } ∷ [];
          note = note.Filters (1 ∷ 0 ∷ 0 ∷ 0 ∷ 0 ∷ 0 ∷ []);
        }
        ∷ record (task_row 8 28 5 8 (Slot 3) template_7) {
          state = state.Pending;
          since = 1;
          addresses = record { network = 2; number = 167772421 } ∷ [];
          note = note.Filters (1 ∷ 0 ∷ 0 ∷ 0 ∷ 0 ∷ 0 ∷ []);
        }
        ∷ record (task_row 9 58 5 8 (Slot 4) template_7) {
          state = state.Shutdown;
          since = 3;
          desired = desired.Shutdown;
          created = 1;
          raise_at = 1;
          addresses = record { network = 2; number = 167772419 } ∷ [];
          note = note.Filters (1 ∷ 0 ∷ 0 ∷ 0 ∷ 0 ∷ 0 ∷ []);
        }
        ∷ record (task_row 14 59 4 35 (Slot 0) template_5) {
          iteration = 2;
          goal = desired.Complete;
          state = state.Pending;
          since = 3;
          desired = desired.Complete;
          created = 1;
          raise_at = 1;
          addresses = record { network = 2; number = 167772419 } ∷ [];
        }
        ∷ record (task_row 15 60 5 48 (Slot 4) template_6) {
          state = state.Pending;
          since = 3;
          created = 3;
          raise_at = 3;
          addresses = record { network = 2; number = 167772422 } ∷ [];
          note = note.Filters (1 ∷ 0 ∷ 0 ∷ 0 ∷ 0 ∷ 0 ∷ []);
        }
        ∷ [];
    networks =
        record { id = 2; version = 4; name = codes "lan"; base = 167772416; length = 29 }
        ∷ record { id = 3; version = 5; name = codes "wan"; base = 167772672; length = 28 }
        ∷ [];
    sessions = session_row 1 11 3001 1 ∷ [];
    settings = record { heartbeat = 1000; orphan = 4000; history = 5 };
  };
  sent = record { node = 1; count = 1; tasks = [] } ∷ [];
  agents = record (agent_row 1 1 []) { mode = agent_mode.AgentOff } ∷ [];
}

abbrev pub history : List Entry
history = entries_of journal

it_goes_so : IsPlayed empty_world journal world
it_goes_so = played empty_world journal world refl

it_keeps_the_laws : laws_hold empty_world history ≡ true
it_keeps_the_laws = refl
