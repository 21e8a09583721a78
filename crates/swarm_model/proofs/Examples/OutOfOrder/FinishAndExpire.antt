-- Duties out of order, among them finish, expire, drop, raise, restart, start and replace.
use Rattle.std.specs.Prelude.{List, None, Some, [], codes, false, refl, true, ◌∷◌, ◌≡◌}
use Rattle.swarm_model.proofs.Examples.Audit.{IsPlayed, Told, asked, did, entries_of, played}
use Rattle.swarm_model.proofs.Examples.LawTests.{laws_hold}
use Rattle.swarm_model.proofs.Examples.Usual.{agent_row, draft, made, no_node, no_service, node_row, service_row, session_row, task_row, ticks}
use Rattle.swarm_model.proofs.Examples.Words.{one}
use Rattle.swarm_objects.specs.Defaults.{usual_node, usual_restart, usual_spec, usual_template, usual_update, usual_workload}
use Rattle.swarm_objects.specs.World.{World, empty_tables, empty_world}
use Rattle.swarm_objects.specs.declared.agents.AgentMode.TheVariants as agent_mode
use Rattle.swarm_objects.specs.declared.calls.Call.TheVariants as call
use Rattle.swarm_objects.specs.declared.calls.Entry.{Entry}
use Rattle.swarm_objects.specs.declared.calls.Op.TheVariants as op
use Rattle.swarm_objects.specs.declared.duties.Duty.TheVariants as duty
use Rattle.swarm_objects.specs.declared.nodes.Availability.TheVariants as availability
use Rattle.swarm_objects.specs.declared.nodes.NodeDraft.{NodeDraft}
use Rattle.swarm_objects.specs.declared.nodes.NodeRole.TheVariants as node_role
use Rattle.swarm_objects.specs.declared.nodes.NodeState.TheVariants as node_state
use Rattle.swarm_objects.specs.declared.replies.Refusal.TheVariants as refusal
use Rattle.swarm_objects.specs.declared.replies.Reply.TheVariants as reply
use Rattle.swarm_objects.specs.declared.services.FailureAction.TheVariants as action
use Rattle.swarm_objects.specs.declared.services.Mode.TheVariants as mode
use Rattle.swarm_objects.specs.declared.services.RunStatus.TheVariants as status
use Rattle.swarm_objects.specs.declared.services.ServiceSpec.{ServiceSpec}
use Rattle.swarm_objects.specs.declared.tasks.Desired.TheVariants as desired
use Rattle.swarm_objects.specs.declared.tasks.Note.TheVariants as note
use Rattle.swarm_objects.specs.declared.tasks.Place.TheVariants.{Slot}
use Rattle.swarm_objects.specs.declared.tasks.TaskState.TheVariants as state
use Rattle.swarm_objects.specs.declared.templates.Key.TheVariants as key
use Rattle.swarm_objects.specs.declared.templates.RestartCondition.TheVariants as condition
use Rattle.swarm_objects.specs.declared.templates.Template.{Template}
use Rattle.swarm_objects.specs.declared.templates.Workload.{Workload}

abbrev draft_1 : NodeDraft
draft_1 = record usual_node { labels = (codes "zone", codes "a") ∷ [] }

abbrev template_1 : Template
template_1 = record usual_template {
  spread = key.Label (codes "zone") ∷ key.Engine (codes "disk") ∷ [];
  restart = record usual_restart { delay = 0 };
}

abbrev spec_1 : ServiceSpec
spec_1 = record usual_spec { template = template_1; update = record usual_update { parallelism = 0 } }

abbrev workload_2 : Workload
workload_2 = record usual_workload { start = 7 }

abbrev template_2 : Template
template_2 = record usual_template {
  workload = workload_2;
  restart = record usual_restart { delay = 0; max_attempts = 2 };
}

abbrev spec_2 : ServiceSpec
spec_2 = record usual_spec {
  mode = mode.Replicated 2;
  template = template_2;
  update = record usual_update { ratio = 250 };
}

abbrev draft_2 : NodeDraft
draft_2 = record usual_node { cpu = 2000 }

abbrev template_3 : Template
template_3 = record usual_template {
  host_ports =
      record { target = 80; number = Some 8000; udp = true }
      ∷ record { target = 80; number = Some 8001; udp = false }
      ∷ [];
  restart = record usual_restart { condition = condition.OnFailure; delay = 0; window = 20 };
}

abbrev spec_3 : ServiceSpec
spec_3 = record usual_spec { mode = mode.Job 3 3; template = template_3 }

abbrev workload_3 : Workload
workload_3 = record usual_workload { start = 2 }

abbrev template_4 : Template
template_4 = record usual_template {
  workload = workload_3;
  spread = key.Label (codes "zone") ∷ key.Engine (codes "disk") ∷ [];
  restart = record usual_restart { delay = 0 };
}

abbrev spec_4 : ServiceSpec
spec_4 = record usual_spec {
  template = template_4;
  update = record usual_update { parallelism = 0; monitor = 0; action = action.Rollback };
}

abbrev template_5 : Template
template_5 = record usual_template {
  spread = key.Role ∷ [];
  restart = record usual_restart { condition = condition.Never; delay = 0 };
}

abbrev spec_5 : ServiceSpec
spec_5 = record usual_spec {
  mode = mode.Replicated 3;
  template = template_5;
  update = record usual_update { delay = 1 };
}

abbrev draft_3 : NodeDraft
draft_3 = record usual_node {
  labels = (codes "zone", codes "b") ∷ [];
  role = node_role.Manager;
  availability = availability.Drain;
  cpu = 2000;
}

abbrev workload_4 : Workload
workload_4 = record usual_workload { prepare = 2 }

abbrev template_6 : Template
template_6 = record usual_template {
  workload = workload_4;
  spread = key.Label (codes "zone") ∷ key.Engine (codes "disk") ∷ [];
  restart = record usual_restart { delay = 0 };
}

abbrev spec_6 : ServiceSpec
spec_6 = record usual_spec {
  mode = mode.Replicated 3;
  template = template_6;
  update = record usual_update { parallelism = 0; action = action.Rollback };
}

abbrev pub journal : List Told
journal =
    asked 0 (one (op.CreateNode (codes "n1") draft_1)) (made 1)
    ∷ asked 0 (one (op.CreateNetwork (codes "lan") 167772416 29)) (made 2)
    ∷ asked 0 (one (op.CreateNetwork (codes "wan") 167772672 28)) (made 3)
    ∷ asked 0 (one (op.SetCluster (record { heartbeat = 1000; orphan = 86400000; history = 1 }))) (made 0)
    ∷ asked 0 (one (op.CreateService (codes "s1") (draft spec_1))) (made 4)
    ∷ asked 0 (one (op.CreateService (codes "s2") (draft spec_2))) (made 5)
    ∷ did 0 (duty.Register 1)
    ∷ asked 0 (call.NodeFail (codes "n1")) (reply.AgentDone 1)
    ∷ did 0 (duty.ReplicatedCreate 5 1)
    ∷ did 0 (duty.ReplicatedCreate 4 1)
    ∷ did 0 (duty.ReplicatedCreate 5 2)
    ∷ did 0 (duty.Address 7)
    ∷ did 0 (duty.Address 8)
    ∷ did 0 (duty.Address 9)
    ∷ did 0 (duty.Place 9 1)
    ∷ did 0 (duty.Place 7 1)
    ∷ did 0 (duty.Place 8 1)
    ∷ ticks 1000
    ∷ ticks 1000
    ∷ ticks 1000
    ∷ did 0 (duty.Expire 1)
    ∷ did 0 (duty.Restart 9)
    ∷ did 0 (duty.Address 10)
    ∷ did 0 (duty.Explain 10)
    ∷ did 0 (duty.Restart 7)
    ∷ did 0 (duty.Address 11)
    ∷ did 0 (duty.Restart 8)
    ∷ did 0 (duty.Address 12)
    ∷ did 0 (duty.Raise 10)
    ∷ did 0 (duty.Raise 11)
    ∷ did 0 (duty.Explain 11)
    ∷ did 0 (duty.Raise 12)
    ∷ did 0 (duty.Explain 12)
    ∷ asked 0 (call.NodeFail (codes "n1")) (reply.AgentDone 1)
    ∷ asked 0 (one (op.CreateNode (codes "n1") draft_2)) (reply.Refused (refusal.NameTaken 1))
    ∷ asked 0 (one (op.CreateService (codes "s4") (draft spec_3))) (made 13)
    ∷ did 0 (duty.JobCreate 13 0)
    ∷ did 0 (duty.JobCreate 13 1)
    ∷ did 0 (duty.JobCreate 13 2)
    ∷ did 0 (duty.Address 15)
    ∷ did 0 (duty.Address 14)
    ∷ did 0 (duty.Address 16)
    ∷ did 0 (duty.Explain 14)
    ∷ did 0 (duty.Explain 16)
    ∷ did 0 (duty.Explain 15)
    ∷ asked 0 (call.RemoteBegin (codes "r1") (Some 1000001) (Some 8589934592)) (no_node (codes "r1"))
    ∷ ticks 1
    ∷ asked 0 (one (op.UpdateService (codes "s1") None (draft spec_4))) (made 4)
    ∷ did 0 (duty.Start 4)
    ∷ did 0 (duty.Replace 4 1)
    ∷ did 0 (duty.Finish 4)
    ∷ did 0 (duty.Address 17)
    ∷ did 0 (duty.Drop 12)
    ∷ did 0 (duty.Raise 17)
    ∷ did 0 (duty.Explain 17)
    ∷ ticks 1
    ∷ ticks 1000
    ∷ ticks 100
    ∷ asked 0 (call.Txn (op.UpdateService (codes "s3") None (draft spec_5) ∷ op.CreateNode (codes "n1") draft_3 ∷ []))
    (no_service (codes "s3"))
    ∷ asked 0 (one (op.UpdateService (codes "s1") None (draft spec_6))) (made 4)
    ∷ []

abbrev pub world : World
world = record empty_world {
  entries = 60;
  tables = record empty_tables {
    clock = 4102;
    next_id = 18;
    nodes = record (node_row 1 21 (codes "n1") draft_1) { state = node_state.Down; down_since = 3000 } ∷ [];
    services =
        record (service_row 4 60 (codes "s1") spec_6) {
          previous = Some spec_4;
          run = Some (record {
            status = status.Completed;
            version = 48;
            total = 1;
            replaced = record { place = Slot 1; task = 17; created = 3001 } ∷ [];
          });
        }
        ∷ service_row 5 6 (codes "s2") spec_2
        ∷ service_row 13 36 (codes "s4") spec_3
        ∷ [];
    tasks =
        record (task_row 7 25 5 6 (Slot 1) template_2) {
          node = Some 1;
          state = state.Assigned;
          desired = desired.Shutdown;
        }
        ∷ record (task_row 8 27 4 5 (Slot 1) template_1) {
          node = Some 1;
          state = state.Assigned;
          desired = desired.Shutdown;
        }
        ∷ record (task_row 9 22 5 6 (Slot 2) template_2) {
          node = Some 1;
          state = state.Assigned;
          desired = desired.Shutdown;
        }
        ∷ record (task_row 10 29 5 6 (Slot 2) template_2) {
          state = state.Pending;
          since = 3000;
          created = 3000;
          raise_at = 3000;
          note = note.Filters (1 ∷ 0 ∷ 0 ∷ 0 ∷ 0 ∷ 0 ∷ []);
        }
        ∷ record (task_row 11 31 5 6 (Slot 1) template_2) {
          state = state.Pending;
          since = 3000;
          created = 3000;
          raise_at = 3000;
          note = note.Filters (1 ∷ 0 ∷ 0 ∷ 0 ∷ 0 ∷ 0 ∷ []);
        }
        ∷ record (task_row 12 53 4 5 (Slot 1) template_1) {
          state = state.Shutdown;
          since = 3001;
          desired = desired.Shutdown;
          created = 3000;
          raise_at = 3000;
          note = note.Filters (1 ∷ 0 ∷ 0 ∷ 0 ∷ 0 ∷ 0 ∷ []);
        }
        ∷ record (task_row 14 43 13 36 (Slot 0) template_3) {
          goal = desired.Complete;
          state = state.Pending;
          since = 3000;
          desired = desired.Complete;
          created = 3000;
          raise_at = 3000;
          note = note.Filters (1 ∷ 0 ∷ 0 ∷ 0 ∷ 0 ∷ 0 ∷ []);
        }
        ∷ record (task_row 15 45 13 36 (Slot 1) template_3) {
          goal = desired.Complete;
          state = state.Pending;
          since = 3000;
          desired = desired.Complete;
          created = 3000;
          raise_at = 3000;
          note = note.Filters (1 ∷ 0 ∷ 0 ∷ 0 ∷ 0 ∷ 0 ∷ []);
        }
        ∷ record (task_row 16 44 13 36 (Slot 2) template_3) {
          goal = desired.Complete;
          state = state.Pending;
          since = 3000;
          desired = desired.Complete;
          created = 3000;
          raise_at = 3000;
          note = note.Filters (1 ∷ 0 ∷ 0 ∷ 0 ∷ 0 ∷ 0 ∷ []);
        }
        ∷ record (task_row 17 55 4 48 (Slot 1) template_4) {
          state = state.Pending;
          since = 3001;
          created = 3001;
          raise_at = 3001;
          note = note.Filters (1 ∷ 0 ∷ 0 ∷ 0 ∷ 0 ∷ 0 ∷ []);
        }
        ∷ [];
    networks =
        record { id = 2; version = 2; name = codes "lan"; base = 167772416; length = 29 }
        ∷ record { id = 3; version = 3; name = codes "wan"; base = 167772672; length = 28 }
        ∷ [];
    attempts =
        record { service = 5; place = Slot 2; version = 6; at = 3000 }
        ∷ record { service = 5; place = Slot 1; version = 6; at = 3000 }
        ∷ record { service = 4; place = Slot 1; version = 5; at = 3000 }
        ∷ [];
    sessions = session_row 1 6 3000 0 ∷ [];
    settings = record { heartbeat = 1000; orphan = 86400000; history = 1 };
  };
  agents = record (agent_row 1 0 []) { mode = agent_mode.PowerOff } ∷ [];
}

abbrev pub history : List Entry
history = entries_of journal

it_goes_so : IsPlayed empty_world journal world
it_goes_so = played empty_world journal world refl

it_keeps_the_laws : laws_hold empty_world history ≡ true
it_keeps_the_laws = refl
