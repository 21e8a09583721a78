-- Duties out of order, among them gone, old, expire, beat and restart.
use Rattle.std.specs.Prelude.{List, None, Some, [], codes, refl, true, ◌∷◌, ◌≡◌}
use Rattle.swarm_model.proofs.Examples.Audit.{IsPlayed, Told, asked, did, entries_of, played}
use Rattle.swarm_model.proofs.Examples.LawTests.{laws_hold}
use Rattle.swarm_model.proofs.Examples.Usual.{agent_row, assigned, draft, executor_row, made, no_node, no_service, node_row, service_row, session_row, task_row, ticks}
use Rattle.swarm_model.proofs.Examples.Words.{one}
use Rattle.swarm_objects.specs.Defaults.{usual_node, usual_restart, usual_spec, usual_template, usual_update, usual_workload}
use Rattle.swarm_objects.specs.World.{World, empty_tables, empty_world}
use Rattle.swarm_objects.specs.declared.agents.AgentMode.TheVariants as agent_mode
use Rattle.swarm_objects.specs.declared.calls.Call.TheVariants as call
use Rattle.swarm_objects.specs.declared.calls.Entry.{Entry}
use Rattle.swarm_objects.specs.declared.calls.Op.TheVariants as op
use Rattle.swarm_objects.specs.declared.duties.Duty.TheVariants as duty
use Rattle.swarm_objects.specs.declared.ids.Kind.TheVariants as kind
use Rattle.swarm_objects.specs.declared.nodes.Availability.TheVariants as availability
use Rattle.swarm_objects.specs.declared.nodes.NodeDraft.{NodeDraft}
use Rattle.swarm_objects.specs.declared.nodes.NodeRole.TheVariants as node_role
use Rattle.swarm_objects.specs.declared.nodes.NodeState.TheVariants as node_state
use Rattle.swarm_objects.specs.declared.replies.Refusal.TheVariants as refusal
use Rattle.swarm_objects.specs.declared.replies.Reply.TheVariants as reply
use Rattle.swarm_objects.specs.declared.replies.Wanted.TheVariants as wanted_by
use Rattle.swarm_objects.specs.declared.services.FailureAction.TheVariants as action
use Rattle.swarm_objects.specs.declared.services.Mode.TheVariants as mode
use Rattle.swarm_objects.specs.declared.services.ServiceSpec.{ServiceSpec}
use Rattle.swarm_objects.specs.declared.tasks.Desired.TheVariants as desired
use Rattle.swarm_objects.specs.declared.tasks.Note.TheVariants as note
use Rattle.swarm_objects.specs.declared.tasks.Place.TheVariants.{Slot}
use Rattle.swarm_objects.specs.declared.tasks.TaskState.TheVariants as state
use Rattle.swarm_objects.specs.declared.templates.End.TheVariants as end
use Rattle.swarm_objects.specs.declared.templates.RestartCondition.TheVariants as condition
use Rattle.swarm_objects.specs.declared.templates.Template.{Template}
use Rattle.swarm_objects.specs.declared.templates.Workload.{Workload}

abbrev draft_1 : NodeDraft
draft_1 = record usual_node { role = node_role.Manager }

abbrev draft_2 : NodeDraft
draft_2 = record usual_node { availability = availability.Drain }

abbrev draft_3 : NodeDraft
draft_3 = record usual_node {
  labels = (codes "zone", codes "b") ∷ [];
  role = node_role.Manager;
  availability = availability.Drain;
  cpu = 2000;
  engine = (codes "disk", codes "ssd") ∷ [];
  remote = true;
}

abbrev workload_1 : Workload
workload_1 = record usual_workload { end = end.Exit 1000 0 }

abbrev template_1 : Template
template_1 = record usual_template {
  workload = workload_1;
  restart = record usual_restart { condition = condition.OnFailure; delay = 50; max_attempts = 2; window = 20 };
}

abbrev spec_1 : ServiceSpec
spec_1 = record usual_spec {
  mode = mode.Replicated 2;
  template = template_1;
  update = record usual_update { parallelism = 2; monitor = 0 };
}

abbrev workload_2 : Workload
workload_2 = record usual_workload { end = end.Exit 1000 1 }

abbrev template_2 : Template
template_2 = record usual_template {
  workload = workload_2;
  restart = record usual_restart { condition = condition.Never; delay = 4; max_attempts = 1 };
}

abbrev spec_2 : ServiceSpec
spec_2 = record usual_spec { mode = mode.Job 1 4; template = template_2; update = record usual_update { ratio = 250 } }

abbrev draft_4 : NodeDraft
draft_4 = record usual_node { labels = (codes "zone", codes "b") ∷ [] }

abbrev template_3 : Template
template_3 = record usual_template {
  workload = workload_2;
  max_replicas = 1;
  restart = record usual_restart { delay = 0; max_attempts = 2; window = 20 };
}

abbrev spec_3 : ServiceSpec
spec_3 = record usual_spec {
  mode = mode.Global;
  template = template_3;
  update = record usual_update { action = action.Rollback };
}

abbrev pub journal : List Told
journal =
    asked 0 (one (op.CreateNode (codes "n1") draft_1)) (made 1)
    ∷ asked 0 (one (op.CreateNode (codes "n2") draft_2)) (made 2)
    ∷ asked 0 (one (op.CreateNode (codes "r1") draft_3)) (made 3)
    ∷ asked 0 (call.RemoteBegin (codes "r1") None None) (reply.SessionBegun 4 15000)
    ∷ asked 0 (one (op.CreateNetwork (codes "lan") 167772416 29)) (made 5)
    ∷ asked 0 (one (op.CreateNetwork (codes "wan") 167772672 28)) (made 6)
    ∷ asked 0 (one (op.SetCluster (record { heartbeat = 1000; orphan = 4000; history = 1 }))) (made 0)
    ∷ asked 0 (one (op.CreateService (codes "s1") (draft spec_1))) (made 7)
    ∷ asked 0 (one (op.CreateService (codes "s2") (draft spec_2))) (made 8)
    ∷ did 0 (duty.ReplicatedCreate 7 1)
    ∷ did 0 (duty.ReplicatedCreate 7 2)
    ∷ did 0 (duty.Register 1)
    ∷ did 0 (duty.JobCreate 8 0)
    ∷ did 0 (duty.Address 9)
    ∷ did 0 (duty.Address 10)
    ∷ did 0 (duty.Address 12)
    ∷ did 0 (duty.Place 9 1)
    ∷ did 0 (duty.Place 10 1)
    ∷ asked 0 (call.RemoteStatus (codes "r1") 4 1 state.Preparing)
    (reply.Refused (refusal.NotFound kind.Task (wanted_by.Id 1)))
    ∷ did 0 (duty.Place 12 1)
    ∷ did 0 (duty.Pull 1)
    ∷ did 0 (duty.Apply 1)
    ∷ did 0 (duty.Exec 1 9)
    ∷ did 0 (duty.Exec 1 10)
    ∷ did 0 (duty.Exec 1 12)
    ∷ did 0 (duty.Report 1 9)
    ∷ did 0 (duty.Register 2)
    ∷ did 0 (duty.Report 1 10)
    ∷ did 0 (duty.Report 1 12)
    ∷ did 0 (duty.Pull 2)
    ∷ did 0 (duty.Apply 2)
    ∷ asked 0 (call.RemoteBegin (codes "r2") (Some 1000) None) (no_node (codes "r2"))
    ∷ asked 0 (call.AgentStop (codes "n1")) (reply.AgentDone 1)
    ∷ asked 0 (one (op.RollbackService (codes "s4") (Some 11))) (no_service (codes "s4"))
    ∷ asked 0 (one (op.UpdateService (codes "s2") None (draft spec_2))) (made 8)
    ∷ did 0 (duty.Old 12)
    ∷ did 0 (duty.JobCreate 8 0)
    ∷ did 0 (duty.Address 14)
    ∷ did 0 (duty.Place 14 1)
    ∷ asked 0 (one (op.CreateNode (codes "n1") draft_4)) (reply.Refused (refusal.NameTaken 1))
    ∷ asked 0 (one (op.RemoveService (codes "s2"))) (made 8)
    ∷ did 0 (duty.Gone 14)
    ∷ ticks 2
    ∷ asked 0 (call.RemoteBegin (codes "r2") None None) (no_node (codes "r2"))
    ∷ ticks 1
    ∷ asked 0 (call.RemoteBegin (codes "r2") None None) (no_node (codes "r2"))
    ∷ asked 0 (one (op.SetCluster (record { heartbeat = 1000; orphan = 86400000; history = 1 }))) (made 0)
    ∷ asked 0 (call.RemoteStatus (codes "r1") 4 12 state.Shutdown) (reply.Refused (refusal.NotThisNode 12))
    ∷ asked 0 (one (op.CreateService (codes "s1") (draft spec_3))) (reply.Refused (refusal.NameTaken 7))
    ∷ ticks 1000
    ∷ did 0 (duty.Beat 2)
    ∷ ticks 1000
    ∷ did 0 (duty.Beat 2)
    ∷ ticks 997
    ∷ did 0 (duty.Expire 1)
    ∷ did 0 (duty.Restart 10)
    ∷ did 0 (duty.Restart 9)
    ∷ did 0 (duty.Address 16)
    ∷ did 0 (duty.Address 15)
    ∷ did 0 (duty.Explain 15)
    ∷ []

abbrev pub world : World
world = record empty_world {
  entries = 60;
  tables = record empty_tables {
    clock = 3000;
    next_id = 17;
    nodes =
        record (node_row 1 55 (codes "n1") draft_1) { state = node_state.Down; down_since = 3000 }
        ∷ node_row 2 27 (codes "n2") draft_2
        ∷ node_row 3 4 (codes "r1") draft_3
        ∷ [];
    services = service_row 7 8 (codes "s1") spec_1 ∷ [];
    tasks =
        record (task_row 9 57 7 8 (Slot 1) template_1) {
          node = Some 1;
          state = state.Preparing;
          desired = desired.Shutdown;
        }
        ∷ record (task_row 10 56 7 8 (Slot 2) template_1) {
          node = Some 1;
          state = state.Preparing;
          desired = desired.Shutdown;
        }
        ∷ record (task_row 12 36 8 9 (Slot 0) template_2) {
          goal = desired.Complete;
          node = Some 1;
          state = state.Preparing;
          desired = desired.Remove;
        }
        ∷ record (task_row 14 42 8 9 (Slot 0) template_2) {
          iteration = 1;
          goal = desired.Complete;
          node = Some 1;
          state = state.Assigned;
          desired = desired.Remove;
        }
        ∷ record (task_row 15 60 7 8 (Slot 2) template_1) {
          state = state.Pending;
          since = 3000;
          desired = desired.Ready;
          created = 3000;
          raise_at = 3050;
          note = note.Filters (3 ∷ 0 ∷ 0 ∷ 0 ∷ 0 ∷ 0 ∷ []);
        }
        ∷ record (task_row 16 58 7 8 (Slot 1) template_1) {
          state = state.Pending;
          since = 3000;
          desired = desired.Ready;
          created = 3000;
          raise_at = 3050;
        }
        ∷ [];
    networks =
        record { id = 5; version = 5; name = codes "lan"; base = 167772416; length = 29 }
        ∷ record { id = 6; version = 6; name = codes "wan"; base = 167772672; length = 28 }
        ∷ [];
    attempts =
        record { service = 7; place = Slot 2; version = 8; at = 3000 }
        ∷ record { service = 7; place = Slot 1; version = 8; at = 3000 }
        ∷ [];
    sessions = session_row 1 11 3000 0 ∷ session_row 2 13 5003 2003 ∷ session_row 3 4 15000 0 ∷ [];
    settings = record { heartbeat = 1000; orphan = 86400000; history = 1 };
  };
  sent =
      record {
        node = 1;
        count = 1;
        tasks =
            assigned 9 desired.Running workload_1
            ∷ assigned 10 desired.Running workload_1
            ∷ assigned 12 desired.Complete workload_2
            ∷ [];
      }
      ∷ record { node = 2; count = 1; tasks = [] }
      ∷ [];
  agents =
      record (agent_row 1 1 []) {
        mode = agent_mode.AgentOff;
        executors =
            executor_row 9 workload_1 state.Preparing 0
            ∷ executor_row 10 workload_1 state.Preparing 0
            ∷ record (executor_row 12 workload_2 state.Preparing 0) { desired = desired.Complete }
            ∷ [];
      }
      ∷ agent_row 2 1 []
      ∷ [];
}

abbrev pub history : List Entry
history = entries_of journal

it_goes_so : IsPlayed empty_world journal world
it_goes_so = played empty_world journal world refl

it_keeps_the_laws : laws_hold empty_world history ≡ true
it_keeps_the_laws = refl
