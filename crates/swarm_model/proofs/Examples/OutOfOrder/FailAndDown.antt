-- Duties out of order, among them fail, down, forget, restart, delete, start and replace.
use Rattle.std.specs.Prelude.{List, None, Some, [], codes, refl, true, ◌∷◌, ◌≡◌}
use Rattle.swarm_model.proofs.Examples.Audit.{IsPlayed, Told, asked, did, entries_of, played}
use Rattle.swarm_model.proofs.Examples.LawTests.{laws_hold}
use Rattle.swarm_model.proofs.Examples.Usual.{agent_row, assigned, draft, executor_row, made, no_service, node_row, service_row, session_row, task_row, ticks}
use Rattle.swarm_model.proofs.Examples.Words.{one}
use Rattle.swarm_objects.specs.Defaults.{usual_node, usual_restart, usual_spec, usual_template, usual_update, usual_workload}
use Rattle.swarm_objects.specs.World.{World, empty_tables, empty_world}
use Rattle.swarm_objects.specs.declared.calls.Call.TheVariants as call
use Rattle.swarm_objects.specs.declared.calls.Entry.{Entry}
use Rattle.swarm_objects.specs.declared.calls.Op.TheVariants as op
use Rattle.swarm_objects.specs.declared.duties.Duty.TheVariants as duty
use Rattle.swarm_objects.specs.declared.nodes.Availability.TheVariants as availability
use Rattle.swarm_objects.specs.declared.nodes.NodeDraft.{NodeDraft}
use Rattle.swarm_objects.specs.declared.nodes.NodeRole.TheVariants as node_role
use Rattle.swarm_objects.specs.declared.replies.Reply.TheVariants as reply
use Rattle.swarm_objects.specs.declared.services.FailureAction.TheVariants as action
use Rattle.swarm_objects.specs.declared.services.Mode.TheVariants as mode
use Rattle.swarm_objects.specs.declared.services.RunStatus.TheVariants as status
use Rattle.swarm_objects.specs.declared.services.ServiceSpec.{ServiceSpec}
use Rattle.swarm_objects.specs.declared.services.UpdateOrder.TheVariants as order
use Rattle.swarm_objects.specs.declared.tasks.Desired.TheVariants as desired
use Rattle.swarm_objects.specs.declared.tasks.Place.TheVariants.{Slot}
use Rattle.swarm_objects.specs.declared.tasks.TaskState.TheVariants as state
use Rattle.swarm_objects.specs.declared.templates.End.TheVariants as end
use Rattle.swarm_objects.specs.declared.templates.RestartCondition.TheVariants as condition
use Rattle.swarm_objects.specs.declared.templates.Template.{Template}
use Rattle.swarm_objects.specs.declared.templates.Workload.{Workload}

abbrev draft_1 : NodeDraft
draft_1 = record usual_node { cpu = 2000; engine = (codes "disk", codes "ssd") ∷ [] }

abbrev draft_2 : NodeDraft
draft_2 = record usual_node { labels = (codes "zone", codes "b") ∷ []; cpu = 2000; remote = true }

abbrev template_1 : Template
template_1 = record usual_template { cpu = 1000 }

abbrev spec_1 : ServiceSpec
spec_1 = record usual_spec {
  mode = mode.Replicated 2;
  template = template_1;
  update = record usual_update { monitor = 0; action = action.Rollback };
}

abbrev workload_2 : Workload
workload_2 = record usual_workload { end = end.Exit 1000 0 }

abbrev template_2 : Template
template_2 = record usual_template {
  workload = workload_2;
  restart = record usual_restart { condition = condition.Never; delay = 1; max_attempts = 1 };
}

abbrev spec_2 : ServiceSpec
spec_2 = record usual_spec {
  mode = mode.Replicated 4;
  template = template_2;
  update = record usual_update { monitor = 1; action = action.Continue; order = order.StartFirst };
}

abbrev template_3 : Template
template_3 = record usual_template { restart = record usual_restart { delay = 50 } }

abbrev spec_3 : ServiceSpec
spec_3 = record usual_spec {
  mode = mode.Replicated 2;
  template = template_3;
  update = record usual_update { monitor = 1; ratio = 500 };
}

abbrev workload_3 : Workload
workload_3 = record usual_workload { end = end.Reject }

abbrev template_4 : Template
template_4 = record usual_template {
  workload = workload_3;
  cpu = 1000;
  restart = record usual_restart { max_attempts = 1 };
}

abbrev spec_4 : ServiceSpec
spec_4 = record usual_spec {
  mode = mode.Replicated 3;
  template = template_4;
  update = record usual_update { monitor = 100; action = action.Rollback; ratio = 500; order = order.StartFirst };
}

abbrev pub journal : List Told
journal =
    asked 0 (one (op.CreateNode (codes "n1") draft_1)) (made 1)
    ∷ asked 0 (one (op.CreateNode (codes "r1") draft_2)) (made 2)
    ∷ asked 0 (call.RemoteBegin (codes "r1") None None) (reply.SessionBegun 3 15000)
    ∷ asked 0 (one (op.CreateNetwork (codes "lan") 167772416 29)) (made 4)
    ∷ asked 0 (one (op.CreateNetwork (codes "wan") 167772672 28)) (made 5)
    ∷ asked 0 (one (op.SetCluster (record { heartbeat = 5000; orphan = 86400000; history = 1 }))) (made 0)
    ∷ asked 0 (one (op.CreateService (codes "s1") (draft spec_1))) (made 6)
    ∷ did 0 (duty.ReplicatedCreate 6 1)
    ∷ did 0 (duty.Address 7)
    ∷ did 0 (duty.Register 1)
    ∷ did 0 (duty.Place 7 1)
    ∷ did 0 (duty.ReplicatedCreate 6 2)
    ∷ did 0 (duty.Pull 1)
    ∷ did 0 (duty.Address 9)
    ∷ did 0 (duty.Place 9 2)
    ∷ did 0 (duty.Apply 1)
    ∷ did 0 (duty.Exec 1 7)
    ∷ did 0 (duty.Report 1 7)
    ∷ asked 0
    (call.Txn (op.CreateService (codes "s2") (draft spec_2) ∷ op.UpdateService (codes "s3") None (draft spec_3) ∷ []))
    (no_service (codes "s3"))
    ∷ asked 0 (call.RemoteBeat (codes "r1") 3) (reply.Beat 15000)
    ∷ asked 0 (call.Txn (
    op.UpdateService (codes "s1") None (draft spec_4)
    ∷ op.UpdateNode (codes "n1") None ((codes "zone", codes "b") ∷ []) node_role.Manager availability.Active
    ∷ [])) (reply.Txn (6 ∷ 1 ∷ []))
    ∷ did 0 (duty.Start 6)
    ∷ did 0 (duty.Replace 6 2)
    ∷ did 0 (duty.ReplicatedCreate 6 3)
    ∷ did 0 (duty.Address 10)
    ∷ did 0 (duty.Address 11)
    ∷ did 0 (duty.Place 11 1)
    ∷ did 0 (duty.Place 10 2)
    ∷ did 0 (duty.Pull 1)
    ∷ did 0 (duty.Apply 1)
    ∷ did 0 (duty.Report 1 11)
    ∷ did 0 (duty.Exec 1 11)
    ∷ did 0 (duty.Report 1 11)
    ∷ ticks 1
    ∷ did 0 (duty.Exec 1 11)
    ∷ did 0 (duty.Exec 1 7)
    ∷ did 0 (duty.Report 1 11)
    ∷ did 0 (duty.Report 1 7)
    ∷ did 0 (duty.Restart 11)
    ∷ did 0 (duty.Exec 1 7)
    ∷ did 0 (duty.Address 12)
    ∷ did 0 (duty.Place 12 1)
    ∷ did 0 (duty.Pull 1)
    ∷ did 0 (duty.Apply 1)
    ∷ did 0 (duty.Report 1 12)
    ∷ did 0 (duty.Report 1 7)
    ∷ did 0 (duty.Exec 1 12)
    ∷ did 0 (duty.Report 1 12)
    ∷ ticks 1
    ∷ did 0 (duty.Exec 1 7)
    ∷ did 0 (duty.Exec 1 12)
    ∷ did 0 (duty.Report 1 7)
    ∷ did 0 (duty.Report 1 12)
    ∷ did 0 (duty.Fail 6)
    ∷ did 0 (duty.Down 6 3)
    ∷ did 0 (duty.Delete 12)
    ∷ did 0 (duty.Delete 11)
    ∷ did 0 (duty.Pull 1)
    ∷ did 0 (duty.Apply 1)
    ∷ did 0 (duty.Forget 1 11)
    ∷ []

abbrev pub world : World
world = record empty_world {
  entries = 60;
  tables = record empty_tables {
    clock = 2;
    next_id = 13;
    nodes =
        record (node_row 1 21 (codes "n1") draft_1) {
          labels = (codes "zone", codes "b") ∷ [];
          role = node_role.Manager;
        }
        ∷ node_row 2 3 (codes "r1") draft_2
        ∷ [];
    services =
        record (service_row 6 54 (codes "s1") spec_1) {
          rolling_back = true;
          run = Some (record { status = status.RollbackStarted; version = 54; total = 2; replaced = [] });
        }
        ∷ [];
    tasks =
        record (task_row 7 52 6 7 (Slot 1) template_1) { node = Some 1; state = state.Running; since = 2 }
        ∷ record (task_row 9 15 6 7 (Slot 2) template_1) { node = Some 2; state = state.Assigned }
        ∷ record (task_row 10 28 6 21 (Slot 2) template_4) { node = Some 2; state = state.Assigned }
        ∷ [];
    networks =
        record { id = 4; version = 4; name = codes "lan"; base = 167772416; length = 29 }
        ∷ record { id = 5; version = 5; name = codes "wan"; base = 167772672; length = 28 }
        ∷ [];
    attempts = record { service = 6; place = Slot 3; version = 21; at = 1 } ∷ [];
    sessions = session_row 1 8 15000 0 ∷ session_row 2 3 15000 0 ∷ [];
    settings = record { heartbeat = 5000; orphan = 86400000; history = 1 };
  };
  sent = record { node = 1; count = 4; tasks = assigned 7 desired.Running usual_workload ∷ [] } ∷ [];
  agents =
      agent_row 1 4 (
      executor_row 7 usual_workload state.Running 2
      ∷ record (executor_row 12 workload_3 state.Rejected 2) { desired = desired.Ready; gone = true }
      ∷ [])
      ∷ [];
}

abbrev pub history : List Entry
history = entries_of journal

it_goes_so : IsPlayed empty_world journal world
it_goes_so = played empty_world journal world refl

it_keeps_the_laws : laws_hold empty_world history ≡ true
it_keeps_the_laws = refl
