-- Duties out of order, among them fail, port, beat, raise, restart, start and replace.
use Rattle.std.specs.Prelude.{List, None, Some, [], codes, false, refl, true, ◌∷◌, ◌≡◌}
use Rattle.swarm_model.proofs.Examples.Audit.{IsPlayed, Told, asked, did, entries_of, played}
use Rattle.swarm_model.proofs.Examples.LawTests.{laws_hold}
use Rattle.swarm_model.proofs.Examples.Usual.{agent_row, assigned, draft, executor_row, made, no_node, no_service, node_row, service_row, session_row, task_row, ticks}
use Rattle.swarm_model.proofs.Examples.Words.{one}
use Rattle.swarm_objects.specs.Defaults.{usual_node, usual_restart, usual_spec, usual_template, usual_update, usual_workload}
use Rattle.swarm_objects.specs.World.{World, empty_tables, empty_world}
use Rattle.swarm_objects.specs.declared.calls.Call.TheVariants as call
use Rattle.swarm_objects.specs.declared.calls.Entry.{Entry}
use Rattle.swarm_objects.specs.declared.calls.Op.TheVariants as op
use Rattle.swarm_objects.specs.declared.duties.Duty.TheVariants as duty
use Rattle.swarm_objects.specs.declared.nodes.NodeDraft.{NodeDraft}
use Rattle.swarm_objects.specs.declared.replies.Refusal.TheVariants as refusal
use Rattle.swarm_objects.specs.declared.replies.Reply.TheVariants as reply
use Rattle.swarm_objects.specs.declared.rules.SpecRule.TheVariants as rule
use Rattle.swarm_objects.specs.declared.services.FailureAction.TheVariants as action
use Rattle.swarm_objects.specs.declared.services.Mode.TheVariants as mode
use Rattle.swarm_objects.specs.declared.services.RunStatus.TheVariants as status
use Rattle.swarm_objects.specs.declared.services.ServiceSpec.{ServiceSpec}
use Rattle.swarm_objects.specs.declared.services.UpdateOrder.TheVariants as order
use Rattle.swarm_objects.specs.declared.tasks.Desired.TheVariants as desired
use Rattle.swarm_objects.specs.declared.tasks.Place.TheVariants.{Slot}
use Rattle.swarm_objects.specs.declared.tasks.TaskState.TheVariants as state
use Rattle.swarm_objects.specs.declared.templates.End.TheVariants as end
use Rattle.swarm_objects.specs.declared.templates.Key.TheVariants as key
use Rattle.swarm_objects.specs.declared.templates.RestartCondition.TheVariants as condition
use Rattle.swarm_objects.specs.declared.templates.Template.{Template}
use Rattle.swarm_objects.specs.declared.templates.Workload.{Workload}

abbrev draft_1 : NodeDraft
draft_1 = record usual_node {
  labels = (codes "zone", codes "A") ∷ [];
  cpu = 2000;
  engine = (codes "disk", codes "ssd") ∷ [];
}

abbrev workload_1 : Workload
workload_1 = record usual_workload { end = end.Exit 1000 0 }

abbrev template_1 : Template
template_1 = record usual_template { workload = workload_1; restart = record usual_restart { delay = 0 } }

abbrev spec_1 : ServiceSpec
spec_1 = record usual_spec {
  template = template_1;
  update = record usual_update { action = action.Continue; ratio = 250; order = order.StartFirst };
}

abbrev workload_2 : Workload
workload_2 = record usual_workload { end = end.Reject }

abbrev template_2 : Template
template_2 = record usual_template { workload = workload_2; restart = record usual_restart { delay = 0 } }

abbrev spec_2 : ServiceSpec
spec_2 = record usual_spec { template = template_2; update = record usual_update { action = action.Rollback } }

abbrev workload_3 : Workload
workload_3 = record usual_workload { start = 2 }

abbrev template_3 : Template
template_3 = record usual_template { workload = workload_3; restart = record usual_restart { delay = 0 } }

abbrev spec_3 : ServiceSpec
spec_3 = record usual_spec {
  template = template_3;
  update = record usual_update { monitor = 5; action = action.Rollback; order = order.StartFirst };
}

abbrev template_4 : Template
template_4 = record usual_template { spread = key.Role ∷ []; restart = record usual_restart { delay = 1 } }

abbrev spec_4 : ServiceSpec
spec_4 = record usual_spec {
  mode = mode.Replicated 2;
  template = template_4;
  ports = record { target = 80; number = None; udp = false } ∷ [];
  update = record usual_update { delay = 1; monitor = 100; action = action.Rollback; ratio = 500 };
}

abbrev workload_5 : Workload
workload_5 = record usual_workload { end = end.Exit 1000 1 }

abbrev template_5 : Template
template_5 = record usual_template {
  workload = workload_5;
  restart = record usual_restart { condition = condition.Never; delay = 1 };
}

abbrev spec_5 : ServiceSpec
spec_5 = record usual_spec {
  mode = mode.Replicated 3;
  template = template_5;
  update = record usual_update { monitor = 0; ratio = 500 };
}

abbrev workload_6 : Workload
workload_6 = record usual_workload { stop = 9; end = end.Reject }

abbrev template_6 : Template
template_6 = record usual_template { workload = workload_6; restart = record usual_restart { delay = 0 } }

abbrev spec_6 : ServiceSpec
spec_6 = record usual_spec {
  template = template_6;
  ports =
      record { target = 80; number = None; udp = false }
      ∷ record { target = 80; number = None; udp = true }
      ∷ record { target = 81; number = None; udp = false }
      ∷ [];
  update = record usual_update { action = action.Rollback };
}

abbrev pub journal : List Told
journal =
    asked 0 (one (op.CreateNode (codes "n1") draft_1)) (made 1)
    ∷ asked 0 (one (op.CreateNetwork (codes "lan") 167772416 29)) (made 2)
    ∷ asked 0 (one (op.CreateNetwork (codes "wan") 167772672 28)) (made 3)
    ∷ asked 0 (one (op.SetCluster (record { heartbeat = 1000; orphan = 4000; history = 0 }))) (made 0)
    ∷ asked 0 (one (op.CreateService (codes "s1") (draft spec_1))) (made 4)
    ∷ asked 0 (one (op.CreateService (codes "s2") (draft spec_1))) (made 5)
    ∷ ticks 2
    ∷ asked 0 (one (op.CreateNetwork (codes "wan") 167772672 29)) (reply.Refused (refusal.NameTaken 3))
    ∷ asked 0 (call.Tick 1001) (reply.Refused (refusal.BadTick 1001))
    ∷ asked 0 (call.RemoteBegin (codes "r1") None (Some 1000)) (no_node (codes "r1"))
    ∷ asked 0 (call.NodeStart (codes "n3")) (no_node (codes "n3"))
    ∷ asked 0 (call.Txn (
    op.UpdateService (codes "s1") None (draft spec_2) ∷ op.UpdateService (codes "s2") (Some 6) (draft spec_3) ∷ []))
    (reply.Txn (4 ∷ 5 ∷ []))
    ∷ asked 0 (call.AgentStart (codes "n2")) (no_node (codes "n2"))
    ∷ did 0 (duty.ReplicatedCreate 4 1)
    ∷ did 0 (duty.ReplicatedCreate 5 1)
    ∷ asked 0 (one (op.CreateService (codes "s2") (draft spec_4))) (reply.Refused (refusal.BadSpec rule.Spread))
    ∷ did 0 (duty.Register 1)
    ∷ asked 0 (one (op.UpdateService (codes "s3") None (record { spec = spec_5; networks = codes "lan" ∷ [] })))
    (no_service (codes "s3"))
    ∷ did 0 (duty.Address 6)
    ∷ did 0 (duty.Pull 1)
    ∷ did 0 (duty.Address 7)
    ∷ did 0 (duty.Place 7 1)
    ∷ did 0 (duty.Apply 1)
    ∷ asked 0 (call.NodeFail (codes "n1")) (reply.AgentDone 1)
    ∷ did 0 (duty.Place 6 1)
    ∷ asked 0 (call.NodeFail (codes "n2")) (no_node (codes "n2"))
    ∷ asked 0 (call.NodeStart (codes "n1")) (reply.AgentDone 1)
    ∷ did 0 (duty.Pull 1)
    ∷ did 0 (duty.Apply 1)
    ∷ did 0 (duty.Exec 1 6)
    ∷ did 0 (duty.Report 1 7)
    ∷ did 0 (duty.Exec 1 7)
    ∷ ticks 5
    ∷ asked 0 (one (op.UpdateService (codes "s1") None (draft spec_6))) (made 4)
    ∷ did 0 (duty.Exec 1 7)
    ∷ did 0 (duty.Report 1 7)
    ∷ did 0 (duty.Report 1 6)
    ∷ did 0 (duty.Start 4)
    ∷ did 0 (duty.Port 4 80 true)
    ∷ did 0 (duty.Exec 1 7)
    ∷ did 0 (duty.Port 4 81 false)
    ∷ did 0 (duty.Report 1 7)
    ∷ did 0 (duty.Port 4 80 false)
    ∷ did 0 (duty.Exec 1 6)
    ∷ did 0 (duty.Report 1 6)
    ∷ did 0 (duty.Replace 4 1)
    ∷ did 0 (duty.Address 9)
    ∷ asked 0 (call.RemoteBegin (codes "r2") (Some 1000) (Some 8589934592)) (no_node (codes "r2"))
    ∷ did 0 (duty.Place 9 1)
    ∷ did 0 (duty.Raise 9)
    ∷ did 0 (duty.Pull 1)
    ∷ did 0 (duty.Apply 1)
    ∷ did 0 (duty.Exec 1 9)
    ∷ did 0 (duty.Report 1 9)
    ∷ ticks 1000
    ∷ did 0 (duty.Exec 1 9)
    ∷ did 0 (duty.Report 1 9)
    ∷ did 0 (duty.Fail 4)
    ∷ did 0 (duty.Beat 1)
    ∷ did 0 (duty.Restart 9)
    ∷ []

abbrev pub world : World
world = record empty_world {
  entries = 60;
  tables = record empty_tables {
    clock = 1007;
    next_id = 11;
    nodes = node_row 1 17 (codes "n1") draft_1 ∷ [];
    services =
        record (service_row 4 58 (codes "s1") spec_2) {
          rolling_back = true;
          run = Some (record { status = status.RollbackStarted; version = 58; total = 1; replaced = [] });
        }
        ∷ record (service_row 5 12 (codes "s2") spec_3) { previous = Some spec_1 }
        ∷ [];
    tasks =
        record (task_row 6 46 4 12 (Slot 1) template_2) {
          node = Some 1;
          state = state.Rejected;
          since = 7;
          desired = desired.Shutdown;
          created = 2;
          raise_at = 2;
        }
        ∷ record (task_row 7 42 5 12 (Slot 1) template_3) {
          node = Some 1;
          state = state.Starting;
          since = 7;
          created = 2;
          raise_at = 2;
        }
        ∷ record (task_row 9 60 4 34 (Slot 1) template_6) {
          node = Some 1;
          state = state.Rejected;
          since = 1007;
          desired = desired.Shutdown;
          created = 7;
          raise_at = 7;
        }
        ∷ record (task_row 10 60 4 58 (Slot 1) template_2) {
          since = 1007;
          desired = desired.Ready;
          created = 1007;
          raise_at = 1007;
        }
        ∷ [];
    networks =
        record { id = 2; version = 2; name = codes "lan"; base = 167772416; length = 29 }
        ∷ record { id = 3; version = 3; name = codes "wan"; base = 167772672; length = 28 }
        ∷ [];
    attempts = record { service = 4; place = Slot 1; version = 58; at = 1007 } ∷ [];
    sessions = session_row 1 8 4007 1007 ∷ [];
    settings = record { heartbeat = 1000; orphan = 4000; history = 0 };
  };
  sent =
      record {
        node = 1;
        count = 3;
        tasks =
            assigned 6 desired.Shutdown workload_2
            ∷ assigned 7 desired.Running workload_3
            ∷ assigned 9 desired.Running workload_6
            ∷ [];
      }
      ∷ [];
  agents =
      agent_row 1 3 (
      record (executor_row 6 workload_2 state.Rejected 7) { desired = desired.Shutdown }
      ∷ executor_row 7 workload_3 state.Starting 7
      ∷ executor_row 9 workload_6 state.Rejected 1007
      ∷ [])
      ∷ [];
}

abbrev pub history : List Entry
history = entries_of journal

it_goes_so : IsPlayed empty_world journal world
it_goes_so = played empty_world journal world refl

it_keeps_the_laws : laws_hold empty_world history ≡ true
it_keeps_the_laws = refl
