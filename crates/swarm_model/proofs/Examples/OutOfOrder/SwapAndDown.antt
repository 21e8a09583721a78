-- Duties out of order, among them swap, down, port, drop, delete, start and replace.
use Rattle.std.specs.Prelude.{List, None, Some, [], codes, false, refl, true, ◌∷◌, ◌≡◌}
use Rattle.swarm_model.proofs.Examples.Audit.{IsPlayed, Told, asked, did, entries_of, played}
use Rattle.swarm_model.proofs.Examples.LawTests.{laws_hold}
use Rattle.swarm_model.proofs.Examples.Usual.{agent_row, draft, made, no_service, node_row, service_row, session_row, task_row, ticks}
use Rattle.swarm_model.proofs.Examples.Words.{one}
use Rattle.swarm_objects.specs.Defaults.{usual_node, usual_restart, usual_spec, usual_template, usual_update, usual_workload}
use Rattle.swarm_objects.specs.World.{World, empty_tables, empty_world}
use Rattle.swarm_objects.specs.declared.calls.Call.TheVariants as call
use Rattle.swarm_objects.specs.declared.calls.Entry.{Entry}
use Rattle.swarm_objects.specs.declared.calls.Op.TheVariants as op
use Rattle.swarm_objects.specs.declared.duties.Duty.TheVariants as duty
use Rattle.swarm_objects.specs.declared.nodes.Availability.TheVariants as availability
use Rattle.swarm_objects.specs.declared.nodes.NodeDraft.{NodeDraft}
use Rattle.swarm_objects.specs.declared.nodes.NodeRole.TheVariants as node_role
use Rattle.swarm_objects.specs.declared.replies.Refusal.TheVariants as refusal
use Rattle.swarm_objects.specs.declared.replies.Reply.TheVariants as reply
use Rattle.swarm_objects.specs.declared.rules.SpecRule.TheVariants as rule
use Rattle.swarm_objects.specs.declared.services.FailureAction.TheVariants as action
use Rattle.swarm_objects.specs.declared.services.Mode.TheVariants as mode
use Rattle.swarm_objects.specs.declared.services.RunStatus.TheVariants as status
use Rattle.swarm_objects.specs.declared.services.ServiceSpec.{ServiceSpec}
use Rattle.swarm_objects.specs.declared.services.UpdateOrder.TheVariants as order
use Rattle.swarm_objects.specs.declared.tasks.Desired.TheVariants as desired
use Rattle.swarm_objects.specs.declared.tasks.Place.TheVariants.{Slot}
use Rattle.swarm_objects.specs.declared.tasks.TaskState.TheVariants as state
use Rattle.swarm_objects.specs.declared.templates.End.TheVariants as end
use Rattle.swarm_objects.specs.declared.templates.RestartCondition.TheVariants as condition
use Rattle.swarm_objects.specs.declared.templates.Template.{Template}
use Rattle.swarm_objects.specs.declared.templates.Workload.{Workload}

abbrev draft_1 : NodeDraft
draft_1 = record usual_node { labels = (codes "zone", codes "A") ∷ []; availability = availability.Drain; cpu = 2000 }

abbrev draft_2 : NodeDraft
draft_2 = record usual_node { labels = (codes "zone", codes "a") ∷ []; cpu = 1000; remote = true }

abbrev workload_1 : Workload
workload_1 = record usual_workload { end = end.Exit 2 1 }

abbrev template_1 : Template
template_1 = record usual_template { workload = workload_1; cpu = 500 }

abbrev spec_1 : ServiceSpec
spec_1 = record usual_spec {
  mode = mode.Replicated 4;
  template = template_1;
  ports = record { target = 82; number = Some 30001; udp = false } ∷ [];
  update = record usual_update { delay = 1; monitor = 0 };
}

abbrev draft_3 : NodeDraft
draft_3 = record usual_node { labels = (codes "zone", codes "A") ∷ []; cpu = 1000001; remote = true }

abbrev template_2 : Template
template_2 = record usual_template { restart = record usual_restart { condition = condition.Never; delay = 4 } }

abbrev spec_2 : ServiceSpec
spec_2 = record usual_spec {
  template = template_2;
  ports =
      record { target = 80; number = None; udp = false }
      ∷ record { target = 80; number = None; udp = true }
      ∷ record { target = 81; number = None; udp = false }
      ∷ [];
  update = record usual_update { action = action.Continue; order = order.StartFirst };
}

abbrev workload_3 : Workload
workload_3 = record usual_workload { stop = 9 }

abbrev template_3 : Template
template_3 = record usual_template { workload = workload_3; cpu = 2000; restart = record usual_restart { delay = 50 } }

abbrev spec_3 : ServiceSpec
spec_3 = record usual_spec {
  mode = mode.Global;
  template = template_3;
  update = record usual_update { monitor = 100; action = action.Continue };
}

abbrev template_4 : Template
template_4 = record usual_template { restart = record usual_restart { delay = 1 } }

abbrev spec_4 : ServiceSpec
spec_4 = record usual_spec {
  mode = mode.Global;
  template = template_4;
  ports =
      record { target = 80; number = None; udp = false }
      ∷ record { target = 80; number = None; udp = true }
      ∷ record { target = 81; number = None; udp = false }
      ∷ [];
  update = record usual_update { monitor = 1; action = action.Rollback; ratio = 500; order = order.StartFirst };
}

abbrev template_5 : Template
template_5 = record usual_template { restart = record usual_restart { delay = 50 } }

abbrev spec_5 : ServiceSpec
spec_5 = record usual_spec {
  mode = mode.Global;
  template = template_5;
  update = record usual_update { delay = 1; monitor = 5; action = action.Rollback; order = order.StartFirst };
}

abbrev draft_4 : NodeDraft
draft_4 = record usual_node { labels = (codes "zone", codes "a") ∷ []; cpu = 1000 }

abbrev draft_5 : NodeDraft
draft_5 = record usual_node {
  labels = (codes "zone", codes "a") ∷ [];
  role = node_role.Manager;
  availability = availability.Drain;
  cpu = 2000;
  remote = true;
}

abbrev template_6 : Template
template_6 = record usual_template { restart = record usual_restart { delay = 1; max_attempts = 1 } }

abbrev spec_6 : ServiceSpec
spec_6 = record usual_spec {
  template = template_6;
  update = record usual_update { monitor = 5; action = action.Rollback; ratio = 500 };
}

abbrev workload_4 : Workload
workload_4 = record usual_workload { end = end.Reject }

abbrev template_7 : Template
template_7 = record usual_template {
  workload = workload_4;
  restart = record usual_restart { condition = condition.OnFailure; delay = 1 };
}

abbrev spec_7 : ServiceSpec
spec_7 = record usual_spec {
  mode = mode.Replicated 4;
  template = template_7;
  update = record usual_update { monitor = 5; ratio = 500; order = order.StartFirst };
}

abbrev template_8 : Template
template_8 = record usual_template {
  cpu = 1000;
  restart = record usual_restart { condition = condition.Never; delay = 4; max_attempts = 1 };
}

abbrev spec_8 : ServiceSpec
spec_8 = record usual_spec {
  mode = mode.Replicated 3;
  template = template_8;
  update = record usual_update { monitor = 0; action = action.Rollback; order = order.StartFirst };
}

abbrev template_9 : Template
template_9 = record usual_template { workload = workload_1; cpu = 500; networks = 5 ∷ 4 ∷ [] }

abbrev spec_9 : ServiceSpec
spec_9 = record usual_spec {
  mode = mode.Replicated 4;
  template = template_9;
  ports = record { target = 82; number = Some 30001; udp = false } ∷ [];
  update = record usual_update { delay = 1; monitor = 0 };
}

abbrev pub journal : List Told
journal =
    asked 0 (one (op.CreateNode (codes "n1") draft_1)) (made 1)
    ∷ asked 0 (one (op.CreateNode (codes "r1") draft_2)) (made 2)
    ∷ asked 0 (call.RemoteBegin (codes "r1") None None) (reply.SessionBegun 3 15000)
    ∷ asked 0 (one (op.CreateNetwork (codes "lan") 167772416 29)) (made 4)
    ∷ asked 0 (one (op.CreateNetwork (codes "wan") 167772672 28)) (made 5)
    ∷ asked 0 (one (op.SetCluster (record { heartbeat = 5000; orphan = 50; history = 5 }))) (made 0)
    ∷ asked 0
    (one (op.CreateService (codes "s1") (record { spec = spec_1; networks = codes "wan" ∷ codes "lan" ∷ [] }))) (made 6)
    ∷ asked 0
    (one (op.CreateService (codes "s2") (record { spec = spec_1; networks = codes "wan" ∷ codes "lan" ∷ [] })))
    (reply.Refused (refusal.PortTaken 6))
    ∷ asked 0 (one (op.RollbackService (codes "s1") None)) (reply.Refused refusal.NoPrevious)
    ∷ did 0 (duty.ReplicatedCreate 6 1)
    ∷ did 0 (duty.ReplicatedCreate 6 2)
    ∷ did 0 (duty.ReplicatedCreate 6 3)
    ∷ did 0 (duty.ReplicatedCreate 6 4)
    ∷ did 0 (duty.Address 7)
    ∷ did 0 (duty.Address 8)
    ∷ did 0 (duty.Address 9)
    ∷ did 0 (duty.Address 10)
    ∷ did 0 (duty.Place 7 2)
    ∷ did 0 (duty.Place 8 2)
    ∷ did 0 (duty.Explain 9)
    ∷ did 0 (duty.Explain 10)
    ∷ did 0 (duty.Register 1)
    ∷ did 0 (duty.Pull 1)
    ∷ did 0 (duty.Apply 1)
    ∷ asked 0 (one (op.CreateNode (codes "r1") draft_3)) (reply.Refused (refusal.BadSpec rule.Resources))
    ∷ asked 0 (call.WatchPoll 15) (reply.Refused (refusal.UnknownWatcher 15))
    ∷ asked 0 (call.RemoteStatus (codes "r1") 3 8 state.Running) (reply.Status true state.Running)
    ∷ asked 0 (call.AgentStart (codes "n1")) (reply.AgentDone 1)
    ∷ asked 0 (one (op.UpdateService (codes "s1") None (draft spec_2))) (made 6)
    ∷ did 0 (duty.Start 6)
    ∷ did 0 (duty.Replace 6 1)
    ∷ asked 0 (one (op.UpdateService (codes "s2") None (draft spec_3))) (no_service (codes "s2"))
    ∷ did 0 (duty.Down 6 1)
    ∷ did 0 (duty.Replace 6 2)
    ∷ did 0 (duty.Down 6 4)
    ∷ did 0 (duty.Down 6 3)
    ∷ did 0 (duty.Port 6 80 false)
    ∷ did 0 (duty.Port 6 80 true)
    ∷ did 0 (duty.Port 6 81 false)
    ∷ did 0 (duty.Address 13)
    ∷ did 0 (duty.Drop 9)
    ∷ did 0 (duty.Drop 10)
    ∷ did 0 (duty.Drop 12)
    ∷ did 0 (duty.Place 13 2)
    ∷ did 0 (duty.Delete 9)
    ∷ did 0 (duty.Delete 10)
    ∷ did 0 (duty.Delete 12)
    ∷ asked 0 (one (op.UpdateService (codes "s2") None (draft spec_4))) (no_service (codes "s2"))
    ∷ asked 0 (call.Txn (
    op.UpdateService (codes "s2") None (draft spec_5)
    ∷ op.CreateNode (codes "n1") draft_4
    ∷ op.CreateNode (codes "r2") draft_5
    ∷ op.RollbackService (codes "s4") None
    ∷ [])) (no_service (codes "s2"))
    ∷ asked 0 (one (op.UpdateService (codes "s4") None (draft spec_6))) (no_service (codes "s4"))
    ∷ asked 0 (one (op.UpdateService (codes "s2") None (draft spec_7))) (no_service (codes "s2"))
    ∷ asked 0 (one (op.UpdateService (codes "s3") None (draft spec_8))) (no_service (codes "s3"))
    ∷ ticks 1000
    ∷ asked 0 (call.RemoteStatus (codes "r1") 3 7 state.Shutdown) (reply.Status true state.Shutdown)
    ∷ did 0 (duty.Delete 7)
    ∷ asked 0 (call.RemoteStatus (codes "r1") 3 13 state.Running) (reply.Status true state.Running)
    ∷ did 0 (duty.Swap 6 2)
    ∷ ticks 1000
    ∷ ticks 1000
    ∷ ticks 1000
    ∷ []

abbrev pub world : World
world = record empty_world {
  entries = 60;
  tables = record empty_tables {
    clock = 4000;
    next_id = 14;
    nodes = node_row 1 22 (codes "n1") draft_1 ∷ node_row 2 3 (codes "r1") draft_2 ∷ [];
    services =
        record (service_row 6 39 (codes "s1") spec_2) {
          previous = Some spec_9;
          template_version = 29;
          numbers =
              record { target = 80; udp = false; number = 30000 }
              ∷ record { target = 80; udp = true; number = 30000 }
              ∷ record { target = 81; udp = false; number = 30002 }
              ∷ [];
          run = Some (record {
            status = status.Updating;
            version = 29;
            total = 4;
            replaced =
                record { place = Slot 1; task = 12; created = 0 }
                ∷ record { place = Slot 2; task = 13; created = 0 }
                ∷ [];
          });
        }
        ∷ [];
    tasks =
        record (task_row 8 57 6 7 (Slot 2) template_9) {
          node = Some 2;
          state = state.Running;
          desired = desired.Shutdown;
          addresses = record { network = 5; number = 167772675 } ∷ record { network = 4; number = 167772419 } ∷ [];
        }
        ∷ record (task_row 13 56 6 29 (Slot 2) template_2) { node = Some 2; state = state.Running; since = 1000 }
        ∷ [];
    networks =
        record { id = 4; version = 4; name = codes "lan"; base = 167772416; length = 29 }
        ∷ record { id = 5; version = 5; name = codes "wan"; base = 167772672; length = 28 }
        ∷ [];
    sessions = session_row 1 11 15000 0 ∷ session_row 2 3 15000 0 ∷ [];
    settings = record { heartbeat = 5000; orphan = 50; history = 5 };
  };
  sent = record { node = 1; count = 1; tasks = [] } ∷ [];
  agents = agent_row 1 1 [] ∷ [];
}

abbrev pub history : List Entry
history = entries_of journal

it_goes_so : IsPlayed empty_world journal world
it_goes_so = played empty_world journal world refl

it_keeps_the_laws : laws_hold empty_world history ≡ true
it_keeps_the_laws = refl
