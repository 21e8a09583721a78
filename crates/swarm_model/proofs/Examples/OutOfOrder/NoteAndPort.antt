-- Duties out of order, among them note, down, port, drop, raise, delete, start and replace.
use Rattle.std.specs.Prelude.{List, None, Some, [], codes, false, refl, true, ◌∷◌, ◌≡◌}
use Rattle.swarm_model.proofs.Examples.Audit.{IsPlayed, Told, asked, did, entries_of, played}
use Rattle.swarm_model.proofs.Examples.LawTests.{laws_hold}
use Rattle.swarm_model.proofs.Examples.Usual.{agent_row, assigned, draft, made, no_node, no_service, node_row, service_row, session_row, task_row, ticks}
use Rattle.swarm_model.proofs.Examples.Words.{one}
use Rattle.swarm_objects.specs.Defaults.{usual_node, usual_restart, usual_spec, usual_template, usual_update, usual_workload}
use Rattle.swarm_objects.specs.World.{World, empty_tables, empty_world}
use Rattle.swarm_objects.specs.declared.calls.Call.TheVariants as call
use Rattle.swarm_objects.specs.declared.calls.Entry.{Entry}
use Rattle.swarm_objects.specs.declared.calls.Op.TheVariants as op
use Rattle.swarm_objects.specs.declared.duties.Duty.TheVariants as duty
use Rattle.swarm_objects.specs.declared.duties.Settle.TheVariants as settle
use Rattle.swarm_objects.specs.declared.ids.Kind.TheVariants as kind
use Rattle.swarm_objects.specs.declared.messages.AssignChange.TheVariants as assign
use Rattle.swarm_objects.specs.declared.nodes.Availability.TheVariants as availability
use Rattle.swarm_objects.specs.declared.nodes.NodeDraft.{NodeDraft}
use Rattle.swarm_objects.specs.declared.nodes.NodeRole.TheVariants as node_role
use Rattle.swarm_objects.specs.declared.replies.Refusal.TheVariants as refusal
use Rattle.swarm_objects.specs.declared.replies.Reply.TheVariants as reply
use Rattle.swarm_objects.specs.declared.replies.Wanted.TheVariants as wanted_by
use Rattle.swarm_objects.specs.declared.rules.SpecRule.TheVariants as rule
use Rattle.swarm_objects.specs.declared.services.FailureAction.TheVariants as action
use Rattle.swarm_objects.specs.declared.services.Mode.TheVariants as mode
use Rattle.swarm_objects.specs.declared.services.RunStatus.TheVariants as status
use Rattle.swarm_objects.specs.declared.services.ServiceSpec.{ServiceSpec}
use Rattle.swarm_objects.specs.declared.services.UpdateOrder.TheVariants as order
use Rattle.swarm_objects.specs.declared.tasks.Desired.TheVariants as desired
use Rattle.swarm_objects.specs.declared.tasks.Place.TheVariants.{Slot}
use Rattle.swarm_objects.specs.declared.tasks.TaskState.TheVariants as state
use Rattle.swarm_objects.specs.declared.templates.Key.TheVariants as key
use Rattle.swarm_objects.specs.declared.templates.Template.{Template}
use Rattle.swarm_objects.specs.declared.templates.Workload.{Workload}

abbrev draft_1 : NodeDraft
draft_1 = record usual_node { labels = (codes "zone", codes "A") ∷ []; availability = availability.Drain }

abbrev draft_2 : NodeDraft
draft_2 = record usual_node {
  labels =
      (codes "k10", codes "v")
      ∷ (codes "k11", codes "v")
      ∷ (codes "k12", codes "v")
      ∷ (codes "k13", codes "v")
      ∷ (codes "k14", codes "v")
      ∷ (codes "k15", codes "v")
      ∷ (codes "k16", codes "v")
      ∷ (codes "k17", codes "v")
      ∷ (codes "k18", codes "v")
      ∷ (codes "k19", codes "v")
      ∷ (codes "k20", codes "v")
      ∷ (codes "k21", codes "v")
      ∷ (codes "k22", codes "v")
      ∷ (codes "k23", codes "v")
      ∷ (codes "k24", codes "v")
      ∷ (codes "k25", codes "v")
      ∷ (codes "k26", codes "v")
      ∷ (codes "k27", codes "v")
      ∷ (codes "k28", codes "v")
      ∷ (codes "k29", codes "v")
      ∷ (codes "k30", codes "v")
      ∷ (codes "k31", codes "v")
      ∷ (codes "k32", codes "v")
      ∷ (codes "k33", codes "v")
      ∷ (codes "k34", codes "v")
      ∷ (codes "k35", codes "v")
      ∷ (codes "k36", codes "v")
      ∷ (codes "k37", codes "v")
      ∷ (codes "k38", codes "v")
      ∷ (codes "k39", codes "v")
      ∷ (codes "k40", codes "v")
      ∷ (codes "k41", codes "v")
      ∷ (codes "k42", codes "v")
      ∷ [];
}

abbrev workload_1 : Workload
workload_1 = record usual_workload { start = 3 }

abbrev template_1 : Template
template_1 = record usual_template { workload = workload_1; cpu = 1000 }

abbrev spec_1 : ServiceSpec
spec_1 = record usual_spec {
  mode = mode.Replicated 5;
  template = template_1;
  ports = record { target = 80; number = None; udp = false } ∷ record { target = 80; number = None; udp = true } ∷ [];
  update = record usual_update { parallelism = 0 };
}

abbrev template_2 : Template
template_2 = record usual_template { restart = record usual_restart { delay = 0 } }

abbrev spec_2 : ServiceSpec
spec_2 = record usual_spec {
  mode = mode.Replicated 3;
  template = template_2;
  ports = record { target = 80; number = None; udp = false } ∷ record { target = 80; number = None; udp = true } ∷ [];
}

abbrev spec_3 : ServiceSpec
spec_3 = record usual_spec {
  mode = mode.Replicated 6;
  template = template_2;
  ports = record { target = 80; number = Some 30001; udp = false } ∷ [];
  update = record usual_update { parallelism = 0 };
}

abbrev template_3 : Template
template_3 = record usual_template { restart = record usual_restart { delay = 50; max_attempts = 1; window = 6000 } }

abbrev spec_4 : ServiceSpec
spec_4 = record usual_spec {
  mode = mode.Replicated 0;
  template = template_3;
  ports = record { target = 80; number = Some 30002; udp = false } ∷ [];
  update = record usual_update { parallelism = 2 };
}

abbrev template_4 : Template
template_4 = record usual_template { cpu = 1000; restart = record usual_restart { delay = 4 } }

abbrev spec_5 : ServiceSpec
spec_5 = record usual_spec {
  mode = mode.Replicated 2;
  template = template_4;
  ports = record { target = 80; number = Some 30002; udp = false } ∷ [];
}

abbrev template_5 : Template
template_5 = record usual_template { restart = record usual_restart { delay = 1; max_attempts = 1; window = 3 } }

abbrev spec_6 : ServiceSpec
spec_6 = record usual_spec {
  mode = mode.Replicated 3;
  template = template_5;
  update = record usual_update { delay = 5 };
}

abbrev draft_3 : NodeDraft
draft_3 = record usual_node { labels = (codes "zone", codes "a") ∷ []; availability = availability.Drain; cpu = 2000 }

abbrev draft_4 : NodeDraft
draft_4 = record usual_node {
  labels = (codes "zone", codes "a") ∷ [];
  cpu = 1000;
  engine = (codes "disk", codes "ssd") ∷ [];
  remote = true;
}

abbrev spec_7 : ServiceSpec
spec_7 = record usual_spec {
  mode = mode.Replicated 0;
  template = template_2;
  ports = record { target = 80; number = None; udp = false } ∷ record { target = 80; number = None; udp = true } ∷ [];
  update = record usual_update { delay = 50; action = action.Continue };
}

abbrev template_6 : Template
template_6 = record usual_template {
  constraints = record { key = key.Hostname; equal = false; value = codes "n1" } ∷ [];
  spread = key.Label (codes "zone") ∷ [];
  restart = record usual_restart { delay = 1 };
}

abbrev spec_8 : ServiceSpec
spec_8 = record usual_spec {
  mode = mode.Global;
  template = template_6;
  update = record usual_update { parallelism = 0; delay = 50; order = order.StartFirst };
}

abbrev template_7 : Template
template_7 = record usual_template { networks = 2 ∷ []; restart = record usual_restart { delay = 0 } }

abbrev spec_9 : ServiceSpec
spec_9 = record usual_spec {
  mode = mode.Replicated 6;
  template = template_7;
  ports = record { target = 80; number = Some 30001; udp = false } ∷ [];
  update = record usual_update { parallelism = 0 };
}

abbrev pub journal : List Told
journal =
    asked 0 (one (op.CreateNode (codes "n1") draft_1)) (made 1)
    ∷ asked 0 (one (op.CreateNode (codes "n2") draft_2)) (reply.Refused (refusal.BadSpec rule.Count))
    ∷ asked 0 (one (op.SetCluster (record { heartbeat = 5000; orphan = 50; history = 1 }))) (made 0)
    ∷ asked 0 (one (op.CreateService (codes "s1") (record { spec = spec_1; networks = codes "lan" ∷ [] })))
    (reply.Refused (refusal.NotFound kind.Network (wanted_by.Name (codes "lan"))))
    ∷ asked 0 (call.Tick 1001) (reply.Refused (refusal.BadTick 1001))
    ∷ asked 0 (call.RemoteBegin (codes "r2") None None) (no_node (codes "r2"))
    ∷ asked 0 (one (op.CreateNetwork (codes "lan") 167772416 29)) (made 2)
    ∷ did 0 (duty.Register 1)
    ∷ did 0 (duty.Pull 1)
    ∷ did 0 (duty.Apply 1)
    ∷ asked 0 (call.WatchPoll 26) (reply.Refused (refusal.UnknownWatcher 26))
    ∷ asked 0 (one (op.CreateService (codes "s4") (record { spec = spec_2; networks = codes "lan" ∷ [] }))) (made 4)
    ∷ did 0 (duty.ReplicatedCreate 4 1)
    ∷ asked 0 (call.AgentStop (codes "n1")) (reply.AgentDone 1)
    ∷ did 0 (duty.Port 4 80 false)
    ∷ did 0 (duty.ReplicatedCreate 4 2)
    ∷ did 0 (duty.ReplicatedCreate 4 3)
    ∷ did 0 (duty.Port 4 80 true)
    ∷ did 0 (duty.Address 5)
    ∷ ticks 100
    ∷ did 0 (duty.Address 6)
    ∷ asked 0 (one (op.UpdateService (codes "s4") (Some 18) (record { spec = spec_3; networks = codes "lan" ∷ [] })))
    (made 4)
    ∷ asked 0 (call.RemoteBegin (codes "r2") None None) (no_node (codes "r2"))
    ∷ asked 0
    (call.Txn (op.CreateService (codes "s1") (draft spec_4) ∷ op.UpdateService (codes "s2") None (draft spec_5) ∷ []))
    (no_service (codes "s2"))
    ∷ asked 0 (one (op.UpdateService (codes "s3") None (draft spec_4))) (no_service (codes "s3"))
    ∷ did 0 (duty.Explain 5)
    ∷ asked 0 (one (op.UpdateService (codes "s2") None (record { spec = spec_6; networks = codes "lan" ∷ [] })))
    (no_service (codes "s2"))
    ∷ did 0 (duty.Address 7)
    ∷ did 0 (duty.ReplicatedCreate 4 4)
    ∷ asked 0 (call.Txn (
    op.CreateNode (codes "n3") draft_3
    ∷ op.UpdateNode (codes "r2") None ((codes "zone", codes "b") ∷ []) node_role.Manager availability.Active
    ∷ op.CreateNode (codes "r1") draft_4
    ∷ [])) (no_node (codes "r2"))
    ∷ did 0 (duty.Address 8)
    ∷ did 0 (duty.ReplicatedCreate 4 5)
    ∷ asked 0 (call.NodeStart (codes "n1")) (reply.AgentDone 1)
    ∷ did 0 (duty.ReplicatedCreate 4 6)
    ∷ asked 0 (call.RemoteBegin (codes "r2") None None) (no_node (codes "r2"))
    ∷ asked 0
    (one (op.UpdateNode (codes "r2") None ((codes "zone", codes "a") ∷ []) node_role.Manager availability.Pause))
    (no_node (codes "r2"))
    ∷ asked 0
    (one (op.UpdateNode (codes "n1") None ((codes "zone", codes "a") ∷ []) node_role.Manager availability.Active))
    (made 1)
    ∷ did 0 (duty.Address 9)
    ∷ asked 0 (call.Tick 0) (reply.Refused (refusal.BadTick 0))
    ∷ did 0 (duty.Place 5 1)
    ∷ asked 0 (call.Txn (
    op.RemoveService (codes "s1")
    ∷ op.UpdateService (codes "s3") None (record { spec = spec_1; networks = codes "lan" ∷ [] })
    ∷ [])) (no_service (codes "s1"))
    ∷ asked 0 (one (op.UpdateService (codes "s4") None (draft spec_7))) (made 4)
    ∷ ticks 1
    ∷ did 0 (duty.Note 10)
    ∷ asked 0 (one (op.UpdateService (codes "s2") None (draft spec_5))) (no_service (codes "s2"))
    ∷ asked 0 (one (op.CreateService (codes "s4") (record { spec = spec_8; networks = codes "lan" ∷ [] })))
    (reply.Refused (refusal.NameTaken 4))
    ∷ did 0 (duty.Pull 1)
    ∷ did 0 (duty.Start 4)
    ∷ did 0 (duty.Down 4 1)
    ∷ asked 0 (call.Settle 71114) (reply.Settle 71114 (settle.Busy (duty.Replace 4 2)))
    ∷ did 0 (duty.Replace 4 2)
    ∷ did 0 (duty.Raise 11)
    ∷ did 0 (duty.Drop 6)
    ∷ did 0 (duty.Address 10)
    ∷ did 0 (duty.Down 4 6)
    ∷ did 0 (duty.Delete 10)
    ∷ did 0 (duty.Down 4 5)
    ∷ asked 0 (call.RemoteBegin (codes "r2") (Some 500) None) (no_node (codes "r2"))
    ∷ did 0 (duty.Delete 9)
    ∷ asked 0 (call.AgentStart (codes "n3")) (no_node (codes "n3"))
    ∷ []

abbrev pub world : World
world = record empty_world {
  entries = 60;
  tables = record empty_tables {
    clock = 101;
    next_id = 12;
    nodes =
        record (node_row 1 37 (codes "n1") draft_2) {
          labels = (codes "zone", codes "a") ∷ [];
          role = node_role.Manager;
        }
        ∷ [];
    services =
        record (service_row 4 51 (codes "s4") spec_7) {
          previous = Some spec_9;
          template_version = 42;
          numbers =
              record { target = 80; udp = false; number = 30000 }
              ∷ record { target = 80; udp = true; number = 30000 }
              ∷ [];
          run = Some (record {
            status = status.Updating;
            version = 42;
            total = 6;
            replaced = record { place = Slot 2; task = 11; created = 101 } ∷ [];
          });
        }
        ∷ [];
    tasks =
        record (task_row 5 49 4 12 (Slot 1) template_7) {
          node = Some 1;
          state = state.Assigned;
          since = 100;
          desired = desired.Remove;
          addresses = record { network = 2; number = 167772418 } ∷ [];
        }
        ∷ record (task_row 6 53 4 12 (Slot 2) template_7) {
          state = state.Shutdown;
          since = 101;
          desired = desired.Shutdown;
          addresses = record { network = 2; number = 167772419 } ∷ [];
        }
        ∷ record (task_row 7 28 4 12 (Slot 3) template_7) {
          state = state.Pending;
          since = 100;
          addresses = record { network = 2; number = 167772420 } ∷ [];
        }
        ∷ record (task_row 8 31 4 12 (Slot 4) template_7) {
          state = state.Pending;
          since = 100;
          created = 100;
          raise_at = 100;
          addresses = record { network = 2; number = 167772421 } ∷ [];
        }
        ∷ record (task_row 11 52 4 42 (Slot 2) template_2) { since = 101; created = 101; raise_at = 101 }
        ∷ [];
    networks = record { id = 2; version = 7; name = codes "lan"; base = 167772416; length = 29 } ∷ [];
    sessions = session_row 1 3 15000 0 ∷ [];
    settings = record { heartbeat = 5000; orphan = 50; history = 1 };
  };
  sent = record { node = 1; count = 2; tasks = assigned 5 desired.Running usual_workload ∷ [] } ∷ [];
  agents =
      record (agent_row 1 1 []) {
        inbox = Some (record {
          complete = false;
          applies_to = 1;
          results_in = 2;
          changes = assign.Update (assigned 5 desired.Running usual_workload) ∷ [];
        });
      }
      ∷ [];
}

abbrev pub history : List Entry
history = entries_of journal

it_goes_so : IsPlayed empty_world journal world
it_goes_so = played empty_world journal world refl

it_keeps_the_laws : laws_hold empty_world history ≡ true
it_keeps_the_laws = refl
