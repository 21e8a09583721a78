-- Duties out of order, among them orphan, port, expire, beat, raise and restart.
use Rattle.std.specs.Prelude.{List, None, Some, [], codes, false, refl, true, ◌∷◌, ◌≡◌}
use Rattle.swarm_model.proofs.Examples.Audit.{IsPlayed, Told, asked, did, entries_of, played}
use Rattle.swarm_model.proofs.Examples.LawTests.{laws_hold}
use Rattle.swarm_model.proofs.Examples.Usual.{agent_row, assigned, draft, executor_row, made, no_node, node_row, service_row, session_row, task_row, ticks}
use Rattle.swarm_model.proofs.Examples.Words.{one}
use Rattle.swarm_objects.specs.Defaults.{usual_node, usual_restart, usual_spec, usual_template, usual_update, usual_workload}
use Rattle.swarm_objects.specs.World.{World, empty_tables, empty_world}
use Rattle.swarm_objects.specs.declared.calls.Call.TheVariants as call
use Rattle.swarm_objects.specs.declared.calls.Entry.{Entry}
use Rattle.swarm_objects.specs.declared.calls.Op.TheVariants as op
use Rattle.swarm_objects.specs.declared.duties.Duty.TheVariants as duty
use Rattle.swarm_objects.specs.declared.ids.Kind.TheVariants as kind
use Rattle.swarm_objects.specs.declared.messages.AssignChange.TheVariants as assign
use Rattle.swarm_objects.specs.declared.nodes.NodeDraft.{NodeDraft}
use Rattle.swarm_objects.specs.declared.nodes.NodeRole.TheVariants as node_role
use Rattle.swarm_objects.specs.declared.nodes.NodeState.TheVariants as node_state
use Rattle.swarm_objects.specs.declared.replies.Refusal.TheVariants as refusal
use Rattle.swarm_objects.specs.declared.replies.Reply.TheVariants as reply
use Rattle.swarm_objects.specs.declared.replies.Wanted.TheVariants as wanted_by
use Rattle.swarm_objects.specs.declared.rules.SpecRule.TheVariants as rule
use Rattle.swarm_objects.specs.declared.services.Mode.TheVariants as mode
use Rattle.swarm_objects.specs.declared.services.ServiceSpec.{ServiceSpec}
use Rattle.swarm_objects.specs.declared.tasks.Desired.TheVariants as desired
use Rattle.swarm_objects.specs.declared.tasks.Place.TheVariants.{Slot}
use Rattle.swarm_objects.specs.declared.tasks.TaskState.TheVariants as state
use Rattle.swarm_objects.specs.declared.templates.Key.TheVariants as key
use Rattle.swarm_objects.specs.declared.templates.RestartCondition.TheVariants as condition
use Rattle.swarm_objects.specs.declared.templates.Template.{Template}

abbrev draft_1 : NodeDraft
draft_1 = record usual_node { labels = (codes "zone", codes "A") ∷ []; role = node_role.Manager; cpu = 2000 }

abbrev draft_2 : NodeDraft
draft_2 = record usual_node { labels = (codes "zone", codes "b") ∷ []; remote = true }

abbrev template_1 : Template
template_1 = record usual_template {
  restart = record usual_restart { condition = condition.OnFailure; delay = 4; max_attempts = 1 };
}

abbrev spec_1 : ServiceSpec
spec_1 = record usual_spec {
  mode = mode.Replicated 2;
  template = template_1;
  ports =
      record { target = 80; number = None; udp = false }
      ∷ record { target = 81; number = None; udp = false }
      ∷ record { target = 82; number = None; udp = false }
      ∷ [];
}

abbrev template_2 : Template
template_2 = record usual_template {
  cpu = 1000001;
  spread = key.Label (codes "zone") ∷ key.Engine (codes "disk") ∷ [];
  restart = record usual_restart { delay = 50 };
}

abbrev spec_2 : ServiceSpec
spec_2 = record usual_spec {
  mode = mode.Replicated 4;
  template = template_2;
  update = record usual_update { monitor = 1 };
}

abbrev template_3 : Template
template_3 = record usual_template {
  networks = 5 ∷ [];
  restart = record usual_restart { condition = condition.OnFailure; delay = 4; max_attempts = 1 };
}

abbrev spec_3 : ServiceSpec
spec_3 = record usual_spec {
  mode = mode.Replicated 2;
  template = template_3;
  ports =
      record { target = 80; number = None; udp = false }
      ∷ record { target = 81; number = None; udp = false }
      ∷ record { target = 82; number = None; udp = false }
      ∷ [];
}

abbrev pub journal : List Told
journal =
    asked 0 (one (op.CreateNode (codes "n1") draft_1)) (made 1)
    ∷ asked 0 (one (op.CreateNode (codes "r1") draft_2)) (made 2)
    ∷ asked 0 (call.RemoteBegin (codes "r1") None None) (reply.SessionBegun 3 15000)
    ∷ asked 0 (one (op.SetCluster (record { heartbeat = 1000; orphan = 50; history = 5 }))) (made 0)
    ∷ asked 0 (one (op.CreateService (codes "s1") (record { spec = spec_1; networks = codes "lan" ∷ [] })))
    (reply.Refused (refusal.NotFound kind.Network (wanted_by.Name (codes "lan"))))
    ∷ did 0 (duty.Register 1)
    ∷ ticks 1
    ∷ did 0 (duty.Pull 1)
    ∷ did 0 (duty.Apply 1)
    ∷ asked 0 (call.RemoteBegin (codes "r2") None None) (no_node (codes "r2"))
    ∷ asked 0 (one (op.CreateNetwork (codes "lan") 167772416 29)) (made 5)
    ∷ asked 0 (one (op.CreateService (codes "s2") (record { spec = spec_1; networks = codes "lan" ∷ [] }))) (made 6)
    ∷ did 0 (duty.Port 6 82 false)
    ∷ did 0 (duty.Port 6 80 false)
    ∷ did 0 (duty.Port 6 81 false)
    ∷ did 0 (duty.ReplicatedCreate 6 1)
    ∷ did 0 (duty.Address 7)
    ∷ asked 0 (call.RemoteBeat (codes "r1") 3) (reply.Beat 3001)
    ∷ did 0 (duty.Place 7 1)
    ∷ did 0 (duty.Pull 1)
    ∷ ticks 1000
    ∷ asked 0 (call.RemoteStatus (codes "r1") 3 9 state.Complete)
    (reply.Refused (refusal.NotFound kind.Task (wanted_by.Id 9)))
    ∷ did 0 (duty.Apply 1)
    ∷ did 0 (duty.ReplicatedCreate 6 2)
    ∷ did 0 (duty.Address 8)
    ∷ did 0 (duty.Place 8 2)
    ∷ did 0 (duty.Report 1 7)
    ∷ did 0 (duty.Beat 1)
    ∷ did 0 (duty.Exec 1 7)
    ∷ did 0 (duty.Report 1 7)
    ∷ ticks 1
    ∷ did 0 (duty.Exec 1 7)
    ∷ did 0 (duty.Exec 1 7)
    ∷ did 0 (duty.Report 1 7)
    ∷ ticks 1
    ∷ did 0 (duty.Exec 1 7)
    ∷ did 0 (duty.Report 1 7)
    ∷ ticks 1000
    ∷ did 0 (duty.Beat 1)
    ∷ asked 0 (call.RemoteStatus (codes "r1") 3 8 state.Running) (reply.Status true state.Running)
    ∷ asked 0 (one (op.CreateService (codes "s4") (draft spec_2))) (reply.Refused (refusal.BadSpec rule.Reservation))
    ∷ asked 0 (call.RemotePull (codes "r1") 3) (reply.Pulled (Some (record {
      complete = true;
      applies_to = 0;
      results_in = 1;
      changes = assign.Update (assigned 8 desired.Running usual_workload) ∷ [];
    })))
    ∷ ticks 1000
    ∷ did 0 (duty.Expire 2)
    ∷ did 0 (duty.Restart 8)
    ∷ did 0 (duty.Address 9)
    ∷ did 0 (duty.Place 9 1)
    ∷ did 0 (duty.Beat 1)
    ∷ did 0 (duty.Pull 1)
    ∷ did 0 (duty.Apply 1)
    ∷ did 0 (duty.Exec 1 9)
    ∷ did 0 (duty.Report 1 9)
    ∷ ticks 100
    ∷ did 0 (duty.Raise 9)
    ∷ did 0 (duty.Orphan 8)
    ∷ did 0 (duty.Pull 1)
    ∷ asked 0 (call.RemoteBegin (codes "r2") None None) (no_node (codes "r2"))
    ∷ did 0 (duty.Exec 1 9)
    ∷ did 0 (duty.Report 1 9)
    ∷ did 0 (duty.Apply 1)
    ∷ []

abbrev pub world : World
world = record empty_world {
  entries = 60;
  tables = record empty_tables {
    clock = 3103;
    next_id = 10;
    nodes =
        node_row 1 6 (codes "n1") draft_1
        ∷ record (node_row 2 44 (codes "r1") draft_2) { state = node_state.Down; down_since = 3003 }
        ∷ [];
    services =
        record (service_row 6 15 (codes "s2") spec_3) {
          template_version = 12;
          numbers =
              record { target = 82; udp = false; number = 30000 }
              ∷ record { target = 80; udp = false; number = 30001 }
              ∷ record { target = 81; udp = false; number = 30002 }
              ∷ [];
        }
        ∷ [];
    tasks =
        record (task_row 7 37 6 12 (Slot 1) template_3) {
          node = Some 1;
          state = state.Running;
          since = 1003;
          created = 1;
          raise_at = 1;
          addresses = record { network = 5; number = 167772418 } ∷ [];
        }
        ∷ record (task_row 8 55 6 12 (Slot 2) template_3) {
          node = Some 2;
          state = state.Orphaned;
          since = 3103;
          desired = desired.Shutdown;
          created = 1001;
          raise_at = 1001;
          addresses = record { network = 5; number = 167772419 } ∷ [];
        }
        ∷ record (task_row 9 59 6 12 (Slot 2) template_3) {
          node = Some 1;
          state = state.Ready;
          since = 3103;
          created = 3003;
          raise_at = 3007;
          addresses = record { network = 5; number = 167772420 } ∷ [];
        }
        ∷ [];
    networks = record { id = 5; version = 11; name = codes "lan"; base = 167772416; length = 29 } ∷ [];
    attempts = record { service = 6; place = Slot 2; version = 12; at = 3003 } ∷ [];
    sessions = session_row 1 4 6003 3003 ∷ session_row 2 3 3001 1 ∷ [];
    settings = record { heartbeat = 1000; orphan = 50; history = 5 };
  };
  sent =
      record {
        node = 1;
        count = 4;
        tasks = assigned 7 desired.Running usual_workload ∷ assigned 9 desired.Running usual_workload ∷ [];
      }
      ∷ record { node = 2; count = 1; tasks = assigned 8 desired.Running usual_workload ∷ [] }
      ∷ [];
  agents =
      agent_row 1 4 (
      executor_row 7 usual_workload state.Running 1003 ∷ executor_row 9 usual_workload state.Ready 3103 ∷ [])
      ∷ [];
}

abbrev pub history : List Entry
history = entries_of journal

it_goes_so : IsPlayed empty_world journal world
it_goes_so = played empty_world journal world refl

it_keeps_the_laws : laws_hold empty_world history ≡ true
it_keeps_the_laws = refl
