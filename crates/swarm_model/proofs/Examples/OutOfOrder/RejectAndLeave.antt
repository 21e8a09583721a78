-- Duties out of order, among them reject, forget, leave, drop, restart, delete, start and replace.
use Rattle.std.specs.Prelude.{List, None, Some, [], codes, false, refl, true, ◌∷◌, ◌≡◌}
use Rattle.swarm_model.proofs.Examples.Audit.{IsPlayed, Told, asked, did, entries_of, played}
use Rattle.swarm_model.proofs.Examples.LawTests.{laws_hold}
use Rattle.swarm_model.proofs.Examples.Usual.{agent_row, draft, made, node_row, service_row, session_row, task_row, ticks}
use Rattle.swarm_model.proofs.Examples.Words.{one}
use Rattle.swarm_objects.specs.Defaults.{usual_node, usual_restart, usual_settings, usual_spec, usual_template, usual_update, usual_workload}
use Rattle.swarm_objects.specs.World.{World, empty_tables, empty_world}
use Rattle.swarm_objects.specs.declared.agents.AgentMode.TheVariants as agent_mode
use Rattle.swarm_objects.specs.declared.calls.Call.TheVariants as call
use Rattle.swarm_objects.specs.declared.calls.Entry.{Entry}
use Rattle.swarm_objects.specs.declared.calls.Op.TheVariants as op
use Rattle.swarm_objects.specs.declared.duties.Duty.TheVariants as duty
use Rattle.swarm_objects.specs.declared.ids.Kind.TheVariants as kind
use Rattle.swarm_objects.specs.declared.nodes.Availability.TheVariants as availability
use Rattle.swarm_objects.specs.declared.nodes.NodeDraft.{NodeDraft}
use Rattle.swarm_objects.specs.declared.nodes.NodeRole.TheVariants as node_role
use Rattle.swarm_objects.specs.declared.replies.Refusal.TheVariants as refusal
use Rattle.swarm_objects.specs.declared.replies.Reply.TheVariants as reply
use Rattle.swarm_objects.specs.declared.services.Mode.TheVariants as mode
use Rattle.swarm_objects.specs.declared.services.RunStatus.TheVariants as status
use Rattle.swarm_objects.specs.declared.services.ServiceSpec.{ServiceSpec}
use Rattle.swarm_objects.specs.declared.tasks.Desired.TheVariants as desired
use Rattle.swarm_objects.specs.declared.tasks.Place.TheVariants.{On}
use Rattle.swarm_objects.specs.declared.tasks.TaskState.TheVariants as state
use Rattle.swarm_objects.specs.declared.templates.End.TheVariants as end
use Rattle.swarm_objects.specs.declared.templates.Key.TheVariants as key
use Rattle.swarm_objects.specs.declared.templates.Template.{Template}
use Rattle.swarm_objects.specs.declared.templates.Workload.{Workload}

abbrev draft_1 : NodeDraft
draft_1 = record usual_node { role = node_role.Manager; cpu = 2000 }

abbrev draft_2 : NodeDraft
draft_2 = record usual_node { labels = (codes "zone", codes "A") ∷ []; role = node_role.Manager; cpu = 2000 }

abbrev draft_4 : NodeDraft
draft_4 = record usual_node { labels = (codes "zone", codes "a") ∷ []; cpu = 1000; remote = true }

abbrev workload_1 : Workload
workload_1 = record usual_workload { end = end.Exit 1000 1 }

abbrev template_1 : Template
template_1 = record usual_template {
  workload = workload_1;
  constraints = record { key = key.Role; equal = true; value = codes "worker" } ∷ [];
  restart = record usual_restart { delay = 50 };
}

abbrev spec_1 : ServiceSpec
spec_1 = record usual_spec {
  mode = mode.Global;
  template = template_1;
  update = record usual_update { delay = 1; monitor = 1 };
}

abbrev template_2 : Template
template_2 = record usual_template {
  constraints = record { key = key.Label (codes "zone"); equal = false; value = codes "b" } ∷ [];
  restart = record usual_restart { delay = 50 };
}

abbrev spec_2 : ServiceSpec
spec_2 = record usual_spec {
  mode = mode.Global;
  template = template_2;
  update = record usual_update { delay = 1; monitor = 1 };
}

abbrev pub journal : List Told
journal =
    asked 0 (one (op.CreateNode (codes "n1") draft_1)) (made 1)
    ∷ asked 0 (one (op.CreateNode (codes "n2") draft_2)) (made 2)
    ∷ asked 0 (one (op.CreateNode (codes "n3") usual_node)) (made 3)
    ∷ asked 0 (one (op.CreateNode (codes "r1") draft_4)) (made 4)
    ∷ asked 0 (call.RemoteBegin (codes "r1") None None) (reply.SessionBegun 5 15000)
    ∷ asked 0 (one (op.SetCluster (usual_settings))) (made 0)
    ∷ asked 0 (one (op.CreateService (codes "s1") (draft spec_1))) (made 6)
    ∷ did 0 (duty.GlobalCreate 6 4)
    ∷ did 0 (duty.Address 7)
    ∷ did 0 (duty.Place 7 4)
    ∷ did 0 (duty.Register 1)
    ∷ did 0 (duty.Pull 1)
    ∷ did 0 (duty.Apply 1)
    ∷ did 0 (duty.Register 2)
    ∷ did 0 (duty.Pull 2)
    ∷ did 0 (duty.Apply 2)
    ∷ did 0 (duty.Register 3)
    ∷ did 0 (duty.GlobalCreate 6 3)
    ∷ did 0 (duty.Address 11)
    ∷ did 0 (duty.Place 11 3)
    ∷ did 0 (duty.Pull 3)
    ∷ did 0 (duty.Apply 3)
    ∷ did 0 (duty.Exec 3 11)
    ∷ did 0 (duty.Report 3 11)
    ∷ asked 0 (call.WatchBegin (record { kind = Some kind.Service; id = Some 13 })) (reply.WatchBegun 12)
    ∷ ticks 1000
    ∷ did 0 (duty.Exec 3 11)
    ∷ did 0 (duty.Exec 3 11)
    ∷ ticks 1
    ∷ did 0 (duty.Exec 3 11)
    ∷ did 0 (duty.Report 3 11)
    ∷ ticks 1000
    ∷ did 0 (duty.Exec 3 11)
    ∷ asked 0 (one (op.UpdateNode (codes "n3") (Some 17) [] node_role.Manager availability.Active)) (made 3)
    ∷ did 0 (duty.Reject 11)
    ∷ did 0 (duty.Restart 11)
    ∷ did 0 (duty.Leave 6 3)
    ∷ did 0 (duty.Drop 13)
    ∷ did 0 (duty.Delete 11)
    ∷ did 0 (duty.Delete 13)
    ∷ did 0 (duty.Pull 3)
    ∷ did 0 (duty.Apply 3)
    ∷ did 0 (duty.Forget 3 11)
    ∷ ticks 1000
    ∷ asked 0 (call.AgentStart (codes "r1")) (reply.Refused (refusal.WrongKind 4))
    ∷ asked 0 (call.RemoteBeat (codes "r1") 5) (reply.Beat 18001)
    ∷ ticks 1000
    ∷ asked 0
    (one (op.UpdateNode (codes "n2") None ((codes "zone", codes "b") ∷ []) node_role.Manager availability.Pause))
    (made 2)
    ∷ asked 0 (call.NodeStart (codes "n3")) (reply.AgentDone 3)
    ∷ asked 0 (call.RemoteBegin (codes "r1") None None) (reply.SessionBegun 14 19001)
    ∷ asked 0 (one (op.UpdateService (codes "s1") None (draft spec_2))) (made 6)
    ∷ asked 0 (call.AgentStop (codes "n3")) (reply.AgentDone 3)
    ∷ did 0 (duty.Start 6)
    ∷ did 0 (duty.Replace 6 4)
    ∷ did 0 (duty.GlobalCreate 6 1)
    ∷ did 0 (duty.GlobalCreate 6 3)
    ∷ asked 0
    (one (op.UpdateNode (codes "n1") None ((codes "zone", codes "A") ∷ []) node_role.Manager availability.Active))
    (made 1)
    ∷ did 0 (duty.Address 15)
    ∷ did 0 (duty.Address 16)
    ∷ did 0 (duty.Address 17)
    ∷ []

abbrev pub world : World
world = record empty_world {
  entries = 60;
  tables = record empty_tables {
    clock = 4001;
    next_id = 18;
    nodes =
        node_row 1 57 (codes "n1") draft_2
        ∷ record (node_row 2 48 (codes "n2") draft_1) {
          labels = (codes "zone", codes "b") ∷ [];
          availability = availability.Pause;
        }
        ∷ record (node_row 3 34 (codes "n3") draft_1) { cpu = 4000 }
        ∷ node_row 4 50 (codes "r1") draft_4
        ∷ [];
    services =
        record (service_row 6 54 (codes "s1") spec_2) {
          previous = Some spec_1;
          template_version = 51;
          run = Some (record {
            status = status.Updating;
            version = 51;
            total = 1;
            replaced = record { place = On 4; task = 15; created = 4001 } ∷ [];
          });
        }
        ∷ [];
    tasks =
        record (task_row 7 54 6 7 (On 4) template_1) {
          node = Some 4;
          state = state.Assigned;
          desired = desired.Shutdown;
        }
        ∷ record (task_row 15 58 6 51 (On 4) template_2) {
          node = Some 4;
          state = state.Pending;
          since = 4001;
          desired = desired.Ready;
          created = 4001;
          raise_at = 4001;
        }
        ∷ record (task_row 16 59 6 51 (On 1) template_2) {
          node = Some 1;
          state = state.Pending;
          since = 4001;
          created = 4001;
          raise_at = 4001;
        }
        ∷ record (task_row 17 60 6 51 (On 3) template_2) {
          node = Some 3;
          state = state.Pending;
          since = 4001;
          created = 4001;
          raise_at = 4001;
        }
        ∷ [];
    attempts = record { service = 6; place = On 3; version = 7; at = 2001 } ∷ [];
    sessions =
        session_row 1 8 15000 0
        ∷ session_row 2 9 15000 0
        ∷ session_row 3 10 15000 0
        ∷ session_row 4 14 19001 4001
        ∷ [];
  };
  sent =
      record { node = 1; count = 1; tasks = [] }
      ∷ record { node = 2; count = 1; tasks = [] }
      ∷ record { node = 3; count = 2; tasks = [] }
      ∷ [];
  agents = agent_row 1 1 [] ∷ agent_row 2 1 [] ∷ record (agent_row 3 2 []) { mode = agent_mode.AgentOff } ∷ [];
  watchers = record { id = 12; filter = record { kind = Some kind.Service; id = Some 13 }; cursor = 25 } ∷ [];
}

abbrev pub history : List Entry
history = entries_of journal

it_goes_so : IsPlayed empty_world journal world
it_goes_so = played empty_world journal world refl

it_keeps_the_laws : laws_hold empty_world history ≡ true
it_keeps_the_laws = refl
