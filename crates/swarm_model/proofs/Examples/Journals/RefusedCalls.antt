-- Calls that are refused.
use Rattle.std.specs.Prelude.{List, None, [], codes, false, refl, true, ◌∷◌, ◌≡◌}
use Rattle.swarm_model.proofs.Examples.Audit.{IsPlayed, Told, asked, did, entries_of, played}
use Rattle.swarm_model.proofs.Examples.LawTests.{laws_hold}
use Rattle.swarm_model.proofs.Examples.Usual.{draft, made, service_row}
use Rattle.swarm_model.proofs.Examples.Words.{one}
use Rattle.swarm_model.specs.Script.{Asked, Asks, Settles}
use Rattle.swarm_model.specs.Serial.{serial}
use Rattle.swarm_objects.specs.Defaults.{usual_node, usual_spec}
use Rattle.swarm_objects.specs.World.{World, empty_tables, empty_world}
use Rattle.swarm_objects.specs.declared.calls.Call.TheVariants as call
use Rattle.swarm_objects.specs.declared.calls.Entry.{Entry}
use Rattle.swarm_objects.specs.declared.calls.Op.TheVariants as op
use Rattle.swarm_objects.specs.declared.calls.Query.TheVariants as query
use Rattle.swarm_objects.specs.declared.duties.Duty.TheVariants as duty
use Rattle.swarm_objects.specs.declared.duties.Settle.TheVariants as settle
use Rattle.swarm_objects.specs.declared.nodes.NodeState.TheVariants as node_state
use Rattle.swarm_objects.specs.declared.replies.Refusal.TheVariants as refusal
use Rattle.swarm_objects.specs.declared.replies.Reply.TheVariants as reply
use Rattle.swarm_objects.specs.declared.replies.ViewReply.TheVariants as view
use Rattle.swarm_objects.specs.declared.rules.SpecRule.TheVariants as rule
use Rattle.swarm_objects.specs.declared.services.Mode.TheVariants as mode
use Rattle.swarm_objects.specs.declared.services.ServiceSpec.{ServiceSpec}

abbrev spec_2 : ServiceSpec
spec_2 = record usual_spec { mode = mode.Replicated 10001 }

abbrev spec_3 : ServiceSpec
spec_3 = record usual_spec { mode = mode.Global }

-- the script
abbrev lines : List Asked
lines =
    Asks (one (op.CreateNode (codes "n1") usual_node))
    ∷ Settles 100000
    ∷ Asks (one (op.CreateService (codes "web") (draft usual_spec)))
    ∷ Asks (one (op.CreateService (codes "x") (draft spec_2)))
    ∷ Asks (one (op.RemoveNode (codes "n1") false))
    ∷ Asks (one (op.UpdateService (codes "web") None (draft spec_3)))
    ∷ Asks (one (op.RollbackService (codes "web") None))
    ∷ Asks (call.Tick 1001)
    ∷ Asks (call.RemoteBeat (codes "n1") 2)
    ∷ Asks (call.WatchPoll 9)
    ∷ Asks (one (op.RemoveNode (codes "n1") true))
    ∷ Asks (call.View query.ListNodes)
    ∷ []

abbrev pub journal : List Told
journal =
    asked 0 (one (op.CreateNode (codes "n1") usual_node)) (made 1)
    ∷ did 0 (duty.Register 1)
    ∷ did 0 (duty.Pull 1)
    ∷ did 0 (duty.Apply 1)
    ∷ asked 0 (call.Settle 100000) (reply.Settle 100000 settle.Settled)
    ∷ asked 0 (one (op.CreateService (codes "web") (draft usual_spec))) (made 3)
    ∷ asked 0 (one (op.CreateService (codes "x") (draft spec_2))) (reply.Refused (refusal.BadSpec rule.Replicas))
    ∷ asked 0 (one (op.RemoveNode (codes "n1") false)) (reply.Refused (refusal.NodeNotDown node_state.Ready))
    ∷ asked 0 (one (op.UpdateService (codes "web") None (draft spec_3))) (reply.Refused refusal.ModeChange)
    ∷ asked 0 (one (op.RollbackService (codes "web") None)) (reply.Refused refusal.NoPrevious)
    ∷ asked 0 (call.Tick 1001) (reply.Refused (refusal.BadTick 1001))
    ∷ asked 0 (call.RemoteBeat (codes "n1") 2) (reply.Refused (refusal.WrongKind 1))
    ∷ asked 0 (call.WatchPoll 9) (reply.Refused (refusal.UnknownWatcher 9))
    ∷ asked 0 (one (op.RemoveNode (codes "n1") true)) (made 1)
    ∷ asked 0 (call.View query.ListNodes) (reply.View (view.Nodes []))
    ∷ asked 0 call.Halt reply.HaltDone
    ∷ []

abbrev pub world : World
world = record empty_world {
  entries = 16;
  tables = record empty_tables { next_id = 4; services = service_row 3 6 (codes "web") usual_spec ∷ [] };
  halted = true;
}

abbrev pub history : List Entry
history = entries_of journal

it_goes_so : IsPlayed empty_world journal world
it_goes_so = played empty_world journal world refl

it_is_the_serial_one : serial lines ≡ history
it_is_the_serial_one = refl

it_keeps_the_laws : laws_hold empty_world history ≡ true
it_keeps_the_laws = refl
