-- Dead sessions change nothing.
use Rattle.std.specs.Prelude.{List, None, Option, Some, ℕ, Bool, not, false, true, ◌+◌, ◌≡◌}
use Rattle.swarm_model.specs.Calls.{call_outcome}
use Rattle.swarm_model.specs.Calls.Refusals.{node_by}
use Rattle.swarm_model.specs.Calls.Remote.{admits_session}
use Rattle.swarm_model.specs.History.{IsLegal}
use Rattle.swarm_model.specs.Laws.Steps.{EachStep}
use Rattle.swarm_objects.specs.Duties.{is_due}
use Rattle.swarm_objects.specs.Nodes.Sessions.{is_session_live}
use Rattle.swarm_objects.specs.Rows.{is_some_and}
use Rattle.swarm_objects.specs.World.{Tables, World, empty_world}
use Rattle.swarm_objects.specs.declared.calls.Call.{Call}
use Rattle.swarm_objects.specs.declared.calls.Call.TheVariants as call
use Rattle.swarm_objects.specs.declared.calls.Entry.{Entry}
use Rattle.swarm_objects.specs.declared.calls.What.{What}
use Rattle.swarm_objects.specs.declared.calls.What.TheVariants as what
use Rattle.swarm_objects.specs.declared.duties.Duty.{Duty}
use Rattle.swarm_objects.specs.declared.duties.Duty.TheVariants as duty
use Rattle.swarm_objects.specs.declared.ids.Kind.TheVariants as kind
use Rattle.swarm_objects.specs.declared.nodes.Node.{Node}
use Rattle.swarm_objects.specs.declared.replies.Refusal.TheVariants as refusal
use Rattle.swarm_objects.specs.declared.replies.Reply.{Reply}
use Rattle.swarm_objects.specs.declared.replies.Reply.TheVariants as reply

-- Dead sessions.

-- the call speaks of a session of the node with this name
abbrev pub session_in : Call → Option (List ℕ × ℕ)
session_in (call.RemoteBeat name session) = Some (name, session)
session_in (call.RemotePull name session) = Some (name, session)
session_in (call.RemoteStatus name session task s) = Some (name, session)
session_in _ = None

-- the id is no live session of the node; a node that isn't there has none
abbrev pub is_dead : Tables → List ℕ × ℕ → Bool
is_dead t asked = not (is_some_and (λ (n : Node). admits_session t n.id asked.1) (node_by t asked.0))

-- what a call under a dead session may be answered
abbrev pub is_dead_answer : Reply → Bool
is_dead_answer (reply.Refused (refusal.NotFound kind.Node asked)) = true
is_dead_answer (reply.Refused (refusal.WrongKind node)) = true
is_dead_answer (reply.Refused (refusal.InvalidSession session)) = true
is_dead_answer (reply.Refused (refusal.SessionExpired deadline)) = true
is_dead_answer _ = false

-- but for the number of entries the world is the old one
abbrev pub IsUnchanged : World → World → Type 0
IsUnchanged old new = new ≡ record old { entries = old.entries + 1 }

abbrev pub DeadChangesNothing : World → Call → Type 0
DeadChangesNothing w c =
    (asked : List ℕ × ℕ) → session_in c ≡ Some asked → is_dead w.tables asked ≡ true
    → (is_dead_answer (call_outcome w c).reply ≡ true) × IsUnchanged w (call_outcome w c).after

-- the duty of an agent that needs its node's session
abbrev pub session_node_of : Duty → Option ℕ
session_node_of (duty.Beat node) = Some node
session_node_of (duty.Pull node) = Some node
session_node_of (duty.Report node task) = Some node
session_node_of _ = None

abbrev pub NeedsSession : World → Duty → Type 0
NeedsSession w d = (node : ℕ) → session_node_of d ≡ Some node → is_due w d ≡ true → is_session_live w.tables node ≡ true

abbrev pub StepMindsSessions : World → What → World → Type 0
StepMindsSessions old (what.Call c) new = DeadChangesNothing old c
StepMindsSessions old (what.Duty d) new = NeedsSession old d

abbrev pub DeadSessionLaw : Type 0
DeadSessionLaw = (h : List Entry) → IsLegal h → EachStep StepMindsSessions empty_world h
