-- Faults of nodes that are inside.
use Rattle.std.specs.Prelude.{if◌then◌else◌, ℕ, Err, List, Ok}
use Rattle.swarm_model.specs.Calls.Refusals.{on_node}
use Rattle.swarm_model.specs.Outcome.{Answered}
use Rattle.swarm_objects.specs.Loops.Agents.{change_agent}
use Rattle.swarm_objects.specs.World.{World}
use Rattle.swarm_objects.specs.declared.agents.NodeAgent.{NodeAgent}
use Rattle.swarm_objects.specs.declared.replies.Refusal.TheVariants as refusal
use Rattle.swarm_objects.specs.declared.replies.Reply.TheVariants as reply

-- Faults of nodes that are inside.

-- a call on the agent of a node that is inside
abbrev pub on_agent : World → List ℕ → (NodeAgent → NodeAgent) → Answered
on_agent w name change =
    on_node w.tables name
    (λ n. if n.remote then Err (refusal.WrongKind n.id) else Ok (reply.AgentDone n.id, change_agent n.id change w))
