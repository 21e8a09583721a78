-- What a node was sent, as contracts see it.
use Rattle.std.specs.Prelude.{◌≡◌, ℕ, ◌==◌, if◌then◌else◌, List, None, Option, Some}
use Rattle.swarm_objects.specs.Agents.Messages.{assigned_task, next_message}
use Rattle.swarm_objects.specs.Rows.{IsRising}
use Rattle.swarm_objects.specs.declared.messages.Assigned.{Assigned}
use Rattle.swarm_objects.specs.declared.messages.Message.{Message}
use Rattle.swarm_objects.specs.declared.messages.NodeSent.{NodeSent}

-- how many messages the node was sent in its session, and what it has by them
pub record Told : Type 0 where
  pub count : ℕ
  pub tasks : List Assigned

-- as a world has it of this node; before the first message of a session it has nothing
abbrev pub sent_to : ℕ → Told → Option NodeSent
sent_to node told =
    if told.count == 0 then None else Some (record { node = node; count = told.count; tasks = told.tasks })

-- the message is the next one, where this is due
pub record IsNext (told : Told) (due : List Assigned) (m : Message) : Type 0 where
  pub rises : IsRising assigned_task due
  pub next : (node : ℕ) → next_message (sent_to node told) due ≡ Some m

-- by the message each node has what was due
abbrev pub HasBy : Told → Message → Told → Type 0
HasBy told m after =
    (node : ℕ) (due : List Assigned) → IsNext told due m →
    sent_to node after ≡ Some (record { node = node; count = m.results_in; tasks = due })
