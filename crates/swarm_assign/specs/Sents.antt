-- What was sent to each node, as contracts see it.
use Rattle.std.specs.Prelude.{List, None, Option, Some, ℕ}
use Rattle.swarm_assign.specs.Told.{Told}
use Rattle.swarm_objects.specs.Rows.{on_row, row_at, sent_node, with_row}
use Rattle.swarm_objects.specs.declared.messages.Assigned.{Assigned}
use Rattle.swarm_objects.specs.declared.messages.Message.{Message}
use Rattle.swarm_objects.specs.declared.messages.NodeSent.{NodeSent}

abbrev pub sent_row : ℕ × Told → NodeSent
sent_row e = record { node = e.0; count = e.1.count; tasks = e.1.tasks }

-- how many messages the node was sent in its session
abbrev pub sent_count : ℕ → List NodeSent → ℕ
sent_count node sent = on_row 0 (λ s. s.count) (row_at sent_node node sent)

-- after the message, where there is one, the node was sent what was due
abbrev pub after_message : ℕ → List Assigned → Option Message → List NodeSent → List NodeSent
after_message node due None sent = sent
after_message node due (Some m) sent =
    with_row sent_node (record { node = node; count = m.results_in; tasks = due }) sent
