use Rattle.std.proofs.Common.{◌≡◌, take}
use Rattle.std.specs.Prelude.{map}
use Rattle.swarm_model.specs.Calls.Views.{shown}
use Rattle.swarm_plain.proofs.Plain.nodes_shown.Given as goal

abbrev pub invariant-loop-node : goal.invariant-loop-node
invariant-loop-node l = l.rows ≡ map shown (take l.node-index l.node-items)
