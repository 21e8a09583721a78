-- The tasks that a message names.
use Rattle.std.specs.BTreeSet.{BTreeSet, contains}
use Rattle.std.specs.List.{list_any}
use Rattle.std.specs.Ordering.{nat_cmp}
use Rattle.std.specs.Prelude.{List, if◌then◌else◌, ℕ, ◌≡◌}
use Rattle.swarm_objects.specs.Agents.Messages.{gone_executor, names}
use Rattle.swarm_objects.specs.declared.agents.Executor.{Executor}
use Rattle.swarm_objects.specs.declared.messages.AssignChange.{AssignChange}

abbrev pub named_or_gone : BTreeSet ℕ → Executor → Executor
named_or_gone named e = if contains nat_cmp named e.task then e else gone_executor e

-- the set has exactly the tasks that an update names
abbrev pub AreNamed : BTreeSet ℕ → List AssignChange → Type 0
AreNamed named changes = (task : ℕ) → contains nat_cmp named task ≡ list_any (names task) changes
