-- The rules of nodes and of the resources that one opens a session with, in the order in which they are tested.
use Rattle.std.specs.Prelude.{ℕ, Bool, false, ◌||◌, nat_lt, List, [], ◌∷◌, length}
use Rattle.swarm_objects.specs.Limits.{most_cpu, most_mem}
use Rattle.swarm_objects.specs.Rules.Services.{is_too_many}
use Rattle.swarm_objects.specs.declared.nodes.Node.{Node}
use Rattle.swarm_objects.specs.declared.rules.SpecRule.{SpecRule}
use Rattle.swarm_objects.specs.declared.rules.SpecRule.TheVariants as rule

-- these resources of a node break this rule
abbrev pub resources_break : ℕ → ℕ → SpecRule → Bool
resources_break cpu mem rule.Resources = nat_lt most_cpu cpu || nat_lt most_mem mem
resources_break cpu mem _ = false

abbrev pub resource_rules : List SpecRule
resource_rules = rule.Resources ∷ []

-- the node breaks this rule
abbrev pub node_breaks : Node → SpecRule → Bool
node_breaks n rule.Resources = resources_break n.cpu n.mem rule.Resources
node_breaks n rule.Count = is_too_many (length n.labels) || is_too_many (length n.engine)
node_breaks n _ = false

abbrev pub node_rules : List SpecRule
node_rules = rule.Resources ∷ rule.Count ∷ []
