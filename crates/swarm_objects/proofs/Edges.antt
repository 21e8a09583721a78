-- Each limit at its edge: the greatest number that is within it, and the first one beyond; and what nothing was said of.
use Rattle.std.proofs.Common.{ℕ, ◌≡◌, ◌^◌, ◌+◌, Bool, true, false, None, find, refl}
use Rattle.std.specs.Prelude.{codes}
use Rattle.swarm_objects.specs.Defaults.{usual_draft, usual_node, usual_settings}
use Rattle.swarm_objects.specs.Limits.{most_entries, most_ops, most_nodes, most_services, most_networks, most_watchers}
use Rattle.swarm_objects.specs.Limits.{most_events, longest_tick, largest_budget, longest_script, longest_line}
use Rattle.swarm_objects.specs.Limits.{first_port, last_port, longest_entry}
use Rattle.swarm_objects.specs.Rules.Networks.{subnet_breaks}
use Rattle.swarm_objects.specs.Rules.Nodes.{resources_break}
use Rattle.swarm_objects.specs.Rules.Services.{wants_too_many, is_too_long, is_too_many, broken_rule}
use Rattle.swarm_objects.specs.Rules.Settings.{settings_break, settings_rules}
use Rattle.swarm_objects.specs.declared.rules.SpecRule.TheVariants as rule
use Rattle.swarm_objects.specs.declared.services.Mode.TheVariants as mode

-- the test holds from the second number on
abbrev Begins : (ℕ → Bool) → ℕ → ℕ → Type 0
Begins test last first = (test last ≡ false) × (test first ≡ true)

replicas : Begins (λ n. wants_too_many (mode.Replicated n)) 10000 10001
replicas = (refl, refl)

tasks : Begins (λ n. wants_too_many (mode.Job 1 n)) 10000 10001
tasks = (refl, refl)

times : Begins is_too_long 86400000 86400001
times = (refl, refl)

items : Begins is_too_many 32 33
items = (refl, refl)

processors : Begins (λ n. resources_break n 0 rule.Resources) 1000000 1000001
processors = (refl, refl)

memory : Begins (λ n. resources_break 0 n rule.Resources) (2 ^ 60) (2 ^ 60 + 1)
memory = (refl, refl)

long_subnets : Begins (λ n. subnet_breaks 0 n rule.Subnet) 29 30
long_subnets = (refl, refl)

short_subnets : Begins (λ n. subnet_breaks 0 n rule.Subnet) 16 15
short_subnets = (refl, refl)

long_beats : Begins (λ n. settings_break (record { heartbeat = n; orphan = 1; history = 0 }) rule.Settings) 60000 60001
long_beats = (refl, refl)

short_beats : Begins (λ n. settings_break (record { heartbeat = n; orphan = 1; history = 0 }) rule.Settings) 1000 999
short_beats = (refl, refl)

orphans : Begins (λ n. settings_break (record { heartbeat = 1000; orphan = n; history = 0 }) rule.Settings) 86400000 86400001
orphans = (refl, refl)

kept : Begins (λ n. settings_break (record { heartbeat = 1000; orphan = 1; history = n }) rule.Settings) 100 101
kept = (refl, refl)

-- those that no rule of a specification has
objects : (most_nodes ≡ 1000) × (most_services ≡ 1000) × (most_networks ≡ 100) × (most_watchers ≡ 100)
objects = (refl, refl, refl, refl)

ports : (first_port ≡ 30000) × (last_port ≡ 32767)
ports = (refl, refl)

histories : (most_entries ≡ 300000) × (most_ops ≡ 200) × (most_events ≡ 10000)
histories = (refl, refl, refl)

texts : (longest_script ≡ 2 ^ 24) × (longest_line ≡ 8192) × (longest_entry ≡ 8224)
texts = (refl, refl, refl)

clock : (longest_tick ≡ 1000) × (largest_budget ≡ 100000)
clock = (refl, refl)

-- what nothing was said of breaks no rule
usual_service : broken_rule usual_draft ≡ None
usual_service = refl

usual_cluster : find (settings_break usual_settings) settings_rules ≡ None
usual_cluster = refl

usual_machine : (usual_node.cpu ≡ 4000) × (usual_node.mem ≡ 2 ^ 33) × (usual_node.os ≡ codes "linux") × (usual_node.arch ≡ codes "amd64")
usual_machine = (refl, refl, refl, refl)
