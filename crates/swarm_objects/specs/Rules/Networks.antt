-- The rule of networks.
use Rattle.std.specs.Prelude.{ℕ, Bool, not, ◌==◌, ◌-◌, ◌^◌, ◌%◌, false, ◌||◌, List, [], ◌∷◌}
use Rattle.swarm_objects.specs.Limits.{is_outside, fewest_bits, most_bits}
use Rattle.swarm_objects.specs.declared.rules.SpecRule.{SpecRule}
use Rattle.swarm_objects.specs.declared.rules.SpecRule.TheVariants as rule

-- the address has a bit below its first so many
abbrev pub has_host_bits : ℕ → ℕ → Bool
has_host_bits base bits = not (base % 2 ^ (32 - bits) == 0)

-- the subnet breaks this rule: it shares too few bits or too many, or its base has others
abbrev pub subnet_breaks : ℕ → ℕ → SpecRule → Bool
subnet_breaks base bits rule.Subnet = is_outside fewest_bits most_bits bits || has_host_bits base bits
subnet_breaks base bits _ = false

abbrev pub subnet_rules : List SpecRule
subnet_rules = rule.Subnet ∷ []
