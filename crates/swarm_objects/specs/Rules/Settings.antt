-- The rule of the cluster's settings.
use Rattle.std.specs.Prelude.{Bool, false, ◌||◌, nat_lt, List, [], ◌∷◌, ◌-◌}
use Rattle.swarm_objects.specs.Limits.{longest_time, is_outside, shortest_beat, longest_beat, most_kept}
use Rattle.swarm_objects.specs.declared.rules.SpecRule.{SpecRule}
use Rattle.swarm_objects.specs.declared.rules.SpecRule.TheVariants as rule
use Rattle.swarm_objects.specs.declared.settings.Settings.{Settings}

-- the settings break this rule: beats too short or too long, tasks given up at once or too late, too many ended kept
abbrev pub settings_break : Settings → SpecRule → Bool
settings_break s rule.Settings =
    is_outside shortest_beat longest_beat s.heartbeat
    || is_outside 1 longest_time s.orphan
    || nat_lt most_kept s.history
settings_break s _ = false

abbrev pub settings_rules : List SpecRule
settings_rules = rule.Settings ∷ []
