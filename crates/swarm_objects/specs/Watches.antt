-- Which events a filter lets pass.
use Rattle.std.specs.Prelude.{ℕ, Bool, None, Option, Some, true, ◌==◌, ◌&&◌}
use Rattle.std.specs.Option.{option_map}
use Rattle.swarm_objects.specs.declared.ids.Kind.{Kind}
use Rattle.swarm_objects.specs.declared.ids.Kind.TheVariants as kind
use Rattle.swarm_objects.specs.declared.watches.Event.{Event}
use Rattle.swarm_objects.specs.declared.watches.Filter.{Filter}
use Rattle.swarm_objects.specs.declared.watches.Watcher.{Watcher}

abbrev pub kind_number : Kind → ℕ
kind_number kind.Node = 0
kind_number kind.Service = 1
kind_number kind.Task = 2
kind_number kind.Network = 3
kind_number kind.Watcher = 4

abbrev pub is_asked : Option ℕ → ℕ → Bool
is_asked None n = true
is_asked (Some asked) n = asked == n

abbrev pub filter_admits : Filter → Event → Bool
filter_admits f e = is_asked (option_map kind_number f.kind) (kind_number e.kind) && is_asked f.id e.id
