-- Whether one task holds an address.
use Rattle.std.specs.Prelude.{Bool, ℕ, ◌&&◌, ◌==◌}
use Rattle.std.specs.List.{list_any}
use Rattle.swarm_objects.specs.Tasks.Words.{is_not_over}
use Rattle.swarm_objects.specs.declared.tasks.Address.{Address}
use Rattle.swarm_objects.specs.declared.tasks.Task.{Task}

abbrev pub is_address : ℕ → ℕ → Address → Bool
is_address network number a = a.network == network && a.number == number

-- the task is up to RUNNING, and has this address
abbrev pub holds_address : ℕ → ℕ → Task → Bool
holds_address network number x = is_not_over x && list_any (is_address network number) x.addresses
