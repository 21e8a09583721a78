-- Worlds in which no control loop has anything to do.
use Rattle.std.specs.Prelude.{None, [], ◌≡◌}
use Rattle.swarm_model.specs.Settle.{settle_answer, waits}
use Rattle.swarm_objects.specs.Duties.{first_duty}
use Rattle.swarm_objects.specs.Kinds.{roles}
use Rattle.swarm_objects.specs.World.{World}
use Rattle.swarm_objects.specs.declared.duties.Settle.TheVariants as settle

-- no role has a duty
abbrev pub IsAtRest : World → Type 0
IsAtRest w = first_duty w roles ≡ None

-- nor is anything waited for
abbrev pub IsQuiet : World → Type 0
IsQuiet w = IsAtRest w × (waits w ≡ [])

-- nor is an update held or paused
abbrev pub IsSettled : World → Type 0
IsSettled w = settle_answer w ≡ settle.Settled
