-- Phases of executors among what is waited for.
use Rattle.std.specs.Prelude.{None, Option, Some, ℕ, ◌<◌}
use Rattle.swarm_model.specs.Settle.{Wait, wait, wait_cmp}
use Rattle.swarm_objects.specs.Rows.{keep_least}
use Rattle.swarm_objects.specs.declared.duties.Cause.TheVariants as cause

-- by its time and its task
abbrev pub awaited_phase : ℕ × ℕ → Wait
awaited_phase p = wait cause.Executor p.1 p.0

-- the phase, where there is one and it comes before the best wait so far
abbrev pub kept : Option Wait → Option (ℕ × ℕ) → Option Wait
kept best None = best
kept best (Some p) = keep_least wait_cmp best (awaited_phase p)

-- the best wait so far ends before this time
abbrev pub EndsBefore : Option Wait → ℕ → Type 0
EndsBefore None time = ⊥
EndsBefore (Some b) time = b.time < time
