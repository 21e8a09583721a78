-- Attempts under change.
use Rattle.std.specs.Prelude.{ℕ, List, Option, Some, None, Vec, take}
use Rattle.swarm_objects.specs.declared.tasks.Attempt.{Attempt}

-- what they were: those that were put by, or else the first ones of those that there are
abbrev pub started : {Z : Type 0} → Option (Vec Attempt Z) → ℕ → List Attempt → List Attempt
started None count rows = take count rows
started (Some before) count rows = before.items
