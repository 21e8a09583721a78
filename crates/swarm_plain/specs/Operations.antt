-- The operations of a transaction are done or refused as they must be.
use Rattle.std.specs.Prelude.{ℕ, List, [], Result, ◌+◌, ◌<◌, ◌^◌}
use Rattle.swarm_model.specs.Calls.Operations.{apply_op, apply_ops}
use Rattle.swarm_model.specs.Outcome.{Applies}
use Rattle.swarm_objects.specs.World.{Tables}
use Rattle.swarm_objects.specs.declared.calls.Op.{Op}
use Rattle.swarm_objects.specs.declared.replies.Refusal.{Refusal}
use Rattle.swarm_plain.specs.Plain.{world_of}
use Rattle.swarm_plain.specs.declared.Plain.{Plain}

-- an operation of the entry with this number was done or refused as it must be
abbrev pub AppliesOp : ℕ → Op → Plain → Result ℕ Refusal → Plain → Type 0
AppliesOp version op before result after =
    Applies (apply_op version (world_of before) op) (world_of before) result (world_of after)

-- and so were operations one after the other
abbrev pub AppliesOps : ℕ → List Op → Plain → Result (List ℕ) Refusal → Plain → Type 0
AppliesOps version ops before result after =
    Applies (apply_ops version ops (world_of before) []) (world_of before) result (world_of after)

-- there are ids for so many further operations
abbrev pub HasRoom : ℕ → Tables → Type 0
HasRoom n t = t.next_id + n < 2 ^ 64
