-- Operations on what a store holds.
use Rattle.std.specs.Prelude.{◌≡◌, ◌⊎◌, ℕ, Result, Ok, Err}
use Rattle.swarm_model.specs.Calls.Operations.{apply_op}
use Rattle.swarm_objects.specs.World.{Tables}
use Rattle.swarm_objects.specs.declared.calls.Op.{Op}
use Rattle.swarm_objects.specs.declared.replies.Refusal.{Refusal}
use Rattle.swarm_objects.specs.declared.replies.Refusal.TheVariants as refusal
use Rattle.swarm_store.specs.Inside.Done.{made}
use Rattle.swarm_store.specs.Inside.State.{tables_now, world_now}
use Rattle.swarm_store.specs.declared.state.State.{State}

-- it was done and gave this, as is expected, or was refused so; or memory was wanting
abbrev pub Reached : {X : Type 0} → Result (Tables × X) Refusal → Result X Refusal → Tables → Type 0
Reached expected (Ok x) t = expected ≡ Ok (t, x)
Reached expected (Err r) t = (r ≡ refusal.NoMemory) ⊎ (expected ≡ Err r)

-- an operation of the entry with this number; after a refusal the rows may be any that can be taken back
abbrev pub Does : ℕ → Op → State → Result ℕ Refusal → State → Type 0
Does version op before result after = Reached (made (apply_op version (world_now before) op)) result (tables_now after)
