-- What a transaction makes of what stands beside the rows.
use Rattle.std.specs.Prelude.{◌≡◌, ℕ, List, Ok}
use Rattle.swarm_model.specs.Calls.{txn}
use Rattle.swarm_model.specs.Calls.Beside.{Beside, beside_of, beside_ops}
use Rattle.swarm_objects.specs.World.{World}
use Rattle.swarm_objects.specs.declared.calls.Op.{Op}
use Rattle.swarm_objects.specs.declared.replies.Reply.TheVariants as reply

-- the new world has this beside its rows, and all else but the tables is as it was
abbrev pub HasBeside : Beside → World → World → Type 0
HasBeside b w v =
    (v.tables.sessions ≡ b.sessions) × (v ≡ record w { tables = v.tables; sent = b.sent; agents = b.agents })

-- its operations and the ids of its reply alone tell it
abbrev pub BesideLaw : Type 0
BesideLaw =
    (version : ℕ) (w v : World) (ops : List Op) (ids : List ℕ) → txn version w ops ≡ Ok (reply.Txn ids, v) →
    HasBeside (beside_ops ops ids (beside_of w)) w v
