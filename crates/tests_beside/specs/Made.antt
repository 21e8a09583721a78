-- What a transaction made of a store.
use Rattle.std.specs.Prelude.{◌≡◌, ℕ, List, Ok, Bool, true, false}
use Rattle.swarm_model.specs.Calls.{txn}
use Rattle.swarm_objects.specs.World.{World}
use Rattle.swarm_objects.specs.declared.calls.Op.{Op}
use Rattle.swarm_objects.specs.declared.replies.Reply.{Reply}
use Rattle.swarm_store.specs.Stored.{StandsFor, Stored}

-- the operations, as the entry with this number, were done in this world, and the store stands for what they made of it
pub record Done (version : ℕ) (ops : List Op) (w : World) (after : Stored) : Type 0 where
  pub reply : Reply
  pub made : World
  pub does : txn version w ops ≡ Ok (reply, made)
  pub stands : StandsFor after made

-- they were done in each world that the store stood for, or the store is as it was
abbrev pub Transacted : ℕ → List Op → Bool → Stored → Stored → Type 0
Transacted version ops true before after = (w : World) → StandsFor before w → Done version ops w after
Transacted version ops false before after = after ≡ before
