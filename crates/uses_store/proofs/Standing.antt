-- What a store stands for after a transaction that it refused.
use Rattle.std.proofs.Common.{ℕ, List, Ok, Err, IfErr, sym, subst}
use Rattle.std.specs.Prelude.{Result}
use Rattle.swarm_objects.specs.World.{World}
use Rattle.swarm_objects.specs.declared.calls.Op.{Op}
use Rattle.swarm_objects.specs.declared.replies.Refusal.{Refusal}
use Rattle.swarm_store.specs.Stored.{StandsFor, Stored, Transacts}

pub stands_still : (version : ℕ) (ops : List Op) (w : World) (before : Stored) (answer : Result (List ℕ) Refusal)
    (after : Stored) → Transacts version ops w before answer after → StandsFor before w →
    IfErr answer (λ refusal. StandsFor after w)
stands_still version ops w before (Ok ids) after does stands = tt
stands_still version ops w before (Err refusal) after does stands = subst (λ s. StandsFor s w) (sym does.1) stands
