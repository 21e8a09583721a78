-- All duties before each entry: two replicas.
use Rattle.std.specs.Prelude.{List, [], refl, take, ◌∷◌, ◌≡◌}
use Rattle.swarm_model.proofs.Examples.Along.{duties_along}
use Rattle.swarm_model.proofs.Examples.Journals.TwoReplicas as two_replicas
use Rattle.swarm_objects.specs.World.{empty_world}
use Rattle.swarm_objects.specs.declared.duties.Duty.{Duty}
use Rattle.swarm_objects.specs.declared.duties.Duty.TheVariants as duty

abbrev due : List (List Duty)
due =
    []
    ∷ (duty.Register 1 ∷ [])
    ∷ (duty.ReplicatedCreate 2 1 ∷ duty.Register 1 ∷ [])
    ∷ (duty.ReplicatedCreate 2 2 ∷ duty.Address 3 ∷ duty.Register 1 ∷ [])
    ∷ (duty.Address 3 ∷ duty.Address 4 ∷ duty.Register 1 ∷ [])
    ∷ (duty.Address 4 ∷ duty.Explain 3 ∷ duty.Register 1 ∷ [])
    ∷ (duty.Explain 3 ∷ duty.Explain 4 ∷ duty.Register 1 ∷ [])
    ∷ (duty.Explain 4 ∷ duty.Register 1 ∷ [])
    ∷ (duty.Register 1 ∷ [])
    ∷ (duty.Place 3 1 ∷ duty.Place 4 1 ∷ duty.Pull 1 ∷ [])
    ∷ (duty.Place 4 1 ∷ duty.Pull 1 ∷ [])
    ∷ (duty.Pull 1 ∷ [])
    ∷ (duty.Apply 1 ∷ [])
    ∷ (duty.Exec 1 3 ∷ duty.Exec 1 4 ∷ duty.Report 1 3 ∷ duty.Report 1 4 ∷ [])
    ∷ (duty.Exec 1 4 ∷ duty.Report 1 3 ∷ duty.Report 1 4 ∷ [])
    ∷ (duty.Report 1 3 ∷ duty.Report 1 4 ∷ [])
    ∷ (duty.Report 1 4 ∷ [])
    ∷ []
    ∷ (duty.Exec 1 3 ∷ duty.Exec 1 4 ∷ [])
    ∷ (duty.Exec 1 3 ∷ duty.Exec 1 4 ∷ duty.Report 1 3 ∷ [])
    ∷ (duty.Exec 1 4 ∷ duty.Report 1 3 ∷ [])
    ∷ (duty.Exec 1 4 ∷ duty.Report 1 3 ∷ duty.Report 1 4 ∷ [])
    ∷ (duty.Report 1 3 ∷ duty.Report 1 4 ∷ [])
    ∷ (duty.Report 1 4 ∷ [])
    ∷ []
    ∷ (duty.Exec 1 3 ∷ duty.Exec 1 4 ∷ [])
    ∷ (duty.Exec 1 4 ∷ duty.Report 1 3 ∷ [])
    ∷ (duty.Report 1 3 ∷ duty.Report 1 4 ∷ [])
    ∷ (duty.Report 1 4 ∷ [])
    ∷ []
    ∷ []
    ∷ []
    ∷ []
    ∷ []

all_are_due : duties_along empty_world (take 33 two_replicas.history) ≡ due
all_are_due = refl
