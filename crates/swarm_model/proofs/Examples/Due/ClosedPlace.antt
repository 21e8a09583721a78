-- All duties before each entry: closed place.
use Rattle.std.specs.Prelude.{List, [], refl, take, ◌∷◌, ◌≡◌}
use Rattle.swarm_model.proofs.Examples.Along.{duties_along}
use Rattle.swarm_model.proofs.Examples.Journals.ClosedPlace as closed_place
use Rattle.swarm_objects.specs.World.{empty_world}
use Rattle.swarm_objects.specs.declared.duties.Duty.{Duty}
use Rattle.swarm_objects.specs.declared.duties.Duty.TheVariants as duty

abbrev due : List (List Duty)
due =
    []
    ∷ (duty.Register 1 ∷ [])
    ∷ (duty.ReplicatedCreate 2 1 ∷ duty.Register 1 ∷ [])
    ∷ (duty.Address 3 ∷ duty.Register 1 ∷ [])
    ∷ (duty.Explain 3 ∷ duty.Register 1 ∷ [])
    ∷ (duty.Register 1 ∷ [])
    ∷ (duty.Place 3 1 ∷ duty.Pull 1 ∷ [])
    ∷ (duty.Pull 1 ∷ [])
    ∷ (duty.Apply 1 ∷ [])
    ∷ (duty.Exec 1 3 ∷ duty.Report 1 3 ∷ [])
    ∷ (duty.Report 1 3 ∷ [])
    ∷ []
    ∷ (duty.Exec 1 3 ∷ [])
    ∷ (duty.Exec 1 3 ∷ duty.Report 1 3 ∷ [])
    ∷ (duty.Report 1 3 ∷ [])
    ∷ []
    ∷ (duty.Exec 1 3 ∷ [])
    ∷ (duty.Report 1 3 ∷ [])
    ∷ []
    ∷ (duty.Exec 1 3 ∷ [])
    ∷ (duty.Report 1 3 ∷ [])
    ∷ (duty.Restart 3 ∷ [])
    ∷ (duty.Address 5 ∷ duty.Pull 1 ∷ [])
    ∷ (duty.Place 5 1 ∷ duty.Pull 1 ∷ [])
    ∷ (duty.Pull 1 ∷ [])
    ∷ (duty.Apply 1 ∷ [])
    ∷ (duty.Exec 1 5 ∷ duty.Report 1 5 ∷ [])
    ∷ (duty.Report 1 5 ∷ [])
    ∷ []
    ∷ (duty.Exec 1 5 ∷ [])
    ∷ (duty.Report 1 5 ∷ [])
    ∷ []
    ∷ []
    ∷ []
    ∷ []
    ∷ []
    ∷ (duty.Raise 5 ∷ duty.Beat 1 ∷ [])
    ∷ (duty.Beat 1 ∷ duty.Pull 1 ∷ [])
    ∷ (duty.Pull 1 ∷ [])
    ∷ (duty.Apply 1 ∷ [])
    ∷ (duty.Exec 1 5 ∷ [])
    ∷ (duty.Report 1 5 ∷ [])
    ∷ []
    ∷ (duty.Exec 1 5 ∷ [])
    ∷ (duty.Report 1 5 ∷ [])
    ∷ []
    ∷ (duty.Exec 1 5 ∷ [])
    ∷ (duty.Report 1 5 ∷ [])
    ∷ (duty.Restart 5 ∷ [])
    ∷ (duty.Address 6 ∷ duty.Pull 1 ∷ [])
    ∷ (duty.Place 6 1 ∷ duty.Pull 1 ∷ [])
    ∷ (duty.Pull 1 ∷ [])
    ∷ (duty.Apply 1 ∷ [])
    ∷ (duty.Exec 1 6 ∷ duty.Report 1 6 ∷ [])
    ∷ (duty.Report 1 6 ∷ [])
    ∷ []
    ∷ (duty.Exec 1 6 ∷ [])
    ∷ (duty.Report 1 6 ∷ [])
    ∷ []
    ∷ []
    ∷ []

all_are_due : duties_along empty_world (take 60 closed_place.history) ≡ due
all_are_due = refl
