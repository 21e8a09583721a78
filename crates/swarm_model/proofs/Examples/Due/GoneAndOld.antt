-- All duties before each entry: gone and old.
use Rattle.std.specs.Prelude.{List, [], refl, take, ◌∷◌, ◌≡◌}
use Rattle.swarm_model.proofs.Examples.Along.{duties_along}
use Rattle.swarm_model.proofs.Examples.OutOfOrder.GoneAndOld as gone_and_old
use Rattle.swarm_objects.specs.World.{empty_world}
use Rattle.swarm_objects.specs.declared.duties.Duty.{Duty}
use Rattle.swarm_objects.specs.declared.duties.Duty.TheVariants as duty

abbrev due : List (List Duty)
due =
    []
    ∷ (duty.Register 1 ∷ [])
    ∷ (duty.Register 1 ∷ duty.Register 2 ∷ [])
    ∷ (duty.Register 1 ∷ duty.Register 2 ∷ [])
    ∷ (duty.Register 1 ∷ duty.Register 2 ∷ [])
    ∷ (duty.Register 1 ∷ duty.Register 2 ∷ [])
    ∷ (duty.Register 1 ∷ duty.Register 2 ∷ [])
    ∷ (duty.Register 1 ∷ duty.Register 2 ∷ [])
    ∷ (duty.ReplicatedCreate 7 1 ∷ duty.Register 1 ∷ duty.Register 2 ∷ [])
    ∷ (duty.ReplicatedCreate 7 1 ∷ duty.JobCreate 8 0 ∷ duty.Register 1 ∷ duty.Register 2 ∷ [])
    ∷ (duty.ReplicatedCreate 7 2 ∷ duty.JobCreate 8 0 ∷ duty.Address 9 ∷ duty.Register 1 ∷ duty.Register 2 ∷ [])
    ∷ (duty.JobCreate 8 0 ∷ duty.Address 9 ∷ duty.Address 10 ∷ duty.Register 1 ∷ duty.Register 2 ∷ [])
    ∷ (duty.JobCreate 8 0 ∷ duty.Address 9 ∷ duty.Address 10 ∷ duty.Pull 1 ∷ duty.Register 2 ∷ [])
    ∷ (duty.Address 9 ∷ duty.Address 10 ∷ duty.Address 12 ∷ duty.Pull 1 ∷ duty.Register 2 ∷ [])
    ∷ (duty.Address 10 ∷ duty.Address 12 ∷ duty.Place 9 1 ∷ duty.Pull 1 ∷ duty.Register 2 ∷ [])
    ∷ (duty.Address 12 ∷ duty.Place 9 1 ∷ duty.Place 10 1 ∷ duty.Pull 1 ∷ duty.Register 2 ∷ [])
    ∷ (duty.Place 9 1 ∷ duty.Place 10 1 ∷ duty.Place 12 1 ∷ duty.Pull 1 ∷ duty.Register 2 ∷ [])
    ∷ (duty.Place 10 1 ∷ duty.Place 12 1 ∷ duty.Pull 1 ∷ duty.Register 2 ∷ [])
    ∷ (duty.Place 12 1 ∷ duty.Pull 1 ∷ duty.Register 2 ∷ [])
    ∷ (duty.Place 12 1 ∷ duty.Pull 1 ∷ duty.Register 2 ∷ [])
    ∷ (duty.Pull 1 ∷ duty.Register 2 ∷ [])
    ∷ (duty.Apply 1 ∷ duty.Register 2 ∷ [])
    ∷ (
    duty.Exec 1 9
    ∷ duty.Exec 1 10
    ∷ duty.Exec 1 12
    ∷ duty.Report 1 9
    ∷ duty.Report 1 10
    ∷ duty.Report 1 12
    ∷ duty.Register 2
    ∷ [])
    ∷ (duty.Exec 1 10 ∷ duty.Exec 1 12 ∷ duty.Report 1 9 ∷ duty.Report 1 10 ∷ duty.Report 1 12 ∷ duty.Register 2 ∷ [])
    ∷ (duty.Exec 1 12 ∷ duty.Report 1 9 ∷ duty.Report 1 10 ∷ duty.Report 1 12 ∷ duty.Register 2 ∷ [])
    ∷ (duty.Report 1 9 ∷ duty.Report 1 10 ∷ duty.Report 1 12 ∷ duty.Register 2 ∷ [])
    ∷ (duty.Report 1 10 ∷ duty.Report 1 12 ∷ duty.Register 2 ∷ [])
    ∷ (duty.Report 1 10 ∷ duty.Report 1 12 ∷ duty.Pull 2 ∷ [])
    ∷ (duty.Report 1 12 ∷ duty.Pull 2 ∷ [])
    ∷ (duty.Pull 2 ∷ [])
    ∷ (duty.Apply 2 ∷ [])
    ∷ []
    ∷ []
    ∷ []
    ∷ []
    ∷ (duty.Old 12 ∷ [])
    ∷ (duty.JobCreate 8 0 ∷ [])
    ∷ (duty.Address 14 ∷ [])
    ∷ (duty.Place 14 1 ∷ [])
    ∷ []
    ∷ []
    ∷ (duty.Gone 14 ∷ [])
    ∷ []
    ∷ []
    ∷ []
    ∷ []
    ∷ []
    ∷ []
    ∷ []
    ∷ []
    ∷ (duty.Beat 2 ∷ [])
    ∷ []
    ∷ (duty.Beat 2 ∷ [])
    ∷ []
    ∷ (duty.Expire 1 ∷ [])
    ∷ (duty.Restart 9 ∷ duty.Restart 10 ∷ [])
    ∷ (duty.Restart 9 ∷ duty.Address 15 ∷ [])
    ∷ (duty.Address 15 ∷ duty.Address 16 ∷ [])
    ∷ (duty.Address 15 ∷ duty.Explain 16 ∷ [])
    ∷ (duty.Explain 15 ∷ duty.Explain 16 ∷ [])
    ∷ []

all_are_due : duties_along empty_world (take 60 gone_and_old.history) ≡ due
all_are_due = refl
