-- All duties before each entry: done job.
use Rattle.std.specs.Prelude.{List, [], refl, take, ◌∷◌, ◌≡◌}
use Rattle.swarm_model.proofs.Examples.Along.{duties_along}
use Rattle.swarm_model.proofs.Examples.Journals.DoneJob as done_job
use Rattle.swarm_objects.specs.World.{empty_world}
use Rattle.swarm_objects.specs.declared.duties.Duty.{Duty}
use Rattle.swarm_objects.specs.declared.duties.Duty.TheVariants as duty

abbrev due : List (List Duty)
due =
    []
    ∷ (duty.Register 1 ∷ [])
    ∷ (duty.JobCreate 2 0 ∷ duty.Register 1 ∷ [])
    ∷ (duty.JobCreate 2 1 ∷ duty.Address 3 ∷ duty.Register 1 ∷ [])
    ∷ (duty.Address 3 ∷ duty.Address 4 ∷ duty.Register 1 ∷ [])
    ∷ (duty.Address 4 ∷ duty.Explain 3 ∷ duty.Register 1 ∷ [])
    ∷ (duty.Explain 3 ∷ duty.Explain 4 ∷ duty.Register 1 ∷ [])
    ∷ (duty.Explain 4 ∷ duty.Register 1 ∷ [])
    ∷ (duty.Register 1 ∷ [])
    ∷ (duty.Place 3 1 ∷ duty.Place 4 1 ∷ duty.Pull 1 ∷ [])
    ∷ (duty.Place 4 1 ∷ duty.Pull 1 ∷ [])
    ∷ (duty.Pull 1 ∷ [])
    ∷ (duty.Apply 1 ∷ [])
    ∷ (duty.Exec 1 3 ∷ duty.Exec 1 4 ∷ duty.Report 1 3 ∷ duty.Report 1 4 ∷ [])
    ∷ (duty.Exec 1 4 ∷ duty.Report 1 3 ∷ duty.Report 1 4 ∷ [])
    ∷ (duty.Report 1 3 ∷ duty.Report 1 4 ∷ [])
    ∷ (duty.Report 1 4 ∷ [])
    ∷ []
    ∷ (duty.Exec 1 3 ∷ duty.Exec 1 4 ∷ [])
    ∷ (duty.Exec 1 3 ∷ duty.Exec 1 4 ∷ duty.Report 1 3 ∷ [])
    ∷ (duty.Exec 1 4 ∷ duty.Report 1 3 ∷ [])
    ∷ (duty.Exec 1 4 ∷ duty.Report 1 3 ∷ duty.Report 1 4 ∷ [])
    ∷ (duty.Report 1 3 ∷ duty.Report 1 4 ∷ [])
    ∷ (duty.Report 1 4 ∷ [])
    ∷ []
    ∷ (duty.Exec 1 3 ∷ duty.Exec 1 4 ∷ [])
    ∷ (duty.Exec 1 4 ∷ duty.Report 1 3 ∷ [])
    ∷ (duty.Report 1 3 ∷ duty.Report 1 4 ∷ [])
    ∷ (duty.Report 1 4 ∷ [])
    ∷ []
    ∷ (duty.Exec 1 3 ∷ duty.Exec 1 4 ∷ [])
    ∷ (duty.Exec 1 4 ∷ duty.Report 1 3 ∷ [])
    ∷ (duty.Report 1 3 ∷ duty.Report 1 4 ∷ [])
    ∷ (duty.Restart 3 ∷ duty.Report 1 4 ∷ [])
    ∷ (duty.JobCreate 2 2 ∷ duty.Pull 1 ∷ duty.Report 1 4 ∷ [])
    ∷ (duty.Address 6 ∷ duty.Pull 1 ∷ duty.Report 1 4 ∷ [])
    ∷ (duty.Place 6 1 ∷ duty.Pull 1 ∷ duty.Report 1 4 ∷ [])
    ∷ (duty.Pull 1 ∷ duty.Report 1 4 ∷ [])
    ∷ (duty.Apply 1 ∷ duty.Report 1 4 ∷ [])
    ∷ (duty.Exec 1 6 ∷ duty.Report 1 4 ∷ duty.Report 1 6 ∷ [])
    ∷ (duty.Report 1 4 ∷ duty.Report 1 6 ∷ [])
    ∷ (duty.Restart 4 ∷ duty.Report 1 6 ∷ [])
    ∷ (duty.Pull 1 ∷ duty.Report 1 6 ∷ [])
    ∷ (duty.Apply 1 ∷ duty.Report 1 6 ∷ [])
    ∷ (duty.Report 1 6 ∷ [])
    ∷ []
    ∷ (duty.Exec 1 6 ∷ [])
    ∷ (duty.Exec 1 6 ∷ duty.Report 1 6 ∷ [])
    ∷ (duty.Report 1 6 ∷ [])
    ∷ []
    ∷ (duty.Exec 1 6 ∷ [])
    ∷ (duty.Report 1 6 ∷ [])
    ∷ []
    ∷ (duty.Exec 1 6 ∷ [])
    ∷ (duty.Report 1 6 ∷ [])
    ∷ (duty.Restart 6 ∷ [])
    ∷ (duty.Pull 1 ∷ [])
    ∷ (duty.Apply 1 ∷ [])
    ∷ []
    ∷ []
    ∷ []

all_are_due : duties_along empty_world (take 60 done_job.history) ≡ due
all_are_due = refl
