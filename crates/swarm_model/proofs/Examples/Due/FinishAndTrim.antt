-- All duties before each entry: finish and trim.
use Rattle.std.specs.Prelude.{List, [], refl, take, ◌∷◌, ◌≡◌}
use Rattle.swarm_model.proofs.Examples.Along.{duties_along}
use Rattle.swarm_model.proofs.Examples.OutOfOrder.FinishAndTrim as finish_and_trim
use Rattle.swarm_objects.specs.World.{empty_world}
use Rattle.swarm_objects.specs.declared.duties.Duty.{Duty}
use Rattle.swarm_objects.specs.declared.duties.Duty.TheVariants as duty

abbrev due : List (List Duty)
due =
    []
    ∷ (duty.Register 1 ∷ [])
    ∷ (duty.Register 1 ∷ duty.Register 2 ∷ [])
    ∷ (duty.Register 1 ∷ duty.Register 2 ∷ duty.Register 3 ∷ [])
    ∷ (duty.Register 1 ∷ duty.Register 2 ∷ duty.Register 3 ∷ [])
    ∷ (duty.Register 1 ∷ duty.Register 2 ∷ duty.Register 3 ∷ [])
    ∷ (duty.Register 1 ∷ duty.Register 2 ∷ duty.Register 3 ∷ [])
    ∷ (duty.Register 1 ∷ duty.Register 2 ∷ duty.Register 3 ∷ [])
    ∷ (duty.Pull 1 ∷ duty.Register 2 ∷ duty.Register 3 ∷ [])
    ∷ (duty.Pull 1 ∷ duty.Register 2 ∷ duty.Register 3 ∷ [])
    ∷ (duty.Apply 1 ∷ duty.Register 2 ∷ duty.Register 3 ∷ [])
    ∷ (duty.Register 2 ∷ duty.Register 3 ∷ [])
    ∷ (duty.Pull 2 ∷ duty.Register 3 ∷ [])
    ∷ (duty.Apply 2 ∷ duty.Register 3 ∷ [])
    ∷ (duty.Register 3 ∷ [])
    ∷ (duty.GlobalCreate 6 3 ∷ duty.Pull 3 ∷ [])
    ∷ (duty.Address 10 ∷ duty.Pull 3 ∷ [])
    ∷ (duty.Place 10 3 ∷ duty.Pull 3 ∷ [])
    ∷ (duty.Start 6 ∷ duty.Place 10 3 ∷ duty.Pull 3 ∷ [])
    ∷ (duty.Replace 6 3 ∷ duty.Place 10 3 ∷ duty.Pull 3 ∷ [])
    ∷ (duty.Raise 11 ∷ duty.Address 11 ∷ duty.Drop 10 ∷ duty.Pull 3 ∷ [])
    ∷ (duty.Address 11 ∷ duty.Drop 10 ∷ duty.Pull 3 ∷ [])
    ∷ (duty.Drop 10 ∷ duty.Place 11 3 ∷ duty.Pull 3 ∷ [])
    ∷ (duty.Place 11 3 ∷ duty.Pull 3 ∷ [])
    ∷ (duty.Pull 3 ∷ [])
    ∷ (duty.Apply 3 ∷ [])
    ∷ (duty.Exec 3 10 ∷ duty.Exec 3 11 ∷ duty.Report 3 10 ∷ duty.Report 3 11 ∷ [])
    ∷ (duty.Exec 3 11 ∷ duty.Report 3 10 ∷ duty.Report 3 11 ∷ [])
    ∷ (duty.Report 3 10 ∷ duty.Report 3 11 ∷ [])
    ∷ (duty.Report 3 11 ∷ [])
    ∷ []
    ∷ []
    ∷ (duty.Exec 3 11 ∷ [])
    ∷ (duty.Exec 3 11 ∷ duty.Report 3 11 ∷ [])
    ∷ (duty.Report 3 11 ∷ [])
    ∷ []
    ∷ []
    ∷ []
    ∷ []
    ∷ []
    ∷ []
    ∷ []
    ∷ (duty.Exec 3 11 ∷ [])
    ∷ (duty.Report 3 11 ∷ [])
    ∷ []
    ∷ (duty.Beat 1 ∷ duty.Beat 3 ∷ [])
    ∷ (duty.Beat 3 ∷ [])
    ∷ []
    ∷ (duty.Beat 1 ∷ duty.Beat 3 ∷ [])
    ∷ (duty.Beat 3 ∷ [])
    ∷ []
    ∷ (duty.Expire 2 ∷ [])
    ∷ []
    ∷ (duty.Beat 1 ∷ duty.Beat 3 ∷ [])
    ∷ (duty.Beat 3 ∷ [])
    ∷ []
    ∷ (duty.Finish 6 ∷ duty.Beat 1 ∷ duty.Beat 3 ∷ [])
    ∷ (duty.Trim 10 ∷ duty.Beat 1 ∷ duty.Beat 3 ∷ [])
    ∷ (duty.Beat 1 ∷ duty.Beat 3 ∷ duty.Pull 3 ∷ [])
    ∷ (duty.Beat 3 ∷ duty.Pull 3 ∷ [])
    ∷ []

all_are_due : duties_along empty_world (take 60 finish_and_trim.history) ≡ due
all_are_due = refl
