-- All duties before each entry: fail and down.
use Rattle.std.specs.Prelude.{List, [], refl, take, ◌∷◌, ◌≡◌}
use Rattle.swarm_model.proofs.Examples.Along.{duties_along}
use Rattle.swarm_model.proofs.Examples.OutOfOrder.FailAndDown as fail_and_down
use Rattle.swarm_objects.specs.World.{empty_world}
use Rattle.swarm_objects.specs.declared.duties.Duty.{Duty}
use Rattle.swarm_objects.specs.declared.duties.Duty.TheVariants as duty

abbrev due : List (List Duty)
due =
    []
    ∷ (duty.Register 1 ∷ [])
    ∷ (duty.Register 1 ∷ [])
    ∷ (duty.Register 1 ∷ [])
    ∷ (duty.Register 1 ∷ [])
    ∷ (duty.Register 1 ∷ [])
    ∷ (duty.Register 1 ∷ [])
    ∷ (duty.ReplicatedCreate 6 1 ∷ duty.Register 1 ∷ [])
    ∷ (duty.ReplicatedCreate 6 2 ∷ duty.Address 7 ∷ duty.Register 1 ∷ [])
    ∷ (duty.ReplicatedCreate 6 2 ∷ duty.Place 7 2 ∷ duty.Register 1 ∷ [])
    ∷ (duty.ReplicatedCreate 6 2 ∷ duty.Place 7 1 ∷ duty.Pull 1 ∷ [])
    ∷ (duty.ReplicatedCreate 6 2 ∷ duty.Pull 1 ∷ [])
    ∷ (duty.Address 9 ∷ duty.Pull 1 ∷ [])
    ∷ (duty.Address 9 ∷ duty.Apply 1 ∷ [])
    ∷ (duty.Place 9 2 ∷ duty.Apply 1 ∷ [])
    ∷ (duty.Apply 1 ∷ [])
    ∷ (duty.Exec 1 7 ∷ duty.Report 1 7 ∷ [])
    ∷ (duty.Report 1 7 ∷ [])
    ∷ []
    ∷ []
    ∷ []
    ∷ (duty.Start 6 ∷ duty.ReplicatedCreate 6 3 ∷ [])
    ∷ (duty.Replace 6 1 ∷ duty.Replace 6 2 ∷ duty.ReplicatedCreate 6 3 ∷ [])
    ∷ (duty.ReplicatedCreate 6 3 ∷ duty.Address 10 ∷ [])
    ∷ (duty.Address 10 ∷ duty.Address 11 ∷ [])
    ∷ (duty.Address 11 ∷ duty.Place 10 1 ∷ [])
    ∷ (duty.Place 10 1 ∷ duty.Place 11 1 ∷ [])
    ∷ (duty.Place 10 2 ∷ duty.Pull 1 ∷ [])
    ∷ (duty.Pull 1 ∷ [])
    ∷ (duty.Apply 1 ∷ [])
    ∷ (duty.Exec 1 11 ∷ duty.Report 1 11 ∷ [])
    ∷ (duty.Exec 1 11 ∷ [])
    ∷ (duty.Report 1 11 ∷ [])
    ∷ []
    ∷ (duty.Exec 1 7 ∷ duty.Exec 1 11 ∷ [])
    ∷ (duty.Exec 1 7 ∷ duty.Report 1 11 ∷ [])
    ∷ (duty.Exec 1 7 ∷ duty.Report 1 7 ∷ duty.Report 1 11 ∷ [])
    ∷ (duty.Restart 11 ∷ duty.Exec 1 7 ∷ duty.Report 1 7 ∷ [])
    ∷ (duty.Restart 11 ∷ duty.Exec 1 7 ∷ [])
    ∷ (duty.Address 12 ∷ duty.Pull 1 ∷ duty.Exec 1 7 ∷ [])
    ∷ (duty.Address 12 ∷ duty.Pull 1 ∷ duty.Report 1 7 ∷ [])
    ∷ (duty.Place 12 1 ∷ duty.Pull 1 ∷ duty.Report 1 7 ∷ [])
    ∷ (duty.Pull 1 ∷ duty.Report 1 7 ∷ [])
    ∷ (duty.Apply 1 ∷ duty.Report 1 7 ∷ [])
    ∷ (duty.Exec 1 12 ∷ duty.Report 1 7 ∷ duty.Report 1 12 ∷ [])
    ∷ (duty.Exec 1 12 ∷ duty.Report 1 7 ∷ [])
    ∷ (duty.Exec 1 12 ∷ [])
    ∷ (duty.Report 1 12 ∷ [])
    ∷ []
    ∷ (duty.Exec 1 7 ∷ duty.Exec 1 12 ∷ [])
    ∷ (duty.Exec 1 12 ∷ duty.Report 1 7 ∷ [])
    ∷ (duty.Report 1 7 ∷ duty.Report 1 12 ∷ [])
    ∷ (duty.Report 1 12 ∷ [])
    ∷ (duty.Restart 12 ∷ duty.Fail 6 ∷ [])
    ∷ (duty.Restart 12 ∷ duty.Replace 6 3 ∷ duty.Down 6 3 ∷ [])
    ∷ (duty.Delete 11 ∷ duty.Delete 12 ∷ duty.Pull 1 ∷ [])
    ∷ (duty.Delete 11 ∷ duty.Pull 1 ∷ [])
    ∷ (duty.Pull 1 ∷ [])
    ∷ (duty.Apply 1 ∷ [])
    ∷ (duty.Forget 1 11 ∷ duty.Forget 1 12 ∷ [])
    ∷ []

all_are_due : duties_along empty_world (take 60 fail_and_down.history) ≡ due
all_are_due = refl
