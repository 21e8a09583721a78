-- All duties before each entry: finish and leave.
use Rattle.std.specs.Prelude.{List, [], refl, take, ◌∷◌, ◌≡◌}
use Rattle.swarm_model.proofs.Examples.Along.{duties_along}
use Rattle.swarm_model.proofs.Examples.OutOfOrder.FinishAndLeave as finish_and_leave
use Rattle.swarm_objects.specs.World.{empty_world}
use Rattle.swarm_objects.specs.declared.duties.Duty.{Duty}
use Rattle.swarm_objects.specs.declared.duties.Duty.TheVariants as duty

abbrev due : List (List Duty)
due =
    []
    ∷ (duty.Register 1 ∷ [])
    ∷ (duty.Register 1 ∷ [])
    ∷ (duty.Register 1 ∷ [])
    ∷ (duty.Register 1 ∷ [])
    ∷ (duty.Pull 1 ∷ [])
    ∷ (duty.Pull 1 ∷ [])
    ∷ (duty.Apply 1 ∷ [])
    ∷ []
    ∷ []
    ∷ []
    ∷ []
    ∷ []
    ∷ []
    ∷ []
    ∷ []
    ∷ []
    ∷ []
    ∷ []
    ∷ (duty.Beat 1 ∷ [])
    ∷ (duty.Beat 1 ∷ [])
    ∷ []
    ∷ []
    ∷ []
    ∷ (duty.GlobalCreate 2 4 ∷ [])
    ∷ (duty.Address 6 ∷ [])
    ∷ (duty.Place 6 4 ∷ [])
    ∷ []
    ∷ []
    ∷ (duty.Beat 1 ∷ [])
    ∷ (duty.Beat 1 ∷ [])
    ∷ []
    ∷ []
    ∷ []
    ∷ []
    ∷ []
    ∷ []
    ∷ []
    ∷ []
    ∷ []
    ∷ []
    ∷ []
    ∷ []
    ∷ []
    ∷ []
    ∷ []
    ∷ []
    ∷ []
    ∷ (duty.Start 2 ∷ duty.Leave 2 4 ∷ [])
    ∷ (duty.Replace 2 4 ∷ duty.Leave 2 4 ∷ [])
    ∷ (duty.Leave 2 4 ∷ duty.Address 8 ∷ [])
    ∷ (duty.Drop 8 ∷ duty.Delete 8 ∷ [])
    ∷ (duty.Delete 8 ∷ [])
    ∷ []
    ∷ (duty.Finish 2 ∷ [])
    ∷ []
    ∷ (duty.Delete 6 ∷ [])
    ∷ []
    ∷ []
    ∷ []
    ∷ []

all_are_due : duties_along empty_world (take 60 finish_and_leave.history) ≡ due
all_are_due = refl
