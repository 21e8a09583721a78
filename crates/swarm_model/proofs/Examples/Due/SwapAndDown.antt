-- All duties before each entry: swap and down.
use Rattle.std.specs.Prelude.{List, [], false, refl, take, true, ◌∷◌, ◌≡◌}
use Rattle.swarm_model.proofs.Examples.Along.{duties_along}
use Rattle.swarm_model.proofs.Examples.OutOfOrder.SwapAndDown as swap_and_down
use Rattle.swarm_objects.specs.World.{empty_world}
use Rattle.swarm_objects.specs.declared.duties.Duty.{Duty}
use Rattle.swarm_objects.specs.declared.duties.Duty.TheVariants as duty

abbrev due : List (List Duty)
due =
    []
    ∷ (duty.Register 1 ∷ [])
    ∷ (duty.Register 1 ∷ [])
    ∷ (duty.Register 1 ∷ [])
    ∷ (duty.Register 1 ∷ [])
    ∷ (duty.Register 1 ∷ [])
    ∷ (duty.Register 1 ∷ [])
    ∷ (duty.ReplicatedCreate 6 1 ∷ duty.Register 1 ∷ [])
    ∷ (duty.ReplicatedCreate 6 1 ∷ duty.Register 1 ∷ [])
    ∷ (duty.ReplicatedCreate 6 1 ∷ duty.Register 1 ∷ [])
    ∷ (duty.ReplicatedCreate 6 2 ∷ duty.Address 7 ∷ duty.Register 1 ∷ [])
    ∷ (duty.ReplicatedCreate 6 3 ∷ duty.Address 7 ∷ duty.Address 8 ∷ duty.Register 1 ∷ [])
    ∷ (duty.ReplicatedCreate 6 4 ∷ duty.Address 7 ∷ duty.Address 8 ∷ duty.Address 9 ∷ duty.Register 1 ∷ [])
    ∷ (duty.Address 7 ∷ duty.Address 8 ∷ duty.Address 9 ∷ duty.Address 10 ∷ duty.Register 1 ∷ [])
    ∷ (duty.Address 8 ∷ duty.Address 9 ∷ duty.Address 10 ∷ duty.Place 7 2 ∷ duty.Register 1 ∷ [])
    ∷ (duty.Address 9 ∷ duty.Address 10 ∷ duty.Place 7 2 ∷ duty.Place 8 2 ∷ duty.Register 1 ∷ [])
    ∷ (duty.Address 10 ∷ duty.Place 7 2 ∷ duty.Place 8 2 ∷ duty.Place 9 2 ∷ duty.Register 1 ∷ [])
    ∷ (duty.Place 7 2 ∷ duty.Place 8 2 ∷ duty.Place 9 2 ∷ duty.Place 10 2 ∷ duty.Register 1 ∷ [])
    ∷ (duty.Place 8 2 ∷ duty.Place 9 2 ∷ duty.Place 10 2 ∷ duty.Register 1 ∷ [])
    ∷ (duty.Explain 9 ∷ duty.Explain 10 ∷ duty.Register 1 ∷ [])
    ∷ (duty.Explain 10 ∷ duty.Register 1 ∷ [])
    ∷ (duty.Register 1 ∷ [])
    ∷ (duty.Pull 1 ∷ [])
    ∷ (duty.Apply 1 ∷ [])
    ∷ []
    ∷ []
    ∷ []
    ∷ []
    ∷ []
    ∷ (duty.Start 6 ∷ duty.Down 6 1 ∷ duty.Port 6 80 false ∷ duty.Port 6 80 true ∷ duty.Port 6 81 false ∷ [])
    ∷ (
    duty.Replace 6 1
    ∷ duty.Replace 6 2
    ∷ duty.Replace 6 3
    ∷ duty.Replace 6 4
    ∷ duty.Down 6 1
    ∷ duty.Port 6 80 false
    ∷ duty.Port 6 80 true
    ∷ duty.Port 6 81 false
    ∷ [])
    ∷ (duty.Down 6 1 ∷ duty.Port 6 80 false ∷ duty.Port 6 80 true ∷ duty.Port 6 81 false ∷ [])
    ∷ (duty.Down 6 1 ∷ duty.Port 6 80 false ∷ duty.Port 6 80 true ∷ duty.Port 6 81 false ∷ [])
    ∷ (
    duty.Replace 6 2
    ∷ duty.Replace 6 3
    ∷ duty.Replace 6 4
    ∷ duty.Down 6 4
    ∷ duty.Port 6 80 false
    ∷ duty.Port 6 80 true
    ∷ duty.Port 6 81 false
    ∷ duty.Drop 12
    ∷ duty.Delete 12
    ∷ [])
    ∷ (
    duty.Down 6 4
    ∷ duty.Port 6 80 false
    ∷ duty.Port 6 80 true
    ∷ duty.Port 6 81 false
    ∷ duty.Drop 12
    ∷ duty.Delete 12
    ∷ [])
    ∷ (
    duty.Down 6 3
    ∷ duty.Port 6 80 false
    ∷ duty.Port 6 80 true
    ∷ duty.Port 6 81 false
    ∷ duty.Drop 10
    ∷ duty.Drop 12
    ∷ duty.Delete 10
    ∷ duty.Delete 12
    ∷ [])
    ∷ (
    duty.Port 6 80 false
    ∷ duty.Port 6 80 true
    ∷ duty.Port 6 81 false
    ∷ duty.Drop 9
    ∷ duty.Drop 10
    ∷ duty.Drop 12
    ∷ duty.Delete 9
    ∷ duty.Delete 10
    ∷ duty.Delete 12
    ∷ [])
    ∷ (
    duty.Port 6 80 true
    ∷ duty.Port 6 81 false
    ∷ duty.Drop 9
    ∷ duty.Drop 10
    ∷ duty.Drop 12
    ∷ duty.Delete 9
    ∷ duty.Delete 10
    ∷ duty.Delete 12
    ∷ [])
    ∷ (
    duty.Port 6 81 false
    ∷ duty.Drop 9
    ∷ duty.Drop 10
    ∷ duty.Drop 12
    ∷ duty.Delete 9
    ∷ duty.Delete 10
    ∷ duty.Delete 12
    ∷ [])
    ∷ (
    duty.Address 13
    ∷ duty.Drop 9
    ∷ duty.Drop 10
    ∷ duty.Drop 12
    ∷ duty.Delete 9
    ∷ duty.Delete 10
    ∷ duty.Delete 12
    ∷ [])
    ∷ (
    duty.Drop 9
    ∷ duty.Drop 10
    ∷ duty.Drop 12
    ∷ duty.Place 13 2
    ∷ duty.Delete 9
    ∷ duty.Delete 10
    ∷ duty.Delete 12
    ∷ [])
    ∷ (duty.Drop 10 ∷ duty.Drop 12 ∷ duty.Place 13 2 ∷ duty.Delete 9 ∷ duty.Delete 10 ∷ duty.Delete 12 ∷ [])
    ∷ (duty.Drop 12 ∷ duty.Place 13 2 ∷ duty.Delete 9 ∷ duty.Delete 10 ∷ duty.Delete 12 ∷ [])
    ∷ (duty.Place 13 2 ∷ duty.Delete 9 ∷ duty.Delete 10 ∷ duty.Delete 12 ∷ [])
    ∷ (duty.Delete 9 ∷ duty.Delete 10 ∷ duty.Delete 12 ∷ [])
    ∷ (duty.Delete 10 ∷ duty.Delete 12 ∷ [])
    ∷ (duty.Delete 12 ∷ [])
    ∷ []
    ∷ []
    ∷ []
    ∷ []
    ∷ []
    ∷ []
    ∷ []
    ∷ (duty.Delete 7 ∷ [])
    ∷ []
    ∷ (duty.Swap 6 2 ∷ [])
    ∷ []
    ∷ []
    ∷ []
    ∷ []

all_are_due : duties_along empty_world (take 60 swap_and_down.history) ≡ due
all_are_due = refl
