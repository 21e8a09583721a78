-- All duties before each entry: orphan and note.
use Rattle.std.specs.Prelude.{List, [], false, refl, take, ◌∷◌, ◌≡◌}
use Rattle.swarm_model.proofs.Examples.Along.{duties_along}
use Rattle.swarm_model.proofs.Examples.OutOfOrder.OrphanAndNote as orphan_and_note
use Rattle.swarm_objects.specs.World.{empty_world}
use Rattle.swarm_objects.specs.declared.duties.Duty.{Duty}
use Rattle.swarm_objects.specs.declared.duties.Duty.TheVariants as duty

abbrev due : List (List Duty)
due =
    []
    ∷ (duty.Register 1 ∷ [])
    ∷ (duty.Register 1 ∷ [])
    ∷ (duty.Register 1 ∷ [])
    ∷ (duty.Register 1 ∷ [])
    ∷ (
    duty.ReplicatedCreate 4 1
    ∷ duty.Port 4 80 false
    ∷ duty.Port 4 81 false
    ∷ duty.Port 4 82 false
    ∷ duty.Register 1
    ∷ [])
    ∷ (
    duty.ReplicatedCreate 4 1
    ∷ duty.Port 4 80 false
    ∷ duty.Port 4 81 false
    ∷ duty.Port 4 82 false
    ∷ duty.Pull 1
    ∷ [])
    ∷ (
    duty.ReplicatedCreate 4 2
    ∷ duty.Port 4 80 false
    ∷ duty.Port 4 81 false
    ∷ duty.Port 4 82 false
    ∷ duty.Pull 1
    ∷ [])
    ∷ (
    duty.ReplicatedCreate 4 3
    ∷ duty.Port 4 80 false
    ∷ duty.Port 4 81 false
    ∷ duty.Port 4 82 false
    ∷ duty.Pull 1
    ∷ [])
    ∷ (
    duty.ReplicatedCreate 4 3
    ∷ duty.Port 4 80 false
    ∷ duty.Port 4 81 false
    ∷ duty.Port 4 82 false
    ∷ duty.Apply 1
    ∷ [])
    ∷ (duty.Port 4 80 false ∷ duty.Port 4 81 false ∷ duty.Port 4 82 false ∷ duty.Apply 1 ∷ [])
    ∷ (duty.Port 4 80 false ∷ duty.Port 4 81 false ∷ duty.Port 4 82 false ∷ [])
    ∷ (duty.Port 4 81 false ∷ duty.Port 4 82 false ∷ [])
    ∷ (duty.Port 4 82 false ∷ [])
    ∷ (duty.Address 6 ∷ duty.Address 7 ∷ duty.Address 8 ∷ [])
    ∷ (duty.Address 7 ∷ duty.Address 8 ∷ duty.Place 6 1 ∷ [])
    ∷ (duty.Address 7 ∷ duty.Address 8 ∷ duty.Pull 1 ∷ [])
    ∷ (duty.Address 7 ∷ duty.Address 8 ∷ duty.Apply 1 ∷ [])
    ∷ (duty.Address 7 ∷ duty.Address 8 ∷ duty.Apply 1 ∷ [])
    ∷ (duty.Address 7 ∷ duty.Address 8 ∷ duty.Beat 1 ∷ duty.Apply 1 ∷ [])
    ∷ (duty.Address 7 ∷ duty.Address 8 ∷ [])
    ∷ (duty.Address 8 ∷ duty.Place 7 1 ∷ [])
    ∷ (duty.Address 8 ∷ [])
    ∷ (duty.Address 8 ∷ [])
    ∷ (duty.Place 8 1 ∷ [])
    ∷ []
    ∷ (duty.Expire 1 ∷ [])
    ∷ (duty.Restart 6 ∷ duty.Restart 7 ∷ duty.Restart 8 ∷ [])
    ∷ (duty.Restart 6 ∷ duty.Restart 7 ∷ duty.Raise 9 ∷ duty.Address 9 ∷ [])
    ∷ (duty.Restart 6 ∷ duty.Restart 7 ∷ duty.Address 9 ∷ [])
    ∷ (duty.Restart 6 ∷ duty.Raise 10 ∷ duty.Address 9 ∷ duty.Address 10 ∷ [])
    ∷ (duty.Restart 6 ∷ duty.Address 9 ∷ duty.Address 10 ∷ [])
    ∷ (duty.Raise 11 ∷ duty.Address 9 ∷ duty.Address 10 ∷ duty.Address 11 ∷ [])
    ∷ (duty.Address 9 ∷ duty.Address 10 ∷ duty.Address 11 ∷ [])
    ∷ (duty.Address 9 ∷ duty.Address 10 ∷ duty.Explain 11 ∷ [])
    ∷ (duty.Address 9 ∷ duty.Address 10 ∷ [])
    ∷ (duty.Address 9 ∷ duty.Address 10 ∷ [])
    ∷ (duty.Note 10 ∷ duty.Explain 9 ∷ [])
    ∷ (duty.Note 10 ∷ [])
    ∷ []
    ∷ []
    ∷ []
    ∷ []
    ∷ []
    ∷ []
    ∷ []
    ∷ []
    ∷ []
    ∷ []
    ∷ []
    ∷ []
    ∷ []
    ∷ (duty.Orphan 6 ∷ duty.Orphan 7 ∷ duty.Orphan 8 ∷ [])
    ∷ (duty.Orphan 6 ∷ duty.Orphan 8 ∷ duty.Address 10 ∷ duty.Trim 7 ∷ [])
    ∷ (duty.Orphan 6 ∷ duty.Orphan 8 ∷ duty.Address 10 ∷ [])
    ∷ (duty.Orphan 8 ∷ duty.Address 10 ∷ duty.Trim 6 ∷ [])
    ∷ (duty.Orphan 8 ∷ duty.Explain 10 ∷ duty.Trim 6 ∷ [])
    ∷ (duty.Orphan 8 ∷ duty.Trim 6 ∷ [])
    ∷ (duty.Trim 6 ∷ duty.Trim 8 ∷ [])
    ∷ (duty.Trim 8 ∷ [])
    ∷ []

all_are_due : duties_along empty_world (take 60 orphan_and_note.history) ≡ due
all_are_due = refl
