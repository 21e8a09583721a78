-- Words for lists of duties.
use Rattle.std.specs.Prelude.{Bool, List, [], false, true, ◌∷◌, filter, map, ℕ}
use Rattle.swarm_objects.specs.declared.duties.Duty.{Duty}

-- a duty where the test holds
abbrev pub when : Bool → Duty → List Duty
when true d = d ∷ []
when false d = []

-- a duty for each row that passes
abbrev pub duty_where : {X : Type 0} → (X → Bool) → (X → Duty) → List X → List Duty
duty_where test duty_of rows = map duty_of (filter test rows)

abbrev pub places_where : Bool → (ℕ → Bool) → (ℕ → Duty) → List ℕ → List Duty
places_where true test duty_of numbers = duty_where test duty_of numbers
places_where false test duty_of numbers = []
