-- Items of a list that are alike.
use Rattle.std.proofs.Common.{◌≡◌, Bool, true, false, List, ◌∷◌, ap}
use Rattle.std.specs.Prelude.{◌||◌}
use Rattle.std.specs.List.{list_any}
use Rattle.swarm_objects.specs.Rules.Services.{has_alike}

-- the first is like no later one
pub has_alike-passed : {X : Type 0} (alike : X → X → Bool) (x : X) (xs : List X) → list_any (alike x) xs ≡ false → has_alike alike (x ∷ xs) ≡ has_alike alike xs
has_alike-passed alike x xs none = ap (λ b. b || has_alike alike xs) none

-- the first is like a later one
pub has_alike-found : {X : Type 0} (alike : X → X → Bool) (x : X) (xs : List X) → list_any (alike x) xs ≡ true → has_alike alike (x ∷ xs) ≡ true
has_alike-found alike x xs some = ap (λ b. b || has_alike alike xs) some

pub ruleset alike_steps = (has_alike-passed, has_alike-found)
