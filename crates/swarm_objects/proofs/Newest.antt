-- The last of a list, and the newest task.
use Rattle.std.proofs.Common.{List, None, Option, Some, [], inl, inr, refl, ◌++◌, ◌∷◌, ◌≡◌, ◌⊎◌}
use Rattle.std.specs.List.{last_or}
use Rattle.swarm_objects.specs.Rows.{Has}
use Rattle.swarm_objects.specs.Tasks.Places.{newest}
use Rattle.swarm_objects.specs.declared.tasks.Task.{Task}

pub last_has : {X : Type 0} (o : Option X) (xs : List X) (y : X) → last_or o xs ≡ Some y → (o ≡ Some y) ⊎ Has xs y
last_has o [] y e = inl e
last_has o (x ∷ xs) y e = elim (last_has (Some x) xs y e) [ inl here ↦ inr (inl cc) | inr below ↦ inr (inr below) ]

pub last_last : {X : Type 0} (o : Option X) (xs : List X) (x : X) → last_or o (xs ++ x ∷ []) ≡ Some x
last_last o [] x = refl
last_last o (y ∷ ys) x = last_last (Some y) ys x

pub newest_has : (xs : List Task) (z : Task) → newest xs ≡ Some z → Has xs z
newest_has xs z e = go (last_has None xs z e)
  where
    go : (None ≡ Some z) ⊎ Has xs z → Has xs z
    go (inl k) = absurd cc
    go (inr h) = h
