-- Counting places that are dirty, and the first of those that pass.
use Rattle.std.proofs.Common.{◌≡◌, ℕ, Bool, true, false, cond, List, [], ◌∷◌, refl}
use Rattle.std.specs.List.{list_any}
use Rattle.std.specs.Prelude.{◌||◌, filter, is_some}
use Rattle.swarm_objects.proofs.Few.{few_numbers, length_no, length_yes}
use Rattle.swarm_objects.specs.Rows.{first_of}

-- one that passes is a first one
pub any_first : (p : ℕ → Bool) (ks : List ℕ) → is_some (first_of (filter p ks)) ≡ list_any p ks
any_first p [] = refl
any_first p (k ∷ ks) = go (p k) (any_first p ks)
  where
    go : (b : Bool) → is_some (first_of (filter p ks)) ≡ list_any p ks
        → is_some (first_of (cond b (k ∷ filter p ks) (filter p ks))) ≡ (b || list_any p ks)
    go true e = refl
    go false e = e

pub ruleset count_steps = (few_numbers, length_yes, length_no)
