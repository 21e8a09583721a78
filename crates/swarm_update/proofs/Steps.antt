-- First duties, and counts.
use Rattle.std.proofs.Common.{◌≡◌, ℕ, Bool, true, List, [], ◌∷◌, Option, Some, None, map, refl, sym, ap, ◌∙◌}
use Rattle.std.specs.Option.{option_map}
use Rattle.std.specs.Prelude.{filter}
use Rattle.swarm_objects.specs.Loops.Words.{places_where}
use Rattle.swarm_objects.specs.Rows.{first_of}
use Rattle.swarm_objects.specs.declared.duties.Duty.{Duty}
use Rattle.swarm_objects.proofs.Few.{few_among}
use Rattle.swarm_objects.proofs.WalkLemmas.{count_by_no, count_by_yes, first_left, first_right}

pub ruleset first_steps = (first_left, first_right)

pub ruleset failure_steps = (count_by_yes, count_by_no, few_among)

-- The duty on the first place that passes.

first_mapped : (f : ℕ → Duty) (ks : List ℕ) → option_map f (first_of ks) ≡ first_of (map f ks)
first_mapped f [] = refl
first_mapped f (k ∷ ks) = refl

first_where : (f : ℕ → Duty) (p : ℕ → Bool) (ks : List ℕ) (may : Bool) → may ≡ true
    → option_map f (first_of (filter p ks)) ≡ first_of (places_where may p f ks)
first_where f p ks may is =
    first_mapped f (filter p ks) ∙ ap (λ b. first_of (places_where b p f ks)) (sym is)

pub place_found : (f : ℕ → Duty) (p : ℕ → Bool) (ks : List ℕ) (may : Bool) (o : Option ℕ) (k : ℕ) → may ≡ true
    → o ≡ Some k → o ≡ first_of (filter p ks) → Some (f k) ≡ first_of (places_where may p f ks)
place_found f p ks may o k is some first =
    ap (option_map f) (sym some ∙ first) ∙ first_where f p ks may is

pub place_none : (f : ℕ → Duty) (p : ℕ → Bool) (ks : List ℕ) (may : Bool) (o : Option ℕ) → may ≡ true
    → o ≡ None → o ≡ first_of (filter p ks) → None ≡ first_of (places_where may p f ks)
place_none f p ks may o is none first =
    ap (option_map f) (sym none ∙ first) ∙ first_where f p ks may is

pub ruleset first_places = (place_found, place_none)
