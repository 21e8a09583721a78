-- The first of what is left, where a number is passed over.
use Rattle.std.proofs.Common.{◌≡◌, ℕ, Bool, false, cond, List, ◌∷◌, Option, map, sym, ap, ◌∙◌}
use Rattle.std.specs.Prelude.{filter}
use Rattle.swarm_objects.specs.Rows.{first_of}
use Rattle.swarm_objects.specs.declared.duties.Duty.{Duty}

pub passed_over : (f : ℕ → Duty) (p : ℕ → Bool) (left rest : List ℕ) (k : ℕ) (first : Option Duty) → left ≡ k ∷ rest
    → p k ≡ false → first_of (map f (filter p left)) ≡ first → first_of (map f (filter p rest)) ≡ first
passed_over f p left rest k first e no' is =
    sym (ap (λ ks. first_of (map f (filter p ks))) e
    ∙ ap (λ b. first_of (map f (cond b (k ∷ filter p rest) (filter p rest)))) no')
    ∙ is
