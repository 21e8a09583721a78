-- A free number.
use Rattle.std.proofs.Common.{Bool, List, None, Some, cond, false, subst, sym, true, ℕ, ◌≡◌}
use Rattle.std.specs.Prelude.{nat_le}
use Rattle.swarm_objects.proofs.Gaps.{first_gap-free}
use Rattle.swarm_objects.proofs.Rising.{rising-has, rising-rises}
use Rattle.swarm_objects.specs.Rows.{Has, first_free, first_gap, rising}
pub use Rattle.swarm_objects.proofs.Tests.{any-has, has-any, never-both}

-- a free number is none of those that are taken
pub first-free : (low high : ℕ) (taken : List ℕ) (k : ℕ) → first_free low high taken ≡ Some k → ¬ (Has taken k)
first-free low high taken k e h = go (nat_le (first_gap low (rising taken)) high) e
  where
    go : (b : Bool) → cond b (Some (first_gap low (rising taken))) None ≡ Some k → ⊥
    go true same =
        let is : first_gap low (rising taken) ≡ k = cc in
        first_gap-free low (rising taken) (rising-rises taken)
        (subst (λ (n : ℕ). Has (rising taken) n) (sym is) (rising-has taken k h))
    go false same = absurd cc
