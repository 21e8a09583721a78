use Rattle.std.proofs.Common.{◌≡◌, Bool, ℕ, drop}
use Rattle.std.specs.Prelude.{find, not}
use Rattle.swarm_objects.specs.Nodes.Filters.{passes}
use Rattle.swarm_filters.proofs.refusals.first_refusing.Given as goal

abbrev pub invariant-loop-filter : goal.invariant-loop-filter
invariant-loop-filter g l =
    let refuses : ℕ → Bool = λ k. not (passes (g.R.Rows.tables l.rows) l.task l.node k) in
    find refuses (drop l.filter-index l.filters) ≡ find refuses l.filters
