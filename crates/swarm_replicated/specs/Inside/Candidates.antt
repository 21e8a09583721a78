-- Places of a service that may be given up.
use Rattle.std.specs.Ordering.{nat_cmp, ordering_then}
use Rattle.std.specs.Prelude.{ℕ}
use Rattle.std.specs.declared.cmp.Ordering.{Ordering}
use Rattle.swarm_objects.specs.Kinds.{bit}
use Rattle.swarm_objects.specs.World.{Tables}
use Rattle.swarm_objects.specs.declared.services.Service.{Service}
use Rattle.swarm_replicated.specs.Inside.Weights.{weight_of}
use Rattle.swarm_replicated.specs.declared.order.Candidate.{Candidate}

-- the place with this number
abbrev pub candidate : Tables → Service → ℕ → Candidate
candidate t s k = record { number = k; weight = weight_of t s k }

-- which of two goes first, by what was found of them
abbrev pub candidate_cmp : Candidate → Candidate → Ordering
candidate_cmp a b =
    ordering_then (nat_cmp (bit a.weight.is_up) (bit b.weight.is_up))
    (ordering_then (nat_cmp b.weight.crowd a.weight.crowd) (nat_cmp b.number a.number))
