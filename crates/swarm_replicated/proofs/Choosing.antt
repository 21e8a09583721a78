-- The first place to go, found among candidates.
use Rattle.std.proofs.Common.{List, Option, ℕ, ◌≡◌}
use Rattle.std.specs.Option.{option_map}
use Rattle.swarm_objects.specs.Loops.Replicated.{down_cmp, first_to_go}
use Rattle.swarm_objects.specs.Rows.{least_by}
use Rattle.swarm_objects.specs.World.{Tables}
use Rattle.swarm_objects.specs.declared.services.Service.{Service}
use Rattle.swarm_replicated.specs.Inside.Candidates.{candidate}
use Rattle.swarm_replicated.specs.declared.order.Candidate.{Candidate}

-- the best place so far, where these are left
pub record IsFirst (t : Tables) (s : Service) (first : Option Candidate) (left : List ℕ) : Type 0 where
  pub number : Option ℕ
  pub stands : first ≡ option_map (candidate t s) number
  pub rest : least_by (down_cmp t s) number left ≡ first_to_go t s
