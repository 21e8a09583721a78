-- Whether a port can get a number, and a change of one service.
use Rattle.std.specs.Prelude.{Bool, List, None, Option, Some, [], ◌&&◌, ◌∷◌}
use Rattle.swarm_objects.specs.Loops.Allocator.{has_free_port}
use Rattle.swarm_objects.specs.Services.Ports.{is_unnumbered}
use Rattle.swarm_objects.specs.World.{Tables}
use Rattle.swarm_objects.specs.declared.rows.Change.{Change}
use Rattle.swarm_objects.specs.declared.rows.Change.TheVariants as change
use Rattle.swarm_objects.specs.declared.services.Service.{Service}
use Rattle.swarm_objects.specs.declared.templates.Port.{Port}

-- the port can get a number
abbrev pub gets_number : Tables → Service → Port → Bool
gets_number t s p = is_unnumbered s p && has_free_port t p.udp

-- the change of one service, where it is there
abbrev pub put_service : (Service → Service) → Option Service → List Change
put_service f None = []
put_service f (Some s) = change.PutService (f s) ∷ []
