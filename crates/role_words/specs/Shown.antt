-- What a window shows of the places of a service.
use Rattle.swarm_objects.specs.World.{Tables}
use Rattle.swarm_objects.specs.declared.services.Service.{Service}
use Rattle.swarm_objects.specs.Usable.{IsUsable}
use Rattle.role_words.specs.Windows.{Shows}
use Rattle.role_words.specs.declared.window.Window.{Window}

-- the window shows the service's places in these tables
pub record AreShown (t : Tables) (w : Window) (s : Service) : Type 0 where
  pub usable : IsUsable t
  pub shows : Shows w s t.tasks
