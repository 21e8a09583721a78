-- Tasks that may make a place dirty.
use Rattle.std.specs.Prelude.{Bool, ◌&&◌, ◌||◌}
use Rattle.swarm_objects.specs.Services.Words.{is_dirty}
use Rattle.swarm_objects.specs.Tasks.Places.{closes}
use Rattle.swarm_objects.specs.Tasks.Words.{is_live}
use Rattle.swarm_objects.specs.declared.services.Service.{Service}
use Rattle.swarm_objects.specs.declared.tasks.Task.{Task}

-- the task may make its place dirty: it is dirty, and live or closes the place
abbrev pub is_suspect : Service → Task → Bool
is_suspect s x = (is_live x || closes x) && is_dirty s x
