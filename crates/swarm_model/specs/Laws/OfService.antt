-- A task has its service's goal, and a place of its service's kind.
use Rattle.std.specs.Prelude.{List, ℕ, ◌≡◌}
use Rattle.swarm_model.specs.History.{IsLegal}
use Rattle.swarm_model.specs.Laws.Steps.{EachWorld}
use Rattle.swarm_objects.specs.Rows.{Has}
use Rattle.swarm_objects.specs.Tasks.New.{goal_of}
use Rattle.swarm_objects.specs.Tasks.Places.{place_at}
use Rattle.swarm_objects.specs.World.{Tables, empty_world}
use Rattle.swarm_objects.specs.declared.calls.Entry.{Entry}
use Rattle.swarm_objects.specs.declared.services.Service.{Service}
use Rattle.swarm_objects.specs.declared.tasks.Task.{Task}

-- it runs on or completes, and is of a slot or of a node, as the service's mode wants it
pub record IsOfService (x : Task) (s : Service) : Type 0 where
  pub goal : x.goal ≡ goal_of s.spec.mode
  pub place : (k : ℕ) × (x.place ≡ place_at s.spec.mode k)

-- where its service is there
abbrev pub AreOfServices : Tables → Type 0
AreOfServices t =
    (x : Task) (s : Service) → Has t.tasks x → Has t.services s → x.service ≡ s.id → IsOfService x s

abbrev pub OfServiceLaw : Type 0
OfServiceLaw = (h : List Entry) → IsLegal h → EachWorld (λ w. AreOfServices w.tables) empty_world h
